use Rattle.std.proofs.Common.{subst}
use Rattle.nix_values.specs.IndexedAttributes.{IsInserted}
use Rattle.nix_values.proofs.OrderedLemmas.{on_ok_then}
use Rattle.nix_values.proofs.AttributeInsertLemmas.{inserted_same}
use Rattle.nix_values.proofs.attributes.Attributes.insert.Goals as goal
use Rattle.nix_values.proofs.attributes.Attributes.insert.Goals.{then-not-has_room+in_ok-grow, else-not-has_room}

pub returns-clause-inserted : goal.returns-clause-inserted
returns-clause-inserted g c =
    let keys = g.V.Values.keys c.args.values.now in
    let a = c.args in
    elim c.if-not-has_room.branch [
      | then-not-has_room+in_ok-grow w ↦
          on_ok_then c.put.result _ _
          (λ i. inserted_same keys a.self.now w.grow.new.self c.put.new.self a.set a.name.now a.number c.requires.sound w.in_ok-grow.ensures.grown
          (subst (λ x. IsInserted keys x a.set a.name.now a.number c.put.new.self) w.self-is i))
          c.put.ensures.inserted
      | else-not-has_room w ↦
          on_ok_then c.put.result _ _ (λ i. subst (λ x. IsInserted keys x a.set a.name.now a.number c.put.new.self) w.self-is i) c.put.ensures.inserted
    ]
