use Rattle.std.proofs.Common.{◌∙◌, sym, refl, subst}
use Rattle.nix_values.specs.HashSlots.{IsPut}
use Rattle.nix_values.proofs.OrderedLemmas.{on_err}
use Rattle.nix_values.proofs.AttributePutLemmas.{same_crowded}
use Rattle.nix_values.proofs.AttributeInsertLemmas.{inserted_free, inserted_taken, inserted_crowded}
use Rattle.nix_values.proofs.attributes.Attributes.put.Goals as goal

pub returns-in_err-insert-in-Crowded-clause-kept : goal.returns-in_err-insert-in-Crowded-clause-kept
returns-in_err-insert-in-Crowded-clause-kept g c =
    on_err c.from_residual.result _
    (same_crowded (g.V.Values.keys c.args.values.now) c.args.self.now (record { slots = c.args.self.now.slots; crowded = c.insert.new.self })
    c.requires.sound refl c.in_err-insert-in-Crowded.ensures.kept)

pub returns-in_ok-insert-in-Crowded-clause-inserted : goal.returns-in_ok-insert-in-Crowded-clause-inserted
returns-in_ok-insert-in-Crowded-clause-inserted g c = λ later more key.
    inserted_crowded (g.V.Values.keys c.args.values.now) later c.args.self.now (record { slots = c.args.self.now.slots; crowded = c.insert.new.self })
    c.args.set c.args.name.now c.args.number c.requires.sound more c.requires.number key
    (sym c.probe.ensures ∙ c.in-Crowded.is) refl c.in_ok-insert-in-Crowded.ensures.inserted

pub returns-in-Taken-clause-inserted : goal.returns-in-Taken-clause-inserted
returns-in-Taken-clause-inserted g c = λ later more key.
    inserted_taken (g.V.Values.keys c.args.values.now) later c.args.self.now (record { slots = c.put.new.self; crowded = c.args.self.now.crowded })
    c.args.set c.args.name.now c.args.number c.requires.sound more c.requires.number key
    c.in-Taken.at _ (sym c.probe.ensures ∙ c.in-Taken.is)
    (subst (λ h. IsPut c.args.self.now.slots c.in-Taken.at h c.args.number c.put.new.self) c.hash_of-hash.ensures c.put.ensures) refl

pub returns-in-Free-clause-inserted : goal.returns-in-Free-clause-inserted
returns-in-Free-clause-inserted g c = λ later more key.
    inserted_free (g.V.Values.keys c.args.values.now) later c.args.self.now (record { slots = c.put-in-Free.new.self; crowded = c.args.self.now.crowded })
    c.args.set c.args.name.now c.args.number c.requires.sound more c.requires.number key
    c.in-Free.at (sym c.probe.ensures ∙ c.in-Free.is)
    (subst (λ h. IsPut c.args.self.now.slots c.in-Free.at h c.args.number c.put-in-Free.new.self) c.hash_of-hash.ensures c.put-in-Free.ensures) refl
