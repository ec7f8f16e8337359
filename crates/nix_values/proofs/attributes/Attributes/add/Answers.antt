use Rattle.std.proofs.Common.{sym, refl}
use Rattle.nix_values.proofs.AttributeInsertLemmas.{added_free, added_crowded}
use Rattle.nix_values.proofs.attributes.Attributes.add.Goals as goal

pub returns-else-not-add : goal.returns-else-not-add
returns-else-not-add g c =
    added_free (g.V.Values.keys c.args.values.now) c.args.self.now (record { slots = c.add.new.self; crowded = c.args.self.now.crowded })
    c.args.number c.args.hash
    c.requires.sound c.requires.hash c.requires.number (c.add.ensures.added c.if-not-add.false) refl

pub returns-in_ok-insert : goal.returns-in_ok-insert
returns-in_ok-insert g c =
    let kept = c.add.ensures.kept c.if-not-add.true in
    added_crowded (g.V.Values.keys c.args.values.now) c.args.self.now (record { slots = c.add.new.self; crowded = c.insert.new.self }) c.args.number c.args.hash
    c.in-Some.set c.in-Some.name.now c.requires.sound c.requires.hash c.requires.number c.requires.other kept.spot kept.same
    (sym c.in-Some.ensures) c.in_ok-insert.ensures.inserted
