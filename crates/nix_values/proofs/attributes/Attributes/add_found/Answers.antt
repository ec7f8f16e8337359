use Rattle.std.proofs.Common.{sym}
use Rattle.nix_values.proofs.AttributeLemmas.{found_number}
use Rattle.nix_values.proofs.AttributeGrowthLemmas.{found_none, found_added, found_other_key}
use Rattle.nix_values.proofs.attributes.Attributes.add_found.Goals as goal

pub add-requires-clause-number : goal.add-requires-clause-number
add-requires-clause-number g c =
    found_number (g.V.Values.keys c.args.values.now) c.args.from.now c.in-Some.set c.in-Some.name.now c.args.number c.requires.others
    (c.finds.ensures.found c.if-finds.true)

pub returns-in_ok-add : goal.returns-in_ok-add
returns-in_ok-add g c =
    found_added (g.V.Values.keys c.args.values.now) c.args.from.now c.args.self.now c.add.new.self c.args.number c.in-Some.set c.in-Some.name.now
    c.requires.others c.requires.within (sym c.in-Some.ensures) (c.finds.ensures.found c.if-finds.true) c.in_ok-add.ensures

pub returns-else-finds : goal.returns-else-finds
returns-else-finds g c =
    found_none (g.V.Values.keys c.args.values.now) c.args.from.now c.args.self.now c.args.number c.requires.sound c.requires.within
    (found_other_key (g.V.Values.keys c.args.values.now) c.args.from.now c.args.number c.in-Some.set c.in-Some.name.now c.requires.others
    (sym c.in-Some.ensures) (c.finds.ensures.other c.if-finds.false))
