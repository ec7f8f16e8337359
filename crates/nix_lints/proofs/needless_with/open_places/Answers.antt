use Rattle.nix_lints.proofs.OpenLemmas.{places_more}
use Rattle.nix_lints.proofs.needless_with.open_places.Goals as goal

pub loop-reference-preserved : goal.loop-reference-preserved
loop-reference-preserved c =
    places_more c.args.references.now c.loop-reference.reference-index c.reference-item.result c.loop-reference.places c.add_open.new.places
    c.loop-reference-test.true c.reference-item.is c.loop-reference.invariant c.in_ok-add_open.ensures
