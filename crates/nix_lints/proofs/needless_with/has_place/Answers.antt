use Rattle.std.proofs.Common.{◌∙◌, sym}
use Rattle.rnix_green.specs.Range.{bounds_of}
use Rattle.nix_lints.proofs.OpenLemmas.{none_within, some_within}
use Rattle.nix_lints.proofs.needless_with.has_place.Goals as goal

pub returns-in-Some : goal.returns-in-Some
returns-in-Some c =
    sym (some_within (bounds_of c.args.range) c.start.result c.end.result c.args.places.now.keys c.in-Some.field-0.now c.next.new.self c.start.ensures
    c.end.ensures.value (sym (c.range.ensures.between tt) ∙ c.in-Some.ensures.steps))

pub returns-in-None : goal.returns-in-None
returns-in-None c =
    sym (none_within (bounds_of c.args.range) c.start.result c.end.result c.args.places.now.keys c.start.ensures c.end.ensures.value
    (sym (c.range.ensures.between tt) ∙ c.in-None.ensures.steps.0))
