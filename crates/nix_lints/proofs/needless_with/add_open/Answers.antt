use Rattle.std.proofs.Common.{◌≡◌, ◌∙◌, ap, sym, rules}
use Rattle.std.specs.Prelude.{◌||◌, ◌&&◌}
use Rattle.std.specs.List.{list_any}
use Rattle.rnix_green.specs.Tree.{extent_of}
use Rattle.nix_lints.proofs.OpenLemmas.{any_inserted}
use Rattle.nix_lints.proofs.needless_with.add_open.Goals as goal

pub returns-in_ok-insert : goal.returns-in_ok-insert
returns-in_ok-insert c = λ test.
    let keys = c.args.places.now.keys in
    let place = (extent_of c.args.reference.now.node).start in
    let same : c.start.result ≡ place = search rules in
    ap (list_any test) c.in_ok-insert.ensures.keys ∙ any_inserted test keys c.start.result
    ∙ ap (λ at. list_any test keys || test at) same
    ∙ sym (ap (λ is. list_any test keys || (is && test place)) c.if-reference.true)
