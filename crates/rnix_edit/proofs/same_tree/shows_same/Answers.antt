use Rattle.std.proofs.Common.{◌≡◌, sym, subst}
use Rattle.std.specs.Bool.{Decides}
use Rattle.rnix_tree.specs.{Spots.event_of, WalksAlike.shown_of}
use Rattle.rnix_edit.specs.ShownEvents.{shown_by}
use Rattle.rnix_edit.proofs.SameTreeLemmas.{same_shown_decides}
use Rattle.rnix_edit.proofs.same_tree.shows_same.Goals as goal

pub returns : goal.returns
returns c =
    let a = shown_by c.shown.result in
    let b = shown_by c.shown-2.result in
    subst (λ shown. Decides c.same_shown.result (shown ≡ shown_of (event_of c.args.other.now))) c.shown.ensures
    (subst (λ shown. Decides c.same_shown.result (a ≡ shown)) c.shown-2.ensures
    (subst (λ same. Decides same (a ≡ b)) (sym c.same_shown.ensures) (same_shown_decides a b)))
