use Rattle.std.proofs.Common.{◌≡◌, sym, subst, ◌∙◌}
use Rattle.std.proofs.lemmas.Bool.{false≢true}
use Rattle.std.specs.Bool.{Decides}
use Rattle.rnix_edit.specs.Steps.{steps_of, steps_after, AreCommentsTaken}
use Rattle.rnix_edit.proofs.CheckLemmas.{after_remaining, after_tested}
use Rattle.rnix_edit.proofs.check.is_after.Goals as goal

pub returns-then-takes_comments : goal.returns-then-takes_comments
returns-then-takes_comments c =
    let root = c.args.root.now in
    let other = c.args.other.now in
    let remaining = steps_of c.takes_comments.new.events in
    let comes : AreCommentsTaken c.takes_comments.result c.args.comments (steps_after c.args.old root) remaining =
    subst (λ steps. AreCommentsTaken c.takes_comments.result c.args.comments steps remaining)
    (after_remaining c.args.old root _ _ c.preorder_with_tokens-old_walk.ensures.walk c.skip_node.ensures.rest) c.takes_comments.ensures in
    let same : Decides c.are_same_walks.result (remaining ≡ steps_after c.args.new other) =
    subst (λ steps. Decides c.are_same_walks.result (remaining ≡ steps))
    (after_remaining c.args.new other _ _ c.preorder_with_tokens-new_walk.ensures.walk c.skip_node-2.ensures.rest) c.are_same_walks.ensures in
    after_tested root c.args.old c.args.comments other c.args.new _ _ remaining (c.is_with.ensures.0 c.if-not-is_with.false) comes c.if-takes_comments.true same

pub returns-else-takes_comments : goal.returns-else-takes_comments
returns-else-takes_comments c =
    let root = c.args.root.now in
    let remaining = steps_of c.takes_comments.new.events in
    let comes : AreCommentsTaken c.takes_comments.result c.args.comments (steps_after c.args.old root) remaining =
    subst (λ steps. AreCommentsTaken c.takes_comments.result c.args.comments steps remaining)
    (after_remaining c.args.old root _ _ c.preorder_with_tokens-old_walk.ensures.walk c.skip_node.ensures.rest) c.takes_comments.ensures in
    (λ is. absurd (false≢true (sym c.if-takes_comments.false ∙ is)), λ h. comes.found (h.fits, h.are_comments))
