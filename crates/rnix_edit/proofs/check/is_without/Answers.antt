use Rattle.std.proofs.Common.{◌≡◌, true, ap, sym, subst, ◌∙◌}
use Rattle.std.proofs.lemmas.Bool.{false≢true}
use Rattle.rnix_edit.specs.Steps.{steps_of, steps_in, events_before, events_inside, steps_before, steps_after, AreTaken, AreCommentsTaken}
use Rattle.rnix_edit.proofs.CheckLemmas.{after_entered, begun_tested, without_tested}
use Rattle.rnix_edit.proofs.check.is_without.Goals as goal

pub returns-then-takes_comments : goal.returns-then-takes_comments
returns-then-takes_comments c =
    let root = c.args.root.now in
    let before = steps_before c.args.old root in
    let all = steps_in c.args.other.now in
    let remaining = steps_of c.begins_before.new.events in
    let rest = steps_of c.takes_comments.new.events in
    let begun : c.begins_before.result ≡ true = c.if-not-begins_before.false in
    let entered = c.begins_before.ensures.entered begun ∙ ap (events_inside c.args.old) c.preorder_with_tokens-old_walk.ensures.walk in
    let comes : AreCommentsTaken c.takes_comments.result c.args.comments (steps_after c.args.old root) rest =
    subst (λ steps. AreCommentsTaken c.takes_comments.result c.args.comments steps rest)
    (after_entered c.args.old root _ _ entered c.skip_node.ensures.rest) c.takes_comments.ensures in
    let taken : AreTaken c.begins_before.result before all remaining =
    subst (λ es. AreTaken c.begins_before.result before (steps_of es) remaining) c.preorder_with_tokens-new_walk.ensures.walk
    (subst (λ es. AreTaken c.begins_before.result (steps_of (events_before c.args.old es)) (steps_of c.preorder_with_tokens-new_walk.result) remaining)
    c.preorder_with_tokens-old_walk.ensures.walk c.begins_before.ensures.taken) in
    without_tested root c.args.old c.args.comments c.args.other.now rest _ _ comes c.if-takes_comments.true
    (begun_tested _ _ before all remaining rest taken begun c.are_same_walks.ensures)

pub returns-else-takes_comments : goal.returns-else-takes_comments
returns-else-takes_comments c =
    let root = c.args.root.now in
    let entered = c.begins_before.ensures.entered c.if-not-begins_before.false
    ∙ ap (events_inside c.args.old) c.preorder_with_tokens-old_walk.ensures.walk in
    let rest = steps_of c.takes_comments.new.events in
    let comes : AreCommentsTaken c.takes_comments.result c.args.comments (steps_after c.args.old root) rest =
    subst (λ steps. AreCommentsTaken c.takes_comments.result c.args.comments steps rest)
    (after_entered c.args.old root _ _ entered c.skip_node.ensures.rest) c.takes_comments.ensures in
    (λ is. absurd (false≢true (sym c.if-takes_comments.false ∙ is)), λ h. comes.found (h.fits, h.are_comments))
