use Rattle.{std.proofs.Common.{◌≤◌, length, ap, sym, subst, ◌∙◌}, rnix_green.specs.Walk.from_leaving, rnix_tree.specs.Cursor.{IsNextWithin, events_remaining}}
use Rattle.rnix_tree.proofs.SkipLemmas.{skips, from_leaving-shorter}
use Rattle.rnix_tree.proofs.walk.PreorderWithTokens.skip_subtree.Goals as goal

pub invariant_of-self : goal.invariant_of-self
invariant_of-self c =
    let s = c.self.inside in
    let t = s.green.now in
    record {
      root_there = c.self.invariant.root_there;
      next_inside =
          subst (IsNextWithin t s.root) (sym c.after_skip-self-inside.ensures)
          (skips t s.root s.next c.self.invariant.root_there c.self.invariant.next_inside).within;
    }

pub returns-clause-walk : goal.returns-clause-walk
returns-clause-walk c =
    let s = c.self.inside in
    let t = s.green.now in
    ap (events_remaining t s.root) c.after_skip-self-inside.ensures
    ∙ sym (skips t s.root s.next c.self.invariant.root_there c.self.invariant.next_inside).events ∙ ap (from_leaving 0) c.self.view_is

pub returns-clause-shorter : goal.returns-clause-shorter
returns-clause-shorter c =
    subst (λ es. length es ≤ length c.args.self.now) (sym (returns-clause-walk c)) (from_leaving-shorter 0 c.args.self.now)
