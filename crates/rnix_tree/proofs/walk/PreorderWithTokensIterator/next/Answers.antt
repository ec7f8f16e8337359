use Rattle.{std.proofs.Common.{rules, ap, map, ◌∙◌, sym, subst, true, false}, rnix_green.specs.Walk.{Spot, event_at}, rnix_tree.specs.Cursor.IsInside}
use Rattle.rnix_tree.specs.{Cursor.{IsNextWithin, events_remaining, after_enter, after_leave}, declared.walk.Next.{Next, TheVariants.{Enter, Leave}}}
use Rattle.rnix_tree.proofs.{ListLemmas.cons_same, PreorderLemmas.{Goes, enters, leaves}}
use Rattle.rnix_tree.proofs.walk.PreorderWithTokensIterator.next.Goals as goal

entered : (c : goal.After-element_at) →
    Goes c.self.inside.green.now c.self.inside.root (Enter c.in-Enter.number) (true, c.in-Enter.number) (after_enter c.self.inside.green.now c.in-Enter.number)
entered c =
    let s = c.self.inside in
    let t = s.green.now in
    let inside : IsInside t s.root c.in-Enter.number = subst (IsNextWithin t s.root) c.in-Enter.is c.self.invariant.next_inside in
    enters t s.root c.in-Enter.number c.self.invariant.root_there inside

remaining : (c : goal.After-element_at-in-Leave) →
    Goes c.self.inside.green.now c.self.inside.root (Leave c.in-Leave.number) (false, c.in-Leave.number)
    (after_leave c.self.inside.green.now c.self.inside.root c.in-Leave.number)
remaining c =
    let s = c.self.inside in
    let t = s.green.now in
    let inside : IsInside t s.root c.in-Leave.number = subst (IsNextWithin t s.root) c.in-Leave.is c.self.invariant.next_inside in
    leaves t s.root c.in-Leave.number c.self.invariant.root_there inside

pub invariant_of-self : goal.invariant_of-self
invariant_of-self c =
    let s = c.self.inside in
    record {
      root_there = c.self.invariant.root_there;
      next_inside = subst (IsNextWithin s.green.now s.root) (sym c.after_enter-self-inside.ensures) (entered c).within;
    }

pub invariant_of-self-in-Leave : goal.invariant_of-self-in-Leave
invariant_of-self-in-Leave c =
    let s = c.self.inside in
    record {
      root_there = c.self.invariant.root_there;
      next_inside = subst (IsNextWithin s.green.now s.root) (sym c.after_leave-self-inside.ensures) (remaining c).within;
    }

pub returns-in-Enter-clause-steps : goal.returns-in-Enter-clause-steps
returns-in-Enter-clause-steps c =
    let s = c.self.inside in
    let t = s.green.now in
    sym c.self.view_is ∙ ap (λ (n : Next). events_remaining t s.root n) c.in-Enter.is ∙ ap (map (event_at t)) (entered c).step_is
    ∙ cons_same (ap (λ (x : Spot). (true, x)) (sym c.element_at.ensures.spot))
    (ap (λ (n : Next). events_remaining t s.root n) (sym c.after_enter-self-inside.ensures))

pub returns-in-Enter-clause-goes : goal.returns-in-Enter-clause-goes
returns-in-Enter-clause-goes c = rw (returns-in-Enter-clause-steps c) (search rules)

pub returns-in-Leave-clause-steps : goal.returns-in-Leave-clause-steps
returns-in-Leave-clause-steps c =
    let s = c.self.inside in
    let t = s.green.now in
    sym c.self.view_is ∙ ap (λ (n : Next). events_remaining t s.root n) c.in-Leave.is ∙ ap (map (event_at t)) (remaining c).step_is
    ∙ cons_same (ap (λ (x : Spot). (false, x)) (sym c.element_at-in-Leave.ensures.spot))
    (ap (λ (n : Next). events_remaining t s.root n) (sym c.after_leave-self-inside.ensures))

pub returns-in-Leave-clause-goes : goal.returns-in-Leave-clause-goes
returns-in-Leave-clause-goes c = rw (returns-in-Leave-clause-steps c) (search rules)
