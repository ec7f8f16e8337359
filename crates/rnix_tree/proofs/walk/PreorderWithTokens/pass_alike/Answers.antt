use Rattle.std.proofs.Common.{◌≡◌, ◌+◌, ◌-◌, refl, ap, sym, ◌∙◌, subst, arith}
use Rattle.std.proofs.lemmas.Bool.{false≢true}
use Rattle.rnix_tree.specs.{AlikeSiblings.{after_siblings}, WalksAlike.HavePassed, Cursor.{IsWithin, events_remaining}, declared.walk.Next.Next}
use Rattle.rnix_tree.proofs.PassLemmas.{enters_siblings, passes_none, stops_next, siblings_there, reached_low, reached_high, within_first, nothing_passed}
use Rattle.rnix_tree.proofs.PassLemmas.{something_passed, other_stops, both_passed, none_begins, within_second}
use Rattle.rnix_tree.proofs.walk.PreorderWithTokens.pass_alike.Goals as goal

pub returns-in_default : goal.returns-in_default
returns-in_default c = (
  passes_none c.self.inside.green.now c.self.inside.root c.self.inside.next c.args.self.now c.args.before c.self.invariant.root_there
      c.self.invariant.next_inside c.in_default.not-Enter c.self.view_is,
  refl,
  refl,
)

pub end_before-end-requires : goal.end_before-end-requires
end_before-end-requires c = siblings_there _ _ _ _ _
    (enters_siblings c.self.inside.green.now c.self.inside.root c.in-Enter.number c.siblings_at-siblings.result c.self.inside.next c.args.self.now
    c.self.invariant.root_there c.self.invariant.next_inside c.in-Enter.is c.siblings_at-siblings.ensures.siblings c.self.view_is)

pub returns-then-end-number : goal.returns-then-end-number
returns-then-end-number c = (
  nothing_passed _ _ _ _ _
      (enters_siblings c.self.inside.green.now c.self.inside.root c.in-Enter.number c.siblings_at-siblings.result c.self.inside.next c.args.self.now
      c.self.invariant.root_there c.self.invariant.next_inside c.in-Enter.is c.siblings_at-siblings.ensures.siblings c.self.view_is)
      c.end_before-end.result c.args.before c.end_before-end.ensures.reached c.end_before-end.ensures.stops
      c.if-end-number.true,
  refl,
  refl,
)

pub returns-in_default-next : goal.returns-in_default-next
returns-in_default-next c =
    let e =
    enters_siblings c.self.inside.green.now c.self.inside.root c.in-Enter.number c.siblings_at-siblings.result c.self.inside.next c.args.self.now
    c.self.invariant.root_there c.self.invariant.next_inside c.in-Enter.is c.siblings_at-siblings.ensures.siblings c.self.view_is in
    let n = c.end_before-end.result in
    let reached = c.end_before-end.ensures.reached in
    let late = c.end_before-end.ensures.stops in (
      something_passed _ _ _ _ _ e n c.args.before reached late c.if-end-number.false,
      other_stops _ _ _ _ _ e n c.args.before reached late c.if-end-number.false c.args.other_before c.args.other.now
          (stops_next c.other.inside.green.now c.other.inside.root c.other.inside.next c.args.other.now c.other.invariant.root_there
          c.other.invariant.next_inside c.in_default-next.not-Enter c.other.view_is),
      refl,
      refl,
    )

pub are_siblings_alike-requires-clause-there : goal.are_siblings_alike-requires-clause-there
are_siblings_alike-requires-clause-there c =
    let e =
    enters_siblings c.self.inside.green.now c.self.inside.root c.in-Enter.number c.siblings_at-siblings.result c.self.inside.next c.args.self.now
    c.self.invariant.root_there c.self.invariant.next_inside c.in-Enter.is c.siblings_at-siblings.ensures.siblings c.self.view_is in
    let low = reached_low _ _ _ _ _ e c.end_before-end.result c.args.before c.end_before-end.ensures.reached c.end_before-end.ensures.stops in
    omega (arith, low, e.first, c.if-end-number.false)

pub are_siblings_alike-requires-clause-within : goal.are_siblings_alike-requires-clause-within
are_siblings_alike-requires-clause-within c =
    reached_high _ _ _ _ _
    (enters_siblings c.self.inside.green.now c.self.inside.root c.in-Enter.number c.siblings_at-siblings.result c.self.inside.next c.args.self.now
    c.self.invariant.root_there c.self.invariant.next_inside c.in-Enter.is c.siblings_at-siblings.ensures.siblings c.self.view_is)
    c.end_before-end.result c.args.before c.end_before-end.ensures.reached c.end_before-end.ensures.stops

pub returns-then-not-are_siblings_alike : goal.returns-then-not-are_siblings_alike
returns-then-not-are_siblings_alike c =
    let e =
    enters_siblings c.self.inside.green.now c.self.inside.root c.in-Enter.number c.siblings_at-siblings.result c.self.inside.next c.args.self.now
    c.self.invariant.root_there c.self.invariant.next_inside c.in-Enter.is c.siblings_at-siblings.ensures.siblings c.self.view_is in
    let n = c.end_before-end.result in
    let reached = c.end_before-end.ensures.reached in
    let late = c.end_before-end.ensures.stops in (
      something_passed _ _ _ _ _ e n c.args.before reached late c.if-end-number.false,
      none_begins _ _ _ _ _ e n c.args.before reached late c.if-end-number.false _ _ _ _ _
          (enters_siblings c.other.inside.green.now c.other.inside.root c.in-Enter-next.other_number c.siblings_at-twin.result c.other.inside.next
          c.args.other.now
          c.other.invariant.root_there c.other.invariant.next_inside c.in-Enter-next.is c.siblings_at-twin.ensures.siblings c.other.view_is) c.args.other_before
          (λ alike. absurd (false≢true (sym c.if-not-are_siblings_alike.true ∙ c.are_siblings_alike.ensures.1 alike))),
      refl,
      refl,
    )

pub overflow_sub-end : goal.overflow_sub-end
overflow_sub-end c =
    reached_low _ _ _ _ _
    (enters_siblings c.self.inside.green.now c.self.inside.root c.in-Enter.number c.siblings_at-siblings.result c.self.inside.next c.args.self.now
    c.self.invariant.root_there c.self.invariant.next_inside c.in-Enter.is c.siblings_at-siblings.ensures.siblings c.self.view_is)
    c.end_before-end.result c.args.before c.end_before-end.ensures.reached c.end_before-end.ensures.stops

pub invariant_of-self : goal.invariant_of-self
invariant_of-self c =
    subst (IsWithin c.self.inside.green.now c.self.inside.root) (sym c.after_siblings-self-inside.ensures)
    (within_first _ _ _ _ _
    (enters_siblings c.self.inside.green.now c.self.inside.root c.in-Enter.number c.siblings_at-siblings.result c.self.inside.next c.args.self.now
    c.self.invariant.root_there c.self.invariant.next_inside c.in-Enter.is c.siblings_at-siblings.ensures.siblings c.self.view_is)
    c.end_before-end.result c.args.before c.end_before-end.ensures.reached c.end_before-end.ensures.stops)

pub invariant_of-other : goal.invariant_of-other
invariant_of-other c =
    let e =
    enters_siblings c.self.inside.green.now c.self.inside.root c.in-Enter.number c.siblings_at-siblings.result c.self.inside.next c.args.self.now
    c.self.invariant.root_there c.self.invariant.next_inside c.in-Enter.is c.siblings_at-siblings.ensures.siblings c.self.view_is in
    let o =
    enters_siblings c.other.inside.green.now c.other.inside.root c.in-Enter-next.other_number c.siblings_at-twin.result c.other.inside.next c.args.other.now
    c.other.invariant.root_there c.other.invariant.next_inside c.in-Enter-next.is c.siblings_at-twin.ensures.siblings c.other.view_is in
    let alike = c.are_siblings_alike.ensures.0 c.if-not-are_siblings_alike.false in
    let same : c.siblings_at-twin.result.first + (c.end_before-end.result - c.siblings_at-siblings.result.first)
    ≡ c.in-Enter-next.other_number + (c.end_before-end.result - c.in-Enter.number) = omega (arith, e.first, o.first) in
    subst (IsWithin c.other.inside.green.now c.other.inside.root) (ap (after_siblings c.siblings_at-twin.result) same
    ∙ sym c.after_siblings-other-inside.ensures)
    (within_second _ _ _ _ _ e c.end_before-end.result c.args.before c.end_before-end.ensures.reached c.end_before-end.ensures.stops c.if-end-number.false
    _ _ _ _ _ o c.args.other_before alike)

pub returns : goal.returns
returns c =
    let e =
    enters_siblings c.self.inside.green.now c.self.inside.root c.in-Enter.number c.siblings_at-siblings.result c.self.inside.next c.args.self.now
    c.self.invariant.root_there c.self.invariant.next_inside c.in-Enter.is c.siblings_at-siblings.ensures.siblings c.self.view_is in
    let o =
    enters_siblings c.other.inside.green.now c.other.inside.root c.in-Enter-next.other_number c.siblings_at-twin.result c.other.inside.next c.args.other.now
    c.other.invariant.root_there c.other.invariant.next_inside c.in-Enter-next.is c.siblings_at-twin.ensures.siblings c.other.view_is in
    let alike = c.are_siblings_alike.ensures.0 c.if-not-are_siblings_alike.false in
    let same : c.siblings_at-twin.result.first + (c.end_before-end.result - c.siblings_at-siblings.result.first)
    ≡ c.in-Enter-next.other_number + (c.end_before-end.result - c.in-Enter.number) = omega (arith, e.first, o.first) in
    subst (λ next. HavePassed c.args.before c.args.other_before c.args.self.now c.args.other.now
    (events_remaining c.self.inside.green.now c.self.inside.root next)
    (events_remaining c.other.inside.green.now c.other.inside.root c.after_siblings-other-inside.result)) (sym c.after_siblings-self-inside.ensures)
    (subst (λ (next : Next). HavePassed c.args.before c.args.other_before c.args.self.now c.args.other.now
    (events_remaining c.self.inside.green.now c.self.inside.root (after_siblings c.siblings_at-siblings.result c.end_before-end.result))
    (events_remaining c.other.inside.green.now c.other.inside.root next))
    (ap (after_siblings c.siblings_at-twin.result) same ∙ sym c.after_siblings-other-inside.ensures)
    (both_passed _ _ _ _ _ e c.end_before-end.result c.args.before c.end_before-end.ensures.reached c.end_before-end.ensures.stops c.if-end-number.false
    _ _ _ _ _ o c.args.other_before alike))
