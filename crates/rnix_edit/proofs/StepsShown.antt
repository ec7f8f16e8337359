-- The steps of a walk, given what its events show.
use Rattle.std.proofs.Common.{◌≡◌, ◌≤◌, ◌<◌, ◌-◌, ◌==◌, ℕ, zero, suc, List, [], ◌∷◌, ◌++◌, length, get_or, map, flat_map, Bool, true, false, Option, Some, None, refl, ap, sym, ◌∙◌, subst, arith, append_assoc, length-append, inl, inr}
use Rattle.std.proofs.lemmas.{List.append_cancel_left, Grind.flat_map-append, List.Elements.{All-nil, All-head, All-tail}, Bool.{cases_lt, Decides.nat_tests}}
use Rattle.std.specs.{Prelude.{if◌then◌else◌, ◌&&◌}, List.All}
use Rattle.rnix_green.specs.{Equality.same_kind, Tree.{Located, Item, items_of, item_of, text_at, forest_of, no_item}, Walk.Event}
use Rattle.rnix_green.proofs.{StartLemmas.in_text, InsideLemmas.elements_in_all}
use Rattle.rnix_tree.specs.WalksAlike.{Shown, shown_event, shown_of, EndsBefore, PassesAlike}
use Rattle.rnix_edit.specs.declared.node_range.NodeRange.{NodeRange}
use Rattle.rnix_edit.specs.Steps.{Step, node_step, token_steps, step_at, steps_of, enters, events_before, events_inside, ArePassed}
use Rattle.rnix_edit.proofs.StepLemmas.{RestContinues}

-- the step of an event, given what it shows
abbrev steps_shown : Shown → List Step
steps_shown s = if s.is_node then node_step s.enters s.kind ∷ [] else (if s.enters then token_steps s.kind s.text else [])

-- what an event shows determines its step
step_shown : (event : Event) → step_at event ≡ steps_shown (shown_of event)
step_shown event =
    elim event.1.0 as (λ b. (if b then node_step event.0 (item_of event.1.1).kind ∷ []
    else (if event.0 then token_steps (item_of event.1.1).kind (text_at event.1.1) else []))
    ≡ steps_shown (shown_event event.0 b (item_of event.1.1).kind (text_at event.1.1))) [
      | true ↦ refl
      | false ↦ refl
    ]

-- what events show determines their steps
all_shown : (events : List Event) → steps_of events ≡ flat_map steps_shown (map shown_of events)
all_shown [] = refl
all_shown (event ∷ events) = ap (λ steps. steps ++ steps_of events) (step_shown event) ∙ ap (λ steps. steps_shown (shown_of event) ++ steps) (all_shown events)

-- events that show the same have the same steps
same_steps : (passed other_passed : List Event) → map shown_of passed ≡ map shown_of other_passed → steps_of passed ≡ steps_of other_passed
same_steps passed other_passed e = all_shown passed ∙ ap (flat_map steps_shown) e ∙ sym (all_shown other_passed)

-- two walks begin with equal steps, and these steps remain
pub record RestDecides (a b a_remaining b_remaining : List Step) : Type 0 where
  pub front : List Step
  pub first : a ≡ front ++ a_remaining
  pub second : b ≡ front ++ b_remaining

-- the remaining steps are equal exactly if all are, and no more steps remain than before
pub alike_there : (a b a_remaining b_remaining : List Step) → RestDecides a b a_remaining b_remaining → a_remaining ≡ b_remaining → a ≡ b
alike_there a b a_remaining b_remaining h rests = h.first ∙ ap (λ steps. h.front ++ steps) rests ∙ sym h.second

pub alike_back : (a b a_remaining b_remaining : List Step) → RestDecides a b a_remaining b_remaining → a ≡ b → a_remaining ≡ b_remaining
alike_back a b a_remaining b_remaining h whole = append_cancel_left h.front a_remaining b_remaining (sym h.first ∙ whole ∙ h.second)

pub alike_shorter : (a b a_remaining b_remaining : List Step) → RestDecides a b a_remaining b_remaining → length a_remaining ≤ length a
alike_shorter a b a_remaining b_remaining h = omega (arith, ap length h.first, length-append h.front a_remaining)

pub other_shorter : (a b a_remaining b_remaining : List Step) → RestDecides a b a_remaining b_remaining → length b_remaining ≤ length b
other_shorter a b a_remaining b_remaining h = omega (arith, ap length h.second, length-append h.front b_remaining)

-- taking one more step leaves fewer
pub fewer : (x : Step) (remaining all remaining_after : List Step) → all ≡ x ∷ remaining → length remaining_after ≤ length remaining
    → length remaining_after < length all
fewer x remaining all remaining_after e h = omega (arith, ap length e, h)

pub step_taken : (first all : List Step) (x y : Step) (a b all_a all_b : List Step) → RestContinues first all all_a all_b → all_a ≡ x ∷ a → all_b ≡ y ∷ b
    → x ≡ y → RestContinues first all a b
step_taken first all x y a b all_a all_b so_far one two same = record {
  there = λ rest e.
      so_far.there rest
      (two ∙ ap (λ steps. y ∷ steps) e ∙ ap (λ step. step ∷ (a ++ rest)) (sym same) ∙ ap (λ steps. steps ++ rest) (sym one));
  back = λ rest e.
      let whole : y ∷ b ≡ x ∷ (a ++ rest) = sym two ∙ so_far.back rest e ∙ ap (λ steps. steps ++ rest) one in
      cc;
}

-- the second walk begins with the remaining steps of the first exactly if it begins with all of them
pub alike_goes_on : (a b a_remaining b_remaining first all : List Step) → RestDecides a b a_remaining b_remaining → RestContinues first all a b
    → RestContinues first all a_remaining b_remaining
alike_goes_on a b a_remaining b_remaining first all h so_far = record {
  there = λ rest e.
      so_far.there rest (h.second ∙ ap (λ steps. h.front ++ steps) e ∙ sym (append_assoc h.front a_remaining rest) ∙ ap (λ steps. steps ++ rest) (sym h.first));
  back = λ rest e.
      append_cancel_left h.front b_remaining (a_remaining ++ rest)
      (sym h.second ∙ so_far.back rest e ∙ ap (λ steps. steps ++ rest) h.first ∙ append_assoc h.front a_remaining rest);
}

-- walks that pass events that show the same continue after the same steps
rest_decides : (passed other_passed a b a_remaining b_remaining : List Event) → map shown_of passed ≡ map shown_of other_passed → a ≡ passed ++ a_remaining
    → b ≡ other_passed ++ b_remaining
    → RestDecides (steps_of a) (steps_of b) (steps_of a_remaining) (steps_of b_remaining)
rest_decides passed other_passed a b a_remaining b_remaining e first second = record {
  front = steps_of passed;
  first = ap steps_of first ∙ flat_map-append step_at passed a_remaining;
  second =
      ap steps_of second ∙ flat_map-append step_at other_passed b_remaining
      ∙ ap (λ steps. steps ++ steps_of b_remaining) (sym (same_steps passed other_passed e));
}

-- no element ends before it starts
ordered : (e : Located) → (item_of e).start ≤ (item_of e).end
ordered e = elim (cases_lt e.number (length (items_of e.tree))) [
  | inl there ↦ (in_text 0 0 None (forest_of e.tree) e.number (omega (arith, there, elements_in_all e.tree))).ordered
  | inr absent ↦
      let none : item_of e ≡ no_item = get_or_past (items_of e.tree) e.number absent in
      omega (arith, ap (λ (i : Item). i.start) none, ap (λ (i : Item). i.end) none)
]
  where
    get_or_past : (is : List Item) (n : ℕ) → length is ≤ n → get_or is n no_item ≡ no_item
    get_or_past [] n l = refl
    get_or_past (i ∷ is) zero l = absurd (omega (arith, l))
    get_or_past (i ∷ is) (suc n) l = get_or_past is n (omega (arith, l))

-- an element that ends before a node's start is not the node
not_entered : (target : NodeRange) (event : Event) → EndsBefore target.start event → enters target event ≡ false
not_entered target (false, spot) l = refl
not_entered target (true, (false, e)) l = refl
not_entered target (true, (true, e)) l =
    let apart : ((item_of e).start == target.start) ≡ false = other (item_of e).start target.start (omega (arith, ordered e, l)) in
    ap (λ b. same_kind (item_of e).kind target.kind && (b && (((item_of e).end - (item_of e).start) == target.len))) apart
    ∙ and_false (same_kind (item_of e).kind target.kind)
  where
    other : (a b : ℕ) → a < b → (a == b) ≡ false
    other a b h = grind (arith, nat_tests)

    and_false : (b : Bool) → (b && false) ≡ false
    and_false true = refl
    and_false false = refl

-- events of elements that end before a node are before the node
pub passed_before : (target : NodeRange) (passed rest : List Event) → All (EndsBefore target.start) passed
    → (events_before target (passed ++ rest) ≡ passed ++ events_before target rest) × (events_inside target (passed ++ rest) ≡ events_inside target rest)
passed_before target [] rest all = (refl, refl)
passed_before target (event ∷ passed) rest all =
    let fails = not_entered target event (All-head (EndsBefore target.start) event passed all) in
    let h = passed_before target passed rest (All-tail (EndsBefore target.start) event passed all) in (
      ap (λ b. if b then [] else event ∷ events_before target (passed ++ rest)) fails ∙ ap (λ es. event ∷ es) h.0,
      ap (λ b. if b then passed ++ rest else events_inside target (passed ++ rest)) fails ∙ h.1,
    )

-- before any event is passed
pub none_passed : (before other_before : ℕ) (a b : List Event) → ArePassed before other_before a b a b
none_passed before other_before a b = record {
  passed = [];
  other_passed = [];
  first = refl;
  second = refl;
  alike = refl;
  ends = All-nil (EndsBefore before);
  other_ends = All-nil (EndsBefore other_before);
}

-- passing the events of siblings
pub as_passed : (before other_before : ℕ) (result : Option Bool) (a b a_remaining b_remaining : List Event)
    → PassesAlike before other_before result a b a_remaining b_remaining
    → ArePassed before other_before a b a_remaining b_remaining
as_passed before other_before None a b a_remaining b_remaining h =
    subst (λ es. ArePassed before other_before a b es b_remaining) (sym h.1)
    (subst (ArePassed before other_before a b a) (sym h.2) (none_passed before other_before a b))
as_passed before other_before (Some false) a b a_remaining b_remaining h =
    subst (λ es. ArePassed before other_before a b es b_remaining) (sym h.2)
    (subst (ArePassed before other_before a b a) (sym h.3) (none_passed before other_before a b))
as_passed before other_before (Some true) a b a_remaining b_remaining h = record {
  passed = h.passed;
  other_passed = h.other_passed;
  first = h.first;
  second = h.second;
  alike = h.alike;
  ends = h.before;
  other_ends = h.other_before;
}

-- the remaining events of two walks that have passed events that show the same
module _ (before other_before : ℕ) (a b a_remaining b_remaining : List Event) (h : ArePassed before other_before a b a_remaining b_remaining) where
  -- the passed steps are equal
  pub passed_alike : RestDecides (steps_of a) (steps_of b) (steps_of a_remaining) (steps_of b_remaining)
  passed_alike = rest_decides h.passed h.other_passed a b a_remaining b_remaining h.alike h.first h.second

  -- the steps before nodes that start at the offsets
  before_first : (target : NodeRange) → before ≡ target.start
      → (events_before target (h.passed ++ a_remaining) ≡ h.passed ++ events_before target a_remaining)
      × (events_inside target (h.passed ++ a_remaining) ≡ events_inside target a_remaining)
  before_first target e = passed_before target h.passed a_remaining (subst (λ n. All (EndsBefore n) h.passed) e h.ends)

  before_second : (target : NodeRange) → other_before ≡ target.start
      → (events_before target (h.other_passed ++ b_remaining) ≡ h.other_passed ++ events_before target b_remaining)
      × (events_inside target (h.other_passed ++ b_remaining) ≡ events_inside target b_remaining)
  before_second target e = passed_before target h.other_passed b_remaining (subst (λ n. All (EndsBefore n) h.other_passed) e h.other_ends)

  -- the events inside such a node are among the remaining ones
  pub inside_first : (target : NodeRange) → before ≡ target.start → events_inside target a_remaining ≡ events_inside target a
  inside_first target e = sym (ap (events_inside target) h.first ∙ (before_first target e).1)

  pub inside_second : (target : NodeRange) → other_before ≡ target.start → events_inside target b_remaining ≡ events_inside target b
  inside_second target e = sym (ap (events_inside target) h.second ∙ (before_second target e).1)

  -- the steps of the first walk up to the node, and those of the second to its end
  pub alike_before : (target : NodeRange) → before ≡ target.start
      → RestDecides (steps_of (events_before target a)) (steps_of b) (steps_of (events_before target a_remaining)) (steps_of b_remaining)
  alike_before target e =
      rest_decides h.passed h.other_passed (events_before target a) b (events_before target a_remaining) b_remaining h.alike
      (ap (events_before target) h.first ∙ (before_first target e).0) h.second

  -- the steps of both walks up to their nodes
  pub both_before : (target other : NodeRange) → before ≡ target.start → other_before ≡ other.start
      → RestDecides (steps_of (events_before target a)) (steps_of (events_before other b)) (steps_of (events_before target a_remaining))
      (steps_of (events_before other b_remaining))
  both_before target other e f =
      rest_decides h.passed h.other_passed (events_before target a) (events_before other b) (events_before target a_remaining) (events_before other b_remaining)
      h.alike (ap (events_before target) h.first ∙ (before_first target e).0) (ap (events_before other) h.second ∙ (before_second other f).0)
