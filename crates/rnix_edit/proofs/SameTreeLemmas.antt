-- Nodes that are equal with everything inside them, given what walks over them show.
use Rattle.std.proofs.Common.{◌≡◌, ℕ, ◌+◌, ◌≤◌, nat_lt, List, [], ◌∷◌, ◌++◌, length, map, Bool, true, false, refl, ap, sym, ◌∙◌, arith, inl, inr}
use Rattle.std.proofs.lemmas.{Bool.{cases_lt, false≢true, Decides.{Decides-like, Decides-and}}, List.{append_cancel_left, map-append}, Slice.Eq.bytes_eq-Decides}
use Rattle.std.specs.{Prelude.{◌&&◌, if◌then◌else◌, Option, Some, None, is_some, not}, Bool.{Decides, beq}, Cmp.booleans_Decides, Str.bytes_eq, Iterator.YieldsFirstBy}
use Rattle.rnix_green.specs.Forest.{Forest, empty, leaf, node, join, element_count}
use Rattle.rnix_green.specs.{Equality.{same_kind, same_kind-decides}, Tree.{Located, items_of, forest_of, part_of, part_at}, Walk.{Event, event_at, steps_from, preorder_of}}
use Rattle.rnix_green.proofs.{ForestLemmas.element_count-join, InsideLemmas.elements_in_all, NumberTests.{is_above, is_not_below}}
use Rattle.rnix_tree.specs.{WalksAlike.{Shown, shown_of, PassesAlike}, Spots.event_of}
use Rattle.rnix_tree.specs.declared.element.{NodeOrToken.{NodeOrToken}, WalkEvent.{WalkEvent}}
use Rattle.rnix_tree.proofs.{SiblingForests.part_forest, ShownSiblings.{shown_from, shows, begins_with}}
use Rattle.rnix_edit.specs.{ShownEvents.same_shown, Steps.ArePassed}
use Rattle.rnix_edit.proofs.StepsShown.{as_passed}

-- the test decides whether two events show the same
pub same_shown_decides : (a b : Shown) → Decides (same_shown a b) (a ≡ b)
same_shown_decides a b =
    Decides-like (same_shown a b) (λ e i. record { enters = e.0 i; is_node = e.1.0 i; kind = e.1.1.0 i; text = e.1.1.1 i })
    (λ e. (ap (λ (x : Shown). x.enters) e, (ap (λ (x : Shown). x.is_node) e, (ap (λ (x : Shown). x.kind) e, ap (λ (x : Shown). x.text) e))))
    (Decides-and (beq a.enters b.enters) (beq a.is_node b.is_node && (same_kind a.kind b.kind && bytes_eq a.text b.text)) (booleans_Decides a.enters b.enters)
    (Decides-and (beq a.is_node b.is_node) (same_kind a.kind b.kind && bytes_eq a.text b.text) (booleans_Decides a.is_node b.is_node)
    (Decides-and (same_kind a.kind b.kind) (bytes_eq a.text b.text) (same_kind-decides a.kind b.kind) (bytes_eq-Decides a.text b.text))))

-- an element after the end of a forest is not in it
part_beyond : (m n : ℕ) (f : Forest) → n + element_count f ≤ m → part_of m n f ≡ empty
part_beyond m n empty l = refl
part_beyond m n (leaf k t f) l =
    ap (λ b. if b then leaf k t empty else part_of m (n + 1) f) (is_above m n (omega (arith, l))) ∙ part_beyond m (n + 1) f (omega (arith, l))
part_beyond m n (node k c f) l =
    let inner = part_of m (n + 1) c in
    let outer = part_of m (n + 1 + element_count c) f in
    ap (λ b. if b then node k c empty else (if nat_lt m (n + 1 + element_count c) then inner else outer)) (is_above m n (omega (arith, l)))
    ∙ ap (λ b. if b then inner else outer) (is_not_below m (n + 1 + element_count c) (omega (arith, l)))
    ∙ part_beyond m (n + 1 + element_count c) f (omega (arith, l))

-- a walk over an element shows the element and everything inside it
pub shows_part : (e : Located) → map shown_of (preorder_of e) ≡ shown_from (part_at e)
shows_part e = elim (cases_lt e.number (length (items_of e.tree))) [
  | inl there ↦ (let part = part_forest e.tree e.number there in shows e.tree e.number part.start part.parent (part_at e) part.is)
  | inr beyond ↦
      let none : part_at e ≡ empty = part_beyond e.number 0 (forest_of e.tree) (omega (arith, beyond, elements_in_all e.tree)) in
      ap (λ f. map shown_of (map (event_at e.tree) (steps_from e.number f))) none ∙ sym (ap shown_from none)
]

-- joining an empty forest changes nothing
none_joined : (f g : Forest) → element_count g ≡ 0 → join f g ≡ f
none_joined empty empty e = refl
none_joined empty (leaf k u g) e = absurd (omega (arith, e))
none_joined empty (node k c g) e = absurd (omega (arith, e))
none_joined (leaf k u f) g e = ap (leaf k u) (none_joined f g e)
none_joined (node k c f) g e = ap (node k c) (none_joined f g e)

-- what a walk shows of a forest determines it
pub same_forests : (f g : Forest) → shown_from f ≡ shown_from g → f ≡ g
same_forests f g e =
    let whole : shown_from f ++ [] ≡ shown_from g ++ [] = ap (λ shown. shown ++ []) e in
    let one = begins_with f g [] [] tt whole in
    let other = begins_with g f [] [] tt (sym whole) in
    let none : element_count one.rest ≡ 0 =
    omega (
      arith,
      ap element_count one.is,
      element_count-join f one.rest,
      ap element_count other.is,
      element_count-join g other.rest,
    ) in
    sym (one.is ∙ none_joined f one.rest none)

-- so two nodes are equal exactly if walks over them show the same
pub same_trees : (one other : Located) (a b : List Event) (same : Bool) → a ≡ preorder_of one → b ≡ preorder_of other
    → Decides same (map shown_of a ≡ map shown_of b) → Decides same (part_at one ≡ part_at other)
same_trees one other a b same first second tested =
    Decides-like same
    (λ shown. same_forests (part_at one) (part_at other)
    (sym (ap (map shown_of) first ∙ shows_part one) ∙ shown ∙ (ap (map shown_of) second ∙ shows_part other)))
    (λ parts. (ap (map shown_of) first ∙ shows_part one) ∙ ap shown_from parts ∙ sym (ap (map shown_of) second ∙ shows_part other))
    tested

-- the remaining events of two walks show the same exactly if all events do
pub record ShowAlike (a b a_remaining b_remaining : List Event) : Type 0 where
  pub there : map shown_of a_remaining ≡ map shown_of b_remaining → map shown_of a ≡ map shown_of b
  pub back : map shown_of a ≡ map shown_of b → map shown_of a_remaining ≡ map shown_of b_remaining

-- this holds after both walks have passed events that show the same
pub shown_passed : (before other_before : ℕ) (result : Option Bool) (a b a_remaining b_remaining : List Event)
    → PassesAlike before other_before result a b a_remaining b_remaining → ShowAlike a b a_remaining b_remaining
shown_passed before other_before result a b a_remaining b_remaining passes =
    let h : ArePassed before other_before a b a_remaining b_remaining = as_passed before other_before result a b a_remaining b_remaining passes in
    let front = map shown_of h.passed in
    let first : map shown_of a ≡ front ++ map shown_of a_remaining = ap (map shown_of) h.first ∙ map-append shown_of h.passed a_remaining in
    let second : map shown_of b ≡ front ++ map shown_of b_remaining =
    ap (map shown_of) h.second ∙ map-append shown_of h.other_passed b_remaining ∙ ap (λ shown. shown ++ map shown_of b_remaining) (sym h.alike) in
    record {
      there = λ rests. first ∙ ap (λ shown. front ++ shown) rests ∙ sym second;
      back = λ whole. append_cancel_left front (map shown_of a_remaining) (map shown_of b_remaining) (sym first ∙ whole ∙ second);
    }

-- it holds after one more event of each, if these show the same
pub shown_more : (a b all_a all_b rest_a rest_b : List Event) (x y : Event) → ShowAlike a b all_a all_b → all_a ≡ x ∷ rest_a → all_b ≡ y ∷ rest_b
    → shown_of x ≡ shown_of y → ShowAlike a b rest_a rest_b
shown_more a b all_a all_b rest_a rest_b x y so_far first second same =
    let one : map shown_of all_a ≡ shown_of x ∷ map shown_of rest_a = ap (map shown_of) first in
    let two : map shown_of all_b ≡ shown_of y ∷ map shown_of rest_b = ap (map shown_of) second in
    record {
      there = λ rests. so_far.there cc;
      back = λ whole. (let rests : map shown_of all_a ≡ map shown_of all_b = so_far.back whole in cc);
    }

-- if one walk has ended and the other has not, they do not show the same
pub shown_longer : (a b all_a all_b rest : List Event) (x : Event) → ShowAlike a b all_a all_b → all_a ≡ x ∷ rest → all_b ≡ []
    → ¬ (map shown_of a ≡ map shown_of b)
shown_longer a b all_a all_b rest x so_far first second = λ whole.
    let one : map shown_of all_a ≡ shown_of x ∷ map shown_of rest = ap (map shown_of) first in
    let two : map shown_of all_b ≡ [] = ap (map shown_of) second in
    let both : shown_of x ∷ map shown_of rest ≡ [] = sym one ∙ so_far.back whole ∙ two in
    absurd (omega (arith, ap length both))

-- nor do they if their next events differ in what they show
pub shown_differs : (a b all_a all_b rest_a rest_b : List Event) (x y : Event) → ShowAlike a b all_a all_b → all_a ≡ x ∷ rest_a → all_b ≡ y ∷ rest_b
    → ¬ (shown_of x ≡ shown_of y) → ¬ (map shown_of a ≡ map shown_of b)
shown_differs a b all_a all_b rest_a rest_b x y so_far first second differ = λ whole.
    let one : map shown_of all_a ≡ shown_of x ∷ map shown_of rest_a = ap (map shown_of) first in
    let two : map shown_of all_b ≡ shown_of y ∷ map shown_of rest_b = ap (map shown_of) second in
    let both : shown_of x ∷ map shown_of rest_a ≡ shown_of y ∷ map shown_of rest_b = sym one ∙ so_far.back whole ∙ two in
    differ cc

-- if one walk has ended, both show the same exactly if the other has ended too
pub shown_end : (a b all_a all_b rest : List Event) (found : Option (WalkEvent (NodeOrToken Located Located))) (none : Bool) → ShowAlike a b all_a all_b
    → all_a ≡ [] → YieldsFirstBy event_of (λ (s : List Event). s) all_b found rest → is_some found ≡ not none → Decides none (map shown_of a ≡ map shown_of b)
shown_end a b all_a all_b rest None true so_far end next is = (λ _. so_far.there (ap (map shown_of) end ∙ sym (ap (map shown_of) next.0)), λ _. refl)
shown_end a b all_a all_b rest None false so_far end next is = absurd (false≢true is)
shown_end a b all_a all_b rest (Some event) true so_far end next is = absurd (false≢true (sym is))
shown_end a b all_a all_b rest (Some event) false so_far end next is = (
  λ no. absurd (false≢true no),
  λ whole.
      let one : map shown_of all_a ≡ [] = ap (map shown_of) end in
      let two : map shown_of all_b ≡ shown_of (event_of event) ∷ map shown_of rest = ap (map shown_of) next in
      let both : [] ≡ shown_of (event_of event) ∷ map shown_of rest = sym one ∙ so_far.back whole ∙ two in
      absurd (omega (arith, ap length both)),
)
