-- Trees whose walks have the same steps have the same outline, and their strings have the same values.
use Rattle.std.proofs.Common.{◌≡◌, ℕ, ◌+◌, ◌-◌, Bool, true, false, List, [], ◌∷◌, ◌++◌, length, map, take, drop, Option, Some, None, refl, ap, sym, ◌∙◌}
use Rattle.std.proofs.{Common.{arith, append_assoc}, lemmas.List.{append-nil, map-append, take_at, drop_at, drop-drop}}
use Rattle.std.specs.Prelude.{◌&&◌, ◌||◌, not, if◌then◌else◌}
use Rattle.rnix_kinds.specs.declared.kinds.SyntaxKind.{SyntaxKind}
use Rattle.rnix_kinds.specs.declared.kinds.SyntaxKind.TheVariants.{NODE_STRING, TOKEN_STRING_CONTENT, TOKEN_WHITESPACE}
use Rattle.rnix_green.specs.Equality.{same_kind}
use Rattle.rnix_green.specs.Forest.{Forest, empty, leaf, node, join, text_of, element_count}
use Rattle.rnix_green.specs.Tree.{Tree, Item, Located, items_from, items_of, item, item_of, forest_of}
use Rattle.rnix_green.specs.Walk.{Event, steps_from, event_at, preorder_of}
use Rattle.{rnix_green.proofs.PieceLemmas.length-items_from, rnix_tree.proofs.ItemsAt.{HasItemsAt, first_item, front_items, back_items}}
use Rattle.rnix_parser.specs.Significant.{leaf_unless}
use Rattle.nix_formatting.specs.{Outline.{text_unless, outline}, WalkSteps.{Step, Shown, shown_node, shown_token, step_if, steps_of, steps_in}}
use Rattle.nix_formatting.specs.Values.{both_values, value_if, values_in, string_values, nix_string_values}

-- a step before forests: those of the open nodes, innermost first, each from the walk's position to the end of the node
abbrev pub built : Bool → Bool → SyntaxKind → Shown → List Forest → List Forest
built false enters k t [] = []
built false enters k t (f ∷ fs) = leaf k t.0 f ∷ fs
built true false k t fs = empty ∷ fs
built true true k t [] = []
built true true k t (c ∷ []) = []
built true true k t (c ∷ (f ∷ fs)) = node k c f ∷ fs

-- the forests that steps build, from the last step to the first
abbrev pub rebuilt : List Step → List Forest
rebuilt [] = empty ∷ []
rebuilt (s ∷ ss) = built s.is_node s.enters s.kind s.shown (rebuilt ss)

abbrev pub located : Tree → ℕ → Located
located t n = record { tree = t; number = n }

abbrev pub step_with : Bool → Bool → SyntaxKind → Shown → Step
step_with enters is_node kind shown = record { enters = enters; is_node = is_node; kind = kind; shown = shown }

-- the step of an event, given by the event's element, before other steps
abbrev before : Bool → (Item → Shown) → Item → List Step → List Step
before enters shown i steps =
    step_if (i.is_node || (enters && not (same_kind i.kind TOKEN_WHITESPACE))) (step_with enters i.is_node i.kind (shown i)) steps

abbrev shown_in : Tree → ℕ → Bool → Item → Shown
shown_in t n enters i = if i.is_node then shown_node enters (located t n) else shown_token (located t n)

abbrev item_with : Bool → SyntaxKind → ℕ → ℕ → Option ℕ → ℕ → Item
item_with is_node k s m p b = record { kind = k; is_node = is_node; start = s; end = m; parent = p; below = b }

module _ (t : Tree) (n : ℕ) (k : SyntaxKind) (s m : ℕ) (p : Option ℕ) (b : ℕ) (remaining : List Event) where
  -- the steps when a node is entered
  entered : item t n ≡ item_with true k s m p b
      → rebuilt (steps_of (event_at t (true, n) ∷ remaining)) ≡ built true true k (shown_node true (located t n)) (rebuilt (steps_of remaining))
  entered e = ap (λ i. rebuilt (before true (shown_in t n true) i (steps_of remaining))) e

  -- the steps when a node is left
  remaining_after : item t n ≡ item_with true k s m p b → rebuilt (steps_of (event_at t (false, n) ∷ remaining)) ≡ empty ∷ rebuilt (steps_of remaining)
  remaining_after e = ap (λ i. rebuilt (before false (shown_in t n false) i (steps_of remaining))) e

  -- the steps when a token is passed
  token_passed : item t n ≡ item_with false k s m p b → steps_of (event_at t (true, n) ∷ (event_at t (false, n) ∷ remaining))
      ≡ step_if (not (same_kind k TOKEN_WHITESPACE)) (step_with true false k (shown_token (located t n))) (steps_of remaining)
  token_passed e = ap (λ i. before true (shown_in t n true) i (before false (shown_in t n false) i (steps_of remaining))) e

  -- what a token shows, given its text
  token_shows : (u whole : List ℕ) → whole ≡ text_of (forest_of t) → item t n ≡ item_with false k s m p b → take (m - s) (drop s whole) ≡ u
      → shown_token (located t n) ≡ (text_unless (same_kind k TOKEN_STRING_CONTENT) u, [])
  token_shows u whole is e h =
      ap (λ x. (x, []))
      (ap (λ (i : Item). text_unless (same_kind i.kind TOKEN_STRING_CONTENT) (take (i.end - i.start) (drop i.start (text_of (forest_of t))))) e
      ∙ ap (λ w. text_unless (same_kind k TOKEN_STRING_CONTENT) (take (m - s) (drop s w))) (sym is)
      ∙ ap (text_unless (same_kind k TOKEN_STRING_CONTENT)) h)

join_empty : (f : Forest) → join f empty ≡ f
join_empty empty = refl
join_empty (leaf k t f) = ap (leaf k t) (join_empty f)
join_empty (node k c f) = ap (node k c) (join_empty f)

-- a token before a forest
token_row : (is_space : Bool) (k : SyntaxKind) (u : List ℕ) (ss : List Step) (f g : Forest) (fs : List Forest) → rebuilt ss ≡ join f g ∷ fs
    → rebuilt (step_if (not is_space) (step_with true false k (u, [])) ss) ≡ join (leaf_unless is_space k u f) g ∷ fs
token_row true k u ss f g fs h = h
token_row false k u ss f g fs h = ap (built false true k (u, [])) h

-- the text of a leaf, and the text that follows it
module _ (whole u behind : List ℕ) (s : ℕ) (at : drop s whole ≡ u ++ behind) where
  leaf_text : take (s + length u - s) (drop s whole) ≡ u
  leaf_text =
      let len : s + length u - s ≡ length u = omega arith in
      ap (λ m. take m (drop s whole)) len ∙ ap (take (length u)) at ∙ take_at u behind (length u) refl

  text_after : drop (s + length u) whole ≡ behind
  text_after = sym (drop-drop (length u) s whole) ∙ ap (drop (length u)) at ∙ drop_at u behind (length u) refl

-- the steps of a walk over a forest build its outline before the rest of the enclosing forest
rebuilds : (t : Tree) (n s : ℕ) (p : Option ℕ) (f : Forest) (more : List Event) (rest : List ℕ) (g : Forest) (fs : List Forest)
    → HasItemsAt t n (items_from n s p f) → drop s (text_of (forest_of t)) ≡ text_of f ++ rest → rebuilt (steps_of more) ≡ g ∷ fs
    → rebuilt (steps_of (map (event_at t) (steps_from n f) ++ more)) ≡ join (outline f) g ∷ fs
rebuilds t n s p empty more rest g fs here text h = h
rebuilds t n s p (leaf k u f) more rest g fs here text h =
    let whole : List ℕ = text_of (forest_of t) in
    let items = items_from (n + 1) (s + length u) p f in
    let remaining : List Event = map (event_at t) (steps_from (n + 1) f) ++ more in
    let is : item t n ≡ item_with false k s (s + length u) p 0 = first_item t n (item_with false k s (s + length u) p 0) items here in
    let at : drop s whole ≡ u ++ (text_of f ++ rest) = text ∙ append_assoc u (text_of f) rest in
    let shows : shown_token (located t n) ≡ (text_unless (same_kind k TOKEN_STRING_CONTENT) u, []) =
    token_shows t n k s (s + length u) p 0 remaining u whole refl is (leaf_text whole u (text_of f ++ rest) s at) in
    ap rebuilt (token_passed t n k s (s + length u) p 0 remaining is
    ∙ ap (λ x. step_if (not (same_kind k TOKEN_WHITESPACE)) (step_with true false k x) (steps_of remaining)) shows)
    ∙ token_row (same_kind k TOKEN_WHITESPACE) k (text_unless (same_kind k TOKEN_STRING_CONTENT) u) (steps_of remaining) (outline f) g fs
    (rebuilds t (n + 1) (s + length u) p f more rest g fs
    (back_items t n (n + 1) (item_with false k s (s + length u) p 0 ∷ []) items refl here) (text_after whole u (text_of f ++ rest) s at) h)
rebuilds t n s p (node k c f) more rest g fs here text h =
    let whole : List ℕ = text_of (forest_of t) in
    let m : ℕ = s + length (text_of c) in
    let j : ℕ = n + 1 + element_count c in
    let xs = items_from (n + 1) s (Some n) c in
    let ys = items_from j m p f in
    let steps : List Event = map (event_at t) (steps_from (n + 1) c) in
    let behind : List Event = map (event_at t) (steps_from j f) ++ more in
    let is : item t n ≡ item_with true k s m p (element_count c) = first_item t n (item_with true k s m p (element_count c)) (xs ++ ys) here in
    let below : HasItemsAt t (n + 1) (xs ++ ys) = back_items t n (n + 1) (item_with true k s m p (element_count c) ∷ []) (xs ++ ys) refl here in
    let at : drop s whole ≡ text_of c ++ (text_of f ++ rest) = text ∙ append_assoc (text_of c) (text_of f) rest in
    let after : rebuilt (steps_of behind) ≡ join (outline f) g ∷ fs =
    rebuilds t j m p f more rest g fs
    (back_items t (n + 1) j xs ys (ap (λ x. n + 1 + x) (length-items_from (n + 1) s (Some n) c)) below)
    (text_after whole (text_of c) (text_of f ++ rest) s at) h in
    let closed : rebuilt (steps_of (event_at t (false, n) ∷ behind)) ≡ empty ∷ (join (outline f) g ∷ fs) =
    remaining_after t n k s m p (element_count c) behind is ∙ ap (λ r. empty ∷ r) after in
    let inside : rebuilt (steps_of (steps ++ event_at t (false, n) ∷ behind)) ≡ join (outline c) empty ∷ (join (outline f) g ∷ fs) =
    rebuilds t (n + 1) s (Some n) c (event_at t (false, n) ∷ behind) (text_of f ++ rest) empty (join (outline f) g ∷ fs)
    (front_items t (n + 1) xs ys below) at closed in
    ap (λ x. rebuilt (steps_of (event_at t (true, n) ∷ (x ++ more))))
    (map-append (event_at t) (steps_from (n + 1) c) ((false, n) ∷ steps_from j f))
    ∙ ap (λ x. rebuilt (steps_of (event_at t (true, n) ∷ x)))
    (append_assoc steps (event_at t (false, n) ∷ map (event_at t) (steps_from j f)) more)
    ∙ entered t n k s m p (element_count c) (steps ++ event_at t (false, n) ∷ behind) is
    ∙ ap (built true true k (shown_node true (located t n))) inside
    ∙ ap (λ x. node k x (join (outline f) g) ∷ fs) (join_empty (outline c))

-- the steps of a walk over a tree build the tree's outline
pub rebuilt_tree : (t : Tree) → rebuilt (steps_in t) ≡ outline (forest_of t) ∷ []
rebuilt_tree t =
    ap (λ x. rebuilt (steps_of x)) (sym (append-nil (map (event_at t) (steps_from 0 (forest_of t)))))
    ∙ rebuilds t 0 0 None (forest_of t) [] [] empty []
    record { before = []; after = []; split = sym (append-nil (items_of t)); counted = refl }
    (sym (append-nil (text_of (forest_of t)))) refl
    ∙ ap (λ f. f ∷ []) (join_empty (outline (forest_of t)))

pub first_same : {A : Type 0} {x y : A} → x ∷ [] ≡ y ∷ [] → x ≡ y
first_same e = cc

-- trees whose walks have the same steps have the same outline
pub outlines_same : (old new : Tree) → steps_in new ≡ steps_in old → outline (forest_of new) ≡ outline (forest_of old)
outlines_same old new same = first_same (sym (rebuilt_tree new) ∙ ap rebuilt same ∙ rebuilt_tree old)

-- the values of the strings that steps enter, where `value` selects the value from what a step shows
abbrev pub values_shown : (Shown → List ℕ) → List Step → List (List ℕ)
values_shown value [] = []
values_shown value (s ∷ ss) = value_if (s.enters && (s.is_node && same_kind NODE_STRING s.kind)) (value s.shown) (values_shown value ss)

-- a string shows its values
string_shows : (is_string : Bool) (value : Shown → List ℕ) (shown : Shown) (values : List (List ℕ))
    → value_if is_string (value (if is_string then shown else ([], []))) values ≡ value_if is_string (value shown) values
string_shows true value shown values = refl
string_shows false value shown values = refl

token_no_value : (value : Shown → List ℕ) (is_space : Bool) (k : SyntaxKind) (u : Shown) (ss : List Step)
    → values_shown value (step_if (not is_space) (step_with true false k u) ss) ≡ values_shown value ss
token_no_value value true k u ss = refl
token_no_value value false k u ss = refl

-- the steps of events show the values of their strings
pub values_are : (value : Shown → List ℕ) (events : List Event)
    → values_shown value (steps_of events) ≡ values_in (λ e. value (both_values e)) events
values_are value [] = refl
values_are value ((true, (true, e)) ∷ events) =
    ap (value_if (same_kind NODE_STRING (item_of e).kind) (value (shown_node true e))) (values_are value events)
    ∙ string_shows (same_kind NODE_STRING (item_of e).kind) value (both_values e)
    (values_in (λ s. value (both_values s)) events)
values_are value ((false, (true, e)) ∷ events) = values_are value events
values_are value ((true, (false, e)) ∷ events) =
    token_no_value value (same_kind (item_of e).kind TOKEN_WHITESPACE) (item_of e).kind (shown_token e) (steps_of events) ∙ values_are value events
values_are value ((false, (false, e)) ∷ events) = values_are value events

-- trees whose walks have the same steps have strings with the same values
shown_same : (value : Shown → List ℕ) (old new : Tree) → steps_in new ≡ steps_in old
    → values_in (λ e. value (both_values e)) (preorder_of (located new 0))
    ≡ values_in (λ e. value (both_values e)) (preorder_of (located old 0))
shown_same value old new same =
    sym (values_are value (preorder_of (located new 0))) ∙ ap (values_shown value) same ∙ values_are value (preorder_of (located old 0))

pub values_same : (old new : Tree) → steps_in new ≡ steps_in old → string_values new ≡ string_values old
values_same old new same = shown_same (λ s. s.0) old new same

-- and with the same values in Nix
pub nix_values_same : (old new : Tree) → steps_in new ≡ steps_in old → nix_string_values new ≡ nix_string_values old
nix_values_same old new same = shown_same (λ s. s.1) old new same
