-- The item of an element of a forest, and the rest of a walk from it on, for a forest that begins with a certain tree.
use Rattle.std.proofs.Common.{◌≡◌, ℕ, ◌+◌, ◌-◌, ◌≤◌, ◌<◌, nat_lt, List, [], ◌∷◌, ◌++◌, length, get_or, Bool, true, false, Option, Some, refl, ap, ◌∙◌, arith}
use Rattle.std.{proofs.lemmas.{List.{get_or_append_left, get_or-append_right}, Grind.get_or_tail}, specs.Prelude.if◌then◌else◌}
use Rattle.{rnix_kinds.specs.declared.kinds.SyntaxKind.SyntaxKind, rnix_green.specs.{Forest.{Forest, empty, leaf, node, text_of, element_count}, Tree.Item}}
use Rattle.rnix_green.{specs.{Tree.{items_from, no_item}, Walk.{Step, steps_from}}, proofs.NumberTests.{is_same, is_above, is_below, is_not_below}}
use Rattle.{rnix_green.proofs.PieceLemmas.length-items_from, rnix_tree.specs.Cursor.{from_enter, from_leave}}

-- the item with number `m` of a forest that is numbered from `n`
abbrev pub at : ℕ → ℕ → Option ℕ → Forest → ℕ → Item
at n s p f m = get_or (items_from n s p f) (m - n) no_item

-- its item, if it is inside the first tree
pub at_inside : (n s : ℕ) (p : Option ℕ) (k : SyntaxKind) (c f : Forest) (m : ℕ) → n < m → m < n + 1 + element_count c
    → at n s p (node k c f) m ≡ at (n + 1) s (Some n) c m
at_inside n s p k c f m l h =
    let xs = items_from (n + 1) s (Some n) c in
    let ys = items_from (n + 1 + element_count c) (s + length (text_of c)) p f in
    let count : length xs ≡ element_count c = length-items_from (n + 1) s (Some n) c in
    let same : m - n - 1 ≡ m - (n + 1) = omega arith in
    get_or_tail _ (xs ++ ys) (m - n) no_item (omega arith) ∙ ap (λ j. get_or (xs ++ ys) j no_item) same
    ∙ get_or_append_left xs ys no_item (m - (n + 1)) (omega arith)

-- its item, if it is after the first tree, a node
pub at_behind : (n s : ℕ) (p : Option ℕ) (k : SyntaxKind) (c f : Forest) (m : ℕ) → n + 1 + element_count c ≤ m
    → at n s p (node k c f) m ≡ at (n + 1 + element_count c) (s + length (text_of c)) p f m
at_behind n s p k c f m h =
    let xs = items_from (n + 1) s (Some n) c in
    let ys = items_from (n + 1 + element_count c) (s + length (text_of c)) p f in
    let count : length xs ≡ element_count c = length-items_from (n + 1) s (Some n) c in
    let same : m - n - 1 - element_count c ≡ m - (n + 1 + element_count c) = omega arith in
    get_or_tail _ (xs ++ ys) (m - n) no_item (omega arith) ∙ get_or-append_right xs ys (element_count c) (m - n - 1) no_item count (omega arith)
    ∙ ap (λ j. get_or ys j no_item) same

-- its item, if it is after the first tree, a leaf
pub at_next : (n s : ℕ) (p : Option ℕ) (k : SyntaxKind) (t : List ℕ) (f : Forest) (m : ℕ) → n < m → at n s p (leaf k t f) m ≡ at (n + 1) (s + length t) p f m
at_next n s p k t f m l =
    let same : m - n - 1 ≡ m - (n + 1) = omega arith in
    get_or_tail _ (items_from (n + 1) (s + length t) p f) (m - n) no_item (omega arith)
    ∙ ap (λ j. get_or (items_from (n + 1) (s + length t) p f) j no_item) same

-- its item, if it is the first one
pub at_first : (n s : ℕ) (p : Option ℕ) (f : Forest) (i : Item) (is : List Item) → items_from n s p f ≡ i ∷ is → at n s p f n ≡ i
at_first n s p f i is e = let z : n - n ≡ 0 = omega arith in ap (λ j. get_or (items_from n s p f) j no_item) z ∙ ap (λ xs. get_or xs 0 no_item) e

-- the rest of the walk from where it enters an element inside the first tree
pub enter_inside : (m n : ℕ) (k : SyntaxKind) (c f : Forest) → n < m → m < n + 1 + element_count c
    → from_enter m n (node k c f) ≡ from_enter m (n + 1) c ++ (false, n) ∷ steps_from (n + 1 + element_count c) f
enter_inside m n k c f l h =
    let inner = from_enter m (n + 1) c ++ (false, n) ∷ steps_from (n + 1 + element_count c) f in
    let outer = from_enter m (n + 1 + element_count c) f in
    ap (λ b. if b then steps_from n (node k c f) else (if nat_lt m (n + 1 + element_count c) then inner else outer)) (is_above m n l)
    ∙ ap (λ b. if b then inner else outer) (is_below m (n + 1 + element_count c) h)

-- the same for an element after a node
pub enter_behind : (m n : ℕ) (k : SyntaxKind) (c f : Forest) → n + 1 + element_count c ≤ m
    → from_enter m n (node k c f) ≡ from_enter m (n + 1 + element_count c) f
enter_behind m n k c f h =
    let inner = from_enter m (n + 1) c ++ (false, n) ∷ steps_from (n + 1 + element_count c) f in
    let outer = from_enter m (n + 1 + element_count c) f in
    ap (λ b. if b then steps_from n (node k c f) else (if nat_lt m (n + 1 + element_count c) then inner else outer)) (is_above m n (omega arith))
    ∙ ap (λ b. if b then inner else outer) (is_not_below m (n + 1 + element_count c) h)

-- the same for an element after a leaf
pub enter_next : (m n : ℕ) (k : SyntaxKind) (t : List ℕ) (f : Forest) → n < m → from_enter m n (leaf k t f) ≡ from_enter m (n + 1) f
enter_next m n k t f l = ap (λ b. if b then steps_from n (leaf k t f) else from_enter m (n + 1) f) (is_above m n l)

-- the same for the first element: the whole walk
pub enter_here : (m n : ℕ) (f : Forest) → m ≡ n → 0 < element_count f → from_enter m n f ≡ steps_from n f
enter_here m n empty e l = absurd (omega arith)
enter_here m n (leaf k t f) e l = ap (λ b. if b then steps_from n (leaf k t f) else from_enter m (n + 1) f) (is_same m n e)
enter_here m n (node k c f) e l =
    ap (λ b. if b then steps_from n (node k c f) else (if nat_lt m (n + 1 + element_count c) then from_enter m (n + 1) c ++ (false, n)
    ∷ steps_from (n + 1 + element_count c) f else from_enter m (n + 1 + element_count c) f)) (is_same m n e)

-- the rest of the walk from where it leaves an element inside the first tree
pub leave_inside : (m n : ℕ) (k : SyntaxKind) (c f : Forest) → n < m → m < n + 1 + element_count c
    → from_leave m n (node k c f) ≡ from_leave m (n + 1) c ++ (false, n) ∷ steps_from (n + 1 + element_count c) f
leave_inside m n k c f l h =
    let inner = from_leave m (n + 1) c ++ (false, n) ∷ steps_from (n + 1 + element_count c) f in
    let outer = from_leave m (n + 1 + element_count c) f in
    ap (λ b. if b then (false, n) ∷ steps_from (n + 1 + element_count c) f else (if nat_lt m (n + 1 + element_count c) then inner else outer)) (is_above m n l)
    ∙ ap (λ b. if b then inner else outer) (is_below m (n + 1 + element_count c) h)

-- the same for an element after a node
pub leave_behind : (m n : ℕ) (k : SyntaxKind) (c f : Forest) → n + 1 + element_count c ≤ m
    → from_leave m n (node k c f) ≡ from_leave m (n + 1 + element_count c) f
leave_behind m n k c f h =
    let inner = from_leave m (n + 1) c ++ (false, n) ∷ steps_from (n + 1 + element_count c) f in
    let outer = from_leave m (n + 1 + element_count c) f in
    ap (λ b. if b then (false, n) ∷ steps_from (n + 1 + element_count c) f else (if nat_lt m (n + 1 + element_count c) then inner else outer))
    (is_above m n (omega arith))
    ∙ ap (λ b. if b then inner else outer) (is_not_below m (n + 1 + element_count c) h)

-- the same for an element after a leaf
pub leave_next : (m n : ℕ) (k : SyntaxKind) (t : List ℕ) (f : Forest) → n < m → from_leave m n (leaf k t f) ≡ from_leave m (n + 1) f
leave_next m n k t f l = ap (λ b. if b then (false, n) ∷ steps_from (n + 1) f else from_leave m (n + 1) f) (is_above m n l)

-- the same for the first element, if it is a leaf
pub leave_leaf : (m n : ℕ) (k : SyntaxKind) (t : List ℕ) (f : Forest) → m ≡ n → from_leave m n (leaf k t f) ≡ (false, n) ∷ steps_from (n + 1) f
leave_leaf m n k t f e = ap (λ b. if b then (false, n) ∷ steps_from (n + 1) f else from_leave m (n + 1) f) (is_same m n e)

-- the same for the first element, if it is a node
pub leave_node : (m n : ℕ) (k : SyntaxKind) (c f : Forest) → m ≡ n → from_leave m n (node k c f) ≡ (false, n) ∷ steps_from (n + 1 + element_count c) f
leave_node m n k c f e =
    ap (λ b. if b then (false, n) ∷ steps_from (n + 1 + element_count c) f else (if nat_lt m (n + 1 + element_count c) then from_leave m (n + 1) c
    ++ (false, n) ∷ steps_from (n + 1 + element_count c) f else from_leave m (n + 1 + element_count c) f)) (is_same m n e)

-- a forest without elements has no steps
pub none_from_count : (f : Forest) (n : ℕ) → element_count f ≡ 0 → steps_from n f ≡ []
none_from_count empty n e = refl
none_from_count (leaf k t f) n e = absurd (omega arith)
none_from_count (node k c f) n e = absurd (omega arith)

-- steps after a choice are a choice of the steps with these after them
pub append_choice : (b : Bool) (x y z : List Step) → (if b then x else y) ++ z ≡ (if b then x ++ z else y ++ z)
append_choice true x y z = refl
append_choice false x y z = refl

-- what equals both values of a choice, each by its test, equals the choice
pub either : (b : Bool) (x u v : List Step) → (b ≡ true → x ≡ u) → (b ≡ false → x ≡ v) → x ≡ (if b then u else v)
either true x u v g h = g refl
either false x u v g h = h refl
