-- The errors of error nodes belong, one by one, to the error nodes that a walk leaves.
use Rattle.std.proofs.Common.{◌≡◌, ℕ, ◌+◌, Bool, true, false, List, [], ◌∷◌, ◌++◌, map, Option, refl, ap, sym, ◌∙◌, arith, if◌then◌else◌, ◌||◌}
use Rattle.std.proofs.lemmas.List.{map-append}
use Rattle.rnix_green.specs.{Forest.{Forest, empty, leaf, node, element_count}, Tree.{Tree, Item, item}, Walk.{Step, Event, event_at, steps_from}}
use Rattle.rnix_grammar.specs.{Fault.{Fault, unexpected_eof, unexpected_eof_wanted, duplicated_args}, Repaired.others, Shape.{name_if, with_name}, Ranges.{of_nodes, is_error_node}}
use Rattle.{rnix_grammar.specs.Ranges.{leaves_error, errors_remaining, is_among_if, at_fault_from, AreErrorsOf}, rnix_proof_rows.proofs.RowsIn.{IsRowIn, row_first}}
use Rattle.rnix_proof_rows.proofs.RowsIn.{row_inside, row_behind_leaf, row_behind_node}

-- the elements of a list that are error nodes
abbrev errors_among : Tree → List ℕ → List ℕ
errors_among t [] = []
errors_among t (m ∷ ms) = if is_error_node (item t m).kind then m ∷ errors_among t ms else errors_among t ms

errors_among-++ : (t : Tree) (ms ns : List ℕ) → errors_among t (ms ++ ns) ≡ errors_among t ms ++ errors_among t ns
errors_among-++ t [] ns = refl
errors_among-++ t (m ∷ ms) ns =
    elim (is_error_node (item t m).kind) as
    (λ b. (if b then m ∷ errors_among t (ms ++ ns) else errors_among t (ms ++ ns)) ≡ (if b then m ∷ errors_among t ms else errors_among t ms)
    ++ errors_among t ns)
    [ true ↦ ap (λ z. m ∷ z) (errors_among-++ t ms ns) | false ↦ errors_among-++ t ms ns ]

-- the errors of error nodes are those of the elements that are error nodes
pub node_errors : (t : Tree) (es : List Fault) (ms : List ℕ) → AreErrorsOf t (others es) ms → AreErrorsOf t (of_nodes es) (errors_among t ms)
node_errors t [] [] h = tt
node_errors t [] (m ∷ ms) h = absurd h
node_errors t (unexpected_eof ∷ es) ms h = node_errors t es ms h
node_errors t (unexpected_eof_wanted kinds ∷ es) ms h = node_errors t es ms h
node_errors t (duplicated_args range name ∷ es) [] h = absurd h
node_errors t (duplicated_args range name ∷ es) (m ∷ ms) h = rw h.0.entry_is (node_errors t es ms h.1)
node_errors t (_ ∷ es) [] h = absurd h
node_errors t (_ ∷ es) (m ∷ ms) h = rw h.0.kind_is (h.0, node_errors t es ms h.1)

-- the error nodes that are left by the steps of a walk
abbrev errors_at : Tree → List Step → List ℕ
errors_at t xs = errors_remaining (map (event_at t) xs)

errors_remaining-++ : (xs ys : List Event) → errors_remaining (xs ++ ys) ≡ errors_remaining xs ++ errors_remaining ys
errors_remaining-++ [] ys = refl
errors_remaining-++ (x ∷ xs) ys =
    elim (leaves_error x) as
    (λ b. (if b then x.1.1.number ∷ errors_remaining (xs ++ ys) else errors_remaining (xs ++ ys))
    ≡ (if b then x.1.1.number ∷ errors_remaining xs else errors_remaining xs)
    ++ errors_remaining ys)
    [ true ↦ ap (λ z. x.1.1.number ∷ z) (errors_remaining-++ xs ys) | false ↦ errors_remaining-++ xs ys ]

-- steps after others leave their error nodes after those of the others
errors_at-++ : (t : Tree) (xs ys : List Step) → errors_at t (xs ++ ys) ≡ errors_at t xs ++ errors_at t ys
errors_at-++ t xs ys = ap errors_remaining (map-append (event_at t) xs ys) ∙ errors_remaining-++ (map (event_at t) xs) (map (event_at t) ys)

-- a step that leaves an element leaves it as an error node exactly if it is one
remaining_at : (t : Tree) (n : ℕ) (v w : Bool) (xs : List Step) → (item t n).is_node ≡ v → is_error_node (item t n).kind ≡ w
    → errors_at t ((false, n) ∷ xs) ≡ (if (if v then w else false) then n ∷ errors_at t xs else errors_at t xs)
remaining_at t n v w xs e f =
    ap (λ b. if (if b then is_error_node (item t n).kind else false) then n ∷ errors_at t xs else errors_at t xs) e
    ∙ ap (λ z. if (if v then z else false) then n ∷ errors_at t xs else errors_at t xs) f

-- of a node that is at fault, only an error node is listed
own_error : (t : Tree) (n : ℕ) (w u : Bool) (ms : List ℕ) → is_error_node (item t n).kind ≡ w
    → errors_among t ((if w || u then n ∷ [] else []) ++ ms) ≡ (if w then n ∷ errors_among t ms else errors_among t ms)
own_error t n true u ms e = ap (λ z. if z then n ∷ errors_among t ms else errors_among t ms) e
own_error t n false true ms e = ap (λ z. if z then n ∷ errors_among t ms else errors_among t ms) e
own_error t n false false ms e = refl

-- a walk over a forest leaves those of its elements at fault that are error nodes
pub walk_errors : (t : Tree) (n s : ℕ) (p : Option ℕ) (names : List (List ℕ)) (f : Forest) → IsRowIn t n s p f
    → errors_at t (steps_from n f) ≡ errors_among t (at_fault_from n names f)
walk_errors t n s p names empty h = refl
walk_errors t n s p names (leaf k x f) h =
    let first : item t n ≡ _ = row_first t n s p (leaf k x f) h (omega arith) in
    remaining_at t n false (is_error_node (item t n).kind) (steps_from (n + 1) f) (ap (λ (i : Item). i.is_node) first) refl
    ∙ walk_errors t (n + 1) _ p names f (row_behind_leaf t n s p k x f h)
walk_errors t n s p names (node k c f) h =
    let first : item t n ≡ _ = row_first t n s p (node k c f) h (omega arith) in
    let error : is_error_node (item t n).kind ≡ is_error_node k = ap (λ (i : Item). is_error_node i.kind) first in
    let inner : List Step = steps_from (n + 1) c in
    let outer : List Step = steps_from (n + 1 + element_count c) f in
    let below : List ℕ = at_fault_from (n + 1) [] c in
    let behind : List ℕ = at_fault_from (n + 1 + element_count c) (with_name (name_if k c) names) f in
    errors_at-++ t inner ((false, n) ∷ outer)
    ∙ rw (
      walk_errors t (n + 1) s _ [] c (row_inside t n s p k c f h),
      errors_among-++ t below
          ((if is_error_node k || is_among_if (name_if k c) names then n ∷ [] else []) ++ behind),
    )
    (ap (λ z. errors_among t below ++ z)
    (remaining_at t n true (is_error_node k) outer (ap (λ (i : Item). i.is_node) first) error
    ∙ ap (λ z. if is_error_node k then n ∷ z else z) (walk_errors t (n + 1 + element_count c) _ p (with_name (name_if k c) names) f
    (row_behind_node t n s p k c f h))
    ∙ sym (own_error t n (is_error_node k) (is_among_if (name_if k c) names) behind error)))
