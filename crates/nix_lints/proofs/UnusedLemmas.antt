-- The bindings that are not marked are those that are not used.
use Rattle.std.proofs.Common.{◌≡◌, ℕ, suc, ◌+◌, ◌<◌, ◌==◌, List, [], ◌∷◌, ◌++◌, length, take, map, get_or, Bool, true, false, nat_eq, Some, refl, ap, sym, ◌∙◌, subst, arith}
use Rattle.std.{proofs.{Common.append_assoc, lemmas.List.{append-nil, take_more, length-take-le}}, specs.Prelude.{◌&&◌, ◌||◌, not}}
use Rattle.{std.specs.{Cow.cow_str_bytes, Prelude.if◌then◌else◌, List.list_any, BTreeSet.BTreeSet}, nix_scopes.specs.declared.resolution.Binding.Binding}
use Rattle.nix_scopes.specs.{declared.resolution.Reference.Reference, Bound.{bound_of, resolved_of, bindings_of, references_of, AreFirst}, declared.resolution.Resolution.Resolution, Occurrences.is_number, Scopes.{Bound, Resolved}}
use Rattle.{nix_scopes.specs.{Scopes.number_in, Resolved.{bindings_in, resolved_in}}, rnix_green.specs.Tree.Located, nix_lints.specs.declared.unused.UnusedName.UnusedName}
use Rattle.nix_lints.specs.UnusedNames.{written_name, refers, is_reportable, written, is_used, is_unused, unused_from, unused_in, marked, AreMarked, unmarked, unmarked_from, Resolves}
use Rattle.nix_lints.specs.UnusedNames.{is_pattern_name, scope_start, has_used_pattern_name, is_marked_pattern_name, has_marked_pattern_name, has_offset}

-- an offset is in the set exactly if the function that starts there has a marked name of its whole pattern
abbrev pub AreUsedPatterns : List Bool → List Binding → BTreeSet ℕ → Type 0
AreUsedPatterns marks bindings patterns = (start : ℕ) → has_offset patterns start ≡ has_marked_pattern_name marks start 0 bindings

or-nil : (b : Bool) → (b || false) ≡ b
or-nil true = refl
or-nil false = refl

or-assoc : (a b c : Bool) → (a || (b || c)) ≡ ((a || b) || c)
or-assoc true b c = refl
or-assoc false b c = refl

-- one more binding
pub pattern_push : (marks : List Bool) (start n m : ℕ) (xs : List Binding) (x : Binding) → m ≡ n + length xs →
    has_marked_pattern_name marks start n (xs ++ x ∷ []) ≡ (has_marked_pattern_name marks start n xs || is_marked_pattern_name marks start m x)
pattern_push marks start n m [] x is =
    (let same : n ≡ m = omega (arith, is) in or-nil (is_marked_pattern_name marks start n x) ∙ ap (λ k. is_marked_pattern_name marks start k x) same)
pattern_push marks start n m (y ∷ xs) x is =
    ap (λ rest. is_marked_pattern_name marks start n y || rest) (pattern_push marks start (n + 1) m xs x (omega (arith, is)))
    ∙ or-assoc (is_marked_pattern_name marks start n y) (has_marked_pattern_name marks start (n + 1) xs) (is_marked_pattern_name marks start m x)

-- one more binding of a list
pub pattern_more : (marks : List Bool) (start : ℕ) (xs : List Binding) (i : ℕ) (x : Binding) → i < length xs → x ≡ get_or xs i x →
    has_marked_pattern_name marks start 0 (take (i + 1) xs) ≡ (has_marked_pattern_name marks start 0 (take i xs) || is_marked_pattern_name marks start i x)
pattern_more marks start xs i x l at =
    ap (has_marked_pattern_name marks start 0) (take_more xs i x l) ∙ ap (λ y. has_marked_pattern_name marks start 0 (take i xs ++ y ∷ [])) (sym at)
    ∙ pattern_push marks start 0 i (take i xs) x (omega (arith, length-take-le i xs (omega (arith, l))))

-- a name of a whole pattern is marked exactly if it is referred to
pub pattern_used : (names : List Resolved) (marks : List Bool) (start n : ℕ) (xs : List Binding) →
    ((k : ℕ) → k < length xs → get_or marks (n + k) false ≡ list_any (refers (n + k)) names) →
    has_marked_pattern_name marks start n xs ≡ has_used_pattern_name names start n (map bound_of xs)
pattern_used names marks start n [] known = refl
pattern_used names marks start n (x ∷ xs) known =
    let none : n + 0 ≡ n = omega arith in
    let here : get_or marks n false ≡ list_any (refers n) names =
    subst (λ k. get_or marks k false ≡ list_any (refers k) names) none (known 0 (omega arith)) in
    ap (λ b. (b && (is_pattern_name (bound_of x) && (start == scope_start (bound_of x)))) || has_marked_pattern_name marks start (n + 1) xs) here
    ∙ ap (λ rest. (list_any (refers n) names && (is_pattern_name (bound_of x) && (start == scope_start (bound_of x)))) || rest)
    (pattern_used names marks start (n + 1) xs (λ k l. let same : n + suc k ≡ n + 1 + k = omega arith in
    subst (λ j. get_or marks j false ≡ list_any (refers j) names) same (known (suc k) (omega (arith, l)))))

-- one more binding
pub unmarked_push : (marks : List Bool) (patterns : BTreeSet ℕ) (n m : ℕ) (xs : List Binding) (x : Binding) → m ≡ n + length xs →
    unmarked_from marks patterns n (xs ++ x ∷ []) ≡ unmarked_from marks patterns n xs ++ unmarked marks patterns m x
unmarked_push marks patterns n m [] x is =
    (let same : n ≡ m = omega (arith, is) in append-nil (unmarked marks patterns n x) ∙ ap (λ k. unmarked marks patterns k x) same)
unmarked_push marks patterns n m (y ∷ xs) x is =
    ap (λ rest. unmarked marks patterns n y ++ rest) (unmarked_push marks patterns (n + 1) m xs x (omega (arith, is)))
    ∙ sym (append_assoc (unmarked marks patterns n y) (unmarked_from marks patterns (n + 1) xs) (unmarked marks patterns m x))

-- what is known about the binding with a number
pub record IsKnown (all : List Bound) (names : List Resolved) (marks : List Bool) (patterns : BTreeSet ℕ) (number : ℕ) (binding : Binding) : Type 0 where
  pub first : number_in all (cow_str_bytes binding.text) binding.scope ≡ Some binding.first
  pub mark : (get_or marks number true || has_offset patterns (scope_start (bound_of binding))) ≡ is_used all names number (bound_of binding)

-- the bindings that are not marked are unused
pub unmarked_unused : (all : List Bound) (names : List Resolved) (marks : List Bool) (patterns : BTreeSet ℕ) (n : ℕ) (xs : List Binding) →
    ((k : ℕ) (d : Binding) → k < length xs → IsKnown all names marks patterns (n + k) (get_or xs k d)) →
    unmarked_from marks patterns n xs ≡ unused_from all names n (map bound_of xs)
unmarked_unused all names marks patterns n [] known = refl
unmarked_unused all names marks patterns n (x ∷ xs) known =
    let here : IsKnown all names marks patterns n x =
    (let same : n + 0 ≡ n = omega arith in subst (λ k. IsKnown all names marks patterns k x) same (known 0 x (omega arith))) in
    let first : nat_eq x.first n ≡ is_number n (number_in all (cow_str_bytes x.text) x.scope) = ap (is_number n) (sym here.first) in
    let is_used_here = get_or marks n true || has_offset patterns (scope_start (bound_of x)) in
    ap (λ b. (if b && (is_reportable (bound_of x) && not is_used_here) then written (bound_of x) ∷ [] else []) ++ unmarked_from marks patterns (n + 1) xs) first
    ∙ ap (λ b. (if is_number n (number_in all (cow_str_bytes x.text) x.scope) && (is_reportable (bound_of x) && not b) then written (bound_of x) ∷ [] else [])
    ++ unmarked_from marks patterns (n + 1) xs) here.mark
    ∙ ap (λ rest. (if is_unused all names n (bound_of x) then written (bound_of x) ∷ [] else []) ++ rest)
    (unmarked_unused all names marks patterns (n + 1) xs (λ k d l. let same : n + suc k ≡ n + 1 + k = omega arith in
    subst (λ j. IsKnown all names marks patterns j (get_or xs k d)) same (known (suc k) d (omega (arith, l)))))

-- the unused names of a text
pub unmarked_in : (bindings : List Binding) (references : List Reference) (marks : List Bool) (patterns : BTreeSet ℕ) → AreFirst bindings →
    AreMarked (length bindings) references marks → AreUsedPatterns marks bindings patterns →
    unmarked_from marks patterns 0 bindings ≡ unused_from (map bound_of bindings) (map resolved_of references) 0 (map bound_of bindings)
unmarked_in bindings references marks patterns firsts marked are_wholes =
    let all = map bound_of bindings in
    let names = map resolved_of references in
    let zero_more : (k : ℕ) → 0 + k ≡ k = λ k. omega arith in
    let whole : (start : ℕ) → has_offset patterns start ≡ has_used_pattern_name names start 0 all = λ start. are_wholes start
    ∙ pattern_used names marks start 0 bindings (λ k l. marked.marks_are (0 + k) false (subst (λ j. j < length bindings) (sym (zero_more k)) l)) in
    unmarked_unused all names marks patterns 0 bindings
    (λ k d l. subst (λ j. IsKnown all names marks patterns j (get_or bindings k d)) (sym (zero_more k))
    (record {
      first = firsts k d l;
      mark = ap (λ b. b || has_offset patterns (scope_start (bound_of (get_or bindings k d)))) (marked.marks_are k true l)
          ∙ ap (λ b. list_any (refers k) names || b) (whole (scope_start (bound_of (get_or bindings k d))));
    }))

-- one more binding of a list
pub unmarked_more : (marks : List Bool) (patterns : BTreeSet ℕ) (xs : List Binding) (i : ℕ) (x : Binding) → i < length xs → x ≡ get_or xs i x →
    unmarked_from marks patterns 0 (take (i + 1) xs) ≡ unmarked_from marks patterns 0 (take i xs) ++ unmarked marks patterns i x
unmarked_more marks patterns xs i x l at =
    ap (unmarked_from marks patterns 0) (take_more xs i x l) ∙ ap (λ y. unmarked_from marks patterns 0 (take i xs ++ y ∷ [])) (sym at)
    ∙ unmarked_push marks patterns 0 i (take i xs) x (omega (arith, length-take-le i xs (omega (arith, l))))

-- the names that are not marked are the unused names of a text
pub unused_exactly : (root : Located) (names : Resolution) (marks : List Bool) (patterns : BTreeSet ℕ) (unused : List UnusedName) →
    Resolves root names → AreMarked (length (bindings_of names)) (references_of names) marks → AreUsedPatterns marks (bindings_of names) patterns →
    map written_name unused ≡ unmarked_from marks patterns 0 (bindings_of names) → map written_name unused ≡ unused_in root
unused_exactly root names marks patterns unused are are_marked are_wholes is =
    is ∙ unmarked_in (bindings_of names) (references_of names) marks patterns are.firsts are_marked are_wholes
    ∙ ap (λ bs. unused_from bs (map resolved_of (references_of names)) 0 bs) are.bindings
    ∙ ap (λ rs. unused_from (bindings_in root) rs 0 (bindings_in root)) are.resolved
