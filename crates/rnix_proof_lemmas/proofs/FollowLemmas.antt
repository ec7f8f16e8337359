-- Which items continue a tree, by the tree's level.
use Rattle.std.{specs.List.list_all, proofs.{lemmas.Bool.and_from, Common.{◌≡◌, ℕ, ◌≤◌, Bool, true, false, refl, sym, ◌∙◌, subst, arith, ◌||◌, ◌&&◌}}}
use Rattle.std.proofs.Common.{if◌then◌else◌, nat_eq, nat_le}
use Rattle.rnix_kinds.{specs.{declared.kinds.SyntaxKind.{SyntaxKind, TheVariants.NODE_PAREN}, SyntaxKind.is_fn_arg}, proofs.AllKinds.{all_kinds, every}}
use Rattle.{rnix_kinds.proofs.AllKinds.implied, rnix_grammar.specs.{Levels.{binding_power, left_of, max_bp_of}, TokenKinds.{is_or, is_question, is_dot}}}
use Rattle.rnix_grammar.specs.{NodeClasses.{is_atom, is_infix}, AnnotatedForest.{Token, AnnotatedForest, blank, token, branch, fault}, TreeLevels.row_level}
use Rattle.{rnix_grammar.specs.{TreeLevels.{level_of, is_atom_row}, Operands.follows}, rnix_proof_lemmas.proofs.{EntryNames.if_not, Basics.true_is_not_false}}
use Rattle.rnix_proof_lemmas.proofs.{Basics.not_if, LevelLemmas.{within, at_most, same_number, at_most_true}, TokenEnds.left_least}

-- how an item continues a tree of a level that is an atom or not: as an operator, by `?`, as an argument, or by `.` or `or`
pub data Follows (j : SyntaxKind) (v : ℕ) (w : Bool) : Type 0 where
  by_operator : is_infix j ≡ true → left_of j ≤ v → Follows j v w
  by_question : binding_power j ≡ 13 → 13 ≤ v → Follows j v w
  by_argument : binding_power j ≡ 15 → 15 ≤ v → Follows j v w
  by_name : binding_power j ≡ 16 → w ≡ true → Follows j v w

-- an item continues a tree in one of these ways
pub follows_by : (j : SyntaxKind) (x : AnnotatedForest) → follows j x ≡ true → Follows j (row_level x) (is_atom_row x)
follows_by j x h = by (is_infix j) (is_question j) (is_fn_arg j) (is_dot j || is_or j) refl refl refl refl h
  where
    by : (a b c d : Bool) → is_infix j ≡ a → is_question j ≡ b → is_fn_arg j ≡ c → (is_dot j || is_or j) ≡ d
        → (if a then nat_le (left_of j) (row_level x) else (if b then nat_le 13
        (row_level x) else (if c then nat_le 15 (row_level x) else (d && is_atom_row x)))) ≡ true
        → Follows j (row_level x) (is_atom_row x)
    by true b c d e f g k h = by_operator e (at_most (left_of j) (row_level x) h)
    by false true c d e f g k h = by_question (same_number (binding_power j) 13 (implied is_question (λ o. nat_eq (binding_power o) 13) refl j f))
        (at_most 13 (row_level x) h)
    by false false true d e f g k h = by_argument (same_number (binding_power j) 15 (implied is_fn_arg (λ o. nat_eq (binding_power o) 15) refl j g))
        (at_most 15 (row_level x) h)
    by false false false true e f g k h =
        by_name (same_number (binding_power j) 16 (implied (λ o. is_dot o || is_or o) (λ o. nat_eq (binding_power o) 16) refl j k)) h
    by false false false false e f g k h = absurd (true_is_not_false (sym h))

-- an atom is at level 16, as tight as any operator requires
pub atom_is_selection_level : (k : SyntaxKind) (c : AnnotatedForest) → is_atom k ≡ true → level_of k c ≡ 16
atom_is_selection_level NODE_PAREN c h = refl
atom_is_selection_level _ c h = cc

-- a forest of one atom is at level 16
pub atom_level : (x : AnnotatedForest) → is_atom_row x ≡ true → row_level x ≡ 16
atom_level (branch k c f) h = atom_is_selection_level k c h
atom_level (fault n c f) h = refl
atom_level blank h = absurd (true_is_not_false (sym h))
atom_level (token k t f) h = absurd (true_is_not_false (sym h))

-- what continues a tree binds no tighter than the tree
pub follows_level : (i : SyntaxKind) (x : AnnotatedForest) → follows i x ≡ true → binding_power i ≤ row_level x
follows_level i x h = by (follows_by i x h) refl refl
  where
    by : {v : ℕ} {w : Bool} → Follows i v w → v ≡ row_level x → w ≡ is_atom_row x → binding_power i ≤ row_level x
    by (by_operator o l) d e = omega (arith, l, d, left_least i o)
    by (by_question p l) d e = omega (arith, l, d, p)
    by (by_argument p l) d e = omega (arith, l, d, p)
    by (by_name p e) d u = omega (arith, p, atom_level x (sym u ∙ e))

-- an item continues the tree exactly if it has a binding power, and binds no tighter than the level
abbrev pub FollowedTo : ℕ → AnnotatedForest → Type 0
FollowedTo max_bp x = (j : SyntaxKind) → ((1 ≤ binding_power j → binding_power j ≤ max_bp → follows j x ≡ true)
    × (follows j x ≡ true → (1 ≤ binding_power j) × (binding_power j ≤ max_bp)))

-- an item of the kind may continue a tree of the level, which is an atom or is not
abbrev pub goes_after : SyntaxKind → ℕ → Bool → Bool
goes_after kind level atom =
    if is_infix kind then nat_le (left_of kind) level
    else (if is_question kind then nat_le 13 level else (if is_fn_arg kind then nat_le 15 level else ((is_dot kind || is_or kind) && atom)))

-- an item of the kind may continue such a tree exactly if it binds no tighter than another level
abbrev pub is_followed : ℕ → Bool → ℕ → SyntaxKind → Bool
is_followed level atom max_bp j =
    if nat_le 1 (binding_power j) && nat_le (binding_power j) max_bp then goes_after j level atom else (if goes_after j level atom then false else true)

both_ways : (p max_bp : ℕ) (w : Bool) → (if nat_le 1 p && nat_le p max_bp then w else (if w then false else true)) ≡ true
    → (1 ≤ p → p ≤ max_bp → w ≡ true) × (w ≡ true → (1 ≤ p) × (p ≤ max_bp))
both_ways p max_bp true h = (λ a b. refl, λ e. within 1 p max_bp (sym (if_not (nat_le 1 p && nat_le p max_bp)) ∙ h))
both_ways p max_bp false h = (
  λ a b. absurd (true_is_not_false (sym (and_from _ _ (at_most_true 1 p a) (at_most_true p max_bp b)) ∙ not_if (nat_le 1 p && nat_le p max_bp) h)),
  λ e. absurd (true_is_not_false (sym e)),
)

-- what is computed for all kinds says which items continue a tree of the level
pub followed_by : (level : ℕ) (atom : Bool) (max_bp : ℕ) → list_all (is_followed level atom max_bp) all_kinds ≡ true → (x : AnnotatedForest)
    → row_level x ≡ level → is_atom_row x ≡ atom → FollowedTo max_bp x
followed_by level atom max_bp h x e f j =
    both_ways (binding_power j) max_bp (follows j x) (subst (λ (a : Bool). is_followed (row_level x) a max_bp j ≡ true) (sym f)
    (subst (λ (l : ℕ). is_followed l atom max_bp j ≡ true) (sym e) (every (is_followed level atom max_bp) h j)))

-- an atom or an error node is followed by anything that binds no tighter than 16
pub followed_atom : (x : AnnotatedForest) → row_level x ≡ 16 → is_atom_row x ≡ true → FollowedTo 16 x
followed_atom = followed_by 16 true 16 refl

-- a selection, or a call whose argument is the name `or`, is followed by what binds no tighter than 15
pub followed_selection : (x : AnnotatedForest) → row_level x ≡ 16 → is_atom_row x ≡ false → FollowedTo 15 x
followed_selection = followed_by 16 false 15 refl

-- any other call is followed by what binds no tighter than 15
pub followed_call : (x : AnnotatedForest) → row_level x ≡ 15 → is_atom_row x ≡ false → FollowedTo 15 x
followed_call = followed_by 15 false 15 refl

-- a negation is followed by what binds no tighter than 13
pub followed_negated : (x : AnnotatedForest) → row_level x ≡ 14 → is_atom_row x ≡ false → FollowedTo 13 x
followed_negated = followed_by 14 false 13 refl

-- a test for an attribute is followed by what binds no tighter than 13
pub followed_question : (x : AnnotatedForest) → row_level x ≡ 13 → is_atom_row x ≡ false → FollowedTo 13 x
followed_question = followed_by 13 false 13 refl

-- an inversion is followed by what binds no tighter than 8
pub followed_inverted : (x : AnnotatedForest) → row_level x ≡ 9 → is_atom_row x ≡ false → FollowedTo 8 x
followed_inverted = followed_by 9 false 8 refl

-- an expression that extends as far as possible is followed by what binds no tighter than 0
pub followed_keyword : (x : AnnotatedForest) → row_level x ≡ 0 → is_atom_row x ≡ false → FollowedTo 0 x
followed_keyword = followed_by 0 false 0 refl

-- a binary operation is followed by what binds no tighter than its operator's `max_bp`
pub followed_infix : (k : SyntaxKind) → is_infix k ≡ true → (x : AnnotatedForest) → row_level x ≡ binding_power k → is_atom_row x ≡ false
    → FollowedTo (max_bp_of k) x
followed_infix k h = followed_by (binding_power k) false (max_bp_of k)
    (implied is_infix (λ i. list_all (is_followed (binding_power i) false (max_bp_of i)) all_kinds) refl k h)

-- no item continues a forest that begins with a token
pub follows_token : (i k : SyntaxKind) (t : Token) (f : AnnotatedForest) → follows i (token k t f) ≡ true → ⊥
follows_token i k t f h = let w = (followed_keyword (token k t f) refl refl i).1 h in omega (arith, w.0, w.1)
