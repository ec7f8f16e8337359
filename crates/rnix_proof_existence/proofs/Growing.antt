-- Which trees may be operands, and how they may continue, by their kinds and levels.
use Rattle.{std.proofs.Common.{◌≡◌, ℕ, ◌≤◌, Bool, true, false, refl, arith, ap, if◌then◌else◌}, rnix_kinds.specs.declared.kinds.SyntaxKind.SyntaxKind}
use Rattle.{rnix_kinds.specs.declared.kinds.SyntaxKind.TheVariants.{NODE_APPLY, NODE_BIN_OP, NODE_IDENT, NODE_LITERAL}, rnix_grammar.specs.Levels.binding_power}
use Rattle.rnix_grammar.specs.{Levels.max_bp_of, AnnotatedForest.{AnnotatedForest, branch, one_branch}, NodeClasses.{is_atom, is_infix, fits}, TreeLevels.row_level}
use Rattle.{rnix_grammar.specs.TreeLevels.{is_or_row, is_atom_row, calls_or}, rnix_proof_lemmas.proofs.{Basics.true_is_not_false, KindsOfNodes.is_error}}
use Rattle.rnix_proof_lemmas.proofs.{LevelLemmas.{operates, atom_fits, simple_fits, fits_looser}, FollowLemmas.{FollowedTo, followed_atom, followed_selection}}
use Rattle.rnix_proof_lemmas.proofs.FollowLemmas.{followed_call, followed_infix}

-- the kind by which a row continues after a tree: an error node counts as a literal
abbrev pub seen_kind : AnnotatedForest → SyntaxKind
seen_kind (branch k c f) = k
seen_kind f = NODE_LITERAL

-- A single tree may be an operand of a level, and only what binds no tighter than another level continues it.
pub record MayGrow (min_bp max_bp : ℕ) (x : AnnotatedForest) : Type 0 where
  pub fit : fits min_bp (seen_kind x) ≡ true
  pub tight : fits max_bp (seen_kind x) ≡ true
  pub least : min_bp ≤ row_level x
  pub follow : FollowedTo max_bp x
  pub no_or : is_or_row x ≡ false

-- a node whose leaves keep their tokens' kinds is not the name `or`
pub no_name : (k : SyntaxKind) (c : AnnotatedForest) → is_error k ≡ false → is_or_row (one_branch k c) ≡ false
no_name NODE_IDENT c h = absurd (true_is_not_false h)
no_name _ c h = refl

-- an atom alone, or an error node, counts as an atom
pub atom_seen : (x : AnnotatedForest) → is_atom_row x ≡ true → is_atom (seen_kind x) ≡ true
atom_seen (branch k c f) h = h
atom_seen _ h = cc

-- a tree that fits its own level may be an operand of each looser one, and may be continued by what may follow it
pub grows_by : (min_bp max_bp : ℕ) (x : AnnotatedForest) → fits (row_level x) (seen_kind x) ≡ true → min_bp ≤ row_level x → max_bp ≤ row_level x
    → FollowedTo max_bp x
    → is_or_row x ≡ false
    → MayGrow min_bp max_bp x
grows_by min_bp max_bp x f l h w o = record {
  fit = fits_looser min_bp (row_level x) (seen_kind x) l f;
  tight = fits_looser max_bp (row_level x) (seen_kind x) h f;
  least = l;
  follow = w;
  no_or = o;
}

-- anything may continue an atom
pub atom_grows : (min_bp : ℕ) (x : AnnotatedForest) → is_atom_row x ≡ true → row_level x ≡ 16 → is_or_row x ≡ false → min_bp ≤ 16 → MayGrow min_bp 16 x
atom_grows min_bp x h v o l =
    grows_by min_bp 16 x (atom_fits (row_level x) (seen_kind x) (atom_seen x h)) (omega (arith, v, l)) (omega (arith, v)) (followed_atom x v h) o

-- arguments and everything looser may continue a call
pub call_grows : (min_bp : ℕ) (c : AnnotatedForest) → min_bp ≤ row_level (one_branch NODE_APPLY c) → MayGrow min_bp 15 (one_branch NODE_APPLY c)
call_grows min_bp c l = by (calls_or c) refl
  where
    x : AnnotatedForest
    x = one_branch NODE_APPLY c

    level : (w : Bool) → calls_or c ≡ w → row_level x ≡ (if w then 16 else 15)
    level w e = ap (λ z. if z then 16 else 15) e

    by : (w : Bool) → calls_or c ≡ w → MayGrow min_bp 15 x
    by true e = grows_by min_bp 15 x (simple_fits (row_level x) NODE_APPLY refl) l (omega (arith, level true e)) (followed_selection x (level true e) refl) refl
    by false e = grows_by min_bp 15 x (simple_fits (row_level x) NODE_APPLY refl) l (omega (arith, level false e)) (followed_call x (level false e) refl) refl

-- operators up to `max_bp_of` of a binary operator may continue its operation
pub operator_grows : (min_bp : ℕ) (k : SyntaxKind) (c : AnnotatedForest) → is_infix k ≡ true → min_bp ≤ binding_power k
    → row_level (one_branch NODE_BIN_OP c) ≡ binding_power k
    → MayGrow min_bp (max_bp_of k) (one_branch NODE_BIN_OP c)
operator_grows min_bp k c i l v =
    let x : AnnotatedForest = one_branch NODE_BIN_OP c in
    grows_by min_bp (max_bp_of k) x (fits_looser (row_level x) 12 NODE_BIN_OP (omega (arith, v, (operates k i).most)) refl) (omega (arith, v, l))
    (omega (arith, v, (operates k i).max_bp))
    (followed_infix k i x v refl) refl
