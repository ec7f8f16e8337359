-- If whether the next item touches matters to a row, the item before is in a path, or no item is left.
use Rattle.std.proofs.Common.{◌≡◌, ℕ, Bool, true, false, List, ◌∷◌, Option, Some, None, refl, ap, sym, ◌∙◌, subst, inl, inr, ◌||◌, nat_eq, if◌then◌else◌}
use Rattle.{std.proofs.lemmas.Bool.and_parts, rnix_kinds.specs.declared.kinds.SyntaxKind.{SyntaxKind, TheVariants.{NODE_IDENT, NODE_CUR_POS, NODE_INTERPOL}}}
use Rattle.rnix_kinds.{specs.declared.kinds.SyntaxKind.TheVariants.{NODE_LITERAL, TOKEN_INTERPOL_END}, proofs.AllKinds.{every, implied}}
use Rattle.{rnix_green.specs.Equality.{same_kind, same_kind-decides}, rnix_grammar.specs.{declared.rules.Part.TheVariants.{EndOr, PathPieces}, Fault.Fault}}
use Rattle.rnix_grammar.specs.{TokenKinds.{is_path_piece, is_piece_start}, AnnotatedForest.{Token, Note, Stray, Unwanted, Extra, DoubleBind, TooDeep}}
use Rattle.rnix_grammar.specs.{AnnotatedForest.{AnnotatedForest, tokens_in, leaf_kind, leaf_kind_as}, Rules.{Row, ◌·◌, row, after, may_end, run_at, opening}}
use Rattle.{rnix_grammar.specs.{Rules.IsExpected, Reads.{Reads, IsWrong}}, rnix_proof_lemmas.proofs.{Basics.{true_is_not_false, not_if}, RowKinds.has_row}}
use Rattle.{rnix_proof_lemmas.proofs.{ReachableRows.{IsKnown, every_known}, ViableRows.reads_row}, rnix_proof_layout.specs.AlikeItems.is_in_path}
use Rattle.rnix_proof_layout.proofs.{Touch.{asks_touch, Joins, last_kind}, Moves.joined, ClosedInterpolations.{IsInside, at_start, Closes, closes}}

dead : {A : Type 0} → false ≡ true → A
dead h = absurd (true_is_not_false (sym h))

-- this holds for a row to which it does not matter
pub no_joins : (q : Row) (prev : Option SyntaxKind) (ts : List Token) → asks_touch q ≡ false → Joins q prev ts
no_joins q prev ts e = inr (λ a. dead (sym e ∙ a))

-- it does not matter to any row at its beginning
pub row_joins : (k : SyntaxKind) (prev : Option SyntaxKind) (ts : List Token) → Joins (row k) prev ts
row_joins k prev ts = no_joins (row k) prev ts (not_if (asks_touch (row k)) (every (λ k. if asks_touch (row k) then false else true) refl k))

-- a leaf's kind is a piece of a path only if its token's is
piece_leaf : (p k : SyntaxKind) → (is_path_piece (leaf_kind_as p k) || same_kind NODE_INTERPOL (leaf_kind_as p k)) ≡ true
    → (is_path_piece k || same_kind NODE_INTERPOL k) ≡ true
piece_leaf NODE_IDENT k h =
    implied (λ k. is_path_piece (leaf_kind_as NODE_IDENT k) || same_kind NODE_INTERPOL (leaf_kind_as NODE_IDENT k))
    (λ k. is_path_piece k || same_kind NODE_INTERPOL k) refl k h
piece_leaf NODE_CUR_POS k h =
    implied (λ k. is_path_piece (leaf_kind_as NODE_CUR_POS k) || same_kind NODE_INTERPOL (leaf_kind_as NODE_CUR_POS k))
    (λ k. is_path_piece k || same_kind NODE_INTERPOL k) refl k h
piece_leaf _ k h = h

interpol_leaf : (p : SyntaxKind) → leaf_kind_as p NODE_INTERPOL ≡ NODE_INTERPOL
interpol_leaf NODE_IDENT = refl
interpol_leaf NODE_CUR_POS = refl
interpol_leaf _ = refl

-- before an interpolation that leads to such a row, no item of an interpolation's kind is expected
abbrev refuses : Row → Bool
refuses (PathPieces · r) = true
refuses (EndOr kind · r) = if same_kind (opening kind) NODE_INTERPOL then false else true
refuses r = false

refused : (q : Row) (n : ℕ) (t : Token) (ts : List Token) → t.kind ≡ NODE_INTERPOL → IsExpected q n (t ∷ ts) true → refuses q ≡ true → ⊥
refused (PathPieces · r) n t ts e x h = true_is_not_false (sym (sym (ap is_piece_start e) ∙ (and_parts (nat_eq t.start n) (is_piece_start t.kind) x).1))
refused (EndOr kind · r) n t ts e x h =
    true_is_not_false (sym (sym (not_if (same_kind (opening kind) NODE_INTERPOL) h) ∙ ap (same_kind (opening kind)) (sym e) ∙ x))
refused q n t ts e x h = true_is_not_false (sym h)

interpol_refused : {i : SyntaxKind} {q : Row} → IsKnown i q → asks_touch (after q NODE_INTERPOL) ≡ true → refuses q ≡ true
interpol_refused {i} {q} known a =
    subst (λ w. (if w then refuses q else true) ≡ true) a
    (every_known (λ i q. if asks_touch (after q NODE_INTERPOL) then refuses q else true) (λ i. refl) refl i q known)

one_piece : (v w z : Bool) → (v || w) ≡ true → (w ≡ true → ⊥) → (v || z) ≡ true
one_piece true w z h n = refl
one_piece false w z h n = absurd (n h)

-- this holds after a leaf
pub leaf_joins : {i : SyntaxKind} {q : Row} → IsKnown i q → (n : ℕ) (t : Token) (ts us : List Token) → IsExpected q n (t ∷ ts) true
    → Joins (after q (leaf_kind i t)) (Some t.kind) us
leaf_joins {i} {q} known n t ts us x =
    inr (λ a. one_piece (is_path_piece t.kind) (same_kind NODE_INTERPOL t.kind) (same_kind TOKEN_INTERPOL_END t.kind)
    (piece_leaf i t.kind (joined i q known (leaf_kind i t) a)) (λ s. no_token (sym ((same_kind-decides NODE_INTERPOL t.kind).0 s)) a))
  where
    no_token : t.kind ≡ NODE_INTERPOL → asks_touch (after q (leaf_kind i t)) ≡ true → ⊥
    no_token e a =
        refused q n t ts e x (interpol_refused known (subst (λ k. asks_touch (after q k) ≡ true) (ap (leaf_kind_as i) e ∙ interpol_leaf i) a))

-- the only node after which it matters is an interpolation
node_piece : (k : SyntaxKind) → has_row k ≡ true → (is_path_piece k || same_kind NODE_INTERPOL k) ≡ true → k ≡ NODE_INTERPOL
node_piece k h s =
    sym ((same_kind-decides NODE_INTERPOL k).0
    (subst (λ w. (if w then same_kind NODE_INTERPOL k else true) ≡ true) s
    (subst (λ v. (if v then (if is_path_piece k || same_kind NODE_INTERPOL k then same_kind NODE_INTERPOL k else true) else true) ≡ true) h
    (every (λ k. if has_row k then (if is_path_piece k || same_kind NODE_INTERPOL k then same_kind NODE_INTERPOL k else true) else true) refl k))))

-- this holds after a node
pub node_joins : {i k : SyntaxKind} {d n : ℕ} {q s : Row} {b c : AnnotatedForest} {us : List Token} {es : List Fault} → IsKnown i q
    → Reads k d n (row k) s b us c es → may_end s ≡ true → (prev : Option SyntaxKind) → Joins (after q k) (last_kind prev (tokens_in c)) us
node_joins {i} {k} {q = q} {c = c} {us = us} known h w prev = by (asks_touch (after q k)) refl
  where
    closed : Closes (tokens_in c) us → Joins (after q k) (last_kind prev (tokens_in c)) us
    closed (inl e) = inl e
    closed (inr g) = inr (λ a. ap is_in_path (g prev))

    by : (w : Bool) → asks_touch (after q k) ≡ w → Joins (after q k) (last_kind prev (tokens_in c)) us
    by false e = no_joins (after q k) (last_kind prev (tokens_in c)) us e
    by true e =
        let same : k ≡ NODE_INTERPOL = node_piece k (reads_row h w) (joined i q known k e) in
        closed (closes h same (subst (λ (k : SyntaxKind). IsInside (row k)) (sym same) at_start) w)

-- this holds after an error node
abbrev no_touch : {A : Type 0} → Option (A × Row) → Bool
no_touch None = true
no_touch (Some w) = if asks_touch w.1 then false else true

literal_joins : {i : SyntaxKind} (q r : Row) (prev : Option SyntaxKind) (us : List Token) → IsKnown i q → after q NODE_LITERAL ≡ r → Joins r prev us
literal_joins {i} q r prev us known e = inr (λ a. dead (joined i q known NODE_LITERAL (ap asks_touch e ∙ a)))

pub wrong_joins : {i : SyntaxKind} (q r : Row) (note : Note) (d : ℕ) (ts us : List Token) → IsKnown i q → IsWrong note d q r ts us
    → (prev : Option SyntaxKind) → Joins r prev us
wrong_joins q r Stray d ts us known v prev = literal_joins q r prev us known v.3
wrong_joins {i} q r (Unwanted until) d ts us known v prev =
    no_joins r prev us (not_if (asks_touch r) (subst (λ w. no_touch w ≡ true) v.2 (every_known (λ i q. no_touch (run_at q)) (λ i. refl) refl i q known)))
wrong_joins q r Extra d ts us known v prev = inl v.1
wrong_joins q r DoubleBind d ts us known v prev = absurd v
wrong_joins q r TooDeep d ts us known v prev = inl v.0
