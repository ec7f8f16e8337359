-- What the error nodes of a forest that is read hold, and which nodes contain them.
use Rattle.{std.proofs.Common.{◌≡◌, ℕ, Bool, true, false, List, [], ◌∷◌, ◌++◌, refl, sym, subst}, rnix_kinds.specs.declared.kinds.SyntaxKind.SyntaxKind}
use Rattle.rnix_kinds.specs.declared.kinds.SyntaxKind.TheVariants.{NODE_ERROR, NODE_PATTERN, NODE_ROOT}
use Rattle.rnix_grammar.specs.{declared.rules.Part.TheVariants.{BoundAlready, TextEnd}, Fault.Fault, Rules.{Row, done, ◌·◌}, AnnotatedForest.{Token, Note}}
use Rattle.rnix_grammar.specs.{AnnotatedForest.{Stray, Unwanted, Extra, DoubleBind, TooDeep, AnnotatedForest, row_of, tokens_in, leaf_kind}, Reads.Reads}
use Rattle.rnix_grammar.specs.{Reads.{ReadsRoot, end, leaf, missing_part, wrong, second, inner, IsWrong}, ErrorNodes.{AreUnwanted, IsErrorNode, AreErrorNodes}}
use Rattle.rnix_proof_lemmas.proofs.{Basics.{Where, where_one}, UnwantedRuns.parted, AnnotatedForestLemmas.tokens_in-row_of, ReachableRows.IsKnown}
use Rattle.rnix_proof_lemmas.proofs.ReachableRows.{each_known, known_row, known_second, known_after, known_missing, known_past, known_wrong}
use Rattle.rnix_proof_rows.proofs.RowsWithoutAttrpath.{is_bound, row_some}

-- the end of the text is in the root alone, and a second name in a pattern
abbrev is_text_end : Row → Bool
is_text_end (TextEnd · r) = true
is_text_end r = false

pub ends_root : {i : SyntaxKind} → IsKnown i (TextEnd · done) → i ≡ NODE_ROOT
ends_root {i} k = where_one true refl (each_known (λ i r. Where (is_text_end r) (i ≡ NODE_ROOT)) (λ i. tt) (assumption) i (TextEnd · done) k)

pub ends_pattern : {i : SyntaxKind} → IsKnown i (BoundAlready · done) → i ≡ NODE_PATTERN
ends_pattern {i} k = where_one true refl (each_known (λ i r. Where (is_bound r) (i ≡ NODE_PATTERN)) (λ i. tt) (assumption) i (BoundAlready · done) k)

-- an error node that is read holds only what it may
pub holds : (note : Note) (i : SyntaxKind) (d : ℕ) (q r : Row) (ts vs : List Token) → IsWrong note d q r ts vs → IsKnown i q → IsErrorNode note i ts
holds Stray i d q r ts vs w h = w.0
holds (Unwanted until) i d q r ts vs w h = (w.0, subst (AreUnwanted until) (sym w.1) (parted until (ts ++ vs)).unwanted)
holds Extra i d q r ts vs w h = (w.0, ends_root (subst (IsKnown i) w.2 h))
holds DoubleBind i d q r ts vs w h = absurd w
holds TooDeep i d q r ts vs w h = tt

leaves_alone : (ts : List Token) → AreErrorNodes NODE_ERROR (row_of ts)
leaves_alone [] = tt
leaves_alone (t ∷ ts) = leaves_alone ts

-- each error node of a forest that is read holds only what it may
pub error_nodes : {i : SyntaxKind} {d n : ℕ} {q q' : Row} {b : AnnotatedForest} {us : List Token} {f : AnnotatedForest} {es : List Fault}
    → Reads i d n q q' b us f es
    → IsKnown i q → AreErrorNodes i f
error_nodes end h = tt
error_nodes {i} (leaf {t = t} x o s) h = error_nodes s (known_after (leaf_kind i t) h)
error_nodes (missing_part u l m o s) h = error_nodes s (known_missing m h)
error_nodes {i} {d = d} {q = q} {us = us} (wrong {r = r} {f = f} note ts x o w s) h = (
  subst (IsErrorNode note i) (sym (tokens_in-row_of ts)) (holds note i d q r ts (tokens_in f ++ us) w h),
  leaves_alone ts,
  error_nodes s (known_wrong note _ _ _ w h),
)
error_nodes (second first over s) h = ((row_some first known_second refl over.0, ends_pattern h), error_nodes first known_second, error_nodes s (known_past h))
error_nodes (inner {k = k} o inside y x j z s) h = (error_nodes inside (known_row k), error_nodes s (known_after k h))

-- each error node of a whole text holds only what it may
pub root_error_nodes : {f : AnnotatedForest} {es : List Fault} → ReadsRoot f es → AreErrorNodes NODE_ROOT f
root_error_nodes s = error_nodes s (known_row NODE_ROOT)
