-- The bounds along a row: each child, each run and each missing part respects them. Shown by computation over all rests of rows.
use Rattle.std.{specs.List.list_all, proofs.Common.{◌≡◌, ◌≤◌, ℕ, suc, ◌+◌, Bool, true, false, ◌&&◌, List, Option, Some, None, if◌then◌else◌, nat_le, refl, ap}}
use Rattle.{std.proofs.{Common.{sym, ◌∙◌, arith}, lemmas.Bool.{and_from, and_parts, Decides.nat_tests}}, rnix_kinds.specs.declared.kinds.SyntaxKind.SyntaxKind}
use Rattle.{rnix_kinds.{specs.declared.kinds.SyntaxKind.TheVariants.NODE_LITERAL, proofs.AllKinds.{all_kinds, implied}}, rnix_grammar.specs.Fault.Fault}
use Rattle.{rnix_grammar.specs.Rules.{Row, row, after, missing, run_at, counts, expects_end}, rnix_proof_lemmas.proofs.RowKinds.has_row}
use Rattle.{rnix_proof_lemmas.proofs.ReachableRows.{IsKnown, is_viable, every_known}, rnix_proof_rows.proofs.RowsWithoutAttrpath.has_no_attrpath}
use Rattle.rnix_proof_size.proofs.Bounds.{surplus, spare}

-- a test fails
abbrev pub is_false : Bool → Bool
is_false w = if w then false else true

-- a number is at most another
pub at_most : (m n : ℕ) → nat_le m n ≡ true → m ≤ n
at_most m n h = grind (arith, nat_tests, h)

-- a test of both truth values holds of each
pub both_answers : (P : Bool → Bool) → (P false && P true) ≡ true → (w : Bool) → P w ≡ true
both_answers P h true = (and_parts (P false) (P true) h).1
both_answers P h false = (and_parts (P false) (P true) h).0

-- a test of each child after which the row is viable; and of each node among them
abbrev pub each_child : (Row → SyntaxKind → Bool) → SyntaxKind → Row → Bool
each_child test i q = list_all (λ k. if is_viable (after q k) then test q k else true) all_kinds

abbrev pub each_node : (Row → SyntaxKind → Bool) → SyntaxKind → Row → Bool
each_node test i q = list_all (λ k. if is_viable (after q k) && has_row k then test q k else true) all_kinds

-- a test of the row after a run, or after a missing part
abbrev pub behind : {A : Type 0} → (Row → Bool) → Option (A × Row) → Bool
behind test None = true
behind test (Some w) = test w.1

-- a leaf respects the bound before more items
abbrev leaf_keeps : Row → SyntaxKind → Bool
leaf_keeps q k = nat_le (surplus q) (2 + surplus (after q k))

pub leaf_kept : {i : SyntaxKind} (q : Row) (k : SyntaxKind) → IsKnown i q → is_viable (after q k) ≡ true → surplus q ≤ 2 + surplus (after q k)
leaf_kept {i} q k n l =
    at_most _ _ (implied (λ k. is_viable (after q k)) (leaf_keeps q) (every_known (each_child leaf_keeps) (λ i. refl) refl i q n) k l)

-- a node respects it
abbrev node_keeps : Row → SyntaxKind → Bool
node_keeps q k = nat_le (suc (surplus q)) (surplus (row k) + surplus (after q k))

pub node_kept : {i : SyntaxKind} (q : Row) (k : SyntaxKind) → IsKnown i q → is_viable (after q k) ≡ true → has_row k ≡ true
    → suc (surplus q) ≤ surplus (row k) + surplus (after q k)
node_kept {i} q k n l h =
    at_most _ _ (implied (λ k. is_viable (after q k) && has_row k) (node_keeps q)
    (every_known (each_node node_keeps) (λ i. refl) refl i q n) k (and_from _ _ l h))

-- a run respects it
abbrev run_keeps : SyntaxKind → Row → Bool
run_keeps i q = behind (λ r. nat_le (surplus q) (suc (surplus r))) (run_at q)

pub run_kept : {i : SyntaxKind} {q r : Row} {ks : List SyntaxKind} → run_at q ≡ Some (ks, r) → IsKnown i q → surplus q ≤ suc (surplus r)
run_kept {i} {q} {r} m n =
    at_most _ _ (sym (ap (behind (λ r. nat_le (surplus q) (suc (surplus r)))) m) ∙ every_known run_keeps (λ i. refl) refl i q n)

-- at the end of the text, a missing part respects the bound for nodes without tokens
abbrev missing_spares : Bool → SyntaxKind → Row → Bool
missing_spares w i q = behind (λ r. nat_le (spare w r) (spare w q)) (missing q)

pub missing_spare : {i : SyntaxKind} {q r : Row} {e : Fault} (w : Bool) → missing q ≡ Some (e, r) → IsKnown i q → spare w r ≤ spare w q
missing_spare {i} {q} {r} w m n =
    at_most _ _ (sym (ap (behind (λ r. nat_le (spare w r) (spare w q))) m)
    ∙ both_answers (λ w. missing_spares w i q)
    (every_known (λ i q. missing_spares false i q && missing_spares true i q) (λ i. refl) refl i q n) w)

-- what is nested too deep respects it
abbrev deep_spares : SyntaxKind → Row → Bool
deep_spares i q = if counts q && is_false (expects_end q) then nat_le (suc (spare true (after q NODE_LITERAL))) (spare true q) else true

pub deep_spare : {i : SyntaxKind} (q : Row) → IsKnown i q → counts q ≡ true → expects_end q ≡ false → suc (spare true (after q NODE_LITERAL)) ≤ spare true q
deep_spare {i} q n c e =
    at_most _ _ (sym (ap (λ w. if w then nat_le (suc (spare true (after q NODE_LITERAL))) (spare true q) else true) (and_from _ _ c (ap is_false e)))
    ∙ every_known deep_spares (λ i. refl) refl i q n)

-- an attribute path without tokens respects it
abbrev path_spares : Bool → Bool → Row → SyntaxKind → Bool
path_spares v w q k = if has_no_attrpath q then true else nat_le (suc (spare v (row k) + spare w (after q k))) (spare w q)

abbrev all_spare : Row → SyntaxKind → Bool
all_spare q k = (path_spares false false q k && path_spares false true q k) && (path_spares true false q k && path_spares true true q k)

pub path_spare : {i : SyntaxKind} (v w : Bool) (q : Row) (k : SyntaxKind) → IsKnown i q → is_viable (after q k) ≡ true
    → has_row k ≡ true → has_no_attrpath q ≡ false
    → suc (spare v (row k) + spare w (after q k)) ≤ spare w q
path_spare {i} v w q k n l h b =
    at_most _ _ (sym (ap (λ z. if z then true else nat_le (suc (spare v (row k) + spare w (after q k))) (spare w q)) b)
    ∙ both_answers (λ w. path_spares v w q k) (both_answers (λ v. path_spares v false q k && path_spares v true q k)
    (implied (λ k. is_viable (after q k) && has_row k) (all_spare q) (every_known (each_node all_spare) (λ i. refl) refl i q n) k (and_from _ _ l h)) v) w)
