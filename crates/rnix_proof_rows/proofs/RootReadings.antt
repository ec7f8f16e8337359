-- What holds of the repaired tree of a whole text. No item follows an incomplete node.
use Rattle.std.proofs.Common.{◌≡◌, ◌↔◌, inl, inr, ℕ, ◌+◌, ◌≤◌, true, false, List, [], ◌++◌, refl, ap, arith}
use Rattle.{rnix_kinds.specs.declared.kinds.SyntaxKind.{SyntaxKind, TheVariants.{NODE_ROOT, NODE_PATTERN}}, rnix_green.specs.Forest.{empty, node}}
use Rattle.rnix_grammar.specs.{Fault.Fault, AnnotatedForest.{Token, AnnotatedForest, tokens_in}, ErrorNodes.AreErrorNodes, Unfinished.AreIncompleteLast}
use Rattle.rnix_grammar.specs.{Repaired.{repaired, repaired_nonempty, kinds_of, incomplete, AreBegun, ended_count}, Rules.{Row, row, may_end}}
use Rattle.rnix_grammar.specs.{CompleteRows.is_row, Reads.{Reads, ReadsRoot, end, leaf, missing_part, wrong, second, inner}}
use Rattle.rnix_proof_rows.proofs.{ErrorNodeRows.root_error_nodes, RepairedRows.simulates_self, ReadsFaults.reads_errors, ReadsRows.{Counts, ended_or, half}}
use Rattle.{rnix_proof_rows.proofs.{ReadsRows.reads_counts, ReadsBegun.{beginning, reads_begun}}, rnix_proof_lemmas.proofs.ReachableRows.known_row}

-- the incomplete nodes and the errors at the end, in a complete row
row_counts : {k : SyntaxKind} {d n : ℕ} {s : Row} {b : AnnotatedForest} {us : List Token} {c : AnnotatedForest} {es : List Fault}
    → Reads k d n (row k) s b us c es
    → may_end s ≡ true → AreErrorNodes k c
    → Counts (half (is_row k (kinds_of (repaired c))) + incomplete (repaired c)) (ended_count es) ((k ≡ NODE_PATTERN) × (us ≡ []))
row_counts {k} s w o = reads_counts (row k) s w (known_row k) (known_row k) (simulates_self (row k)) o

-- the repaired tree has at most as many incomplete nodes as there are errors at the end of the text
pub root_few : {f : AnnotatedForest} {es : List Fault} → ReadsRoot f es → incomplete (node NODE_ROOT (repaired f) empty) ≤ ended_count es
root_few {f = f} {es = es} s =
    let few : half (is_row NODE_ROOT (kinds_of (repaired f))) + incomplete (repaired f) ≤ ended_count es = (row_counts s refl (root_error_nodes s)).few in
    omega (arith, few)

-- if it has none, there is no such error
pub root_none : {f : AnnotatedForest} {es : List Fault} → ReadsRoot f es → incomplete (node NODE_ROOT (repaired f) empty) ≡ 0 → ended_count es ≡ 0
root_none {f = f} {es = es} s h =
    elim ((row_counts s refl (root_error_nodes s)).none (omega (arith, h))) [ inl e ↦ e | inr e ↦ absurd (not_pattern e.0) ]
  where
    not_pattern : NODE_ROOT ≡ NODE_PATTERN → ⊥
    not_pattern h = cc

-- so there is an error at the end of the text exactly if a node of the repaired tree is incomplete
pub root_end_errors : {f : AnnotatedForest} {es : List Fault} → ReadsRoot f es → (incomplete (node NODE_ROOT (repaired f) empty) ≡ 0) ↔ (ended_count es ≡ 0)
root_end_errors {f = f} {es = es} s =
    let few : incomplete (node NODE_ROOT (repaired f) empty) ≤ ended_count es = root_few s in
    (root_none s, λ h. omega (arith, few, h))

-- in the repaired tree, apart from numbers that replace no token, each node's children begin a row of its kind
pub root_begun : {f : AnnotatedForest} {es : List Fault} → ReadsRoot f es → AreBegun (node NODE_ROOT (repaired_nonempty f) empty)
root_begun {f = f} s =
    let begun = reads_begun (row NODE_ROOT) s refl (known_row NODE_ROOT) (simulates_self (row NODE_ROOT)) in
    (beginning NODE_ROOT (kinds_of (repaired_nonempty f)) begun.row, begun.nodes, tt)

-- an incomplete node lacks a part at the end of the text, so no item follows it
incomplete_last : {p : SyntaxKind} {d n : ℕ} {q q' : Row} {b : AnnotatedForest} {us : List Token} {f : AnnotatedForest} {es : List Fault}
    → Reads p d n q q' b us f es → AreErrorNodes p f → AreIncompleteLast f us
incomplete_last end o = tt
incomplete_last (leaf x v h) o = incomplete_last h o
incomplete_last (missing_part u l m v h) o = incomplete_last h o
incomplete_last (wrong note ts x v w h) o = incomplete_last h o.2
incomplete_last (second s y h) o = incomplete_last h o.2
incomplete_last {us = us} (inner {k = k} {c = c} {f = f} {ds = ds} v s y x j z h) o = (none, incomplete_last s o.0, incomplete_last h o.1)
  where
    none : is_row k (kinds_of (repaired c)) ≡ false → tokens_in f ++ us ≡ []
    none h =
        let few : half (is_row k (kinds_of (repaired c))) + incomplete (repaired c) ≤ ended_count ds = (row_counts s y.0 o.0).few in
        let one : half (is_row k (kinds_of (repaired c))) ≡ 1 = ap half h in
        elim (ended_or ds) [ inl n ↦ absurd (omega (arith, few, one, n)) | inr e ↦ (reads_errors s (known_row k)).last e ]

-- no item follows an incomplete node of a whole text
pub root_last : {f : AnnotatedForest} {es : List Fault} → ReadsRoot f es → AreIncompleteLast f []
root_last s = incomplete_last s (root_error_nodes s)
