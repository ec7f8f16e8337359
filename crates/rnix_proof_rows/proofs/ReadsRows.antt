-- The rows of a forest without trivia that is read, and of its repaired tree.
use Rattle.std.{specs.List.list_all, proofs.Common.{◌≡◌, ◌⊎◌, inl, inr, ℕ, ◌+◌, ◌≤◌, Bool, true, false, List, [], ◌∷◌, ◌++◌, Option, Some, None, refl, ap, sym}}
use Rattle.{std.proofs.{Common.{◌∙◌, subst, arith, if◌then◌else◌, ◌&&◌, ◌||◌}, lemmas.Bool.and_parts}, rnix_kinds.specs.declared.kinds.SyntaxKind.SyntaxKind}
use Rattle.{rnix_kinds.{specs.declared.kinds.SyntaxKind.TheVariants.NODE_PATTERN, proofs.AllKinds.{all_kinds, implied}}, rnix_green.specs.Forest.Forest}
use Rattle.rnix_grammar.specs.{Fault.Fault, ErrorNodes.AreErrorNodes, AnnotatedForest.{Token, Note, Stray, DoubleBind, AnnotatedForest, tokens_in, row_of}}
use Rattle.rnix_grammar.specs.{AnnotatedForest.leaf_kind, Reports.{report, repeats}, Rules.{Row, row, after, may_end, missing, counts}, CompleteRows.after_all}
use Rattle.rnix_grammar.specs.{Reads.{Reads, end, leaf, missing_part, wrong, second, inner, IsWrong}, Repaired.{repair, repaired, kinds_of, incomplete}}
use Rattle.{rnix_grammar.specs.Repaired.{is_ended, ended_count}, rnix_proof_lemmas.proofs.Basics.{true_is_not_false, not_if, not_nil, none_remaining, none_right}}
use Rattle.rnix_proof_lemmas.proofs.{AnnotatedForestLemmas.tokens_in-row_of, MissingFacts.missing_ended, ReachableRows.{IsKnown, is_viable, every_known}}
use Rattle.rnix_proof_lemmas.proofs.{ReachableRows.{known_row, known_second, known_after, known_missing, known_past, known_wrong}, ViableRows.end_viable}
use Rattle.{rnix_proof_lemmas.proofs.{ViableRows.{reads_viable, reads_row}, RowKinds.has_row}, rnix_proof_rows.proofs.RowsWithoutAttrpath.is_bound}
use Rattle.rnix_proof_rows.proofs.{RowsWithoutAttrpath.wrong_empty, ReadsFaults.{HasEnded, NeitherEndNorMisplaced, plain_report, neither_second}}
use Rattle.rnix_proof_rows.proofs.{ReadsFaults.{neither_repeats, reads_errors}, RepairedRows.{needs_token, needs_token_half, needs_token_goes, pattern_owes}}
use Rattle.rnix_proof_rows.proofs.RepairedRows.{Simulates, simulates_self, simulates_same, simulates_both, second_simulates, after_repair, after_repair_all}
use Rattle.rnix_proof_rows.proofs.RepairedRows.{known_after_repair, needs_token_after_repair, wrong_simulates}

-- after what contains no token, a row that needs a token still needs one
pub needs_token_rest : {p i : SyntaxKind} {d n : ℕ} {q q' : Row} {b : AnnotatedForest} {us : List Token} {f : AnnotatedForest} {es : List Fault}
    → Reads p d n q q' b us f es → tokens_in f ≡ [] → (q0 : Row) → IsKnown i q0 → needs_token q0 ≡ true
    → needs_token (after_all q0 (kinds_of (repaired f))) ≡ true
needs_token_rest end n q0 k o = o
needs_token_rest (leaf x w h) n q0 k o = absurd (not_nil n)
needs_token_rest (missing_part u l m w h) n q0 k o = needs_token_rest h n q0 k o
needs_token_rest (wrong {f = f} note ts x w v h) n q0 k o =
    subst (λ r. needs_token r ≡ true) (sym (after_repair_all note q0 (repaired f)))
    (needs_token_rest h (none_right (tokens_in (row_of ts)) (tokens_in f) n) (after_repair note q0) (known_after_repair note k)
    (needs_token_after_repair note q0 k o))
needs_token_rest (second {c = c} {f = f} s y h) n q0 k o = needs_token_rest h (none_right (tokens_in c) (tokens_in f) n) q0 k o
needs_token_rest (inner {k = j} {c = c} {f = f} w s y x v z h) n q0 k o =
    needs_token_rest h (none_right (tokens_in c) (tokens_in f) n) (after q0 j) (known_after j k) (needs_token_goes q0 j k o (reads_row s y.0))

-- only a token may follow: no part is missing there, no operand counts, no second name and no node may be read
abbrev is_lost : Option (Fault × Row) → Bool
is_lost None = false
is_lost (Some w) = true

abbrev not : Bool → Bool
not w = if w then false else true

abbrev no_node : Row → Bool
no_node q = list_all (λ k. if has_row k then not (is_viable (after q k)) else true) all_kinds

abbrev is_final : Row → Bool
is_final q = not (is_lost (missing q)) && (not (counts q) && (not (is_bound q) && no_node q))

record IsFinal (q : Row) : Type 0 where
  pub lost : is_lost (missing q) ≡ false
  pub counts : counts q ≡ false
  pub bound : is_bound q ≡ false
  pub node : (k : SyntaxKind) → has_row k ≡ true → is_viable (after q k) ≡ false

final : (q : Row) → is_final q ≡ true → IsFinal q
final q h =
    let a = and_parts (not (is_lost (missing q))) _ h in
    let b = and_parts (not (counts q)) _ a.1 in
    let c = and_parts (not (is_bound q)) (no_node q) b.1 in
    record {
      lost = not_if (is_lost (missing q)) a.0;
      counts = not_if (counts q) b.0;
      bound = not_if (is_bound q) c.0;
      node = λ k e. not_if (is_viable (after q k)) (implied has_row (λ k. not (is_viable (after q k))) c.1 k e);
    }

-- a forest without tokens is empty there once it is repaired
final_rest : {p : SyntaxKind} {d n : ℕ} {q q' : Row} {b : AnnotatedForest} {us : List Token} {f : AnnotatedForest} {es : List Fault}
    → Reads p d n q q' b us f es → IsKnown p q → is_viable q' ≡ true → IsFinal q → tokens_in f ≡ [] → kinds_of (repaired f) ≡ []
final_rest end i l m n = refl
final_rest (leaf x w h) i l m n = absurd (not_nil n)
final_rest (missing_part u t z w h) i l m n = absurd (true_is_not_false (sym (ap is_lost z) ∙ m.lost))
final_rest {d = d} {q = q} {us = us} (wrong {r = r} {f = f} note ts x w v h) i l m n =
    let none : ts ≡ [] = sym (tokens_in-row_of ts) ∙ none_remaining (tokens_in (row_of ts)) (tokens_in f) n in
    let counted = (wrong_empty note d q r (tokens_in f ++ us) i (subst (λ z. IsWrong note d q r z (tokens_in f ++ us)) none v)).0 in
    absurd (true_is_not_false (sym counted ∙ m.counts))
final_rest (second s y h) i l m n = absurd (true_is_not_false m.bound)
final_rest (inner {k = k} w s y x v z h) i l m n = absurd (true_is_not_false (sym (reads_viable h l) ∙ m.node k (reads_row s y.0)))

-- a row with a missing part may not end, and only a token may follow, unless a token is needed
abbrev is_lost_well : Row → Option (Fault × Row) → Bool
is_lost_well q None = true
is_lost_well q (Some w) = not (may_end q) && (needs_token q || is_final w.1)

lost_well : {i : SyntaxKind} {q r : Row} {e : Fault} → IsKnown i q → missing q ≡ Some (e, r) → (not (may_end q) && (needs_token q || is_final r)) ≡ true
lost_well {i} {q} k m = sym (ap (is_lost_well q) m) ∙ every_known (λ i q. is_lost_well q (missing q)) (λ i. refl) refl i q k

-- a row with a missing part may not end, even once it is repaired
lost_by : {p : SyntaxKind} {d n : ℕ} {q r q0 q' : Row} {b : AnnotatedForest} {us : List Token} {f : AnnotatedForest} {es : List Fault} {e : Fault}
    → IsKnown p q0 → IsKnown p q → Simulates q0 q → missing q ≡ Some (e, r) → tokens_in f ≡ [] → Reads p d n r q' b us f es → is_viable q' ≡ true
    → may_end (after_all q0 (kinds_of (repaired f))) ≡ false
lost_by {q = q} {r = r} {q0 = q0} {f = f} k0 k m l n s w = by (needs_token q) refl (and_parts (not (may_end q)) (needs_token q || is_final r) (lost_well k l))
  where
    by : (o : Bool) → needs_token q ≡ o → (not (may_end q) ≡ true) × ((o || is_final r) ≡ true) → may_end (after_all q0 (kinds_of (repaired f))) ≡ false
    by true o h = needs_token_half (after_all q0 (kinds_of (repaired f))) (needs_token_rest s n q0 k0 (m.needs o))
    by false o h =
        ap (λ ks. may_end (after_all q0 ks)) (final_rest s (known_missing l k) w (final r h.1) n) ∙ m.ends ∙ not_if (may_end q) h.0

-- how many nodes are incomplete and how many errors are at the end; in a pattern, the last name and the node around the pattern may share one
pub record Counts (m n : ℕ) (OperandFrame : Type 0) : Type 0 where
  pub few : m ≤ n
  pub none : m ≡ 0 → (n ≡ 0) ⊎ OperandFrame

-- the errors at the end in two joined lists are those of both
pub ended_count-++ : (es fs : List Fault) → ended_count (es ++ fs) ≡ ended_count es + ended_count fs
ended_count-++ [] fs = omega arith
ended_count-++ (e ∷ es) fs = let h : ended_count (es ++ fs) ≡ ended_count es + ended_count fs = ended_count-++ es fs in omega arith

-- the error for a missing part is one of them
lost_counted : (e : Fault) (es : List Fault) → is_ended e ≡ true → ended_count (e ∷ es) ≡ 1 + ended_count es
lost_counted e es h = ap (λ x. (if x then 1 else 0) + ended_count es) h

-- a repair is complete
incomplete_repair : (n : Note) (f : Forest) → incomplete (repair n f) ≡ incomplete f
incomplete_repair Stray f = omega arith
incomplete_repair _ f = first_of (omega arith, assumption, cc)

-- a list has no errors at the end of the text, or some
pub ended_or : (es : List Fault) → (ended_count es ≡ 0) ⊎ HasEnded es
ended_or [] = inl refl
ended_or (e ∷ es) = by_first (is_ended e) refl (ended_or es)
  where
    by_first : (x : Bool) → is_ended e ≡ x → (ended_count es ≡ 0) ⊎ HasEnded es → (ended_count (e ∷ es) ≡ 0) ⊎ HasEnded (e ∷ es)
    by_first true h w = inr (inl h)
    by_first false h w = elim w [ inl n ↦ inl (ap (λ x. (if x then 1 else 0) + ended_count es) h ∙ omega (arith, n)) | inr n ↦ inr (inr n) ]

-- in a list without errors at the end or about misplaced tokens, none is counted
neither_count : (es : List Fault) → NeitherEndNorMisplaced es → ended_count es ≡ 0
neither_count es h = elim (ended_or es) [ inl n ↦ n | inr n ↦ absurd (h.ended n) ]

-- one more, if a repaired row may not end
abbrev pub half : Bool → ℕ
half w = if w then 0 else 1

-- equal counts are related in the same way
same_counts : {m m' n n' : ℕ} {L : Type 0} → m ≡ m' → n ≡ n' → Counts m n L → Counts m' n' L
same_counts {m = m} {m' = m'} {n = n} {n' = n'} {L = L} e h c = subst (λ (x : ℕ). Counts x n' L) e (subst (λ (x : ℕ). Counts m x L) h c)

-- there are at most as many incomplete nodes as errors at the end, and some if there are such errors
pub reads_counts : {p : SyntaxKind} {d n : ℕ} {q q' : Row} {b : AnnotatedForest} {us : List Token} {f : AnnotatedForest} {es : List Fault} (q0 : Row)
    → Reads p d n q q' b us f es → may_end q' ≡ true → IsKnown p q0 → IsKnown p q → Simulates q0 q → AreErrorNodes p f
    → Counts (half (may_end (after_all q0 (kinds_of (repaired f)))) + incomplete (repaired f)) (ended_count es) ((p ≡ NODE_PATTERN) × (us ≡ []))
reads_counts q0 end w k0 k m o =
    let all : half (may_end q0) ≡ 0 = ap half (m.ends ∙ w) in
    record { few = omega (arith, all); none = λ h. inl refl }
reads_counts {p} {q = q} q0 (leaf {t = t} x v h) w k0 k m o =
    let j : SyntaxKind = leaf_kind p t in
    let on : after q0 j ≡ after q j = m.goes j (reads_viable h (end_viable _ w)) in
    reads_counts (after q0 j) h w (known_after j k0) (known_after j k) (simulates_same (after q0 j) (after q j) on) o
reads_counts q0 (missing_part {r = r} {f = f} {e = e} {es = es} u n l v h) w k0 k m o =
    let not : may_end (after_all q0 (kinds_of (repaired f))) ≡ false = lost_by k0 k m l n h (end_viable _ w) in
    let one : half (may_end (after_all q0 (kinds_of (repaired f)))) ≡ 1 = ap half not in
    let all = lost_counted e es (missing_ended k l).0 in
    let ih = reads_counts r h w (known_missing l k) (known_missing l k) (simulates_self r) o in
    let fewer : half (may_end (after_all r (kinds_of (repaired f)))) + incomplete (repaired f) ≤ ended_count es = ih.few in
    same_counts refl (sym all) (record { few = omega (arith, one, fewer); none = λ h. absurd (omega (arith, one, h)) })
reads_counts {d = d} {q = q} {us = us} q0 (wrong {r = r} {f = f} {es = es} n ts x v z h) w k0 k m o =
    let on : Simulates (after_repair n q0) r = wrong_simulates n d q0 q r ts (tokens_in f ++ us) k z (reads_viable h (end_viable _ w)) m in
    let ih = reads_counts (after_repair n q0) h w (known_after_repair n k0) (known_wrong n _ _ _ z k) on o.2 in
    same_counts (ap (λ r. half (may_end r) + incomplete (repaired f)) (sym (after_repair_all n q0 (repaired f)))
    ∙ ap (λ o. half (may_end (after_all q0 (kinds_of (repair n (repaired f))))) + o) (sym (incomplete_repair n (repaired f))))
    (sym (ap (λ x. (if x then 1 else 0) + ended_count es) (plain_report n ts) ∙ omega arith)) ih
reads_counts {us = us} q0 (second {c = c} {f = f} {ds = ds} {es = es} s y h) w k0 k m o =
    let ih = reads_counts q0 h w k0 (known_past k) (simulates_both m second_simulates) o.2 in
    let one : ended_count (report DoubleBind (tokens_in c) ∷ []) ≡ 0 = neither_count (report DoubleBind (tokens_in c) ∷ []) (neither_second (tokens_in c)) in
    let sum : ended_count ((ds ++ report DoubleBind (tokens_in c) ∷ []) ++ es) ≡ ended_count ds + ended_count es =
    ended_count-++ (ds ++ report DoubleBind (tokens_in c) ∷ []) es
    ∙ ap (λ k. k + ended_count es) (ended_count-++ ds (report DoubleBind (tokens_in c) ∷ []) ∙ ap (λ k. ended_count ds + k) one ∙ omega arith) in
    let fewer : half (may_end (after_all q0 (kinds_of (repaired f)))) + incomplete (repaired f) ≤ ended_count es = ih.few in
    same_counts refl (sym sum) (record {
      few = omega (arith, fewer);
      none = λ h.
          elim (ended_or ds) [
            | inl n ↦ elim (ih.none h) [ inl k ↦ inl (omega (arith, n, k)) | inr k ↦ inr k ]
            | inr n ↦ inr (o.0.1, none_right (tokens_in f) us ((reads_errors s known_second).last n))
          ];
    })
reads_counts {q = q} {b = b} {us = us} q0 (inner {k = k} {c = c} {f = f} {ds = ds} {es = es} v s y x j z h) w k0 i m o =
    let lives : is_viable (after q k) ≡ true = reads_viable h (end_viable _ w) in
    let on : after q0 k ≡ after q k = m.goes k lives in
    let here = reads_counts (after q0 k) h w (known_after k k0) (known_after k i) (simulates_same (after q0 k) (after q k) on) o.1 in
    let below = reads_counts (row k) s y.0 (known_row k) (known_row k) (simulates_self (row k)) o.0 in
    let none : ended_count (repeats k b c) ≡ 0 = neither_count (repeats k b c) (neither_repeats k b c) in
    let sum : ended_count ((ds ++ repeats k b c) ++ es) ≡ ended_count ds + ended_count es =
    ended_count-++ (ds ++ repeats k b c) es
    ∙ ap (λ o. o + ended_count es) (ended_count-++ ds (repeats k b c) ∙ ap (λ o. ended_count ds + o) none ∙ omega arith) in
    let a1 : half (may_end (after_all (after q0 k) (kinds_of (repaired f)))) + incomplete (repaired f) ≤ ended_count es = here.few in
    let a2 : half (may_end (after_all (row k) (kinds_of (repaired c)))) + incomplete (repaired c) ≤ ended_count ds = below.few in
    let in_lambda : (k ≡ NODE_PATTERN) × (tokens_in f ++ us ≡ []) → half (may_end (after_all (after q0 k) (kinds_of (repaired f)))) ≡ 1 = λ o.
    let owed : needs_token (after q0 k) ≡ true =
    ap needs_token (on ∙ ap (after q) o.0) ∙ pattern_owes q i (ap (λ j. is_viable (after q j)) (sym o.0) ∙ lives) in
    ap half (needs_token_half (after_all (after q0 k) (kinds_of (repaired f)))
    (needs_token_rest h (none_remaining (tokens_in f) us o.1) (after q0 k) (known_after k k0) owed)) in
    same_counts refl (sym sum) (record {
      few = omega (arith, a1, a2);
      none = λ h.
          elim (here.none (omega (arith, h))) [
            | inl n ↦
                elim (below.none (omega (arith, h))) [
                  | inl o ↦ inl (omega (arith, n, o))
                  | inr o ↦ let one : half (may_end (after_all (after q0 k) (kinds_of (repaired f)))) ≡ 1 = in_lambda o in absurd (omega (arith, h, one))
                ]
            | inr n ↦ inr n
          ];
    })
