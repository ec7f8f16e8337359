-- Some items are read in the same way with other ranges, with the same errors, if they touch alike inside paths.
use Rattle.std.proofs.Common.{◌≡◌, ℕ, true, false, List, [], ◌∷◌, ◌++◌, Option, Some, refl, ap, sym, ◌∙◌, subst, inl, append_assoc}
use Rattle.{rnix_kinds.specs.declared.kinds.SyntaxKind.{SyntaxKind, TheVariants.NODE_ERROR}, rnix_green.specs.Range.Extent, rnix_grammar.specs.Fault.Fault}
use Rattle.rnix_grammar.specs.{Reports.{report, repeats}, AnnotatedForest.{Token, Note, DoubleBind, AnnotatedForest, blank, token, branch, fault, ◌⊕◌}}
use Rattle.rnix_grammar.specs.{AnnotatedForest.{one_token, one_branch, one_fault, row_of, tokens_in, leaf_kind, head_kind, end_from}, Rules.{Row, done, row}}
use Rattle.rnix_grammar.specs.{Rules.{second_name, after, IsExpected, is_first_expected, level_at, IsFollowed}, FirstKinds.IsOperandOf, Reads.{Reads, IsOver}}
use Rattle.rnix_grammar.specs.Reads.{IsWrong, deeper, end, leaf, inner, missing_part, wrong, second}
use Rattle.rnix_proof_lemmas.proofs.{AnnotatedForestLemmas.tokens_in-row_of, ReachableRows.{IsKnown, known_row, known_second, known_after, known_missing}}
use Rattle.{rnix_proof_lemmas.proofs.{ReachableRows.{known_past, known_wrong}, MissingFacts.missing_ended}, rnix_proof_layout.specs.AlikeItems.AreSameFaults}
use Rattle.rnix_proof_layout.{specs.AlikeItems.IsSameFault, proofs.MovedItems.{at, moved, past, later, moved_trees, moved_two, past_two, tokens_moved}}
use Rattle.rnix_proof_layout.proofs.{MovedItems.{tokens_after, row_moved, head_moved}, Unplaced.{unplaced, unplaced-⊕, unplaced_moved, alike}}
use Rattle.rnix_proof_layout.proofs.{Unplaced.{first_expected_same, followed_same}, Touch.{Touching, Joins, last_kind, last_two, touching_after, expected_same}}
use Rattle.rnix_proof_layout.proofs.{Moves.{operand_at, wrong_same}, Faults.{same_here, report_same, ended_same, same_append, repeats_same}}
use Rattle.rnix_proof_layout.proofs.JoinedRows.{no_joins, row_joins, leaf_joins, node_joins, wrong_joins}

-- the items are read in the same way with other ranges, as a part of all items
pub record IsMoved (ws : List Token) (qs ps : List Extent) (p : SyntaxKind) (d m : ℕ) (q q' : Row) (prev : Option SyntaxKind) (b : AnnotatedForest)
    (us : List Token) (f : AnnotatedForest)
    (es : List Fault) : Type 0 where
  pub faults : List Fault
  pub reads : Reads p d m q q' b (moved us (past (tokens_in f) ps)) (moved_trees f ps) faults
  pub same : AreSameFaults ws (moved ws qs) es faults
  pub joins : Joins q' (last_kind prev (tokens_in f)) us

unplaced_next : (b c x y : AnnotatedForest) → unplaced b ≡ unplaced c → unplaced x ≡ unplaced y → unplaced (b ⊕ x) ≡ unplaced (c ⊕ y)
unplaced_next b c x y e h = unplaced-⊕ b x ∙ ap (λ z. z ⊕ unplaced x) e ∙ ap (λ z. unplaced c ⊕ z) h ∙ sym (unplaced-⊕ c y)

-- the ranges that remain after some items, as a part of all ranges
extents_after : (a xs : List Token) (ps qs : List Extent) → ps ≡ past a qs → past xs ps ≡ past (a ++ xs) qs
extents_after a xs ps qs e = ap (past xs) e ∙ sym (past_two a xs qs)

-- an item is read in the same way
moved_leaf : {p : SyntaxKind} {d m : ℕ} {q q' : Row} {c : AnnotatedForest} {us : List Token} {t : Token} {f : AnnotatedForest} {es : List Fault}
    (ws : List Token) (qs ps : List Extent) (prev : Option SyntaxKind) (n : ℕ) (b : AnnotatedForest) → unplaced b ≡ unplaced c
    → Joins q prev (t ∷ (tokens_in f ++ us))
    → Touching prev n m (t ∷ (tokens_in f ++ us)) ps → IsExpected q n (t ∷ (tokens_in f ++ us)) true
    → IsFollowed q b (Some (leaf_kind p t))
    → IsMoved ws qs (later ps) p d (at t ps).end (after q (leaf_kind p t)) q' (Some t.kind) (c ⊕ one_token (leaf_kind p t) (at t ps)) us f es
    → IsMoved ws qs ps p d m q q' prev c us (token (leaf_kind p t) t f) es
moved_leaf {p} {m = m} {q = q} {c = c} {us = us} {t = t} {f = f} ws qs ps prev n b e j touch x w r = record {
  faults = r.faults;
  reads = leaf {t = at t ps}
      (subst (λ z. IsExpected q m z true) (tokens_after (token (leaf_kind p t) t f) us ps)
      (expected_same q prev n m (t ∷ (tokens_in f ++ us)) ps true j touch x))
      (followed_same q b c (Some (leaf_kind p t)) e w) r.reads;
  same = r.same;
  joins = r.joins;
}

-- a row that may end before some items may end before them with other ranges
over_same : (s : Row) (prev : Option SyntaxKind) (n m : ℕ) (us : List Token) (f : AnnotatedForest) (ps : List Extent) → Joins s prev (tokens_in f ++ us)
    → Touching prev n m (tokens_in f ++ us) ps
    → IsOver s n (tokens_in f ++ us) → IsOver s m (tokens_in (moved_trees f ps) ++ moved us (past (tokens_in f) ps))
over_same s prev n m us f ps j touch h =
    (h.0, subst (λ z. IsExpected s m z false) (tokens_after f us ps) (expected_same s prev n m (tokens_in f ++ us) ps false j touch h.1))

-- two forests and the items after them, with other ranges
both_after : (c f : AnnotatedForest) (us : List Token) (ps : List Extent) → moved (tokens_in c ++ (tokens_in f ++ us)) ps
    ≡ tokens_in (moved_trees c ps) ++ (tokens_in (moved_trees f (past (tokens_in c) ps)) ++ moved us (past (tokens_in f) (past (tokens_in c) ps)))
both_after c f us ps = tokens_after c (tokens_in f ++ us) ps ∙ ap (λ z. tokens_in (moved_trees c ps) ++ z) (tokens_after f us (past (tokens_in c) ps))

-- the items after a node touch alike if the node's items and they do
touching_node : (prev : Option SyntaxKind) (n m : ℕ) (c : AnnotatedForest) (us : List Token) (ps : List Extent) → Touching prev n m (tokens_in c ++ us) ps
    → Touching (last_kind prev (tokens_in c)) (end_from n (tokens_in c)) (end_from m (tokens_in (moved_trees c ps))) us (past (tokens_in c) ps)
touching_node prev n m c us ps h =
    subst (λ z. Touching (last_kind prev (tokens_in c)) (end_from n (tokens_in c)) (end_from m z) us (past (tokens_in c) ps)) (sym (tokens_moved c ps))
    (touching_after prev n m (tokens_in c) us ps h)

-- an operand is also one with other ranges
operand_moved : (q : Row) (k : SyntaxKind) (c f : AnnotatedForest) (us : List Token) (ps : List Extent)
    → IsOperandOf (level_at q (one_branch k c)) (one_branch k c) (tokens_in f ++ us)
    → IsOperandOf (level_at q (one_branch k (moved_trees c ps))) (one_branch k (moved_trees c ps))
    (tokens_in (moved_trees f (past (tokens_in c) ps)) ++ moved us (past (tokens_in f) (past (tokens_in c) ps)))
operand_moved q k c f us ps h =
    subst (λ z. IsOperandOf (level_at q (one_branch k (moved_trees c ps))) (one_branch k (moved_trees c ps)) z)
    (ap (moved (tokens_in f ++ us)) (past_two (tokens_in c) [] ps) ∙ tokens_after f us (past (tokens_in c) ps))
    (operand_at q (one_branch k c) (tokens_in f ++ us) ps h)

-- the ranges after the rest of a row, from the row's first item on
rest_extents : {p : SyntaxKind} {d m : ℕ} {q q' : Row} {b g : AnnotatedForest} {es : List Fault} (us xs ys : List Token) (ps : List Extent)
    → Reads p d m q q' b (moved us (past ys (past xs ps))) g es → Reads p d m q q' b (moved us (past (xs ++ ys) ps)) g es
rest_extents {p} {d} {m} {q} {q'} {b} {g} {es} us xs ys ps h = subst (λ z. Reads p d m q q' b (moved us z) g es) (sym (past_two xs ys ps)) h

rest_joins : (q : Row) (prev : Option SyntaxKind) (xs ys us : List Token) → Joins q (last_kind (last_kind prev xs) ys) us
    → Joins q (last_kind prev (xs ++ ys)) us
rest_joins q prev xs ys us j = subst (λ z. Joins q z us) (sym (last_two prev xs ys)) j

-- an error node is read in the same way
wrong_extents : {p : SyntaxKind} {d m : ℕ} {q q' : Row} {b : AnnotatedForest} {es : List Fault} (note : Note) (ts : List Token) (f : AnnotatedForest)
    (us : List Token) (ps : List Extent)
    → Reads p d m q q' b (moved us (past (tokens_in f) (past ts ps))) (fault note (row_of (moved ts ps)) (moved_trees f (past ts ps))) es
    → Reads p d m q q' b (moved us (past (tokens_in f) (past (tokens_in (row_of ts)) ps)))
    (fault note (moved_trees (row_of ts) ps) (moved_trees f (past (tokens_in (row_of ts)) ps))) es
wrong_extents {p} {d} {m} {q} {q'} {b} {es} note ts f us ps h =
    subst (λ z. Reads p d m q q' b (moved us (past (tokens_in f) (past z ps))) (fault note (moved_trees (row_of ts) ps) (moved_trees f (past z ps))) es)
    (sym (tokens_in-row_of ts))
    (subst (λ z. Reads p d m q q' b (moved us (past (tokens_in f) (past ts ps))) (fault note z (moved_trees f (past ts ps))) es) (sym (row_moved ts ps)) h)

pub moves : {p : SyntaxKind} {d n : ℕ} {q q' : Row} {b : AnnotatedForest} {us : List Token} {f : AnnotatedForest} {es : List Fault}
    → Reads p d n q q' b us f es → (ws : List Token) (qs : List Extent) → IsKnown p q
    → (prev : Option SyntaxKind) (m : ℕ) (b' : AnnotatedForest) (a : List Token) (ps : List Extent) → unplaced b ≡ unplaced b' → ws ≡ a ++ (tokens_in f ++ us)
    → ps ≡ past a qs
    → Joins q prev (tokens_in f ++ us) → Touching prev n m (tokens_in f ++ us) ps → IsMoved ws qs ps p d m q q' prev b' us f es
moves end ws qs known prev m b' a ps e ew eps j touch = record { faults = []; reads = end; same = tt; joins = j }
moves {p} {d} {n} {q} {q'} {b} {us} (leaf {t = t} {f = f} x w h) ws qs known prev m b' a ps e ew eps j touch =
    moved_leaf ws qs ps prev n b e j touch x w
    (moves h ws qs (known_after (leaf_kind p t) known) (Some t.kind) (at t ps).end (b' ⊕ one_token (leaf_kind p t) (at t ps)) (a ++ (t ∷ [])) (later ps)
    (unplaced_next b b' (one_token (leaf_kind p t) t) (one_token (leaf_kind p t) (at t ps)) e refl) (ew ∙ sym (append_assoc a (t ∷ []) (tokens_in f ++ us)))
    (extents_after a (t ∷ []) ps qs eps) (leaf_joins known n t (tokens_in f ++ us) (tokens_in f ++ us) x) touch.1)
moves {p} {d} {n} {q} {q'} {b} {us} (inner {k = k} {s = s} {c = c} {f = f} {ds = ds} {es = es} room hr over x w op h) ws qs
    known prev m b' a ps e ew eps j touch =
    let rest : List Token = tokens_in f ++ us in
    let c' : AnnotatedForest = moved_trees c ps in
    let parted : (tokens_in c ++ tokens_in f) ++ us ≡ tokens_in c ++ rest = append_assoc (tokens_in c) (tokens_in f) us in
    let ew' : ws ≡ a ++ (tokens_in c ++ rest) = ew ∙ ap (λ z. a ++ z) parted in
    let j' : Joins q prev (tokens_in c ++ rest) = subst (λ z. Joins q prev z) parted j in
    let touch' : Touching prev n m (tokens_in c ++ rest) ps = subst (λ z. Touching prev n m z ps) parted touch in
    let touch1 : Touching (last_kind prev (tokens_in c)) (end_from n (tokens_in c)) (end_from m (tokens_in c')) rest (past (tokens_in c) ps) =
    touching_node prev n m c rest ps touch' in
    let below : IsMoved ws qs ps k (deeper q d) m (row k) s prev blank rest c ds =
    moves hr ws qs (known_row k) prev m blank a ps refl ew' eps (row_joins k prev (tokens_in c ++ rest)) touch' in
    let next : IsMoved ws qs (past (tokens_in c) ps) p d (end_from m (tokens_in c')) (after q k) q' (last_kind prev (tokens_in c))
    (b' ⊕ one_branch k c') us f es =
    moves h ws qs (known_after k known) (last_kind prev (tokens_in c)) (end_from m (tokens_in c')) (b' ⊕ one_branch k c')
    (a ++ tokens_in c) (past (tokens_in c) ps)
    (unplaced_next b b' (one_branch k c) (one_branch k c') e (ap (λ z. branch k z blank) (sym (unplaced_moved c ps))))
    (ew' ∙ sym (append_assoc a (tokens_in c) rest))
    (extents_after a (tokens_in c) ps qs eps) (node_joins known hr over.0 prev) touch1 in
    let repeated : AreSameFaults ws (moved ws qs) (repeats k b c) (repeats k b' c') =
    subst (λ z. AreSameFaults ws (moved ws qs) (repeats k b c) (repeats k b' (moved_trees c z))) (sym eps) (repeats_same ws a rest qs k b b' c e ew') in
    record {
      faults = (below.faults ++ repeats k b' c') ++ next.faults;
      reads = rest_extents us (tokens_in c) (tokens_in f) ps
          (inner room
          (subst (λ z. Reads k (deeper q d) m (row k) s blank z c' below.faults) (tokens_after f us (past (tokens_in c) ps)) below.reads)
          (over_same s (last_kind prev (tokens_in c)) (end_from n (tokens_in c)) (end_from m (tokens_in c')) us f (past (tokens_in c) ps)
          below.joins touch1 over)
          (subst (λ z. IsExpected q m z (is_first_expected q k c')) (both_after c f us ps)
          (subst (λ v. IsExpected q m (moved (tokens_in c ++ rest) ps) v)
          (alike (is_first_expected q k) (first_expected_same q k) c c' (sym (unplaced_moved c ps)))
          (expected_same q prev n m (tokens_in c ++ rest) ps (is_first_expected q k c) j' touch' x)))
          (subst (IsFollowed q b') (sym (head_moved (tokens_in c ++ rest) ps) ∙ ap head_kind (both_after c f us ps))
          (followed_same q b b' (head_kind (tokens_in c ++ rest)) e w))
          (operand_moved q k c f us ps op) next.reads);
      same = same_append ws (moved ws qs) (ds ++ repeats k b c) (below.faults ++ repeats k b' c') es next.faults
          (same_append ws (moved ws qs) ds below.faults (repeats k b c) (repeats k b' c') below.same repeated) next.same;
      joins = rest_joins q' prev (tokens_in c) (tokens_in f) us next.joins;
    }
moves {us = us} (missing_part {f = f} {e = error} hu hf hm hr h) ws qs known prev m b' a ps e ew eps j touch =
    let r = moves h ws qs (known_missing hm known) prev m b' a ps e ew eps (inl (ap (λ z. z ++ us) hf ∙ hu)) touch in
    record {
      faults = error ∷ r.faults;
      reads = missing_part (ap (λ z. moved z (past (tokens_in f) ps)) hu) (tokens_moved f ps ∙ ap (λ z. moved z ps) hf) hm hr r.reads;
      same = (ended_same ws (moved ws qs) error (missing_ended known hm).0, r.same);
      joins = r.joins;
    }
moves {p} {d} {n} {q} {q'} {b} {us} (wrong {r = r} {f = f} {es = es} note ts x w v h) ws qs known prev m b' a ps e ew eps j touch =
    let rest : List Token = tokens_in f ++ us in
    let rows : tokens_in (row_of ts) ≡ ts = tokens_in-row_of ts in
    let parted : (tokens_in (row_of ts) ++ tokens_in f) ++ us ≡ ts ++ rest = ap (λ z. (z ++ tokens_in f) ++ us) rows ∙ append_assoc ts (tokens_in f) us in
    let ew' : ws ≡ a ++ (ts ++ rest) = ew ∙ ap (λ z. a ++ z) parted in
    let j' : Joins q prev (ts ++ rest) = subst (λ z. Joins q prev z) parted j in
    let touch' : Touching prev n m (ts ++ rest) ps = subst (λ z. Touching prev n m z ps) parted touch in
    let next : IsMoved ws qs (past ts ps) p d (end_from m (moved ts ps)) r q' (last_kind prev ts) (b' ⊕ one_fault note (row_of (moved ts ps))) us f es =
    moves h ws qs (known_wrong note d ts rest v known) (last_kind prev ts) (end_from m (moved ts ps)) (b' ⊕ one_fault note (row_of (moved ts ps)))
    (a ++ ts) (past ts ps)
    (unplaced_next b b' (one_fault note (row_of ts)) (one_fault note (row_of (moved ts ps))) e
    (ap (λ z. fault note z blank) (sym (unplaced_moved (row_of ts) ps) ∙ ap unplaced (row_moved ts ps))))
    (ew' ∙ sym (append_assoc a ts rest)) (extents_after a ts ps qs eps) (wrong_joins q r note d ts rest known v (last_kind prev ts))
    (touching_after prev n m ts rest ps touch') in
    let ranges : IsSameFault ws (moved ws qs) (report note ts) (report note (moved ts ps)) =
    subst (λ z. IsSameFault ws (moved ws qs) (report note ts) (report note (moved ts z))) (sym eps)
    (report_same ws (moved ws qs) note ts (past a qs) (same_here ws a ts rest qs ew')) in
    record {
      faults = report note (moved ts ps) ∷ next.faults;
      reads = rest_extents us (tokens_in (row_of ts)) (tokens_in f) ps
          (wrong_extents note ts f us ps
          (wrong note (moved ts ps)
          (subst (λ z. IsExpected q m z false) (moved_two ts rest ps ∙ ap (λ z. moved ts ps ++ z) (tokens_after f us (past ts ps)))
          (expected_same q prev n m (ts ++ rest) ps false j' touch' x))
          (subst (IsFollowed q b') (sym (head_moved ts ps)) (followed_same q b b' (head_kind ts) e w))
          (subst (IsWrong note d q r (moved ts ps)) (tokens_after f us (past ts ps)) (wrong_same note d q r ts rest ps v)) next.reads));
      same = (ranges, next.same);
      joins = rest_joins q' prev (tokens_in (row_of ts)) (tokens_in f) us
          (subst (λ z. Joins q' (last_kind (last_kind prev z) (tokens_in f)) us) (sym rows) next.joins);
    }
moves {p = p} {d = d} {n = n} {q' = q'} {b = b} {us = us} (second {s = s} {c = c} {f = f} {ds = ds} {es = es} hr over h) ws qs
    known prev m b' a ps e ew eps j touch =
    let rest : List Token = tokens_in f ++ us in
    let c' : AnnotatedForest = moved_trees c ps in
    let parted : (tokens_in c ++ tokens_in f) ++ us ≡ tokens_in c ++ rest = append_assoc (tokens_in c) (tokens_in f) us in
    let ew' : ws ≡ a ++ (tokens_in c ++ rest) = ew ∙ ap (λ z. a ++ z) parted in
    let touch' : Touching prev n m (tokens_in c ++ rest) ps = subst (λ z. Touching prev n m z ps) parted touch in
    let touch1 : Touching (last_kind prev (tokens_in c)) (end_from n (tokens_in c)) (end_from m (tokens_in c')) rest (past (tokens_in c) ps) =
    touching_node prev n m c rest ps touch' in
    let below : IsMoved ws qs ps NODE_ERROR d m second_name s prev blank rest c ds =
    moves hr ws qs known_second prev m blank a ps refl ew' eps (no_joins second_name prev (tokens_in c ++ rest) refl) touch' in
    let next : IsMoved ws qs (past (tokens_in c) ps) p d (end_from m (tokens_in c')) done q' (last_kind prev (tokens_in c))
    (b' ⊕ one_fault DoubleBind c') us f es =
    moves h ws qs (known_past known) (last_kind prev (tokens_in c)) (end_from m (tokens_in c')) (b' ⊕ one_fault DoubleBind c')
    (a ++ tokens_in c) (past (tokens_in c) ps)
    (unplaced_next b b' (one_fault DoubleBind c) (one_fault DoubleBind c') e (ap (λ z. fault DoubleBind z blank) (sym (unplaced_moved c ps))))
    (ew' ∙ sym (append_assoc a (tokens_in c) rest))
    (extents_after a (tokens_in c) ps qs eps) (no_joins done (last_kind prev (tokens_in c)) rest refl) touch1 in
    let ranges : IsSameFault ws (moved ws qs) (report DoubleBind (tokens_in c)) (report DoubleBind (tokens_in c')) =
    subst (λ z. IsSameFault ws (moved ws qs) (report DoubleBind (tokens_in c)) (report DoubleBind z)) (sym (tokens_moved c ps))
    (subst (λ z. IsSameFault ws (moved ws qs) (report DoubleBind (tokens_in c)) (report DoubleBind (moved (tokens_in c) z))) (sym eps)
    (report_same ws (moved ws qs) DoubleBind (tokens_in c) (past a qs) (same_here ws a (tokens_in c) rest qs ew'))) in
    record {
      faults = (below.faults ++ report DoubleBind (tokens_in c') ∷ []) ++ next.faults;
      reads = rest_extents us (tokens_in c) (tokens_in f) ps
          (second
          (subst (λ z. Reads NODE_ERROR d m second_name s blank z c' below.faults) (tokens_after f us (past (tokens_in c) ps)) below.reads)
          (over_same s (last_kind prev (tokens_in c)) (end_from n (tokens_in c)) (end_from m (tokens_in c')) us f (past (tokens_in c) ps) below.joins touch1
          over) next.reads);
      same = same_append ws (moved ws qs) (ds ++ report DoubleBind (tokens_in c) ∷ []) (below.faults ++ report DoubleBind (tokens_in c') ∷ []) es next.faults
          (same_append ws (moved ws qs) ds below.faults (report DoubleBind (tokens_in c) ∷ []) (report DoubleBind (tokens_in c') ∷ []) below.same
          (ranges, tt)) next.same;
      joins = rest_joins q' prev (tokens_in c) (tokens_in f) us next.joins;
    }
