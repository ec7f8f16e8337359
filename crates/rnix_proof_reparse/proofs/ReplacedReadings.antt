-- A reading without errors stays one if the children of one bracketed node are replaced by others that can be read there without errors.
use Rattle.std.proofs.Common.{◌≡◌, ℕ, suc, ◌+◌, ◌≤◌, Bool, true, false, List, [], ◌∷◌, ◌++◌, Some, refl, ap, sym, ◌∙◌, subst, arith, append_assoc}
use Rattle.std.proofs.Common.{if◌then◌else◌, ◌&&◌}
use Rattle.std.specs.List.{list_all}
use Rattle.std.proofs.lemmas.Bool.{and_from}
use Rattle.rnix_kinds.specs.declared.kinds.SyntaxKind.{SyntaxKind}
use Rattle.rnix_kinds.specs.declared.kinds.SyntaxKind.TheVariants.{TOKEN_R_BRACE}
use Rattle.rnix_kinds.proofs.AllKinds.{all_kinds, implied}
use Rattle.rnix_grammar.specs.AnnotatedForest.{Token, AnnotatedForest, blank, branch, ◌⊕◌, one_branch, tokens_in, leaf_kind}
use Rattle.rnix_grammar.specs.AnnotatedForest.{head_kind, end_from}
use Rattle.rnix_grammar.specs.OperandStarts.{is_pattern}
use Rattle.rnix_grammar.specs.FirstKinds.{IsOperandOf}
use Rattle.rnix_grammar.specs.Fault.{Fault}
use Rattle.rnix_grammar.specs.Nest.{nests}
use Rattle.rnix_grammar.specs.Reads.{Reads, end, leaf, inner, missing_part, wrong, second, IsRoom, IsOver, deeper}
use Rattle.rnix_grammar.specs.Reports.{repeats}
use Rattle.rnix_grammar.specs.Rules.{Row, row, after, counts, IsExpected, IsFollowed, is_first_expected, level_at}
use Rattle.rnix_grammar.specs.Tables.{depth_limit}
use Rattle.rnix_proof_lemmas.proofs.Basics.{true_is_not_false, not_nil, none_remaining, none_right}
use Rattle.rnix_proof_lemmas.proofs.ReachableRows.{IsKnown, is_viable, every_known, known_row, known_after}
use Rattle.rnix_proof_lemmas.proofs.RowKinds.{has_row}
use Rattle.rnix_proof_lemmas.proofs.ViableRows.{reads_viable, end_viable, reads_row}
use Rattle.rnix_proof_reparse.specs.Bracketed.{IsBracketed}
use Rattle.rnix_proof_reparse.proofs.SwappedNodes.{Swapped, here, past_token, past_branch, past_fault, inside, row_level_swapped, first_swapped}
use Rattle.rnix_proof_reparse.proofs.SwappedNodes.{follows_swapped, first_expected_swapped, asked_swapped, repeats_here, repeats_inside, swapped_behind}
use Rattle.rnix_proof_reparse.proofs.SeenItems.{Sees, sees_self, sees_cons, sees_more, sees_node, head_seen, expected_seen, AreSeenAlike, operand_seen}
use Rattle.rnix_proof_reparse.proofs.CarriedReadings.{same, swapped, clean_node, carried, carry, no_second, room_remaining, deeper_room}

-- the next item is neither `:` nor `@`, either of which would make a pattern of braces before it
abbrev pub IsColonless : List Token → Type 0
IsColonless us = is_pattern (Some TOKEN_R_BRACE) (head_kind us) ≡ false

-- the item after the node is neither
abbrev pub IsColonlessAfter : {k : SyntaxKind} {c e f g : AnnotatedForest} → Swapped k c e f g → List Token → Type 0
IsColonlessAfter (here {f = f}) us = IsColonless (tokens_in f ++ us)
IsColonlessAfter (past_token s) us = IsColonlessAfter s us
IsColonlessAfter (past_branch s) us = IsColonlessAfter s us
IsColonlessAfter (past_fault s) us = IsColonlessAfter s us
IsColonlessAfter (inside {f = f} s) us = IsColonlessAfter s (tokens_in f ++ us)

-- how many counted expressions are around the inside of the node, below a node of the kind
abbrev pub levels : {k : SyntaxKind} {c e f g : AnnotatedForest} → SyntaxKind → Swapped k c e f g → ℕ
levels {k} p here = if nests p k then 1 else 0
levels p (past_token s) = levels p s
levels p (past_branch s) = levels p s
levels p (past_fault s) = levels p s
levels p (inside {j = j} s) = if nests p j then suc (levels j s) else levels j s

-- the children of a node are read at a depth, after an item that ends at `n`, before other items
pub record IsNodeRead (k : SyntaxKind) (d n : ℕ) (x : AnnotatedForest) (us : List Token) : Type 0 where
  pub rest : Row
  pub reads : Reads k d n (row k) rest blank us x []
  pub over : IsOver rest (end_from n (tokens_in x)) us

-- a child that counts along its row also counts by its kind
abbrev goes_on : Row → SyntaxKind → Bool
goes_on q j = has_row j && is_viable (after q j)

abbrev is_nesting : SyntaxKind → Row → Bool
is_nesting i q = if counts q then list_all (λ j. if goes_on q j then nests i j else true) all_kinds else true

pub nesting : {p : SyntaxKind} (q : Row) (j : SyntaxKind) → IsKnown p q → has_row j ≡ true → is_viable (after q j) ≡ true → counts q ≡ true → nests p j ≡ true
nesting {p} q j known h v e = implied (goes_on q) (nests p)
    (sym (ap (λ w. if w then list_all (λ j. if goes_on q j then nests p j else true) all_kinds else true) e)
    ∙ every_known is_nesting (λ i. refl) refl p q known) j (and_from (has_row j) (is_viable (after q j)) h v)

-- the limit allows one level more if it allows it by kinds
one_more : (c w : Bool) (d m : ℕ) → (c ≡ true → w ≡ true) → d + ((if w then 1 else 0) + m) ≤ depth_limit → (if c then suc d else d) + m ≤ depth_limit
one_more true true d m h l = omega (arith, l)
one_more true false d m h l = absurd (true_is_not_false (sym (h refl)))
one_more false true d m h l = omega (arith, l)
one_more false false d m h l = omega (arith, l)

some_more : (c w : Bool) (d x m : ℕ) → (c ≡ true → w ≡ true) → d + ((if w then suc x else x) + m) ≤ depth_limit
    → (if c then suc d else d) + (x + m) ≤ depth_limit
some_more true true d x m h l = omega (arith, l)
some_more true false d x m h l = absurd (true_is_not_false (sym (h refl)))
some_more false true d x m h l = omega (arith, l)
some_more false false d x m h l = omega (arith, l)

-- two joined lists of items end where the second ends, after the first
pub end_more : (n : ℕ) (xs ys : List Token) → end_from n (xs ++ ys) ≡ end_from (end_from n xs) ys
end_more n [] ys = refl
end_more n (x ∷ xs) ys = end_more x.end xs ys

-- the new children begin like the old ones, end at the same byte, and are read without errors wherever these may be
pub record MayStand (k : SyntaxKind) (c e : AnnotatedForest) (m : ℕ) : Type 0 where
  pub sees : (us : List Token) → IsColonless us → Sees (tokens_in c ++ us) (tokens_in e ++ us)
  pub ends : (n : ℕ) → end_from n (tokens_in c) ≡ end_from n (tokens_in e)
  pub reads : (d n : ℕ) (us : List Token) → IsColonless us → d + m ≤ depth_limit → IsNodeRead k d n e us

module _ {k l r : SyntaxKind} (w : IsBracketed k l r) {c e : AnnotatedForest} {m : ℕ} (new : MayStand k c e m) where
  sees_swapped : {f g : AnnotatedForest} (s : Swapped k c e f g) (us : List Token) → IsColonlessAfter s us → Sees (tokens_in f ++ us) (tokens_in g ++ us)
  sees_swapped (here {f = f}) us colonless =
      subst (λ z. Sees z ((tokens_in e ++ tokens_in f) ++ us)) (sym (append_assoc (tokens_in c) (tokens_in f) us))
      (subst (λ z. Sees (tokens_in c ++ (tokens_in f ++ us)) z) (sym (append_assoc (tokens_in e) (tokens_in f) us)) (new.sees (tokens_in f ++ us) colonless))
  sees_swapped (past_token {t = t} {f = f} {g = g} s) us colonless = sees_cons t (tokens_in f ++ us) (tokens_in g ++ us) (sees_swapped s us colonless)
  sees_swapped (past_branch {d = d} {f = f} {g = g} s) us colonless =
      subst (λ z. Sees z ((tokens_in d ++ tokens_in g) ++ us)) (sym (append_assoc (tokens_in d) (tokens_in f) us))
      (subst (λ z. Sees (tokens_in d ++ (tokens_in f ++ us)) z) (sym (append_assoc (tokens_in d) (tokens_in g) us))
      (sees_more (tokens_in d) (tokens_in f ++ us) (tokens_in g ++ us) (sees_swapped s us colonless)))
  sees_swapped (past_fault {d = d} {f = f} {g = g} s) us colonless =
      subst (λ z. Sees z ((tokens_in d ++ tokens_in g) ++ us)) (sym (append_assoc (tokens_in d) (tokens_in f) us))
      (subst (λ z. Sees (tokens_in d ++ (tokens_in f ++ us)) z) (sym (append_assoc (tokens_in d) (tokens_in g) us))
      (sees_more (tokens_in d) (tokens_in f ++ us) (tokens_in g ++ us) (sees_swapped s us colonless)))
  sees_swapped (inside {d = d} {h = h} {f = f} s) us colonless =
      subst (λ z. Sees z ((tokens_in h ++ tokens_in f) ++ us)) (sym (append_assoc (tokens_in d) (tokens_in f) us))
      (subst (λ z. Sees (tokens_in d ++ (tokens_in f ++ us)) z) (sym (append_assoc (tokens_in h) (tokens_in f) us)) (sees_swapped s (tokens_in f ++ us)
      colonless))

  ends_swapped : {f g : AnnotatedForest} → Swapped k c e f g → (n : ℕ) → end_from n (tokens_in f) ≡ end_from n (tokens_in g)
  ends_swapped (here {f = f}) n =
      end_more n (tokens_in c) (tokens_in f) ∙ ap (λ z. end_from z (tokens_in f)) (new.ends n) ∙ sym (end_more n (tokens_in e) (tokens_in f))
  ends_swapped (past_token {t = t} s) n = ends_swapped s t.end
  ends_swapped (past_branch {d = d} {f = f} {g = g} s) n =
      end_more n (tokens_in d) (tokens_in f) ∙ ends_swapped s (end_from n (tokens_in d)) ∙ sym (end_more n (tokens_in d) (tokens_in g))
  ends_swapped (past_fault {d = d} {f = f} {g = g} s) n =
      end_more n (tokens_in d) (tokens_in f) ∙ ends_swapped s (end_from n (tokens_in d)) ∙ sym (end_more n (tokens_in d) (tokens_in g))
  ends_swapped (inside {d = d} {h = h} {f = f} s) n =
      end_more n (tokens_in d) (tokens_in f) ∙ ap (λ z. end_from z (tokens_in f)) (ends_swapped s n) ∙ sym (end_more n (tokens_in h) (tokens_in f))

  -- two forests that differ only in this node look the same to a reading
  seen_swapped : {f g : AnnotatedForest} → Swapped k c e f g → AreSeenAlike f g
  seen_swapped s = record { level = row_level_swapped w s; first = first_swapped w s; follow = λ i. follows_swapped w i s }

  -- the replaced node, or one that contains it, is read without errors
  node_replaced : {p j : SyntaxKind} {d n : ℕ} {q q' : Row} {b f : AnnotatedForest} {us : List Token} {es : List Fault} (x y : AnnotatedForest)
      → Swapped k c e (one_branch j x) (one_branch j y) → Sees (tokens_in x ++ (tokens_in f ++ us)) (tokens_in y ++ (tokens_in f ++ us))
      → end_from n (tokens_in x) ≡ end_from n (tokens_in y) → IsRoom q d → IsNodeRead j (deeper q d) n y (tokens_in f ++ us)
      → IsExpected q n (tokens_in x ++ (tokens_in f ++ us)) (is_first_expected q j x) → IsFollowed q b (head_kind (tokens_in x ++ (tokens_in f ++ us)))
      → IsOperandOf (level_at q (one_branch j x)) (one_branch j x) (tokens_in f ++ us) → repeats j b y ≡ [] → d ≤ depth_limit
      → Reads p d (end_from n (tokens_in x)) (after q j) q' (b ⊕ one_branch j x) us f es → es ≡ []
      → Reads p d n q q' b us (branch j y f) []
  node_replaced {p} {j} {d} {n} {q} {q'} {b} {f} {us} x y s all ends room read i o op none limit h z =
      let rest : List Token = tokens_in f ++ us in
      clean_node room read.reads read.over
      (expected_seen q n (tokens_in x ++ rest) (tokens_in y ++ rest) (is_first_expected q j y) all
      (subst (λ v. IsExpected q n (tokens_in x ++ rest) v) (first_expected_swapped w q j s) i))
      (subst (IsFollowed q b) (head_seen (tokens_in x ++ rest) (tokens_in y ++ rest) all) o)
      (subst (λ v. IsOperandOf v (one_branch j y) rest) (asked_swapped w q s)
      (operand_seen (level_at q (one_branch j x)) (one_branch j x) (one_branch j y) (seen_swapped s) rest rest (sees_self rest)
      (sees_node j x y rest rest all) op)) none
      (subst (λ u. Reads p d u (after q j) q' (b ⊕ one_branch j y) us f []) ends
      (carry w h z d (room_remaining h z limit) (swapped (swapped_behind b s)) us (sees_self us)))

  pub replaces : {p : SyntaxKind} {d n : ℕ} {q q' : Row} {b f g : AnnotatedForest} {us : List Token} {es : List Fault} → Reads p d n q q' b us f es → es ≡ []
      → IsKnown p q → is_viable q' ≡ true → d ≤ depth_limit → (s : Swapped k c e f g) → IsColonlessAfter s us → d + (levels p s + m) ≤ depth_limit
      → Reads p d n q q' b us g []
  replaces end z known v limit s colonless fit = elim s [ ]
  replaces (missing_part u t o y h) z known v limit s colonless fit = absurd (not_nil z)
  replaces (wrong note ts x o y h) z known v limit s colonless fit = absurd (not_nil z)
  replaces (second {c = x} {ds = ds} {es = es} hr over h) z known v limit s colonless fit = no_second ds (tokens_in x) es z
  replaces {p} {n = n} {q = q} {us = us} (leaf {t = t} {f = f} x o h) z known v limit (past_token {g = g} s) colonless fit =
      leaf (expected_seen q n (t ∷ (tokens_in f ++ us)) (t ∷ (tokens_in g ++ us)) true
      (sees_cons t (tokens_in f ++ us) (tokens_in g ++ us) (sees_swapped s us colonless)) x) o
      (replaces h z (known_after (leaf_kind p t) known) v limit s colonless fit)
  replaces {p} {d} {n} {q} {b = b} {us = us} (inner {f = f} {ds = ds} {es = es} room hr over i o op h) z known v limit here colonless fit =
      let none : ds ++ repeats k b c ≡ [] = none_remaining (ds ++ repeats k b c) es z in
      let counted = nesting q k known (reads_row hr over.0) (reads_viable h v) in
      node_replaced c e here (new.sees (tokens_in f ++ us) colonless) (new.ends n) room
      (new.reads (deeper q d) n (tokens_in f ++ us) colonless (one_more (counts q) (nests p k) d m counted fit)) i o op
      (sym (repeats_here w b c e) ∙ none_right ds (repeats k b c) none) limit h (none_right (ds ++ repeats k b c) es z)
  replaces {p} {d} {n} {q} {b = b} {us = us} (inner {k = j} {s = t} {c = x} {f = f} {ds = ds} {es = es} room hr over i o op h) z known v limit
      (inside {h = y} s) colonless fit =
      let none : ds ++ repeats j b x ≡ [] = none_remaining (ds ++ repeats j b x) es z in
      let counted = nesting q j known (reads_row hr over.0) (reads_viable h v) in
      let ends : end_from n (tokens_in x) ≡ end_from n (tokens_in y) = ends_swapped s n in
      let below : Reads j (deeper q d) n (row j) t blank (tokens_in f ++ us) y [] =
      replaces hr (none_remaining ds (repeats j b x) none) (known_row j) (end_viable t over.0) (deeper_room q d room limit) s colonless
      (some_more (counts q) (nests p j) d (levels j s) m counted fit) in
      node_replaced x y (inside s) (sees_swapped s (tokens_in f ++ us) colonless) ends room
      (record { rest = t; reads = below; over = subst (λ u. IsOver t u (tokens_in f ++ us)) ends over }) i o op
      (sym (repeats_inside w j b s) ∙ none_right ds (repeats j b x) none) limit h (none_right (ds ++ repeats j b x) es z)
  replaces {p} {d} {n} {q} {b = b} {us = us} (inner {k = j} {c = x} {f = f} {ds = ds} {es = es} room hr over i o op h) z known v limit
      (past_branch {g = g} s) colonless fit =
      let none : ds ++ repeats j b x ≡ [] = none_remaining (ds ++ repeats j b x) es z in
      let rest : Sees (tokens_in f ++ us) (tokens_in g ++ us) = sees_swapped s us colonless in
      carried w {c = c} {e = e} us f room rest
      (carry w {c = c} {e = e} hr (none_remaining ds (repeats j b x) none) (deeper q d)
      (room_remaining hr (none_remaining ds (repeats j b x) none) (deeper_room q d room
      limit)) same
      (tokens_in g ++ us) rest) over i o op same (none_right ds (repeats j b x) none)
      (replaces h (none_right (ds ++ repeats j b x) es z) (known_after j known) v limit s colonless fit)
