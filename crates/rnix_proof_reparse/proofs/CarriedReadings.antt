-- A forest that is read without errors is also read before other items that look the same to a reading, after other trees that do, and at another depth.
use Rattle.std.proofs.Common.{◌≡◌, ℕ, suc, ◌+◌, ◌<◌, ◌≤◌, max, Bool, true, false, List, [], ◌∷◌, ◌++◌, Option, Some, None, refl, ap, sym, ◌∙◌, subst, arith}
use Rattle.std.proofs.Common.{if◌then◌else◌}
use Rattle.rnix_kinds.specs.declared.kinds.SyntaxKind.{SyntaxKind}
use Rattle.rnix_grammar.specs.AnnotatedForest.{Token, DoubleBind, AnnotatedForest, blank, token, branch, fault, ◌⊕◌, one_token, one_branch, tokens_in}
use Rattle.rnix_grammar.specs.AnnotatedForest.{leaf_kind, head_kind, end_from}
use Rattle.rnix_grammar.specs.Fault.{Fault}
use Rattle.rnix_grammar.specs.Nesting.{depth_of}
use Rattle.rnix_grammar.specs.Reads.{Reads, end, leaf, inner, missing_part, wrong, second, IsRoom, IsOver, deeper}
use Rattle.rnix_grammar.specs.Reports.{report, repeats, repeated_if, entry_name}
use Rattle.rnix_grammar.specs.FirstKinds.{IsOperandOf}
use Rattle.rnix_grammar.specs.declared.rules.Part.TheVariants.{Suffix, Binary, Argument}
use Rattle.rnix_grammar.specs.Rules.{Row, ◌·◌, row, after, counts, IsExpected, IsFollowed, is_first_expected, level_at}
use Rattle.rnix_grammar.specs.Tables.{depth_limit}
use Rattle.rnix_proof_lemmas.proofs.AnnotatedForestLemmas.{tokens_two}
use Rattle.rnix_proof_lemmas.proofs.Basics.{true_is_not_false, not_nil, none_remaining, none_right}
use Rattle.rnix_proof_lemmas.proofs.EachKind.{each_kind}
use Rattle.rnix_proof_lemmas.proofs.ReachableRows.{IsKnown, known_after}
use Rattle.rnix_proof_reparse.specs.Bracketed.{IsBracketed}
use Rattle.rnix_proof_reparse.proofs.SwappedNodes.{Swapped, followed_swapped, repeats_before, swapped_first}
use Rattle.rnix_proof_reparse.proofs.SeenItems.{Sees, sees_cons, sees_more, sees_node, head_seen, expected_seen, over_seen, seen_self, operand_seen}

-- two forests that look the same: they are equal, or equal except for the children of a bracketed node, or for the place of the first token
pub data Kept (k : SyntaxKind) (c e : AnnotatedForest) : AnnotatedForest → AnnotatedForest → Type 0 where
  same : {f : AnnotatedForest} → Kept k c e f f
  swapped : {f g : AnnotatedForest} → Swapped k c e f g → Kept k c e f g
  placed : {j : SyntaxKind} {t u : Token} {f : AnnotatedForest} → Kept k c e (token j t f) (token j u f)

-- a second name of a pattern has an error
pub no_second : {A : Type 0} (ds : List Fault) (ts : List Token) (es : List Fault) → (ds ++ report DoubleBind ts ∷ []) ++ es ≡ [] → A
no_second ds ts es z = absurd (not_nil (none_right ds (report DoubleBind ts ∷ []) (none_remaining (ds ++ report DoubleBind ts ∷ []) es z)))

-- the rule for a node and the forest after it, where both are read without errors
pub clean_node : {p j : SyntaxKind} {d n : ℕ} {q q' s : Row} {b x f : AnnotatedForest} {us : List Token} → IsRoom q d
    → Reads j (deeper q d) n (row j) s blank (tokens_in f ++ us) x [] → IsOver s (end_from n (tokens_in x)) (tokens_in f ++ us)
    → IsExpected q n (tokens_in x ++ (tokens_in f ++ us)) (is_first_expected q j x) → IsFollowed q b (head_kind (tokens_in x ++ (tokens_in f ++ us)))
    → IsOperandOf (level_at q (one_branch j x)) (one_branch j x) (tokens_in f ++ us) → repeats j b x ≡ []
    → Reads p d (end_from n (tokens_in x)) (after q j) q' (b ⊕ one_branch j x) us f []
    → Reads p d n q q' b us (branch j x f) []
clean_node {p} {j} {d} {n} {q} {q'} {s} {b} {x} {f} {us} room hr over i o op none h =
    subst (λ z. Reads p d n q q' b us (branch j x f) z) (ap (λ z. ([] ++ z) ++ []) none) (inner room hr over i o op h)

-- the limit allows a node, and the forest after it
pub record IsRoomy (q : Row) (d x y : ℕ) : Type 0 where
  pub here : IsRoom q d
  pub inside : deeper q d + x ≤ depth_limit
  pub behind : d + y ≤ depth_limit

roomy_by : (w : Bool) (d x y : ℕ) → d + max (if w then suc x else x) y ≤ depth_limit
    → (w ≡ true → d < depth_limit) × ((if w then suc d else d) + x ≤ depth_limit) × (d + y ≤ depth_limit)
roomy_by true d x y h = (λ e. omega (arith, h), omega (arith, h), omega (arith, h))
roomy_by false d x y h = (λ e. absurd (true_is_not_false (sym e)), omega (arith, h), omega (arith, h))

pub roomy : (q : Row) (d x y : ℕ) → d + max (if counts q then suc x else x) y ≤ depth_limit → IsRoomy q d x y
roomy q d x y h = let w = roomy_by (counts q) d x y h in record { here = w.0; inside = w.1; behind = w.2 }

both_by : (w : Bool) (d x y : ℕ) → (if w then suc d else d) + x ≤ depth_limit → d + y ≤ depth_limit → d + max (if w then suc x else x) y ≤ depth_limit
both_by true d x y h l = omega (arith, h, l)
both_by false d x y h l = omega (arith, h, l)

pub deeper_room : (q : Row) (d : ℕ) → IsRoom q d → d ≤ depth_limit → deeper q d ≤ depth_limit
deeper_room q d room l = by (counts q) room
  where
    by : (w : Bool) → (w ≡ true → d < depth_limit) → (if w then suc d else d) ≤ depth_limit
    by true h = let m : d < depth_limit = h refl in omega (arith, m)
    by false h = l

-- a forest that is read without errors nests within the limit
pub room_remaining : {p : SyntaxKind} {d n : ℕ} {q q' : Row} {b : AnnotatedForest} {us : List Token} {f : AnnotatedForest} {es : List Fault}
    → Reads p d n q q' b us f es → es ≡ [] → d ≤ depth_limit → d + depth_of q f ≤ depth_limit
room_remaining end z l = omega (arith, l)
room_remaining (leaf x o h) z l = room_remaining h z l
room_remaining (missing_part u t m o h) z l = absurd (not_nil z)
room_remaining (wrong note ts x o v h) z l = absurd (not_nil z)
room_remaining (second {c = x} {ds = ds} {es = es} hr over h) z l = no_second ds (tokens_in x) es z
room_remaining {d = d} {q = q} {b = b} (inner {k = j} {c = x} {f = f} {ds = ds} {es = es} room hr over i o op h) z l =
    let none : ds ++ repeats j b x ≡ [] = none_remaining (ds ++ repeats j b x) es z in
    both_by (counts q) d (depth_of (row j) x) (depth_of (after q j) f)
    (room_remaining hr (none_remaining ds (repeats j b x) none) (deeper_room q d room l)) (room_remaining h (none_right (ds ++ repeats j b x) es z) l)

-- the rest of the row after such a forest is known
pub known_end : {p : SyntaxKind} {d n : ℕ} {q q' : Row} {b : AnnotatedForest} {us : List Token} {f : AnnotatedForest} {es : List Fault}
    → Reads p d n q q' b us f es → es ≡ [] → IsKnown p q → IsKnown p q'
known_end end z k = k
known_end {p} (leaf {t = t} x o h) z k = known_end h z (known_after (leaf_kind p t) k)
known_end (missing_part u t m o h) z k = absurd (not_nil z)
known_end (wrong note ts x o v h) z k = absurd (not_nil z)
known_end (second {c = x} {ds = ds} {es = es} hr over h) z k = no_second ds (tokens_in x) es z
known_end {b = b} (inner {k = j} {c = x} {ds = ds} {es = es} room hr over i o op h) z k =
    known_end h (none_right (ds ++ repeats j b x) es z) (known_after j k)

-- a token at another place may be followed by the same items, and adds no name
followed_placed : (q : Row) (j : SyntaxKind) (t u : Token) (f : AnnotatedForest) (next : Option SyntaxKind) → IsFollowed q (token j t f) next
    → IsFollowed q (token j u f) next
followed_placed (Suffix kind · q) j t u f (Some i) h = h
followed_placed (Binary · q) j t u f (Some i) h = h
followed_placed (Argument · q) j t u f (Some i) h = h
followed_placed q j t u f next h = tt

repeated_placed : (name : Option Token) (j : SyntaxKind) (t u : Token) (f : AnnotatedForest) → repeated_if name (token j t f) ≡ repeated_if name (token j u f)
repeated_placed None j t u f = refl
repeated_placed (Some v) j t u f = refl

repeats_placed : (i : SyntaxKind) (d : AnnotatedForest) (j : SyntaxKind) (t u : Token) (f : AnnotatedForest)
    → repeats i (token j t f) d ≡ repeats i (token j u f) d
repeats_placed i d j t u f = each_kind (λ i. repeats i (token j t f) d ≡ repeats i (token j u f) d) (assumption (repeated_placed (entry_name d) j t u f)) i

module _ {k l r : SyntaxKind} (w : IsBracketed k l r) {c e : AnnotatedForest} where
  kept_first : {f g : AnnotatedForest} (x : AnnotatedForest) → Kept k c e f g → Kept k c e (f ⊕ x) (g ⊕ x)
  kept_first x same = same
  kept_first x (swapped s) = swapped (swapped_first x s)
  kept_first x placed = placed

  kept_followed : (q : Row) {f g : AnnotatedForest} (next : Option SyntaxKind) → Kept k c e f g → IsFollowed q f next → IsFollowed q g next
  kept_followed q next same h = h
  kept_followed q next (swapped s) h = followed_swapped w q next s h
  kept_followed q next (placed {j = j} {t = t} {u = u} {f = f}) h = followed_placed q j t u f next h

  kept_repeats : (j : SyntaxKind) (d : AnnotatedForest) {f g : AnnotatedForest} → Kept k c e f g → repeats j f d ≡ repeats j g d
  kept_repeats j d same = refl
  kept_repeats j d (swapped s) = repeats_before w j d s
  kept_repeats j d (placed {j = i} {t = t} {u = u} {f = f}) = repeats_placed j d i t u f

  -- a node is also read before other forests that look the same
  pub carried : {p j : SyntaxKind} {m n : ℕ} {q q' s : Row} {b g x y : AnnotatedForest} {vs : List Token} (us : List Token) (f : AnnotatedForest) → IsRoom q m
      → Sees (tokens_in f ++ us) (tokens_in y ++ vs) → Reads j (deeper q m) n (row j) s blank (tokens_in y ++ vs) x []
      → IsOver s (end_from n (tokens_in x)) (tokens_in f ++ us) → IsExpected q n (tokens_in x ++ (tokens_in f ++ us)) (is_first_expected q j x)
      → IsFollowed q b (head_kind (tokens_in x ++ (tokens_in f ++ us))) → IsOperandOf (level_at q (one_branch j x)) (one_branch j x) (tokens_in f ++ us)
      → Kept k c e b g → repeats j b x ≡ [] → Reads p m (end_from n (tokens_in x)) (after q j) q' (g ⊕ one_branch j x) vs y []
      → Reads p m n q q' g vs (branch j x y) []
  carried {j = j} {n = n} {q = q} {s = s} {g = g} {x = x} {y = y} {vs = vs} us f room rest hr over i o op kept none h =
      let all : Sees (tokens_in x ++ (tokens_in f ++ us)) (tokens_in x ++ (tokens_in y ++ vs)) =
      sees_more (tokens_in x) (tokens_in f ++ us) (tokens_in y ++ vs) rest in
      clean_node room hr (over_seen s (end_from n (tokens_in x)) (tokens_in f ++ us) (tokens_in y ++ vs) rest over)
      (expected_seen q n (tokens_in x ++ (tokens_in f ++ us)) (tokens_in x ++ (tokens_in y ++ vs)) (is_first_expected q j x) all i)
      (subst (IsFollowed q g) (head_seen (tokens_in x ++ (tokens_in f ++ us)) (tokens_in x ++ (tokens_in y ++ vs)) all)
      (kept_followed q (head_kind (tokens_in x ++ (tokens_in f ++ us))) kept o))
      (operand_seen (level_at q (one_branch j x)) (one_branch j x) (one_branch j x) (seen_self (one_branch j x)) (tokens_in f ++ us) (tokens_in y ++ vs) rest
      (sees_node j x x (tokens_in f ++ us) (tokens_in y ++ vs) all) op)
      (sym (kept_repeats j x kept) ∙ none) h

  pub carry : {p : SyntaxKind} {d n : ℕ} {q q' : Row} {b : AnnotatedForest} {us : List Token} {f : AnnotatedForest} {es : List Fault}
      → Reads p d n q q' b us f es → es ≡ [] → (m : ℕ) → m + depth_of q f ≤ depth_limit → {g : AnnotatedForest} → Kept k c e b g
      → (vs : List Token) → Sees us vs → Reads p m n q q' g vs f []
  carry end z m fit kept vs sees = end
  carry {p} {n = n} {q = q} {us = us} (leaf {t = t} {f = f} x o h) z m fit kept vs sees =
      leaf (expected_seen q n (t ∷ (tokens_in f ++ us)) (t ∷ (tokens_in f ++ vs)) true (sees_more (t ∷ tokens_in f) us vs sees) x)
      (kept_followed q (Some (leaf_kind p t)) kept o) (carry h z m fit (kept_first (one_token (leaf_kind p t) t) kept) vs sees)
  carry (missing_part u t v o h) z m fit kept vs sees = absurd (not_nil z)
  carry (wrong note ts x o v h) z m fit kept vs sees = absurd (not_nil z)
  carry (second {c = x} {ds = ds} {es = es} hr over h) z m fit kept vs sees = no_second ds (tokens_in x) es z
  carry {n = n} {q = q} {b = b} {us = us} (inner {k = j} {s = s} {c = x} {f = f} {ds = ds} {es = es} room hr over i o op h) z m fit kept vs sees =
      let none : ds ++ repeats j b x ≡ [] = none_remaining (ds ++ repeats j b x) es z in
      let deep : IsRoomy q m (depth_of (row j) x) (depth_of (after q j) f) = roomy q m (depth_of (row j) x) (depth_of (after q j) f) fit in
      let rest : Sees (tokens_in f ++ us) (tokens_in f ++ vs) = sees_more (tokens_in f) us vs sees in
      carried us f deep.here rest
      (carry hr (none_remaining ds (repeats j b x) none) (deeper q m) deep.inside same (tokens_in f ++ vs) rest) over i o op kept
      (none_right ds (repeats j b x) none)
      (carry h (none_right (ds ++ repeats j b x) es z) m deep.behind (kept_first (one_branch j x) kept) vs sees)

-- if no trees are read and there are no errors, the row stays as it is
nothing_more : {p : SyntaxKind} {d n : ℕ} {q q' : Row} {b : AnnotatedForest} {us : List Token} {f : AnnotatedForest} {es : List Fault}
    → Reads p d n q q' b us f es → f ≡ blank → es ≡ [] → q ≡ q'
nothing_more end e z = refl
nothing_more (leaf x o h) e z = absurd (cc)
nothing_more (inner room hr over i o op h) e z = absurd (cc)
nothing_more (missing_part u t m o h) e z = absurd (not_nil z)
nothing_more (wrong note ts x o v h) e z = absurd (not_nil z)
nothing_more (second {c = x} {ds = ds} {es = es} hr over h) e z = no_second ds (tokens_in x) es z

-- a token that ends at another byte
abbrev pub ending : Token → ℕ → Token
ending t z = record { kind = t.kind; text = t.text; start = t.start; end = z }

sees_closed : (x : AnnotatedForest) (j : SyntaxKind) (u : Token) (us : List Token) (z : ℕ) (vs : List Token) → Sees (u ∷ us) (ending u z ∷ vs)
    → Sees (tokens_in (x ⊕ one_token j u) ++ us) (tokens_in (x ⊕ one_token j (ending u z)) ++ vs)
sees_closed x j u us z vs h =
    subst (λ a. Sees a (tokens_in (x ⊕ one_token j (ending u z)) ++ vs)) (sym (tokens_two x (one_token j u) us))
    (subst (λ a. Sees (tokens_in x ++ (u ∷ us)) a) (sym (tokens_two x (one_token j (ending u z)) vs)) (sees_more (tokens_in x) (u ∷ us) (ending u z ∷ vs) h))

module _ {k l r : SyntaxKind} (w : IsBracketed k l r) {c e : AnnotatedForest} where
  -- a forest that ends with a token of its own is also read before other items
  pub close : (x : AnnotatedForest) (j : SyntaxKind) (u : Token) {p : SyntaxKind} {d n : ℕ} {q q' : Row} {b : AnnotatedForest} {us : List Token}
      {es : List Fault}
      → Reads p d n q q' b us (x ⊕ one_token j u) es → es ≡ [] → (m : ℕ) → m + depth_of q (x ⊕ one_token j u) ≤ depth_limit
      → {g : AnnotatedForest} → Kept k c e b g → (z : ℕ) (vs : List Token) → Sees (u ∷ us) (ending u z ∷ vs)
      → Reads p m n q q' g vs (x ⊕ one_token j (ending u z)) []
  close blank j u {p} {n = n} {q = q} {q' = q'} {us = us} (leaf o f h) e m fit {g} kept z vs sees =
      leaf (expected_seen q n (u ∷ us) (ending u z ∷ vs) true sees o) (kept_followed w q (Some (leaf_kind p u)) kept f)
      (subst (λ i. Reads p m z (after q (leaf_kind p u)) i (g ⊕ one_token (leaf_kind p u) (ending u z)) vs blank []) (nothing_more h refl e) end)
  close blank j u (missing_part a t v o h) e m fit kept z vs sees = absurd (not_nil e)
  close (token i t x) j u {p} {n = n} {q = q} {us = us} (leaf o f h) e m fit kept z vs sees =
      leaf (expected_seen q n (t ∷ (tokens_in (x ⊕ one_token j u) ++ us)) (t ∷ (tokens_in (x ⊕ one_token j (ending u z)) ++ vs)) true
      (sees_cons t (tokens_in (x ⊕ one_token j u) ++ us) (tokens_in (x ⊕ one_token j (ending u z)) ++ vs) (sees_closed x j u us z vs sees)) o)
      (kept_followed w q (Some (leaf_kind p t)) kept f) (close x j u h e m fit (kept_first w (one_token (leaf_kind p t) t) kept) z vs sees)
  close (token i t x) j u (missing_part a s v o h) e m fit kept z vs sees = absurd (not_nil e)
  close (branch i y x) j u (missing_part a s v o h) e m fit kept z vs sees = absurd (not_nil e)
  close (fault i y x) j u (missing_part a s v o h) e m fit kept z vs sees = absurd (not_nil e)
  close (fault i y x) j u (wrong note ts o f v h) e m fit kept z vs sees = absurd (not_nil e)
  close (fault i y x) j u (second {ds = ds} {es = es} hr over h) e m fit kept z vs sees = no_second ds (tokens_in y) es e
  close (branch i y x) j u {p} {n = n} {q = q} {b = b} {us = us} (inner {s = s} {ds = ds} {es = es} room hr over o f op h) clean m fit kept z vs sees =
      let none : ds ++ repeats i b y ≡ [] = none_remaining (ds ++ repeats i b y) es clean in
      let deep : IsRoomy q m (depth_of (row i) y) (depth_of (after q i) (x ⊕ one_token j u)) =
      roomy q m (depth_of (row i) y) (depth_of (after q i) (x ⊕ one_token j u)) fit in
      let rest : Sees (tokens_in (x ⊕ one_token j u) ++ us) (tokens_in (x ⊕ one_token j (ending u z)) ++ vs) = sees_closed x j u us z vs sees in
      carried w us (x ⊕ one_token j u) deep.here rest
      (carry w {c = c} {e = e} hr (none_remaining ds (repeats i b y) none) (deeper q m) deep.inside same (tokens_in (x ⊕ one_token j (ending u z)) ++ vs) rest)
      over o f op kept
      (none_right ds (repeats i b y) none)
      (close x j u h (none_right (ds ++ repeats i b y) es clean) m deep.behind (kept_first w (one_branch i y) kept) z vs sees)
