-- The steps read a forest from a position, if they read smaller forests and trees.
use Rattle.std.proofs.Common.{◌≡◌, ℕ, true, false, List, [], ◌∷◌, ◌++◌, Option, Some, refl, ap, sym, ◌∙◌, subst, append-nil, arith, ◌⊎◌, inl, inr, ◌&&◌}
use Rattle.{std.proofs.{Common.{if◌then◌else◌, suc, ◌<◌, append_assoc}, lemmas.Bool.and_parts}, rnix_kinds.proofs.AllKinds.implied}
use Rattle.rnix_kinds.specs.declared.kinds.SyntaxKind.{SyntaxKind, TheVariants.{NODE_LITERAL, NODE_IDENT, NODE_PAT_ENTRY, TOKEN_IDENT, TOKEN_AT, NODE_ERROR}}
use Rattle.{rnix_green.specs.Equality.same_kind, rnix_grammar.specs.declared.{position.Position.Position, action.Action.Action}}
use Rattle.rnix_grammar.specs.{declared.{slot_table.TheConstants.{PAT_ENTRY, SECOND_BIND}, rules.Part.TheVariants.BoundAlready}, Actions.action_at}
use Rattle.rnix_grammar.specs.{Reports.{report, repeats}, Reads.{IsWrong, deeper, IsRoom, Reads, end, leaf, inner, missing_part, wrong, second}}
use Rattle.rnix_grammar.specs.{FirstKinds.{BeginsAs, IsOperandOf}, AnnotatedForest.{Token, Note, Stray, Unwanted, Extra, DoubleBind, TooDeep, AnnotatedForest, ◌⊕◌}}
use Rattle.rnix_grammar.specs.AnnotatedForest.{one_fault, row_of, head_kind, end_from, touches, blank, one_branch, tokens_in, leaf_kind_as, token, one_token}
use Rattle.rnix_grammar.specs.{AnnotatedForest.leaf_kind, Rules.{IsExpected, Row, after, counts, level_at, is_first_expected, row as row_of_kind, done, ◌·◌}}
use Rattle.{rnix_grammar.specs.{Rules.{expects_end, missing, second_name}, Fault.Fault, NodeClasses.{fits, is_expression}}, rnix_proof_lemmas.specs.Machine.machine}
use Rattle.rnix_proof_lemmas.specs.{Machine.{opened, perform, dropped, Frame, SecondBind, rest as stays}, SlotRows.{remaining_at, kind_at}}
use Rattle.rnix_proof_lemmas.proofs.{Basics.true_is_not_false, UnwantedRuns.dropped_all, RestAt.rest_at, KindsOfNodes.unreported}
use Rattle.rnix_proof_lemmas.proofs.{KindsOfNodes.fits_expression, ActionTable.is_waiting, RowParts.left_level, EveryKind.only}
use Rattle.rnix_proof_lemmas.proofs.{AnnotatedForestLemmas.tokens_in-row_of, ReachableRows.is_viable, ViableRows.reads_viable}
use Rattle.rnix_proof_uniqueness.proofs.{StepReads.{runs_from, runs_to, step_to, ReadsTo, runs_on}, OneAction.{done_at, is_any, is_at, next_is, or_true}}
use Rattle.rnix_proof_uniqueness.proofs.OneAction.{LeadsTo, opens_with_item, is_inner, is_name, is_opened, remaining_at_position, names_only, waiting_viable}
use Rattle.rnix_proof_uniqueness.proofs.PositionActions.{Operands, extra_at, reads_at, runs_at, IfNext, IsNode, by_open_empty, by_open, by_name, by_entry, NodeRead}
use Rattle.rnix_proof_uniqueness.proofs.{PositionActions.{node_at, double_bind_at}, FunctionRows.stray_reads, RowTrees.{OneTo, goes_one, one_operand}}
use Rattle.rnix_proof_uniqueness.proofs.RowTrees.{dropped_front, too_far, node_read, read_on, closes_second, row_end, row_on, row_lost, one_leaf}
use Rattle.rnix_proof_uniqueness.proofs.ReadingHeights.{Complete, AllRows, Trees, front_of, is_firm, complete_viable, complete_to, Item, Name, name_item}
use Rattle.rnix_proof_uniqueness.proofs.ReadingHeights.{item_or_name, begins_so, height, less, less_left, less_right, item_next}
use Rattle.rnix_grammar.specs.declared.position.Position.TheVariants as p
use Rattle.rnix_grammar.specs.declared.action.Action.TheVariants as a

-- a position in the row of a node, and the row that is left after what is read
module _ (q : SyntaxKind) (d n : ℕ) (x : Position) (r : Row) (b : AnnotatedForest) (here : is_at q x ≡ true) (on : is_viable r ≡ true) where
  -- where an error node replaces an operand, the action reads an operand
  stands : (ts : List Token) → after (rest_at x) NODE_LITERAL ≡ r → IsExpected (rest_at x) n ts false
      → Operands q (rest_at x) r (action_at x (head_kind ts) (touches n ts))
  stands ts h o =
      subst (λ r. Operands q (rest_at x) r (action_at x (head_kind ts) (touches n ts))) h
      (reads_at (done_at q x (touches n ts) (head_kind ts) here) (next_is q x n ts false here o)
      (or_true (is_any (level_at (rest_at x) blank)) (ap is_viable h ∙ on)))

  -- the steps read an error node at the position
  pub wrong_one : (note : Note) (ts vs : List Token) → IsExpected (rest_at x) n (ts ++ vs) false → IsWrong note d (rest_at x) r ts vs
      → OneTo q d n x r b ts vs (one_fault note (row_of ts)) (report note ts ∷ [])
  wrong_one Stray [] vs o w = absurd (cc w.0)
  wrong_one Stray (t ∷ []) vs o w =
      let v : Operands q (rest_at x) r (action_at x (Some t.kind) (touches n (t ∷ vs))) = stands (t ∷ vs) w.3 o in
      let g : AnnotatedForest = one_fault Stray (row_of (t ∷ [])) in
      let i = subst (λ (l : Option ℕ). IsOperandOf l g vs) v.is w.2 in
      goes_one (a.Read v.level (counts (rest_at x))) v.act (λ y h fs gs e. one_operand x b w.1 i.0 i.1 i.2
      (stray_reads t (deeper (rest_at x) d) n vs) y h fs gs)
  wrong_one Stray (t ∷ (u ∷ ts)) vs o w = absurd (omega (arith, w.0))
  wrong_one (Unwanted until) [] vs o w = absurd (true_is_not_false (sym w.0))
  wrong_one (Unwanted until) (t ∷ ts) vs o w =
      let ws : List Token = t ∷ ts ++ vs in
      goes_one (a.Run until) (runs_at until (done_at q x (touches n ws) (Some t.kind) here) (next_is q x n ws false here o) w.2)
      (λ y h fs gs e. runs_from (ap (λ (v : List Token). machine (opened h (p.InRow y) d (b ⊕ one_fault (Unwanted until) (row_of v)) ∷ fs) (dropped v ws)
      (end_from n v)
      (gs ++ report (Unwanted until) v ∷ [])) (sym w.1)) (runs_to (cc (dropped_front (t ∷ ts) vs)) stays))
  wrong_one Extra [] vs o w = absurd (true_is_not_false (sym w.0))
  wrong_one Extra (t ∷ ts) vs o w =
      let ws : List Token = t ∷ ts ++ vs in
      let act = extra_at (done_at q x (touches n ws) (Some t.kind) here) (next_is q x n ws false here o) w.2 in
      let all : ws ≡ t ∷ ts = ap (λ v. t ∷ ts ++ v) w.1 ∙ append-nil (t ∷ ts) in
      record {
        position = x;
        is = sym w.3;
        here = here;
        one = λ h fs gs i e.
            step_to (ap (λ z. perform false z (opened h x d b) fs ws n gs) act
            ∙ ap (λ (v : List Token). machine (opened h x d (b ⊕ one_fault Extra (row_of v)) ∷ fs) (dropped v v) (end_from n v)
            (gs ++ report Extra v ∷ [])) all)
            (runs_to (cc (dropped_all (t ∷ ts), w.1)) stays);
      }
  wrong_one DoubleBind ts vs o w = absurd w
  wrong_one TooDeep ts vs o w =
      subst (λ (v : List Token). IsExpected (rest_at x) n (ts ++ v) false → OneTo q d n x r b ts v (one_fault TooDeep (row_of ts)) (report TooDeep ts ∷ []))
      (sym w.0) deep o
    where
      deep : IsExpected (rest_at x) n (ts ++ []) false → OneTo q d n x r b ts [] (one_fault TooDeep (row_of ts)) (report TooDeep ts ∷ [])
      deep o =
          let v : Operands q (rest_at x) r (action_at x (head_kind (ts ++ [])) (touches n (ts ++ []))) = stands (ts ++ []) w.3 o in
          goes_one (a.Read v.level (counts (rest_at x))) v.act
          (λ y h fs gs e. runs_from (ap (λ z. perform false (a.Read v.level z y) (opened h x d b) fs (ts ++ []) n gs) w.1
          ∙ too_far v.level d n y x h b fs (ts ++ []) gs w.2)
          (runs_to (cc (append-nil ts, dropped_all ts)) stays))

-- from a position of a row to a rest of it, after some trees and before some tokens
module _ (m : ℕ) (q : SyntaxKind) (d n : ℕ) (x : Position) (to : Row) (b : AnnotatedForest) (vs : List Token) where
  -- the steps read a node at the position
  abbrev Inner : SyntaxKind → List Fault → AnnotatedForest → Type 0
  Inner k ds c = OneTo q d n x to b (tokens_in c) vs (one_branch k c) (ds ++ repeats k b c)

  -- the action before the node's items
  abbrev act_before : AnnotatedForest → Action
  act_before c = action_at x (head_kind (tokens_in c ++ vs)) (touches n (tokens_in c ++ vs))

  -- the action opens the node at an index
  abbrev Opened : SyntaxKind → ℕ → AnnotatedForest → Type 0
  Opened k z c = IfNext (head_kind (tokens_in c ++ vs)) (λ j. after (row_of_kind k) (leaf_kind_as k j) ≡ remaining_at z)

  -- a node that one token opens is read
  inner_opens : AllRows m → (z : ℕ) (k : SyntaxKind) (c : AnnotatedForest) (ds : List Fault) → Complete m k d n (row_of_kind k) blank vs c ds
      → is_inner k ≡ true → is_at k (p.InRow z) ≡ true → opens_with_item k ≡ true → Opened k z c → LeadsTo q to (a.Open k z) (act_before c) → Inner k ds c
  inner_opens rows z k c ds r i l o g act = by (item_or_name tests.0 (front_of refl r tests.1.0))
    where
      tests : (names_only (row_of_kind k) ≡ true) × ((is_firm (row_of_kind k) ≡ true) × (is_opened k ≡ true))
      tests =
          let w = and_parts (names_only (row_of_kind k)) _ (implied opens_with_item
          (λ k. names_only (row_of_kind k) && (is_firm (row_of_kind k) && is_opened k)) refl k o) in
          (w.0, and_parts (is_firm (row_of_kind k)) (is_opened k) w.1)

      waits : (r : Row) → r ≡ remaining_at z → is_viable r ≡ true
      waits r e = ap is_viable e ∙ waiting_viable (remaining_at z) (and_parts (same_kind (kind_at z) k) (is_waiting (remaining_at z)) l).1

      by : Item m k d (row_of_kind k) blank vs c ds ⊎ Name m k d (row_of_kind k) blank vs c ds → Inner k ds c
      by (inl t) =
          subst (λ (g : AnnotatedForest). Opened k z g → LeadsTo q to (a.Open k z) (act_before g) → Inner k ds g) (sym t.is)
          (λ g act. goes_one (a.Open k z) act (λ y h fs gs e. node_read (read_on rows (p.InRow z) l (complete_to g refl t.rest)) i h (p.InRow y) d b fs gs)) g
          act
      by (inr t) =
          let same : after (row_of_kind k) (leaf_kind_as k t.item.kind) ≡ remaining_at z = subst (Opened k z) t.is g in
          let other = implied (λ j. is_viable (after (row_of_kind k) (leaf_kind_as k j))) (λ j. if is_name j then false else true) tests.1.1 t.item.kind
          (waits _ same) in
          absurd (true_is_not_false (sym other ∙ ap (λ j. if same_kind j TOKEN_IDENT then false else true) t.kind))

  -- a name is read
  inner_name : (c : AnnotatedForest) (ds : List Fault) → Complete m NODE_IDENT d n (row_of_kind NODE_IDENT) blank vs c ds
      → LeadsTo q to (a.Leaf NODE_IDENT) (act_before c) → Inner NODE_IDENT ds c
  inner_name c ds r act =
      let w = name_item r in
      subst (λ (v : List Fault). Inner NODE_IDENT v c) (sym w.3)
      (subst (λ (v : AnnotatedForest). LeadsTo q to (a.Leaf NODE_IDENT) (act_before v) → Inner NODE_IDENT [] v) (sym w.1)
      (λ act. goes_one (a.Leaf NODE_IDENT) act (λ y h fs gs e. runs_to (cc (append-nil gs)) stays)) act)

  -- an entry of a pattern is read
  inner_entry : AllRows m → (c : AnnotatedForest) (ds : List Fault) → Complete m NODE_PAT_ENTRY d n (row_of_kind NODE_PAT_ENTRY) blank vs c ds
      → IfNext (head_kind (tokens_in c ++ vs)) (λ j. j ≡ TOKEN_IDENT) → LeadsTo q to a.Entry (act_before c) → Inner NODE_PAT_ENTRY ds c
  inner_entry rows c ds r next act = by (item_or_name refl (front_of refl r refl))
    where
      by : Item m NODE_PAT_ENTRY d (row_of_kind NODE_PAT_ENTRY) blank vs c ds ⊎ Name m NODE_PAT_ENTRY d (row_of_kind NODE_PAT_ENTRY) blank vs c ds
          → Inner NODE_PAT_ENTRY ds c
      by (inl t) =
          let i : t.item.kind ≡ TOKEN_IDENT = subst (λ c. IfNext (head_kind (tokens_in c ++ vs)) (λ j. j ≡ TOKEN_IDENT)) t.is next in
          absurd (true_is_not_false (sym t.alive ∙ ap (λ j. is_viable (after (row_of_kind NODE_PAT_ENTRY) j)) i))
      by (inr t) =
          subst (λ (g : AnnotatedForest). LeadsTo q to a.Entry (act_before g) → Inner NODE_PAT_ENTRY ds g) (sym t.is)
          (λ act. goes_one a.Entry act (λ y h fs gs e. node_read (read_on rows (p.InRow PAT_ENTRY) refl t.rest) refl h (p.InRow y) d b fs gs)) act

  -- a node that is no operand is read, however it begins
  inner_kind : AllRows m → (k : SyntaxKind) (c : AnnotatedForest) (ds : List Fault) → Complete m k d n (row_of_kind k) blank vs c ds
      → IsNode k q to (head_kind (tokens_in c ++ vs)) (act_before c)
      → Inner k ds c
  inner_kind rows k c ds r (by_open_empty z i e act) =
      goes_one (a.OpenEmpty k z) act (λ y h fs gs g. node_read (read_on rows (p.InRow z) i.0 (complete_to e refl r)) i.1 h (p.InRow y) d b fs gs)
  inner_kind rows k c ds r (by_open z i g act) = inner_opens rows z k c ds r i.1 i.0 i.2 g act
  inner_kind rows k c ds r (by_name e act) = subst (λ k. Complete m k d n (row_of_kind k) blank vs c ds → Inner k ds c) (sym e) (λ r. inner_name c ds r act) r
  inner_kind rows k c ds r (by_entry e next act) =
      subst (λ k. Complete m k d n (row_of_kind k) blank vs c ds → Inner k ds c) (sym e) (λ r. inner_entry rows c ds r next act) r

  -- an operand is read
  inner_operand : Trees m → (level : ℕ) (k : SyntaxKind) (c : AnnotatedForest) (ds : List Fault)
      → Complete m k (deeper (rest_at x) d) n (row_of_kind k) blank vs c ds
      → fits level k ≡ true → LeadsTo q to (a.Read level (counts (rest_at x))) (act_before c) → IsRoom (rest_at x) d
      → IsOperandOf (Some level) (one_branch k c) vs → Inner k ds c
  inner_operand trees level k c ds r fit act room op =
      let e : is_expression k ≡ true = fits_expression level k fit in
      let begun : BeginsAs level (one_branch k c) (tokens_in c ++ vs) =
      subst (λ (v : List Token). BeginsAs level (one_branch k c) (v ++ vs)) (append-nil (tokens_in c)) op.1 in
      subst (λ (v : List Fault). OneTo q d n x to b (tokens_in c) vs (one_branch k c) v) (sym (ap (λ v. ds ++ v) (unreported k b c e) ∙ append-nil ds))
      (goes_one (a.Read level (counts (rest_at x))) act (λ y h fs gs g. one_operand x b room op.0 begun op.2
      (trees k (deeper (rest_at x) d) n vs c ds r e) y h fs gs))

-- the steps read a node at a position
pub inner_one : (m : ℕ) → AllRows m → Trees m →
    {q k : SyntaxKind} {d n : ℕ} {x : Position} {b : AnnotatedForest} {vs : List Token} {c : AnnotatedForest} {ds : List Fault}
    → is_at q x ≡ true → Complete m k (deeper (rest_at x) d) n (row_of_kind k) blank vs c ds → IsRoom (rest_at x) d
    → IsExpected (rest_at x) n (tokens_in c ++ vs) (is_first_expected (rest_at x) k c) → IsOperandOf (level_at (rest_at x) (one_branch k c)) (one_branch k c) vs
    → is_viable (after (rest_at x) k) ≡ true → OneTo q d n x (after (rest_at x) k) b (tokens_in c) vs (one_branch k c) (ds ++ repeats k b c)
inner_one m rows trees {q} {k} {d} {n} {x} {b} {vs} {c} {ds} l r room o op g = by (node_at x n (tokens_in c ++ vs) k c l (complete_viable r) g (begins_so r) o)
  where
    to : Row
    to = after (rest_at x) k

    by : NodeRead q x (head_kind (tokens_in c ++ vs)) k (action_at x (head_kind (tokens_in c ++ vs)) (touches n (tokens_in c ++ vs)))
        → OneTo q d n x to b (tokens_in c) vs (one_branch k c) (ds ++ repeats k b c)
    by (inl w) =
        inner_operand m q d n x to b vs trees w.0.level k c ds r w.1 w.0.act room
        (subst (λ (v : Option ℕ). IsOperandOf v (one_branch k c) vs) (left_level (rest_at x) (remaining_at_position q x l) (one_branch k c) ∙ w.0.is) op)
    by (inr w) =
        inner_kind m q d n x to b vs rows k c ds (subst (λ (v : ℕ). Complete m k v n (row_of_kind k) blank vs c ds) (w.0.deep d) r) w.1

-- the steps read a second name of a pattern
second_one : {m : ℕ} → AllRows m → {q : SyntaxKind} {d n : ℕ} {x : Position} {b c : AnnotatedForest} {vs : List Token} {ds : List Fault} → is_at q x ≡ true
    → rest_at x ≡ BoundAlready · done → Complete m NODE_ERROR d n second_name blank vs c ds
    → OneTo q d n x done b (tokens_in c) vs (one_fault DoubleBind c) (ds ++ report DoubleBind (tokens_in c) ∷ [])
second_one rows {q} {d} {n} {x} {b} {c} {vs} {ds} l i r =
    let t = item_next refl (front_of refl r refl) in
    let at : t.item.kind ≡ TOKEN_AT = only (λ j. is_viable (after second_name j)) TOKEN_AT refl t.item.kind t.alive in
    let ts : List Token = t.item ∷ (tokens_in t.more ++ vs) in
    subst (λ (v : AnnotatedForest). OneTo q d n x done b (tokens_in v) vs (one_fault DoubleBind v) (ds ++ report DoubleBind (tokens_in v) ∷ [])) (sym t.is)
    (goes_one a.DoubleBind
    (subst (λ j. LeadsTo q done a.DoubleBind (action_at x (Some j) (touches n ts))) (sym at)
    (double_bind_at (done_at q x (touches n ts) (Some TOKEN_AT) l) i))
    (λ y h fs gs e.
    let row = read_on rows (p.InRow SECOND_BIND) refl (complete_to (ap (after second_name) at) refl t.rest) in
    let f : Frame = opened h (p.InRow y) d b in
    runs_on (row.row SecondBind (f ∷ fs) gs refl refl)
    (step_to (closes_second row.position d (end_from t.item.end (tokens_in t.more)) (token (leaf_kind NODE_ERROR t.item) t.item t.more) f fs vs
    (gs ++ ds) row.here row.over)
    (runs_to (cc (append_assoc gs ds (report DoubleBind (t.item ∷ tokens_in t.more) ∷ []))) stays))))

-- the steps read a forest at a position, if they read lower ones
pub row_next : (m : ℕ) → AllRows m → Trees m →
    {k : SyntaxKind} {d n : ℕ} {q s : Row} {b : AnnotatedForest} {us : List Token} {f : AnnotatedForest} {es : List Fault} (x : Position)
    → is_at k x ≡ true → rest_at x ≡ q → (r : Reads k d n q s b us f es) → height r < suc m → is_viable s ≡ true → ReadsTo k d n x s b us f es
row_next m rows trees {k} {d} {n} {s = s} {b} {us} x e i end h l = row_end k d n x s b us i e
row_next m rows trees {k} {d} {n} {q} {b = b} {us} x e i (leaf {t = t} {f = f} o w r) h l =
    row_on rows (subst (λ q. IsExpected q n (t ∷ (tokens_in f ++ us)) true → is_viable (after q (leaf_kind k t)) ≡ true
    → OneTo k d n x (after q (leaf_kind k t)) b (t ∷ []) (tokens_in f ++ us) (one_token (leaf_kind k t) t) []) i (one_leaf e) o (reads_viable r l))
    (record { reads = r; short = less (height r) m h }) l refl
row_next m rows trees {d = d} x at i (missing_part u v g room t) h l =
    row_lost rows at u v (ap missing i ∙ g) (subst (λ q. expects_end q ≡ false → IsRoom q d) (sym i) room) (record { reads = t; short = less (height t) m h }) l
row_next m rows trees {k} {d} {n} {q} {b = b} {us} x e i (wrong {r = r} {f = f} note ts o w v t) h l =
    row_on rows (wrong_one k d n x r b e (reads_viable t l) note ts (tokens_in f ++ us)
    (subst (λ q. IsExpected q n (ts ++ (tokens_in f ++ us)) false) (sym i) o)
    (subst (λ q. IsWrong note d q r ts (tokens_in f ++ us)) (sym i) v)) (record { reads = t; short = less (height t) m h }) l
    (ap (λ v. v ++ tokens_in f) (tokens_in-row_of ts))
row_next m rows trees x e i (second {s = y} r over t) h l =
    row_on rows (second_one rows e i (record { last = y; part = record { reads = r; short = less_left (height r) (height t) m h }; over = over }))
    (record { reads = t; short = less_right (height r) (height t) m h }) l refl
row_next m rows trees {k = p} {d} {n} {b = b} {us} x e i (inner {k = k} {s = y} {c = c} {f = f} {ds = ds} room r over o fo op t) h l =
    let vs : List Token = tokens_in f ++ us in
    row_on rows (subst (λ q. Complete m k (deeper q d) n (row_of_kind k) blank vs c ds → IsRoom q d
    → IsExpected q n (tokens_in c ++ vs) (is_first_expected q k c)
    → IsOperandOf (level_at q (one_branch k c)) (one_branch k c) vs → is_viable (after q k) ≡ true
    → OneTo p d n x (after q k) b (tokens_in c) vs (one_branch k c) (ds ++ repeats k b c)) i
    (λ r room o op g. inner_one m rows trees e r room o op g)
    (record { last = y; part = record { reads = r; short = less_left (height r) (height t) m h }; over = over }) room o op (reads_viable t l))
    (record { reads = t; short = less_right (height r) (height t) m h }) l refl
