-- In a reading, the error node for an operand or for a run contains only items, none of a kind that its error lists as wanted; the items after the
-- root's expression are in the root, and a second name is in its pattern.
use Rattle.std.{specs.List.list_all, proofs.Common.{◌≡◌, ℕ, Bool, true, false, List, [], ◌∷◌, ◌++◌, length, Option, Some, None, refl, ap, sym, ◌∙◌, subst, append-nil}}
use Rattle.{std.proofs.{Common.{append_assoc, if◌then◌else◌, ◌&&◌, arith}, lemmas.Bool.and_from}, rnix_kinds.specs.declared.kinds.SyntaxKind.SyntaxKind}
use Rattle.rnix_kinds.specs.declared.kinds.SyntaxKind.TheVariants.{NODE_APPLY, NODE_BIN_OP, NODE_ERROR, NODE_HAS_ATTR, NODE_IDENT, NODE_LITERAL}
use Rattle.rnix_kinds.specs.declared.kinds.SyntaxKind.TheVariants.{NODE_PATTERN, NODE_ROOT, NODE_SELECT}
use Rattle.rnix_kinds.proofs.AllKinds.{all_kinds, every, implied}
use Rattle.rnix_grammar.specs.{declared.{rules.Part.TheVariants.{Atom, First, Argument}, expected_set.ExpectedSet.ExpectedSet}, Fault.Fault}
use Rattle.rnix_grammar.specs.AnnotatedForest.{Token, Note, Stray, Unwanted, Extra, DoubleBind, TooDeep, AnnotatedForest, blank, token, branch, fault, one_branch}
use Rattle.rnix_grammar.specs.AnnotatedForest.{one_fault, row_of, tokens_in, leaf_kind, head_kind}
use Rattle.rnix_grammar.specs.{OperandStarts.{first_kind, second_kind}, FirstKinds.{BeginsAs, IsOperandOf}, ErrorNodes.AreUnwanted}
use Rattle.rnix_grammar.specs.{Operands.first_tree, Tables.{operand_kinds, wanted_kinds}, TreeLevels.is_or_row, Ranges.is_error_node}
use Rattle.rnix_grammar.specs.{Levels.selection_level, Rules.{Row, ◌·◌, row, after, missing, run_at, level_at, is_one_of}}
use Rattle.rnix_grammar.specs.Reads.{Reads, ReadsRoot, end, leaf, missing_part, wrong, second, inner, IsWrong}
use Rattle.rnix_proof_lemmas.proofs.{Basics.{true_is_not_false, not_if, Where, where_one}, ReachableRows.{IsKnown, is_viable, every_known, known_row}}
use Rattle.rnix_proof_lemmas.proofs.{ReachableRows.{known_second, known_after, known_missing, known_past, known_wrong}, ViableRows.{end_viable, reads_viable}}
use Rattle.rnix_proof_rows.proofs.{RowsWithoutAttrpath.is_free, FirstItems.{is_argument, level_alone}, NamedRows.where_none}
use Rattle.rnix_proof_lemmas.proofs.EachBeginning.{each_first_tree}
use Rattle.rnix_proof_rows.proofs.ErrorNodeRows.{ends_root, ends_pattern, holds}

-- no item that begins an operand at every level becomes an error node
abbrev may_lead : Bool → SyntaxKind → Bool
may_lead true kind = if is_one_of operand_kinds kind then false else true
may_lead false kind = true

-- the same for the first of some items, by the kind of the tree that it begins
abbrev MayLead : SyntaxKind → List Token → Type 0
MayLead k [] = Unit {0}
MayLead k (t ∷ ts) = may_lead (is_error_node k) t.kind ≡ true

-- an item that begins an operand may begin the operand's first tree
item_leads : (level : ℕ) (kind : SyntaxKind) (text : List ℕ) (next later : Option SyntaxKind)
    → may_lead (is_error_node (first_kind level kind text next later)) kind ≡ true
item_leads = each_first_tree (λ kind next k. may_lead (is_error_node k) kind ≡ true) (λ next. assumption)

-- an operand begins with an item that may begin its first tree
operand_leads : (level : ℕ) (x : AnnotatedForest) (ts : List Token) → BeginsAs level x ts → MayLead (first_tree x) ts
operand_leads level x [] h = tt
operand_leads level x (t ∷ ts) h =
    subst (λ (k : SyntaxKind). may_lead (is_error_node k) t.kind ≡ true) h (item_leads level t.kind t.text (head_kind ts) (second_kind ts))

-- the row begins with the first operand of an operator, of a call or of a selection
abbrev first_is_operand : Row → Bool
first_is_operand (Atom · r) = true
first_is_operand (First n · r) = true
first_is_operand r = false

-- at the beginning of such a row, the first item may begin the first tree
abbrev Leads : Row → AnnotatedForest → List Token → Type 0
Leads q f ts = Where (first_is_operand q) (MayLead (first_tree f) ts)

-- no other rest of a row begins with such an operand: not after a child,
later_leads : {p : SyntaxKind} (q : Row) (k : SyntaxKind) (f : AnnotatedForest) (ts : List Token) → IsKnown p q → Leads (after q k) f ts
later_leads {p} q k f ts i = where_none _ (first_is_operand (after q k))
    (not_if (first_is_operand (after q k)) (every (λ k. if first_is_operand (after q k) then false else true)
    (every_known (λ p q. list_all (λ k. if first_is_operand (after q k) then false else true) all_kinds) (λ p. refl) refl p q i) k))

-- not after a missing part or a run,
abbrev begins_later : {A : Type 0} → Option (A × Row) → Bool
begins_later None = false
begins_later (Some w) = first_is_operand w.1

missing_leads : {p : SyntaxKind} {q r : Row} {e : Fault} (f : AnnotatedForest) (ts : List Token) → IsKnown p q → missing q ≡ Some (e, r) → Leads r f ts
missing_leads {p} {q} {r} f ts i m = where_none _ (first_is_operand r) (sym (ap begins_later m)
    ∙ not_if (begins_later (missing q)) (every_known (λ p q. if begins_later (missing q) then false else true) (λ p. refl) refl p q i))

run_leads : {p : SyntaxKind} {q r : Row} {kinds : List SyntaxKind} (f : AnnotatedForest) (ts : List Token) → IsKnown p q → run_at q ≡ Some (kinds, r)
    → Leads r f ts
run_leads {p} {q} {r} f ts i m = where_none _ (first_is_operand r) (sym (ap begins_later m)
    ∙ not_if (begins_later (run_at q)) (every_known (λ p q. if begins_later (run_at q) then false else true) (λ p. refl) refl p q i))

-- and not after an error node
wrong_leads : {p : SyntaxKind} (note : Note) (d : ℕ) (q r : Row) (ts vs us : List Token) (f : AnnotatedForest) → IsKnown p q → IsWrong note d q r ts vs
    → Leads r f us
wrong_leads Stray d q r ts vs us f i w = subst (λ z. Leads z f us) w.3 (later_leads q NODE_LITERAL f us i)
wrong_leads (Unwanted until) d q r ts vs us f i w = run_leads f us i w.2
wrong_leads Extra d q r ts vs us f i w = subst (λ z. Leads z f us) (sym (w.3 ∙ w.2)) tt
wrong_leads DoubleBind d q r ts vs us f i w = absurd w
wrong_leads TooDeep d q r ts vs us f i w = subst (λ z. Leads z f us) w.3 (later_leads q NODE_LITERAL f us i)

-- the first tree of a node that begins with such an operand is that of its first child
first_inside : (k : SyntaxKind) (c f : AnnotatedForest) → first_is_operand (row k) ≡ true → first_tree (branch k c f) ≡ first_tree c
first_inside NODE_SELECT c f h = refl
first_inside NODE_HAS_ATTR c f h = refl
first_inside NODE_APPLY c f h = refl
first_inside NODE_BIN_OP c f h = refl
first_inside _ c f h = absurd (true_is_not_false (sym h))

-- an argument that is not an operand is the name `or`, which does not begin with such an operand
called_or : {A : Type 0} (q : Row) (k : SyntaxKind) (c : AnnotatedForest) → is_argument q ≡ true → first_is_operand (row k) ≡ true
    → level_at q (one_branch k c) ≡ None → A
called_or (Argument · r) k c a e g = by k e g
  where
    by : {A : Type 0} (k : SyntaxKind) → first_is_operand (row k) ≡ true → (if is_or_row (one_branch k c) then None else Some selection_level) ≡ None → A
    by NODE_IDENT e g = absurd (true_is_not_false (sym e))
    by _ e g = absurd (cc)
called_or _ k c a e g = absurd (true_is_not_false (sym a))

-- if a node that begins with such an operand may be read at the row, the row begins with such an operand too
abbrev holds_operands : Row → Bool
holds_operands q = list_all (λ k. if is_viable (after q k) && first_is_operand (row k) then first_is_operand q else true) all_kinds

first_operand : {p : SyntaxKind} (q : Row) (k : SyntaxKind) (c : AnnotatedForest) → IsKnown p q → is_viable (after q k) ≡ true
    → first_is_operand (row k) ≡ true
    → level_at q (one_branch k c) ≡ None → first_is_operand q ≡ true
first_operand {p} q k c i l e g = by (is_argument q) refl
  where
    by : (w : Bool) → is_argument q ≡ w → first_is_operand q ≡ true
    by true a = called_or q k c a e g
    by false a = implied (λ k. is_viable (after q k) && first_is_operand (row k)) (λ k. first_is_operand q)
        (sym (ap (λ w. if w then holds_operands q else true) (ap is_free (sym (level_alone q (one_branch k c) a) ∙ g)))
        ∙ every_known (λ p q. if is_free (level_at q blank) then holds_operands q else true) (λ p. refl) refl p q i) k (and_from _ _ l e)

-- so the item that begins a node may begin the node's first operand
inner_leads : {p : SyntaxKind} (q : Row) (k : SyntaxKind) (c f : AnnotatedForest) (vs : List Token) → IsKnown p q → is_viable (after q k) ≡ true
    → IsOperandOf (level_at q (one_branch k c)) (one_branch k c) vs
    → Leads q (branch k c f) (tokens_in c ++ vs) → Leads (row k) c (tokens_in c ++ vs)
inner_leads q k c f vs i l o h = by (first_is_operand (row k)) refl (level_at q (one_branch k c)) refl o
  where
    by : (w : Bool) → first_is_operand (row k) ≡ w → (o : Option ℕ) → level_at q (one_branch k c) ≡ o → IsOperandOf o (one_branch k c) vs
        → Where w (MayLead (first_tree c) (tokens_in c ++ vs))
    by false e o g w = tt
    by true e (Some level) g w =
        subst (λ us. MayLead (first_tree c) (us ++ vs)) (append-nil (tokens_in c))
        (subst (λ (j : SyntaxKind). MayLead j (tokens_in (one_branch k c) ++ vs)) (first_inside k c blank e)
        (operand_leads level (one_branch k c) (tokens_in (one_branch k c) ++ vs) w.1))
    by true e None g w =
        subst (λ (j : SyntaxKind). MayLead j (tokens_in c ++ vs)) (first_inside k c f e) (where_one (first_is_operand q) (first_operand q k c i l e g) h)

-- the forest is of tokens alone, of none of the kinds
abbrev pub AreOthers : List SyntaxKind → AnnotatedForest → Type 0
AreOthers kinds blank = Unit {0}
AreOthers kinds (token k t f) = (is_one_of kinds k ≡ false) × AreOthers kinds f
AreOthers kinds f = ⊥

-- a run of unwanted items is of tokens that are not wanted
others_row : (until : ExpectedSet) (ts : List Token) → AreUnwanted until ts → AreOthers (wanted_kinds until) (row_of ts)
others_row until [] h = tt
others_row until (t ∷ ts) h = (h.0, others_row until ts h.1)

-- a stray item at a position that requires no level is the first operand of its node
stray_first : {p : SyntaxKind} (q : Row) → IsKnown p q → is_viable (after q NODE_LITERAL) ≡ true → level_at q blank ≡ None → first_is_operand q ≡ true
stray_first {p} q i l g = sym (ap (λ w. if w then first_is_operand q else true) (and_from _ _ l (ap is_free g)))
    ∙ every_known (λ p q. if is_viable (after q NODE_LITERAL) && is_free (level_at q blank) then first_is_operand q else true) (λ p. refl) refl p q i

-- so a stray item begins no operand
stray_other : {p : SyntaxKind} (q : Row) (ts us : List Token) (f : AnnotatedForest) → IsKnown p q → is_viable (after q NODE_LITERAL) ≡ true → length ts ≡ 1
    → IsOperandOf (level_at q blank) (one_fault Stray (row_of ts)) (tokens_in f ++ us)
    → Leads q (fault Stray (row_of ts) f) ((tokens_in (row_of ts) ++ tokens_in f) ++ us)
    → AreOthers operand_kinds (row_of ts) × (length (tokens_in (row_of ts)) ≡ 1)
stray_other q [] us f i l n o h = absurd (omega (arith, n))
stray_other q (t ∷ (u ∷ ts)) us f i l n o h = absurd (omega (arith, n))
stray_other q (t ∷ []) us f i l n o h = ((by (level_at q blank) refl o, tt), refl)
  where
    none : may_lead true t.kind ≡ true → is_one_of operand_kinds t.kind ≡ false
    none e = not_if (is_one_of operand_kinds t.kind) e

    by : (o : Option ℕ) → level_at q blank ≡ o → IsOperandOf o (one_fault Stray (row_of (t ∷ []))) (tokens_in f ++ us)
        → is_one_of operand_kinds t.kind ≡ false
    by (Some level) e w = none (operand_leads level (one_fault Stray (row_of (t ∷ []))) (t ∷ (tokens_in f ++ us)) w.1)
    by None e w = none (where_one (first_is_operand q) (stray_first q i l e) h)

-- Below a node of the kind, an error node for an operand or for a run contains no wanted item, and for an operand just one item; one for what follows the
-- root's expression is in the root, and one for a second name is in a pattern.
abbrev pub IsFormed : Note → SyntaxKind → AnnotatedForest → Type 0
IsFormed Stray parent c = AreOthers operand_kinds c × (length (tokens_in c) ≡ 1)
IsFormed (Unwanted until) parent c = AreOthers (wanted_kinds until) c
IsFormed Extra parent c = parent ≡ NODE_ROOT
IsFormed DoubleBind parent c = parent ≡ NODE_PATTERN
IsFormed TooDeep parent c = Unit {0}

-- each error node of a forest below a node of the kind has this form, and no other node is a root
abbrev pub AreFormed : SyntaxKind → AnnotatedForest → Type 0
AreFormed parent blank = Unit {0}
AreFormed parent (token k t f) = AreFormed parent f
AreFormed parent (branch k c f) = (k ≡ NODE_ROOT → ⊥) × AreFormed k c × AreFormed parent f
AreFormed parent (fault n c f) = IsFormed n parent c × AreFormed NODE_ERROR c × AreFormed parent f

leaves_formed : (ts : List Token) → AreFormed NODE_ERROR (row_of ts)
leaves_formed [] = tt
leaves_formed (t ∷ ts) = leaves_formed ts

-- no row has a root as a child
no_root : {p : SyntaxKind} (q : Row) (k : SyntaxKind) → IsKnown p q → is_viable (after q k) ≡ true → k ≡ NODE_ROOT → ⊥
no_root {p} q k i l e = true_is_not_false (sym l ∙ ap (λ k. is_viable (after q k)) e
    ∙ not_if (is_viable (after q NODE_ROOT)) (every_known (λ p q. if is_viable (after q NODE_ROOT) then false else true) (λ p. refl) refl p q i))

-- an error node that is read has its form
formed : {p : SyntaxKind} (note : Note) (d : ℕ) (q r : Row) (ts us : List Token) (f : AnnotatedForest) → IsKnown p q → is_viable r ≡ true
    → IsWrong note d q r ts (tokens_in f ++ us)
    → Leads q (fault note (row_of ts) f) ((tokens_in (row_of ts) ++ tokens_in f) ++ us) → IsFormed note p (row_of ts)
formed Stray d q r ts us f i l w h = stray_other q ts us f i (ap is_viable w.3 ∙ l) w.0 w.2 h
formed {p} (Unwanted until) d q r ts us f i l w h = others_row until ts (holds (Unwanted until) p d q r ts (tokens_in f ++ us) w i).1
formed {p} Extra d q r ts us f i l w h = ends_root (subst (IsKnown p) w.2 i)
formed DoubleBind d q r ts us f i l w h = absurd w
formed TooDeep d q r ts us f i l w h = tt

-- each error node of a forest that is read has its form
forms : {p : SyntaxKind} {d n : ℕ} {q q' : Row} {b : AnnotatedForest} {us : List Token} {f : AnnotatedForest} {es : List Fault} → Reads p d n q q' b us f es
    → IsKnown p q → is_viable q' ≡ true → Leads q f (tokens_in f ++ us) → AreFormed p f
forms end i l h = tt
forms {p} {q = q} {us = us} (leaf {t = t} {f = f} x o s) i l h =
    forms s (known_after (leaf_kind p t) i) l (later_leads q (leaf_kind p t) f (tokens_in f ++ us) i)
forms {us = us} (missing_part {f = f} u n m o s) i l h = forms s (known_missing m i) l (missing_leads f (tokens_in f ++ us) i m)
forms {d = d} {q = q} {us = us} (wrong {r = r} {f = f} note ts x o w s) i l h = (
  formed note d q r ts us f i (reads_viable s l) w h,
  leaves_formed ts,
  forms s (known_wrong note _ _ _ w i) l (wrong_leads note d q r ts (tokens_in f ++ us) (tokens_in f ++ us) f i w),
)
forms (second first over s) i l h = (ends_pattern i, forms first known_second (end_viable _ over.0) tt, forms s (known_past i) l tt)
forms {q = q} {us = us} (inner {k = k} {c = c} {f = f} o s y x j z t) i l h =
    let lives : is_viable (after q k) ≡ true = reads_viable t l in
    let vs : List Token = tokens_in f ++ us in
    let front : Leads q (branch k c f) (tokens_in c ++ vs) = subst (Leads q (branch k c f)) (append_assoc (tokens_in c) (tokens_in f) us) h in (
      no_root q k i lives,
      forms s (known_row k) (end_viable _ y.0) (inner_leads q k c f vs i lives z front),
      forms t (known_after k i) l (later_leads q k f vs i),
    )

-- each error node of a whole text has its form
pub root_forms : {f : AnnotatedForest} {es : List Fault} → ReadsRoot f es → AreFormed NODE_ROOT f
root_forms s = forms s (known_row NODE_ROOT) refl tt
