-- Each action leaves a machine whose tokens are in order, and whose names are in the sets.
use Rattle.std.proofs.Common.{◌≡◌, ◌≤◌, ℕ, true, false, List, [], ◌∷◌, ◌++◌, Option, Some, refl, ap, sym, ◌∙◌, subst, arith, append-nil}
use Rattle.{rnix_kinds.specs.declared.kinds.SyntaxKind.{SyntaxKind, TheVariants.{NODE_ERROR, NODE_IDENT, NODE_APPLY}}, rnix_green.specs.Range.Extent}
use Rattle.rnix_grammar.specs.{declared.{slot_table.TheConstants.APPLIED, position.Position.Position, action.Action.Action}, Fault.Fault, AnnotatedForest.{Token, Note}}
use Rattle.rnix_grammar.specs.AnnotatedForest.{Unwanted, Extra, AnnotatedForest, blank, ◌⊕◌, one_branch, one_fault, tokens_in, without_trivia, head_of}
use Rattle.rnix_grammar.specs.{AnnotatedForest.{head_kind, end_from, extent_of}, Layout.{items, from_item, trivia_before, tail_of}, Reports.only_token}
use Rattle.rnix_proof_lemmas.specs.Machine.{Node, Operand, Frame, put, opened, with_leading, leaf, leaf_in, kind_of, min_bp_of, after_item, item_end, end_of, run_leaves, run_rest}
use Rattle.rnix_grammar.specs.UnwantedRun.{run_of}
use Rattle.rnix_proof_lemmas.specs.Allowed.{Allowed}
use Rattle.rnix_proof_lemmas.specs.FrameKinds.{Pattern, Entry, OperandFrame, frame_kind, is_open, IsStackedOn}
use Rattle.rnix_proof_lemmas.specs.Machine.{dropped, machine, closed, entry_closed, perform}
use Rattle.rnix_proof_lemmas.proofs.{Basics.true_is_not_false, AnnotatedForestLemmas.tokens_in-row_of}
use Rattle.rnix_proof_lemmas.specs.Allowed.{is_there}
use Rattle.rnix_proof_lemmas.proofs.{WithoutTriviaLemmas.{leaf_without_trivia, item_end_items, run_prefix, all_prefix, run_bared}, LayoutLemmas.first_item}
use Rattle.{rnix_proof_lemmas.proofs.LayoutLemmas.without_trivia-trivia, rnix_reader.specs.{declared.pattern_names.Names.Names, PatternNames.{PatternClosed, EntryClosed, EntryNamed}}}
use Rattle.rnix_reader.specs.{Placed.AreInOrder, Erase.{mark_of, popped}, State.{pushed, started_at}, Holds.{IsBegun, AreNamed, IsWell}, Performed.NamesAfter}
use Rattle.rnix_proof_steps.{specs.StepCount.is_finish, proofs.BudgetedSteps.is_root}
use Rattle.rnix_reader.{specs.Performed.DoubleBindOpened, proofs.{FrameKindLemmas.{head_operand, head_sort, head_pattern}, EntryLemmas.entry_there}}
use Rattle.rnix_reader.proofs.{OrderLemmas.{order_from, order_behind, reach_least, order_run, order_all}, RowLemmas.{HasNoEntry, no_entry_leaf, no_entry_fault}}
use Rattle.rnix_reader.proofs.{RowLemmas.{begun_more, range_more}, OpenNames.{has_no_names, moved_on, grow_trivia, grow_behind, push_node, push_second, push_entry}}
use Rattle.rnix_reader.proofs.{OpenNames.{instead, pop, pop_pattern, pop_entry}, GoesLemmas.{Goes, goes, goes_open, holder_open, stays, reading_goes}}
use Rattle.rnix_grammar.specs.declared.position.Position.TheVariants as p
use Rattle.rnix_grammar.specs.declared.action.Action.TheVariants as a

-- the first of some tokens, if there is one
abbrev firsts : List Token → List Token
firsts [] = []
firsts (t ∷ ts) = t ∷ []

leaf_tokens : (k : SyntaxKind) (ts : List Token) → tokens_in (without_trivia (leaf true k ts)) ≡ firsts (items ts)
leaf_tokens k ts = ap tokens_in (leaf_without_trivia k ts) ∙ elim (items ts) as (λ us. tokens_in (leaf_in k us) ≡ firsts us) [ [] ↦ refl | t ∷ us ↦ refl ]

leaf_end : (n : ℕ) (ts : List Token) → item_end true n ts ≡ end_from n (firsts (items ts))
leaf_end n ts = item_end_items n ts ∙ elim (items ts) as (λ us. end_of n us ≡ end_from n (firsts us)) [ [] ↦ refl | t ∷ us ↦ refl ]

run_tokens : (note : Note) (run us ts : List Token) → items ts ≡ run ++ us → tokens_in (without_trivia (one_fault note (run_leaves true run ts))) ≡ run
run_tokens note run us ts e =
    append-nil (tokens_in (without_trivia (run_leaves true run ts))) ∙ ap tokens_in (run_bared run ts us e).same ∙ tokens_in-row_of run

closing_pattern : (f : Frame) (fs : List Frame) (ts : List Token) (n : ℕ) (es : List Fault) (names names' : Names) → AreNamed f fs names
    → IsWell f fs ts n names.second
    → frame_kind f.position ≡ Pattern → PatternClosed names names' → Goes (closed f fs ts n es) names'
closing_pattern f [] ts n es names names' w v e c = absurd (true_is_not_false (sym (ap is_root v.fit.1) ∙ ap is_root e))
closing_pattern f (g ∷ fs) ts n es names names' w v e c =
    goes_open (holder_open g fs (frame_kind f.position) v.fit.2 v.fit.1) (pop_pattern (head_pattern f.head (v.fit.0 ∙ e)) c w) v.order

-- closing an entry of a pattern
closing_entry : (f : Frame) (fs : List Frame) (ts : List Token) (n : ℕ) (es : List Fault) (names names' : Names) → AreNamed f fs names
    → IsWell f fs ts n names.second
    → frame_kind f.position ≡ Entry → (again : Option Fault) × EntryClosed again names names' → Goes (entry_closed true f fs ts n es) names'
closing_entry f [] ts n es names names' w v e c = absurd (true_is_not_false (sym (ap is_root v.fit.1) ∙ ap is_root e))
closing_entry f (g ∷ fs) ts n es names names' w v e c =
    goes_open (holder_open g fs (frame_kind f.position) v.fit.2 v.fit.1) (pop_entry (entry_there f g fs names names' c.0 v.fit e w c.1) w) v.order

module _ (f : Frame) (fs : List Frame) (ts : List Token) (n : ℕ) (names : Names) (w : AreNamed f fs names) (v : IsWell f fs ts n names.second) where
  -- closing a frame without names
  closing : (es : List Fault) → has_no_names (frame_kind f.position) ≡ true → is_root (frame_kind f.position) ≡ false → Goes (closed f fs ts n es) names
  closing es b r = by fs w v.fit
    where
      by : (gs : List Frame) → AreNamed f gs names → IsStackedOn f.head f.position gs → Goes (closed f gs ts n es) names
      by [] w st = absurd (true_is_not_false (sym (ap is_root st.1) ∙ r))
      by (g ∷ gs) w st = goes_open (holder_open g gs (frame_kind f.position) st.2 st.1) (pop st b w) v.order

  -- adding items to the innermost frame
  grows : (after : Position) (g : AnnotatedForest) (run us : List Token) (m : ℕ) (es : List Fault) → HasNoEntry g → tokens_in (without_trivia g) ≡ run
      → m ≡ end_from n run → n ≤ m → AreInOrder m us
      → Goes (machine (put after (with_leading true f.children ts ⊕ g) f ∷ fs) us m es) names
  grows after g run us m es none i r l o =
      let begun : IsBegun f.head f.children = w.begun.0 in
      let trivia = range_more names.second n n f.head f.children (trivia_before ts) [] begun v.range (ap tokens_in (without_trivia-trivia ts)) refl
      (omega arith) in
      goes (grow_behind after ts g none w) (range_more names.second n m f.head (with_leading true f.children ts) g run
      (begun_more f.head f.children (trivia_before ts) begun) trivia i r l) o

  -- at a position after an operand, an operand is open
  loose : frame_kind f.position ≡ OperandFrame → f.head ≡ Operand
  loose e = head_operand f.head (head_sort f.head f.position fs v.fit ∙ e)

  -- beginning an entry of a pattern
  entry_goes : (after : ℕ) (us : List Token) (es : List Fault) (names' : Names) → items ts ≡ us → is_there (head_kind us) ≡ true
      → ((t : Token) → head_of (items ts) ≡ Some t → EntryNamed t names names') → Goes (perform true (a.Entry after) f fs ts n es) names'
  entry_goes after [] es names' e h does = absurd (true_is_not_false (sym h))
  entry_goes after (t ∷ us) es names' e h does =
      let name = ap only_token (leaf_without_trivia NODE_IDENT ts ∙ ap (leaf_in NODE_IDENT) e) in
      goes_open refl (push_entry f.depth (one_branch NODE_IDENT (leaf true NODE_IDENT ts)) t name (does t (ap head_of e)) (grow_trivia (p.InRow after) ts w))
      (order_behind n ts v.order)

  -- beginning a second name
  double_bind_goes : (after : ℕ) (us : List Token) (es : List Fault) (names' : Names) → items ts ≡ us → is_there (head_kind us) ≡ true
      → ((t : Token) → head_of (items ts) ≡ Some t → DoubleBindOpened t.start names names') → Goes (perform true (a.DoubleBind after) f fs ts n es) names'
  double_bind_goes after [] es names' e h does = absurd (true_is_not_false (sym h))
  double_bind_goes after (t ∷ us) es names' e h does =
      let trees : AnnotatedForest = leaf true NODE_ERROR ts in
      let tokens : tokens_in (without_trivia trees) ≡ t ∷ [] = leaf_tokens NODE_ERROR ts ∙ ap firsts e in
      let end : item_end true n ts ≡ t.end = leaf_end n ts ∙ ap (λ x. end_from n (firsts x)) e in
      let ordered : AreInOrder n (t ∷ tail_of (from_item ts)) = subst (AreInOrder n) (first_item t us ts e).here (order_from n ts v.order) in
      let new = does t (ap head_of e) in
      let range : (let x : Extent = record { start = names'.second; end = item_end true n ts } in x) ≡ extent_of (tokens_in (without_trivia trees)) =
      ap (λ x. let y : Extent = record { start = x; end = item_end true n ts } in y) new.second
      ∙ ap (λ x. let y : Extent = record { start = t.start; end = x } in y) end ∙ sym (ap extent_of tokens) in
      goes (push_second f.depth trees (t, [], tokens) new.sets new.entries (grow_trivia (p.InRow after) ts w))
      (range, omega (arith, ordered.1, end, new.second)) (order_behind n ts v.order)

  -- each action
  pub perform_goes : (action : Action) (es : List Fault) (names' : Names) → Allowed f.position (head_kind (items ts)) action → is_finish action ≡ false
      → NamesAfter action (mark_of f fs) (popped (machine (f ∷ fs) ts n es)) names names' → Goes (perform true action f fs ts n es) names'
  unfolding pushed started_at
  perform_goes a.Close es names' al g k = stays k (closing es (ap has_no_names al.0) (ap is_root al.0))
  perform_goes a.ClosePattern es names' al g k = closing_pattern f fs ts n es names names' w v al k
  perform_goes a.CloseEntry es names' al g k = closing_entry f fs ts n es names names' w v al k
  perform_goes a.CloseDoubleBind es names' al g k = stays k (closing _ (ap has_no_names al) (ap is_root al))
  perform_goes a.Finish es names' al g k = absurd (true_is_not_false g)
  perform_goes a.EndOperand es names' al g k = stays k (closing es (ap has_no_names al) (ap is_root al))
  perform_goes a.Extra es names' al g k =
      let trees : AnnotatedForest = run_leaves true (items ts) ts in
      let all = order_all n ts v.order in
      stays k (grows f.position (one_fault Extra trees) (items ts) (run_rest true (items ts) ts) (end_from n (items ts)) _ (no_entry_fault Extra trees)
      (run_tokens Extra (items ts) (dropped (items ts) (items ts)) ts (all_prefix (items ts))) refl all.1 all.0)
  perform_goes (a.Take after) es names' al g k =
      let trees : AnnotatedForest = leaf true (kind_of f.head) ts in
      stays k (grows (p.InRow after) trees (firsts (items ts)) (after_item true ts) (item_end true n ts) es (no_entry_leaf (kind_of f.head) ts)
      (leaf_tokens (kind_of f.head) ts) (leaf_end n ts) (reach_least n ts v.order) (order_behind n ts v.order))
  perform_goes (a.Miss after) es names' al g k = stays k (goes (moved_on (p.InRow after) w) v.range v.order)
  perform_goes (a.MissWanted until after) es names' al g k = stays k (goes (moved_on (p.InRow after) w) v.range v.order)
  perform_goes (a.Run until after) es names' al g k =
      let run : List Token = run_of until (items ts) in
      let trees : AnnotatedForest = run_leaves true run ts in
      let all = order_run until n ts v.order in
      stays k (grows (p.InRow after) (one_fault (Unwanted until) trees) run (run_rest true run ts) (end_from n run) _ (no_entry_fault (Unwanted until) trees)
      (run_tokens (Unwanted until) run (dropped run (items ts)) ts (run_prefix until (items ts))) refl all.1 all.0)
  perform_goes (a.Leaf j after) es names' al g k =
      let trees : AnnotatedForest = one_branch j (leaf true j ts) in
      stays k (grows (p.InRow after) trees (firsts (items ts)) (after_item true ts) (item_end true n ts) es
      (subst (λ x. HasNoEntry (one_branch x (leaf true x ts))) (sym al.2) (λ name. refl))
      (append-nil (tokens_in (without_trivia (leaf true j ts))) ∙ leaf_tokens j ts) (leaf_end n ts) (reach_least n ts v.order) (order_behind n ts v.order))
  perform_goes (a.Open j inside after) es names' al g k =
      stays k (goes_open (ap is_open al.2) (push_node j (p.InRow inside) f.depth (leaf true j ts) al.2 (grow_trivia (p.InRow after) ts w))
      (order_behind n ts v.order))
  perform_goes (a.OpenEmpty j inside after) es names' al g k =
      stays k (goes_open (ap is_open al.1) (push_node j (p.InRow inside) f.depth blank al.1 (grow_trivia (p.InRow after) ts w)) (order_from n ts v.order))
  perform_goes (a.Entry after) es names' al g k = entry_goes after (items ts) es names' refl (ap is_there al.0) k
  perform_goes (a.DoubleBind after) es names' al g k = double_bind_goes after (items ts) es names' refl al.0 k
  perform_goes (a.Read level counted after) es names' al g k =
      reading_goes level counted (put (p.InRow after) f.children f) fs ts n es names names' (moved_on (p.InRow after) w)
      (holder_open f fs OperandFrame v.fit al.1) v.order k
  perform_goes (a.Wrap j inside max_bp) es names' al g k =
      let trees : AnnotatedForest = with_leading true f.children ts ⊕ leaf true j ts in
      stays k (goes_open (ap is_open al.2) (push_node j inside f.depth trees al.2 (instead (min_bp_of f.position) max_bp f.depth blank (loose al.1) w))
      (order_behind n ts v.order))
  perform_goes a.Apply es names' al g k =
      let over : Frame = opened Operand (p.AfterOperand (min_bp_of f.position) 15) f.depth blank in
      reading_goes 16 false (opened (Node NODE_APPLY) (p.InRow APPLIED) f.depth f.children) (over ∷ fs) ts n es names names'
      (push_node NODE_APPLY (p.InRow APPLIED) f.depth f.children refl (instead (min_bp_of f.position) 15 f.depth blank (loose al.1) w)) refl v.order k
  perform_goes a.ApplyOr es names' al g k =
      let trees : AnnotatedForest = one_branch NODE_APPLY (with_leading true f.children ts ⊕ one_branch NODE_IDENT (leaf true NODE_IDENT ts)) in
      stays k (goes_open refl (instead (min_bp_of f.position) 15 f.depth trees (loose al.1) w) (order_behind n ts v.order))
