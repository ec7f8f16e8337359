-- Each step of the reader is a step of the machine.
use Rattle.rnix_grammar.specs.declared.slot_table.TheConstants.{APPLIED, PAT_ENTRY, SECOND_BIND}
use Rattle.std.proofs.{Common.{◌≡◌, ◌≤◌, ◌<◌, nat_le, length, arith, ℕ, true, false, List, [], ◌∷◌, refl, ap, ◌∙◌, subst}, lemmas.Bool.le-leb}
use Rattle.rnix_kinds.specs.declared.kinds.SyntaxKind.{SyntaxKind, TheVariants.{NODE_ERROR, NODE_ROOT, NODE_IDENT, NODE_PAT_ENTRY, NODE_APPLY}}
use Rattle.rnix_green.{specs.{Forest.tree_count, Draft.{OpenNode, is_inside}, ForestCode.join_empty}, proofs.ForestLemmas.tree_count-join}
use Rattle.rnix_grammar.specs.{declared.{position.Position.Position, action.Action.Action, expected_set.ExpectedSet.TheVariants.End}, Fault.{Fault, double_bind}, Layout.{items, from_item}, UnwantedRun.run_of, Reports.report}
use Rattle.rnix_grammar.specs.AnnotatedForest.{Token, Unwanted, Extra, DoubleBind, AnnotatedForest, forget, without_trivia, tokens_in, blank, ◌⊕◌, one_branch, head_kind}
use Rattle.rnix_proof_lemmas.specs.Machine.{Head, Node, SecondBind, Operand, Frame, put, opened, with_leading, leaf, after_item, item_end, machine, perform, min_bp_of}
use Rattle.rnix_proof_lemmas.proofs.Basics.{true_is_not_false}
use Rattle.rnix_proof_lemmas.specs.Allowed.{Allowed}
use Rattle.rnix_proof_lemmas.specs.FrameKinds.{SecondBindFrame, OperandFrame, frame_kind, frame_kind_of_head}
use Rattle.rnix_reader.specs.{declared.pattern_names.Names.Names, State.{State, bumped, started_at, ended, failed, pushed}, Reported.error_over, FrameSteps.{node_started, node_here, node_wrapped, leaf_node_made}, Holds.{HasRange, IsWell, AreNamed}}
use Rattle.rnix_reader.specs.{Erase.{trees_of, nodes_of, mark_of, opened_on, erase, popped}, Performed.{Performed, IsReady, IsCheckpoint, expression_read}}
use Rattle.rnix_proof_steps.{specs.StepCount.is_finish, proofs.BudgetedSteps.is_root}
use Rattle.rnix_reader.proofs.{FrameKindLemmas.{is_operand_frame, is_name, head_operand, head_second_bind, head_sort, range_named, own_leaf}, BegunLemmas.expression_is, SkippedRuns.run_all, EntryLemmas.done_entry}
use Rattle.rnix_reader.proofs.EraseLemmas.{erase-eaten, erase-bumped, erase-next, erase-node_started, erase-leaf_node_made, erase-first, erase-over, erase-wrapped, erase-closed, closes, settles, closed_failed}
use Rattle.rnix_grammar.specs.declared.position.Position.TheVariants as p
use Rattle.rnix_grammar.specs.declared.action.Action.TheVariants as a

node_open : (h : Head) (k : ℕ) (os : List OpenNode) → is_operand_frame (frame_kind_of_head h) ≡ false → 0 < length (opened_on h k os)
node_open (Node k) n os e = omega arith
node_open SecondBind n os e = omega arith
node_open Operand n os e = cc

-- an operand's beginning is still inside the innermost node when more is opened
inside_head : (h : Head) (k n : ℕ) (os : List OpenNode) → k ≤ n → is_inside n os ≡ true → is_inside n (opened_on h k os) ≡ true
inside_head Operand k n os l i = i
inside_head h k n os l i = le-leb k n l

inside : (fs : List Frame) (n : ℕ) → tree_count (trees_of fs) ≤ n → is_inside n (nodes_of fs) ≡ true
inside [] n l = refl
inside (f ∷ fs) n l =
    let all = tree_count-join (trees_of fs) (forget f.children) in
    inside_head f.head (tree_count (trees_of fs)) n (nodes_of fs) (omega (arith, l, all)) (inside fs n (omega (arith, l, all)))

module _ (f : Frame) (fs : List Frame) (ts : List Token) (n : ℕ) (es : List Fault) (names : Names) (w : IsWell f fs ts n names.second) where
  -- the reader's state after it popped the innermost mark
  abbrev popped_state : State
  popped_state = popped (machine (f ∷ fs) ts n es)

  sort : frame_kind_of_head f.head ≡ frame_kind f.position
  sort = head_sort f.head f.position fs w.fit

  is_there : is_operand_frame (frame_kind f.position) ≡ false → 0 < length (nodes_of (f ∷ fs))
  is_there e = node_open f.head (tree_count (trees_of fs)) (nodes_of fs) (ap is_operand_frame sort ∙ e)

  checkpoint : IsCheckpoint (mark_of f fs) popped_state
  checkpoint =
      let at : ℕ = tree_count (trees_of fs) in
      let le : nat_le at (tree_count (trees_of (f ∷ fs))) ≡ true =
      le-leb at (tree_count (trees_of (f ∷ fs))) (omega (arith, tree_count-join (trees_of fs) (forget f.children))) in
      rw le (inside_head f.head at at (nodes_of fs) (omega arith) (inside fs at (omega arith)))

  again : frame_kind f.position ≡ SecondBindFrame → HasRange names.second n SecondBind f.children
  again e = subst (λ x. HasRange names.second n x f.children) (head_second_bind f.head (sort ∙ e)) w.range

  -- the conditions of each allowed action are met
  pub ready : (action : Action) → Allowed f.position (head_kind (items ts)) action → IsReady action (mark_of f fs) popped_state names
  unfolding pushed
  ready a.Close al = is_there (ap is_operand_frame al.0)
  ready a.ClosePattern al = is_there (ap is_operand_frame al)
  ready a.CloseEntry al = is_there (ap is_operand_frame al)
  ready a.CloseDoubleBind al = (is_there (ap is_operand_frame al), (again al).1)
  ready a.Finish al = is_there (ap (λ x. is_operand_frame (frame_kind x)) al.0)
  ready a.Extra al = al.0
  ready (a.Run until after) al = al.0
  ready (a.Wrap k inside max_bp) al = checkpoint
  ready a.Apply al = checkpoint
  ready a.ApplyOr al = checkpoint
  ready _ al = tt

  opens : (k : SyntaxKind) (inside after : Position) → node_started k inside f.depth (erase (machine (put after f.children f ∷ fs) ts n es))
      ≡ erase (machine (opened (Node k) inside f.depth blank ∷ (put after (with_leading true f.children ts) f ∷ fs)) (from_item ts) n es)
  opens k inside after =
      ap (node_here k inside f.depth) (erase-eaten _ (put after f.children f) fs ts n es)
      ∙ erase-node_started k inside f.depth (put after (with_leading true f.children ts) f ∷ fs) (from_item ts) n es

  wraps : (k : SyntaxKind) (inside over : Position) → frame_kind f.position ≡ OperandFrame
      → node_wrapped k inside over (mark_of f fs) popped_state ≡ erase
      (machine (opened (Node k) inside f.depth f.children ∷ (opened Operand over f.depth blank ∷ fs)) ts n es)
  unfolding pushed started_at
  wraps k inside over e = rw (head_operand f.head (sort ∙ e), join_empty (trees_of fs)) refl

  -- the reader's state after an action is that of the machine after it
  pub performs : (action : Action) (s' : State) (names' : Names) → AreNamed f fs names → Allowed f.position (head_kind (items ts)) action
      → is_finish action ≡ false
      → Performed action (mark_of f fs) popped_state names s' names' → s' ≡ erase (perform true action f fs ts n es)
  unfolding pushed failed
  performs a.Close s' names' k al g d = d ∙ closes f fs ts n es w.fit (ap is_operand_frame al.0) (ap is_root al.0)
  performs a.ClosePattern s' names' k al g d = d ∙ closes f fs ts n es w.fit (ap is_operand_frame al) (ap is_root al)
  performs a.CloseEntry s' names' k al g d = done_entry f fs ts n es names names' s' w.fit k al d
  performs a.CloseDoubleBind s' names' k al g d =
      let tokens : List Token = tokens_in (without_trivia f.children) in
      d ∙ ap (λ x. failed (double_bind x) (ended popped_state)) (again al).0
      ∙ ap (failed (report DoubleBind tokens)) (closes f fs ts n es w.fit (ap is_operand_frame al) (ap is_root al))
      ∙ closed_failed (report DoubleBind tokens) f fs ts n es
  performs a.Finish s' names' k al g d = absurd (true_is_not_false g)
  performs a.EndOperand s' names' k al g d = d ∙ settles f fs ts n es w.fit al
  performs a.Extra s' names' k al g d =
      let run : List Token = items ts in
      d ∙ ap (λ x. failed (report Extra x) (error_over End (erase (machine (f ∷ fs) ts n es)))) (run_all run)
      ∙ ap (failed (report Extra run)) (erase-over _ Extra End run f fs ts n es (run_all run))
  performs (a.Take after) s' names' k al g d =
      d ∙ erase-bumped _ NODE_ROOT (put (p.InRow after) f.children f) fs ts n es
      ∙ ap (λ x. erase (machine (put (p.InRow after) (with_leading true f.children ts ⊕ x) f ∷ fs) (after_item true ts) (item_end true n ts) es))
      (own_leaf f.head (from_item ts) (ap is_name sort ∙ range_named f.position))
  performs (a.Miss after) s' names' k al g d = d
  performs (a.MissWanted until after) s' names' k al g d = d
  performs (a.Run until after) s' names' k al g d =
      let run : List Token = run_of until (items ts) in
      d ∙ ap (failed (report (Unwanted until) run)) (erase-over _ (Unwanted until) until run (put (p.InRow after) f.children f) fs ts n es refl)
  performs (a.Leaf j after) s' names' k al g d = d ∙ erase-leaf_node_made _ j (put (p.InRow after) f.children f) fs ts n es
  performs (a.Open j inside after) s' names' k al g d =
      d ∙ ap (bumped j) (opens j (p.InRow inside) (p.InRow after)) ∙ erase-next _ j (opened (Node j) (p.InRow inside) f.depth blank)
      (put (p.InRow after) (with_leading true f.children ts) f ∷ fs) ts n es
  performs (a.OpenEmpty j inside after) s' names' k al g d = d ∙ opens j (p.InRow inside) (p.InRow after)
  performs (a.Entry after) s' names' k al g d =
      d ∙ ap (leaf_node_made NODE_IDENT) (opens NODE_PAT_ENTRY (p.InRow PAT_ENTRY) (p.InRow after))
      ∙ erase-first _ NODE_IDENT (opened (Node NODE_PAT_ENTRY) (p.InRow PAT_ENTRY) f.depth blank)
      (put (p.InRow after) (with_leading true f.children ts) f ∷ fs) ts n es
  performs (a.DoubleBind after) s' names' k al g d =
      d ∙ ap (bumped NODE_ERROR) (opens NODE_ERROR (p.InRow SECOND_BIND) (p.InRow after))
      ∙ erase-next _ NODE_ERROR (opened SecondBind (p.InRow SECOND_BIND) f.depth blank) (put (p.InRow after) (with_leading true f.children ts) f ∷ fs) ts n es
  performs (a.Read level counted after) s' names' k al g d = d ∙ expression_is (put (p.InRow after) f.children f) fs ts n es level counted
  performs (a.Wrap j inside max_bp) s' names' k al g d =
      let over : Position = p.AfterOperand (min_bp_of f.position) max_bp in
      d ∙ ap (bumped j) (wraps j inside over al.1) ∙ erase-bumped _ j (opened (Node j) inside f.depth f.children) (opened Operand over f.depth blank
      ∷ fs) ts n es
  performs a.Apply s' names' k al g d =
      let over : Position = p.AfterOperand (min_bp_of f.position) 15 in
      d ∙ ap (expression_read 16 false f.depth) (wraps NODE_APPLY (p.InRow APPLIED) over al.1)
      ∙ expression_is (opened (Node NODE_APPLY) (p.InRow APPLIED) f.depth f.children) (opened Operand over f.depth blank ∷ fs) ts n es 16 false
  performs a.ApplyOr s' names' k al g d =
      let over : Position = p.AfterOperand (min_bp_of f.position) 15 in
      let trees : AnnotatedForest = with_leading true f.children ts ⊕ one_branch NODE_IDENT (leaf true NODE_IDENT ts) in
      let gs : List Frame = opened Operand over f.depth blank ∷ fs in
      d ∙ ap (λ x. ended (leaf_node_made NODE_IDENT x)) (erase-wrapped _ NODE_APPLY (p.InRow APPLIED) over f fs ts n es (head_operand f.head (sort ∙ al.1)))
      ∙ ap ended (erase-leaf_node_made _ NODE_IDENT (opened (Node NODE_APPLY) (p.InRow APPLIED) f.depth f.children) gs ts n es)
      ∙ erase-closed _ (Node NODE_APPLY) (p.InRow APPLIED) f.depth trees (opened Operand over f.depth blank) fs (after_item true ts)
      (item_end true n ts) es refl
