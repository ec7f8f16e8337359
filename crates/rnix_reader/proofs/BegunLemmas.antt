-- How an operand begins, in the reader's state.
use Rattle.rnix_grammar.specs.declared.slot_table.TheConstants.{APPLIED, BOUND_PATTERN, LAMBDA, LEGACY_LET, PATTERN}
use Rattle.std.proofs.Common.{◌≡◌, ◌+◌, ℕ, Bool, suc, true, false, if◌then◌else◌, nat_le, List, [], ◌∷◌, refl, ap, ◌∙◌, add-one}
use Rattle.rnix_kinds.specs.declared.kinds.SyntaxKind.{SyntaxKind, TheVariants.{NODE_ERROR, NODE_IDENT, NODE_LAMBDA, NODE_IDENT_PARAM, NODE_PATTERN, NODE_PAT_BIND, NODE_LEGACY_LET}}
use Rattle.rnix_grammar.specs.{declared.{position.Position.Position, operand_start.OperandStart.OperandStart, expected_set.ExpectedSet.TheVariants.End}, Tables.depth_limit, Fault.{Fault, too_deep}, Layout.{items, from_item, tail_of}, Reports.report}
use Rattle.rnix_grammar.specs.AnnotatedForest.{Token, Stray, TooDeep, AnnotatedForest, head_of, end_from, blank, ◌⊕◌, one_branch, one_fault}
use Rattle.rnix_proof_lemmas.specs.Machine.{Node, Operand, Frame, put, opened, with_leading, leaf, after_item, item_end, machine, begun, operand_on, reading, limited, run_leaves, run_rest}
use Rattle.rnix_reader.specs.{declared.mark.Mark.Mark, State.{State, eaten, bumped, started_here, started, ended, failed}, Erase.{erase, erase_with}}
use Rattle.rnix_reader.specs.FrameSteps.{node_here, node_started, node_begun, operand_here, operand_begun, lambda_begun, leaf_node_made, parameter_read, binding_read, begins_with}
use Rattle.rnix_reader.{specs.{Performed.{begun_as, operand_with, operand_read, expression_read}, Reported.limit_reported}}
use Rattle.rnix_reader.proofs.SkippedRuns.{run_all}
use Rattle.rnix_reader.proofs.EraseLemmas.{erase-eaten, erase-settled, erase-over, erase-bumped, erase-next, erase-started, erase-first, erase-closed, erase-node_started, erase-operand}
use Rattle.rnix_grammar.specs.declared.position.Position.TheVariants as p
use Rattle.rnix_grammar.specs.declared.operand_start.OperandStart.TheVariants as b

module _ (f : Frame) (fs : List Frame) (ts : List Token) (n : ℕ) (es : List Fault) where
  -- the reader's state
  abbrev reader_state : State
  reader_state = erase (machine (f ∷ fs) ts n es)

  -- the tokens after the trivia
  abbrev us : List Token
  us = from_item ts

  -- the frames with an operand open, above the frame that waits for it, with the trivia before it
  abbrev on : Position → ℕ → List Frame
  on over d = opened Operand over d blank ∷ (put f.position (with_leading true f.children ts) f ∷ fs)

  -- and with a function open in the operand
  abbrev function : ℕ → ℕ → List Frame
  function level d = opened (Node NODE_LAMBDA) (p.InRow LAMBDA) d blank ∷ on (p.AfterOperand level 16) d

  operand : (over : Position) (d : ℕ) → operand_begun over d reader_state ≡ erase (machine (on over d) us n es)
  operand over d =
      ap (operand_here over d) (erase-eaten _ f fs ts n es) ∙ erase-operand over d (put f.position (with_leading true f.children ts) f ∷ fs) us n es

  node : (k : SyntaxKind) (inside : Position) (d : ℕ) (gs : List Frame)
      → node_started k inside d (erase (machine gs us n es)) ≡ erase (machine (opened (Node k) inside d blank ∷ gs) us n es)
  node k inside d gs = ap (node_here k inside d) (erase-settled _ gs ts n es) ∙ erase-node_started k inside d gs us n es

  inner : (ms : List Mark) (k : SyntaxKind) (d : ℕ) (gs : List Frame)
      → started k (erase_with ms (machine gs us n es)) ≡ erase_with ms (machine (opened (Node k) (p.InRow APPLIED) d blank ∷ gs) us n es)
  inner ms k d gs = ap (started_here k) (erase-settled ms gs ts n es) ∙ erase-started ms k (p.InRow APPLIED) d gs us n es

  lambda : (level d : ℕ) → lambda_begun (p.AfterOperand level 16) d reader_state ≡ erase (machine (function level d) us n es)
  lambda level d = ap (node_started NODE_LAMBDA (p.InRow LAMBDA) d) (operand (p.AfterOperand level 16) d)
      ∙ node NODE_LAMBDA (p.InRow LAMBDA) d (on (p.AfterOperand level 16) d)

  leafs : (k : SyntaxKind) (level d : ℕ) (t : Token) → begun_as (b.Leaf k) level d t reader_state ≡ erase (begun true (b.Leaf k) level d t f fs ts n es)
  leafs k level d t =
      ap (leaf_node_made k) (operand (p.AfterOperand level 16) d) ∙ erase-first _ k (opened Operand (p.AfterOperand level 16) d blank)
      (put f.position (with_leading true f.children ts) f ∷ fs) ts n es

  nodes : (k : SyntaxKind) (remaining max_bp level d : ℕ) (t : Token)
      → begun_as (b.Node k remaining max_bp) level d t reader_state ≡ erase (begun true (b.Node k remaining max_bp) level d t f fs ts n es)
  nodes k remaining max_bp level d t =
      let position : Position = p.InRow remaining in
      let gs : List Frame = on (p.AfterOperand level max_bp) d in
      ap (node_begun k position d) (operand (p.AfterOperand level max_bp) d) ∙ ap (bumped k) (node k position d gs)
      ∙ erase-next _ k (opened (Node k) position d blank) gs ts n es

  -- the reader begins an operand as the machine does
  begins_as : (how : OperandStart) (level d : ℕ) (t : Token) → begun_as how level d t reader_state ≡ erase (begun true how level d t f fs ts n es)
  unfolding failed
  begins_as (b.Leaf k) level d t = leafs k level d t
  begins_as (b.Node k remaining max_bp) level d t = nodes k remaining max_bp level d t
  begins_as b.LegacyLet level d t =
      ap (bumped NODE_LEGACY_LET) (nodes NODE_LEGACY_LET LEGACY_LET 0 level d t)
      ∙ erase-bumped _ NODE_LEGACY_LET (opened (Node NODE_LEGACY_LET) (p.InRow LEGACY_LET) d (leaf true NODE_LEGACY_LET ts)) (on (p.AfterOperand level 0) d)
      (after_item true ts) (item_end true n ts) es
  begins_as b.NameLambda level d t =
      let gs : List Frame = function level d in
      ap parameter_read (lambda level d) ∙ ap (λ x. ended (leaf_node_made NODE_IDENT x)) (inner _ NODE_IDENT_PARAM d gs)
      ∙ ap ended (erase-first _ NODE_IDENT (opened (Node NODE_IDENT_PARAM) (p.InRow APPLIED) d blank) gs ts n es)
      ∙ erase-closed _ (Node NODE_IDENT_PARAM) (p.InRow APPLIED) d (one_branch NODE_IDENT (leaf true NODE_IDENT ts))
      (opened (Node NODE_LAMBDA) (p.InRow LAMBDA) d blank) (on (p.AfterOperand level 16) d) (after_item true ts) (item_end true n ts) es refl
  begins_as b.BoundLambda level d t =
      let pattern : Frame = opened (Node NODE_PATTERN) (p.InRow BOUND_PATTERN) d blank in
      let gs : List Frame = function level d in
      let name : AnnotatedForest = one_branch NODE_IDENT (leaf true NODE_IDENT ts) in
      ap (λ x. binding_read (node_started NODE_PATTERN (p.InRow BOUND_PATTERN) d x)) (lambda level d)
      ∙ ap binding_read (node NODE_PATTERN (p.InRow BOUND_PATTERN) d gs)
      ∙ ap (λ x. ended (bumped NODE_PAT_BIND (leaf_node_made NODE_IDENT x))) (inner _ NODE_PAT_BIND d (pattern ∷ gs))
      ∙ ap (λ x. ended (bumped NODE_PAT_BIND x)) (erase-first _ NODE_IDENT (opened (Node NODE_PAT_BIND) (p.InRow APPLIED) d blank) (pattern ∷ gs) ts n es)
      ∙ ap ended
      (erase-bumped _ NODE_PAT_BIND (opened (Node NODE_PAT_BIND) (p.InRow APPLIED) d name) (pattern ∷ gs) (after_item true ts) (item_end true n ts) es)
      ∙ erase-closed _ (Node NODE_PAT_BIND) (p.InRow APPLIED) d (with_leading true name (after_item true ts) ⊕ leaf true NODE_PAT_BIND (after_item true ts))
      pattern gs (after_item true (after_item true ts)) (item_end true (item_end true n ts) (after_item true ts)) es refl
  begins_as b.PatternLambda level d t =
      let pattern : Frame = opened (Node NODE_PATTERN) (p.InRow PATTERN) d blank in
      ap (node_begun NODE_PATTERN (p.InRow PATTERN) d) (lambda level d)
      ∙ ap (bumped NODE_PATTERN) (node NODE_PATTERN (p.InRow PATTERN) d (function level d)) ∙ erase-next _ NODE_PATTERN pattern (function level d) ts n es
  begins_as b.Stray level d t = ap (failed (report Stray (t ∷ []))) (leafs NODE_ERROR level d t)

  operand_is : (level d : ℕ) → operand_read level d reader_state ≡ erase (operand_on true level d f fs ts (items ts) n es)
  unfolding failed
  operand_is level d = elim (items ts) as (λ xs. operand_with level d (head_of xs) (tail_of xs) reader_state ≡ erase
      (operand_on true level d f fs ts xs n es))
      [ [] ↦ refl | t ∷ xs ↦ begins_as (begins_with level t xs) level d t ]

  -- the reader puts what is nested too deep into an error node as the machine does
  deep : limit_reported reader_state ≡ erase (limited true f fs ts n es)
  unfolding failed
  deep =
      let run : List Token = items ts in
      let g : Frame = put f.position (with_leading true f.children ts ⊕ one_fault TooDeep (run_leaves true run ts)) f in
      ap (λ x. failed too_deep (eaten x)) (erase-over _ TooDeep End run f fs ts n es (run_all run))
      ∙ ap (failed too_deep) (erase-eaten _ g fs (run_rest true run ts) (end_from n run) es)

  -- the reader reads an operand, counted or not, as the machine does
  pub expression_is : (level : ℕ) (counted : Bool) → expression_read level counted f.depth reader_state ≡ erase (reading true level counted f fs ts n es)
  expression_is level true =
      elim (nat_le depth_limit f.depth) as (λ x. (if x then limit_reported reader_state else operand_read level (f.depth + 1) reader_state)
      ≡ erase (if x then limited true f fs ts n es else operand_on true level (suc f.depth) f fs ts (items ts) n es))
      [ true ↦ deep | false ↦ rw add-one (operand_is level (suc f.depth)) ]
  expression_is level false = operand_is level f.depth
