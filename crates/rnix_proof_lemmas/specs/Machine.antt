-- Reading as steps: the open frames, and what each step makes of them. A machine with trivia adds trivia where they are met; one without
-- trivia reads only items.
use Rattle.std.specs.Prelude.{ℕ, suc, Bool, true, false, List, [], ◌∷◌, ◌++◌, if◌then◌else◌, nat_le}
use Rattle.rnix_kinds.specs.declared.kinds.SyntaxKind.{SyntaxKind}
use Rattle.rnix_kinds.specs.declared.kinds.SyntaxKind.TheVariants.{NODE_ERROR, NODE_IDENT, NODE_PAT_ENTRY, NODE_LAMBDA, NODE_IDENT_PARAM, NODE_PATTERN, NODE_PAT_BIND, NODE_LEGACY_LET, NODE_APPLY, NODE_ROOT}
use Rattle.rnix_grammar.specs.declared.position.Position.{Position}
use Rattle.rnix_grammar.specs.declared.position.Position.TheVariants as p
use Rattle.rnix_grammar.specs.declared.slot_table.TheConstants.{ROOT, LEGACY_LET, LAMBDA, PATTERN, BOUND_PATTERN, PAT_ENTRY, SECOND_BIND, APPLIED}
use Rattle.rnix_grammar.specs.declared.action.Action.{Action}
use Rattle.rnix_grammar.specs.declared.action.Action.TheVariants as a
use Rattle.rnix_grammar.specs.declared.operand_start.OperandStart.{OperandStart}
use Rattle.rnix_grammar.specs.declared.operand_start.OperandStart.TheVariants as b
use Rattle.rnix_grammar.specs.Fault.{Fault, unexpected_eof, unexpected_eof_wanted, too_deep}
use Rattle.rnix_grammar.specs.Tables.{wanted_kinds, depth_limit}
use Rattle.rnix_grammar.specs.Actions.{action_at}
use Rattle.rnix_grammar.specs.OperandStarts.{operand_start_of, second_kind}
use Rattle.rnix_grammar.specs.AnnotatedForest.{Token, Stray, Unwanted, Extra, DoubleBind, TooDeep, AnnotatedForest, blank, ◌⊕◌, one_token, one_branch, one_fault, row_of, tokens_in, without_trivia, leaf_kind, end_from, head_kind, touches}
use Rattle.rnix_grammar.specs.Layout.{items, from_item, tail_of, trivia_before, with_trivia, remaining_after}
use Rattle.rnix_grammar.specs.Reports.{report, repeated}
use Rattle.rnix_grammar.specs.UnwantedRun.{run_of}
use Rattle.rnix_grammar.specs.Levels.{expression_level, no_level, application_level, selection_level}

-- what is open: a node, the error node of a second name, an operand that may become part of a node
pub data Head : Type 0 where
  Node : SyntaxKind → Head
  SecondBind : Head
  Operand : Head

-- a head with its position, the number of counted positions around it, and its children so far
pub record Frame : Type 0 where
  pub head : Head
  pub position : Position
  pub depth : ℕ
  pub children : AnnotatedForest

-- the frames, the innermost first; the tokens that are left; where the last item ended; the errors so far
pub record Machine : Type 0 where
  pub frames : List Frame
  pub remaining : List Token
  pub prev_end : ℕ
  pub faults : List Fault

-- a frame at another position, with other children
abbrev pub put : Position → AnnotatedForest → Frame → Frame
put position children f = record { head = f.head; position = position; depth = f.depth; children = children }

-- an open node or operand
abbrev pub opened : Head → Position → ℕ → AnnotatedForest → Frame
opened head position depth children = record { head = head; position = position; depth = depth; children = children }

-- the items that are left, where trivia are read
abbrev pub next_items : Bool → List Token → List Token
next_items true ts = items ts
next_items false ts = ts

-- the tokens from the next item on, where trivia are read
abbrev pub skip_trivia : Bool → List Token → List Token
skip_trivia true ts = from_item ts
skip_trivia false ts = ts

-- a forest with the trivia before the next item, where trivia are read
abbrev pub with_leading : Bool → AnnotatedForest → List Token → AnnotatedForest
with_leading true f ts = f ⊕ trivia_before ts
with_leading false f ts = f

-- the tokens after the next item
abbrev pub after_item : Bool → List Token → List Token
after_item trivia ts = tail_of (skip_trivia trivia ts)

-- where the first of some tokens ends
abbrev pub end_of : ℕ → List Token → ℕ
end_of n [] = n
end_of n (t ∷ ts) = t.end

-- where the next item ends
abbrev pub item_end : Bool → ℕ → List Token → ℕ
item_end trivia n ts = end_of n (skip_trivia trivia ts)

-- the next item as a leaf below a node
abbrev pub leaf_in : SyntaxKind → List Token → AnnotatedForest
leaf_in parent [] = blank
leaf_in parent (t ∷ ts) = one_token (leaf_kind parent t) t

-- the next item as a leaf below a node, where trivia may come first
abbrev pub leaf : Bool → SyntaxKind → List Token → AnnotatedForest
leaf trivia parent ts = leaf_in parent (skip_trivia trivia ts)

-- the run as leaves, with its trivia where they are read
abbrev pub run_leaves : Bool → List Token → List Token → AnnotatedForest
run_leaves true run ts = with_trivia (row_of run) (from_item ts)
run_leaves false run ts = row_of run

-- the tokens after as many others
abbrev pub dropped : List Token → List Token → List Token
dropped [] ts = ts
dropped (x ∷ xs) ts = dropped xs (tail_of ts)

-- the tokens that are left after a run
abbrev pub run_rest : Bool → List Token → List Token → List Token
run_rest true run ts = remaining_after (row_of run) (from_item ts)
run_rest false run ts = dropped run ts

-- the kind of a frame's node
abbrev pub kind_of : Head → SyntaxKind
kind_of (Node k) = k
kind_of SecondBind = NODE_ERROR
kind_of Operand = NODE_ROOT

-- what the children of a frame become when it is complete
abbrev pub made : Head → AnnotatedForest → AnnotatedForest
made (Node k) children = one_branch k children
made SecondBind children = one_fault DoubleBind children
made Operand children = children

-- the lowest level of an operator that continues an operand
abbrev pub min_bp_of : Position → ℕ
min_bp_of (p.AfterOperand min_bp max_bp) = min_bp
min_bp_of position = expression_level

-- a machine with these frames, tokens, end of the last item and errors
abbrev pub machine : List Frame → List Token → ℕ → List Fault → Machine
machine fs ts n es = record { frames = fs; remaining = ts; prev_end = n; faults = es }

-- a complete frame becomes part of the frame below
abbrev pub closed : Frame → List Frame → List Token → ℕ → List Fault → Machine
closed f [] ts n es = machine (f ∷ []) ts n es
closed f (g ∷ fs) ts n es = machine (put g.position (g.children ⊕ made f.head f.children) g ∷ fs) ts n es

-- a forest, without its trivia where these are read
abbrev pub without_trivia_if : Bool → AnnotatedForest → AnnotatedForest
without_trivia_if true f = without_trivia f
without_trivia_if false f = f

-- an entry of a pattern is complete
abbrev pub entry_closed : Bool → Frame → List Frame → List Token → ℕ → List Fault → Machine
entry_closed trivia f [] ts n es = machine (f ∷ []) ts n es
entry_closed trivia f (g ∷ fs) ts n es = closed f (g ∷ fs) ts n (es ++ repeated (without_trivia_if trivia g.children) (without_trivia_if trivia f.children))

-- a node is opened with children
abbrev pub open_on : Bool → Head → Position → AnnotatedForest → Position → Frame → List Frame → List Token → List Frame
open_on trivia head inside children after f fs ts = opened head inside f.depth children ∷ (put after (with_leading trivia f.children ts) f ∷ fs)

-- all that is left is nested too deep
abbrev pub limited : Bool → Frame → List Frame → List Token → ℕ → List Fault → Machine
limited trivia f fs ts n es =
    machine (put f.position
    (with_leading trivia (with_leading trivia f.children ts ⊕ one_fault TooDeep (run_leaves trivia (next_items trivia ts) ts))
    (run_rest trivia (next_items trivia ts) ts)) f
    ∷ fs)
    (skip_trivia trivia (run_rest trivia (next_items trivia ts) ts)) (end_from n (next_items trivia ts)) (es ++ too_deep ∷ [])

-- an operand begins with the next item, inside so many counted positions; f is the frame below
abbrev pub begun : Bool → OperandStart → ℕ → ℕ → Token → Frame → List Frame → List Token → ℕ → List Fault → Machine
begun trivia (b.Leaf k) level d t f fs ts n es =
    machine (opened Operand (p.AfterOperand level selection_level) d (one_branch k (leaf trivia k ts))
    ∷ (put f.position (with_leading trivia f.children ts) f ∷ fs))
    (after_item trivia ts) (item_end trivia n ts) es
begun trivia (b.Node k index max_bp) level d t f fs ts n es =
    machine (opened (Node k) (p.InRow index) d (leaf trivia k ts) ∷ (opened Operand (p.AfterOperand level max_bp) d blank
    ∷ (put f.position (with_leading trivia f.children ts) f ∷ fs)))
    (after_item trivia ts) (item_end trivia n ts) es
begun trivia b.LegacyLet level d t f fs ts n es =
    machine (opened (Node NODE_LEGACY_LET) (p.InRow LEGACY_LET) d (with_leading trivia (leaf trivia NODE_LEGACY_LET ts) (after_item trivia ts)
    ⊕ leaf trivia NODE_LEGACY_LET (after_item trivia ts))
    ∷ (opened Operand (p.AfterOperand level no_level) d blank ∷ (put f.position (with_leading trivia f.children ts) f ∷ fs)))
    (after_item trivia (after_item trivia ts)) (item_end trivia (item_end trivia n ts) (after_item trivia ts)) es
begun trivia b.NameLambda level d t f fs ts n es =
    machine (opened (Node NODE_LAMBDA) (p.InRow LAMBDA) d (one_branch NODE_IDENT_PARAM (one_branch NODE_IDENT (leaf trivia NODE_IDENT ts)))
    ∷ (opened Operand (p.AfterOperand level selection_level) d blank ∷ (put f.position (with_leading trivia f.children ts) f ∷ fs))) (after_item trivia ts)
    (item_end trivia n ts) es
begun trivia b.BoundLambda level d t f fs ts n es =
    machine (opened (Node NODE_PATTERN) (p.InRow BOUND_PATTERN) d
    (one_branch NODE_PAT_BIND
    (with_leading trivia (one_branch NODE_IDENT (leaf trivia NODE_IDENT ts)) (after_item trivia ts) ⊕ leaf trivia NODE_PAT_BIND (after_item trivia ts)))
    ∷ (opened (Node NODE_LAMBDA) (p.InRow LAMBDA) d blank ∷ (opened Operand (p.AfterOperand level selection_level) d blank
    ∷ (put f.position (with_leading trivia f.children ts) f ∷ fs))))
    (after_item trivia (after_item trivia ts)) (item_end trivia (item_end trivia n ts) (after_item trivia ts)) es
begun trivia b.PatternLambda level d t f fs ts n es =
    machine (opened (Node NODE_PATTERN) (p.InRow PATTERN) d (leaf trivia NODE_PATTERN ts)
    ∷ (opened (Node NODE_LAMBDA) (p.InRow LAMBDA) d blank ∷ (opened Operand (p.AfterOperand level selection_level) d blank
    ∷ (put f.position (with_leading trivia f.children ts) f ∷ fs))))
    (after_item trivia ts) (item_end trivia n ts) es
begun trivia b.Stray level d t f fs ts n es =
    machine (opened Operand (p.AfterOperand level selection_level) d (one_fault Stray (leaf trivia NODE_ERROR ts))
    ∷ (put f.position (with_leading trivia f.children ts) f ∷ fs))
    (after_item trivia ts) (item_end trivia n ts) (es ++ report Stray (t ∷ []) ∷ [])

-- an operand of a level, where f continues after it
abbrev pub operand_on : Bool → ℕ → ℕ → Frame → List Frame → List Token → List Token → ℕ → List Fault → Machine
operand_on trivia level d f fs ts [] n es = machine (f ∷ fs) ts n (es ++ unexpected_eof ∷ [])
operand_on trivia level d f fs ts (t ∷ us) n es = begun trivia (operand_start_of level t.kind t.text (head_kind us) (second_kind us)) level d t f fs ts n es

-- an operand of a level, counted or not; a counted one only within the limit
abbrev pub reading : Bool → ℕ → Bool → Frame → List Frame → List Token → ℕ → List Fault → Machine
reading trivia level true f fs ts n es = if nat_le depth_limit f.depth then limited trivia f fs ts n es else operand_on trivia level (suc f.depth) f fs ts
    (next_items trivia ts) n es
reading trivia level false f fs ts n es = operand_on trivia level f.depth f fs ts (next_items trivia ts) n es

-- a step at the innermost frame
abbrev pub perform : Bool → Action → Frame → List Frame → List Token → ℕ → List Fault → Machine
perform trivia a.Close f fs ts n es = closed f fs ts n es
perform trivia a.ClosePattern f fs ts n es = closed f fs ts n es
perform trivia a.CloseEntry f fs ts n es = entry_closed trivia f fs ts n es
perform trivia a.CloseDoubleBind f fs ts n es = closed f fs ts n (es ++ report DoubleBind (tokens_in (without_trivia_if trivia f.children)) ∷ [])
perform trivia a.Finish f fs ts n es = machine (f ∷ fs) ts n es
perform trivia a.EndOperand f fs ts n es = closed f fs ts n es
perform trivia a.Extra f fs ts n es =
    machine (put f.position (with_leading trivia f.children ts ⊕ one_fault Extra (run_leaves trivia (next_items trivia ts) ts)) f ∷ fs)
    (run_rest trivia (next_items trivia ts) ts)
    (end_from n (next_items trivia ts))
    (es ++ report Extra (next_items trivia ts) ∷ [])
perform trivia (a.Take after) f fs ts n es =
    machine (put (p.InRow after) (with_leading trivia f.children ts ⊕ leaf trivia (kind_of f.head) ts) f ∷ fs) (after_item trivia ts) (item_end trivia n ts) es
perform trivia (a.Miss after) f fs ts n es = machine (put (p.InRow after) f.children f ∷ fs) ts n (es ++ unexpected_eof ∷ [])
perform trivia (a.MissWanted until after) f fs ts n es =
    machine (put (p.InRow after) f.children f ∷ fs) ts n (es ++ unexpected_eof_wanted (wanted_kinds until) ∷ [])
perform trivia (a.Run until after) f fs ts n es =
    machine (put (p.InRow after) (with_leading trivia f.children ts ⊕ one_fault (Unwanted until) (run_leaves trivia (run_of until (next_items trivia ts)) ts)) f
    ∷ fs)
    (run_rest trivia (run_of until (next_items trivia ts)) ts) (end_from n (run_of until (next_items trivia ts)))
    (es ++ report (Unwanted until) (run_of until (next_items trivia ts)) ∷ [])
perform trivia (a.Leaf k after) f fs ts n es =
    machine (put (p.InRow after) (with_leading trivia f.children ts ⊕ one_branch k (leaf trivia k ts)) f ∷ fs) (after_item trivia ts) (item_end trivia n ts) es
perform trivia (a.Open k inside after) f fs ts n es =
    machine (open_on trivia (Node k) (p.InRow inside) (leaf trivia k ts) (p.InRow after) f fs ts) (after_item trivia ts) (item_end trivia n ts) es
perform trivia (a.OpenEmpty k inside after) f fs ts n es =
    machine (open_on trivia (Node k) (p.InRow inside) blank (p.InRow after) f fs ts) (skip_trivia trivia ts) n es
perform trivia (a.Entry after) f fs ts n es =
    machine (open_on trivia (Node NODE_PAT_ENTRY) (p.InRow PAT_ENTRY) (one_branch NODE_IDENT (leaf trivia NODE_IDENT ts)) (p.InRow after) f fs ts)
    (after_item trivia ts)
    (item_end trivia n ts) es
perform trivia (a.DoubleBind after) f fs ts n es =
    machine (open_on trivia SecondBind (p.InRow SECOND_BIND) (leaf trivia NODE_ERROR ts) (p.InRow after) f fs ts) (after_item trivia ts) (item_end trivia n ts)
    es
perform trivia (a.Read level counted after) f fs ts n es = reading trivia level counted (put (p.InRow after) f.children f) fs ts n es
perform trivia (a.Wrap k inside max_bp) f fs ts n es =
    machine (opened (Node k) inside f.depth (with_leading trivia f.children ts ⊕ leaf trivia k ts)
    ∷ (opened Operand (p.AfterOperand (min_bp_of f.position) max_bp) f.depth blank ∷ fs))
    (after_item trivia ts) (item_end trivia n ts) es
perform trivia a.Apply f fs ts n es =
    reading trivia selection_level false (opened (Node NODE_APPLY) (p.InRow APPLIED) f.depth f.children)
    (opened Operand (p.AfterOperand (min_bp_of f.position) application_level) f.depth blank ∷ fs) ts n es
perform trivia a.ApplyOr f fs ts n es =
    machine (opened Operand (p.AfterOperand (min_bp_of f.position) application_level) f.depth
    (one_branch NODE_APPLY (with_leading trivia f.children ts ⊕ one_branch NODE_IDENT (leaf trivia NODE_IDENT ts))) ∷ fs)
    (after_item trivia ts) (item_end trivia n ts) es

-- one step at the innermost frame, if there is one
abbrev pub step_on : Bool → List Frame → List Token → ℕ → List Fault → Machine
step_on trivia [] ts n es = machine [] ts n es
step_on trivia (f ∷ fs) ts n es = perform trivia (action_at f.position (head_kind (next_items trivia ts)) (touches n (next_items trivia ts))) f fs ts n es

-- one step of a machine
abbrev pub step : Bool → Machine → Machine
step trivia m = step_on trivia m.frames m.remaining m.prev_end m.faults

-- the machine before it reads a text
abbrev pub initial_machine : List Token → Machine
initial_machine ts = machine (opened (Node NODE_ROOT) (p.InRow ROOT) 0 blank ∷ []) ts 0 []

-- some steps
pub data Runs (trivia : Bool) : Machine → Machine → Type 0 where
  rest : {m : Machine} → Runs trivia m m
  then : {m n : Machine} → Runs trivia (step trivia m) n → Runs trivia m n
