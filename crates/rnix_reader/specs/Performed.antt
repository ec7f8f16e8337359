-- What the reader's steps make of what it holds.
use Rattle.std.specs.Prelude.{◌≡◌, ◌≤◌, ◌<◌, ◌+◌, ℕ, Bool, true, false, List, [], ◌∷◌, Option, Some, None, length, ◌&&◌, nat_le, IsTrue, if◌then◌else◌}
use Rattle.rnix_kinds.specs.declared.kinds.SyntaxKind.TheVariants.{NODE_ROOT}
use Rattle.rnix_green.specs.Draft.{is_checkpoint_of}
use Rattle.rnix_grammar.specs.declared.action.Action.{Action}
use Rattle.rnix_grammar.specs.declared.action.Action.TheVariants as a
use Rattle.rnix_grammar.specs.declared.operand_start.OperandStart.{OperandStart}
use Rattle.rnix_grammar.specs.declared.operand_start.OperandStart.TheVariants as b
use Rattle.rnix_grammar.specs.declared.position.Position.{Position}
use Rattle.rnix_grammar.specs.declared.position.Position.TheVariants as p
use Rattle.rnix_grammar.specs.Actions.{action_at}
use Rattle.rnix_proof_lemmas.specs.Allowed.{is_there}
use Rattle.rnix_grammar.specs.AnnotatedForest.{Token, head_of, head_kind, touches}
use Rattle.rnix_grammar.specs.Fault.{Fault, unexpected_eof as ended_fault}
use Rattle.rnix_grammar.specs.Layout.{tail_of}
use Rattle.rnix_grammar.specs.Levels.{no_level, application_level, selection_level}
use Rattle.rnix_proof_lemmas.specs.Machine.{min_bp_of}
use Rattle.rnix_grammar.specs.Tables.{depth_limit, stops}
use Rattle.rnix_reader.specs.declared.mark.Mark.{Mark}
use Rattle.rnix_reader.specs.declared.pattern_names.Names.{Names}
use Rattle.rnix_reader.specs.PatternNames.{entries_in, PatternOpened, PatternClosed, EntryNamed, EntryClosed}
use Rattle.rnix_reader.specs.State.{State, items_remaining, IsNextItem, bumped, ended, failed}
use Rattle.rnix_reader.specs.FrameSteps.{moved_to, node_started, node_begun, leaf_node_made, entry_begun, second_begun, node_wrapped, application_begun, or_applied, parameter_read, operand_begun, node_operand_begun, legacy_let_begun, lambda_begun, bound_lambda_begun, pattern_lambda_begun, begins_with}
use Rattle.rnix_reader.specs.Reported.{unwanted_reported, extra_reported, stray_reported, limit_reported, end_reported, second_reported}

-- an operand of a level begins with this token, inside so many counted positions
abbrev pub begun_as : OperandStart → ℕ → ℕ → Token → State → State
begun_as (b.Leaf k) level d t s = leaf_node_made k (operand_begun (p.AfterOperand level selection_level) d s)
begun_as (b.Node k index max_bp) level d t s = node_operand_begun k (p.InRow index) (p.AfterOperand level max_bp) d s
begun_as b.LegacyLet level d t s = legacy_let_begun (p.AfterOperand level no_level) d s
begun_as b.NameLambda level d t s = parameter_read (lambda_begun (p.AfterOperand level selection_level) d s)
begun_as b.BoundLambda level d t s = bound_lambda_begun (p.AfterOperand level selection_level) d s
begun_as b.PatternLambda level d t s = pattern_lambda_begun (p.AfterOperand level selection_level) d s
begun_as b.Stray level d t s = stray_reported t (operand_begun (p.AfterOperand level selection_level) d s)

-- an operand of a level is read, by the next item and those after it
abbrev pub operand_with : ℕ → ℕ → Option Token → List Token → State → State
operand_with level d None us s = failed ended_fault s
operand_with level d (Some t) us s = begun_as (begins_with level t us) level d t s

-- the same for the items that are left
abbrev pub operand_read : ℕ → ℕ → State → State
operand_read level d s = operand_with level d (head_of (items_remaining s)) (tail_of (items_remaining s)) s

-- an operand of a level, which the nesting limit counts or not
abbrev pub expression_read : ℕ → Bool → ℕ → State → State
expression_read level true d s = if nat_le depth_limit d then limit_reported s else operand_read level (d + 1) s
expression_read level false d s = operand_read level d s

-- a node's row continues after a position, and an operand of the row is read
abbrev pub part_read : ℕ → Bool → ℕ → Mark → State → State
part_read level counted after m s = expression_read level counted m.depth (moved_to (p.InRow after) m s)

-- an operand is applied to the next one, its argument, which is read
abbrev pub argument_read : ℕ → Mark → State → State
argument_read min_bp m s = expression_read selection_level false m.depth (application_begun min_bp m s)

-- what an action makes of what the reader holds, whose innermost mark is taken; the number is where the second name of a pattern begins
abbrev pub performed : Action → Mark → ℕ → State → State
performed a.Close m second s = ended s
performed a.ClosePattern m second s = ended s
performed a.CloseEntry m second s = ended s
performed a.CloseDoubleBind m second s = second_reported second s
performed a.Finish m second s = s
performed a.EndOperand m second s = s
performed a.Extra m second s = extra_reported (moved_to m.position m s)
performed (a.Take after) m second s = bumped NODE_ROOT (moved_to (p.InRow after) m s)
performed (a.Miss after) m second s = failed ended_fault (moved_to (p.InRow after) m s)
performed (a.MissWanted until after) m second s = end_reported until (moved_to (p.InRow after) m s)
performed (a.Run until after) m second s = unwanted_reported until (moved_to (p.InRow after) m s)
performed (a.Leaf k after) m second s = leaf_node_made k (moved_to (p.InRow after) m s)
performed (a.Open k inside after) m second s = node_begun k (p.InRow inside) m.depth (moved_to (p.InRow after) m s)
performed (a.OpenEmpty k inside after) m second s = node_started k (p.InRow inside) m.depth (moved_to (p.InRow after) m s)
performed (a.Entry after) m second s = entry_begun (p.InRow after) m s
performed (a.DoubleBind after) m second s = second_begun (p.InRow after) m s
performed (a.Read level counted after) m second s = part_read level counted after m s
performed (a.Wrap k inside max_bp) m second s = bumped k (node_wrapped k inside (p.AfterOperand (min_bp_of m.position) max_bp) m s)
performed a.Apply m second s = argument_read (min_bp_of m.position) m s
performed a.ApplyOr m second s = or_applied (p.AfterOperand (min_bp_of m.position) application_level) m s

-- an error is reported, if there is one
abbrev pub reported_if : Option Fault → State → State
reported_if None s = s
reported_if (Some e) s = failed e s

-- the entry's name is kept, and its node is closed
pub record EntryReported (s : State) (n : Names) (s' : State) (n' : Names) : Type 0 where
  pub again : Option Fault
  pub closed : EntryClosed again n n'
  pub state : s' ≡ reported_if again (ended s)

-- what an action does, with the names that are kept
abbrev pub Performed : Action → Mark → State → Names → State → Names → Type 0
Performed a.CloseEntry m s n s' n' = EntryReported s n s' n'
Performed action m s n s' n' = s' ≡ performed action m n.second s

-- the action at a position
abbrev pub action_of : Position → State → Action
action_of position s = action_at position (head_kind (items_remaining s)) (touches s.prev_end (items_remaining s))

-- the action continues an operand
abbrev pub is_continuation : Action → Bool
is_continuation (a.Wrap k inside max_bp) = true
is_continuation a.Apply = true
is_continuation a.ApplyOr = true
is_continuation action = false

-- the action is done at a position of a row, and does not end the reading
abbrev pub is_row_action : Action → Bool
is_row_action a.Finish = false
is_row_action a.EndOperand = false
is_row_action (a.Wrap k inside max_bp) = false
is_row_action a.Apply = false
is_row_action a.ApplyOr = false
is_row_action action = true

-- a node may be opened where the mark begins
abbrev pub IsCheckpoint : Mark → State → Type 0
IsCheckpoint m s = IsTrue (is_checkpoint_of record { finished = s.trees; open_nodes = s.open_nodes } m.at)

-- what an action needs of what the reader holds
abbrev pub IsReady : Action → Mark → State → Names → Type 0
IsReady a.Close m s n = 0 < length s.open_nodes
IsReady a.ClosePattern m s n = 0 < length s.open_nodes
IsReady a.CloseEntry m s n = 0 < length s.open_nodes
IsReady a.CloseDoubleBind m s n = (0 < length s.open_nodes) × (n.second ≤ s.prev_end)
IsReady a.Finish m s n = 0 < length s.open_nodes
IsReady a.Extra m s n = is_there (head_kind (items_remaining (moved_to m.position m s))) ≡ true
IsReady (a.Run until after) m s n = stops until (head_kind (items_remaining (moved_to (p.InRow after) m s))) ≡ false
IsReady (a.Wrap k inside max_bp) m s n = IsCheckpoint m s
IsReady a.Apply m s n = IsCheckpoint m s
IsReady a.ApplyOr m s n = IsCheckpoint m s
IsReady action m s n = Unit {0}

-- an operand that begins with a pattern opens a set of names
abbrev pub opens_pattern : OperandStart → Bool
opens_pattern b.BoundLambda = true
opens_pattern b.PatternLambda = true
opens_pattern how = false

-- the next items begin with a pattern
abbrev pub opens_on : ℕ → List Token → Bool
opens_on level [] = false
opens_on level (t ∷ us) = opens_pattern (begins_with level t us)

-- an operand that begins with a pattern comes next, and the nesting limit allows it
abbrev pub opens_in : ℕ → Bool → ℕ → State → Bool
opens_in depth counted level s = if counted && nat_le depth_limit depth then false else opens_on level (items_remaining s)

-- a set of names is opened, or the names stay
abbrev pub NamesFor : Bool → Names → Names → Type 0
NamesFor true n n' = PatternOpened n n'
NamesFor false n n' = n' ≡ n

-- what the operand of a row makes of the names
abbrev pub PartNames : ℕ → Bool → ℕ → Mark → State → Names → Names → Type 0
PartNames level counted after m s n n' = NamesFor (opens_in m.depth counted level (moved_to (p.InRow after) m s)) n n'

-- what an argument makes of the names
abbrev pub ArgumentNames : ℕ → Mark → State → Names → Names → Type 0
ArgumentNames min_bp m s n n' = NamesFor (opens_in m.depth false selection_level (application_begun min_bp m s)) n n'

-- a second name is open
pub record DoubleBindOpened (start : ℕ) (n n' : Names) : Type 0 where
  pub sets : n'.sets.items ≡ n.sets.items
  pub entries : entries_in n' ≡ entries_in n
  pub second : n'.second ≡ start

-- what an action makes of the names, by the state before it
abbrev pub NamesAfter : Action → Mark → State → Names → Names → Type 0
NamesAfter a.ClosePattern m s n n' = PatternClosed n n'
NamesAfter a.CloseEntry m s n n' = (again : Option Fault) × EntryClosed again n n'
NamesAfter (a.Entry after) m s n n' = (t : Token) → IsNextItem t s → EntryNamed t n n'
NamesAfter (a.DoubleBind after) m s n n' = (t : Token) → IsNextItem t s → DoubleBindOpened t.start n n'
NamesAfter (a.Read level counted after) m s n n' = PartNames level counted after m s n n'
NamesAfter a.Apply m s n n' = ArgumentNames (min_bp_of m.position) m s n n'
NamesAfter action m s n n' = n' ≡ n
