-- Which positions follow which, and what each action needs.
use Rattle.std.specs.Prelude.{◌≡◌, ◌<◌, ◌+◌, ℕ, Bool, true, false, Option, Some, None}
use Rattle.rnix_kinds.specs.declared.kinds.SyntaxKind.{SyntaxKind}
use Rattle.rnix_kinds.specs.declared.kinds.SyntaxKind.TheVariants.{TOKEN_IDENT, NODE_IDENT}
use Rattle.rnix_grammar.specs.declared.position.Position.{Position}
use Rattle.rnix_grammar.specs.declared.position.Position.TheVariants as p
use Rattle.rnix_grammar.specs.declared.slot_table.TheConstants.{ROOT}
use Rattle.rnix_grammar.specs.declared.action.Action.{Action}
use Rattle.rnix_grammar.specs.declared.action.Action.TheVariants as a
use Rattle.rnix_grammar.specs.Tables.{stops}
use Rattle.rnix_proof_lemmas.specs.FrameKinds.{Root, Pattern, Entry, SecondBindFrame, OperandFrame, NodeFrame, frame_kind, frame_kind_of_node, may_hold, is_open}
use Rattle.rnix_proof_lemmas.specs.Measures.{measure, full_start_measure, start_measure}

-- there is a next item
abbrev pub is_there : Option SyntaxKind → Bool
is_there None = false
is_there (Some kind) = true

-- a row continues at a position of the same frame kind; if the text has ended, at one nearer to the end of the row
abbrev pub IsNext : Position → Option SyntaxKind → ℕ → Type 0
IsNext position None after = (frame_kind (p.InRow after) ≡ frame_kind position) × (measure (p.InRow after) < measure position)
IsNext position (Some kind) after = frame_kind (p.InRow after) ≡ frame_kind position

-- what an action needs: the frame kind of its position, an item or none, and where it leads
abbrev pub Allowed : Position → Option SyntaxKind → Action → Type 0
Allowed position next a.Close = (frame_kind position ≡ NodeFrame) × (start_measure position ≡ full_start_measure)
Allowed position next a.CloseEntry = frame_kind position ≡ Entry
Allowed position next a.ClosePattern = frame_kind position ≡ Pattern
Allowed position next a.CloseDoubleBind = frame_kind position ≡ SecondBindFrame
Allowed position next a.Finish = (position ≡ p.InRow (ROOT + 1)) × (next ≡ None)
Allowed position next a.EndOperand = frame_kind position ≡ OperandFrame
Allowed position next a.Extra = (is_there next ≡ true) × (frame_kind position ≡ Root)
Allowed position next (a.Take after) = (is_there next ≡ true) × (IsNext position next after) × (is_open (frame_kind position) ≡ true)
Allowed position next (a.Miss after) = (next ≡ None) × (IsNext position next after)
Allowed position next (a.MissWanted until after) = (next ≡ None) × (IsNext position next after)
Allowed position next (a.Run until after) = (stops until next ≡ false) × (IsNext position next after)
Allowed position next (a.Leaf k after) = (is_there next ≡ true) × (IsNext position next after) × (k ≡ NODE_IDENT)
Allowed position next (a.Open k inside after) =
    (is_there next ≡ true) × (IsNext position next after) × (frame_kind_of_node k ≡ NodeFrame) × (frame_kind (p.InRow inside) ≡ NodeFrame)
    × (is_open (frame_kind position) ≡ true)
Allowed position next (a.OpenEmpty k inside after) =
    (frame_kind (p.InRow after) ≡ frame_kind position) × (frame_kind_of_node k ≡ NodeFrame) × (frame_kind (p.InRow inside) ≡ NodeFrame)
    × (is_open (frame_kind position) ≡ true)
    × (start_measure (p.InRow inside) ≡ 0) × (measure (p.InRow inside) + measure (p.InRow after) < measure position + start_measure position)
    × ((next ≡ None) → measure (p.InRow inside) + measure (p.InRow after) < measure position)
Allowed position next (a.Entry after) = (next ≡ Some TOKEN_IDENT) × (IsNext position next after) × (frame_kind position ≡ Pattern)
Allowed position next (a.DoubleBind after) = (is_there next ≡ true) × (IsNext position next after) × (frame_kind position ≡ Pattern)
Allowed position next (a.Read level counted after) = (IsNext position next after) × (may_hold (frame_kind position) OperandFrame ≡ true)
Allowed position next (a.Wrap k inside max_bp) =
    (is_there next ≡ true) × (frame_kind position ≡ OperandFrame) × (frame_kind_of_node k ≡ NodeFrame) × (frame_kind inside ≡ NodeFrame)
Allowed position next a.Apply = (is_there next ≡ true) × (frame_kind position ≡ OperandFrame)
Allowed position next a.ApplyOr = (is_there next ≡ true) × (frame_kind position ≡ OperandFrame)
