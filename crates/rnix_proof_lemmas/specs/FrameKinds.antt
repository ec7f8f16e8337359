-- Frame kinds: at which positions a frame may be, and inside which others.
use Rattle.std.specs.Prelude.{◌≡◌, Bool, true, false, List, [], ◌∷◌, drop}
use Rattle.rnix_kinds.specs.declared.kinds.SyntaxKind.{SyntaxKind}
use Rattle.rnix_kinds.specs.declared.kinds.SyntaxKind.TheVariants.{NODE_ROOT, NODE_PATTERN, NODE_PAT_ENTRY, NODE_IDENT, NODE_CUR_POS, NODE_ERROR}
use Rattle.rnix_grammar.specs.declared.position.Position.{Position}
use Rattle.rnix_grammar.specs.declared.position.Position.TheVariants as p
use Rattle.rnix_grammar.specs.declared.slot_table.Slot.{Slot}
use Rattle.rnix_grammar.specs.declared.slot_table.Slot.TheVariants.{End}
use Rattle.rnix_grammar.specs.declared.slot_table.TheConstants.{SLOTS}
use Rattle.rnix_proof_lemmas.specs.SlotRows.{kind_in}
use Rattle.rnix_proof_lemmas.specs.Machine.{Head, Node, SecondBind, Operand, Frame}

-- the root, a pattern, its entry, its second name, an operand, a name alone, another node
pub data FrameKind : Type 0 where
  Root : FrameKind
  Pattern : FrameKind
  Entry : FrameKind
  SecondBindFrame : FrameKind
  OperandFrame : FrameKind
  Name : FrameKind
  NodeFrame : FrameKind

-- the frame kind of a node's positions, by its kind
abbrev pub frame_kind_of_node : SyntaxKind → FrameKind
frame_kind_of_node NODE_ROOT = Root
frame_kind_of_node NODE_PATTERN = Pattern
frame_kind_of_node NODE_PAT_ENTRY = Entry
frame_kind_of_node NODE_IDENT = Name
frame_kind_of_node NODE_CUR_POS = Name
frame_kind_of_node k = NodeFrame

-- the frame kind of the positions of what is open
abbrev pub frame_kind_of_head : Head → FrameKind
frame_kind_of_head (Node k) = frame_kind_of_node k
frame_kind_of_head SecondBind = SecondBindFrame
frame_kind_of_head Operand = OperandFrame

-- what may be inside what: nothing inside a second name, no operand in a pattern itself, an entry only inside a pattern, the root inside nothing
abbrev pub may_hold : FrameKind → FrameKind → Bool
may_hold SecondBindFrame s = false
may_hold s Root = false
may_hold Pattern OperandFrame = false
may_hold Pattern s = true
may_hold t Entry = false
may_hold t s = true

-- the frame kind of the positions of a row, by the kind of its node; the kind of an error node is that of a second name
abbrev pub frame_kind_of_row : SyntaxKind → FrameKind
frame_kind_of_row NODE_ROOT = Root
frame_kind_of_row NODE_PATTERN = Pattern
frame_kind_of_row NODE_PAT_ENTRY = Entry
frame_kind_of_row NODE_ERROR = SecondBindFrame
frame_kind_of_row kind = NodeFrame

-- the frame kind of the positions of a row, by the slots from its index on; nothing is open after the end of the text
abbrev pub frame_kind_in : List Slot → FrameKind
frame_kind_in [] = NodeFrame
frame_kind_in (End NODE_ROOT ∷ ss) = NodeFrame
frame_kind_in (s ∷ ss) = frame_kind_of_row (kind_in (s ∷ ss))

-- the frame kind of a position
abbrev pub frame_kind : Position → FrameKind
frame_kind (p.InRow index) = frame_kind_in (drop index SLOTS)
frame_kind (p.AfterOperand min_bp max_bp) = OperandFrame
frame_kind (p.Right level) = NodeFrame

-- a position that is not in a second name
abbrev pub is_open : FrameKind → Bool
is_open SecondBindFrame = false
is_open sort = true

-- a frame is at a position of its kind and may be inside the frame below, and so are the frames below; the lowest is the root
abbrev pub IsStackedOn : Head → Position → List Frame → Type 0
IsStackedOn head position [] = (frame_kind_of_head head ≡ frame_kind position) × (frame_kind position ≡ Root)
IsStackedOn head position (f ∷ fs) = (frame_kind_of_head head ≡ frame_kind position) × (may_hold (frame_kind f.position) (frame_kind position) ≡ true)
    × IsStackedOn f.head f.position fs

-- there are frames, and this holds for all of them
abbrev pub AreStacked : List Frame → Type 0
AreStacked [] = ⊥
AreStacked (f ∷ fs) = IsStackedOn f.head f.position fs
