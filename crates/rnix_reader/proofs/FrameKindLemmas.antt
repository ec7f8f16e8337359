-- Heads by the frame kinds of their positions.
use Rattle.{std.proofs.Common.{◌≡◌, ℕ, Bool, true, false, List, [], ◌∷◌, refl, ap, sym, ◌∙◌}, rnix_kinds.specs.declared.kinds.SyntaxKind.SyntaxKind}
use Rattle.rnix_kinds.specs.declared.kinds.SyntaxKind.TheVariants.{NODE_ROOT, NODE_IDENT, NODE_CUR_POS, NODE_PATTERN, NODE_PAT_ENTRY}
use Rattle.rnix_grammar.specs.{declared.position.Position.Position, AnnotatedForest.{Token, one_token, leaf_kind_as}}
use Rattle.rnix_proof_lemmas.specs.Machine.{Head, Node, SecondBind, Operand, Frame}
use Rattle.rnix_proof_lemmas.specs.FrameKinds.{FrameKind, Pattern, Entry, SecondBindFrame, OperandFrame, Name, frame_kind, frame_kind_in, frame_kind_of_head, frame_kind_of_node}
use Rattle.rnix_proof_lemmas.specs.Machine.{kind_of, leaf_in}
use Rattle.rnix_proof_lemmas.proofs.{Basics.true_is_not_false, EachIndex.each_index}
use Rattle.rnix_proof_lemmas.specs.FrameKinds.{may_hold, IsStackedOn}
use Rattle.rnix_grammar.specs.declared.position.Position.TheVariants as p

-- the frame kind is that of a pattern
abbrev pub is_pattern : FrameKind → Bool
is_pattern Pattern = true
is_pattern s = false

-- the frame kind is that of an operand
abbrev pub is_operand_frame : FrameKind → Bool
is_operand_frame OperandFrame = true
is_operand_frame s = false

abbrev is_second_bind_frame : FrameKind → Bool
is_second_bind_frame SecondBindFrame = true
is_second_bind_frame s = false

-- the frame kind is that of a name
abbrev pub is_name : FrameKind → Bool
is_name Name = true
is_name s = false

-- a node is no operand
pub node_not_operand : (k : SyntaxKind) → is_operand_frame (frame_kind_of_node k) ≡ false
node_not_operand NODE_ROOT = refl
node_not_operand k = refl

node_not_second_bind : (k : SyntaxKind) → is_second_bind_frame (frame_kind_of_node k) ≡ false
node_not_second_bind NODE_ROOT = refl
node_not_second_bind k = refl

-- at a position after an operand, an operand is open
pub head_operand : (h : Head) → frame_kind_of_head h ≡ OperandFrame → h ≡ Operand
head_operand (Node k) e = absurd (true_is_not_false (sym (ap is_operand_frame e) ∙ node_not_operand k))
head_operand SecondBind e = cc
head_operand Operand e = refl

-- at a position of a second name a second name is open
pub head_second_bind : (h : Head) → frame_kind_of_head h ≡ SecondBindFrame → h ≡ SecondBind
head_second_bind (Node k) e = absurd (true_is_not_false (sym (ap is_second_bind_frame e) ∙ node_not_second_bind k))
head_second_bind SecondBind e = refl
head_second_bind Operand e = cc

-- at a position of an entry an entry is open
pub head_entry : (h : Head) → frame_kind_of_head h ≡ Entry → h ≡ Node NODE_PAT_ENTRY
head_entry (Node NODE_PAT_ENTRY) e = refl
head_entry _ e = cc

-- at a position of a pattern a pattern is open
pub head_pattern : (h : Head) → frame_kind_of_head h ≡ Pattern → h ≡ Node NODE_PATTERN
head_pattern (Node NODE_PATTERN) e = refl
head_pattern _ e = cc

-- an entry is in a pattern
pub holds_entry : (s : FrameKind) → may_hold s Entry ≡ true → s ≡ Pattern
holds_entry Pattern e = refl
holds_entry _ e = cc

-- a head has the frame kind of its position
pub head_sort : (head : Head) (position : Position) (fs : List Frame) → IsStackedOn head position fs → frame_kind_of_head head ≡ frame_kind position
head_sort head position [] w = w.0
head_sort head position (f ∷ fs) w = w.0

-- no position is in the row of a name
pub range_named : (position : Position) → is_name (frame_kind position) ≡ false
range_named (p.InRow i) = each_index (λ i. is_name (frame_kind (p.InRow i)) ≡ false) (assumption) (λ i e d. ap (λ ss. is_name (frame_kind_in ss)) d) i
range_named (p.AfterOperand min_bp max_bp) = refl
range_named (p.Right level) = refl

-- at a position in a row, no operand is open
pub row_not_operand : (remaining : ℕ) → is_operand_frame (frame_kind (p.InRow remaining)) ≡ false
row_not_operand remaining =
    each_index (λ i. is_operand_frame (frame_kind (p.InRow i)) ≡ false) (assumption) (λ i e d. ap (λ ss. is_operand_frame (frame_kind_in ss)) d) remaining

leaf_kept : (k j : SyntaxKind) → is_name (frame_kind_of_node k) ≡ false → leaf_kind_as k j ≡ j
leaf_kept NODE_IDENT j e = cc
leaf_kept NODE_CUR_POS j e = cc
leaf_kept k j e = refl

-- below other nodes a leaf has its token's kind
pub own_leaf : (h : Head) (ts : List Token) → is_name (frame_kind_of_head h) ≡ false → leaf_in NODE_ROOT ts ≡ leaf_in (kind_of h) ts
own_leaf h [] e = refl
own_leaf (Node k) (t ∷ ts) e = ap (λ x. one_token x t) (sym (leaf_kept k t.kind e))
own_leaf h (t ∷ ts) e = refl
