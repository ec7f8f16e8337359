-- What holds of the open frames while the items of a text are read.
use Rattle.std.proofs.{Common.{◌≡◌, ℕ, ◌≤◌, Bool, true, false, List, [], ◌∷◌, refl, sym, subst, if◌then◌else◌, ◌&&◌, nat_le}, lemmas.Bool.and_parts}
use Rattle.{rnix_kinds.specs.declared.kinds.SyntaxKind.{SyntaxKind, TheVariants.NODE_BIN_OP}, rnix_green.specs.Equality.same_kind}
use Rattle.rnix_grammar.specs.{declared.position.Position.Position, Tables.depth_limit, Rules.Row, Fault.Fault, Reports.{report, repeats}}
use Rattle.{rnix_grammar.specs.AnnotatedForest.{DoubleBind, AnnotatedForest, blank, ◌⊕◌, one_branch, tokens_in}, rnix_proof_lemmas.specs.SlotRows.remaining_at}
use Rattle.rnix_proof_lemmas.specs.{SlotRows.kind_at, Machine.{Head, Node, SecondBind, Operand, Frame, put, opened, made, kind_of}}
use Rattle.rnix_proof_lemmas.proofs.{Basics.true_is_not_false, AnnotatedForestLemmas.{⊕-assoc, ⊕-blank}, KindsOfNodes.is_error, FirstTrees.{IsSingle, a_node}}
use Rattle.rnix_proof_lemmas.proofs.{OpenHeads.is_open, ActionTable.{is_waiting, is_in_row}, RowParts.is_remaining, RestAt.rest_at}
use Rattle.rnix_proof_existence.proofs.Growing.{MayGrow}
use Rattle.rnix_grammar.specs.declared.position.Position.TheVariants as p

-- a node of the kind may be open at the position; the level of a right operand is at most 16
abbrev pub is_in_row_of : Position → SyntaxKind → Bool
is_in_row_of (p.InRow i) k = is_waiting (remaining_at i) && same_kind (kind_at i) k
is_in_row_of (p.AfterOperand min_bp max_bp) k = false
is_in_row_of (p.Right level) k = nat_le level 16 && same_kind NODE_BIN_OP k

-- such a position is one in a row
pub in_row : (x : Position) (k : SyntaxKind) → is_in_row_of x k ≡ true → is_in_row x ≡ true
in_row (p.InRow i) k h = (and_parts (is_waiting (remaining_at i)) (same_kind (kind_at i) k) h).0
in_row (p.AfterOperand min_bp max_bp) k h = absurd (true_is_not_false (sym h))
in_row (p.Right level) k h = refl

waiting_remaining : (r : Row) → is_waiting r ≡ true → is_remaining r ≡ true
waiting_remaining Row.never h = refl
waiting_remaining _ h = h

row_remaining : (x : Position) → is_in_row x ≡ true → is_remaining (rest_at x) ≡ true
row_remaining (p.InRow i) h = waiting_remaining (remaining_at i) h
row_remaining (p.AfterOperand min_bp max_bp) h = refl
row_remaining (p.Right level) h = refl

-- an open node whose leaves keep their tokens' kinds, or a second name
abbrev pub is_sound : Head → Bool
is_sound (Node k) = if is_error k then false else true
is_sound SecondBind = true
is_sound Operand = false

-- an open node or second name, at a position of its row and within the nesting limit
pub record IsOpen (f : Frame) : Type 0 where
  pub sound : is_sound f.head ≡ true
  pub in_row_of : is_in_row_of f.position (kind_of f.head) ≡ true
  pub shallow : f.depth ≤ depth_limit

-- such a frame is a node or a second name
pub sound_open : (h : Head) → is_sound h ≡ true → is_open h ≡ true
sound_open Operand e = e
sound_open _ e = refl

-- the rest of its row does not begin with a child that its node always has
pub left_of : (f : Frame) → IsOpen f → is_remaining (rest_at f.position) ≡ true
left_of f o = row_remaining f.position (in_row f.position (kind_of f.head) o.in_row_of)

-- what is directly above some frames: an open node with its children so far, or an operand or a second name
pub data Above : Type 0 where
  One : SyntaxKind → AnnotatedForest → Above
  Other : Above

abbrev pub above : Head → AnnotatedForest → Above
above (Node k) trees = One k trees
above h trees = Other

-- The frames below are open nodes, and operands whose first tree will be the open node above them, whatever it comes to contain.
pub data Below : Above → List Frame → Type 0 where
  no_frame : {k : SyntaxKind} {trees : AnnotatedForest} → Below (One k trees) []
  a_row : {w : Above} {f : Frame} {fs : List Frame} → IsOpen f → Below (above f.head f.children) fs → Below w (f ∷ fs)
  an_operand : {k : SyntaxKind} {trees : AnnotatedForest} {fs : List Frame} (min_bp max_bp d : ℕ) → d ≤ depth_limit
      → ((rest : AnnotatedForest) → MayGrow min_bp max_bp (one_branch k (trees ⊕ rest))) → Below Other fs
      → Below (One k trees) (opened Operand (p.AfterOperand min_bp max_bp) d blank ∷ fs)

-- the innermost frame is a node or a second name
pub record AtOpen (f : Frame) (fs : List Frame) : Type 0 where
  pub is : IsOpen f
  pub below : Below (above f.head f.children) fs

-- the innermost frame is an operand that operators between two levels may continue, inside d counted positions
pub record AtOperand (min_bp max_bp d : ℕ) (x : AnnotatedForest) (fs : List Frame) : Type 0 where
  pub single : IsSingle x
  pub grows : MayGrow min_bp max_bp x
  pub shallow : d ≤ depth_limit
  pub below : Below Other fs

-- while a text is read, the innermost frame is a node, a second name or an operand
pub data Reading : List Frame → Type 0 where
  node : {f : Frame} {fs : List Frame} → AtOpen f fs → Reading (f ∷ fs)
  operand : {min_bp max_bp d : ℕ} {x : AnnotatedForest} {fs : List Frame} → AtOperand min_bp max_bp d x fs
      → Reading (opened Operand (p.AfterOperand min_bp max_bp) d x ∷ fs)

-- what is below an open frame stays valid when the frame gets more children
below_more : (h : Head) (trees x : AnnotatedForest) {fs : List Frame} → Below (above h trees) fs → Below (above h (trees ⊕ x)) fs
below_more (Node k) trees x no_frame = no_frame
below_more (Node k) trees x (a_row i b) = a_row i b
below_more (Node k) trees x (an_operand min_bp max_bp d l grows b) =
    an_operand min_bp max_bp d l (λ rest. subst (λ (z : AnnotatedForest). MayGrow min_bp max_bp (one_branch k z)) (sym (⊕-assoc trees x rest))
    (grows (x ⊕ rest))) b
below_more SecondBind trees x b = b
below_more Operand trees x b = b

-- an open frame stays valid when it moves to another position of its row, with other children
went : (f : Frame) (fs : List Frame) (y : Position) (trees : AnnotatedForest) → AtOpen f fs → is_in_row_of y (kind_of f.head) ≡ true
    → Below (above f.head trees) fs → AtOpen (put y trees f) fs
went f fs y trees r h b = record { is = record { sound = r.is.sound; in_row_of = h; shallow = r.is.shallow }; below = b }

-- an open frame stays valid when it moves and gets more children
pub grown : (f : Frame) (fs : List Frame) (y : Position) (x : AnnotatedForest) → AtOpen f fs → is_in_row_of y (kind_of f.head) ≡ true
    → AtOpen (put y (f.children ⊕ x) f) fs
grown f fs y x r h = went f fs y (f.children ⊕ x) r h (below_more f.head f.children x r.below)

-- an open frame stays valid when it moves and keeps its children
pub stayed : (f : Frame) (fs : List Frame) (y : Position) → AtOpen f fs → is_in_row_of y (kind_of f.head) ≡ true → AtOpen (put y f.children f) fs
stayed f fs y r h = went f fs y f.children r h r.below

-- an open frame may be below any frame that opens above it
pub waits : {w : Above} (f : Frame) (fs : List Frame) → AtOpen f fs → Below w (f ∷ fs)
waits f fs r = a_row r.is r.below

-- a node opens above some frames
pub opens_on : (k : SyntaxKind) (z : Position) (d : ℕ) (x : AnnotatedForest) (fs : List Frame) → is_sound (Node k) ≡ true → is_in_row_of z k ≡ true
    → d ≤ depth_limit
    → Below (One k x) fs
    → AtOpen (opened (Node k) z d x) fs
opens_on k z d x fs s h l b = record { is = record { sound = s; in_row_of = h; shallow = l }; below = b }

-- below an operand or a second name there is a frame
pub alone : Below Other [] → ⊥
alone b = elim b [ ]

-- when a frame is complete, its tree becomes a child of the frame below
pub landed : (h : Head) (trees : AnnotatedForest) (g : Frame) (fs : List Frame) → Below (above h trees) (g ∷ fs)
    → Reading (put g.position (g.children ⊕ made h trees) g ∷ fs)
landed (Node k) trees _ fs (an_operand min_bp max_bp d l grows b) = operand (record {
  single = a_node;
  grows = subst (λ (z : AnnotatedForest). MayGrow min_bp max_bp (one_branch k z)) (⊕-blank trees) (grows blank);
  shallow = l;
  below = b;
})
landed (Node k) trees g fs (a_row i b) = node (grown g fs g.position (one_branch k trees) (record { is = i; below = b }) i.in_row_of)
landed SecondBind trees g fs (a_row i b) = node (grown g fs g.position (made SecondBind trees) (record { is = i; below = b }) i.in_row_of)
landed Operand trees g fs (a_row i b) = node (grown g fs g.position trees (record { is = i; below = b }) i.in_row_of)

-- the errors that a frame reports when it is complete, given the trees before it
abbrev pub closing : Head → AnnotatedForest → AnnotatedForest → List Fault
closing (Node k) before trees = repeats k before trees
closing SecondBind before trees = report DoubleBind (tokens_in trees) ∷ []
closing Operand before trees = []
