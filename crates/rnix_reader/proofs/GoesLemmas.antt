-- Each step of the machine keeps its tokens in order and the sets of names right.
use Rattle.rnix_grammar.specs.declared.slot_table.TheConstants.{BOUND_PATTERN, LAMBDA, LEGACY_LET, PATTERN}
use Rattle.std.proofs.Common.{◌≡◌, ℕ, suc, Bool, true, false, List, [], ◌∷◌, Option, refl, ap, sym, ◌∙◌, subst, if◌then◌else◌, ◌&&◌, nat_le}
use Rattle.rnix_kinds.specs.declared.kinds.SyntaxKind.{SyntaxKind, TheVariants.{NODE_ERROR, NODE_IDENT, NODE_LAMBDA, NODE_PATTERN, NODE_PAT_BIND}}
use Rattle.{rnix_kinds.specs.declared.kinds.SyntaxKind.TheVariants.{NODE_IDENT_PARAM, NODE_LEGACY_LET}, rnix_grammar.specs.declared.{operand_start.OperandStart.OperandStart}}
use Rattle.rnix_grammar.specs.{Fault.{Fault}, Tables.depth_limit, OperandStarts.{operand_start_of, second_kind}, AnnotatedForest.{Token, Stray, TooDeep}}
use Rattle.rnix_grammar.specs.{AnnotatedForest.{AnnotatedForest, blank, ◌⊕◌, one_branch, one_fault, head_kind, end_from}, Layout.{items}}
use Rattle.rnix_proof_lemmas.specs.Machine.{Head, Node, SecondBind, Operand, Frame, Machine, put, opened, with_leading, leaf, after_item, item_end, run_leaves, run_rest, machine}
use Rattle.rnix_proof_lemmas.specs.FrameKinds.{FrameKind, SecondBindFrame, frame_kind, frame_kind_of_head, may_hold, is_open, IsStackedOn}
use Rattle.rnix_proof_lemmas.specs.Machine.{limited, begun, operand_on, reading}
use Rattle.{rnix_proof_lemmas.proofs.{Basics.true_is_not_false, StackedFrames.{BeginsInner, operand_start_inner}}, rnix_reader.specs.declared.pattern_names.Names.Names}
use Rattle.rnix_reader.{specs.{Placed.AreInOrder, Holds.{HasRange, AreNamed}, Performed.{NamesFor, opens_pattern, opens_on}}, proofs.FrameKindLemmas.head_sort}
use Rattle.rnix_reader.proofs.{OrderLemmas.{order_from, order_behind, order_all}, RowLemmas.{no_entry_leaf, no_entry_fault}, OpenNames.{grow_trivia, grow_behind, push_node, push_operand, push_pattern}}
use Rattle.rnix_grammar.specs.declared.position.Position.TheVariants as p
use Rattle.rnix_grammar.specs.declared.operand_start.OperandStart.TheVariants as b

-- a machine whose tokens are in order, and whose names are in the sets
pub record Goes (m : Machine) (names : Names) : Type 0 where
  pub top : Frame
  pub under : List Frame
  pub frames : m.frames ≡ top ∷ under
  pub named : AreNamed top under names
  pub range : HasRange names.second m.prev_end top.head top.children
  pub order : AreInOrder m.prev_end m.remaining

-- these are the conditions for a machine with frames
pub goes : {f : Frame} {fs : List Frame} {ts : List Token} {n : ℕ} {es : List Fault} {names : Names} → AreNamed f fs names
    → HasRange names.second n f.head f.children
    → AreInOrder n ts → Goes (machine (f ∷ fs) ts n es) names
goes {f = f} {fs = fs} w r o = record { top = f; under = fs; frames = refl; named = w; range = r; order = o }

-- only a second name has a range to keep
open_range : (m n : ℕ) (h : Head) (trees : AnnotatedForest) → is_open (frame_kind_of_head h) ≡ true → HasRange m n h trees
open_range m n (Node k) trees e = tt
open_range m n SecondBind trees e = absurd (true_is_not_false (sym e))
open_range m n Operand trees e = tt

-- so they suffice if the innermost frame is no second name
pub goes_open : {f : Frame} {fs : List Frame} {ts : List Token} {n : ℕ} {es : List Fault} {names : Names} → is_open (frame_kind_of_head f.head) ≡ true
    → AreNamed f fs names
    → AreInOrder n ts → Goes (machine (f ∷ fs) ts n es) names
goes_open {f = f} {n = n} {names = names} e w o = goes w (open_range names.second n f.head f.children e) o

-- a frame that holds others is no second name
pub holds_open : (s t : FrameKind) → may_hold s t ≡ true → is_open s ≡ true
holds_open SecondBindFrame t e = absurd (true_is_not_false (sym e))
holds_open s t e = refl

pub holder_open : (f : Frame) (fs : List Frame) (s : FrameKind) → IsStackedOn f.head f.position fs → may_hold (frame_kind f.position) s ≡ true
    → is_open (frame_kind_of_head f.head) ≡ true
holder_open f fs s st m = ap is_open (head_sort f.head f.position fs st) ∙ holds_open (frame_kind f.position) s m

-- equal names are as good
pub stays : {m : Machine} {names names' : Names} → names' ≡ names → Goes m names → Goes m names'
stays {m = m} e w = subst (Goes m) (sym e) w

-- an operand begins above a frame that waits for it
module _ (level d : ℕ) (f : Frame) (fs : List Frame) (ts : List Token) (n : ℕ) (es : List Fault) (names : Names) (w : AreNamed f fs names)
    (o : AreInOrder n ts) where
  -- the frames below the operand
  abbrev waiting : List Frame
  waiting = put f.position (with_leading true f.children ts) f ∷ fs

  operand : (max_bp : ℕ) (trees : AnnotatedForest) → AreNamed (opened Operand (p.AfterOperand level max_bp) d trees) waiting names
  operand max_bp trees = push_operand level max_bp d trees (grow_trivia f.position ts w)

  function : AreNamed (opened (Node NODE_LAMBDA) (p.InRow LAMBDA) d blank) (opened Operand (p.AfterOperand level 16) d blank ∷ waiting) names
  function = push_node NODE_LAMBDA (p.InRow LAMBDA) d blank refl (operand 16 blank)

  behind_double_bind : AreInOrder (item_end true (item_end true n ts) (after_item true ts)) (after_item true (after_item true ts))
  behind_double_bind = order_behind (item_end true n ts) (after_item true ts) (order_behind n ts o)

  begun_goes : (t : Token) (second : Option SyntaxKind) (how : OperandStart) (names' : Names) → BeginsInner second how
      → NamesFor (opens_pattern how) names names'
      → Goes (begun true how level d t f fs ts n es) names'
  begun_goes t second (b.Leaf k) names' fit e = stays e (goes_open refl (operand 16 (one_branch k (leaf true k ts))) (order_behind n ts o))
  begun_goes t second (b.Node k remaining max_bp) names' fit e =
      stays e (goes_open (ap is_open fit.0) (push_node k (p.InRow remaining) d (leaf true k ts) fit.0 (operand max_bp blank)) (order_behind n ts o))
  begun_goes t second b.LegacyLet names' fit e =
      let trees : AnnotatedForest = with_leading true (leaf true NODE_LEGACY_LET ts) (after_item true ts) ⊕ leaf true NODE_LEGACY_LET (after_item true ts) in
      stays e (goes_open refl (push_node NODE_LEGACY_LET (p.InRow LEGACY_LET) d trees refl (operand 0 blank)) behind_double_bind)
  begun_goes t second b.NameLambda names' fit e =
      let trees : AnnotatedForest = one_branch NODE_IDENT_PARAM (one_branch NODE_IDENT (leaf true NODE_IDENT ts)) in
      stays e (goes_open refl (push_node NODE_LAMBDA (p.InRow LAMBDA) d trees refl (operand 16 blank)) (order_behind n ts o))
  begun_goes t second b.BoundLambda names' fit e =
      let name : AnnotatedForest = one_branch NODE_IDENT (leaf true NODE_IDENT ts) in
      let trees : AnnotatedForest = one_branch NODE_PAT_BIND (with_leading true name (after_item true ts) ⊕ leaf true NODE_PAT_BIND (after_item true ts)) in
      goes_open refl (push_pattern (p.InRow BOUND_PATTERN) d trees (λ name. refl) e function) behind_double_bind
  begun_goes t second b.PatternLambda names' fit e =
      goes_open refl (push_pattern (p.InRow PATTERN) d (leaf true NODE_PATTERN ts) (no_entry_leaf NODE_PATTERN ts) e function) (order_behind n ts o)
  begun_goes t second b.Stray names' fit e = stays e (goes_open refl (operand 16 (one_fault Stray (leaf true NODE_ERROR ts))) (order_behind n ts o))

  operand_goes : (us : List Token) (names' : Names) → is_open (frame_kind_of_head f.head) ≡ true → NamesFor (opens_on level us) names names'
      → Goes (operand_on true level d f fs ts us n es) names'
  operand_goes [] names' m e = stays e (goes_open m w o)
  operand_goes (t ∷ us) names' m e =
      begun_goes t (head_kind us) (operand_start_of level t.kind t.text (head_kind us) (second_kind us)) names'
      (operand_start_inner level t.kind t.text (head_kind us) (second_kind us)) e

-- the machine continues when everything left is nested too deep
limited_goes : (f : Frame) (fs : List Frame) (ts : List Token) (n : ℕ) (es : List Fault) (names : Names) → AreNamed f fs names
    → is_open (frame_kind_of_head f.head) ≡ true → AreInOrder n ts
    → Goes (limited true f fs ts n es) names
limited_goes f fs ts n es names w m o =
    let remaining : List Token = run_rest true (items ts) ts in
    let trees : AnnotatedForest = run_leaves true (items ts) ts in
    let grown : AreNamed (put f.position (with_leading true f.children ts ⊕ one_fault TooDeep trees) f) fs names =
    grow_behind f.position ts (one_fault TooDeep trees) (no_entry_fault TooDeep trees) w in
    goes_open m (grow_trivia f.position remaining grown) (order_from (end_from n (items ts)) remaining (order_all n ts o).0)

-- the machine continues when an operand of a level is read
pub reading_goes : (level : ℕ) (counted : Bool) (f : Frame) (fs : List Frame) (ts : List Token) (n : ℕ) (es : List Fault) (names names' : Names)
    → AreNamed f fs names → is_open (frame_kind_of_head f.head) ≡ true → AreInOrder n ts
    → NamesFor (if counted && nat_le depth_limit f.depth then false else opens_on level (items ts)) names names'
    → Goes (reading true level counted f fs ts n es) names'
reading_goes level true f fs ts n es names names' w m o e = by (nat_le depth_limit f.depth) e
  where
    by : (x : Bool) → NamesFor (if x then false else opens_on level (items ts)) names names'
        → Goes (if x then limited true f fs ts n es else operand_on true level (suc f.depth) f fs ts (items ts) n es) names'
    by true e = stays e (limited_goes f fs ts n es names w m o)
    by false e = operand_goes level (suc f.depth) f fs ts n es names w o (items ts) names' m e
reading_goes level false f fs ts n es names names' w m o e = operand_goes level f.depth f fs ts n es names w o (items ts) names' m e
