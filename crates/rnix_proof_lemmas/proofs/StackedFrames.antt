-- Each frame is at a position of its frame kind and may be inside the one below, and the lowest is the root.
use Rattle.std.proofs.Common.{◌≡◌, ℕ, suc, Bool, true, false, List, [], ◌∷◌, Option, Some, None, refl, sym, ap, ◌∙◌, if◌then◌else◌, nat_le}
use Rattle.rnix_kinds.specs.declared.kinds.SyntaxKind.{SyntaxKind}
use Rattle.{rnix_kinds.specs.declared.kinds.SyntaxKind.TheVariants.{NODE_APPLY, NODE_ROOT}, rnix_grammar.specs.declared.position.Position.Position}
use Rattle.rnix_grammar.specs.{declared.{slot_table.TheConstants.APPLIED, action.Action.Action, operand_start.OperandStart.OperandStart}, Fault.Fault, Tables.depth_limit, Actions.action_at}
use Rattle.rnix_grammar.specs.{OperandStarts.{operand_start_for, operand_start_of, second_kind}, AnnotatedForest.{Token, blank, head_kind, touches}}
use Rattle.rnix_proof_lemmas.specs.Machine.{Head, Node, SecondBind, Operand, Frame, Machine, put, opened, with_leading, next_items, min_bp_of, closed, entry_closed, limited, begun}
use Rattle.rnix_proof_lemmas.specs.FrameKinds.{FrameKind, Root, Entry, SecondBindFrame, OperandFrame, NodeFrame, frame_kind}
use Rattle.rnix_proof_lemmas.specs.Machine.{operand_on, reading, perform, step_on, step, initial_machine}
use Rattle.rnix_proof_lemmas.specs.Allowed.{Allowed, IsNext, is_there}
use Rattle.rnix_proof_lemmas.specs.FrameKinds.{frame_kind_of_head, frame_kind_of_node, may_hold, is_open, IsStackedOn, AreStacked}
use Rattle.rnix_proof_lemmas.proofs.{AllowedLemmas.allowed, Basics.true_is_not_false, EachBeginning.each_first_tree}
use Rattle.rnix_grammar.specs.declared.position.Position.TheVariants as p
use Rattle.rnix_grammar.specs.declared.action.Action.TheVariants as a
use Rattle.rnix_grammar.specs.declared.operand_start.OperandStart.TheVariants as b

-- an operand begins with a node of the plain frame kind, and with two items only if there is a second one
abbrev pub BeginsInner : Option SyntaxKind → OperandStart → Type 0
BeginsInner second (b.Node k remaining max_bp) = (frame_kind_of_node k ≡ NodeFrame) × (frame_kind (p.InRow remaining) ≡ NodeFrame)
BeginsInner second b.LegacyLet = is_there second ≡ true
BeginsInner second b.BoundLambda = is_there second ≡ true
BeginsInner second how = Unit {0}

-- whatever token begins an operand, it begins it so
pub operand_start_inner : (level : ℕ) (kind : SyntaxKind) (text : List ℕ) (second third : Option SyntaxKind)
    → BeginsInner second (operand_start_of level kind text second third)
operand_start_inner = each_first_tree (λ kind second k. BeginsInner second (operand_start_for k kind)) (λ second. assumption)

-- an open frame may hold a plain node
pub open_holds : (sort : FrameKind) → is_open sort ≡ true → may_hold sort NodeFrame ≡ true
open_holds SecondBindFrame e = absurd (true_is_not_false (sym e))
open_holds _ e = cc

-- nothing holds the root
pub no_holder : (sort : FrameKind) → may_hold sort Root ≡ false
no_holder Root = refl
no_holder _ = cc

-- only the node of the text is the root
pub head_root : (head : Head) → frame_kind_of_head head ≡ Root → head ≡ Node NODE_ROOT
head_root (Node NODE_ROOT) e = refl
head_root (Node k) e = absurd (cc)
head_root SecondBind e = absurd (cc)
head_root Operand e = absurd (cc)

-- no frame is below the root
pub root_alone : (head : Head) (position : Position) (fs : List Frame) → IsStackedOn head position fs → frame_kind position ≡ Root → fs ≡ []
root_alone head position [] w e = refl
root_alone head position (g ∷ fs) w e = absurd (true_is_not_false (sym w.1 ∙ ap (may_hold (frame_kind g.position)) e ∙ no_holder (frame_kind g.position)))

-- the next position of a row has the same frame kind
pub next_sort : (position : Position) (after : ℕ) (next : Option SyntaxKind) → IsNext position next after → frame_kind (p.InRow after) ≡ frame_kind position
next_sort position after None h = h.0
next_sort position after (Some kind) h = h

onward : (head : Head) (position after : Position) (fs : List Frame) → frame_kind after ≡ frame_kind position → IsStackedOn head position fs
    → IsStackedOn head after fs
onward head position after [] e w = (w.0 ∙ sym e, e ∙ w.1)
onward head position after (g ∷ fs) e w = (w.0 ∙ sym e, ap (may_hold (frame_kind g.position)) e ∙ w.1, w.2)

-- an operand may replace another
instead : (head : Head) (position : Position) (min_bp max_bp : ℕ) (fs : List Frame) → frame_kind position ≡ OperandFrame → IsStackedOn head position fs
    → IsStackedOn Operand (p.AfterOperand min_bp max_bp) fs
instead head position min_bp max_bp [] e w = absurd (cc)
instead head position min_bp max_bp (g ∷ fs) e w = (refl, ap (may_hold (frame_kind g.position)) (sym e) ∙ w.1, w.2)

-- a plain node may be inside an open frame
inside : (k : SyntaxKind) (position : Position) (f : Frame) (fs : List Frame) → frame_kind_of_node k ≡ NodeFrame → frame_kind position ≡ NodeFrame
    → is_open (frame_kind f.position) ≡ true → IsStackedOn f.head f.position fs
    → IsStackedOn (Node k) position (f ∷ fs)
inside k position f fs n e o w = (n ∙ sym e, ap (may_hold (frame_kind f.position)) e ∙ open_holds (frame_kind f.position) o, w)

-- the frames stay stacked when the innermost one is complete
closed_stacked : (f : Frame) (fs : List Frame) (ts : List Token) (n : ℕ) (es : List Fault) → IsStackedOn f.head f.position fs
    → AreStacked (closed f fs ts n es).frames
closed_stacked f [] ts n es w = w
closed_stacked f (g ∷ fs) ts n es w = w.2

entry_stacked : (trivia : Bool) (f : Frame) (fs : List Frame) (ts : List Token) (n : ℕ) (es : List Fault) → IsStackedOn f.head f.position fs
    → AreStacked (entry_closed trivia f fs ts n es).frames
entry_stacked trivia f [] ts n es w = w
entry_stacked trivia f (g ∷ fs) ts n es w = w.2

-- the frames stay stacked when an operand begins where one may be
begun_stacked : (trivia : Bool) (second : Option SyntaxKind) (how : OperandStart) (level d : ℕ) (t : Token) (f : Frame) (fs : List Frame) (ts : List Token)
    (n : ℕ)
    (es : List Fault)
    → BeginsInner second how → may_hold (frame_kind f.position) OperandFrame ≡ true → IsStackedOn f.head f.position fs
    → AreStacked (begun trivia how level d t f fs ts n es).frames
begun_stacked trivia second (b.Leaf k) level d t f fs ts n es i m w = (refl, m, w)
begun_stacked trivia second (b.Node k position max_bp) level d t f fs ts n es i m w =
    inside k (p.InRow position) (opened Operand (p.AfterOperand level max_bp) d blank) (put f.position (with_leading trivia f.children ts) f ∷ fs) i.0 i.1 refl
    (refl, m, w)
begun_stacked trivia second b.LegacyLet level d t f fs ts n es i m w = (refl, refl, (refl, m, w))
begun_stacked trivia second b.NameLambda level d t f fs ts n es i m w = (refl, refl, (refl, m, w))
begun_stacked trivia second b.BoundLambda level d t f fs ts n es i m w = (refl, refl, (refl, refl, (refl, m, w)))
begun_stacked trivia second b.PatternLambda level d t f fs ts n es i m w = (refl, refl, (refl, refl, (refl, m, w)))
begun_stacked trivia second b.Stray level d t f fs ts n es i m w = (refl, m, w)

-- the frames stay stacked when an operand of a level is read, or is missing at the end of the text
operand_stacked : (trivia : Bool) (level d : ℕ) (f : Frame) (fs : List Frame) (ts xs : List Token) (n : ℕ) (es : List Fault)
    → may_hold (frame_kind f.position) OperandFrame ≡ true → IsStackedOn f.head f.position fs → AreStacked (operand_on trivia level d f fs ts xs n es).frames
operand_stacked trivia level d f fs ts [] n es m w = w
operand_stacked trivia level d f fs ts (t ∷ us) n es m w =
    begun_stacked trivia (head_kind us) (operand_start_of level t.kind t.text (head_kind us) (second_kind us)) level d t f fs ts n es
    (operand_start_inner level t.kind t.text (head_kind us) (second_kind us)) m w

-- the same for an operand that is counted or not
reading_stacked : (trivia : Bool) (level : ℕ) (counted : Bool) (f : Frame) (fs : List Frame) (ts : List Token) (n : ℕ) (es : List Fault)
    → may_hold (frame_kind f.position) OperandFrame ≡ true → IsStackedOn f.head f.position fs → AreStacked (reading trivia level counted f fs ts n es).frames
reading_stacked trivia level true f fs ts n es m w =
    elim (nat_le depth_limit f.depth) as (λ x. AreStacked (if x then limited trivia f fs ts n es else operand_on trivia level (suc f.depth) f fs ts
    (next_items trivia ts) n es).frames)
    [ true ↦ w | false ↦ operand_stacked trivia level (suc f.depth) f fs ts (next_items trivia ts) n es m w ]
reading_stacked trivia level false f fs ts n es m w = operand_stacked trivia level f.depth f fs ts (next_items trivia ts) n es m w

-- the frames stay stacked when an allowed action is taken
perform_stacked : (trivia : Bool) (action : Action) (f : Frame) (fs : List Frame) (ts : List Token) (n : ℕ) (es : List Fault)
    → Allowed f.position (head_kind (next_items trivia ts)) action → IsStackedOn f.head f.position fs → AreStacked (perform trivia action f fs ts n es).frames
perform_stacked trivia action f fs ts n es al w = by action al
  where
    same : (after : ℕ) → IsNext f.position (head_kind (next_items trivia ts)) after → frame_kind (p.InRow after) ≡ frame_kind f.position
    same after h = next_sort f.position after (head_kind (next_items trivia ts)) h

    next : (after : ℕ) → IsNext f.position (head_kind (next_items trivia ts)) after → IsStackedOn f.head (p.InRow after) fs
    next after h = onward f.head f.position (p.InRow after) fs (same after h) w

    by : (action : Action) → Allowed f.position (head_kind (next_items trivia ts)) action → AreStacked (perform trivia action f fs ts n es).frames
    by a.Close al = closed_stacked f fs ts n es w
    by a.ClosePattern al = closed_stacked f fs ts n es w
    by a.CloseEntry al = entry_stacked trivia f fs ts n es w
    by a.CloseDoubleBind al = closed_stacked f fs ts n _ w
    by a.Finish al = w
    by a.EndOperand al = closed_stacked f fs ts n es w
    by a.Extra al = w
    by (a.Take after) al = next after al.1
    by (a.Miss after) al = next after al.1
    by (a.MissWanted until after) al = next after al.1
    by (a.Run until after) al = next after al.1
    by (a.Leaf k after) al = next after al.1
    by (a.Open k remaining after) al =
        inside k (p.InRow remaining) (put (p.InRow after) (with_leading trivia f.children ts) f) fs al.2 al.3 (ap is_open (same after al.1) ∙ al.4)
        (next after al.1)
    by (a.OpenEmpty k remaining after) al = inside k (p.InRow remaining) (put (p.InRow after) (with_leading trivia f.children ts) f) fs al.1 al.2
        (ap is_open al.0 ∙ al.3)
        (onward f.head f.position (p.InRow after) fs al.0 w)
    by (a.Entry after) al = (refl, ap (λ x. may_hold x Entry) (same after al.1 ∙ al.2), next after al.1)
    by (a.DoubleBind after) al = (refl, ap (λ x. may_hold x SecondBindFrame) (same after al.1 ∙ al.2), next after al.1)
    by (a.Read level counted after) al = reading_stacked trivia level counted (put (p.InRow after) f.children f) fs ts n es
        (ap (λ x. may_hold x OperandFrame) (same after al.0) ∙ al.1) (next after al.0)
    by (a.Wrap k position max_bp) al =
        inside k position (opened Operand (p.AfterOperand (min_bp_of f.position) max_bp) f.depth blank) fs al.2 al.3 refl
        (instead f.head f.position (min_bp_of f.position) max_bp fs al.1 w)
    by a.Apply al =
        reading_stacked trivia 16 false (opened (Node NODE_APPLY) (p.InRow APPLIED) f.depth f.children)
        (opened Operand (p.AfterOperand (min_bp_of f.position) 15) f.depth blank ∷ fs) ts n es refl
        (refl, refl, instead f.head f.position (min_bp_of f.position) 15 fs al.1 w)
    by a.ApplyOr al = instead f.head f.position (min_bp_of f.position) 15 fs al.1 w

-- the frames stay stacked after each step
pub step_stacked : (trivia : Bool) (m : Machine) → AreStacked m.frames → AreStacked (step trivia m).frames
step_stacked trivia m w = by m.frames w
  where
    by : (fs : List Frame) → AreStacked fs → AreStacked (step_on trivia fs m.remaining m.prev_end m.faults).frames
    by [] w = absurd w
    by (f ∷ fs) w =
        let next : Option SyntaxKind = head_kind (next_items trivia m.remaining) in
        let near : Bool = touches m.prev_end (next_items trivia m.remaining) in
        perform_stacked trivia (action_at f.position next near) f fs m.remaining m.prev_end m.faults (allowed f.position next near) w

-- the frames are stacked before the text is read
pub initial_stacked : (ts : List Token) → AreStacked (initial_machine ts).frames
initial_stacked ts = (refl, refl)
