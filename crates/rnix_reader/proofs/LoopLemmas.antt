-- The reader takes the same steps as the machine, turn by turn.
use Rattle.std.proofs.{Common.{◌≡◌, ◌<◌, ◌+◌, ℕ, true, false, Option, Some, None, List, [], ◌∷◌, ◌++◌, length, refl, ap, sym, ◌∙◌, subst, arith}, lemmas.List.same_from_push}
use Rattle.{std.{proofs.lemmas.Bool.false≢true, specs.Prelude.if◌then◌else◌}, rnix_kinds.specs.declared.kinds.{SyntaxKind.SyntaxKind, SyntaxKind.TheVariants.TOKEN_DOT}}
use Rattle.{rnix_kinds.specs.declared.kinds.SyntaxKind.TheVariants.NODE_ROOT, rnix_green.specs.{Forest.{empty, node}, Draft.wrapped-join}}
use Rattle.rnix_grammar.specs.{declared.{slot_table.TheConstants.ROOT, action.Action.Action, position.Position.Position}, AnnotatedForest.{Token, AnnotatedForest, blank}}
use Rattle.rnix_grammar.specs.Actions.{continue_action, may_continue, more_action}
use Rattle.rnix_grammar.specs.{AnnotatedForest.{forget, head_kind, touches}, Layout.{items, from_item}, Fault.Fault}
use Rattle.rnix_proof_lemmas.specs.Allowed.{Allowed}
use Rattle.rnix_proof_lemmas.{specs.FrameKinds.{OperandFrame, frame_kind, AreStacked}, proofs.Basics.true_is_not_false}
use Rattle.rnix_proof_lemmas.specs.Machine.{Head, Node, Machine, opened, with_leading, machine, initial_machine, step}
use Rattle.rnix_proof_lemmas.specs.Machine.{rest as here}
use Rattle.rnix_proof_steps.{specs.StepCount.{is_finish, ComesIn}, proofs.BudgetedRuns.{comes_on, by_items, by_levels}}
use Rattle.{rnix_proof_lemmas.proofs.{StackedFrames.step_stacked, AllowedLemmas.allowed}, rnix_reader.specs.declared.mark.Mark.Mark}
use Rattle.rnix_reader.specs.{declared.pattern_names.Names.Names, Placed.AreInOrder, PatternNames.entries_in, State.{State, items_remaining, with_marks, eaten, ended}, Erase.marks_of}
use Rattle.rnix_reader.specs.{Erase.{mark_of, erase, erase_with, popped}, Holds.{IsGoing, IsThrough, IsReadTo, work}, Performed.{Performed, NamesAfter, IsReady}}
use Rattle.rnix_reader.{specs.Performed.{action_of, is_continuation, is_row_action}, proofs.{FrameKindLemmas.{is_operand_frame, row_not_operand}, StateLemmas.state_is, DocumentLemmas.root_through, EraseLemmas.erase-eaten}}
use Rattle.rnix_reader.proofs.{StepsOfReader.{ready, performs}, GoesLemmas.Goes, PerformLemmas.perform_goes, WorkLemmas.{work_is, perform_less}}
use Rattle.rnix_grammar.specs.declared.position.Position.TheVariants as p
use Rattle.rnix_grammar.specs.declared.action.Action.TheVariants as a

-- before the first turn nothing has been read
pub starts : (Counted : ℕ → Type 0) (s : State) (names : Names) → Counted 0 → s ≡ erase (initial_machine s.rest) → AreInOrder 0 s.rest
    → names.sets.items ≡ [] → entries_in names ≡ []
    → IsGoing Counted s.rest s names
starts Counted s names n e o k t = record {
  steps = 0;
  counted = n;
  top = opened (Node NODE_ROOT) (p.InRow ROOT) 0 blank;
  under = [];
  remaining = s.rest;
  prev_end = 0;
  faults = [];
  comes = record { runs = here; needed = tt; count = refl };
  state = e;
  well = record { fit = (refl, refl); range = tt; order = o };
  named = record { begun = (tt, tt); sets = k; entries = t };
}

-- an action other than `Finish` does not end the reading
not_finish : (action : Action) → (action ≡ a.Finish → ⊥) → is_finish action ≡ false
not_finish a.Finish h = absurd (h refl)
not_finish action h = refl

-- the actions in the table for what follows an operand continue the operand
pub continue_action_is_continuation : (kind : SyntaxKind) → is_continuation (continue_action kind) ≡ true
continue_action_is_continuation TOKEN_DOT = refl
continue_action_is_continuation kind = refl

-- what continues an operand does not end the reading
continue_action_is_no_finish : (kind : SyntaxKind) → is_finish (continue_action kind) ≡ false
continue_action_is_no_finish TOKEN_DOT = refl
continue_action_is_no_finish kind = refl

-- no action after an operand ends the reading
more_goes : (min_bp max_bp : ℕ) (next : Option SyntaxKind) → is_finish (more_action min_bp max_bp next) ≡ false
more_goes min_bp max_bp None = refl
more_goes min_bp max_bp (Some kind) =
    elim (may_continue min_bp max_bp kind) as (λ b. is_finish (if b then continue_action kind else a.EndOperand) ≡ false) [
      | true ↦ continue_action_is_no_finish kind
      | false ↦ refl
    ]

-- after an operand the reading is not complete
pub operand_goes : (position : Position) (min_bp max_bp : ℕ) (s : State) → position ≡ p.AfterOperand min_bp max_bp → action_of position s ≡ a.Finish → ⊥
operand_goes position min_bp max_bp s is end =
    false≢true (sym (more_goes min_bp max_bp (head_kind (items_remaining s))) ∙ ap is_finish (sym (ap (λ q. action_of q s) is) ∙ end))

-- at a position in a row, no action continues or completes an operand
no_operand : (position : Position) (remaining : ℕ) → position ≡ p.InRow remaining → frame_kind position ≡ OperandFrame → ⊥
no_operand position remaining e h =
    true_is_not_false (sym (ap is_operand_frame h) ∙ ap (λ q. is_operand_frame (frame_kind q)) e ∙ row_not_operand remaining)

row_action : (position : Position) (next : Option SyntaxKind) (action : Action) (remaining : ℕ) → position ≡ p.InRow remaining → Allowed position next action
    → (action ≡ a.Finish → ⊥) → is_row_action action ≡ true
row_action position next a.Finish remaining e al other = absurd (other refl)
row_action position next a.EndOperand remaining e al other = absurd (no_operand position remaining e al)
row_action position next (a.Wrap k inside max_bp) remaining e al other = absurd (no_operand position remaining e al.1)
row_action position next a.Apply remaining e al other = absurd (no_operand position remaining e al.1)
row_action position next a.ApplyOr remaining e al other = absurd (no_operand position remaining e al.1)
row_action position next action remaining e al other = refl

-- the complete root is the tree over all trees
root_ended : (h : Head) (position : Position) (d : ℕ) (children : AnnotatedForest) (ts : List Token) (n : ℕ) (es : List Fault) → h ≡ Node NODE_ROOT
    → ended (erase_with [] (machine (opened h position d children ∷ []) ts n es))
    ≡ (let y : State = record { rest = ts; trees = node NODE_ROOT (forget children) empty; open_nodes = []; faults = es; prev_end = n; marks = [] } in y)
unfolding ended
root_ended h position d children ts n es e = rw e (state_is refl (wrapped-join NODE_ROOT empty (forget children)) refl refl refl refl)

-- what follows for the innermost mark: its action can be performed and leaves less to do, or the reading is complete
pub record Turn (Counted : ℕ → Type 0) (steps : ℕ) (first : List Token) (s : State) (names : Names) (mark : Mark) (s1 : State) (action : Action) : Type 0 where
  pub ready : IsReady action mark s1 names
  pub row : (remaining : ℕ) → mark.position ≡ p.InRow remaining → (action ≡ a.Finish → ⊥) → is_row_action action ≡ true
  pub goes : Counted (steps + 1) → (s' : State) (names' : Names) → (action ≡ a.Finish → ⊥) → Performed action mark s1 names s' names'
      → NamesAfter action mark s1 names names' → IsGoing Counted first s' names' × (work s' < work s)
  pub root : action ≡ a.Finish → 0 < length s1.open_nodes
  pub finished : Counted (steps + 1) → (s' : State) → action ≡ a.Finish → s' ≡ ended (eaten s1) → IsReadTo Counted first s'

module _ {Before : ℕ → Type 0} {first : List Token} {s : State} {names : Names} (g : IsGoing Before first s names) (Counted : ℕ → Type 0) where
  abbrev before : Machine
  before = machine (g.top ∷ g.under) g.remaining g.prev_end g.faults

  abbrev action : Action
  action = action_of g.top.position (popped before)

  may : Allowed g.top.position (head_kind (items g.remaining)) action
  may = allowed g.top.position (head_kind (items g.remaining)) (touches g.prev_end (items g.remaining))

  -- a turn of the loop is a step of the machine
  going : Counted (g.steps + 1) → (s' : State) (names' : Names) → (action ≡ a.Finish → ⊥)
      → Performed action (mark_of g.top g.under) (popped before) names s' names'
      → NamesAfter action (mark_of g.top g.under) (popped before) names names' → IsGoing Counted first s' names' × (work s' < work s)
  going n s' names' other d k =
      let q : is_finish action ≡ false = not_finish action other in
      let after : Machine = step true before in
      let done : Goes after names' = perform_goes g.top g.under g.remaining g.prev_end names g.named g.well action g.faults names' may q k in
      let whole : after ≡ machine (done.top ∷ done.under) after.remaining after.prev_end after.faults =
      ap (λ x. machine x after.remaining after.prev_end after.faults) done.frames in
      let state : s' ≡ erase after = performs g.top g.under g.remaining g.prev_end g.faults names g.well action s' names' g.named may q d in (
        record {
          steps = g.steps + 1;
          counted = n;
          top = done.top;
          under = done.under;
          remaining = after.remaining;
          prev_end = after.prev_end;
          faults = after.faults;
          comes = subst (ComesIn (g.steps + 1) (initial_machine first)) whole (comes_on g.steps (initial_machine first) before g.comes q);
          state = state ∙ ap erase whole;
          well = record { fit = subst AreStacked done.frames (step_stacked true before g.well.fit); range = done.range; order = done.order };
          named = done.named;
        },
        omega (
          arith,
          ap work state ∙ work_is after,
          ap work g.state ∙ work_is before,
          perform_less g.top g.under g.remaining g.prev_end g.faults g.well.fit action may q,
        ),
      )

  -- the last turn ends the reading
  read : Counted (g.steps + 1) → (s' : State) → action ≡ a.Finish → s' ≡ ended (eaten (popped before)) → IsReadTo Counted first s'
  read n s' q e =
      let end : Allowed g.top.position (head_kind (items g.remaining)) a.Finish = subst (Allowed g.top.position (head_kind (items g.remaining))) q may in
      let through : IsThrough (initial_machine first) = root_through g.top g.under g.remaining g.prev_end g.faults g.comes g.well.fit end in
      let state = e ∙ ap (λ x. ended (eaten (popped (machine x g.remaining g.prev_end g.faults)))) through.alone
      ∙ ap ended (erase-eaten [] g.top [] g.remaining g.prev_end g.faults)
      ∙ root_ended g.top.head g.top.position g.top.depth (with_leading true g.top.children g.remaining) (from_item g.remaining) g.prev_end g.faults
      through.head in
      record {
        through = through;
        turns = g.steps + 1;
        counted = n;
        each_step = refl;
        few = omega (arith, by_items g.steps first before g.comes);
        few_in_levels = omega (arith, by_levels g.steps first before g.comes);
        trees = ap (λ x. x.trees) state;
        nodes = ap (λ x. x.open_nodes) state;
        faults = ap (λ x. x.faults) state;
      }

  concrete : Turn Counted g.steps first s names (mark_of g.top g.under) (popped before) action
  concrete =
      let needs : IsReady action (mark_of g.top g.under) (popped before) names = ready g.top g.under g.remaining g.prev_end g.faults names g.well action may in
      record {
        ready = needs;
        row = λ remaining e other. row_action g.top.position (head_kind (items g.remaining)) action remaining e may other;
        goes = going;
        root = λ e. subst (λ x. IsReady x (mark_of g.top g.under) (popped before) names) e needs;
        finished = read;
      }

  -- this holds for the mark that the loop pops
  pub turn : (ms : List Mark) (mark : Mark) (x : Action) → s.marks ≡ ms ++ mark ∷ [] → x ≡ action_of mark.position (with_marks ms s)
      → Turn Counted g.steps first s names mark (with_marks ms s) x
  turn ms mark x e k =
      let two = same_from_push ms (marks_of g.under) mark (mark_of g.top g.under) (sym e ∙ ap (λ x. x.marks) g.state) in
      let same : with_marks ms s ≡ popped before = ap (with_marks ms) g.state ∙ ap (λ x. with_marks x (erase before)) two.0 in
      let act : x ≡ action = k ∙ ap (action_of mark.position) same ∙ ap (λ m. action_of m.position (popped before)) two.1 in
      rw (act, same, two.1) concrete
