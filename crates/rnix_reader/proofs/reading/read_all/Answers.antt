use Rattle.std.proofs.Common.{◌<◌, false, length, refl, sym, ap, subst, ◌∙◌}
use Rattle.std.proofs.lemmas.Bool.{false≢true}
use Rattle.rnix_grammar.specs.declared.action.Action.TheVariants as a
use Rattle.rnix_grammar.specs.declared.slot_table.TheConstants.{BIN_OP_END}
use Rattle.rnix_proof_steps.specs.StepCount.{is_finish}
use Rattle.rnix_reader.specs.{State.{state, with_marks, ended}, Performed.action_of}
use Rattle.rnix_reader.proofs.LoopLemmas.{starts, turn, operand_goes}
use Rattle.rnix_reader.proofs.reading.read_all.Goals as goal

pub loop-mark-init : goal.loop-mark-init
loop-mark-init g c =
    starts (g.T.Turns.counted c.args.turns.now) (state c.args.p.now) c.args.names.now c.requires.none c.requires.state c.requires.order
    c.requires.sets c.requires.entries

pub after_operand-requires-clause-ready : goal.after_operand-requires-clause-ready
after_operand-requires-clause-ready g c =
    (turn c.loop-mark.invariant (g.T.Turns.counted c.turn.new.self) c.pop.new.self.items c.in-Some.mark _ c.in-Some.ensures.items refl).ready

pub loop-mark-smaller-in-Continue-1 : goal.loop-mark-smaller-in-Continue-1
loop-mark-smaller-in-Continue-1 g c =
    let s = with_marks c.pop.new.self.items (state c.loop-mark.p) in
    let t = turn c.loop-mark.invariant (g.T.Turns.counted c.turn.new.self) c.pop.new.self.items c.in-Some.mark
    (action_of c.in-Some.mark.position s) c.in-Some.ensures.items refl in
    (t.goes (c.turn.ensures _ c.loop-mark.invariant.counted) _ _
    (operand_goes _ c.in-AfterOperand.min_bp c.in-AfterOperand.max_bp s c.in-AfterOperand.is) c.in_ok-after_operand-in-AfterOperand.ensures.state
    c.in_ok-after_operand-in-AfterOperand.ensures.names).1

pub loop-mark-preserved-in-Continue-1 : goal.loop-mark-preserved-in-Continue-1
loop-mark-preserved-in-Continue-1 g c =
    let s = with_marks c.pop.new.self.items (state c.loop-mark.p) in
    let t = turn c.loop-mark.invariant (g.T.Turns.counted c.turn.new.self) c.pop.new.self.items c.in-Some.mark
    (action_of c.in-Some.mark.position s) c.in-Some.ensures.items refl in
    (t.goes (c.turn.ensures _ c.loop-mark.invariant.counted) _ _
    (operand_goes _ c.in-AfterOperand.min_bp c.in-AfterOperand.max_bp s c.in-AfterOperand.is) c.in_ok-after_operand-in-AfterOperand.ensures.state
    c.in_ok-after_operand-in-AfterOperand.ensures.names).0

pub loop-mark-smaller-in-Continue-branch-2 : goal.loop-mark-smaller-in-Continue-branch-2
loop-mark-smaller-in-Continue-branch-2 g c =
    let s = with_marks c.pop.new.self.items (state c.loop-mark.p) in
    let t = turn c.loop-mark.invariant (g.T.Turns.counted c.turn.new.self) c.pop.new.self.items c.in-Some.mark
    (a.Read c.in-Right.level false BIN_OP_END) c.in-Some.ensures.items
    (sym (ap (λ q. action_of q s) c.in-Right.is)) in
    (t.goes (c.turn.ensures _ c.loop-mark.invariant.counted) _ _
    (λ e. false≢true (ap is_finish e)) c.in_ok-read_part-in-Right.ensures.state c.in_ok-read_part-in-Right.ensures.names).1

pub loop-mark-preserved-in-Continue-branch-2 : goal.loop-mark-preserved-in-Continue-branch-2
loop-mark-preserved-in-Continue-branch-2 g c =
    let s = with_marks c.pop.new.self.items (state c.loop-mark.p) in
    let t = turn c.loop-mark.invariant (g.T.Turns.counted c.turn.new.self) c.pop.new.self.items c.in-Some.mark
    (a.Read c.in-Right.level false BIN_OP_END) c.in-Some.ensures.items
    (sym (ap (λ q. action_of q s) c.in-Right.is)) in
    (t.goes (c.turn.ensures _ c.loop-mark.invariant.counted) _ _
    (λ e. false≢true (ap is_finish e)) c.in_ok-read_part-in-Right.ensures.state c.in_ok-read_part-in-Right.ensures.names).0

pub finish_node-requires : goal.finish_node-requires
finish_node-requires g c =
    let s = with_marks c.pop.new.self.items (state c.loop-mark.p) in
    let t = turn c.loop-mark.invariant (g.T.Turns.counted c.turn.new.self) c.pop.new.self.items c.in-Some.mark
    c.action_in_row-action.result c.in-Some.ensures.items
    (c.action_in_row-action.ensures ∙ ap (λ q. action_of q s) (sym c.in-InRow.is)) in
    subst (λ x. 0 < length x) (sym c.in_ok-eat_trivia-in-InRow.ensures.nodes) (t.root c.in-Finish.is)

pub returns-in-Finish : goal.returns-in-Finish
returns-in-Finish g c =
    let s = with_marks c.pop.new.self.items (state c.loop-mark.p) in
    let t = turn c.loop-mark.invariant (g.T.Turns.counted c.turn.new.self) c.pop.new.self.items c.in-Some.mark
    c.action_in_row-action.result c.in-Some.ensures.items
    (c.action_in_row-action.ensures ∙ ap (λ q. action_of q s) (sym c.in-InRow.is)) in
    t.finished (c.turn.ensures _ c.loop-mark.invariant.counted) _
    c.in-Finish.is (c.in_ok-finish_node-in-InRow.ensures ∙ ap ended c.in_ok-eat_trivia-in-InRow.ensures.state)

pub step-requires-clause-row : goal.step-requires-clause-row
step-requires-clause-row g c =
    let s = with_marks c.pop.new.self.items (state c.loop-mark.p) in
    (turn c.loop-mark.invariant (g.T.Turns.counted c.turn.new.self) c.pop.new.self.items c.in-Some.mark c.action_in_row-action.result c.in-Some.ensures.items
    (c.action_in_row-action.ensures ∙ ap (λ q. action_of q s) (sym c.in-InRow.is))).row c.in-InRow.index c.in-InRow.is c.in_default-action.not-Finish

pub step-requires-clause-ready : goal.step-requires-clause-ready
step-requires-clause-ready g c =
    let s = with_marks c.pop.new.self.items (state c.loop-mark.p) in
    (turn c.loop-mark.invariant (g.T.Turns.counted c.turn.new.self) c.pop.new.self.items c.in-Some.mark c.action_in_row-action.result c.in-Some.ensures.items
    (c.action_in_row-action.ensures ∙ ap (λ q. action_of q s) (sym c.in-InRow.is))).ready

pub loop-mark-smaller : goal.loop-mark-smaller
loop-mark-smaller g c =
    let s = with_marks c.pop.new.self.items (state c.loop-mark.p) in
    let t = turn c.loop-mark.invariant (g.T.Turns.counted c.turn.new.self) c.pop.new.self.items c.in-Some.mark
    c.action_in_row-action.result c.in-Some.ensures.items
    (c.action_in_row-action.ensures ∙ ap (λ q. action_of q s) (sym c.in-InRow.is)) in
    (t.goes (c.turn.ensures _ c.loop-mark.invariant.counted) _ _
    c.in_default-action.not-Finish c.in_ok-step-in-InRow.ensures.state c.in_ok-step-in-InRow.ensures.names).1

pub loop-mark-preserved : goal.loop-mark-preserved
loop-mark-preserved g c =
    let s = with_marks c.pop.new.self.items (state c.loop-mark.p) in
    let t = turn c.loop-mark.invariant (g.T.Turns.counted c.turn.new.self) c.pop.new.self.items c.in-Some.mark
    c.action_in_row-action.result c.in-Some.ensures.items
    (c.action_in_row-action.ensures ∙ ap (λ q. action_of q s) (sym c.in-InRow.is)) in
    (t.goes (c.turn.ensures _ c.loop-mark.invariant.counted) _ _
    c.in_default-action.not-Finish c.in_ok-step-in-InRow.ensures.state c.in_ok-step-in-InRow.ensures.names).0
