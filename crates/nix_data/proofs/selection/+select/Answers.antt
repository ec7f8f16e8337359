use Rattle.std.proofs.Common.{◌≡◌, ◌∙◌, ◌-◌, ◌<◌, Some, sym, arith}
use Rattle.nix_values.specs.PathNames.{name_of}
use Rattle.nix_data.specs.Definitions.{definitions_of}
use Rattle.nix_data.specs.Selection.{enter, selected}
use Rattle.nix_data.proofs.RefusalLemmas.{reads_same}
use Rattle.nix_data.proofs.SelectionLemmas.{selected_turned, selected_none, selected_at_zero, update_none, update_right, update_left}
use Rattle.nix_data.proofs.selection.+select.Goals as goal

pub returns-then-levels-eq0 : goal.returns-then-levels-eq0
returns-then-levels-eq0 t c = λ refused.
    selected_at_zero c.args.levels (name_of c.args.name.now) c.args.is_operand c.args.node.now c.if-levels-eq0.true

pub returns-in_err-found : goal.returns-in_err-found
returns-in_err-found t c =
    reads_same c.from_residual.result c.in_err-found.field-0.0 (selected c.args.levels (name_of c.args.name.now) c.args.is_operand c.args.node.now)
    (λ found. definitions_of found.items) c.from_residual.ensures.1
    (λ refused. selected_none c.args.levels (name_of c.args.name.now) c.args.is_operand c.args.node.now (c.in_err-found.ensures refused))

pub returns-in-Found : goal.returns-in-Found
returns-in-Found t c =
    let some : 0 < c.args.levels = omega (arith, c.if-levels-eq0.false) in
    let is = rw c.in-Found.is at c.in_ok-found.ensures in
    selected_turned c.args.levels (name_of c.args.name.now) c.args.is_operand c.args.node.now _ some is

pub returns-in_err-select-in-Enter : goal.returns-in_err-select-in-Enter
returns-in_err-select-in-Enter t c =
    let some : 0 < c.args.levels = omega (arith, c.if-levels-eq0.false) in
    let is = rw c.in-Enter.is at c.in_ok-found.ensures in
    reads_same c.from_residual-in_err-select-in-Enter.result c.in_err-select-in-Enter.field-0.0
    (selected c.args.levels (name_of c.args.name.now) c.args.is_operand c.args.node.now)
    (λ found. definitions_of found.items) c.from_residual-in_err-select-in-Enter.ensures.1
    (λ refused.
    selected_turned c.args.levels (name_of c.args.name.now) c.args.is_operand c.args.node.now (enter c.in-Enter.inner) some is
    ∙ c.in_err-select-in-Enter.ensures refused)

pub returns-in_ok-select-in-Enter : goal.returns-in_ok-select-in-Enter
returns-in_ok-select-in-Enter t c =
    let some : 0 < c.args.levels = omega (arith, c.if-levels-eq0.false) in
    let is = rw c.in-Enter.is at c.in_ok-found.ensures in
    selected_turned c.args.levels (name_of c.args.name.now) c.args.is_operand c.args.node.now (enter c.in-Enter.inner) some is
    ∙ c.in_ok-select-in-Enter.ensures

pub returns-in_err-found-in-Update : goal.returns-in_err-found-in-Update
returns-in_err-found-in-Update t c =
    let some : 0 < c.args.levels = omega (arith, c.if-levels-eq0.false) in
    let is = rw c.in-Update.is at c.in_ok-found.ensures in
    reads_same c.from_residual-in_err-found-in-Update.result c.in_err-found-in-Update.field-0.0
    (selected c.args.levels (name_of c.args.name.now) c.args.is_operand c.args.node.now)
    (λ found. definitions_of found.items) c.from_residual-in_err-found-in-Update.ensures.1
    (λ refused. update_none c.args.levels (name_of c.args.name.now) c.args.is_operand c.args.node.now c.in-Update.left c.in-Update.right some is
    (c.in_err-found-in-Update.ensures refused))

pub returns-then-is_defined : goal.returns-then-is_defined
returns-then-is_defined t c =
    let some : 0 < c.args.levels = omega (arith, c.if-levels-eq0.false) in
    let is = rw c.in-Update.is at c.in_ok-found.ensures in
    update_right c.args.levels (name_of c.args.name.now) c.args.is_operand c.args.node.now c.in-Update.left c.in-Update.right
    (definitions_of c.in_ok-found-in-Update.found.items) some is c.in_ok-found-in-Update.ensures (sym c.is_defined.ensures ∙ c.if-is_defined.true)

pub returns-in_err-select-in-Update : goal.returns-in_err-select-in-Update
returns-in_err-select-in-Update t c =
    let some : 0 < c.args.levels = omega (arith, c.if-levels-eq0.false) in
    let is = rw c.in-Update.is at c.in_ok-found.ensures in
    reads_same c.from_residual-in_err-select-in-Update.result c.in_err-select-in-Update.field-0.0
    (selected c.args.levels (name_of c.args.name.now) c.args.is_operand c.args.node.now)
    (λ found. definitions_of found.items) c.from_residual-in_err-select-in-Update.ensures.1
    (λ refused. update_left c.args.levels (name_of c.args.name.now) c.args.is_operand c.args.node.now c.in-Update.left c.in-Update.right
    (definitions_of c.in_ok-found-in-Update.found.items) some is c.in_ok-found-in-Update.ensures (sym c.is_defined.ensures ∙ c.if-is_defined.false)
    ∙ c.in_err-select-in-Update.ensures refused)

pub returns-in_ok-select-in-Update : goal.returns-in_ok-select-in-Update
returns-in_ok-select-in-Update t c =
    let some : 0 < c.args.levels = omega (arith, c.if-levels-eq0.false) in
    let is = rw c.in-Update.is at c.in_ok-found.ensures in
    update_left c.args.levels (name_of c.args.name.now) c.args.is_operand c.args.node.now c.in-Update.left c.in-Update.right
    (definitions_of c.in_ok-found-in-Update.found.items) some is c.in_ok-found-in-Update.ensures (sym c.is_defined.ensures ∙ c.if-is_defined.false)
    ∙ c.in_ok-select-in-Update.ensures
