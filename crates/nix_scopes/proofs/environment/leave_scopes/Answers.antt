use Rattle.std.proofs.Common.{rules, ◌≡◌, ◌-◌, ◌∙◌, length, take, ap, sym}
use Rattle.nix_scopes.{specs.Resolving.{has_ended, IsSymbolTable}, proofs.EndLemmas.{one_remaining, all_remaining}}
use Rattle.nix_scopes.proofs.environment.leave_scopes.Goals as goal

pub loop-ends-preserved : goal.loop-ends-preserved
loop-ends-preserved c = λ root n scopes h.
    let popped : c.pop-end.new.self.items ≡ take (length c.loop-ends.ends.items - 1) c.loop-ends.ends.items = search rules in
    one_remaining root c.args.remaining (IsSymbolTable c.args.bindings.now c.loop-ends.symbols n)
    (IsSymbolTable c.args.bindings.now c.leave.new.self n) c.loop-ends.ends.items c.pop-end.new.self.items scopes
    (ap (has_ended c.args.remaining) (sym c.deref.ensures.value) ∙ sym c.has_ended.ensures ∙ c.loop-ends-test.true) popped (c.in_ok-leave.ensures n)
    (c.loop-ends.invariant root n scopes h)

pub returns : goal.returns
returns c = λ root n scopes h.
    all_remaining root c.args.remaining (IsSymbolTable c.args.bindings.now c.loop-ends.symbols n) c.loop-ends.ends.items scopes
    (ap (has_ended c.args.remaining) (sym c.deref.ensures.value) ∙ sym c.has_ended.ensures ∙ c.loop-ends-test.false)
    (c.loop-ends.invariant root n scopes h)
