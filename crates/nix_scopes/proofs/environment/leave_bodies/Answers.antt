use Rattle.{std.proofs.Common.{rules, ◌≡◌, ◌-◌, ◌∙◌, length, take, ap, sym}, nix_scopes.{specs.Resolving.has_ended, proofs.EndLemmas.{one_remaining, all_remaining}}}
use Rattle.nix_scopes.proofs.environment.leave_bodies.Goals as goal

pub loop-ends-preserved : goal.loop-ends-preserved
loop-ends-preserved c = λ root bodies are.
    let popped : c.pop-end.new.self.items ≡ take (length c.loop-ends.ends.items - 1) c.loop-ends.ends.items = search rules in
    one_remaining root c.args.remaining (λ rest. Unit {0}) (λ rest. Unit {0}) c.loop-ends.ends.items c.pop-end.new.self.items bodies
    (ap (has_ended c.args.remaining) (sym c.deref.ensures.value) ∙ sym c.has_ended.ensures ∙ c.loop-ends-test.true) popped (λ e es known. tt)
    (c.loop-ends.invariant root bodies are)

pub returns : goal.returns
returns c = λ root bodies are.
    (all_remaining root c.args.remaining (λ rest. Unit {0}) c.loop-ends.ends.items bodies
    (ap (has_ended c.args.remaining) (sym c.deref.ensures.value) ∙ sym c.has_ended.ensures ∙ c.loop-ends-test.false)
    (c.loop-ends.invariant root bodies are)).1
