use Rattle.std.proofs.Common.{rules, ◌≡◌, ◌-◌, ◌∙◌, length, take, ap, sym}
use Rattle.{nix_scopes.{specs.Resolving.{has_ended, which_are_scopes}, proofs.EndLemmas.{one_remaining, all_remaining, scopes_remaining}}}
use Rattle.nix_scopes.proofs.environment.leave_sets.Goals as goal

pub loop-ends-preserved : goal.loop-ends-preserved
loop-ends-preserved c = λ root sets h.
    let popped : c.pop-end.new.self.items ≡ take (length c.loop-ends.ends.items - 1) c.loop-ends.ends.items = search rules in
    let popped_scopes : c.pop-scope.new.self.items ≡ take (length c.loop-ends.scopes.items - 1) c.loop-ends.scopes.items = search rules in
    one_remaining root c.args.remaining (λ rest. c.loop-ends.scopes.items ≡ which_are_scopes rest) (λ rest. c.pop-scope.new.self.items ≡ which_are_scopes rest)
    c.loop-ends.ends.items c.pop-end.new.self.items sets
    (ap (has_ended c.args.remaining) (sym c.deref.ensures.value) ∙ sym c.has_ended.ensures ∙ c.loop-ends-test.true) popped
    (λ e es known. scopes_remaining c.loop-ends.scopes.items c.pop-scope.new.self.items e es popped_scopes known)
    (c.loop-ends.invariant root sets h)

pub returns : goal.returns
returns c = λ root sets h.
    all_remaining root c.args.remaining (λ rest. c.loop-ends.scopes.items ≡ which_are_scopes rest) c.loop-ends.ends.items sets
    (ap (has_ended c.args.remaining) (sym c.deref.ensures.value) ∙ sym c.has_ended.ensures ∙ c.loop-ends-test.false)
    (c.loop-ends.invariant root sets h)
