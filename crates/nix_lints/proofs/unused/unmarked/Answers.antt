use Rattle.{std.proofs.Common.{◌++◌, ◌∙◌, ap, sym}, nix_lints.{specs.UnusedNames.unmarked, proofs.UnusedLemmas.unmarked_more}}
use Rattle.nix_lints.proofs.unused.unmarked.Goals as goal

pub loop-number-preserved : goal.loop-number-preserved
loop-number-preserved c =
    c.in_ok-add_unused.ensures
    ∙ ap (λ xs. xs ++ unmarked c.args.is_used.now c.args.patterns.now c.loop-number.number c.index-bindings-number.result) c.loop-number.invariant
    ∙ sym (unmarked_more c.args.is_used.now c.args.patterns.now c.args.bindings.now c.loop-number.number c.index-bindings-number.result c.loop-number-test.true
    c.index-bindings-number.is)
