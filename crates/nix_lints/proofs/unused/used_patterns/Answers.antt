use Rattle.{std.{proofs.Common.{◌∙◌, ap, sym}, specs.Prelude.◌||◌}, nix_lints.{specs.UnusedNames.is_marked_pattern_name, proofs.UnusedLemmas.pattern_more}}
use Rattle.nix_lints.proofs.unused.used_patterns.Goals as goal

pub loop-number-preserved : goal.loop-number-preserved
loop-number-preserved c = λ start.
    c.in_ok-add_used_pattern.ensures start
    ∙ ap (λ b. b || is_marked_pattern_name c.args.is_used.now start c.loop-number.number c.index-bindings-number.result) (c.loop-number.invariant start)
    ∙ sym (pattern_more c.args.is_used.now start c.args.bindings.now c.loop-number.number c.index-bindings-number.result c.loop-number-test.true
    c.index-bindings-number.is)
