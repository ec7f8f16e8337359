use Rattle.std.proofs.Common.{◌∙◌, ap, refl}
use Rattle.rnix_green.specs.Range.{Extent}
use Rattle.rnix_grammar.specs.Fault.{fault_of}
use Rattle.nix_diagnostics.specs.FaultNodes.{group_around}
use Rattle.nix_diagnostics.proofs.FollowingLemmas.{independent_known, judged_token_error, skips_known, lost_known, unbalanced_known, fits_token_error}
use Rattle.nix_diagnostics.proofs.folding.Folding.add_token_error.Goals as goal

pub returns : goal.returns
returns c = λ all before known.
    let root = c.args.root.now in
    let fault = fault_of c.args.error.now in
    let f = c.args.self.now in
    let location = c.args.location in
    let token_error = c.requires.token_error in
    let at = c.requires.location in
    let group = c.group_of-group.ensures ∙ ap group_around c.requires.node in
    let independent = c.is_independent-is_independent.ensures ∙ independent_known root all before fault f location known at in
    let skipped = skips_known root all before fault f _ _ known c.requires.node c.skips_if-skips.ensures in (
      judged_token_error root all before fault f _ _ location _ known at token_error independent group c.follows-follows.ensures,
      fits_token_error root all before fault f _ _ _ known token_error (c.end-end.ensures.value ∙ ap (λ (e : Extent). e.end) at)
          c.reach_to.ensures refl refl refl refl refl refl refl refl group
          (lost_known root all before fault f _ _ location _ known at token_error independent skipped c.is_lost_at-is_lost.ensures)
          (unbalanced_known root all before fault f _ _ known token_error skipped c.is_unbalanced_at-is_unbalanced.ensures),
    )
