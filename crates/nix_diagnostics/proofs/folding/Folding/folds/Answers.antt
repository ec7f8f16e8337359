use Rattle.std.proofs.Common.{◌∙◌, rules, sym}
use Rattle.rnix_grammar.specs.Fault.{fault_of}
use Rattle.nix_diagnostics.proofs.FollowingLemmas.{judged_extra, judged_name, fits_other}
use Rattle.nix_diagnostics.proofs.folding.Folding.folds.Goals as goal

pub returns-then-is_extra : goal.returns-then-is_extra
returns-then-is_extra c = λ all before known.
    let root = c.args.root.now in
    let fault = fault_of c.args.error.now in (
      judged_extra root all before fault c.args.self.now c.is_some.result known (sym c.is_extra.ensures ∙ c.if-is_extra.true) (search rules),
      fits_other root all before fault c.args.self.now known (sym c.is_token_error.ensures ∙ c.if-is_token_error.false),
    )

pub returns-else-is_extra : goal.returns-else-is_extra
returns-else-is_extra c = λ all before known.
    let root = c.args.root.now in
    let fault = fault_of c.args.error.now in
    let other = sym c.is_token_error.ensures ∙ c.if-is_token_error.false in (
      judged_name root all before fault c.args.self.now c.is_inside.result known other (sym c.is_extra.ensures ∙ c.if-is_extra.false) c.is_inside.ensures,
      fits_other root all before fault c.args.self.now known other,
    )
