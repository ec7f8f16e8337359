use Rattle.std.proofs.Common.{true, false, map, string_bytes, subst}
use Rattle.nix_update.specs.Sources.{IsSought, IsNoSource}
use Rattle.nix_update.proofs.source.source_along.Goals as goal

pub returns-in-Refused : goal.returns-in-Refused
returns-in-Refused c =
    IsNoSource.of_sets (subst (IsSought false (map string_bytes c.args.names.now) c.args.steps.now) c.in-Refused.is c.in_ok-text.ensures)

pub returns-in-Refused-2 : goal.returns-in-Refused-2
returns-in-Refused-2 c =
    let names = map string_bytes c.args.names.now in
    let steps = c.args.steps.now in
    IsNoSource.of_let (subst (IsSought false names steps) c.in-Missing.is c.in_ok-text.ensures)
    (subst (IsSought true names steps) c.in-Refused-2.is c.in_ok-text-2.ensures)
