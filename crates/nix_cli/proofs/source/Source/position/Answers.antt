use Rattle.std.proofs.Common.{arith, rules}
use Rattle.nix_cli.proofs.CountedLocations.{location_fits}
use Rattle.nix_cli.proofs.source.Source.position.Goals as goal

pub overflow_add-result : goal.overflow_add-result
overflow_add-result c =
    let s = c.args.self.now in
    let fits = location_fits s.text.now s.index.now c.args.offset c.in-Some.location c.requires c.in-Some.ensures.0 c.in-Some.ensures.1 (search rules) in
    omega (arith, fits.0)

pub overflow_add-result-in-Some : goal.overflow_add-result-in-Some
overflow_add-result-in-Some c =
    let s = c.args.self.now in
    let fits = location_fits s.text.now s.index.now c.args.offset c.in-Some.location c.requires c.in-Some.ensures.0 c.in-Some.ensures.1 (search rules) in
    omega (arith, fits.1)
