use Rattle.std.proofs.Common.{◌≡◌, ◌+◌, ◌-◌, length, arith}
use Rattle.nix_values.proofs.JsonStateLemmas.{inside_last}
use Rattle.nix_values.proofs.json_reader.Reading.innermost.Goals as goal

pub returns-else-count-eq0-clause-some : goal.returns-else-count-eq0-clause-some
returns-else-count-eq0-clause-some c =
    let len : length c.args.self.now.frames.items ≡ c.len-count.result - 1 + 1 = omega (arith, c.len-count.ensures, c.if-count-eq0.false) in
    inside_last c.args.self.now.frames.items (c.len-count.result - 1) c.index.result.now len c.index.ensures
