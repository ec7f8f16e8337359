use Rattle.std.{proofs.Common.{◌≡◌, take}, specs.Prelude.fold}
use Rattle.{rnix_base.specs.Normal.borrowed, nix_formatting.specs.Values.with_symbols}
use Rattle.nix_formatting.proofs.values.add_all_written.Given as goal

abbrev pub invariant-loop-part : goal.invariant-loop-part
invariant-loop-part l = l.symbols.items ≡ fold with_symbols l.initial.symbols.items (borrowed (take l.part-index l.parts))
