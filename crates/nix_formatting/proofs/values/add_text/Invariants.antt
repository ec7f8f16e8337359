use Rattle.std.proofs.Common.{◌≡◌, ◌++◌, take}
use Rattle.nix_formatting.proofs.values.add_text.Given as goal

abbrev pub invariant-loop-byte : goal.invariant-loop-byte
invariant-loop-byte l = l.symbols.items ≡ l.initial.symbols.items ++ take l.byte-index l.text
