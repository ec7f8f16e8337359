use Rattle.std.specs.{List.flat_map, Io.KnownBytes.Appends}
use Rattle.nix_cli.specs.Excerpt.{shown}
use Rattle.nix_cli.proofs.excerpt.write_letters.Given as goal

-- the characters so far are written as they are shown
abbrev pub invariant-loop-letter : goal.invariant-loop-letter
invariant-loop-letter g l = Appends (g.W.Write.contents l.initial.out) (g.W.Write.contents l.out) (flat_map shown l.yielded)
