use Rattle.std.specs.{List.flat_map, Io.KnownBytes.Appends}
use Rattle.nix_cli.specs.Excerpt.{carets}
use Rattle.nix_cli.proofs.excerpt.write_carets.Given as goal

-- the carets below the characters so far are written
abbrev pub invariant-loop-letter : goal.invariant-loop-letter
invariant-loop-letter g l = Appends (g.W.Write.contents l.initial.out) (g.W.Write.contents l.out) (flat_map carets l.yielded)
