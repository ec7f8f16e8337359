use Rattle.std.proofs.Common.{length}
use Rattle.std.specs.Str.{IsUtf8, chars}
use Rattle.nix_values.specs.Each.{each}
use Rattle.nix_values.specs.PathNames.{progress_of, started, letter_read}
use Rattle.nix_values.proofs.EachLemmas.{IsRest}
use Rattle.nix_values.proofs.path_names.names_of.Given as goal

-- the remaining characters lead to the end of the path
abbrev pub invariant-loop-letter : goal.invariant-loop-letter
invariant-loop-letter l = record {
  utf8 : IsUtf8 l.letters.rest.now;
  rest : IsRest letter_read (chars l.letters.rest.now) (progress_of l.reading) (each letter_read (chars l.path) started);
}

abbrev pub decreases-loop-letter : goal.decreases-loop-letter
decreases-loop-letter l = length l.letters.rest.now
