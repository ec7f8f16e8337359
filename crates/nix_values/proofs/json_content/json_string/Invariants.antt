use Rattle.std.proofs.Common.{length, string_bytes}
use denote.Text.{Utf8}
use denote.Shadow.{shadow}
use Rattle.nix_values.proofs.JsonContentLemmas.{IsReadTo}
use Rattle.nix_values.proofs.JsonStringErrorLemmas.{HasErrorIn}
use Rattle.nix_values.proofs.json_content.json_string.Given as goal

-- what has been read, and what remains
abbrev pub invariant-loop-rest : goal.invariant-loop-rest
invariant-loop-rest l = shadow (Utf8 l.rest) × IsReadTo l.text (string_bytes l.value) l.rest × HasErrorIn l.start l.text l.rest

abbrev pub decreases-loop-rest : goal.decreases-loop-rest
decreases-loop-rest l = length l.rest
