use Rattle.{std.proofs.Common.{◌≡◌, ◌++◌, length, string_bytes}, rnix_base.specs.Escapes.unescaped}
use Rattle.rnix_base.proofs.escapes.unescape.Given as goal
use denote.Text.{Utf8}
use denote.Shadow.{shadow}

abbrev pub invariant-loop-piece : goal.invariant-loop-piece
invariant-loop-piece l = shadow (Utf8 l.rest) × (unescaped l.multiline l.text ≡ string_bytes l.value ++ unescaped l.multiline l.rest)

abbrev pub decreases-loop-piece : goal.decreases-loop-piece
decreases-loop-piece l = length l.rest
