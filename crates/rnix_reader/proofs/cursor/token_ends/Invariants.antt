use Rattle.{std.{proofs.Common.{◌≡◌, ◌+◌, ◌++◌, length}, specs.List.flat_map}, rnix_kinds.specs.Lexical.Tokens.text_of, rnix_reader.specs.Placed.ends_from}
use Rattle.rnix_reader.proofs.cursor.token_ends.Given as goal

abbrev pub invariant-loop-token : goal.invariant-loop-token
invariant-loop-token l = (l.ends.items ++ ends_from l.end l.tokens ≡ ends_from 0 l.fn.tokens) × (l.end + length (flat_map text_of l.tokens) ≡ l.whole)

abbrev pub decreases-loop-token : goal.decreases-loop-token
decreases-loop-token l = length l.tokens
