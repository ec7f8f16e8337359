use Rattle.{std.proofs.Common.{◌≡◌, ◌-◌, ℕ, List, length, drop}, rnix_grammar.specs.Layout.from_item, rnix_reader.specs.Placed.tokens_cut}
use Rattle.rnix_reader.proofs.cursor.item_from.Given as goal

abbrev pub invariant-loop-at : goal.invariant-loop-at
invariant-loop-at l = (text : List ℕ) → from_item (drop l.at (tokens_cut text 0 l.tokens)) ≡ from_item (drop l.from (tokens_cut text 0 l.tokens))

abbrev pub decreases-loop-at : goal.decreases-loop-at
decreases-loop-at l = length l.tokens - l.at
