use Rattle.{std.proofs.Common.{◌≡◌, ◌++◌, false, string_bytes}, rnix_base.specs.Value.with_line_feeds}
use Rattle.rnix_base.proofs.value.with_line_feeds.Given as goal

abbrev pub invariant-loop-letter : goal.invariant-loop-letter
invariant-loop-letter l = with_line_feeds false l.text ≡ string_bytes l.made ++ with_line_feeds l.is_escaped l.letters.rest.now
