use Rattle.{std.proofs.Common.{◌≡◌, ◌++◌, length, string_bytes}, rnix_base.specs.Indent.{kept, remaining_behind}}
use Rattle.rnix_base.proofs.indent.unindented.Given as goal
use denote.Text.{Utf8}
use denote.Shadow.{shadow}

abbrev pub invariant-loop-rest : goal.invariant-loop-rest
invariant-loop-rest l = shadow (Utf8 l.rest) × record {
  kept : kept l.least l.fn.remaining l.text ≡ string_bytes l.kept ++ kept l.least l.remaining l.rest;
  remaining : remaining_behind l.least l.fn.remaining l.text ≡ remaining_behind l.least l.remaining l.rest;
}

abbrev pub decreases-loop-rest : goal.decreases-loop-rest
decreases-loop-rest l = length l.rest
