use Rattle.{std.proofs.Common.{◌≡◌, take}, rnix_kinds.specs.TokenSet.set_of}
use Rattle.rnix_kinds.proofs.token_set.TokenSet.from_slice.Given as goal

abbrev pub invariant-loop-kind : goal.invariant-loop-kind
invariant-loop-kind l = l.set ≡ set_of (take l.kind-index l.kinds)
