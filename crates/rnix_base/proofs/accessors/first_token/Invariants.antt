use Rattle.{std.proofs.Common.{◌≡◌, find, length}, rnix_green.specs.Equality.same_kind, rnix_base.specs.Select.{has_kind, tokens_in, token_of}}
use Rattle.rnix_base.proofs.accessors.first_token.Given as goal

abbrev pub invariant-loop-element : goal.invariant-loop-element
invariant-loop-element l = find (has_kind (same_kind l.fn.kind)) (tokens_in l.elements) ≡ token_of (same_kind l.fn.kind) l.fn.parent

abbrev pub decreases-loop-element : goal.decreases-loop-element
decreases-loop-element l = length l.elements
