use Rattle.{std.proofs.Common.{◌≡◌, find, length}, rnix_base.specs.Select.{has_kind, tokens_in, token_of}}
use Rattle.rnix_base.proofs.accessors.child_token.Given as goal

abbrev pub invariant-loop-element : goal.invariant-loop-element
invariant-loop-element g l = find (has_kind g.T.AstToken.kinds) (tokens_in l.elements) ≡ token_of g.T.AstToken.kinds l.fn.parent

abbrev pub decreases-loop-element : goal.decreases-loop-element
decreases-loop-element g l = length l.elements
