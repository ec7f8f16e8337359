use Rattle.std.proofs.Common.{◌≡◌, length}
use Rattle.nix_formatting.specs.SpaceChange.{visible_tokens_from}
use Rattle.nix_formatting.proofs.alike.next_visible.Given as goal

abbrev pub invariant-loop-token : goal.invariant-loop-token
invariant-loop-token l = visible_tokens_from l.in_path l.tokens ≡ visible_tokens_from l.initial.in_path l.initial.tokens

abbrev pub decreases-loop-token : goal.decreases-loop-token
decreases-loop-token l = length l.tokens
