use Rattle.std.proofs.Common.{◌≡◌}
use Rattle.nix_formatting.specs.SpaceChange.{visible_tokens_from, visible_tokens_of}
use Rattle.nix_formatting.proofs.alike.have_same_visible_tokens.Given as goal

abbrev pub invariant-loop : goal.invariant-loop
invariant-loop l = visible_tokens_from l.in_path l.news ≡ visible_tokens_from l.in_path l.olds → visible_tokens_of l.fn.new ≡ visible_tokens_of l.fn.old
