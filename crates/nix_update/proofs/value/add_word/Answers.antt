use Rattle.std.proofs.Common.{string_bytes}
use Rattle.nix_update.proofs.WordLemmas.{item_added}
use Rattle.nix_update.proofs.value.add_word.Goals as goal

pub returns : goal.returns
returns c = item_added (string_bytes c.args.list.now) _ _ c.args.word.now c.in_ok-push_quoted.ensures.text c.in_ok-push.ensures.bytes
