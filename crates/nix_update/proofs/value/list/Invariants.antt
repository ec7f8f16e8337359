use Rattle.std.{proofs.Common.string_bytes, specs.Str.Iter.split_whitespace_rest}
use Rattle.nix_update.proofs.WordLemmas.{ListedBefore}
use Rattle.nix_update.proofs.value.list.Given as goal

-- the words so far are listed
abbrev pub invariant-loop-word : goal.invariant-loop-word
invariant-loop-word l = ListedBefore l.text (split_whitespace_rest l.word-iterator) (string_bytes l.list)
