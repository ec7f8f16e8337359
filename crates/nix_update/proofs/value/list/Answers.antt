use Rattle.std.proofs.Common.{◌∙◌, ap}
use Rattle.std.specs.Str.Iter.{split_whitespace_rest}
use Rattle.nix_update.proofs.WordLemmas.{none_listed, word_listed, all_listed}
use Rattle.nix_update.proofs.value.list.Goals as goal

pub loop-word-init : goal.loop-word-init
loop-word-init c =
    none_listed c.args.text.now _ _
    (ap split_whitespace_rest c.into_iter-word-iterator.ensures.into_iter_gives ∙ c.split_whitespace-word-items.ensures.rest)
    c.in_ok-list.ensures.ok

pub loop-word-preserved : goal.loop-word-preserved
loop-word-preserved c =
    word_listed c.args.text.now _ _ c.in-Some.word.now _ _ c.loop-word.invariant c.in-Some.ensures.steps c.in_ok-add_word.ensures

pub returns : goal.returns
returns c = all_listed c.args.text.now _ _ _ c.loop-word.invariant c.in-None.ensures.steps.1 c.in_ok-push.ensures.bytes
