use Rattle.nix_dead.proofs.ReferenceLemmas.{all_passed}
use Rattle.nix_dead.proofs.meaning.are_alike.Goals as goal

pub returns : goal.returns
returns c =
    all_passed c.args.removals.now c.args.numbers.now c.args.olds.now c.args.news.now c.loop-old.old-index c.loop-old.next _ c.loop-old-test.false
    c.loop-old.invariant.within c.loop-old.invariant.decide
