use Rattle.std.proofs.Common.{refl}
use Rattle.nix_diff.proofs.DiffLemmas.{common_added}
use Rattle.nix_diff.proofs.diff.add_old.Goals as goal

pub returns-then-is_same-clause-news : goal.returns-then-is_same-clause-news
returns-then-is_same-clause-news c =
    common_added c.args.diff.now.items c.add_new.new.diff.items c.push.new.self.items c.args.news.now _ c.count_before-before.result c.args.line.now.text _
    c.if-before-news.true refl (c.is_same.ensures c.if-is_same.true) c.in_ok-add_new.ensures.news c.in_ok-push.ensures.items
