use Rattle.std.proofs.Common.{◌∙◌, ap, sym, string_bytes, ◌++◌}
use Rattle.{rnix_base.specs.Value.{with_line_feeds, letter_with_line_feed}, rnix_base.proofs.LineFeedLemmas.{line_feeds_kept, all_line_feeds}}
use Rattle.rnix_base.proofs.value.with_line_feeds.Goals as goal

pub loop-letter-preserved : goal.loop-letter-preserved
loop-letter-preserved c =
    line_feeds_kept c.args.text.now _ _ _ _ _ c.in-Some.letter c.loop-letter.invariant c.in-Some.ensures.steps.0
    (c.in_ok-push_with_line_feed.ensures
    ∙ ap (λ r. string_bytes c.loop-letter.made ++ letter_with_line_feed c.in-Some.letter r c.loop-letter.is_escaped) c.as_str.ensures)
    ∙ ap (λ e. string_bytes c.push_with_line_feed.new.made ++ with_line_feeds e c.next.new.self.rest.now) (sym c.is_escape-is_escaped.ensures)

pub returns : goal.returns
returns c = all_line_feeds c.args.text.now _ _ _ c.loop-letter.invariant c.in_default.ensures.steps.0.0
