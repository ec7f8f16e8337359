use Rattle.std.proofs.Common.{ap, ◌∙◌, ◌++◌}
use Rattle.std.specs.Str.Iter.{split_inclusive_text, split_inclusive_pattern}
use Rattle.nix_diff.specs.Diff.{lines_of, texts_of}
use Rattle.nix_diff.proofs.DiffLemmas.{line_next, no_line_next}
use Rattle.nix_diff.proofs.diff.lines_of.Goals as goal

pub loop-line-init : goal.loop-line-init
loop-line-init c = record {
  pattern = ap split_inclusive_pattern c.into_iter-line-iterator.ensures.into_iter_gives ∙ c.split_inclusive-line-items.ensures.pattern;
  lines = ap (λ xs. texts_of xs ++ lines_of (split_inclusive_text c.into_iter-line-iterator.result)) c.new-lines.ensures.items
      ∙ ap (λ s. lines_of (split_inclusive_text s)) c.into_iter-line-iterator.ensures.into_iter_gives ∙ ap lines_of c.split_inclusive-line-items.ensures.text;
}

pub loop-line-preserved : goal.loop-line-preserved
loop-line-preserved c = record {
  pattern = c.in-Some.ensures.steps.0 ∙ c.loop-line.invariant.pattern;
  lines = line_next c.loop-line.lines.items c.push.new.self.items _ (split_inclusive_text c.loop-line.line-iterator) (split_inclusive_text c.next.new.self)
      (split_inclusive_pattern c.loop-line.line-iterator) (lines_of c.args.text.now) c.in_ok-push.ensures.items c.loop-line.invariant.pattern
      c.in-Some.ensures.steps.1.0 c.in-Some.ensures.steps.1.1 c.loop-line.invariant.lines;
}

pub returns : goal.returns
returns c = no_line_next c.loop-line.lines.items (split_inclusive_text c.loop-line.line-iterator) (lines_of c.args.text.now) c.in-None.ensures.steps.1.0
    c.loop-line.invariant.lines
