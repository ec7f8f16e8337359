use Rattle.std.proofs.Common.{arith, ◌≡◌, ◌∙◌, ◌-◌, take, ap, sym, subst}
use Rattle.std.proofs.lemmas.Str.Pattern.{NoCharPasses-char}
use Rattle.nix_diff.specs.Diff.{line_feed, HasNoLineFeed}
use Rattle.nix_diff.proofs.unified.first_line.Goals as goal

pub returns-in-Some : goal.returns-in-Some
returns-in-Some c =
    let whole : c.in-Some.end - 0 ≡ c.in-Some.end = omega arith in
    subst HasNoLineFeed (sym (c.range.ensures.value ∙ ap (λ n. take n c.args.text.now) whole))
    (λ i less. NoCharPasses-char line_feed (take c.in-Some.end c.args.text.now) i c.in-Some.ensures.cases.1.0 (omega arith) less)

pub returns-in-None : goal.returns-in-None
returns-in-None c = λ i less. NoCharPasses-char line_feed c.args.text.now i c.in-None.ensures.cases (omega arith) less
