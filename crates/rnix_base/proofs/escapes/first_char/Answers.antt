use Rattle.std.{proofs.{Common.{arith, sym, ◌∙◌, subst}, Math.Nat.zero-add, lemmas.Str.IsCharBoundary-past_char}, specs.Str.IsCharBoundary}
use Rattle.rnix_base.proofs.escapes.first_char.Goals as goal

pub split_at-requires : goal.split_at-requires
split_at-requires c =
    let past = IsCharBoundary-past_char c.args.text.now _ 0 c.in_ok-c.c (omega arith) c.utf8.text
    (sym c.chars-chars.ensures.rest ∙ c.in_ok-c.ensures.steps.0) in
    rw c.len_utf8.ensures.value (subst (IsCharBoundary c.args.text.now) (zero-add _) past)
