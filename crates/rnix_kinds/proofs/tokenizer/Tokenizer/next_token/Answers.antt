use Rattle.{std.proofs.Common.{◌≡◌, ◌<◌, [], length, take, drop, sym, ◌∙◌, ap, subst, arith, true-eqb, false-eqb}, rnix_kinds.specs.Lexical.Tokens.cut_at}
use Rattle.rnix_kinds.{specs.Lexical.{Tokens.{top, without_ended_paths, tokens_under, OpensFirst}, Ahead.IsAhead}, proofs.LexicalLemmas.TokensLemmas.nil_from_length}
use Rattle.rnix_kinds.proofs.LexicalLemmas.TokensLemmas.{tokens_under-nil, tokens_under-cut, tokens_under-settled, IsPathGoingOn-settled, CountsFit-settled}
use Rattle.rnix_kinds.proofs.LexicalLemmas.{TokensLemmas.{CountsFit-changed, HasRoom-fit, opens_first}, WordsLemmas.IsAhead-pass}
use Rattle.rnix_kinds.proofs.tokenizer.Tokenizer.next_token.Goals as goal

pub returns-then-is_empty : goal.returns-then-is_empty
returns-then-is_empty c =
    let none : c.self.inside.rest.now ≡ [] = nil_from_length _ (true-eqb _ 0 c.if-is_empty.ensures) in
    let end = sym c.self.view_is ∙ ap (tokens_under c.self.inside.modes) none ∙ tokens_under-nil c.self.inside.modes in
    (end, end)

pub cut_at-cut-requires-clause-room : goal.cut_at-cut-requires-clause-room
cut_at-cut-requires-clause-room c =
    let some : 0 < length c.self.inside.rest.now = omega (arith, false-eqb _ 0 c.if-is_empty.ensures) in
    rw (c.top.ensures, c.leave_ended_paths.ensures) (HasRoom-fit (length c.self.inside.rest.now)
    (without_ended_paths c.self.inside.modes c.self.inside.rest.now) some
    (CountsFit-settled _ c.self.inside.modes c.self.inside.rest.now c.self.invariant.0))

pub cut_at-cut-requires-clause-goes_on : goal.cut_at-cut-requires-clause-goes_on
cut_at-cut-requires-clause-goes_on c = rw (c.top.ensures, c.leave_ended_paths.ensures) (IsPathGoingOn-settled c.self.inside.modes c.self.inside.rest.now)

pub invariant_of-self : goal.invariant_of-self
invariant_of-self c = (
  rw (c.in-Err.ensures.err, c.leave_ended_paths.ensures)
      (CountsFit-settled _ c.self.inside.modes c.self.inside.rest.now c.self.invariant.0),
  c.cut_at-cut.ensures.ahead,
)

pub returns-in-Err : goal.returns-in-Err
returns-in-Err c =
    let good = c.cut_at-cut.ensures.good in
    let some : 0 < length c.self.inside.rest.now = omega (arith, false-eqb _ 0 c.if-is_empty.ensures) in
    let cut : cut_at (top (without_ended_paths c.self.inside.modes c.self.inside.rest.now)) c.self.inside.rest.now ≡ c.cut_at-cut.result =
    sym (rw (c.top.ensures, c.leave_ended_paths.ensures) at c.cut_at-cut.ensures.cut) in
    let turn = tokens_under-cut c.self.inside.modes c.self.inside.rest.now c.cut_at-cut.result some cut good.some in
    let first = subst OpensFirst (sym (sym c.self.view_is ∙ turn))
    (opens_first c.cut_at-cut.result (without_ended_paths c.self.inside.modes c.self.inside.rest.now) (take c.cut_at-cut.result.len c.self.inside.rest.now)
    (drop c.cut_at-cut.result.len c.self.inside.rest.now) (good.opener c.in-Err.ensures.memory)) in
    rw (c.in-Err.ensures.err, c.leave_ended_paths.ensures) (tokens_under-settled c.self.inside.modes c.self.inside.rest.now ∙ c.self.view_is, first)

pub split_at-requires : goal.split_at-requires
split_at-requires c = c.cut_at-cut.ensures.good.boundary

pub invariant_of-self-2 : goal.invariant_of-self-2
invariant_of-self-2 c =
    let good = c.cut_at-cut.ensures.good in
    let some : 0 < length c.self.inside.rest.now = omega (arith, false-eqb _ 0 c.if-is_empty.ensures) in
    let open_modes = without_ended_paths c.self.inside.modes c.self.inside.rest.now in
    let less : length c.split_at.result.1.now < length c.self.inside.rest.now = omega (arith, good.some, c.split_at.ensures.back_len) in (
      rw (c.in_default.ensures.ok, c.leave_ended_paths.ensures)
          (CountsFit-changed (length c.split_at.result.1.now) (length c.self.inside.rest.now) c.cut_at-cut.result.change open_modes less
          (rw (c.top.ensures, c.leave_ended_paths.ensures) at good.counted)
          (CountsFit-settled _ c.self.inside.modes c.self.inside.rest.now c.self.invariant.0)),
      subst (IsAhead c.cut_at-cut.new.ahead) (sym c.split_at.ensures.back)
          (IsAhead-pass c.cut_at-cut.new.ahead c.cut_at-cut.result.len c.self.inside.rest.now c.cut_at-cut.ensures.ahead),
    )

pub returns : goal.returns
returns c =
    let good = c.cut_at-cut.ensures.good in
    let some : 0 < length c.self.inside.rest.now = omega (arith, false-eqb _ 0 c.if-is_empty.ensures) in
    let cut : cut_at (top (without_ended_paths c.self.inside.modes c.self.inside.rest.now)) c.self.inside.rest.now ≡ c.cut_at-cut.result =
    sym (rw (c.top.ensures, c.leave_ended_paths.ensures) at c.cut_at-cut.ensures.cut) in
    let turn = tokens_under-cut c.self.inside.modes c.self.inside.rest.now c.cut_at-cut.result some cut good.some in
    rw (c.split_at.ensures.front, c.split_at.ensures.back, c.in_default.ensures.ok, c.leave_ended_paths.ensures) (sym c.self.view_is ∙ turn)
