use Rattle.{std.proofs.Common.{sym, ap, arith}, rnix_kinds.specs.declared.kinds.SyntaxKind.TheVariants.TOKEN_ADD, rnix_grammar.specs.AnnotatedForest.head_of}
use Rattle.rnix_reader.{specs.declared.cursor.TokenEnd.TokenEnd, proofs.CursorLemmas.{IsCut, behind_all, cut_at_token, token_found}}
use Rattle.rnix_reader.proofs.cursor.token_at.Goals as goal

pub range-requires-clause-start_le_end : goal.range-requires-clause-start_le_end
range-requires-clause-start_le_end c = rw (c.start_at-start.ensures)
    (IsCut.order (cut_at_token c.args.text.now c.args.tokens.now c.args.at _ c.utf8.text c.requires c.if-at-tokens.true))

pub range-requires-clause-start_boundary : goal.range-requires-clause-start_boundary
range-requires-clause-start_boundary c =
    let any : TokenEnd = record { kind = TOKEN_ADD; end = 0 } in
    λ _. rw (c.start_at-start.ensures) (IsCut.at_start
    (cut_at_token c.args.text.now c.args.tokens.now c.args.at any c.utf8.text c.requires c.if-at-tokens.true))

pub range-requires-clause-end_boundary : goal.range-requires-clause-end_boundary
range-requires-clause-end_boundary c = IsCut.at_end (cut_at_token c.args.text.now c.args.tokens.now c.args.at _ c.utf8.text c.requires c.if-at-tokens.true)

pub returns-then-at-tokens : goal.returns-then-at-tokens
returns-then-at-tokens c = token_found c.args.text.now c.args.tokens.now c.args.at _ _ _ c.if-at-tokens.true c.start_at-start.ensures c.range.ensures.value

pub returns : goal.returns
returns c = sym (ap head_of (behind_all c.args.text.now c.args.tokens.now c.args.at (omega (arith, c.if-at-tokens.false))))
