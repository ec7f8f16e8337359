use Rattle.{std.proofs.Common.{false, codes}, rnix_base.proofs.EscapeLemmas.{strip_gives, escape_begins, quote_end, quote_free}}
use Rattle.rnix_base.proofs.escapes.quoted_piece.Goals as goal

pub returns-in-Some : goal.returns-in-Some
returns-in-Some c = escape_begins false c.args.text.now c.in-Some.rest.now c.escape.result
    (strip_gives (codes "\\") _ _ c.in-Some.ensures.cases) c.escape.ensures

pub returns-then-starts_with : goal.returns-then-starts_with
returns-then-starts_with c = quote_end c.args.text.now c.if-starts_with.ensures.cases

pub plain_run-requires : goal.plain_run-requires
plain_run-requires c = quote_free c.args.text.now c.if-starts_with.ensures.cases c.in_default.ensures.cases
