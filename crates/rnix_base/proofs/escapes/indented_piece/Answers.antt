use Rattle.{std.proofs.Common.{true, codes}, rnix_base.proofs.EscapeLemmas.{strip_gives, primes_begin, dollar_begins, escape_begins, primes_end}}
use Rattle.rnix_base.proofs.EscapeLemmas.{primes_free}
use Rattle.rnix_base.proofs.escapes.indented_piece.Goals as goal

pub returns-in-Some : goal.returns-in-Some
returns-in-Some c = primes_begin c.args.text.now c.in-Some.rest.now (strip_gives (codes "'''") _ _ c.in-Some.ensures.cases)

pub returns-in-Some-strip_prefix : goal.returns-in-Some-strip_prefix
returns-in-Some-strip_prefix c = dollar_begins c.args.text.now c.in-Some-strip_prefix.rest.now
    (strip_gives (codes "''$") _ _ c.in-Some-strip_prefix.ensures.cases)

pub returns-in-Some-strip_prefix-2 : goal.returns-in-Some-strip_prefix-2
returns-in-Some-strip_prefix-2 c = escape_begins true c.args.text.now c.in-Some-strip_prefix-2.rest.now c.escape.result
    (strip_gives (codes "''\\") _ _ c.in-Some-strip_prefix-2.ensures.cases) c.escape.ensures

pub returns-then-starts_with : goal.returns-then-starts_with
returns-then-starts_with c = primes_end c.args.text.now c.in_default.ensures.cases c.in_default-strip_prefix.ensures.cases
    c.in_default-strip_prefix-2.ensures.cases c.if-starts_with.ensures.cases

pub plain_run-requires : goal.plain_run-requires
plain_run-requires c = primes_free c.args.text.now c.in_default.ensures.cases c.in_default-strip_prefix.ensures.cases
    c.in_default-strip_prefix-2.ensures.cases c.if-starts_with.ensures.cases
