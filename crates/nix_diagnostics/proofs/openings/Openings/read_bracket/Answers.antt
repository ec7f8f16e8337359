use Rattle.std.proofs.Common.{◌∙◌, ap, sym, reverse, false}
use Rattle.nix_diagnostics.proofs.UnmatchedLemmas.{stays, found_now, read_on, opened, not_opened}
use Rattle.nix_diagnostics.proofs.openings.Openings.read_bracket.Goals as goal

pub returns-then-is_some : goal.returns-then-is_some
returns-then-is_some c = λ spots.
    let old = c.args.self.now in
    stays old.extra (reverse old.opened.items) (false, c.args.token.now) spots (sym c.is_some.ensures ∙ c.if-is_some.true)

pub returns-then-closes_none : goal.returns-then-closes_none
returns-then-closes_none c = λ spots.
    let old = c.args.self.now in
    found_now old.extra (reverse old.opened.items) (reverse c.closes_none.new.opened.items) c.args.token.now c.args.kind c.text_range.result spots
    (sym c.is_some.ensures ∙ c.if-is_some.false) c.requires (sym c.closes_none.ensures.none ∙ c.if-closes_none.true) c.text_range.ensures

pub returns-then-opens : goal.returns-then-opens
returns-then-opens c = λ spots.
    let old = c.args.self.now in
    let kind = c.args.kind in
    let remaining = c.closes_none.new.opened.items in
    read_on old.extra (reverse old.opened.items) (reverse c.push.new.self.items) c.args.token.now kind spots
    (sym c.is_some.ensures ∙ c.if-is_some.false) c.requires (sym c.closes_none.ensures.none ∙ c.if-closes_none.false)
    (ap reverse c.in_ok-push.ensures.items
    ∙ opened kind (reverse old.opened.items) remaining (sym c.opens.ensures ∙ c.if-opens.true) c.closes_none.ensures.remaining)

pub returns : goal.returns
returns c = λ spots.
    let old = c.args.self.now in
    let kind = c.args.kind in
    let remaining = c.closes_none.new.opened.items in
    read_on old.extra (reverse old.opened.items) (reverse remaining) c.args.token.now kind spots
    (sym c.is_some.ensures ∙ c.if-is_some.false) c.requires (sym c.closes_none.ensures.none ∙ c.if-closes_none.false)
    (not_opened kind (reverse old.opened.items) remaining (sym c.opens.ensures ∙ c.if-opens.false) c.closes_none.ensures.remaining)
