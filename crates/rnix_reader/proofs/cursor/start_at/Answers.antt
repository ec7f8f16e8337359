use Rattle.{std.proofs.Common.{◌≡◌, ◌-◌, suc, sym, ap, ◌∙◌, arith}, rnix_reader.{specs.Placed.start_of, proofs.CursorLemmas.start_behind}}
use Rattle.rnix_reader.proofs.cursor.start_at.Goals as goal

pub returns : goal.returns
returns c =
    let before : suc (c.args.at - 1) ≡ c.args.at = omega (arith, c.if-at-eq0.false) in
    sym (start_behind 0 (c.args.at - 1) c.args.tokens.now _ (omega (arith, c.if-at-eq0.false, c.requires))) ∙ ap (λ i. start_of 0 i c.args.tokens.now) before
