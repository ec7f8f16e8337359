use Rattle.std.proofs.Common.{◌∙◌, ℕ, inl, inr, sym, subst, refl, arith}
use Rattle.nix_dead.specs.Skipped.{IsAt}
use Rattle.nix_dead.proofs.LineBeforeLemmas.{walked}
use Rattle.nix_dead.proofs.place.Place.advance.Goals as goal

pub loop-place-init : goal.loop-place-init
loop-place-init c = record {
  text_is = refl;
  order = c.requires;
  lines = λ text old at.
      (subst (λ (n : ℕ). IsAt text n c.args.self) (sym at.offset_is) at, omega (arith, at.offset_is), inr at.offset_is);
}

pub loop-place-preserved : goal.loop-place-preserved
loop-place-preserved c =
    let new = c.after_byte-place.result in
    let moved = c.after_byte-place.ensures.moved in
    record {
      text_is = c.after_byte-place.ensures.text ∙ c.loop-place.invariant.text_is;
      order = c.after_byte-place.ensures.order;
      lines = λ text old at.
          let before = c.loop-place.invariant.lines text old at in (
            subst (λ (n : ℕ). IsAt text n new) (sym moved) (c.after_byte-place.ensures.lines text c.loop-place.place.offset before.0),
            omega (arith, moved, before.1),
            inl (omega (arith, moved, c.loop-place-test.true)),
          );
    }

pub returns-clause-lines : goal.returns-clause-lines
returns-clause-lines c = λ text old at order.
    let all = c.loop-place.invariant.lines text old at in
    walked text old c.args.offset c.min-end.result c.args.self c.loop-place.place at all.0 order c.min-end.ensures c.loop-place-test.false all.2
