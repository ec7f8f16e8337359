use Rattle.{std.proofs.Common.{[], ◌∷◌, ap, refl, length, arith}, rnix_base.specs.declared.parts.InterpolPart.TheVariants.Interpolation}
use Rattle.rnix_base.proofs.{UnindentLemmas.grown, NextPartLemmas.pushed, ValuePartLemmas.quoted_next}
use Rattle.rnix_base.proofs.value.quoted_value.Goals as goal

pub loop-part-preserved : goal.loop-part-preserved
loop-part-preserved g c = record {
  length = omega (arith, c.loop-part.invariant.length, ap length c.in-Some.ensures.items, c.in-Some.ensures.len);
  so_far = grown _ _ _ (Interpolation c.in-Interpolation.interpolation ∷ []) _ _ c.loop-part.invariant.so_far
      (quoted_next _ _ _ _ c.in-Some.ensures.items c.in-Interpolation.is)
      (pushed _ _ _ _ c.in_ok-push-in-Interpolation.ensures.items refl);
}
