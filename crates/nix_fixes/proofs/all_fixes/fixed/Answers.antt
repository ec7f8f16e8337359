use Rattle.std.proofs.Common.{◌≡◌, ◌+◌, refl, subst, arith, Option, IfSome}
use Rattle.nix_fixes.specs.declared.all_fixes.{Found.{Found}, Progress.{Progress}}
use Rattle.nix_fixes.specs.Rounds.{IsNextFix}
use Rattle.nix_fixes.proofs.FixLemmas.{advanced}
use Rattle.nix_fixes.proofs.all_fixes.fixed.Goals as goal

pub overflow_add-progress : goal.overflow_add-progress
overflow_add-progress c =
    let most = c.saturating_sub.result in
    let next : IsNextFix c.loop-progress.progress most c.in-Some.found =
    subst (λ (found : Option Found). IfSome found (IsNextFix c.loop-progress.progress most)) c.in-Some.is c.in_ok-found.ensures.some in
    omega (arith, c.loop-progress.invariant.counted, next.within, c.saturating_sub.ensures, c.ranges.most.fits)

pub loop-progress-preserved : goal.loop-progress-preserved
loop-progress-preserved c =
    let old = c.loop-progress.progress in
    let found = c.in-Some.found in
    let most = c.saturating_sub.result in
    let next : IsNextFix old most found =
    subst (λ (found : Option Found). IfSome found (IsNextFix old most)) c.in-Some.is c.in_ok-found.ensures.some in
    let count : old.tried + found.number + 1 ≡ old.tried + (found.number + 1) = omega arith in
    record {
      progress = advanced c.args.text.now old
          record { made = found.tried.made; read = found.tried.read; fixes = old.fixes + 1; tried = old.tried + found.number + 1 } most found
          c.loop-progress.invariant.progress next refl refl refl count;
      counted = omega (arith, c.loop-progress.invariant.counted);
      within = omega (arith, next.within, c.saturating_sub.ensures);
    }
