-- The expression inside parentheses.
use Rattle.std.proofs.Common.{◌≡◌, ℕ, zero, suc, ◌-◌, ◌<◌, Some, None, refl, ap, ◌∙◌, arith}
use Rattle.{rnix_green.specs.Tree.Located, rnix.specs.AttrName.{inside_of, next_inside, inside_parens}}

-- to remove up to so many parentheses is to remove the outer ones, and then up to one pair fewer
pub inside_next : (count : ℕ) (e inner : Located) → 0 < count → inside_of e ≡ Some inner → inside_parens count e ≡ inside_parens (count - 1) inner
inside_next zero e inner some is = absurd (omega (arith, some))
inside_next (suc count) e inner some is =
    let fewer : count ≡ suc count - 1 = omega arith in
    ap (next_inside (inside_parens count) e) is ∙ ap (λ n. inside_parens n inner) fewer

-- without an inner expression nothing changes
pub inside_none : (count : ℕ) (e : Located) → inside_of e ≡ None → inside_parens count e ≡ e
inside_none zero e is = refl
inside_none (suc count) e is = ap (next_inside (inside_parens count) e) is

-- if no parentheses are left, nothing changes
pub inside_zero : (count : ℕ) (e : Located) → count ≡ 0 → inside_parens count e ≡ e
inside_zero zero e is = refl
inside_zero (suc count) e is = absurd (omega (arith, is))
