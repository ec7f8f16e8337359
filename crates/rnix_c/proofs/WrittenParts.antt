-- Writing parts of strings one after another.
use Rattle.std.proofs.Common.{◌≡◌, ℕ, suc, ◌+◌, ◌<◌, List, [], ◌∷◌, length, drop, get_or, refl, sym, ap, ◌∙◌, arith, add-one}
use Rattle.std.proofs.{Math.Seq.{drop-cons}}
use Rattle.rnix_green.specs.Tree.{Located}
use Rattle.rnix_base.specs.{declared.parts.InterpolPart.{InterpolPart}, Normal.{Parts}}
use Rattle.rnix_c.specs.StringCalls.{end_after, part_at, parts_from}

pub length-parts_from : (before : ℕ) (parts : Parts Located) → length (parts_from before parts) ≡ length parts
length-parts_from before [] = refl
length-parts_from before (part ∷ parts) = ap suc (length-parts_from (end_after before part) parts)

module _ (n before : ℕ) (parts : Parts Located) (part : InterpolPart (List ℕ) Located) (l : n < length parts) (is : part ≡ get_or parts n part)
    (rest : drop n (parts_from 0 parts) ≡ parts_from before (drop n parts)) where
  cut : drop n parts ≡ part ∷ drop (suc n) parts
  cut = drop-cons parts n part l ∙ ap (λ p. p ∷ drop (suc n) parts) (sym is)

  both : get_or (parts_from 0 parts) n (part_at before part) ∷ drop (suc n) (parts_from 0 parts) ≡ part_at before part ∷ parts_from (end_after before part)
      (drop (suc n) parts)
  both = sym (drop-cons (parts_from 0 parts) n (part_at before part) (omega (arith, length-parts_from 0 parts))) ∙ rest ∙ ap (parts_from before) cut

  -- what is written for the next part is the next element of the list
  pub next_is : part_at before part ≡ get_or (parts_from 0 parts) n (part_at before part)
  next_is = cc both

  -- the list continues with the other parts
  pub rest_is : drop (n + 1) (parts_from 0 parts) ≡ parts_from (end_after before part) (drop (n + 1) parts)
  rest_is = ap (λ k. drop k (parts_from 0 parts)) (add-one n) ∙ (cc both) ∙ ap (λ k. parts_from (end_after before part) (drop k parts)) (sym (add-one n))
