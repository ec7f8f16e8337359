-- Contracts see parts as the parts themselves.
use Rattle.std.{proofs.Common.{◌≡◌, ◌∙◌, List, [], ◌∷◌, Vec, Result, Ok, Err, refl, sym, ap, map}, specs.Prelude.IfOk}
use Rattle.rnix_base.specs.{declared.parts.InterpolPart.{InterpolPart, TheVariants.{Literal, Interpolation}}, Parts.part_of}

all_same : {T I : Type 0} (parts : List (InterpolPart T I)) → map (part_of (λ t. t) (λ i. i)) parts ≡ parts
all_same [] = refl
all_same (Literal t ∷ parts) = ap (λ p. Literal t ∷ p) (all_same parts)
all_same (Interpolation i ∷ parts) = ap (λ p. Interpolation i ∷ p) (all_same parts)

-- a vector of parts
pub same_parts : {T I Z E : Type 0} (r : Result (Vec (InterpolPart T I) Z) E) (whole : List (InterpolPart T I)) →
    IfOk r (λ v. map (part_of (λ t. t) (λ i. i)) v.items ≡ whole) → IfOk r (λ v. v.items ≡ whole)
same_parts (Ok v) whole h = sym (all_same v.items) ∙ h
same_parts (Err e) whole h = h
