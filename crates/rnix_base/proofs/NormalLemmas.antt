-- The first part of a string in `''`, without its first line if this is blank.
use Rattle.std.{proofs.Common.{◌≡◌, ℕ, true, false, ◌==◌, List, [], ◌∷◌, Some, refl, sym, length, set}, specs.List.slice_get}
use Rattle.rnix_base.specs.{declared.parts.InterpolPart.{InterpolPart, TheVariants.Literal}, Normal.{Parts, borrowed, opens_blank, behind_blank}}
use Rattle.rnix_base.specs.Normal.{literal_if_some, opened}
use denote.Ref.{Bor}

literal_some : {I : Type 0} (text : List ℕ) → (length text == 0) ≡ false → literal_if_some {I = I} text ≡ Literal text ∷ []
literal_some [] e = absurd (cc)
literal_some (b ∷ text) e = refl

opened_blank : {I : Type 0} (text rest : List ℕ) (parts : Parts I) → opens_blank text ≡ true → rest ≡ behind_blank text → (length rest == 0) ≡ false
    → Literal rest ∷ parts ≡ opened (Literal text ∷ parts)
opened_blank text rest parts blank e some = rw (blank, sym e, literal_some rest some) refl

opened_first : {I : Type 0} (part : InterpolPart (Bor (List ℕ)) I) (parts : List (InterpolPart (Bor (List ℕ)) I)) (text rest : Bor (List ℕ))
    → part ≡ Literal text
    → opens_blank text.now ≡ true → rest.now ≡ behind_blank text.now → (length rest.now == 0) ≡ false
    → borrowed (Literal rest ∷ parts) ≡ opened (borrowed (part ∷ parts))
opened_first part parts text rest e blank h some = rw e (opened_blank text.now rest.now (borrowed parts) blank h some)

-- the first literal is replaced
pub opened_set : {I : Type 0} (parts : List (InterpolPart (Bor (List ℕ)) I)) (text rest : Bor (List ℕ)) → Some (Literal text) ≡ slice_get parts 0
    → opens_blank text.now ≡ true → rest.now ≡ behind_blank text.now → false ≡ (length rest.now == 0)
    → borrowed (set parts 0 (Literal rest)) ≡ opened (borrowed parts)
opened_set [] text rest e blank h some = absurd (cc)
opened_set (part ∷ parts) text rest e blank h some = opened_first part parts text rest (cc) blank h (sym some)
