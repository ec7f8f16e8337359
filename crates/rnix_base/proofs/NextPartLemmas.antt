-- The parts of a string in memory, one after another.
use Rattle.std.proofs.Common.{◌≡◌, ◌≢◌, ◌++◌, ◌∙◌, ℕ, true, List, [], ◌∷◌, refl, sym, ap, length, arith, append-nil, String, string_bytes}
use Rattle.{std.proofs.lemmas.List.map_push, rnix_base.specs.declared.parts.InterpolPart.{InterpolPart, TheVariants.{Literal, Interpolation}}}
use Rattle.rnix_base.specs.{Escapes.unescaped, Normal.{Parts, with_text, borrowed, owned, without_last_spaces, quoted_parts}, Indent.{kept, remaining_behind}}
use Rattle.rnix_base.proofs.StringPartLemmas.{last_text, indented_from}
use denote.Ref.{Bor}

-- the next part
pub interpolation_next : {I : Type 0} (n remaining : ℕ) (rest more : List (InterpolPart (Bor (List ℕ)) I)) (part : InterpolPart (Bor (List ℕ)) I) (i : I)
    → rest ≡ part ∷ more → part ≡ Interpolation i
    → indented_from n remaining (borrowed rest) ≡ Interpolation i ∷ [] ++ indented_from n 0 (borrowed more)
unfolding indented_from
interpolation_next n remaining rest more part i e h = ap (λ r. indented_from n remaining (borrowed r)) (e ∙ ap (λ p. p ∷ more) h)

pub literal_next : {I : Type 0} (n remaining : ℕ) (rest more : List (InterpolPart (Bor (List ℕ)) I)) (part : InterpolPart (Bor (List ℕ)) I)
    (text : Bor (List ℕ))
    → rest ≡ part ∷ more → part ≡ Literal text
    → indented_from n remaining (borrowed rest) ≡ Literal (unescaped true (last_text (borrowed more) (kept n remaining text.now))) ∷ []
    ++ indented_from n (remaining_behind n remaining text.now) (borrowed more)
unfolding indented_from
literal_next n remaining rest more part text e h = ap (λ r. indented_from n remaining (borrowed r)) (e ∙ ap (λ p. p ∷ more) h)

pub quoted_next : {I : Type 0} (rest more : List (InterpolPart (Bor (List ℕ)) I)) (part : InterpolPart (Bor (List ℕ)) I) (i : I) → rest ≡ part ∷ more
    → part ≡ Interpolation i
    → quoted_parts (borrowed rest) ≡ Interpolation i ∷ [] ++ quoted_parts (borrowed more)
quoted_next rest more part i e h = ap (λ r. quoted_parts (borrowed r)) (e ∙ ap (λ p. p ∷ more) h)

-- one more part is added
pub pushed : {I Z : Type 0} (items more : List (InterpolPart (String Z) I)) (part : InterpolPart (String Z) I) (value : InterpolPart (List ℕ) I) → more ≡ items
    ++ part ∷ [] → with_text string_bytes part ≡ value → owned more ≡ owned items ++ value ∷ []
pushed items more part value e h = ap owned e ∙ map_push (with_text string_bytes) items part ∙ ap (λ v. owned items ++ v ∷ []) h

-- the text of the last part
pub last_at_end : {I : Type 0} (more : List (InterpolPart (Bor (List ℕ)) I)) (text : List ℕ) → length more ≡ 0
    → last_text (borrowed more) text ≡ without_last_spaces text
last_at_end [] text e = refl
last_at_end (part ∷ more) text e = absurd (omega (arith, e))

pub last_before_end : {I : Type 0} (more : List (InterpolPart (Bor (List ℕ)) I)) (text : List ℕ) → length more ≢ 0 → last_text (borrowed more) text ≡ text
last_before_end [] text e = absurd (e refl)
last_before_end (part ∷ more) text e = refl

-- all parts have been read
pub all_read : {I : Type 0} (n remaining : ℕ) (done whole : Parts I) (rest : List (InterpolPart (Bor (List ℕ)) I)) → whole ≡ done
    ++ indented_from n remaining (borrowed rest) → length rest ≡ 0 → done ≡ whole
unfolding indented_from
all_read n remaining done whole [] e h = sym (e ∙ append-nil done)
all_read n remaining done whole (part ∷ rest) e h = absurd (omega (arith, h))
