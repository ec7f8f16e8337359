-- The value of a string in `''`, part by part.
use Rattle.std.proofs.Common.{◌≡◌, ◌≢◌, ◌++◌, ◌∙◌, ℕ, true, List, [], ◌∷◌, refl, sym, ap, map, length, arith, append-nil}
use Rattle.rnix_base.specs.{declared.parts.InterpolPart.{InterpolPart, TheVariants.{Literal, Interpolation}}, Escapes.unescaped, Normal.{Parts, with_text, borrowed, symbols}}
use Rattle.rnix_base.specs.{Normal.{opened, with_texts}, Indent.{kept, remaining_behind, indent_of, no_indent}}
use Rattle.rnix_base.specs.Value.{without_escapes, without_last_line, ended, value_indentation, dedented, indented_value, quoted_value}
use Rattle.rnix_base.proofs.{SymbolLineLemmas.list_kept-lines, LeastLemmas.least-parts, StringPartLemmas.{unindented_parts, with_texts-behind, part_text-none}}
use denote.Ref.{Bor}

-- the text of a part; for the last part, without the spaces after its last line feed
abbrev pub ended_text : {I : Type 0} → Parts I → List ℕ → List ℕ
ended_text [] text = without_last_line text
ended_text (part ∷ parts) text = text

-- the value of parts, if the first line loses up to `remaining` spaces
abbrev pub value_from : {I : Type 0} → ℕ → ℕ → Parts I → Parts I
value_from n remaining parts = unindented_parts n remaining (map (with_text (unescaped true)) (ended parts))

literal_first : {I : Type 0} (n remaining : ℕ) (text : List ℕ) (parts : Parts I) → value_from n remaining (Literal text ∷ parts) ≡
    Literal (kept n remaining (unescaped true (ended_text parts text)))
    ∷ value_from n (remaining_behind n remaining (unescaped true (ended_text parts text))) parts
unfolding ended unindented_parts
literal_first n remaining text [] = refl
literal_first n remaining text (part ∷ parts) = refl

interpolation_first : {I : Type 0} (n remaining : ℕ) (i : I) (parts : Parts I) → value_from n remaining (Interpolation i ∷ parts) ≡ Interpolation i
    ∷ value_from n 0 parts
unfolding ended unindented_parts
interpolation_first n remaining i parts = refl

-- the next part
pub interpolation_next : {I : Type 0} (n remaining : ℕ) (rest more : List (InterpolPart (Bor (List ℕ)) I)) (part : InterpolPart (Bor (List ℕ)) I) (i : I)
    → rest ≡ part ∷ more → part ≡ Interpolation i
    → value_from n remaining (borrowed rest) ≡ Interpolation i ∷ [] ++ value_from n 0 (borrowed more)
interpolation_next n remaining rest more part i e h =
    ap (λ r. value_from n remaining (borrowed r)) (e ∙ ap (λ p. p ∷ more) h) ∙ interpolation_first n remaining i (borrowed more)

pub literal_next : {I : Type 0} (n remaining : ℕ) (rest more : List (InterpolPart (Bor (List ℕ)) I)) (part : InterpolPart (Bor (List ℕ)) I)
    (text : Bor (List ℕ))
    → rest ≡ part ∷ more → part ≡ Literal text
    → value_from n remaining (borrowed rest) ≡ Literal (kept n remaining (unescaped true (ended_text (borrowed more) text.now))) ∷ []
    ++ value_from n (remaining_behind n remaining (unescaped true (ended_text (borrowed more) text.now))) (borrowed more)
literal_next n remaining rest more part text e h =
    ap (λ r. value_from n remaining (borrowed r)) (e ∙ ap (λ p. p ∷ more) h) ∙ literal_first n remaining text.now (borrowed more)

-- the text of the last part
pub ended_at_end : {I : Type 0} (more : List (InterpolPart (Bor (List ℕ)) I)) (text : List ℕ) → length more ≡ 0
    → ended_text (borrowed more) text ≡ without_last_line text
ended_at_end [] text e = refl
ended_at_end (part ∷ more) text e = absurd (omega (arith, e))

pub ended_before_end : {I : Type 0} (more : List (InterpolPart (Bor (List ℕ)) I)) (text : List ℕ) → length more ≢ 0 → ended_text (borrowed more) text ≡ text
ended_before_end [] text e = absurd (e refl)
ended_before_end (part ∷ more) text e = refl

-- all parts have been read
pub all_read : {I : Type 0} (n remaining : ℕ) (done whole : Parts I) (rest : List (InterpolPart (Bor (List ℕ)) I)) → whole ≡ done
    ++ value_from n remaining (borrowed rest) → length rest ≡ 0 → done ≡ whole
unfolding ended unindented_parts
all_read n remaining done whole [] e h = sym (e ∙ append-nil done)
all_read n remaining done whole (part ∷ rest) e h = absurd (omega (arith, h))

-- the value, part by part
pub indented_value-from : {I : Type 0} (parts : Parts I) (n : ℕ) → n ≡ (indent_of no_indent (map (with_text without_escapes) (opened parts))).least
    → value_from n n (opened parts) ≡ indented_value parts
indented_value-from parts n e =
    let least : n ≡ value_indentation (opened parts) = e ∙ least-parts (map (with_text without_escapes) (opened parts)) in
    let whole = map (with_text (unescaped true)) (ended (opened parts)) in
    sym (with_texts-behind n whole [] n 0 (λ k _. part_text-none k))
    ∙ ap (λ list. with_texts list 0 whole) (sym (list_kept-lines n (symbols 0 whole)))
    ∙ ap (λ k. dedented k whole) least

-- the next part of a string in `"`
pub quoted_next : {I : Type 0} (rest more : List (InterpolPart (Bor (List ℕ)) I)) (part : InterpolPart (Bor (List ℕ)) I) (i : I) → rest ≡ part ∷ more
    → part ≡ Interpolation i
    → quoted_value (borrowed rest) ≡ Interpolation i ∷ [] ++ quoted_value (borrowed more)
quoted_next rest more part i e h = ap (λ r. quoted_value (borrowed r)) (e ∙ ap (λ p. p ∷ more) h)
