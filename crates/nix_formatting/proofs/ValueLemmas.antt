-- The value of a string depends on the texts of its parts, but not on what its interpolations contain.
use Rattle.std.proofs.Common.{◌≡◌, ℕ, suc, Bool, true, false, List, [], ◌∷◌, ◌++◌, map, fold, Some, None, if◌then◌else◌, refl, ap, sym, ◌∙◌}
use Rattle.std.proofs.lemmas.{Bool.false≢true, Slice.Eq.bytes_eq-Decides}
use Rattle.std.specs.Prelude.{◌&&◌}
use Rattle.std.specs.List.{flat_map}
use Rattle.std.specs.Str.{bytes_eq}
use Rattle.rnix_green.specs.Tree.{Located, text_at}
use Rattle.rnix_green.specs.Walk.{Spot}
use Rattle.rnix_base.specs.declared.parts.InterpolPart.{InterpolPart}
use Rattle.rnix_base.specs.declared.parts.InterpolPart.TheVariants.{Literal, Interpolation}
use Rattle.rnix_base.specs.Escapes.{unescaped}
use Rattle.rnix_base.specs.Parts.{part_of, is_indented}
use Rattle.rnix_base.specs.Normal.{Parts, with_text, Symbol, symbols, lines, least_indentation, shortened, opens_blank, behind_blank, literal_if_some, opened, with_texts, unindented, part_text, closed, indented_parts, quoted_parts}
use Rattle.rnix_base.specs.Value.{without_escapes, ended, value_indentation, dedented, indented_value, quoted_text, quoted_value}
use Rattle.rnix.specs.StringParts.{normalized_parts}
use Rattle.nix_formatting.specs.Bare.{bare, bare_parts, parts_among, bare_among}
use Rattle.nix_formatting.specs.Pairs.{same_shown}
use Rattle.nix_formatting.specs.VisibleTokens.{same_flag}
use Rattle.nix_formatting.specs.Values.{interpolation_symbol, with_symbols, symbols_of, written_parts, value_of, nix_value_of, both_values}

-- bare parts have the same bytes and interpolations as the parts
symbols_bare : {I : Type 0} (list : List ℕ) (parts : Parts I) → fold with_symbols list (bare_parts parts) ≡ fold with_symbols list parts
symbols_bare list [] = refl
symbols_bare list (Literal text ∷ parts) = symbols_bare (list ++ text) parts
symbols_bare list (Interpolation i ∷ parts) = symbols_bare (list ++ interpolation_symbol ∷ []) parts

-- bare parts have the same list of symbols as the parts
symbol_list_bare : {I : Type 0} (n : ℕ) (parts : Parts I) → symbols n (bare_parts parts) ≡ symbols n parts
unfolding symbols
symbol_list_bare n [] = refl
symbol_list_bare n (Literal text ∷ parts) = ap (λ list. map (λ b. record { part = n; byte = Some b }) text ++ list) (symbol_list_bare (suc n) parts)
symbol_list_bare n (Interpolation i ∷ parts) = ap (λ list. record { part = n; byte = None } ∷ list) (symbol_list_bare (suc n) parts)

-- the first line feed may be removed before or after parts are made bare
opens_bare : {I : Type 0} (is_blank : Bool) (text rest : List ℕ) (parts : Parts I)
    → bare_parts (if is_blank then literal_if_some rest ++ parts else Literal text ∷ parts)
    ≡ (if is_blank then literal_if_some rest ++ bare_parts parts else Literal text ∷ bare_parts parts)
opens_bare false text rest parts = refl
opens_bare true text [] parts = refl
opens_bare true text (b ∷ rest) parts = refl

opened_bare : {I : Type 0} (parts : Parts I) → bare_parts (opened parts) ≡ opened (bare_parts parts)
opened_bare [] = refl
opened_bare (Literal text ∷ parts) = opens_bare (opens_blank text) text (behind_blank text) parts
opened_bare (Interpolation i ∷ parts) = refl

-- texts may be replaced before or after parts are made bare
texts_bare : {I : Type 0} (list : List Symbol) (n : ℕ) (parts : Parts I) → bare_parts (with_texts list n parts) ≡ with_texts list n (bare_parts parts)
unfolding with_texts
texts_bare list n [] = refl
texts_bare list n (Literal text ∷ parts) = ap (λ ps. Literal (part_text n list) ∷ ps) (texts_bare list (suc n) parts)
texts_bare list n (Interpolation i ∷ parts) = ap (λ ps. Interpolation 0 ∷ ps) (texts_bare list (suc n) parts)

-- the last spaces may be removed before or after parts are made bare
closed_bare : {I : Type 0} (parts : Parts I) → bare_parts (closed parts) ≡ closed (bare_parts parts)
unfolding closed
closed_bare [] = refl
closed_bare (Literal text ∷ []) = refl
closed_bare (Literal text ∷ (part ∷ parts)) = ap (λ ps. Literal text ∷ ps) (closed_bare (part ∷ parts))
closed_bare (Interpolation i ∷ parts) = ap (λ ps. Interpolation 0 ∷ ps) (closed_bare parts)

mapped_bare : {I : Type 0} (f : List ℕ → List ℕ) (parts : Parts I) → bare_parts (map (with_text f) parts) ≡ map (with_text f) (bare_parts parts)
mapped_bare f [] = refl
mapped_bare f (Literal text ∷ parts) = ap (λ ps. Literal (f text) ∷ ps) (mapped_bare f parts)
mapped_bare f (Interpolation i ∷ parts) = ap (λ ps. Interpolation 0 ∷ ps) (mapped_bare f parts)

-- the normalized parts of bare parts are the bare normalized parts
indented_bare : {I : Type 0} (parts : Parts I) → bare_parts (indented_parts parts) ≡ indented_parts (bare_parts parts)
indented_bare parts =
    mapped_bare (unescaped true) (closed (with_texts (unindented (symbols 0 (opened parts))) 0 (opened parts)))
    ∙ ap (map (with_text (unescaped true)))
    (closed_bare (with_texts (unindented (symbols 0 (opened parts))) 0 (opened parts))
    ∙ ap closed (texts_bare (unindented (symbols 0 (opened parts))) 0 (opened parts)
    ∙ ap (λ ps. with_texts (unindented (symbols 0 (opened parts))) 0 ps) (opened_bare parts)
    ∙ ap (λ list. with_texts (unindented list) 0 (opened (bare_parts parts)))
    (sym (symbol_list_bare 0 (opened parts)) ∙ ap (symbols 0) (opened_bare parts))))

-- the last line may be removed before or after parts are made bare
ended_bare : {I : Type 0} (parts : Parts I) → bare_parts (ended parts) ≡ ended (bare_parts parts)
unfolding ended
ended_bare [] = refl
ended_bare (Literal text ∷ []) = refl
ended_bare (Literal text ∷ (part ∷ parts)) = ap (λ ps. Literal text ∷ ps) (ended_bare (part ∷ parts))
ended_bare (Interpolation i ∷ parts) = ap (λ ps. Interpolation 0 ∷ ps) (ended_bare parts)

-- the indentation of lines may be removed before or after parts are made bare
dedented_bare : {I : Type 0} (n : ℕ) (parts : Parts I) → bare_parts (dedented n parts) ≡ dedented n (bare_parts parts)
dedented_bare n parts =
    texts_bare (flat_map (shortened n) (lines (symbols 0 parts))) 0 parts
    ∙ ap (λ list. with_texts (flat_map (shortened n) (lines list)) 0 (bare_parts parts)) (sym (symbol_list_bare 0 parts))

indentation_bare : {I : Type 0} (parts : Parts I) → value_indentation (bare_parts parts) ≡ value_indentation parts
indentation_bare parts =
    ap (λ list. least_indentation (lines list))
    (ap (symbols 0) (sym (mapped_bare without_escapes parts)) ∙ symbol_list_bare 0 (map (with_text without_escapes) parts))

-- the value in Nix of bare parts is the bare value
value_bare : {I : Type 0} (parts : Parts I) → bare_parts (indented_value parts) ≡ indented_value (bare_parts parts)
value_bare parts =
    dedented_bare (value_indentation (opened parts)) (map (with_text (unescaped true)) (ended (opened parts)))
    ∙ ap (dedented (value_indentation (opened parts)))
    (mapped_bare (unescaped true) (ended (opened parts))
    ∙ ap (map (with_text (unescaped true))) (ended_bare (opened parts) ∙ ap ended (opened_bare parts)))
    ∙ ap (λ n. dedented n (map (with_text (unescaped true)) (ended (opened (bare_parts parts)))))
    (sym (indentation_bare (opened parts)) ∙ ap value_indentation (opened_bare parts))

-- parts with the same bare parts have the same bytes and interpolations
pub symbols_same : {I J : Type 0} (xs : Parts I) (ys : Parts J) → bare_parts xs ≡ bare_parts ys → symbols_of xs ≡ symbols_of ys
symbols_same xs ys same = sym (symbols_bare [] xs) ∙ ap (fold with_symbols []) same ∙ symbols_bare [] ys

-- and so do their normalized parts
pub indented_same : {I J : Type 0} (xs : Parts I) (ys : Parts J) → bare_parts xs ≡ bare_parts ys
    → symbols_of (indented_parts xs) ≡ symbols_of (indented_parts ys)
indented_same xs ys same =
    symbols_same (indented_parts xs) (indented_parts ys) (indented_bare xs ∙ ap indented_parts same ∙ sym (indented_bare ys))

-- the value of parts, in `''` or in `"`
abbrev value_with : Bool → Parts Located → List ℕ
value_with is_indented parts =
    if is_indented then symbols_of (if is_indented then indented_parts parts else quoted_parts parts) else symbols_of parts

values_alike : (a b : Bool) (xs ys : Parts Located) → same_flag a b ≡ true → bare_parts ys ≡ bare_parts xs → value_with a xs ≡ value_with b ys
values_alike true true xs ys flags same = indented_same xs ys (sym same)
values_alike false false xs ys flags same = symbols_same xs ys (sym same)
values_alike true false xs ys flags same = absurd (false≢true flags)
values_alike false true xs ys flags same = absurd (false≢true flags)

-- strings with the same bare parts have the same value
pub written_same : (old new : Located) → same_flag (is_indented old) (is_indented new) ≡ true
    → bare_parts (written_parts new) ≡ bare_parts (written_parts old) → value_of old ≡ value_of new
written_same old new flags same = values_alike (is_indented old) (is_indented new) (written_parts old) (written_parts new) flags same

-- the value of parts in Nix, in `''` or in `"`
abbrev nix_value_with : Bool → Parts Located → List ℕ
nix_value_with is_indented parts = symbols_of (if is_indented then indented_value parts else quoted_value parts)

nix_values_alike : (a b : Bool) (xs ys : Parts Located) → same_flag a b ≡ true → bare_parts ys ≡ bare_parts xs
    → nix_value_with a xs ≡ nix_value_with b ys
nix_values_alike true true xs ys flags same =
    symbols_same (indented_value xs) (indented_value ys) (value_bare xs ∙ ap indented_value (sym same) ∙ sym (value_bare ys))
nix_values_alike false false xs ys flags same =
    symbols_same (quoted_value xs) (quoted_value ys) (mapped_bare quoted_text xs ∙ ap quoted_value (sym same) ∙ sym (mapped_bare quoted_text ys))
nix_values_alike true false xs ys flags same = absurd (false≢true flags)
nix_values_alike false true xs ys flags same = absurd (false≢true flags)

-- and the same value in Nix
pub nix_written_same : (old new : Located) → same_flag (is_indented old) (is_indented new) ≡ true
    → bare_parts (written_parts new) ≡ bare_parts (written_parts old) → nix_value_of old ≡ nix_value_of new
nix_written_same old new flags same = nix_values_alike (is_indented old) (is_indented new) (written_parts old) (written_parts new) flags same

-- if both values are equal, the strings show the same
pub both_same : (old new : Located) → value_of old ≡ value_of new → nix_value_of old ≡ nix_value_of new
    → true ≡ same_shown (both_values old) (both_values new)
both_same old new same made =
    sym (ap (λ b. b && bytes_eq (nix_value_of old) (nix_value_of new)) ((bytes_eq-Decides (value_of old) (value_of new)).1 same)
    ∙ (bytes_eq-Decides (nix_value_of old) (nix_value_of new)).1 made)

-- if the first values are equal, the second ones decide
pub second_decides : (old new : Located) (first same : Bool) → first ≡ bytes_eq (value_of old) (value_of new) → first ≡ true
    → same ≡ bytes_eq (nix_value_of old) (nix_value_of new) → same ≡ same_shown (both_values old) (both_values new)
second_decides old new first same is holds made =
    made ∙ sym (ap (λ b. b && bytes_eq (nix_value_of old) (nix_value_of new)) (sym is ∙ holds))

-- if the first values differ, so does what is shown
pub first_differs : (old new : Located) (first : Bool) → first ≡ bytes_eq (value_of old) (value_of new) → first ≡ false
    → false ≡ same_shown (both_values old) (both_values new)
first_differs old new first is fails = sym (ap (λ b. b && bytes_eq (nix_value_of old) (nix_value_of new)) (sym is ∙ fails))

-- normalized parts with the same bare parts have the same bytes and interpolations
pub normalized_same : {I J : Type 0} (olds : Parts I) (news : Parts J) → bare_parts news ≡ bare_parts olds → symbols_of olds ≡ symbols_of news
normalized_same olds news same = symbols_same olds news (sym same)

-- the value of a string in `''`
pub value_of_indented : (string : Located) → is_indented string ≡ true → value_of string ≡ symbols_of (normalized_parts string)
value_of_indented string is = ap (λ b. if b then symbols_of (normalized_parts string) else symbols_of (written_parts string)) is

-- equal byte strings pass the test
pub equal_pass : (xs ys : List ℕ) → xs ≡ ys → true ≡ bytes_eq xs ys
equal_pass xs ys same = sym ((bytes_eq-Decides xs ys).1 same)

-- a part as the iterator returns it
part_given : (part : InterpolPart Located Located) → bare (with_text text_at (part_of (λ t. t) (λ i. i) part)) ≡ bare (with_text text_at part)
part_given (Literal token) = refl
part_given (Interpolation node) = refl

-- the next parts of two strings are compared, and then the parts after them
pub parts_begun : (olds news olds_remaining news_remaining : List Spot) (old new : InterpolPart Located Located)
    → parts_among olds ≡ part_of (λ t. t) (λ i. i) old ∷ parts_among olds_remaining
    → parts_among news ≡ part_of (λ t. t) (λ i. i) new ∷ parts_among news_remaining
    → bare (with_text text_at new) ≡ bare (with_text text_at old) → bare_among news_remaining ≡ bare_among olds_remaining → bare_among news ≡ bare_among olds
parts_begun olds news olds_remaining news_remaining old new is_old is_new same rest =
    let heads : bare (with_text text_at (part_of (λ t. t) (λ i. i) new)) ≡ bare (with_text text_at (part_of (λ t. t) (λ i. i) old)) =
    part_given new ∙ same ∙ sym (part_given old) in
    ap (λ ps. bare_parts (map (with_text text_at) ps)) is_new
    ∙ ap (λ p. p ∷ bare_among news_remaining) heads
    ∙ ap (λ ps. bare (with_text text_at (part_of (λ t. t) (λ i. i) old)) ∷ ps) rest
    ∙ sym (ap (λ ps. bare_parts (map (with_text text_at) ps)) is_old)

-- if no parts remain of either string, the bare parts are equal
pub parts_ended : (olds news : List Spot) → parts_among olds ≡ [] → parts_among news ≡ [] → bare_among news ≡ bare_among olds
parts_ended olds news no_old no_new = ap (λ ps. bare_parts (map (with_text text_at) ps)) (no_new ∙ sym no_old)
