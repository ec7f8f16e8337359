-- The tokens of a text that is read token by token, and the values that the tokens mean.
use Rattle.std.proofs.Common.{◌≡◌, ◌∙◌, ℕ, zero, suc, ◌+◌, ◌-◌, ◌<◌, ◌≤◌, true, false, List, [], ◌∷◌, ◌++◌, length, get_or, drop, ap, sym, refl, subst, arith, append_assoc, append-nil, Option, Some, None}
use Rattle.std.specs.Prelude.{option_map, option_and_then}
use Rattle.std.proofs.lemmas.List.{drop_more, drop-drop, drop_all}
use Rattle.std.proofs.lemmas.Bool.{cond-true, cond-false}
use Rattle.std.proofs.lemmas.Option.{none-some, same_Some}
use Rattle.nix_values.specs.Contents.{Entry}
use Rattle.nix_values.specs.RepeatedNames.{HasRepeatedName}
use Rattle.nix_values.specs.JsonReading.{values_with}
use Rattle.nix_values.specs.Json.{Token, is_space, token_at, tokens_behind, Part, Taken, in_front, parts_from, meaning, values_of}

-- skipping bytes
tokens_after : (n : ℕ) (bytes : List ℕ) → tokens_behind n bytes ≡ tokens_behind 0 (drop n bytes)
unfolding tokens_behind
tokens_after zero bytes = refl
tokens_after (suc n) [] = refl
tokens_after (suc n) (b ∷ bytes) = tokens_after n bytes

-- white space is not a token
pub tokens_space : (b : ℕ) (bytes : List ℕ) → is_space b ≡ true → tokens_behind 0 (b ∷ bytes) ≡ tokens_behind 0 bytes
unfolding tokens_behind
tokens_space b bytes h = cond-true (is_space b) _ _ h

pub space_more : (bytes : List ℕ) (i : ℕ) → i < length bytes → is_space (get_or bytes i 0) ≡ true →
    tokens_behind 0 (drop (i + 1) bytes) ≡ tokens_behind 0 (drop i bytes)
space_more bytes i there h = sym (ap (tokens_behind 0) (drop_more bytes i 0 there) ∙ tokens_space (get_or bytes i 0) (drop (i + 1) bytes) h)

-- a token followed by others
abbrev pub before : Token → Option (List Token) → Option (List Token)
before t found = option_map (λ ts. t ∷ ts) found

-- a token that is found is the first
pub tokens_first : (b : ℕ) (bs : List ℕ) (found : Option (Token × ℕ)) → is_space b ≡ false → token_at b bs ≡ found →
    tokens_behind 0 (b ∷ bs) ≡ option_and_then (λ r. before r.0 (tokens_behind (r.1 - 1) bs)) found
unfolding tokens_behind
tokens_first b bs found solid is =
    cond-false (is_space b) _ _ solid ∙ ap (option_and_then (λ (r : Token × ℕ). before r.0 (tokens_behind (r.1 - 1) bs))) is

token_first : (b : ℕ) (bytes : List ℕ) (t : Token) (n : ℕ) → is_space b ≡ false → token_at b bytes ≡ Some (t, n) →
    tokens_behind 0 (b ∷ bytes) ≡ before t (tokens_behind 0 (drop (n - 1) bytes))
unfolding tokens_behind
token_first b bytes t n solid found =
    cond-false (is_space b) _ _ solid ∙ ap (λ o. option_and_then (λ (r : Token × ℕ). before r.0 (tokens_behind (r.1 - 1) bytes)) o) found
    ∙ ap (before t) (tokens_after (n - 1) bytes)

no_token_first : (b : ℕ) (bytes : List ℕ) → is_space b ≡ false → token_at b bytes ≡ None → tokens_behind 0 (b ∷ bytes) ≡ None
unfolding tokens_behind
no_token_first b bytes solid none =
    cond-false (is_space b) _ _ solid ∙ ap (λ o. option_and_then (λ (r : Token × ℕ). before r.0 (tokens_behind (r.1 - 1) bytes)) o) none

-- if the values after a token are undefined, so are all values
none_behind : (taken : Taken) → None ≡ option_and_then (λ r. in_front r.1 None) taken
none_behind None = refl
none_behind (Some r) = refl

pub over_token : (parts : List Part) (t : Token) (ts : Option (List Token)) →
    option_and_then (meaning parts) (before t ts) ≡ option_and_then (λ r. in_front r.1 (option_and_then (meaning r.0) ts)) (parts_from parts t)
unfolding meaning
over_token parts t None = none_behind (parts_from parts t)
over_token parts t (Some ts) = refl

-- reading one token of a text
pub values_step : (parts : List Part) (bytes : List ℕ) (i end : ℕ) (t : Token) → i < length bytes → is_space (get_or bytes i 0) ≡ false → i < end →
    token_at (get_or bytes i 0) (drop (i + 1) bytes) ≡ Some (t, end - i) →
    values_of parts (drop i bytes) ≡ option_and_then (λ r. in_front r.1 (values_of r.0 (drop end bytes))) (parts_from parts t)
values_step parts bytes i end t there solid onward found =
    let skip : i + 1 + (end - i - 1) ≡ end = omega arith in
    let tokens : tokens_behind 0 (drop i bytes) ≡ before t (tokens_behind 0 (drop end bytes)) =
    ap (tokens_behind 0) (drop_more bytes i 0 there) ∙ token_first (get_or bytes i 0) (drop (i + 1) bytes) t (end - i) solid found
    ∙ ap (λ l. before t (tokens_behind 0 l)) (drop-drop (end - i - 1) (i + 1) bytes ∙ ap (λ n. drop n bytes) skip) in
    ap (option_and_then (meaning parts)) tokens ∙ over_token parts t (tokens_behind 0 (drop end bytes))

-- values before others, twice
pub in_front_twice : (es fs : List Entry) (x : Option (List Entry)) → in_front es (in_front fs x) ≡ in_front (es ++ fs) x
in_front_twice es fs None = refl
in_front_twice es fs (Some gs) = ap Some (sym (append_assoc es fs gs))

-- a token that fits is read
pub fitting_token : (all : Option (List Entry)) (parts more : List Part) (bytes : List ℕ) (i end next : ℕ) (t : Token) (es fs gs : List Entry) →
    all ≡ in_front es (values_of parts (drop i bytes)) → i < length bytes → is_space (get_or bytes i 0) ≡ false → i < end →
    token_at (get_or bytes i 0) (drop (i + 1) bytes) ≡ Some (t, end - i) → parts_from parts t ≡ Some (more, fs) → gs ≡ es ++ fs →
    tokens_behind 0 (drop next bytes) ≡ tokens_behind 0 (drop end bytes) → all ≡ in_front gs (values_of more (drop next bytes))
fitting_token all parts more bytes i end next t es fs gs so_far there solid onward found fits both space =
    let step : values_of parts (drop i bytes) ≡ in_front fs (values_of more (drop end bytes)) =
    values_step parts bytes i end t there solid onward found
    ∙ ap (λ taken. option_and_then (λ r. in_front r.1 (values_of r.0 (drop end bytes))) taken) fits in
    so_far ∙ ap (in_front es) step ∙ in_front_twice es fs (values_of more (drop end bytes))
    ∙ ap (λ l. in_front l (values_of more (drop end bytes))) (sym both)
    ∙ ap (λ ts. in_front gs (option_and_then (meaning more) ts)) (sym space)

-- if the remaining values are undefined, so are all values
none_all : (all : Option (List Entry)) (es : List Entry) (x : Option (List Entry)) → all ≡ in_front es x → x ≡ None → all ≡ None
none_all all es x so_far none = so_far ∙ ap (in_front es) none

-- a token that does not fit is read
pub wrong_token : (all : Option (List Entry)) (parts : List Part) (bytes : List ℕ) (i end : ℕ) (t : Token) (es : List Entry) →
    all ≡ in_front es (values_of parts (drop i bytes)) → i < length bytes → is_space (get_or bytes i 0) ≡ false → i < end →
    token_at (get_or bytes i 0) (drop (i + 1) bytes) ≡ Some (t, end - i) → parts_from parts t ≡ None → all ≡ None
wrong_token all parts bytes i end t es so_far there solid onward found wrong =
    none_all all es _ so_far (values_step parts bytes i end t there solid onward found
    ∙ ap (λ taken. option_and_then (λ r. in_front r.1 (values_of r.0 (drop end bytes))) taken) wrong)

-- no token begins here
pub no_token : (all : Option (List Entry)) (parts : List Part) (bytes : List ℕ) (i : ℕ) (es : List Entry) →
    all ≡ in_front es (values_of parts (drop i bytes)) → i < length bytes → is_space (get_or bytes i 0) ≡ false →
    token_at (get_or bytes i 0) (drop (i + 1) bytes) ≡ None → all ≡ None
no_token all parts bytes i es so_far there solid none =
    none_all all es _ so_far (ap (option_and_then (meaning parts)) (ap (tokens_behind 0) (drop_more bytes i 0 there)
    ∙ no_token_first (get_or bytes i 0) (drop (i + 1) bytes) solid none))

-- the text ends, and no parts remain
pub text_end : (all : Option (List Entry)) (parts : List Part) (bytes : List ℕ) (i : ℕ) (es : List Entry) →
    all ≡ in_front es (values_of parts (drop i bytes)) → length bytes ≤ i → parts ≡ [] → all ≡ Some es
unfolding tokens_behind meaning
text_end all parts bytes i es so_far past done =
    so_far ∙ ap (λ l. in_front es (values_of parts l)) (drop_all i bytes past) ∙ ap (λ ps. in_front es (values_of ps [])) done ∙ ap Some (append-nil es)

-- the text ends although parts remain
pub text_cut : (all : Option (List Entry)) (parts more : List Part) (part : Part) (bytes : List ℕ) (i : ℕ) (es : List Entry) →
    all ≡ in_front es (values_of parts (drop i bytes)) → length bytes ≤ i → parts ≡ part ∷ more → all ≡ None
unfolding tokens_behind meaning
text_cut all parts more part bytes i es so_far past remaining =
    so_far ∙ ap (λ l. in_front es (values_of parts l)) (drop_all i bytes past) ∙ ap (λ ps. in_front es (values_of ps [])) remaining

-- values before others that are defined
pub in_front_some : (es found : List Entry) (x : Option (List Entry)) → in_front es x ≡ Some found →
    (more : List Entry) × (x ≡ Some more) × (es ++ more ≡ found)
in_front_some es found None e = absurd (none-some found e)
in_front_some es found (Some more) e = (more, refl, same_Some (es ++ more) found e)

-- a token that repeats a name is read
pub repeating_token : (all : Option (List Entry)) (parts : List Part) (bytes : List ℕ) (i end : ℕ) (t : Token) (es : List Entry) →
    all ≡ in_front es (values_of parts (drop i bytes)) → i < length bytes → is_space (get_or bytes i 0) ≡ false → i < end →
    token_at (get_or bytes i 0) (drop (i + 1) bytes) ≡ Some (t, end - i) →
    ((rest : List ℕ) (more : List Entry) → values_with parts t rest ≡ Some more → HasRepeatedName (es ++ more)) → (found : List Entry) → all ≡ Some found →
    HasRepeatedName found
repeating_token all parts bytes i end t es so_far there solid onward is repeats found e =
    let rest = in_front_some es found (values_of parts (drop i bytes)) (sym so_far ∙ e) in
    subst HasRepeatedName rest.2 (repeats (drop end bytes) rest.0 (sym (values_step parts bytes i end t there solid onward is) ∙ rest.1))
