-- Whatever parts of a JSON text remain, some bytes complete it.
use Rattle.std.proofs.Common.{◌≡◌, ◌∙◌, ℕ, true, false, List, [], ◌∷◌, ◌++◌, ap, refl, Some}
use Rattle.std.specs.Prelude.{codes, option_and_then}
use Rattle.nix_values.specs.Contents.{Entry, null}
use Rattle.nix_values.specs.JsonContent.{content}
use Rattle.nix_values.specs.Json.{Token, closing, colon, string, scalar, token_at, tokens_behind, Part, value, first_item, more_items, first_member, more_members, member, named, entry, in_front, parts_from, meaning, values_of}
use Rattle.nix_values.specs.JsonNames.{completion}
use Rattle.nix_values.proofs.JsonTokenLemmas.{before, over_token}

-- the bytes form these parts, and mean values
abbrev pub HasValues : List Part → List ℕ → Type 0
HasValues parts bytes = (entries : List Entry) × (values_of parts bytes ≡ Some entries)

-- a token, and the bytes after it
token_then : (parts more : List Part) (added : List Entry) (t : Token) (bytes rest : List ℕ) → tokens_behind 0 bytes ≡ before t (tokens_behind 0 rest) →
    parts_from parts t ≡ Some (more, added) → HasValues more rest → HasValues parts bytes
token_then parts more added t bytes rest first fits h = (
  added ++ h.0,
  ap (option_and_then (meaning parts)) first ∙ over_token parts t (tokens_behind 0 rest)
      ∙ ap (option_and_then (λ (r : List Part × List Entry). in_front r.1 (option_and_then (meaning r.0) (tokens_behind 0 rest)))) fits
      ∙ ap (in_front added) h.1,
)

null_first : (rest : List ℕ) → tokens_behind 0 (codes "null" ++ rest) ≡ before (scalar null) (tokens_behind 0 rest)
unfolding tokens_behind token_at
null_first rest = refl

close_first : (rest : List ℕ) → tokens_behind 0 (codes "]" ++ rest) ≡ before (closing false) (tokens_behind 0 rest)
unfolding tokens_behind token_at
close_first rest = refl

close_set_first : (rest : List ℕ) → tokens_behind 0 (codes "}" ++ rest) ≡ before (closing true) (tokens_behind 0 rest)
unfolding tokens_behind token_at
close_set_first rest = refl

colon_first : (rest : List ℕ) → tokens_behind 0 (codes ":" ++ rest) ≡ before colon (tokens_behind 0 rest)
unfolding tokens_behind token_at
colon_first rest = refl

quotes_first : (rest : List ℕ) → tokens_behind 0 (codes "\"\"" ++ rest) ≡ before (string []) (tokens_behind 0 rest)
unfolding tokens_behind token_at content
quotes_first rest = refl

value_completes : (d : ℕ) (name : List ℕ) (ps : List Part) (rest : List ℕ) → HasValues ps rest → HasValues (value d name ∷ ps) (codes "null" ++ rest)
value_completes d name ps rest h = token_then (value d name ∷ ps) ps (entry d name null) (scalar null) (codes "null" ++ rest) rest (null_first rest) refl h

named_completes : (d : ℕ) (name : List ℕ) (ps : List Part) (rest : List ℕ) → HasValues ps rest → HasValues (named d name ∷ ps) (codes ":null" ++ rest)
named_completes d name ps rest h =
    token_then (named d name ∷ ps) (value d name ∷ ps) [] colon (codes ":null" ++ rest) (codes "null" ++ rest) (colon_first (codes "null" ++ rest)) refl
    (value_completes d name ps rest h)

close_completes : (d : ℕ) (ps : List Part) (rest : List ℕ) → HasValues ps rest → HasValues (more_members d ∷ ps) (codes "}" ++ rest)
close_completes d ps rest h = token_then (more_members d ∷ ps) ps [] (closing true) (codes "}" ++ rest) rest (close_set_first rest) refl h

-- the completion of the remaining parts forms them
pub completes : (parts : List Part) → HasValues parts (completion parts)
unfolding tokens_behind meaning
completes [] = ([], refl)
completes (value d name ∷ ps) = value_completes d name ps (completion ps) (completes ps)
completes (first_item d ∷ ps) =
    token_then (first_item d ∷ ps) ps [] (closing false) (codes "]" ++ completion ps) (completion ps) (close_first (completion ps)) refl (completes ps)
completes (more_items d ∷ ps) =
    token_then (more_items d ∷ ps) ps [] (closing false) (codes "]" ++ completion ps) (completion ps) (close_first (completion ps)) refl (completes ps)
completes (first_member d ∷ ps) =
    token_then (first_member d ∷ ps) ps [] (closing true) (codes "}" ++ completion ps) (completion ps) (close_set_first (completion ps)) refl (completes ps)
completes (more_members d ∷ ps) = close_completes d ps (completion ps) (completes ps)
completes (member d ∷ ps) =
    token_then (member d ∷ ps) (named d [] ∷ more_members d ∷ ps) [] (string []) (codes "\"\":null}" ++ completion ps) (codes ":null}" ++ completion ps)
    (quotes_first (codes ":null}" ++ completion ps)) refl
    (named_completes d [] (more_members d ∷ ps) (codes "}" ++ completion ps) (close_completes d ps (completion ps) (completes ps)))
completes (named d name ∷ ps) = named_completes d name ps (completion ps) (completes ps)
