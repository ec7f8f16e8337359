-- The names of certain paths, by computation.
use Rattle.std.proofs.Common.{◌≡◌, ℕ, List, [], ◌∷◌, Option, Some, None, refl, codes}
use lib.Utf8.{encode}
use Rattle.std.specs.Str.{chars}
use Rattle.nix_values.specs.PathNames.{Name, path_names}

-- a name that is no index, and one that is
abbrev called : List ℕ → Name
called text = record { text = text; index = None }

abbrev numbered : List ℕ → ℕ → Name
numbered text index = record { text = text; index = Some index }

-- a.12.b-c
plain : path_names (codes "a.12.b-c") ≡ Some (called (codes "a") ∷ numbered (codes "12") 12 ∷ called (codes "b-c") ∷ [])
unfolding chars encode
plain = refl

-- "12"."a.b"."\n\"": quotes hide dots, and a number in them is no index
quoted : path_names (codes "\"12\".\"a.b\".\"\\n\\\"\"") ≡ Some (called (codes "12") ∷ called (codes "a.b") ∷ called (codes "\n\"") ∷ [])
unfolding chars encode
quoted = refl

-- an empty path is one empty name
nothing : path_names [] ≡ Some (called [] ∷ [])
unfolding chars encode
nothing = refl

-- a quote inside a name is a part of it
inside : path_names (codes "a\"b") ≡ Some (called (codes "a\"b") ∷ [])
unfolding chars encode
inside = refl

-- a quote that is not closed, and a letter after a closed one
unclosed : path_names (codes "\"a.b") ≡ None
unfolding chars encode
unclosed = refl

after_quotes : path_names (codes "\"a\"b") ≡ None
unfolding chars encode
after_quotes = refl

-- 2^64, which is no index
too_large : path_names (codes "18446744073709551616") ≡ Some (called (codes "18446744073709551616") ∷ [])
unfolding chars encode
too_large = refl
