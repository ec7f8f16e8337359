-- One more file.
use Rattle.std.proofs.Common.{◌≡◌, ℕ, ◌+◌, ◌<◌, List, [], ◌∷◌, ◌++◌, length, take, map, get_or, Option, ap, sym, ◌∙◌, subst}
use Rattle.std.proofs.lemmas.List.{take_more, map-append}
use Rattle.std.specs.{Prelude.{string_bytes, max, String}, declared.alloc.Global.Global}
use Rattle.nix_cli.specs.Statuses.{FileEffect, AreProcessed, one_processed}

-- the names of some files and the next one
pub names_more : (files : List (String Global)) (i : ℕ) (file : String Global) → i < length files → file ≡ get_or files i file →
    map string_bytes (take (i + 1) files) ≡ map string_bytes (take i files) ++ string_bytes file ∷ []
names_more files i file within is =
    ap (map string_bytes) (take_more files i file within)
    ∙ map-append string_bytes (take i files) (get_or files i file ∷ [])
    ∙ ap (λ f. map string_bytes (take i files) ++ string_bytes f ∷ []) (sym is)

-- one more file is processed
pub processed_more : (Effect : FileEffect) (first : ℕ) (old mid new : Option (List ℕ)) (files : List (String Global)) (i : ℕ) (file : String Global)
    (status own : ℕ) → i < length files → file ≡ get_or files i file → AreProcessed Effect first old (map string_bytes (take i files)) mid status →
    Effect (string_bytes file) mid new own → AreProcessed Effect first old (map string_bytes (take (i + 1) files)) new (max status own)
processed_more Effect first old mid new files i file status own within is before does =
    subst (λ (names : List (List ℕ)). AreProcessed Effect first old names new (max status own)) (sym (names_more files i file within is))
    (one_processed (map string_bytes (take i files)) mid new status own (string_bytes file) before does)
