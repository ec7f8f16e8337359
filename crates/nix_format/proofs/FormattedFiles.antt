-- One more file is formatted.
use Rattle.std.proofs.Common.{◌≡◌, ℕ, ◌+◌, ◌<◌, Bool, List, length, map, take, get_or, Option, sym, subst}
use Rattle.std.specs.{Prelude.{string_bytes, String}, Io.KnownBytes.Appends, declared.alloc.Global.Global}
use Rattle.nix_cli.{specs.KnownTexts.KnownTexts, proofs.ProcessedLemmas.names_more}
use Rattle.nix_format.specs.declared.{file.{Task.Task, Outcome.Outcome}, report.Tally.Tally}
use Rattle.nix_format.specs.Outcomes.{heading, counted, IsFileFormatted, AreFormatted, one_formatted}

-- the files so far, and one more
pub one_file_more : (task : Task) (texts : KnownTexts) (is_headed : Bool) (failed : ℕ) (old mid begun new : Option (List ℕ))
    (files : List (String Global)) (i : ℕ) (file : String Global) (tally : Tally) (outcome : Outcome) → i < length files → file ≡ get_or files i file →
    AreFormatted task texts is_headed failed old (map string_bytes (take i files)) mid tally → Appends mid begun (heading is_headed (string_bytes file)) →
    IsFileFormatted task texts (string_bytes file) begun new outcome →
    AreFormatted task texts is_headed failed old (map string_bytes (take (i + 1) files)) new (counted outcome tally)
one_file_more task texts is_headed failed old mid begun new files i file tally outcome within is before headed formatted =
    subst (λ (names : List (List ℕ)). AreFormatted task texts is_headed failed old names new (counted outcome tally)) (sym (names_more files i file within is))
    (one_formatted (map string_bytes (take i files)) mid begun new tally outcome (string_bytes file) before headed formatted)
