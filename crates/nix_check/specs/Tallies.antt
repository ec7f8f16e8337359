-- The counts over all files, and the exit status.
use Rattle.std.specs.Prelude.{ℕ, ◌+◌, ◌-◌, ◌^◌, ◌==◌, min, Bool, not, ◌&&◌, ◌||◌, List, [], ◌∷◌, ◌++◌, Option, if◌then◌else◌}
use Rattle.nix_check.specs.declared.tally.{Tally.Tally, Counts.Counts}

-- a sum of 64 bits, which stops at the largest number
abbrev pub plus : ℕ → ℕ → ℕ
plus a b = min (a + b) (2 ^ 64 - 1)

-- nothing was found in a text
abbrev pub is_clean : Counts → Bool
is_clean counts = counts.errors == 0 && counts.warnings == 0

-- the counts with those of a text; the counts with one more unread file
abbrev pub with_counts : Tally → Counts → Tally
with_counts tally counts =
    record {
      errors = plus tally.errors counts.errors;
      warnings = plus tally.warnings counts.warnings;
      faulty = plus tally.faulty (if is_clean counts then 0 else 1);
      unread = tally.unread;
    }

abbrev pub with_unread : Tally → Tally
with_unread tally = record { errors = tally.errors; warnings = tally.warnings; faulty = tally.faulty; unread = plus tally.unread 1 }

-- the diagnostics that were found so far
abbrev pub found_by : Tally → ℕ
found_by tally = plus tally.errors tally.warnings

-- the exit status: 2 if something could not be read, otherwise 1 if there are errors, or warnings and these count
abbrev pub status_of : Bool → Tally → ℕ
status_of is_strict tally =
    if tally.unread == 0 then (if tally.errors == 0 && (not is_strict || tally.warnings == 0) then 0 else 1) else 2

-- what happens to a file: its name, the counts and the output before it, and the output and the counts after it
abbrev pub TalliedEffect : Type 1
TalliedEffect = List ℕ → Tally → Option (List ℕ) → Option (List ℕ) → Tally → Type 0

-- this happens to each of some files, one after another. Before the first one there are no errors and warnings, and as many unread files as folders that could
-- not be read
pub data AreTallied (Effect : TalliedEffect) (failed : ℕ) (old : Option (List ℕ)) : List (List ℕ) → Option (List ℕ) → Tally → Type 0 where
  none_tallied : AreTallied Effect failed old [] old record { errors = 0; warnings = 0; faulty = 0; unread = failed }
  one_tallied : (files : List (List ℕ)) (mid new : Option (List ℕ)) (before after : Tally) (file : List ℕ) →
      AreTallied Effect failed old files mid before → Effect file before mid new after → AreTallied Effect failed old (files ++ file ∷ []) new after
