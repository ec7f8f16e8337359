-- The exit status of a program that does the same with each of its files.
use Rattle.std.specs.Prelude.{ℕ, ◌==◌, Bool, List, [], ◌∷◌, ◌++◌, max, Option, if◌then◌else◌}

-- the status before any file is read, given the number of folders that could not be read
abbrev pub first_status : ℕ → ℕ
first_status failed = if failed == 0 then 0 else 2

-- the status of a file in which something is found, unless it is good
abbrev pub file_status : Bool → ℕ
file_status good = if good then 0 else 1

-- what happens to a file: its name, the output before and after it, and its status
abbrev pub FileEffect : Type 1
FileEffect = List ℕ → Option (List ℕ) → Option (List ℕ) → ℕ → Type 0

-- this happens to each of some files, one after another; the status is the highest of theirs and the first one
pub data AreProcessed (Effect : FileEffect) (first : ℕ) (old : Option (List ℕ)) : List (List ℕ) → Option (List ℕ) → ℕ → Type 0 where
  none_processed : AreProcessed Effect first old [] old first
  one_processed : (files : List (List ℕ)) (mid new : Option (List ℕ)) (status own : ℕ) (file : List ℕ) → AreProcessed Effect first old files mid status →
      Effect file mid new own → AreProcessed Effect first old (files ++ file ∷ []) new (max status own)
