-- Bytes that several writes append.
use Rattle.std.proofs.Common.{ℕ, List, ◌++◌, Option}
use Rattle.std.{proofs.KnownBytes.Appends-trans, specs.Io.KnownBytes.Appends}

-- some bytes are appended
abbrev pub SomeAppended : Option (List ℕ) → Option (List ℕ) → Type 0
SomeAppended old new = (bytes : List ℕ) × Appends old new bytes

-- one more write
pub more_appended : (old mid new : Option (List ℕ)) (bytes : List ℕ) → SomeAppended old mid → Appends mid new bytes → SomeAppended old new
more_appended old mid new bytes before written = (before.0 ++ bytes, Appends-trans old mid new before.0 bytes before.1 written)
