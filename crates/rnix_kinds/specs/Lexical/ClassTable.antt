-- The table of the sets of bytes.
use Rattle.std.specs.Prelude.{ℕ, Bool, not, nat_eq, bit_and, slice_index}
use Rattle.rnix_kinds.specs.declared.tokenizer.text.TheConstants.{CLASSES}

-- the byte has the flag in the table
abbrev pub has_flag : ℕ → ℕ → Bool
has_flag flag b = not (nat_eq (bit_and (slice_index CLASSES b) flag) 0)
