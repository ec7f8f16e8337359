-- The spaces at the start of a line.
use Rattle.std.specs.Prelude.{ℕ}
use Rattle.nix_layout.specs.StoredNumbers.{plus}
use Rattle.nix_layout.specs.declared.lines.Line.{Line}
use Rattle.nix_layout.specs.declared.lines.Role.{Role}
use Rattle.nix_layout.specs.declared.lines.Role.TheVariants.{Text, Empty, Closing, Inside}

-- the number of spaces at the start of a line of a string, by its contents and the indentation of the code
abbrev pub indent_with : Role → ℕ → ℕ
indent_with (Text offset) code = plus (plus code 2) offset
indent_with Empty code = 0
indent_with Closing code = code
indent_with Inside code = 0

-- the end of the spaces at the start of a line of the old text
abbrev pub blanks_end : Line → ℕ
blanks_end line = plus line.start line.blanks
