-- What is known of the texts of files. A text is the list of its bytes.
use Rattle.std.specs.Prelude.{◌≡◌, List, ℕ, Option, Some, None}

-- for the name of a file: nothing is known of its text, or that it cannot be read, or the text
abbrev pub KnownTexts : Type 0
KnownTexts = List ℕ → Option (Option (List ℕ))

-- a text that is read, or none, is the one that is known, if something is known
abbrev pub Agrees : Option (Option (List ℕ)) → Option (List ℕ) → Type 0
Agrees None text = Unit {0}
Agrees (Some known) text = text ≡ known
