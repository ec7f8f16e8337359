-- The contents of comments.
use Rattle.std.specs.Prelude.{ℕ, ◌-◌, ◌==◌, ◌||◌, Bool, List, [], ◌∷◌, length, take, drop, reverse, if◌then◌else◌}
use Rattle.std.specs.List.{prefix_len}

-- whether a byte is a space, a tab or a carriage return
abbrev pub is_blank : ℕ → Bool
is_blank byte = (byte == 32) || ((byte == 9) || (byte == 13))

-- a text without the blanks at its start
abbrev pub after_blanks : List ℕ → List ℕ
after_blanks text = drop (prefix_len is_blank text) text

-- a text without the blanks at its end
abbrev pub before_blanks : List ℕ → List ℕ
before_blanks text = take (length text - prefix_len is_blank (reverse text)) text

-- the bytes of a comment after `#`, or between `/*` and `*/`
abbrev pub inside_marks : List ℕ → List ℕ
inside_marks [] = []
inside_marks (byte ∷ text) = if byte == 35 then text else take (length text - 3) (drop 1 text)

-- the contents of a comment: the bytes between its marks, without the blanks at both ends
abbrev pub contents_of : List ℕ → List ℕ
contents_of comment = before_blanks (after_blanks (inside_marks comment))
