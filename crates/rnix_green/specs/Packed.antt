-- An element in 16 bytes: three numbers of 32 bits, and a kind.
use Rattle.std.specs.Prelude.{ℕ, ◌^◌, ◌%◌}
use Rattle.rnix_kinds.specs.declared.kinds.SyntaxKind.{SyntaxKind}
use Rattle.rnix_green.specs.declared.packed.Packed.{Packed}

-- the limit below which all numbers of an element are
abbrev pub limit : ℕ
limit = 2 ^ 32

-- a number's bits below the limit
abbrev pub word_of : ℕ → ℕ
word_of n = n % 2 ^ 32

-- the element with these numbers
abbrev pub packed : SyntaxKind → ℕ → ℕ → ℕ → Packed
packed k len_or_start parent size = record { len_or_start = word_of len_or_start; parent = word_of parent; size = word_of size; kind = k }

-- an element's start, or the length of a token before it is placed
abbrev pub len_or_start_in : Packed → ℕ
len_or_start_in e = e.len_or_start

-- the number of its parent
abbrev pub parent_in : Packed → ℕ
parent_in e = e.parent

-- the number of elements in it, itself included; 0 for a token
abbrev pub size_in : Packed → ℕ
size_in e = e.size
