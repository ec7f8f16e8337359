-- The elements of a tree in which another node replaces a node, made of the elements of both trees.
use Rattle.std.specs.Prelude.{◌≡◌, ℕ, suc, ◌+◌, ◌-◌, nat_lt, if◌then◌else◌, List, [], ◌∷◌, ◌++◌, length, map, take, drop}
use Rattle.rnix_kinds.specs.declared.kinds.SyntaxKind.{SyntaxKind}
use Rattle.rnix_green.specs.declared.packed.Packed.{Packed}
use Rattle.rnix_green.specs.declared.packed.Shift.{Shift}
use Rattle.rnix_green.specs.Packed.{word_of, packed, len_or_start_in, parent_in, size_in}
use Rattle.rnix_green.specs.Tree.{Item}
use Rattle.rnix_green.specs.Kept.{parent_or_root, kept_of}

-- an element with more or fewer elements inside
abbrev pub with_size : ℕ → ℕ → Packed → Packed
with_size old new e = packed e.kind (len_or_start_in e) (parent_in e) (size_in e + new - old)

-- element m, where node n has new elements in place of old ones
abbrev pub resized_at : ℕ → ℕ → ℕ → ℕ → Packed → Packed
resized_at m n old new e = if nat_lt n (m + size_in e) then with_size old new e else e

-- elements, where the first has the number m
abbrev pub resized : ℕ → ℕ → ℕ → ℕ → List Packed → List Packed
resized m n old new [] = []
resized m n old new (e ∷ es) = resized_at m n old new e ∷ resized (m + 1) n old new es

-- the number of a parent after the shift: numbers below the shift's stay
abbrev pub shifted_number : Shift → ℕ → ℕ
shifted_number s p = if nat_lt p s.number then p else p + s.new_number - s.number

-- an element at another offset, with another number
abbrev pub shifted : Shift → Packed → Packed
shifted s e = packed e.kind (len_or_start_in e + s.new_start - s.start) (shifted_number s (parent_in e)) (size_in e)

-- the shift of the elements inside the new node, from number 1 and offset 0 to number n and this offset
abbrev pub shift_inside : ℕ → ℕ → Shift
shift_inside n offset = record { start = 0; new_start = offset; number = 1; new_number = n }

-- the shift of the elements after the node
abbrev pub shift_behind : ℕ → Item → ℕ → ℕ → Shift
shift_behind n i count len = record { start = i.end; new_start = i.start + len; number = n + suc i.below; new_number = n + count }

-- the elements with a node of another kind in place of node n, whose item is i, where what is inside it and the length of its text are given
abbrev pub spliced : List Packed → ℕ → Item → SyntaxKind → List Packed → ℕ → List Packed
spliced es n i k inside len =
    resized 0 n (suc i.below) (suc (length inside)) (take n es)
    ++ (packed k i.start (parent_or_root i.parent) (suc (length inside))
    ∷ (map (shifted (shift_inside n i.start)) inside
    ++ map (shifted (shift_behind n i (suc (length inside)) len)) (drop (n + suc i.below) es)))

-- the elements are the stored ones of some items
pub record AreStored (es : List Packed) : Type 0 where
  pub items : List Item
  pub are : es ≡ map kept_of items

-- an element at another offset: what starts at `start` then starts at `new_start`
abbrev pub restarted : ℕ → ℕ → Packed → Packed
restarted start new_start e =
    record { len_or_start = word_of (len_or_start_in e + new_start - start); parent = e.parent; size = e.size; kind = e.kind }
