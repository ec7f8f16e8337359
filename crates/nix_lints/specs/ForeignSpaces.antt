-- Characters between tokens that are white space for this parser, but not for Nix.
use Rattle.std.specs.Prelude.{ℕ, ◌+◌, ◌==◌, ◌&&◌, ◌||◌, Bool, false, not, List, [], ◌∷◌, ◌++◌, flat_map, slice_index, if◌then◌else◌}
use Rattle.std.specs.{List.prefix_len, Str.chars}
use Rattle.rnix_kinds.specs.declared.kinds.SyntaxKind.TheVariants as k
use Rattle.rnix_green.specs.Equality.{same_kind}
use Rattle.rnix_green.specs.Range.{Extent, bounds_of}
use Rattle.rnix_green.specs.Tree.{Located, item_of, text_at}
use Rattle.rnix_green.specs.Walk.{Spot, elements_of}
use Rattle.nix_lints.specs.declared.foreign.ForeignSpace.{ForeignSpace}

-- a byte of Nix's white space: space, line feed, tab or carriage return; any other byte
abbrev pub is_blank : ℕ → Bool
is_blank byte = byte == 32 || (byte == 10 || (byte == 9 || byte == 13))

abbrev pub is_foreign : ℕ → Bool
is_foreign byte = not (is_blank byte)

-- a run of characters that are not Nix's white space: its range and its first character
abbrev pub Run : Type 0
Run = Extent × ℕ

-- a run in the program
abbrev pub run_of : ForeignSpace → Run
run_of space = (bounds_of space.range, space.first)

-- the run at the beginning of some bytes, which start at an offset
abbrev pub run_at : ℕ → List ℕ → Run
run_at start bytes = (record { start = start; end = start + prefix_len is_foreign bytes }, slice_index (chars bytes) 0)

-- the run at the beginning of some bytes, unless their first byte is Nix's white space or the byte before it is in the same run
abbrev pub run_if : ℕ → Bool → ℕ → List ℕ → List Run
run_if start is_inside first bytes = if is_foreign first && not is_inside then run_at start bytes ∷ [] else []

-- the runs that begin in some bytes, which start at an offset; the byte before them may be in a run
abbrev pub runs_from : ℕ → Bool → List ℕ → List Run
runs_from start is_inside [] = []
runs_from start is_inside (byte ∷ bytes) = run_if start is_inside byte (byte ∷ bytes) ++ runs_from (start + 1) (is_foreign byte) bytes

-- an element is white space of this parser
abbrev pub is_white_space : Spot → Bool
is_white_space spot = not spot.0 && same_kind k.TOKEN_WHITESPACE (item_of spot.1).kind

-- the runs in an element, if it is white space
abbrev pub runs_at : Spot → List Run
runs_at spot = if is_white_space spot then runs_from (item_of spot.1).start false (text_at spot.1) else []

-- the runs of a text, in order
abbrev pub foreign_in : Located → List Run
foreign_in root = flat_map runs_at (elements_of root)
