-- The errors of a text as values, and how they are printed.
use Rattle.std.specs.Prelude.{ℕ, Bool, true, false, ◌==◌, ◌&&◌, bytes_eq, List, [], ◌∷◌, ◌++◌, codes, string_bytes}
use Rattle.std.specs.List.{flat_map}
use Rattle.std.specs.Cmp.Lexicographic.{pointwise}
use Rattle.rnix_kinds.specs.declared.kinds.SyntaxKind.{SyntaxKind}
use Rattle.rnix_kinds.specs.SyntaxKind.{name_of}
use Rattle.rnix_green.specs.Equality.{same_kind}
use Rattle.rnix_green.specs.Range.{extent_text}
use Rattle.rnix_green.specs.Range.{Extent, bounds_of}
use Rattle.rnix_grammar.specs.declared.error.ParseError.{ParseError}
use Rattle.rnix_grammar.specs.declared.error.ParseError.TheVariants.{Unexpected, UnexpectedExtra, UnexpectedWanted, UnexpectedDoubleBind, UnexpectedEOF, UnexpectedEOFWanted, DuplicatedArgs, RecursionLimitExceeded}

-- an error without the memory that holds its lists and names
pub data Fault : Type 0 where
  unexpected_at : Extent → Fault
  extra : Extent → Fault
  unwanted : SyntaxKind → Extent → List SyntaxKind → Fault
  double_bind : Extent → Fault
  unexpected_eof : Fault
  unexpected_eof_wanted : List SyntaxKind → Fault
  duplicated_args : Extent → List ℕ → Fault
  too_deep : Fault

-- the value of an error of the program
abbrev pub fault_of : ParseError → Fault
fault_of (Unexpected range) = unexpected_at (bounds_of range)
fault_of (UnexpectedExtra range) = extra (bounds_of range)
fault_of (UnexpectedWanted kind range wanted) = unwanted kind (bounds_of range) wanted.items
fault_of (UnexpectedDoubleBind range) = double_bind (bounds_of range)
fault_of UnexpectedEOF = unexpected_eof
fault_of (UnexpectedEOFWanted wanted) = unexpected_eof_wanted wanted.items
fault_of (DuplicatedArgs range name) = duplicated_args (bounds_of range) (string_bytes name)
fault_of RecursionLimitExceeded = too_deep

-- two ranges are equal
abbrev pub same_extent : Extent → Extent → Bool
same_extent a b = a.start == b.start && a.end == b.end

-- two faults are the same variant with the same fields
abbrev pub same_fault : Fault → Fault → Bool
same_fault (unexpected_at a) (unexpected_at b) = same_extent a b
same_fault (extra a) (extra b) = same_extent a b
same_fault (unwanted kind a wanted) (unwanted other b others) = pointwise same_kind wanted others && (same_kind kind other && same_extent a b)
same_fault (double_bind a) (double_bind b) = same_extent a b
same_fault unexpected_eof unexpected_eof = true
same_fault (unexpected_eof_wanted wanted) (unexpected_eof_wanted others) = pointwise same_kind wanted others
same_fault (duplicated_args a name) (duplicated_args b other) = same_extent a b && bytes_eq name other
same_fault too_deep too_deep = true
same_fault _ _ = false

-- a message about a range, followed by the range
abbrev pub range_text : List ℕ → Extent → List ℕ
range_text what range = what ++ codes " at " ++ extent_text range

-- the kinds after the first, each after a comma
abbrev pub more_kinds_text : List SyntaxKind → List ℕ
more_kinds_text kinds = flat_map (λ kind. codes ", " ++ name_of kind) kinds

-- some kinds in brackets, or empty brackets
abbrev pub kinds_text : List SyntaxKind → List ℕ
kinds_text [] = codes "[]"
kinds_text (kind ∷ kinds) = codes "[" ++ name_of kind ++ more_kinds_text kinds ++ codes "]"

-- the wanted kinds
abbrev pub wanted_text : List SyntaxKind → List ℕ
wanted_text kinds = codes ", wanted any of " ++ kinds_text kinds

-- what follows the name in the message about a repeated name
abbrev pub again_text : Extent → List ℕ
again_text range = codes "` is duplicated in " ++ extent_text range

-- the printed text of an error
abbrev pub fault_text : Fault → List ℕ
fault_text (unexpected_at range) = range_text (codes "error node") range
fault_text (extra range) = range_text (codes "unexpected token") range
fault_text (unwanted kind range wanted) = codes "unexpected " ++ range_text (name_of kind) range ++ wanted_text wanted
fault_text (double_bind range) = range_text (codes "unexpected double bind") range
fault_text unexpected_eof = codes "unexpected end of file"
fault_text (unexpected_eof_wanted wanted) = codes "unexpected end of file" ++ wanted_text wanted
fault_text (duplicated_args range name) = codes "argument `" ++ name ++ again_text range
fault_text too_deep = codes "recursion limit exceeded"
