-- Abbreviations for the trees and errors of examples.
use Rattle.{std.proofs.Common.{ℕ, zero, suc}, rnix_kinds.specs.declared.kinds.SyntaxKind.{SyntaxKind, TheVariants.{NODE_ATTRPATH, NODE_BIN_OP, NODE_IDENT}}}
use Rattle.rnix_kinds.specs.declared.kinds.SyntaxKind.TheVariants.{NODE_IDENT_PARAM, NODE_LAMBDA, NODE_LIST, NODE_PAREN, NODE_PATTERN, NODE_PAT_ENTRY}
use Rattle.{rnix_kinds.specs.declared.kinds.SyntaxKind.TheVariants.NODE_SELECT, rnix_green.specs.Range.Extent, rnix_grammar.specs.declared.expected_set.ExpectedSet.ExpectedSet}
use Rattle.rnix_grammar.specs.{Fault.{Fault, extra, unwanted, unexpected_eof_wanted}, Tables.wanted_kinds, AnnotatedForest.{Unwanted, Extra}}
use Rattle.rnix_proof_uniqueness.proofs.OnlyReading.{Shape, done, item, node, wrong}

-- trees in front of others
abbrev pub Grows : Type 0
Grows = Shape → Shape

-- `n` leaves in a row
abbrev pub run : ℕ → Shape
run zero = done
run (suc n) = item (run n)

-- a name
abbrev pub name : Grows
name f = node NODE_IDENT (item done) f

-- an attribute path
abbrev pub path_of : Shape → Grows
path_of c f = node NODE_ATTRPATH c f

-- a path of one name
abbrev pub path : Grows
path f = path_of (name done) f

-- a selection
abbrev pub select : Grows → Grows → Grows
select a b f = node NODE_SELECT (a (item (b done))) f

-- a binary operator between two operands
abbrev pub binary : Grows → Grows → Grows
binary a b f = node NODE_BIN_OP (a (item (b done))) f

-- a function of one parameter
abbrev pub function : Grows → Grows
function b f = node NODE_LAMBDA (node NODE_IDENT_PARAM (name done) (item (b done))) f

-- a function of a pattern, with what follows the pattern
abbrev pub function_of : Shape → Shape → Grows
function_of c b f = node NODE_LAMBDA (node NODE_PATTERN c b) f

-- an entry of a pattern
abbrev pub entry : Grows
entry f = node NODE_PAT_ENTRY (name done) f

-- parentheses, given what follows the opening one
abbrev pub paren : Shape → Grows
paren c f = node NODE_PAREN (item c) f

-- a list without operands
abbrev pub no_list : Grows
no_list f = node NODE_LIST (run 2) f

-- an error node over a run of `n` items, up to one that is wanted
abbrev pub unwanteds : ExpectedSet → ℕ → Grows
unwanteds until n f = wrong (Unwanted until) (run n) f

-- an error node over `n` items after the root's expression
abbrev pub extras : ℕ → Shape
extras n = wrong Extra (run n) done

-- a range, from one offset to another
abbrev pub within : ℕ → ℕ → Extent
within start end = record { start = start; end = end }

-- the error about items after the root's expression
abbrev pub is_extra : ℕ → ℕ → Fault
is_extra start end = extra (within start end)

-- the error about items in place of expected ones
abbrev pub instead : ExpectedSet → SyntaxKind → ℕ → ℕ → Fault
instead until kind start end = unwanted kind (within start end) (wanted_kinds until)

-- the error about a missing item at the end of the text
abbrev pub missing : ExpectedSet → Fault
missing until = unexpected_eof_wanted (wanted_kinds until)
