-- The kinds of nodes that have rows.
use Rattle.std.proofs.Common.{Bool, true, false, if◌then◌else◌}
use Rattle.rnix_kinds.specs.{declared.kinds.SyntaxKind.{SyntaxKind, TheVariants.NODE_ERROR}, SyntaxKind.is_token}

-- the kinds of nodes that have rows
abbrev pub has_row : SyntaxKind → Bool
has_row NODE_ERROR = false
has_row kind = if is_token kind then false else true
