-- Which nodes are entries of patterns.
use Rattle.std.proofs.Common.{Bool, true, false}
use Rattle.rnix_kinds.specs.declared.kinds.SyntaxKind.{SyntaxKind, TheVariants.NODE_PAT_ENTRY}

-- entries of patterns
abbrev pub is_formal : SyntaxKind → Bool
is_formal NODE_PAT_ENTRY = true
is_formal k = false
