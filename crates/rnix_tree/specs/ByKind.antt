-- Elements of a kind.
use Rattle.std.specs.Prelude.{Bool}
use Rattle.rnix_kinds.specs.declared.kinds.SyntaxKind.{SyntaxKind}
use Rattle.rnix_green.specs.Equality.{same_kind}
use Rattle.rnix_green.specs.Tree.{Located, item_of}
use Rattle.rnix_green.specs.Walk.{Spot}

-- whether an element has the kind
abbrev pub is_of_kind : SyntaxKind → Located → Bool
is_of_kind kind e = same_kind kind (item_of e).kind

-- the same for an element of a walk
abbrev pub is_spot_of_kind : SyntaxKind → Spot → Bool
is_spot_of_kind kind spot = is_of_kind kind spot.1
