-- Sets of kinds. A set is known by its members.
use Rattle.std.specs.Prelude.{List}
use Rattle.std.specs.Ordering.{nat_cmp}
use Rattle.std.specs.declared.cmp.Ordering.{Ordering}
use Rattle.std.specs.Coded.{Coded}
use Rattle.std.specs.FinSet as set
use Rattle.rnix_kinds.specs.declared.kinds.SyntaxKind.{SyntaxKind}
use Rattle.rnix_kinds.specs.contracts.kinds.SyntaxKind.{the_row}
use Rattle.rnix_kinds.specs.SyntaxKind.{discriminant_of}

-- the order of kinds by their discriminants
unfoldable pub kind_cmp : SyntaxKind → SyntaxKind → Ordering
kind_cmp a b = nat_cmp (discriminant_of a) (discriminant_of b)

-- a set of kinds
abbrev pub KindSet : Type 0
KindSet = set.FinSet kind_cmp

-- the set of the kinds in a list
abbrev pub set_of : List SyntaxKind → KindSet
set_of = set.from_list

-- how a set is coded
abbrev pub set_code : Coded KindSet
set_code = set.code the_row.coded
