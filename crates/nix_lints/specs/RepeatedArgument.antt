-- A name of a whole pattern that is one of its arguments, too, as in `a@{ a }: a`.
use Rattle.std.specs.Prelude.{ℕ, Bool, false, bytes_eq, List, [], ◌∷◌, Option, Some, None, if◌then◌else◌}
use Rattle.rnix_kinds.specs.declared.kinds.SyntaxKind.TheVariants as k
use Rattle.rnix_green.specs.Equality.{same_kind}
use Rattle.rnix_green.specs.Relatives.{parent_of}
use Rattle.rnix_green.specs.Tree.{Located, item_of, text_at, extent_of}
use Rattle.rnix_base.specs.Select.{nodes_of, child_of}
use Rattle.nix_diagnostics.specs.declared.code.Code.TheVariants as code
use Rattle.nix_lints.specs.Found.{Found, found, place}

-- the identifier right below a node
abbrev pub name_of : Located → Option Located
name_of node = child_of (same_kind k.NODE_IDENT) 0 node

-- there is a node, and it is written like this
abbrev pub is_written : List ℕ → Option Located → Bool
is_written text None = false
is_written text (Some node) = bytes_eq (text_at node) text

-- the first name of some entries that is written like this
abbrev pub first_named : List ℕ → List Located → Option Located
first_named text [] = None
first_named text (entry ∷ entries) = if is_written text (name_of entry) then name_of entry else first_named text entries

-- the name of the first entry of a pattern that has a name
abbrev pub argument_in : Located → Option Located → Option Located
argument_in pattern None = None
argument_in pattern (Some name) = first_named (text_at name) (nodes_of (same_kind k.NODE_PAT_ENTRY) pattern)

-- the same, if a node is a pattern
abbrev pub argument_around : Option Located → Option Located → Option Located
argument_around None name = None
argument_around (Some pattern) name = if same_kind k.NODE_PATTERN (item_of pattern).kind then argument_in pattern name else None

-- the argument of the pattern around its name that has the same name
abbrev pub argument_named : Located → Option Located
argument_named bind = argument_around (parent_of bind) (name_of bind)

-- the finding on the name of a whole pattern, given the argument with the same name
abbrev pub found_beside : Located → Option Located → Option Found
found_beside bind None = None
found_beside bind (Some argument) = Some (found code.RepeatedArgument (extent_of bind) (place (extent_of argument)))

-- the finding on the name of a whole pattern, if one of its arguments has the same name
abbrev pub repeated_argument : Located → Option Found
repeated_argument bind = found_beside bind (argument_named bind)
