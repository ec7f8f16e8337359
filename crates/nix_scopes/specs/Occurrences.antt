-- The name at an offset, its binding, and where bindings occur in the text.
use Rattle.std.specs.Prelude.{◌≡◌, ℕ, List, [], ◌∷◌, ◌++◌, map, ◌&&◌, Bool, false, nat_eq, Option, Some, None, slice_get, if◌then◌else◌}
use Rattle.std.specs.List.{filter}
use Rattle.std.specs.Option.{option_or}
use Rattle.rnix_kinds.specs.declared.kinds.SyntaxKind.TheVariants as k
use Rattle.rnix_green.specs.Equality.{same_kind}
use Rattle.rnix_green.specs.Relatives.{parent_of}
use Rattle.rnix_tree.specs.declared.offset.TokenAtOffset.{TokenAtOffset}
use Rattle.rnix_tree.specs.declared.offset.TokenAtOffset.TheVariants as at
use Rattle.rnix_tree.specs.Offset.{AreTouched}
use Rattle.rnix_green.specs.Range.{Extent}
use Rattle.rnix_green.specs.Tree.{Located, item_of, extent_of}
use Rattle.nix_scopes.specs.declared.resolution.Binding.{Binding}
use Rattle.nix_scopes.specs.declared.resolution.Reference.{Reference}
use Rattle.nix_scopes.specs.declared.resolution.Resolution.{Resolution}
use Rattle.nix_scopes.specs.Bound.{bindings_of, references_of}

-- whether a number is given and is equal to this one
abbrev pub is_number : ℕ → Option ℕ → Bool
is_number number None = false
is_number number (Some other) = nat_eq other number

-- the ranges at which the binding with a number is written, one for each of its parts
abbrev pub written_at : ℕ → List Binding → List Extent
written_at number bindings = map (λ part. extent_of part.node) (filter (λ part. nat_eq part.first number) bindings)

-- the ranges of the references to the binding with a number
abbrev pub referred_at : ℕ → List Reference → List Extent
referred_at number references = map (λ extent. extent_of extent.node) (filter (λ extent. is_number number extent.binding) references)

-- the ranges at which the binding with a number is written, and then those of the references to it
abbrev pub occurrences_of : ℕ → Resolution → List Extent
occurrences_of number names = written_at number (bindings_of names) ++ referred_at number (references_of names)

-- a node, if it is an identifier
abbrev pub if_identifier : Option Located → Option Located
if_identifier None = None
if_identifier (Some e) = if same_kind (item_of e).kind k.NODE_IDENT then Some e else None

-- the identifier to which a token belongs, if it belongs to one
abbrev pub identifier_of : Located → Option Located
identifier_of token = if_identifier (parent_of token)

-- the identifier to which one of these tokens belongs; the right token's, if both belong to one
abbrev pub identifier_among : TokenAtOffset Located → Option Located
identifier_among at.None = None
identifier_among (at.Single token) = identifier_of token
identifier_among (at.Between left right) = option_or (identifier_of right) (identifier_of left)

-- `name` is the name at an offset, or `None` if there is none
abbrev pub IsNameAt : Located → ℕ → Option Located → Type 0
IsNameAt root offset name = (tokens : TokenAtOffset Located) × AreTouched root offset tokens × (name ≡ identifier_among tokens)

-- whether a node has a range
abbrev pub is_at : Extent → Located → Bool
is_at extent e = nat_eq (extent_of e).start extent.start && nat_eq (extent_of e).end extent.end

-- the number of the first of these bindings that is written at a range
abbrev pub written_number : Extent → List Binding → Option ℕ
written_number extent [] = None
written_number extent (binding ∷ more) = if is_at extent binding.node then Some binding.first else written_number extent more

-- the number of the binding to which the first of these references at a range refers
abbrev pub referred_number : Extent → List Reference → Option ℕ
referred_number extent [] = None
referred_number extent (reference ∷ more) = if is_at extent reference.node then reference.binding else referred_number extent more

-- the number of the binding that is written at a range, or else of the one to which the reference there refers
abbrev pub number_at : Resolution → Extent → Option ℕ
number_at names extent = option_or (written_number extent (bindings_of names)) (referred_number extent (references_of names))

-- the binding with a number, if there is one
abbrev pub binding_of : Resolution → Option ℕ → Option Binding
binding_of names None = None
binding_of names (Some number) = slice_get (bindings_of names) number

-- the binding that is written at a range, or else the one to which the reference there refers
abbrev pub binding_at : Resolution → Extent → Option Binding
binding_at names extent = binding_of names (number_at names extent)
