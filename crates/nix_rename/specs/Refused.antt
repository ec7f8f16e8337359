-- How a refusal is printed, and why the binding with a number keeps its name.
use Rattle.std.specs.Prelude.{◌&&◌, ℕ, nat_eq, Bool, not, List, [], ◌∷◌, Option, Some, None, codes, if◌then◌else◌}
use Rattle.std.specs.List.{list_any}
use Rattle.std.specs.Option.{option_or}
use Rattle.std.specs.Str.{bytes_eq}
use Rattle.rnix_kinds.specs.declared.kinds.SyntaxKind.{SyntaxKind}
use Rattle.rnix_kinds.specs.declared.kinds.SyntaxKind.TheVariants as k
use Rattle.rnix_green.specs.Equality.{same_kind}
use Rattle.rnix_green.specs.Tree.{Located, item_of}
use Rattle.rnix_green.specs.Relatives.{parent_of}
use Rattle.nix_scopes.specs.declared.resolution.Binding.{Binding}
use Rattle.nix_scopes.specs.declared.resolution.Reference.{Reference}
use Rattle.nix_scopes.specs.declared.resolution.Resolution.{Resolution}
use Rattle.nix_scopes.specs.Bound.{bindings_of, references_of, bound_of}
use Rattle.nix_scopes.specs.Occurrences.{is_number}
use Rattle.nix_scopes.specs.Scopes.{Bound}
use Rattle.nix_rename.specs.declared.refusal.Obstacle.{Obstacle}
use Rattle.nix_rename.specs.declared.refusal.Obstacle.TheVariants as obstacle
use Rattle.nix_rename.specs.declared.refusal.Refusal.{Refusal}
use Rattle.nix_rename.specs.declared.refusal.Refusal.TheVariants as refusal

-- the names to which a text refers without writing them: `-` calls `__sub`, `*` calls `__mul`, `/` calls `__div`, and `<`, `<=`, `>` and `>=` call
-- `__lessThan`; a path in `<>` is what `__findFile` finds in `__nixPath`; the attributes of `__overrides` replace those of its set, or of an old `let`
abbrev pub special_names : List (List ℕ)
special_names =
    codes "__sub" ∷ codes "__mul" ∷ codes "__div" ∷ codes "__lessThan" ∷ codes "__findFile" ∷ codes "__nixPath" ∷ codes "__overrides" ∷ []

-- whether a name is one of these
abbrev pub is_special_name : List ℕ → Bool
is_special_name text = list_any (bytes_eq text) special_names

-- why a binding keeps its name
abbrev pub obstacle_text : Obstacle → List ℕ
obstacle_text obstacle.Inherited = codes "the name is inherited: give it its own entry first"
obstacle_text obstacle.Argument = codes "callers give this argument by its name"
obstacle_text obstacle.Attribute = codes "the name is an attribute of a set"
obstacle_text obstacle.Quoted = codes "the name is written in quotes"
obstacle_text obstacle.Body = codes "the old `let` needs its `body`"
obstacle_text obstacle.Special = codes "operators, paths in `<>` or the old `let` refer to the name"
obstacle_text obstacle.InheritedBySet = codes "a set inherits the name: give it its own entry first"

-- why a name is not renamed
abbrev pub refusal_text : Refusal → List ℕ
refusal_text refusal.NotAName = codes "NAME is not a name"
refusal_text refusal.SpecialName = codes "operators, paths in `<>` or the old `let` refer to NAME"
refusal_text refusal.NoName = codes "there is no name here"
refusal_text refusal.Unbound = codes "nothing in the text binds the name"
refusal_text (refusal.Obstacle reason) = obstacle_text reason
refusal_text refusal.OtherSpelling = codes "the name is written in another way at some place"
refusal_text refusal.ChangedMeaning = codes "with the new name, some name would refer to something else"

-- why a part of a binding keeps its name, if it does, given the kind of its node's parent
abbrev pub obstacle_in : SyntaxKind → Bound → Option Obstacle
obstacle_in parent part =
    if same_kind parent k.NODE_INHERIT then Some obstacle.Inherited
    else (if same_kind parent k.NODE_PAT_ENTRY then Some obstacle.Argument
    else (if same_kind (item_of part.scope).kind k.NODE_ATTR_SET then Some obstacle.Attribute
    else (if not (same_kind (item_of part.node).kind k.NODE_IDENT) then Some obstacle.Quoted
    else (if same_kind (item_of part.scope).kind k.NODE_LEGACY_LET && bytes_eq part.text (codes "body") then Some obstacle.Body
    else (if is_special_name part.text then Some obstacle.Special
    else None)))))

-- the same, for a parent that may be missing
abbrev pub obstacle_below : Option Located → Bound → Option Obstacle
obstacle_below None part = None
obstacle_below (Some parent) part = obstacle_in (item_of parent).kind part

-- the same, if it is a part of the binding with the number
abbrev pub obstacle_of_part : ℕ → Binding → Option Obstacle
obstacle_of_part number part = if nat_eq part.first number then obstacle_below (parent_of part.node) (bound_of part) else None

-- why a part of the binding with a number keeps its name, for the first of these parts that does
abbrev pub obstacle_among : ℕ → List Binding → Option Obstacle
obstacle_among number [] = None
obstacle_among number (part ∷ parts) = option_or (obstacle_of_part number part) (obstacle_among number parts)

-- whether a reference inherits the binding with a number
abbrev pub inherits : ℕ → Reference → Bool
inherits number reference = reference.is_inherited && is_number number reference.binding

-- why the binding with a number keeps its name, if it does
abbrev pub obstacle_of_binding : ℕ → Resolution → Option Obstacle
obstacle_of_binding number names =
    option_or (obstacle_among number (bindings_of names)) (if list_any (inherits number) (references_of names) then Some obstacle.InheritedBySet else None)
