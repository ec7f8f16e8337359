-- The expressions along a path, and the entries that define its attribute.
use Rattle.std.specs.Prelude.{ℕ, Bool, true, false, List, [], ◌∷◌, ◌++◌, flat_map, Option, Some, None, if◌then◌else◌}
use Rattle.std.specs.Bool.{beq}
use Rattle.std.specs.List.{All, Contains}
use Rattle.rnix_kinds.specs.declared.kinds.SyntaxKind.{SyntaxKind}
use Rattle.rnix_kinds.specs.declared.kinds.SyntaxKind.TheVariants as k
use Rattle.rnix_green.specs.Tree.{Located, item_of}
use Rattle.rnix_green.specs.Walk.{nodes_in, children_of}
use Rattle.rnix_base.specs.Select.{child_of}
use Rattle.rnix.specs.NodeKinds.{is_expr}
use Rattle.nix_update.specs.declared.path_match.PathMatch.{PathMatch}
use Rattle.nix_update.specs.declared.path_match.PathMatch.TheVariants as matches
use Rattle.nix_update.specs.declared.steps.PathStep.{PathStep}
use Rattle.nix_update.specs.declared.definitions.Definition.{Definition}
use Rattle.nix_update.specs.Inner.{inner}
use Rattle.nix_update.specs.PathMatches.{path_match, is_defining}

-- an expression to which a number of names of a path lead, and whether a name of a `let` is among these
abbrev pub step : Located → ℕ → Bool → PathStep
step node at in_let = record { node = node; at = at; in_let = in_let }

-- the expression, if it exists
abbrev pub step_if : Option Located → ℕ → Bool → List PathStep
step_if None at in_let = []
step_if (Some node) at in_let = step node at in_let ∷ []

-- the value of an entry with this match, if the path continues in the value
abbrev pub continued_value : PathMatch → Bool → Located → List PathStep
continued_value (matches.Prefix next) in_let entry = step_if (child_of is_expr 0 entry) next in_let
continued_value _ in_let entry = []

-- the values of the entries of a node in which the path continues
abbrev pub values_in : List (List ℕ) → ℕ → Bool → Located → List PathStep
values_in names at in_let e = flat_map (λ entry. continued_value (path_match names at entry) in_let entry) (nodes_in (children_of e))

-- the values of the entries in a node of a kind in which the path continues: a set, or a `let`, whose names are not attributes
abbrev pub values_by : SyntaxKind → List (List ℕ) → PathStep → List PathStep
values_by k.NODE_ATTR_SET names w = values_in names w.at w.in_let w.node
values_by k.NODE_LET_IN names w = values_in names w.at true w.node
values_by _ names w = []

-- what follows an expression along the path: the values in which the path continues, and the expression into which the path leads inside it
abbrev pub next_steps : List (List ℕ) → PathStep → List PathStep
next_steps names w = values_by (item_of w.node).kind names w ++ step_if (inner w.node) w.at w.in_let

-- an expression is along the path from a root: it is the root, or it follows an expression along the path
pub data IsPathStep (names : List (List ℕ)) (root : Located) : PathStep → Type 0 where
  begins : IsPathStep names root (step root 0 false)
  follows : (w next : PathStep) → IsPathStep names root w → Contains (next_steps names w) next → IsPathStep names root next

-- these are exactly the expressions along the path
pub record ArePathSteps (names : List (List ℕ)) (root : Located) (steps : List PathStep) : Type 0 where
  pub sound : All (IsPathStep names root) steps
  pub complete : (w : PathStep) → IsPathStep names root w → Contains steps w

-- whether the entries in an expression of a kind bind names of a `let`, or else attributes, given whether a name of a `let` leads to the expression
abbrev pub binds_by : SyntaxKind → Bool → Bool → Bool
binds_by k.NODE_ATTR_SET in_let of_let = beq in_let of_let
binds_by k.NODE_LET_IN in_let of_let = of_let
binds_by _ in_let of_let = false

-- whether the entries in an expression along the path bind such names
abbrev pub has_entries : Bool → PathStep → Bool
has_entries of_let w = binds_by (item_of w.node).kind w.in_let of_let

-- an entry in an expression along the path, if by its match it defines the attribute or a part of it
abbrev pub definition_if : PathStep → Located → PathMatch → List Definition
definition_if w entry matched =
    if is_defining matched then record { entry = entry; path_match = matched; parent = w.node; at = w.at } ∷ [] else []

-- the entries in an expression along the path that define the attribute or a part of it
abbrev pub definitions_at : List (List ℕ) → PathStep → List Definition
definitions_at names w = flat_map (λ entry. definition_if w entry (path_match names w.at entry)) (nodes_in (children_of w.node))

-- the same, for the entries of sets, or for those of a `let`
abbrev pub definitions_if : List (List ℕ) → Bool → PathStep → List Definition
definitions_if names of_let w = if has_entries of_let w then definitions_at names w else []

-- the entries in these expressions along the path that define the attribute or a part of it
abbrev pub definitions_in : List (List ℕ) → Bool → List PathStep → List Definition
definitions_in names of_let steps = flat_map (definitions_if names of_let) steps
