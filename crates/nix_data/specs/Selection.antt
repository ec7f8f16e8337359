-- The definitions of the part of a text that a path selects. A name of the path selects an attribute of a set, or an item of a list by its index.
use Rattle.std.specs.Prelude.{◌≡◌, ◌==◌, ℕ, zero, suc, ◌&&◌, not, Bool, true, false, List, [], ◌∷◌, ◌++◌, length, codes, bytes_eq, Option, Some, None, is_some, option_map, option_and_then, if◌then◌else◌}
use Rattle.std.specs.List.{list_any}
use Rattle.rnix_kinds.specs.declared.kinds.SyntaxKind.{SyntaxKind}
use Rattle.rnix_kinds.specs.declared.kinds.SyntaxKind.TheVariants as k
use Rattle.rnix_green.specs.Equality.{same_kind}
use Rattle.rnix_green.specs.Tree.{Located, item_of, text_at}
use Rattle.rnix_green.specs.Walk.{nodes_in, children_of}
use Rattle.rnix_base.specs.declared.operators.BinOpKind.{BinOpKind}
use Rattle.rnix_base.specs.declared.operators.BinOpKind.TheVariants.{Update}
use Rattle.rnix_base.specs.Select.{nodes_of, child_of, token_of, tokens_in}
use Rattle.rnix_base.specs.TokenOperators.{binary_operator, first_operator}
use Rattle.rnix.specs.AttrName.{without_parens}
use Rattle.rnix.specs.NodeKinds.{is_attr, is_expr, is_param}
use Rattle.nix_values.specs.Each.{each}
use Rattle.nix_values.specs.PathNames.{Name}
use Rattle.nix_data.specs.declared.nix_reader.TheConstants.{LEVELS}
use Rattle.nix_data.specs.Meaning.{key_of}
use Rattle.nix_data.specs.Scalars.{named, scalar_of}

-- a definition of an attribute or of a part of it: the names that follow those of the attribute in the path of an entry, and the value. An item of a list
-- and a text have one definition, without names.
pub record Definition : Type 0 where
  pub names : List Located
  pub value : Located

-- a value as the only definition
abbrev pub only : Located → List Definition
only e = record { names = []; value = e } ∷ []

-- what an entry with these names and this value defines of the attribute with a name
abbrev pub defined_by : List ℕ → List Located → Located → Option (List Definition)
defined_by name [] value = None
defined_by name (attr ∷ names) value =
    option_map (λ key. if bytes_eq key name then record { names = names; value = value } ∷ [] else []) (key_of attr)

-- the same, for an entry with this path and this value
abbrev pub defined_in : List ℕ → Option Located → Option Located → Option (List Definition)
defined_in name (Some path) (Some value) = defined_by name (nodes_of is_attr path) value
defined_in name path value = None

-- an `inherit` with these names defines nothing that is read, and may not have this name
abbrev pub inherited_by : List ℕ → List Located → Option (List Definition)
inherited_by name [] = Some []
inherited_by name (attr ∷ attrs) = option_and_then (λ key. if bytes_eq key name then None else inherited_by name attrs) (key_of attr)

-- what a node in a set or a `let` defines of the attribute with a name; no name in it may be computed
abbrev pub defined_at : List ℕ → Located → Option (List Definition)
defined_at name e =
    if same_kind k.NODE_ATTRPATH_VALUE (item_of e).kind then defined_in name (child_of (same_kind k.NODE_ATTRPATH) 0 e) (child_of is_expr 0 e)
    else (if same_kind k.NODE_INHERIT (item_of e).kind then inherited_by name (nodes_of is_attr e) else Some [])

-- some definitions, and then those at a node
abbrev pub with_defined : List ℕ → Located → List Definition → Option (List Definition)
with_defined name e found = option_map (λ more. found ++ more) (defined_at name e)

-- the definitions of an attribute in a set or a `let`
abbrev pub definitions_in : List ℕ → Located → Option (List Definition)
definitions_in name e = each (with_defined name) (nodes_in (children_of e)) []

-- whether there are definitions
abbrev pub is_defined : List Definition → Bool
is_defined found = not (length found == 0)

-- whether a set or a `let` is known not to define a name
abbrev pub is_undefined : Option (List Definition) → Bool
is_undefined None = false
is_undefined (Some found) = not (is_defined found)

-- whether `true`, `false` and `null` mean inside a `let` or a set with `rec` what they mean around it, and no attribute is overridden
abbrev pub keeps_constants : Located → Bool
keeps_constants e =
    is_undefined (definitions_in (codes "true") e) && (is_undefined (definitions_in (codes "false") e)
    && (is_undefined (definitions_in (codes "null") e) && is_undefined (definitions_in (codes "__overrides") e)))

-- whether an identifier is one of these names
abbrev pub is_constant : Option Located → Bool
is_constant None = false
is_constant (Some e) = is_some (named (text_at e))

-- whether the identifier in a node is one of these names
abbrev pub has_constant : Located → Bool
has_constant e = is_constant (child_of (same_kind k.NODE_IDENT) 0 e)

-- the same, for a node that may be missing
abbrev pub has_constant_if : Option Located → Bool
has_constant_if None = false
has_constant_if (Some e) = has_constant e

-- whether a pattern binds one of these names
abbrev pub pattern_has_constant : Located → Bool
pattern_has_constant e =
    if has_constant_if (child_of (same_kind k.NODE_PAT_BIND) 0 e) then true else list_any has_constant (nodes_of (same_kind k.NODE_PAT_ENTRY) e)

-- whether a parameter binds one of these names
abbrev pub param_has_constant : Located → Bool
param_has_constant e = if same_kind k.NODE_PATTERN (item_of e).kind then pattern_has_constant e else has_constant e

-- the same, for the parameter of a function
abbrev pub binds_constant : Option Located → Bool
binds_constant None = false
binds_constant (Some param) = param_has_constant param

-- the definitions of an attribute in a set
abbrev pub set_definitions : List ℕ → Located → Option (List Definition)
set_definitions name e =
    if is_some (token_of (same_kind k.TOKEN_REC) e) then (if keeps_constants e then definitions_in name e else None) else definitions_in name e

-- where to look for an attribute of an expression: its definitions are found, or they are those of another expression, or those of the right operand of `//`
-- and, if it has none, those of the left one
pub data Turn : Type 0 where
  finish : List Definition → Turn
  enter : Located → Turn
  update : Located → Located → Turn

-- an expression inside another, if it is there
abbrev pub entered : Option Located → Option Turn
entered inner = option_map enter inner

-- the operands of an operation: only those of `//` are looked at
abbrev pub operands : Option BinOpKind → Option Located → Option Located → Option Turn
operands (Some Update) (Some left) (Some right) = Some (update left right)
operands operator left right = None

-- a value as the only definition, if there is one
abbrev pub only_if : Option Located → List Definition
only_if None = []
only_if (Some e) = only e

-- the item of a list that a name selects, if the name is an index
abbrev pub item_at : Option ℕ → Located → List Definition
item_at None e = []
item_at (Some index) e = only_if (child_of is_expr index e)

-- what is only looked at if the expression is no operand of `//`, which only sets can be
abbrev pub unless_operand : Bool → Option Turn → Option Turn
unless_operand is_operand turn = if is_operand then None else turn

-- where to look for the attribute or the item with a name in an expression of a kind
abbrev pub turn_as : SyntaxKind → Name → Bool → Located → Option Turn
turn_as k.NODE_ROOT name is_operand e = entered (child_of is_expr 0 e)
turn_as k.NODE_PAREN name is_operand e = entered (child_of is_expr 0 e)
turn_as k.NODE_WITH name is_operand e = entered (child_of is_expr 1 e)
turn_as k.NODE_ASSERT name is_operand e = entered (child_of is_expr 1 e)
turn_as k.NODE_LET_IN name is_operand e = if keeps_constants e then entered (child_of is_expr 0 e) else None
turn_as k.NODE_LAMBDA name is_operand e =
    unless_operand is_operand (if binds_constant (child_of is_param 0 e) then None else entered (child_of is_expr 0 e))
turn_as k.NODE_BIN_OP name is_operand e =
    operands (first_operator binary_operator (tokens_in (children_of e))) (child_of is_expr 0 e) (child_of is_expr 1 e)
turn_as k.NODE_ATTR_SET name is_operand e = option_map finish (set_definitions name.text e)
turn_as k.NODE_LIST name is_operand e = unless_operand is_operand (Some (finish (item_at name.index e)))
turn_as _ name is_operand e = unless_operand is_operand (option_map (λ plain. finish []) (scalar_of e))

abbrev pub turn_of : Name → Bool → Located → Option Turn
turn_of name is_operand e = turn_as (item_of e).kind name is_operand e

-- the definitions that are found, or others if there are none
abbrev pub or_else : List Definition → Option (List Definition) → Option (List Definition)
or_else definitions others = if is_defined definitions then Some definitions else others

abbrev pub turned : (Bool → Located → Option (List Definition)) → Bool → Turn → Option (List Definition)
turned select is_operand (finish definitions) = Some definitions
turned select is_operand (enter e) = select is_operand e
turned select is_operand (update left right) = option_and_then (λ definitions. or_else definitions (select true left)) (select true right)

-- the definitions of the attribute or the item with a name in an expression, which may be an operand of `//`
unfoldable pub selected : ℕ → Name → Bool → Located → Option (List Definition)
selected zero name is_operand e = None
selected (suc levels) name is_operand e = option_and_then (turned (selected levels name) is_operand) (turn_of name is_operand e)

-- some definitions of an attribute, and those in a set that is one definition of several: there are not both, since the set may only add attributes
abbrev pub merged_new : List Definition → List Definition → Option (List Definition)
merged_new found more = if is_defined more then (if is_defined found then None else Some more) else Some found

-- the same, for an expression, which must be a set without `rec`
abbrev pub merged_set : List ℕ → Located → List Definition → Option (List Definition)
merged_set name e found =
    if same_kind k.NODE_ATTR_SET (item_of e).kind
    then (if is_some (token_of (same_kind k.TOKEN_REC) e) then None else option_and_then (merged_new found) (definitions_in name e)) else None

-- the definitions of an attribute among some and in one definition of several with these names and this value
abbrev pub merged_by : List ℕ → List Located → Located → List Definition → Option (List Definition)
merged_by name [] value found = merged_set name (without_parens value) found
merged_by name (attr ∷ names) value found = option_map (λ more. found ++ more) (defined_by name (attr ∷ names) value)

abbrev pub merged_with : List ℕ → Definition → List Definition → Option (List Definition)
merged_with name definition found = merged_by name definition.names definition.value found

-- the value of the only definition, if no names lead to it
abbrev pub lone_value : List Located → Located → Option Located
lone_value [] value = Some value
lone_value (attr ∷ names) value = None

abbrev pub only_value : List Definition → Option Located
only_value (definition ∷ []) = lone_value definition.names definition.value
only_value definitions = None

-- the definitions of an attribute of the value that some define
abbrev pub selected_from : Name → Option Located → List Definition → Option (List Definition)
selected_from name (Some value) definitions = selected LEVELS name false value
selected_from name None definitions = each (merged_with name.text) definitions []

abbrev pub selected_in : Name → List Definition → Option (List Definition)
selected_in name definitions = selected_from name (only_value definitions) definitions

-- the definitions that a path selects in a tree: each of its names selects among those that the names before it select
abbrev pub selection : List Name → Located → Option (List Definition)
selection path root = each selected_in path (only root)
