-- The meaning of an expression that contains only literals, lists, and sets whose paths are single names.
use Rattle.std.specs.Prelude.{◌≡◌, ℕ, zero, suc, ◌+◌, ◌==◌, ◌&&◌, ◌||◌, not, length, Bool, true, false, List, [], ◌∷◌, ◌++◌, map, codes, bytes_eq, Option, Some, None, unwrap_or, if◌then◌else◌, ◌<◌, ◌^◌, unsigned_abs}
use Rattle.std.specs.Fmt.{signed_decimal}
use Rattle.std.specs.List.{IsDistinct}
use Rattle.rnix_kinds.specs.declared.kinds.SyntaxKind.TheVariants as k
use Rattle.rnix_green.specs.Equality.{same_kind}
use Rattle.rnix_green.specs.Tree.{Located, item_of, text_at}
use Rattle.rnix_green.specs.Walk.{nodes_in, children_of}
use Rattle.rnix_base.specs.declared.literal.LiteralKind.{LiteralKind}
use Rattle.rnix_base.specs.declared.literal.LiteralKind.TheVariants as literal
use Rattle.rnix_base.specs.Literal.{first_literal}
use Rattle.rnix_base.specs.Select.{HasKind, nodes_of, child_of, token_of}
use Rattle.rnix.specs.AttrName.{static_name, without_parens}
use Rattle.rnix.specs.NodeKinds.{is_expr, is_attr}
use Rattle.rnix.specs.StringParts.{plain_value}
use Rattle.nix_values.specs.declared.data.Item.{Item}
use Rattle.nix_values.specs.Contents.{Plain, null, boolean, integer, float, text, list, set, has_parts, Entry, entry_of}
use Rattle.nix_values.specs.Floats.{is_held}
use Rattle.nix_data.specs.Misread.{is_altered}

-- the value of an expression that is a string without interpolations, unless Nix changes the string
abbrev pub expression_text : Located → Option (List ℕ)
expression_text e = if is_altered (text_at e) then None else (if same_kind k.NODE_STRING (item_of e).kind then plain_value e else None)

-- the operand of a prefix operation, such as `1` of `-1`; any other expression is itself
abbrev pub unsigned : Located → Located
unsigned e = if same_kind k.NODE_UNARY_OP (item_of e).kind then unwrap_or (child_of is_expr 0 e) e else e

-- whether a literal is an integer
abbrev pub is_integer : Option LiteralKind → Bool
is_integer (Some (literal.Integer token)) = true
is_integer _ = false

-- whether a literal is a float
abbrev pub is_float : Option LiteralKind → Bool
is_float (Some (literal.Float token)) = true
is_float _ = false

-- an expression is a literal that passes a test, possibly with a sign
abbrev pub IsNumber : (Option LiteralKind → Bool) → Located → Type 0
IsNumber is_sort e = HasKind k.NODE_LITERAL (unsigned e) × (is_sort (first_literal (unsigned e)) ≡ true)

-- the keyword for a truth value
abbrev pub word_of : Bool → List ℕ
word_of b = if b then codes "true" else codes "false"

-- an expression has a value that Nix can hold, not counting the values inside it
abbrev pub HasValue : Located → Plain → Type 0
HasValue e null = HasKind k.NODE_IDENT e × (text_at e ≡ codes "null")
HasValue e (boolean b) = HasKind k.NODE_IDENT e × (text_at e ≡ word_of b)
HasValue e (integer n) = IsNumber is_integer e × (text_at e ≡ signed_decimal n) × (unsigned_abs n < 2 ^ 63)
HasValue e (float digits) = IsNumber is_float e × (text_at e ≡ digits) × (is_held digits ≡ true)
HasValue e (text t) = expression_text e ≡ Some t
HasValue e list = HasKind k.NODE_LIST e
HasValue e set = HasKind k.NODE_ATTR_SET e × (token_of (same_kind k.TOKEN_REC) e ≡ None)

-- the expression between `${` and `}` of an attribute, without parentheses around it, or the attribute itself if there is none
abbrev pub source_inside : Located → Option Located → Located
source_inside e None = e
source_inside e (Some inner) = without_parens inner

-- the node that writes the name of an attribute
abbrev pub name_source : Located → Located
name_source e = if same_kind k.NODE_DYNAMIC (item_of e).kind then source_inside e (child_of is_expr 0 e) else e

-- whether `${` and `}` have not just one node between them: Nix does not read more than one expression there
abbrev pub lacks_single_node : Located → Bool
lacks_single_node e = same_kind k.NODE_DYNAMIC (item_of e).kind && not (length (nodes_in (children_of e)) == 1)

-- the name that an attribute in a path denotes: that which Nix knows without evaluation, unless Nix changes the string that writes it
abbrev pub key_of : Located → Option (List ℕ)
key_of e = if lacks_single_node e || is_altered (text_at (name_source e)) then None else static_name e

-- the name of the only attribute in the list, if there is exactly one
abbrev pub single_name : List Located → Option (List ℕ)
single_name (e ∷ []) = key_of e
single_name attributes = None

-- the name in a path, if the path exists and is a single name
abbrev pub path_name : Option Located → Option (List ℕ)
path_name None = None
path_name (Some path) = single_name (nodes_of is_attr path)

-- the name and the value in a child node: in a set, the child is an entry with both; in a list, it is the value, and has no name
abbrev pub IsPart : Plain → Located → List ℕ → Located → Type 0
IsPart set child name inner =
    HasKind k.NODE_ATTRPATH_VALUE child × (path_name (child_of (same_kind k.NODE_ATTRPATH) 0 child) ≡ Some name) × (child_of is_expr 0 child ≡ Some inner)
IsPart _ child name inner = (name ≡ []) × (child ≡ inner)

-- the names of the entries of a set
abbrev pub names_in : List Located → List (List ℕ)
names_in = map (λ entry. unwrap_or (path_name (child_of (same_kind k.NODE_ATTRPATH) 0 entry)) [])

-- the child nodes of an expression have different names, if its value is a set
abbrev pub HaveDifferentNames : Plain → List Located → Type 0
HaveDifferentNames set entries = IsDistinct bytes_eq (names_in entries)
HaveDifferentNames _ nodes = Unit {0}

-- the child nodes of an expression, if its value contains others
abbrev pub parts_of : Plain → Located → List Located
parts_of own e = if has_parts own then nodes_in (children_of e) else []

-- an expression without the parentheses around it, if there are any
abbrev pub unwrapped : Located → Located
unwrapped e = if same_kind k.NODE_PAREN (item_of e).kind then unwrap_or (child_of is_expr 0 e) e else e

-- nodes mean these values, one node after another
abbrev pub InOrder : (Located → List Entry → Type 0) → List Located → List Entry → Type 0
InOrder means [] entries = entries ≡ []
InOrder means (node ∷ nodes) entries =
    (own : List Entry) × (others : List Entry) × means node own × InOrder means nodes others × (entries ≡ own ++ others)

-- a child node of an expression with the value `own` means these values
abbrev pub MeansPart : (List ℕ → Located → List Entry → Type 0) → Plain → Located → List Entry → Type 0
MeansPart means own child entries = (name : List ℕ) × (inner : Located) × IsPart own child name inner × means name inner entries

-- an entry has this depth, this name, and the value of a node
abbrev pub IsHead : ℕ → List ℕ → Located → Entry → Type 0
IsHead depth name node head = (head.depth ≡ depth) × (head.name ≡ name) × HasValue node head.plain

-- an expression with a name, at a depth, means values: its own, followed by those of its parts, whose names differ in a set; they nest less than `levels` deep
unfoldable pub Means : ℕ → ℕ → List ℕ → Located → List Entry → Type 0
Means zero depth name e entries = ⊥
Means (suc levels) depth name e entries =
    (head : Entry) × (inside : List Entry) × IsHead depth name (unwrapped e) head
    × InOrder (MeansPart (Means levels (depth + 1)) head.plain) (parts_of head.plain (unwrapped e)) inside × (entries ≡ head ∷ inside)
    × HaveDifferentNames head.plain (parts_of head.plain (unwrapped e))

-- an expression means the first of these values, and `rest` follows them
abbrev pub MeansFirst : ℕ → ℕ → List ℕ → Located → List Entry → List Entry → Type 0
MeansFirst levels depth name e entries rest = (own : List Entry) × Means levels depth name e own × (entries ≡ own ++ rest)

-- an expression means the first of these items, and `rest` follows them
abbrev pub MeansItems : ℕ → ℕ → List ℕ → Located → List Item → List Item → Type 0
MeansItems levels depth name e items rest = MeansFirst levels depth name e (map entry_of items) (map entry_of rest)
