-- The list that a value writes out, and the elements of lists.
use Rattle.std.specs.Prelude.{◌≡◌, ℕ, zero, suc, ◌&&◌, Bool, true, false, List, [], ◌∷◌, ◌++◌, codes, find, bytes_eq, Option, Some, None, if◌then◌else◌}
use Rattle.rnix_kinds.specs.declared.kinds.SyntaxKind.{SyntaxKind}
use Rattle.rnix_kinds.specs.declared.kinds.SyntaxKind.TheVariants as k
use Rattle.rnix_green.specs.Tree.{Located, item_of, text_at}
use Rattle.rnix_green.specs.Walk.{nodes_in, children_of}
use Rattle.rnix_green.specs.Equality.{same_kind}
use Rattle.rnix_tree.specs.InsideCounts.{inside_count}
use Rattle.rnix_base.specs.declared.operators.BinOpKind.{BinOpKind}
use Rattle.rnix_base.specs.declared.operators.BinOpKind.TheVariants as op
use Rattle.rnix_base.specs.TokenOperators.{first_operator, binary_operator}
use Rattle.rnix_base.specs.Select.{child_of, tokens_in}
use Rattle.rnix.specs.NodeKinds.{is_expr}
use Rattle.nix_update.specs.declared.lists.ListPart.{ListPart}
use Rattle.nix_update.specs.declared.value.Form.{Form}
use Rattle.nix_update.specs.Inner.{inner}
use Rattle.nix_update.specs.NewValue.{IsValueOf}

-- an expression in which a list is sought, and whether it is an operand of `++` or inside one
abbrev pub list_part : Located → Bool → ListPart
list_part node is_operand = record { node = node; is_operand = is_operand }

-- the expression, if it exists
abbrev pub list_part_if : Option Located → Bool → List ListPart
list_part_if None is_operand = []
list_part_if (Some node) is_operand = list_part node is_operand ∷ []

-- whether an operator is `++`
abbrev pub is_concat : Option BinOpKind → Bool
is_concat (Some op.Concat) = true
is_concat _ = false

-- whether an expression is an operation with `++`
abbrev pub is_concatenation : Located → Bool
is_concatenation e = same_kind k.NODE_BIN_OP (item_of e).kind && is_concat (first_operator binary_operator (tokens_in (children_of e)))

-- the expression in which the list is sought inside an expression that is no such operation: the one into which a path leads, but not the argument of a call
-- that is an operand
abbrev pub part_inside : ListPart → Option Located
part_inside w = if w.is_operand && same_kind k.NODE_APPLY (item_of w.node).kind then None else inner w.node

-- the expressions in which the list is sought inside an expression, in this order: the operands of `++`, the last one first; or that expression
abbrev pub list_parts : ListPart → List ListPart
list_parts w =
    if is_concatenation w.node then list_part_if (child_of is_expr 1 w.node) true ++ list_part_if (child_of is_expr 0 w.node) true
    else list_part_if (part_inside w) w.is_operand

-- whether an expression is a list
abbrev pub is_list : Located → Bool
is_list e = same_kind (item_of e).kind k.NODE_LIST

-- the first list in some expressions, in the order in which it is sought, among at most so many
abbrev pub list_among : ℕ → List ListPart → Option Located
list_among zero parts = None
list_among (suc count) [] = None
list_among (suc count) (w ∷ parts) =
    if is_list w.node then Some w.node else list_among count (list_parts w ++ parts)

-- the list that a value writes out: it has no more expressions than elements, so the number of these is enough
abbrev pub list_in : Located → Option Located
list_in e = list_among (inside_count e) (list_part e false ∷ [])

-- the list that the value of an entry writes out, if the entry has a value
abbrev pub list_in_if : Option Located → Option Located
list_in_if None = None
list_in_if (Some value) = list_in value

-- whether an expression of a kind is in brackets where it is an element of a list
abbrev pub needs_brackets : SyntaxKind → Bool
needs_brackets k.NODE_APPLY = true
needs_brackets k.NODE_ASSERT = true
needs_brackets k.NODE_BIN_OP = true
needs_brackets k.NODE_HAS_ATTR = true
needs_brackets k.NODE_IF_ELSE = true
needs_brackets k.NODE_LAMBDA = true
needs_brackets k.NODE_LEGACY_LET = true
needs_brackets k.NODE_LET_IN = true
needs_brackets k.NODE_UNARY_OP = true
needs_brackets k.NODE_WITH = true
needs_brackets _ = false

-- a text in brackets
abbrev pub bracketed : List ℕ → List ℕ
bracketed text = codes "(" ++ (text ++ codes ")")

-- an element of a list, given by its kind and its text: what a value means, in brackets where these are needed
pub record IsElementOf (form : Form) (value : List ℕ) (kind : SyntaxKind) (new : List ℕ) : Type 0 where
  pub own_kind : SyntaxKind
  pub own : List ℕ
  pub is_value : IsValueOf form value own_kind own
  pub kind_is : kind ≡ (if needs_brackets own_kind then k.NODE_PAREN else own_kind)
  pub new_is : new ≡ (if needs_brackets own_kind then bracketed own else own)

-- whether a node is an expression with this text
abbrev pub is_element_with : List ℕ → Located → Bool
is_element_with new e = is_expr (item_of e).kind && bytes_eq (text_at e) new

-- the first element of a list with this text
abbrev pub element_with : List ℕ → Located → Option Located
element_with new list = find (is_element_with new) (nodes_in (children_of list))
