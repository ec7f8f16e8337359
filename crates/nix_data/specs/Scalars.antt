-- The values of expressions other than lists and sets.
use Rattle.std.specs.Prelude.{ℕ, nat_lt, ◌^◌, ℤ, pos, negsuc, neg_ℤ, Bool, true, false, ◌&&◌, List, [], ◌∷◌, ◌++◌, length, codes, bytes_eq, Option, Some, None, option_map, option_and_then, if◌then◌else◌}
use Rattle.std.specs.Str.{all_ascii_digits}
use Rattle.std.specs.Str.Parse.{without_leading_sign, signed_digits_value}
use Rattle.rnix_kinds.specs.declared.kinds.SyntaxKind.{SyntaxKind}
use Rattle.rnix_kinds.specs.declared.kinds.SyntaxKind.TheVariants as k
use Rattle.rnix_green.specs.Tree.{Located, item_of, text_at}
use Rattle.rnix_green.specs.Walk.{nodes_in, children_of}
use Rattle.rnix_base.specs.declared.literal.LiteralKind.{LiteralKind}
use Rattle.rnix_base.specs.declared.literal.LiteralKind.TheVariants as literal
use Rattle.rnix_base.specs.declared.operators.UnaryOpKind.{UnaryOpKind}
use Rattle.rnix_base.specs.declared.operators.UnaryOpKind.TheVariants.{Negate}
use Rattle.rnix_base.specs.Literal.{first_literal}
use Rattle.rnix_base.specs.Select.{child_of, tokens_in}
use Rattle.rnix_base.specs.TokenOperators.{unary_operator, first_operator}
use Rattle.rnix.specs.NodeKinds.{is_expr}
use Rattle.nix_values.specs.Contents.{Plain, null, boolean, integer, float, text}
use Rattle.nix_values.specs.Floats.{float_text}
use Rattle.nix_data.specs.Meaning.{expression_text}

-- the value of an identifier: only these three are data
abbrev pub named : List ℕ → Option Plain
named name =
    if bytes_eq name (codes "null") then Some null
    else (if bytes_eq name (codes "true") then Some (boolean true) else (if bytes_eq name (codes "false") then Some (boolean false) else None))

-- whether a number fits in 64 bits, with its sign
abbrev pub fits : ℤ → Bool
fits (pos n) = nat_lt n (2 ^ 63)
fits (negsuc n) = nat_lt n (2 ^ 63)

-- whether a text is digits, at least one, perhaps after a sign
abbrev pub is_numeral : List ℕ → Bool
is_numeral source = nat_lt 0 (length (without_leading_sign source)) && all_ascii_digits (without_leading_sign source)

-- the number that digits represent, if it fits in 64 bits
abbrev pub number_in : List ℕ → Option ℤ
number_in digits = if is_numeral digits && fits (signed_digits_value 10 digits) then Some (signed_digits_value 10 digits) else None

-- a number as a value, if it fits in 64 bits
abbrev pub integer_if : ℤ → Option Plain
integer_if number = if fits number then Some (integer number) else None

-- the integer that digits represent, negated if the flag is set. Both numbers must fit in 64 bits: Nix reads the digits before it negates them, so -2^63 cannot
-- be written with its digits.
abbrev pub integer_of : Bool → List ℕ → Option Plain
integer_of is_negative digits = option_and_then (λ number. integer_if (if is_negative then neg_ℤ number else number)) (number_in digits)

-- the text of a number, with a minus sign if it is negated
abbrev pub signed : Bool → List ℕ → List ℕ
signed is_negative digits = (if is_negative then codes "-" else []) ++ digits

-- the value of a literal, negated if the flag is set; the value of a URI is its text, and cannot be negated
abbrev pub literal_value : Bool → Option LiteralKind → Option Plain
literal_value is_negative None = None
literal_value is_negative (Some (literal.Integer token)) = integer_of is_negative (text_at token)
literal_value is_negative (Some (literal.Float token)) = option_map float (float_text (signed is_negative (text_at token)))
literal_value is_negative (Some (literal.Uri token)) = if is_negative then None else Some (text (text_at token))

-- the negated value of an operand, which must be a literal
abbrev pub negated_of_kind : SyntaxKind → Located → Option Plain
negated_of_kind k.NODE_LITERAL e = literal_value true (first_literal e)
negated_of_kind _ e = None

-- the value of a prefix operation: only `-` with a literal is data
abbrev pub operation_value : Option UnaryOpKind → Option Located → Option Plain
operation_value (Some Negate) (Some operand) = negated_of_kind (item_of operand).kind operand
operation_value operator operand = None

-- the same for the operation that a node is
abbrev pub operation_of : Located → Option Plain
operation_of e = operation_value (first_operator unary_operator (tokens_in (children_of e))) (child_of is_expr 0 e)

-- the value of a path: its text, if it has no interpolation
abbrev pub path_value : List Located → List ℕ → Option Plain
path_value [] source = Some (text source)
path_value (interpolation ∷ others) source = None

-- the value of an expression of a kind
abbrev pub scalar_of_kind : SyntaxKind → Located → Option Plain
scalar_of_kind k.NODE_STRING e = option_map text (expression_text e)
scalar_of_kind k.NODE_LITERAL e = literal_value false (first_literal e)
scalar_of_kind k.NODE_UNARY_OP e = operation_of e
scalar_of_kind k.NODE_IDENT e = named (text_at e)
scalar_of_kind k.NODE_PATH_ABS e = path_value (nodes_in (children_of e)) (text_at e)
scalar_of_kind k.NODE_PATH_REL e = path_value (nodes_in (children_of e)) (text_at e)
scalar_of_kind k.NODE_PATH_HOME e = path_value (nodes_in (children_of e)) (text_at e)
scalar_of_kind _ e = None

-- the value of an expression that is neither a list nor a set, if it is data
abbrev pub scalar_of : Located → Option Plain
scalar_of e = scalar_of_kind (item_of e).kind e
