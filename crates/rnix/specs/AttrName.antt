-- What an attribute is called where the text alone says so.
use Rattle.std.specs.Prelude.{ℕ, zero, suc, ◌==◌, ◌||◌, ◌&&◌, not, nat_eq, Bool, true, false, List, [], ◌∷◌, length, codes, Option, Some, None, option_map, if◌then◌else◌}
use Rattle.std.specs.List.{fold, starts_with}
use Rattle.std.specs.Str.{bytes_eq}
use Rattle.rnix_kinds.specs.declared.kinds.SyntaxKind.{SyntaxKind}
use Rattle.rnix_kinds.specs.declared.kinds.SyntaxKind.TheVariants as k
use Rattle.rnix_green.specs.Equality.{same_kind}
use Rattle.rnix_green.specs.Tree.{Located, item_of, text_at}
use Rattle.rnix_tree.specs.InsideCounts.{inside_count}
use Rattle.rnix_base.specs.declared.parts.InterpolPart.{InterpolPart}
use Rattle.rnix_base.specs.declared.parts.InterpolPart.TheVariants.{Literal}
use Rattle.rnix_base.specs.Parts.{is_indented}
use Rattle.rnix_base.specs.Select.{child_of, token_of}
use Rattle.rnix.specs.NodeKinds.{is_expr}
use Rattle.rnix.specs.StringParts.{string_parts, plain_value}

-- where Nix's tokenizer is in a text in `''` after one more byte: at 0 its token may continue; at 36 it has seen a `$`, which belongs to the token unless
-- `{` or a quote follows; at 39 it has seen a quote, which belongs to the token unless a quote or `$` follows; at 1 it has cut the text
abbrev pub state_behind : ℕ → ℕ → ℕ
state_behind state b =
    if state == 0 then (if b == 36 || b == 39 then b else 0)
    else (if state == 36 then (if b == 123 || b == 39 then 1 else 0)
    else (if state == 39 then (if b == 39 || b == 36 then 1 else 0)
    else 1))

-- whether a text in `''` is one token that any more text could continue
abbrev pub is_run : List ℕ → Bool
is_run text = fold state_behind 0 text == 0

-- whether a text in `''` is one of the other tokens: a `$`, or an escape
abbrev pub is_lone : List ℕ → Bool
is_lone text =
    bytes_eq text (codes "$") || (bytes_eq text (codes "'''") || (bytes_eq text (codes "''$")
    || (length text == 4 && starts_with nat_eq text (codes "''\\"))))

-- whether Nix reads the content of a string in `''` as one piece: it is empty, or has no interpolation and is one token of Nix
abbrev pub is_one_piece : List (InterpolPart Located Located) → Bool
is_one_piece [] = true
is_one_piece (Literal token ∷ []) = is_run (text_at token) || is_lone (text_at token)
is_one_piece parts = false

-- the value of a string that Nix knows without evaluation: it has no interpolation, and in `''` it is one piece
abbrev pub constant_string : Located → Option (List ℕ)
constant_string string = if is_indented string && not (is_one_piece (string_parts string)) then None else plain_value string

-- the text of a token, if there is one
abbrev pub text_if_some : Option Located → Option (List ℕ)
text_if_some token = option_map text_at token

-- the value of an expression of a kind that Nix knows without evaluation: of such a string, and of a URI
abbrev pub constant_by : SyntaxKind → Located → Option (List ℕ)
constant_by k.NODE_STRING e = constant_string e
constant_by k.NODE_LITERAL e = text_if_some (token_of (same_kind k.TOKEN_URI) e)
constant_by _ e = None

-- the expression that is in parentheses, if a node is that
abbrev pub inside_of : Located → Option Located
inside_of e = if same_kind k.NODE_PAREN (item_of e).kind then child_of is_expr 0 e else None

-- a function of the expression inside, if there is one; otherwise the expression itself
abbrev pub next_inside : (Located → Located) → Located → Option Located → Located
next_inside more e None = e
next_inside more e (Some inner) = more inner

-- the expression inside parentheses, at most so many
abbrev pub inside_parens : ℕ → Located → Located
inside_parens zero e = e
inside_parens (suc count) e = next_inside (inside_parens count) e (inside_of e)

-- an expression without the parentheses around it
abbrev pub without_parens : Located → Located
without_parens e = inside_parens (inside_count e) e

-- the value of the expression in `${` and `}`, without parentheses around it, if there is one and Nix knows its value without evaluation
abbrev pub constant_of : Option Located → Option (List ℕ)
constant_of None = None
constant_of (Some e) = constant_by (item_of (without_parens e)).kind (without_parens e)

-- what an attribute of a kind is called: an identifier by its name, a string in `"` by its value, `${` with `}` by the value of what is between
abbrev pub name_by : SyntaxKind → Located → Option (List ℕ)
name_by k.NODE_IDENT e = Some (text_at e)
name_by k.NODE_STRING e = if is_indented e then None else plain_value e
name_by k.NODE_DYNAMIC e = constant_of (child_of is_expr 0 e)
name_by _ e = None

-- what an attribute is called, where the text alone says so
abbrev pub static_name : Located → Option (List ℕ)
static_name e = name_by (item_of e).kind e
