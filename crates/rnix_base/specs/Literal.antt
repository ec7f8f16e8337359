-- What a literal is.
use Rattle.std.specs.Prelude.{Option, option_map}
use Rattle.rnix_kinds.specs.declared.kinds.SyntaxKind.TheVariants as k
use Rattle.rnix_green.specs.Equality.{same_kind}
use Rattle.rnix_green.specs.Tree.{Located}
use Rattle.rnix_base.specs.TokenOperators.{or_else}
use Rattle.rnix_base.specs.Select.{token_of}
use Rattle.rnix_base.specs.declared.literal.LiteralKind.{LiteralKind}
use Rattle.rnix_base.specs.declared.literal.LiteralKind.TheVariants as literal

-- of the tokens right below a node the first number with a point, else the first whole number, else the first address
abbrev pub first_literal : Located → Option LiteralKind
first_literal parent =
    or_else (option_map literal.Float (token_of (same_kind k.TOKEN_FLOAT) parent))
    (or_else (option_map literal.Integer (token_of (same_kind k.TOKEN_INTEGER) parent)) (option_map literal.Uri (token_of (same_kind k.TOKEN_URI) parent)))
