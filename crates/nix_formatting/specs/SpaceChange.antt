-- A text that differs from another one only in white space.
use Rattle.std.specs.Prelude.{◌≡◌, ◌&&◌, Bool, true, false, ℕ, List, [], ◌∷◌}
use Rattle.rnix_kinds.specs.declared.kinds.SyntaxKind.{SyntaxKind}
use Rattle.rnix_kinds.specs.declared.kinds.SyntaxKind.TheVariants.{TOKEN_WHITESPACE}
use Rattle.rnix_kinds.specs.Lexical.Tokens.{Lexeme, tokens_of}
use Rattle.rnix_green.specs.Equality.{same_kind}
use Rattle.rnix_green.specs.Tree.{Tree}
use Rattle.rnix_grammar.specs.Reading.{IsReading}
use Rattle.rnix_grammar.specs.TokenKinds.{is_piece_start}
use Rattle.rnix_proof_layout.specs.AlikeItems.{ends_piece}
use Rattle.rnix_parser.specs.Significant.{significant}

-- a token other than white space: its kind, its text, and whether it follows a part of a path without white space between and would continue the path
abbrev pub VisibleToken : Type 0
VisibleToken = SyntaxKind × List ℕ × Bool

-- the list of visible tokens starting with this token, unless it is white space
abbrev pub visible_if : Bool → VisibleToken → List VisibleToken → List VisibleToken → List VisibleToken
visible_if true t spaced touching = spaced
visible_if false t spaced touching = t ∷ touching

-- the tokens other than white space, comments included; `in_path` says whether a part of a path precedes them
abbrev pub visible_tokens_from : Bool → List Lexeme → List VisibleToken
visible_tokens_from in_path [] = []
visible_tokens_from in_path (t ∷ ts) =
    visible_if (same_kind t.0 TOKEN_WHITESPACE) (t.0, t.1, in_path && is_piece_start t.0)
    (visible_tokens_from false ts) (visible_tokens_from (ends_piece t.0) ts)

-- the tokens of a text, except white space
abbrev pub visible_tokens_of : List ℕ → List VisibleToken
visible_tokens_of text = visible_tokens_from false (tokens_of text)

-- both texts have no errors, and the same tree except for white space and comments
pub record AreOneTree (old new : List ℕ) : Type 0 where
  pub before : Tree
  pub after : Tree
  pub old_read : IsReading (tokens_of old) before []
  pub new_read : IsReading (tokens_of new) after []
  pub same : significant after.children ≡ significant before.children

-- the new text differs from the old one only in white space: it has the same tokens in the same order, comments included, and the same tree
pub record IsSpaceChange (old new : List ℕ) : Type 0 where
  pub tokens : visible_tokens_of new ≡ visible_tokens_of old
  pub tree : AreOneTree old new
