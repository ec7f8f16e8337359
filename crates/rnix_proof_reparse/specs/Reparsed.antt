-- The tree of a text in which what is inside a bracketed node was edited.
use Rattle.std.specs.Prelude.{◌≡◌, ◌≤◌, ◌+◌, ℕ, true, List, [], ◌++◌}
use Rattle.rnix_kinds.specs.declared.kinds.SyntaxKind.{SyntaxKind}
use Rattle.rnix_kinds.specs.declared.kinds.SyntaxKind.TheVariants.{NODE_ROOT}
use Rattle.rnix_kinds.specs.Lexical.Tokens.{tokens_of}
use Rattle.rnix_green.specs.Forest.{Forest, empty, node, text_of}
use Rattle.rnix_green.specs.Tree.{Tree}
use Rattle.rnix_green.specs.Context.{Context, filled, text_before}
use Rattle.rnix_grammar.specs.Nest.{nest}
use Rattle.rnix_grammar.specs.Reading.{IsReading}
use Rattle.rnix_grammar.specs.Tables.{depth_limit}
use Rattle.rnix_parser.specs.ReadingLaws.{OfRead}
use Rattle.rnix_parser.specs.Significant.{significant}
use Rattle.rnix_proof_reparse.specs.Bracketed.{IsBracketed, precedes_brace, HaveSameBrace}
use Rattle.rnix_proof_reparse.specs.LevelsAround.{levels_around, between}

-- the tree below a root
abbrev pub rooted : Forest → Tree
rooted f = record { kind = NODE_ROOT; children = f }

-- A node of a tree that is the reading of a text without errors: its place, its kind, its first and last token, and what is between them, in the old text and
-- in a text that is read as one such node alone, without errors; both have the same tokens up to the opening bracket, and the new node nests no deeper than
-- the limit allows in the place of the old one.
pub record IsEdited (before old after new : List ℕ) (place : Context) (kind left right : SyntaxKind) (opening closing : List ℕ)
    (inside edited : Forest) : Type 0 where
  pub brackets : IsBracketed kind left right
  pub same_brace : precedes_brace left ≡ true → HaveSameBrace inside edited
  pub start : text_before place ≡ before
  pub extent : text_of (between left opening inside right closing) ≡ old
  pub reading : IsReading (tokens_of (before ++ (old ++ after))) (rooted (filled place kind (between left opening inside right closing))) []
  pub alone : IsReading (tokens_of new) (rooted (node kind (between left opening edited right closing) empty)) []
  pub shallow : levels_around NODE_ROOT kind place + nest kind (significant (between left opening edited right closing)) ≤ depth_limit

-- with such an edit, the text with the new node in place of the old one is read without errors, as the old tree with the new node in place of the old one
abbrev pub IsReparsed : List ℕ → List ℕ → List ℕ → List ℕ → Type 0
IsReparsed before old after new =
    (place : Context) (kind left right : SyntaxKind) (opening closing : List ℕ) (inside edited : Forest)
    → IsEdited before old after new place kind left right opening closing inside edited
    → OfRead (before ++ (new ++ after)) (λ tree faults. (tree ≡ rooted (filled place kind (between left opening edited right closing))) × (faults ≡ []))
