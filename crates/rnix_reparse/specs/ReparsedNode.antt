-- The parse of a node's new text alone.
use Rattle.std.specs.Prelude.{ℕ, List, []}
use Rattle.rnix_kinds.specs.Lexical.Tokens.{tokens_of}
use Rattle.rnix_green.specs.Forest.{text_of}
use Rattle.rnix_green.specs.Range.{Extent}
use Rattle.rnix_green.specs.Relatives.{IsNodeIn}
use Rattle.rnix_green.specs.Splice.{HasOnlyChild, IsSpliced}
use Rattle.rnix_green.specs.Tree.{Tree, forest_of}
use Rattle.rnix_grammar.specs.Parsed.{IsParsed}
use Rattle.rnix_reparse.specs.EditedRange.{edited}

-- u's root has a single child, a node; t with it in place of node n is the parse of t's text after the edit, without errors
pub record IsReparsedNode (t : Tree) (n : ℕ) (u : Tree) (range : Extent) (replacement : List ℕ) : Type 0 where
  pub node : IsNodeIn t n
  pub single : HasOnlyChild u
  pub parsed : (v : Tree) → IsSpliced t n u v → IsParsed (tokens_of (edited range replacement (text_of (forest_of t)))) v []
