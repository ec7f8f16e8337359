-- A parse of the text that its tree has.
use Rattle.rnix_kinds.specs.Lexical.Tokens.{tokens_of}
use Rattle.rnix_green.specs.Forest.{text_of}
use Rattle.rnix_green.specs.Tree.{forest_of}
use Rattle.rnix_grammar.specs.Parsed.{IsParsed}
use Rattle.rnix.specs.ParseResult.{Reading}

-- all that is promised of the tree and the errors of a text holds of this tree, these errors and the tree's text
abbrev pub IsParsedText : Reading → Type 0
IsParsedText read = IsParsed (tokens_of (text_of (forest_of read.tree))) read.tree read.faults
