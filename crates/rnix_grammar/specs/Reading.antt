-- The reading of a text: a tree with its errors. Each text has exactly one.
use Rattle.std.specs.Prelude.{◌≡◌, List}
use Rattle.rnix_kinds.specs.declared.kinds.SyntaxKind.TheVariants.{NODE_ROOT}
use Rattle.rnix_kinds.specs.Lexical.Tokens.{Lexeme}
use Rattle.rnix_green.specs.Tree.{Tree}
use Rattle.rnix_grammar.specs.Fault.{Fault}
use Rattle.rnix_grammar.specs.AnnotatedForest.{AnnotatedForest, forget, tokens_in, without_trivia, placed_from}
use Rattle.rnix_grammar.specs.Layout.{with_all_trivia}
use Rattle.rnix_grammar.specs.Reads.{ReadsRoot}

-- the tree and the errors are a reading of the tokens
pub record IsReading (tokens : List Lexeme) (tree : Tree) (faults : List Fault) : Type 0 where
  -- the tree, annotated with its tokens and with the reason for each error node
  pub annotated : AnnotatedForest
  pub tree_is : tree ≡ record { kind = NODE_ROOT; children = forget annotated }
  -- the leaves are the tokens, one by one
  pub leaves : tokens_in annotated ≡ placed_from 0 tokens
  -- trivia before an item are its siblings, right before it; those before the first item of a node are before the node
  pub placed : annotated ≡ with_all_trivia (without_trivia annotated) (placed_from 0 tokens)
  -- at each position of a row the next items decide what follows; the errors are those of the error nodes, of what is missing at the end of
  -- the text, and of repeated entries, in the order in which these close
  pub reads : ReadsRoot (without_trivia annotated) faults
