-- What holds of the tokens, the tree and the errors of a text.
use Rattle.std.specs.Prelude.{◌≡◌, ◌↔◌, ◌≤◌, true, List, []}
use Rattle.rnix_kinds.specs.declared.kinds.SyntaxKind.TheVariants.{NODE_ROOT}
use Rattle.rnix_kinds.specs.Lexical.Tokens.{Lexeme}
use Rattle.rnix_green.specs.Forest.{Forest, empty, node}
use Rattle.rnix_green.specs.Tree.{Tree}
use Rattle.rnix_grammar.specs.Fault.{Fault}
use Rattle.rnix_grammar.specs.Tables.{depth_limit}
use Rattle.rnix_grammar.specs.AnnotatedForest.{blank, forget, without_trivia, placed_from, HaveLeafKinds}
use Rattle.rnix_grammar.specs.Reading.{IsReading}
use Rattle.rnix_grammar.specs.Repaired.{repaired, repaired_nonempty, incomplete, AreBegun, ended_count, others, NoErrorAfterEnd, AreNamedLists}
use Rattle.rnix_grammar.specs.Unfinished.{AreIncompleteLast}
use Rattle.rnix_grammar.specs.Shape.{IsShaped, IsUnrepeated, reports_within}
use Rattle.rnix_grammar.specs.Trim.{AreFaultsTrimmed, AreNamesSingleTokens}
use Rattle.rnix_grammar.specs.TriviaBetween.{AreTriviaBetween}
use Rattle.rnix_grammar.specs.Named.{is_repeated, Lacks}
use Rattle.rnix_grammar.specs.Extensions.{has_no_extension}
use Rattle.rnix_grammar.specs.PathPieces.{ArePaths}
use Rattle.rnix_grammar.specs.Nest.{nest}
use Rattle.rnix_grammar.specs.Grammar.{IsExpression}
use Rattle.rnix_grammar.specs.Derivation.{IsDerivation}
use Rattle.rnix_grammar.specs.Layout.{items}

-- The tree and the errors are the reading of the tokens; the other fields follow from this.
pub record IsParsed (tokens : List Lexeme) (tree : Tree) (faults : List Fault) : Type 0 where
  pub reading : IsReading tokens tree faults
  -- all fields below follow from the reading
  -- each leaf has its token's kind, except `or` as a name and `__curPos` as an expression
  pub leaf_kind : HaveLeafKinds NODE_ROOT reading.annotated
  -- no error node begins or ends with trivia
  pub trimmed : AreFaultsTrimmed reading.annotated
  -- the node of a name contains at most one token and nothing else, and an entry of a pattern begins with its name
  pub bare : AreNamesSingleTokens reading.annotated
  -- the errors other than those at the end of the text are those of the error nodes and of repeated entries, in the order in which these close
  pub paired : others faults ≡ reports_within blank reading.annotated
  pub named : AreNamedLists faults
  -- there are no errors exactly if each node has its shape and no entry is repeated
  pub shaped : (faults ≡ []) ↔ (IsShaped tree × IsUnrepeated tree)
  -- there are errors at the end of the text exactly if a node is incomplete, and at least as many errors as such nodes
  pub few_incomplete : incomplete (node NODE_ROOT (repaired (without_trivia reading.annotated)) empty) ≤ ended_count faults
  pub no_incomplete : (incomplete (node NODE_ROOT (repaired (without_trivia reading.annotated)) empty) ≡ 0) ↔ (ended_count faults ≡ 0)
  -- in the repaired tree, leaving out numbers that replace no token, each node's children begin a row of its kind
  pub begun : AreBegun (node NODE_ROOT (repaired_nonempty (without_trivia reading.annotated)) empty)
  -- no item follows an incomplete node, and after an error at the end of the text no token is reported as wrong
  pub last_incomplete : AreIncompleteLast (without_trivia reading.annotated) []
  pub settled : NoErrorAfterEnd faults
  -- without errors, trivia between two tokens are in the smallest node that contains both
  pub between : faults ≡ [] → AreTriviaBetween tree
  -- without errors, no more counted expressions are inside one another than the limit allows
  pub nested : faults ≡ [] → nest NODE_ROOT (forget (without_trivia reading.annotated)) ≤ depth_limit
  -- if the items have a derivation, there are no errors, and the tree without trivia is that derivation
  pub found : (derivation : Forest) → IsDerivation derivation (items (placed_from 0 tokens)) → (faults ≡ [])
      × (forget (without_trivia reading.annotated) ≡ derivation)
  -- without errors at the end of the text or about repeated names, the repaired tree is an expression of the strict grammar if it has no accepted extension
  pub converse : ended_count faults ≡ 0 → Lacks is_repeated faults → has_no_extension NODE_ROOT (repaired (without_trivia reading.annotated)) ≡ true
      → IsExpression (repaired (without_trivia reading.annotated))
  -- if the pieces of its paths touch, a text is read without errors and without accepted extensions exactly if its items have a derivation
  pub exactly : ArePaths (without_trivia reading.annotated) [] → ((faults ≡ [])
      × (has_no_extension NODE_ROOT (forget (without_trivia reading.annotated)) ≡ true))
      ↔ ((derivation : Forest) × IsDerivation derivation (items (placed_from 0 tokens)))
