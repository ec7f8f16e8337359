-- The statements of the laws, about each reading, and about each parsed tree with its errors.
use Rattle.std.specs.Prelude.{◌≡◌, ℕ, List}
use Rattle.rnix_kinds.specs.Lexical.Tokens.{Lexeme, tokens_of}
use Rattle.rnix_green.specs.Forest.{Forest, element_count}
use Rattle.rnix_green.specs.Tree.{Tree, forest_of}
use Rattle.rnix_grammar.specs.Fault.{Fault}
use Rattle.rnix_grammar.specs.AnnotatedForest.{Token, AnnotatedForest, without_trivia}
use Rattle.rnix_grammar.specs.Derivation.{IsDerivation}
use Rattle.rnix_grammar.specs.Reading.{IsReading}
use Rattle.rnix_grammar.specs.Parsed.{IsParsed}

-- a statement holds of each tree with its errors to which a text is parsed
abbrev pub OfParsed : List ℕ → (Tree → List Fault → Type 0) → Type 0
OfParsed text P = (tree : Tree) (faults : List Fault) → IsParsed (tokens_of text) tree faults → P tree faults

-- a statement holds of each tree with its errors that is a reading of a text
abbrev pub OfRead : List ℕ → (Tree → List Fault → Type 0) → Type 0
OfRead text P = (tree : Tree) (faults : List Fault) → IsReading (tokens_of text) tree faults → P tree faults

-- a statement holds of the items and the errors of each reading
abbrev pub OfReadings : (AnnotatedForest → List Fault → Type 0) → Type 0
OfReadings P = (tokens : List Lexeme) (tree : Tree) (faults : List Fault) (r : IsReading tokens tree faults) → P (without_trivia r.annotated) faults

-- two readings of the same tokens are equal
abbrev pub HaveOneReading : List Lexeme → Type 0
HaveOneReading tokens = (t u : Tree) (ds es : List Fault) → IsReading tokens t ds → IsReading tokens u es → (t ≡ u) × (ds ≡ es)

-- two derivations of the same items are equal
abbrev pub HaveOneDerivation : List Token → Type 0
HaveOneDerivation items = (t u : Forest) → IsDerivation t items → IsDerivation u items → t ≡ u

-- two texts that are read as the same tree are equal, and so are their errors
abbrev pub AreOneText : List ℕ → List ℕ → Type 0
AreOneText x y = (t : Tree) (ds es : List Fault) → IsReading (tokens_of x) t ds → IsReading (tokens_of y) t es → (x ≡ y) × (ds ≡ es)

-- how many elements a tree has: its root and everything inside
abbrev pub elements_in : Tree → ℕ
elements_in tree = element_count (forest_of tree)
