-- What is printed of a text.
use Rattle.std.specs.Prelude.{◌≡◌, ◌↔◌, ℕ, Bool, true, List, [], Option}
use Rattle.std.specs.Io.KnownBytes.{Appends}
use Rattle.rnix_kinds.specs.Lexical.Tokens.{tokens_of}
use Rattle.rnix_green.specs.Tree.{Tree}
use Rattle.rnix_grammar.specs.Fault.{Fault}
use Rattle.rnix_grammar.specs.Parsed.{IsParsed}
use Rattle.rnix_print.specs.OutputLines.{output}

-- the lines of the errors and of the tree of a text are printed
pub record IsPrinted (text : List ℕ) (good : Bool) (old new : Option (List ℕ)) : Type 0 where
  pub tree : Tree
  pub faults : List Fault
  pub parsed : IsParsed (tokens_of text) tree faults
  pub printed : Appends old new (output tree faults)
  pub good_is : (good ≡ true) ↔ (faults ≡ [])
