-- Texts that mean data, and the data of a text.
use Rattle.std.specs.Prelude.{◌≡◌, ℕ, List, [], IsSomeAnd}
use Rattle.rnix_kinds.specs.Lexical.Tokens.{tokens_of}
use Rattle.rnix_green.specs.Tree.{Located}
use Rattle.rnix_base.specs.Select.{child_of}
use Rattle.rnix_grammar.specs.Parsed.{IsParsed}
use Rattle.rnix.specs.NodeKinds.{is_expr}
use Rattle.rnix.specs.ParseResult.{Reading, root_of}
use Rattle.nix_values.specs.Contents.{Entry}
use Rattle.nix_data.specs.declared.nix_writer.TheConstants.{LEVELS}
use Rattle.nix_data.specs.Meaning.{Means}
use Rattle.nix_data.specs.Added.{HasData, HasNoData}
use Rattle.nix_data.specs.Misread.{IsReadAlike}

-- the expression of a tree means these values, which nest less than `LEVELS` deep
abbrev pub IsMeant : Located → List Entry → Type 0
IsMeant root entries = IsSomeAnd (child_of is_expr 0 root) (λ e. Means LEVELS 0 [] e entries)

-- a text has no errors, Nix reads none of its tokens differently, and its expression means these values
pub record IsWritten (text : List ℕ) (entries : List Entry) : Type 0 where
  pub read : Reading
  pub is_read : IsParsed (tokens_of text) read.tree read.faults
  pub no_errors : read.faults ≡ []
  pub is_alike : IsReadAlike (root_of read)
  pub is_meant : IsMeant (root_of read) entries

-- a text has no errors, Nix reads none of its tokens differently, and these are its data
pub record IsData (text : List ℕ) (entries : List Entry) : Type 0 where
  pub read : Reading
  pub is_read : IsParsed (tokens_of text) read.tree read.faults
  pub no_errors : read.faults ≡ []
  pub is_alike : IsReadAlike (root_of read)
  pub has_data : HasData (root_of read) entries

-- a text has errors, its tree has no values, or Nix reads one of its tokens differently
pub record IsNoData (text : List ℕ) : Type 0 where
  pub read : Reading
  pub is_read : IsParsed (tokens_of text) read.tree read.faults
  pub has_none : read.faults ≡ [] → HasNoData (root_of read)
