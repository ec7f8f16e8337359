-- New values, and a text after one is set.
use Rattle.std.specs.Prelude.{◌≡◌, ℕ, List, [], Some, None}
use Rattle.rnix_kinds.specs.declared.kinds.SyntaxKind.{SyntaxKind}
use Rattle.rnix_kinds.specs.declared.kinds.SyntaxKind.TheVariants as k
use Rattle.rnix_kinds.specs.Lexical.Tokens.{tokens_of}
use Rattle.rnix_green.specs.Tree.{Located, item_of, text_at}
use Rattle.rnix_base.specs.Quoted.{nix_string, IsQuoted}
use Rattle.rnix_base.specs.Select.{child_of}
use Rattle.rnix_grammar.specs.Parsed.{IsParsed}
use Rattle.rnix.specs.NodeKinds.{is_expr}
use Rattle.rnix.specs.ParseResult.{Reading, root_of}
use Rattle.rnix_edit.specs.declared.edited.Refusal.{Refusal}
use Rattle.rnix_edit.specs.Edited.{IsReplaced, IsNotReplaced}
use Rattle.nix_update.specs.declared.value.Form.{Form}
use Rattle.nix_update.specs.declared.value.Form.TheVariants as form
use Rattle.nix_update.specs.Words.{IsListOf}

-- a text is parsed without errors, and its expression has this kind and this text
pub record IsExpression (text : List ℕ) (kind : SyntaxKind) (new : List ℕ) : Type 0 where
  pub read : Reading
  pub is_read : IsParsed (tokens_of text) read.tree read.faults
  pub none : read.faults ≡ []
  pub expr : Located
  pub expr_is : child_of is_expr 0 (root_of read) ≡ Some expr
  pub kind_is : kind ≡ (item_of expr).kind
  pub text_is : new ≡ text_at expr

-- a text is parsed with errors, or it has no expression
pub record IsNoExpression (text : List ℕ) : Type 0 where
  pub read : Reading
  pub is_read : IsParsed (tokens_of text) read.tree read.faults
  pub none : read.faults ≡ [] → child_of is_expr 0 (root_of read) ≡ None

-- a text is a value, written as one string
pub record IsString (value text : List ℕ) : Type 0 where
  pub text_is : text ≡ nix_string value
  pub is_quoted : IsQuoted value text

-- the node that a value means, given by its kind and its text: a string, a list of strings, or the value itself as an expression
abbrev pub IsValueOf : Form → List ℕ → SyntaxKind → List ℕ → Type 0
IsValueOf form.Text value kind new = (kind ≡ k.NODE_STRING) × IsString value new
IsValueOf form.List value kind new = (kind ≡ k.NODE_LIST) × IsListOf value new
IsValueOf form.Raw value kind new = IsExpression value kind new

-- a value means no node: it should be an expression, but is not one
abbrev pub IsNoValue : Form → List ℕ → Type 0
IsNoValue wanted value = (wanted ≡ form.Raw) × IsNoExpression value

-- the text in which a node is replaced by what a value means, and the tree around it is unchanged
pub record IsSetTo (form : Form) (value text : List ℕ) (root node : Located) (made : List ℕ) : Type 0 where
  pub kind : SyntaxKind
  pub new : List ℕ
  pub is_value : IsValueOf form value kind new
  pub replaced : IsReplaced text root node kind new made

-- why there is no such text
pub record IsNotSetTo (refusal : Refusal) (form : Form) (value text : List ℕ) (root node : Located) : Type 0 where
  pub kind : SyntaxKind
  pub new : List ℕ
  pub is_value : IsValueOf form value kind new
  pub not_replaced : IsNotReplaced refusal text root node kind new
