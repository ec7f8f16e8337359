-- A new node, compared with the node that its text gives when parsed alone.
use Rattle.std.specs.Prelude.{◌≡◌, ℕ, ◌||◌, not, Bool, true, List, [], ◌++◌, codes, length, find, Option, Some, None, if◌then◌else◌}
use Rattle.rnix_kinds.specs.declared.kinds.SyntaxKind.{SyntaxKind}
use Rattle.rnix_kinds.specs.declared.kinds.SyntaxKind.TheVariants as k
use Rattle.rnix_kinds.specs.Lexical.Tokens.{tokens_of}
use Rattle.rnix_green.specs.Equality.{same_kind}
use Rattle.rnix_green.specs.Tree.{Located, part_at}
use Rattle.rnix_green.specs.Walk.{elements_of, nodes_in}
use Rattle.rnix_grammar.specs.Tables.{is_or, is_cur_pos}
use Rattle.rnix_grammar.specs.Parsed.{IsParsed}
use Rattle.rnix.specs.NodeKinds.{is_expr, is_entry}
use Rattle.rnix.specs.ParseResult.{Reading, root_of}
use Rattle.rnix_edit.specs.declared.node_range.NodeRange.{NodeRange}
use Rattle.rnix_edit.specs.Steps.{is_at}

-- as a NODE_IDENT, `or` and `__curPos` are names of attributes, arguments or parameters, but not expressions
abbrev pub is_only_name : List ℕ → Bool
is_only_name text = is_or text || is_cur_pos text

-- whether a node of a kind with this text is an expression or an entry
abbrev pub is_readable : SyntaxKind → List ℕ → Bool
is_readable kind new = if same_kind kind k.NODE_IDENT then not (is_only_name new) else (is_expr kind || is_entry kind)

-- what precedes the text of a node when it is parsed alone: a brace if the node is an entry
abbrev pub alone_before : SyntaxKind → List ℕ
alone_before kind = if is_entry kind then codes "{" else []

-- what follows the text of a node when it is parsed alone
abbrev pub alone_after : SyntaxKind → List ℕ
alone_after kind = if is_entry kind then codes "}" else []

-- the text that is parsed for a node alone: an expression as it is, an entry in braces
abbrev pub alone_text : SyntaxKind → List ℕ → List ℕ
alone_text kind new = alone_before kind ++ (new ++ alone_after kind)

-- the range of the node in that text
abbrev pub alone_range : NodeRange → NodeRange
alone_range target = record { kind = target.kind; start = length (alone_before target.kind); len = target.len }

-- the first node with a range in a tree
abbrev pub node_at : NodeRange → Located → Option Located
node_at target root = find (is_at target) (nodes_in (elements_of root))

-- both nodes exist, and they are equal with everything inside them
abbrev pub AreSame : Option Located → Option Located → Type 0
AreSame None found = ⊥
AreSame (Some node) None = ⊥
AreSame (Some node) (Some own) = part_at node ≡ part_at own

-- a reading of the text alone has no errors, and its node is the one with a range in another tree
pub record IsSameNode (target : NodeRange) (root : Located) (read : Reading) : Type 0 where
  pub none : read.faults ≡ []
  pub same : AreSame (node_at target root) (node_at (alone_range target) (root_of read))

-- the text of a node of a kind, alone, has a reading that satisfies `so`
pub record IsReadAlone (kind : SyntaxKind) (new : List ℕ) (so : Reading → Type 0) : Type 0 where
  pub read : Reading
  pub is_read : IsParsed (tokens_of (alone_text kind new)) read.tree read.faults
  pub is_so : so read

-- if the node with a range is an expression or an entry, it is the node that its text gives when parsed alone
abbrev pub IsAsAlone : List ℕ → NodeRange → Located → Type 0
IsAsAlone new target root = is_readable target.kind new ≡ true → IsReadAlone target.kind new (IsSameNode target root)

-- the node with a range is an expression or an entry, but not the node that its text gives when parsed alone
pub record IsUnlikeAlone (new : List ℕ) (target : NodeRange) (root : Located) : Type 0 where
  pub readable : is_readable target.kind new ≡ true
  pub unlike : IsReadAlone target.kind new (λ read. ¬ IsSameNode target root read)
