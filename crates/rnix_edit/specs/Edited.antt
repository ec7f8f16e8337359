-- The text after an edit: parsed again, it has the old tree around the edited range, and the new node there.
use Rattle.std.specs.Prelude.{◌≡◌, ◌≢◌, ℕ, ◌+◌, ◌≤◌, true, List, [], ◌++◌, length, take, drop, string_bytes}
use Rattle.std.specs.List.{list_all}
use Rattle.rnix_kinds.specs.declared.kinds.SyntaxKind.{SyntaxKind}
use Rattle.rnix_kinds.specs.Lexical.Tokens.{tokens_of}
use Rattle.rnix_green.specs.Tree.{Tree, Located, item_of}
use Rattle.rnix_grammar.specs.Parsed.{IsParsed}
use Rattle.rnix.specs.ParseResult.{Reading}
use Rattle.rnix_text.specs.Changes.{IsInside, IsBetween}
use Rattle.rnix_edit.specs.declared.node_range.NodeRange.{NodeRange}
use Rattle.rnix_edit.specs.declared.edited.Edited.{Edited}
use Rattle.rnix_edit.specs.declared.edited.Edited.TheVariants as edited
use Rattle.rnix_edit.specs.declared.edited.Refusal.{Refusal}
use Rattle.rnix_edit.specs.declared.edited.Refusal.TheVariants as refusal
use Rattle.rnix_edit.specs.declared.cut.Cut.{Cut}
use Rattle.rnix_edit.specs.Steps.{node_range_of, has_node, steps_in, steps_before, steps_after, is_comment, enters_first}
use Rattle.rnix_edit.specs.EditRanges.{Gap, put_in, cut_of, gap_after, gap_inside}
use Rattle.rnix_edit.specs.Alone.{IsAsAlone, IsUnlikeAlone}

-- the text with new bytes in place of those from start up to end
abbrev pub spliced : List ℕ → ℕ → ℕ → List ℕ → List ℕ
spliced text start end new = take start text ++ (new ++ drop end text)

-- the new tree has a node with the new range, and around it equals the old tree around the old range, except for white space
pub record IsAround (root : Located) (old : NodeRange) (other : Located) (new : NodeRange) : Type 0 where
  pub is_there : has_node new other ≡ true
  pub before : steps_before new other ≡ steps_before old root
  pub after : steps_after new other ≡ steps_after old root

-- the new tree is the old one without the node with the range and the comments after it, except for white space
pub record IsWithout (root : Located) (old : NodeRange) (comments : ℕ) (other : Located) : Type 0 where
  pub fits : comments ≤ length (steps_after old root)
  pub are_comments : list_all is_comment (take comments (steps_after old root)) ≡ true
  pub rest : steps_in other ≡ steps_before old root ++ drop comments (steps_after old root)

-- the new tree has a node with the range, and without this node it is the old tree, except for white space
pub record IsWith (root other : Located) (new : NodeRange) : Type 0 where
  pub is_there : has_node new other ≡ true
  pub rest : steps_in root ≡ steps_before new other ++ steps_after new other

-- the new node directly follows a node of the old tree and the comments after it
pub record IsAfter (root : Located) (old : NodeRange) (comments : ℕ) (other : Located) (new : NodeRange) : Type 0 where
  pub added : IsWith root other new
  pub fits : comments ≤ length (steps_after old root)
  pub are_comments : list_all is_comment (take comments (steps_after old root)) ≡ true
  pub after : steps_after new other ≡ drop comments (steps_after old root)

-- the new node directly precedes the last token of a node of the old tree: after the new node, the walk enters one more element, which can only be that
-- token, and then leaves the node
pub record IsLastIn (root : Located) (old : NodeRange) (other : Located) (new : NodeRange) : Type 0 where
  pub added : IsWith root other new
  pub fits : 2 ≤ length (steps_after new other)
  pub token : enters_first (steps_after new other) ≡ true
  pub after : steps_after old root ≡ drop 2 (steps_after new other)

-- the root of a tree
abbrev pub root_in : Tree → Located
root_in tree = record { tree = tree; number = 0 }

-- the range of a new node
abbrev pub node_range_at : SyntaxKind → ℕ → List ℕ → NodeRange
node_range_at kind start new = record { kind = kind; start = start; len = length new }

-- a text has no errors, and the root of its tree satisfies `so`
pub record IsReadSo (text : List ℕ) (so : Located → Type 0) : Type 0 where
  pub tree : Tree
  pub is_read : IsParsed (tokens_of text) tree []
  pub is_so : so (root_in tree)

-- a text has no errors, and the root of its tree does not satisfy `so`
pub record IsReadOtherwise (text : List ℕ) (so : Located → Type 0) : Type 0 where
  pub tree : Tree
  pub is_read : IsParsed (tokens_of text) tree []
  pub is_not : ¬ so (root_in tree)

-- a text has errors
pub record IsReadWithErrors (text : List ℕ) : Type 0 where
  pub read : Reading
  pub is_read : IsParsed (tokens_of text) read.tree read.faults
  pub some : read.faults ≢ []

-- the text with one range replaced has no errors, and the root of its tree satisfies `so`
pub record IsMade (text : List ℕ) (start end : ℕ) (new : List ℕ) (so : Located → Type 0) (made : List ℕ) : Type 0 where
  pub made_is : made ≡ spliced text start end new
  pub read : IsReadSo made so

-- a root satisfies both predicates
abbrev pub Both : (Located → Type 0) → (Located → Type 0) → Located → Type 0
Both so also root = so root × also root

-- why there is no such text, or none with the new node: `unlike` says that a root that satisfies `so` has another node there
abbrev pub IsNotMade : Refusal → List ℕ → ℕ → ℕ → List ℕ → (so unlike : Located → Type 0) → Type 0
IsNotMade refusal.NotInText text start end new so unlike = ¬ (IsInside text start end × IsBetween text start end)
IsNotMade refusal.HasErrors text start end new so unlike = IsReadWithErrors (spliced text start end new)
IsNotMade refusal.ReadOtherwise text start end new so unlike = IsReadOtherwise (spliced text start end new) so
IsNotMade refusal.NodeReadOtherwise text start end new so unlike = IsReadSo (spliced text start end new) (Both so unlike)

-- without a new node, there is no other one
abbrev pub NoNode : Located → Type 0
NoNode root = ⊥

-- the tree of the root is the old one with a new node of the kind in place of another
abbrev pub IsTreeReplaced : Located → Located → SyntaxKind → List ℕ → Located → Type 0
IsTreeReplaced root node kind new other = IsAround root (node_range_of node) other (node_range_at kind (item_of node).start new)

-- the text with a new text in place of a node: the new text is one node of the kind, an expression or an entry the same as when parsed alone, and the
-- tree around it is unchanged
abbrev pub IsReplaced : List ℕ → Located → Located → SyntaxKind → List ℕ → List ℕ → Type 0
IsReplaced text root node kind new made =
    IsMade text (item_of node).start (item_of node).end new
    (Both (IsTreeReplaced root node kind new) (IsAsAlone new (node_range_at kind (item_of node).start new))) made

-- why there is no such text
abbrev pub IsNotReplaced : Refusal → List ℕ → Located → Located → SyntaxKind → List ℕ → Type 0
IsNotReplaced refusal text root node kind new =
    IsNotMade refusal text (item_of node).start (item_of node).end new (IsTreeReplaced root node kind new)
    (IsUnlikeAlone new (node_range_at kind (item_of node).start new))

-- the text without the bytes of a cut: its tree is the old one without the node and the comments in the cut
abbrev pub IsCutOut : List ℕ → Located → Located → Cut → List ℕ → Type 0
IsCutOut text root node cut made = IsMade text cut.start cut.end [] (IsWithout root (node_range_of node) cut.comments) made

-- why there is no such text
abbrev pub IsNotCutOut : Refusal → List ℕ → Located → Located → Cut → Type 0
IsNotCutOut refusal text root node cut = IsNotMade refusal text cut.start cut.end [] (IsWithout root (node_range_of node) cut.comments) NoNode

-- the text without a node: without the bytes that go with it
abbrev pub IsRemoved : List ℕ → Located → Located → List ℕ → Type 0
IsRemoved text root node made = IsCutOut text root node (cut_of text node) made

-- why there is no such text
abbrev pub IsNotRemoved : Refusal → List ℕ → Located → Located → Type 0
IsNotRemoved refusal text root node = IsNotCutOut refusal text root node (cut_of text node)

-- the range of a node of a kind that is written into a gap
abbrev pub node_range_in : Gap → SyntaxKind → List ℕ → NodeRange
node_range_in gap kind new = node_range_at kind (gap.start + length gap.before) new

-- the text with a new text in a gap: the root of its tree satisfies `so`, and the new node of the kind, if it is an expression or an entry, is the one
-- that its text gives when parsed alone
abbrev pub IsFilled : (Gap → Located → Type 0) → SyntaxKind → List ℕ → List ℕ → Gap → List ℕ → Type 0
IsFilled so kind text new gap made =
    IsMade text gap.start gap.end (put_in gap new) (Both (so gap) (IsAsAlone new (node_range_in gap kind new))) made

-- why there is no such text
abbrev pub IsNotFilled : (Gap → Located → Type 0) → SyntaxKind → Refusal → List ℕ → List ℕ → Gap → Type 0
IsNotFilled so kind refusal text new gap =
    IsNotMade refusal text gap.start gap.end (put_in gap new) (so gap) (IsUnlikeAlone new (node_range_in gap kind new))

-- the tree of the root is the old one with the contents of a gap: one node of a kind, directly after a node and the comments before the gap
abbrev pub IsTreeAfter : Located → Located → SyntaxKind → List ℕ → Gap → Located → Type 0
IsTreeAfter root node kind new gap other = IsAfter root (node_range_of node) gap.comments other (node_range_in gap kind new)

-- the text with a new text after a node, in the gap there
abbrev pub IsInsertedAfter : List ℕ → Located → Located → SyntaxKind → List ℕ → List ℕ → Type 0
IsInsertedAfter text root node kind new made = IsFilled (IsTreeAfter root node kind new) kind text new (gap_after text node) made

-- why there is no such text
abbrev pub IsNotInsertedAfter : Refusal → List ℕ → Located → Located → SyntaxKind → List ℕ → Type 0
IsNotInsertedAfter refusal text root node kind new = IsNotFilled (IsTreeAfter root node kind new) kind refusal text new (gap_after text node)

-- the tree of the root is the old one with the contents of a gap: one node of a kind, directly before the last token of a node
abbrev pub IsTreeInside : Located → Located → SyntaxKind → List ℕ → Gap → Located → Type 0
IsTreeInside root node kind new gap other = IsLastIn root (node_range_of node) other (node_range_in gap kind new)

-- the text with a new text before the closing bracket of a node, in the gap there
abbrev pub IsInsertedInside : List ℕ → Located → Located → SyntaxKind → List ℕ → List ℕ → Type 0
IsInsertedInside text root node kind new made = IsFilled (IsTreeInside root node kind new) kind text new (gap_inside text node) made

-- why there is no such text
abbrev pub IsNotInsertedInside : Refusal → List ℕ → Located → Located → SyntaxKind → List ℕ → Type 0
IsNotInsertedInside refusal text root node kind new = IsNotFilled (IsTreeInside root node kind new) kind refusal text new (gap_inside text node)

-- P holds for the new text, if there is one
abbrev pub IfDone : (List ℕ → Type 0) → Edited → Type 0
IfDone P (edited.Done made) = P (string_bytes made)
IfDone P (edited.Refused refusal) = Unit {0}

-- P holds for the refusal, if there is one
abbrev pub IfRefused : (Refusal → Type 0) → Edited → Type 0
IfRefused P (edited.Done made) = Unit {0}
IfRefused P (edited.Refused refusal) = P refusal
