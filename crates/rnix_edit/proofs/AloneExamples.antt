-- How new texts are parsed alone, and which nodes are equal, in small texts; by computation.
use Rattle.std.proofs.Common.{◌≡◌, ℕ, List, [], codes, true, false, refl}
use Rattle.rnix_kinds.specs.declared.kinds.SyntaxKind.{SyntaxKind}
use Rattle.rnix_kinds.specs.declared.kinds.SyntaxKind.TheVariants as k
use Rattle.rnix_green.specs.{Forest.{Forest, empty, leaf, node}, Tree.{Located}}
use Rattle.rnix.specs.ParseResult.{Reading}
use Rattle.rnix_edit.specs.{Edited.node_range_at, Alone.{is_readable, alone_text, IsSameNode}}

-- an expression is parsed as it is, an entry in braces
expression_alone : alone_text k.NODE_SELECT (codes "a.b") ≡ codes "a.b"
expression_alone = refl

entry_alone : alone_text k.NODE_INHERIT (codes "inherit a;") ≡ codes "{inherit a;}"
entry_alone = refl

-- all names but two are expressions
name_is_readable : is_readable k.NODE_IDENT (codes "a") ≡ true
name_is_readable = refl

or_is_not : is_readable k.NODE_IDENT (codes "or") ≡ false
or_is_not = refl

-- a part of a pattern is neither an expression nor an entry
pattern_entry_is_not : is_readable k.NODE_PAT_ENTRY (codes "a ? b") ≡ false
pattern_entry_is_not = refl

-- a node with one token
abbrev over : SyntaxKind → SyntaxKind → List ℕ → Forest → Forest
over kind token text rest = node kind (leaf token text empty) rest

-- the tree of `[a]`
abbrev list : Located
list = record {
  tree = record {
    kind = k.NODE_ROOT;
    children = node k.NODE_LIST (leaf k.TOKEN_L_BRACK (codes "[") (over k.NODE_IDENT k.TOKEN_IDENT (codes "a")
        (leaf k.TOKEN_R_BRACK (codes "]") empty))) empty;
  };
  number = 0;
}

-- a tree without errors
abbrev read : Forest → Reading
read trees = record { tree = record { kind = k.NODE_ROOT; children = trees }; faults = [] }

-- the name in the list is the node that its text gives when parsed alone
name_in_list : IsSameNode (node_range_at k.NODE_IDENT 1 (codes "a")) list (read (over k.NODE_IDENT k.TOKEN_IDENT (codes "a") empty))
name_in_list = record { none = refl; same = refl }

-- it is not the node of a text that is not a name
not_a_name : ¬ IsSameNode (node_range_at k.NODE_IDENT 1 (codes "a")) list (read (over k.NODE_LITERAL k.TOKEN_INTEGER (codes "1") empty))
not_a_name = λ h. h.same
