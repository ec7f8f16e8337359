-- What is removed with a node, and where a new node is written, in small texts; by computation. An entry of a set is one token here.
use Rattle.std.proofs.Common.{◌≡◌, ℕ, List, [], refl, codes, arith}
use Rattle.std.proofs.lemmas.Bool.{false≢true}
use Rattle.rnix_kinds.specs.declared.kinds.SyntaxKind.TheVariants as k
use Rattle.rnix_green.specs.{Forest.{Forest, empty, leaf, node}, Tree.Located}
use Rattle.rnix_edit.specs.{Steps.node_range_of, EditRanges.{Gap, cut_of, gap_after, gap_inside, put_in}, Edited.{spliced, node_range_at, IsLastIn}}

-- an element of the tree of a text
abbrev at : Forest → ℕ → Located
at trees number = record { tree = record { kind = k.NODE_ROOT; children = trees }; number = number }

-- a set, an entry, white space
abbrev set : Forest → Forest → Forest
set entries rest = node k.NODE_ATTR_SET (leaf k.TOKEN_L_BRACE (codes "{") entries) rest

abbrev entry : List ℕ → Forest → Forest
entry text rest = node k.NODE_ATTRPATH_VALUE (leaf k.TOKEN_IDENT text empty) rest

abbrev space : List ℕ → Forest → Forest
space text rest = leaf k.TOKEN_WHITESPACE text rest

abbrev closing : Forest
closing = leaf k.TOKEN_R_BRACE (codes "}") empty

-- the text without an element
abbrev without : List ℕ → Located → List ℕ
without text e = spliced text (cut_of text e).start (cut_of text e).end []

-- the text with `c;` in a gap
abbrev with_c : List ℕ → Gap → List ℕ
with_c text gap = spliced text gap.start gap.end (put_in gap (codes "c;"))

-- a set with each entry on a line of its own
abbrev lines : List ℕ
lines = codes "{\n  a; # 1\n  b;\n}\n"

abbrev in_lines : ℕ → Located
in_lines =
    at (set (space (codes "\n  ") (entry (codes "a;") (space (codes " ") (leaf k.TOKEN_COMMENT (codes "# 1") (space (codes "\n  ")
    (entry (codes "b;") (space (codes "\n") closing))))))) (space (codes "\n") empty))

-- an entry is removed with its line and the comment on it
without_line : without lines (in_lines 4) ≡ codes "{\n  b;\n}\n"
without_line = refl

without_last_line : without lines (in_lines 9) ≡ codes "{\n  a; # 1\n}\n"
without_last_line = refl

-- a new entry gets the next line, after the comment
after_line : with_c lines (gap_after lines (in_lines 4)) ≡ codes "{\n  a; # 1\n  c;\n  b;\n}\n"
after_line = refl

-- at the end of the set, a new entry gets the line before the closing brace
in_set : with_c lines (gap_inside lines (in_lines 1)) ≡ codes "{\n  a; # 1\n  b;\n  c;\n}\n"
in_set = refl

-- a set on one line
abbrev one_line : List ℕ
one_line = codes "{ a; b;}"

abbrev in_one_line : ℕ → Located
in_one_line = at (set (space (codes " ") (entry (codes "a;") (space (codes " ") (entry (codes "b;") closing)))) empty)

-- an entry is removed with the blanks after it, or with those before it if none follow
without_first : without one_line (in_one_line 4) ≡ codes "{ b;}"
without_first = refl

without_second : without one_line (in_one_line 7) ≡ codes "{ a;}"
without_second = refl

-- a new entry has a space before it, or one on each side
after_first : with_c one_line (gap_after one_line (in_one_line 4)) ≡ codes "{ a; c; b;}"
after_first = refl

in_one_line_set : with_c one_line (gap_inside one_line (in_one_line 1)) ≡ codes "{ a; b; c; }"
in_one_line_set = refl

-- an entry is the last in a set: only the closing brace follows it there
entry_is_last : IsLastIn (at (set closing empty) 0) (node_range_of (at (set closing empty) 1)) (at (set (entry (codes "c;") closing) empty) 0)
    (node_range_at k.NODE_ATTRPATH_VALUE 1 (codes "c;"))
entry_is_last = record { added = record { is_there = refl; rest = refl }; fits = omega arith; token = refl; after = refl }

-- a body that ends with a set, like that of a function
abbrev body : Forest → Forest
body entries = node k.NODE_LAMBDA (set entries empty) empty

-- an entry at the end of that set, after the brace, is not last in the function, since no token of the function follows it
entry_is_not_last : ¬ (IsLastIn (at (body closing) 0) (node_range_of (at (body closing) 1))
    (at (body (leaf k.TOKEN_R_BRACE (codes "}") (entry (codes "c;") empty))) 0) (node_range_at k.NODE_ATTRPATH_VALUE 2 (codes "c;")))
entry_is_not_last = λ last. false≢true last.token
