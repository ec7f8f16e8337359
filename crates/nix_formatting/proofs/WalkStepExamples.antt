-- The steps of walks over the trees of small texts; by computation.
use Rattle.std.proofs.Common.{◌≡◌, List, [], ◌∷◌, ℕ, map, refl, codes}
use Rattle.rnix_kinds.specs.declared.kinds.SyntaxKind.TheVariants as k
use Rattle.rnix_green.specs.{Forest.{empty, leaf, node}, Tree.Tree}
use Rattle.rnix_base.specs.{Escapes.values, Normal.{symbols, lines, least_indentation, part_text, with_texts, closed}, Value.{marked, ended, with_line_feeds}}
use Rattle.nix_formatting.specs.WalkSteps.{steps_in}

-- the tree of a string with these quotes and contents, and white space before it
abbrev string_tree : List ℕ → List ℕ → List ℕ → Tree
string_tree space quotes contents = record {
  kind = k.NODE_ROOT;
  children = leaf k.TOKEN_WHITESPACE space
      (node k.NODE_STRING (leaf k.TOKEN_STRING_START quotes (leaf k.TOKEN_STRING_CONTENT contents (leaf k.TOKEN_STRING_END quotes empty))) empty);
}

-- what the steps show, one after another: the root, the string with its values, its tokens, and both nodes again when they are left
indented : map (λ s. s.shown) (steps_in (string_tree (codes " ") (codes "''") (codes "\n  a\n   b\n")))
    ≡ ([], []) ∷ (codes "a\n b\n", codes "a\n b\n") ∷ (codes "''", []) ∷ ([], []) ∷ (codes "''", []) ∷ ([], []) ∷ ([], []) ∷ []
unfolding values symbols lines least_indentation part_text with_texts closed marked ended
indented = refl

-- moving all lines by the same number of spaces, or changing other white space, changes no step
moved : steps_in (string_tree (codes "\n") (codes "''") (codes "\n a\n  b\n  ")) ≡ steps_in (string_tree (codes " ") (codes "''") (codes "\n  a\n   b\n"))
unfolding values symbols lines least_indentation part_text with_texts closed marked ended
moved = refl

-- a string in `"` shows its contents as they are written
quoted : map (λ s. s.shown) (steps_in (string_tree [] (codes "\"") (codes "\n  a")))
    ≡ ([], []) ∷ (codes "\n  a", codes "\n  a") ∷ (codes "\"", []) ∷ ([], []) ∷ (codes "\"", []) ∷ ([], []) ∷ ([], []) ∷ []
unfolding values with_line_feeds
quoted = refl

-- if spaces follow an escaped line feed, moving a string changes its value in Nix, though not its normalized parts
escaped : map (λ s. s.shown) (steps_in (string_tree [] (codes "''") (codes "\n   a''\\n  b\n")))
    ≡ ([], []) ∷ (codes "a\n  b\n", codes "a\nb\n") ∷ (codes "''", []) ∷ ([], []) ∷ (codes "''", []) ∷ ([], []) ∷ ([], []) ∷ []
unfolding values symbols lines least_indentation part_text with_texts closed marked ended
escaped = refl

escaped_moved : map (λ s. s.shown) (steps_in (string_tree [] (codes "''") (codes "\n a''\\n  b\n")))
    ≡ ([], []) ∷ (codes "a\n  b\n", codes "a\n b\n") ∷ (codes "''", []) ∷ ([], []) ∷ (codes "''", []) ∷ ([], []) ∷ ([], []) ∷ []
unfolding values symbols lines least_indentation part_text with_texts closed marked ended
escaped_moved = refl
