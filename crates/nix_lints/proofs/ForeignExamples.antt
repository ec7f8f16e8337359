-- Which characters of small texts Nix does not read as white space, by computation.
use Rattle.std.proofs.Common.{◌≡◌, ℕ, List, [], ◌∷◌, refl, codes, false}
use Rattle.rnix_green.specs.{Forest.{empty, leaf, node}, Tree.Located}
use Rattle.rnix_kinds.specs.declared.kinds.SyntaxKind.TheVariants as k
use Rattle.std.specs.Str.{chars}
use Rattle.nix_lints.specs.ForeignSpaces.{Run, runs_from, foreign_in}

-- a run, by its range and its first character
abbrev run : ℕ → ℕ → ℕ → Run
run start end first = (record { start = start; end = end }, first)

-- space, tab, carriage return and line feed
blanks : runs_from 0 false (32 ∷ 9 ∷ 13 ∷ 10 ∷ []) ≡ []
blanks = refl

-- a space, a form feed and a line feed, from the byte 5 on
form_feed : runs_from 5 false (32 ∷ 12 ∷ 10 ∷ []) ≡ run 6 7 12 ∷ []
unfolding chars
form_feed = refl

-- two no-break spaces in UTF-8, a space, and a vertical tab before an ideographic space
two_runs : runs_from 0 false (194 ∷ 160 ∷ 194 ∷ 160 ∷ 32 ∷ 11 ∷ 227 ∷ 128 ∷ 128 ∷ []) ≡ run 0 4 160 ∷ run 5 9 11 ∷ []
unfolding chars
two_runs = refl

-- [, some white space and ]; with a no-break space
abbrev list : List ℕ → Located
list inside = record {
  tree = record {
    kind = k.NODE_ROOT;
    children = node k.NODE_LIST (leaf k.TOKEN_L_BRACK (codes "[") (leaf k.TOKEN_WHITESPACE inside (leaf k.TOKEN_R_BRACK (codes "]") empty))) empty;
  };
  number = 0;
}

in_list : foreign_in (list (194 ∷ 160 ∷ [])) ≡ run 1 3 160 ∷ []
unfolding chars
in_list = refl

-- [, a line feed and ]
plain_list : foreign_in (list (10 ∷ [])) ≡ []
plain_list = refl

-- a no-break space in a comment
in_comment : foreign_in record { tree = record { kind = k.NODE_ROOT; children = leaf k.TOKEN_COMMENT (35 ∷ 194 ∷ 160 ∷ []) empty }; number = 0 } ≡ []
in_comment = refl
