-- The parse of a text as stored in two arrays, which were written for C, and the number of errors.
use Rattle.std.specs.Prelude.{◌≡◌, ◌==◌, ◌-◌, ◌^◌, ℕ, suc, cond, List, [], ◌∷◌, length, take}
use Rattle.rnix_kinds.specs.declared.kinds.SyntaxKind.{SyntaxKind}
use Rattle.rnix_kinds.specs.Lexical.Tokens.{tokens_of}
use Rattle.rnix_green.specs.declared.packed.Packed.{Packed}
use Rattle.rnix_green.specs.Packed.{packed}
use Rattle.rnix_green.specs.Tree.{Tree, items_of}
use Rattle.rnix_grammar.specs.Fault.{Fault}
use Rattle.rnix_grammar.specs.Parsed.{IsParsed}
use Rattle.rnix_c.specs.declared.compact.RnixRange.{RnixRange}
use Rattle.rnix_c.specs.declared.compact.RnixLink.{RnixLink}
use Rattle.rnix_c.specs.CompactElements.{ranges_of, links_of, HaveShortNumbers}

-- the arrays contain what is written for the tree
pub record HoldTree (ranges : List RnixRange) (links : List RnixLink) (tree : Tree) : Type 0 where
  pub few : HaveShortNumbers tree
  pub ranges_are : ranges ≡ ranges_of tree
  pub links_are : links ≡ links_of tree

-- the arrays begin with what is written for the tree, and may be longer
abbrev pub BeginWithTree : List RnixRange → List RnixLink → Tree → Type 0
BeginWithTree ranges links tree = HoldTree (take (length (items_of tree)) ranges) (take (length (items_of tree)) links) tree

-- the arrays begin with what is written for the tree of the text, which has this number of errors
abbrev pub HoldParse : List ℕ → List RnixRange → List RnixLink → ℕ → Type 0
HoldParse text ranges links errors =
    (tree : Tree) × ((faults : List Fault) × (IsParsed (tokens_of text) tree faults × (BeginWithTree ranges links tree × (errors ≡ length faults))))

-- how many elements a tree has by its first link: the root, and the elements inside it
abbrev pub count_by : List RnixLink → ℕ
count_by [] = 0
count_by (link ∷ links) = suc link.inside

-- the number of a parent as a tree stores it: 0 for the root, which has none
abbrev pub kept_parent : ℕ → ℕ
kept_parent parent = cond (parent == 2 ^ 32 - 1) 0 parent

-- the size of an element as a tree stores it: 0 for a token; for a node one more than the number of elements inside it
abbrev pub kept_size : ℕ → ℕ → ℕ
kept_size is_token inside = cond (is_token == 0) (suc inside) 0

-- an element as a tree stores it, given what is written for it
abbrev pub kept_by : SyntaxKind → RnixRange → RnixLink → Packed
kept_by kind range link = packed kind range.start (kept_parent link.parent) (kept_size link.is_token link.inside)
