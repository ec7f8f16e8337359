-- Expressions that count nest no deeper than elements do.
use Rattle.std.proofs.Common.{ℕ, suc, ◌≤◌, max, Bool, true, false, List, arith, if◌then◌else◌}
use Rattle.rnix_kinds.specs.declared.kinds.SyntaxKind.{SyntaxKind}
use Rattle.rnix_kinds.specs.declared.kinds.SyntaxKind.TheVariants.{NODE_PAT_ENTRY}
use Rattle.rnix_kinds.specs.SyntaxKind.{is_trivia}
use Rattle.rnix_green.specs.Forest.{Forest, empty, leaf, node}
use Rattle.rnix_green.specs.Context.{Context, here, behind_leaf, behind_node, inside}
use Rattle.rnix_grammar.specs.Nest.{nest, nests}
use Rattle.rnix_parser.specs.Significant.{significant, leaf_unless}
use Rattle.rnix_proof_reparse.specs.LevelsAround.{levels_around}
use Rattle.rnix_reparse.specs.TreeHeight.{height}
use Rattle.rnix_reparse.proofs.NodesAround.{nodes_around}

at_least : (a b : ℕ) → b ≤ max a b
at_least a b = omega arith

no_more : (w : Bool) (n m : ℕ) → max (if w then suc n else n) m ≤ max (suc n) m
no_more true n m = omega arith
no_more false n m = omega arith

bounded : (n m l : ℕ) → n ≤ m → max n l ≤ max (suc m) l
bounded n m l h = omega (arith, h)

-- the trees after the first node nest no deeper than all trees
nest_behind : (p k : SyntaxKind) (c f : Forest) → nest p f ≤ nest p (node k c f)
nest_behind p NODE_PAT_ENTRY (node j d e) f = at_least (nest NODE_PAT_ENTRY e) (nest p f)
nest_behind p NODE_PAT_ENTRY c f = at_least (if nests p NODE_PAT_ENTRY then suc (nest NODE_PAT_ENTRY c) else nest NODE_PAT_ENTRY c) (nest p f)
nest_behind p k c f = at_least (if nests p k then suc (nest k c) else nest k c) (nest p f)

-- how deep a forest nests that begins with a node
nest_first : (p k : SyntaxKind) (c f : Forest) → nest p (node k c f) ≤ max (suc (nest k c)) (nest p f)
nest_first p NODE_PAT_ENTRY (node j d e) f =
    bounded (nest NODE_PAT_ENTRY e) (nest NODE_PAT_ENTRY (node j d e)) (nest p f) (nest_behind NODE_PAT_ENTRY j d e)
nest_first p NODE_PAT_ENTRY c f = no_more (nests p NODE_PAT_ENTRY) (nest NODE_PAT_ENTRY c) (nest p f)
nest_first p k c f = no_more (nests p k) (nest k c) (nest p f)

-- the expressions of a forest that count nest no deeper than its elements
nest_height : (p : SyntaxKind) (f : Forest) → nest p f ≤ height f
nest_height p empty = omega arith
nest_height p (leaf k t f) = (let rest = nest_height p f in omega (arith, rest))
nest_height p (node k c f) =
    let first = nest_first p k c f in
    let inner = nest_height k c in
    let rest = nest_height p f in
    omega (arith, first, inner, rest)

leaf_height : (w : Bool) (k : SyntaxKind) (t : List ℕ) (g f : Forest) → height g ≤ height f → height (leaf_unless w k t g) ≤ height (leaf k t f)
leaf_height true k t g f h = omega (arith, h)
leaf_height false k t g f h = omega (arith, h)

-- without trivia, elements nest no deeper
height_significant : (f : Forest) → height (significant f) ≤ height f
height_significant empty = omega arith
height_significant (leaf k t f) = leaf_height (is_trivia k) k t (significant f) f (height_significant f)
height_significant (node k c f) = (let inner = height_significant c in let rest = height_significant f in omega (arith, inner, rest))

-- so the children of a node, without trivia, nest no deeper than its elements
pub nest_within : (k : SyntaxKind) (c : Forest) → nest k (significant c) ≤ height c
nest_within k c = (let a = nest_height k (significant c) in let b = height_significant c in omega (arith, a, b))

one_more : (w : Bool) (n m : ℕ) → n ≤ suc m → (if w then suc n else n) ≤ suc (suc m)
one_more true n m h = omega (arith, h)
one_more false n m h = omega (arith, h)

one_at_most : (w : Bool) → (if w then 1 else 0) ≤ 1
one_at_most true = omega arith
one_at_most false = omega arith

-- there are at most as many levels around the inside of a node as nodes around it, plus one
pub few_levels : (p k : SyntaxKind) (x : Context) → levels_around p k x ≤ suc (nodes_around x)
few_levels p k (here f) = one_at_most (nests p k)
few_levels p k (behind_leaf j t x) = few_levels p k x
few_levels p k (behind_node j d x) = few_levels p k x
few_levels p k (inside j x f) = one_more (nests p j) (levels_around j k x) (nodes_around x) (few_levels j k x)
