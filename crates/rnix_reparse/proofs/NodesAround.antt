-- How many nodes are around the node of a context.
use Rattle.std.proofs.Common.{◌≡◌, ℕ, suc, ◌+◌, length, Option, Some, None, refl, ap, sym, ◌∙◌, subst, arith}
use Rattle.rnix_kinds.specs.declared.kinds.SyntaxKind.{SyntaxKind}
use Rattle.rnix_green.specs.Forest.{Forest, text_of, element_count}
use Rattle.rnix_green.specs.Tree.{Tree, Item, item, forest_of}
use Rattle.rnix_green.specs.Context.{Context, here, behind_leaf, behind_node, inside, filled, elements_before}
use Rattle.rnix_reparse.specs.TreeHeight.{AreAround, none, one}
use Rattle.rnix_reparse.proofs.ForestsInside.{HasForest, whole_forest, filled_forest, parent_in, first_node, behind_first, inside_first, behind_node_first}

-- the number of nodes of a context around its node
abbrev pub nodes_around : Context → ℕ
nodes_around (here f) = 0
nodes_around (behind_leaf j t x) = nodes_around x
nodes_around (behind_node j d x) = nodes_around x
nodes_around (inside j x f) = suc (nodes_around x)

-- around the node there are the nodes around its forest, and those of the context
around_filled : (t : Tree) (n s : ℕ) (p : Option ℕ) (x : Context) (k : SyntaxKind) (c : Forest) (d : ℕ) → HasForest t n s p (filled x k c)
    → AreAround t p d → AreAround t (parent_in n p x) (nodes_around x + d)
around_filled t n s p (here f) k c d h a = (let same : d ≡ 0 + d = omega arith in subst (AreAround t p) same a)
around_filled t n s p (behind_leaf j u x) k c d h a = around_filled t (n + 1) (s + length u) p x k c d (behind_first t n s p j u (filled x k c) h) a
around_filled t n s p (behind_node j e x) k c d h a =
    around_filled t (n + 1 + element_count e) (s + length (text_of e)) p x k c d (behind_node_first t n s p j e (filled x k c) h) a
around_filled t n s p (inside j x f) k c d h a =
    let parent : (item t n).parent ≡ p = ap (λ (i : Item). i.parent) (first_node t n s p j (filled x k c) f h) in
    let deeper : nodes_around x + suc d ≡ suc (nodes_around x) + d = omega arith in
    subst (AreAround t (parent_in (n + 1) (Some n) x)) deeper
    (around_filled t (n + 1) s (Some n) x k c (suc d) (inside_first t n s p j (filled x k c) f h) (one n d (subst (λ q. AreAround t q d) (sym parent) a)))

-- two counts of the nodes around an element are equal
only_count : (t : Tree) (p : Option ℕ) (a b : ℕ) → AreAround t p a → AreAround t p b → a ≡ b
only_count t None _ _ none none = refl
only_count t (Some n) _ _ (one _ a x) (one _ b y) = ap suc (only_count t (item t n).parent a b x y)

-- around the node of a context of a whole tree there are the nodes of the context
pub counted_around : (t : Tree) (x : Context) (k : SyntaxKind) (c : Forest) (d : ℕ) → forest_of t ≡ filled x k c
    → AreAround t (item t (elements_before x)).parent d → d ≡ nodes_around x
counted_around t x k c d e a =
    let forest : HasForest t 0 0 None (filled x k c) = subst (HasForest t 0 0 None) e (whole_forest t) in
    let place : elements_before x ≡ 0 + elements_before x = omega arith in
    let parent : (item t (elements_before x)).parent ≡ parent_in 0 None x =
    ap (λ m. (item t m).parent) place
    ∙ ap (λ (i : Item). i.parent) (first_node t (0 + elements_before x) _ (parent_in 0 None x) k c _ (filled_forest t 0 0 None x k c forest)) in
    let zero : nodes_around x + 0 ≡ nodes_around x = omega arith in
    only_count t (parent_in 0 None x) d (nodes_around x) (subst (λ q. AreAround t q d) parent a)
    (subst (AreAround t (parent_in 0 None x)) zero (around_filled t 0 0 None x k c 0 forest none))
