-- The kind of the root of a tree in which another node replaces a node.
use Rattle.std.proofs.Common.{◌≡◌, ℕ, zero, suc, ◌<◌, List, get_or, None, ◌⊎◌, inl, inr, refl, ap, sym, ◌∙◌, arith}
use Rattle.rnix_kinds.specs.declared.kinds.SyntaxKind.{SyntaxKind}
use Rattle.rnix_green.specs.Forest.{Forest, empty, leaf, node, element_count}
use Rattle.rnix_green.specs.Tree.{Tree, items_from, forest_of, no_item, item}
use Rattle.rnix_green.specs.Relatives.{IsNodeIn}
use Rattle.rnix_green.specs.Context.{Context, here, behind_leaf, behind_node, inside, filled, elements_before}
use Rattle.rnix_green.specs.Splice.{HasOnlyChild, IsSpliced}
use Rattle.rnix_green.proofs.ContextLemmas.{found, count_around}
use Rattle.rnix_green.proofs.SpliceLemmas.{OnlyChild, only_child, later}

-- the kind of the first tree, if there is one
abbrev first_kind : SyntaxKind → Forest → SyntaxKind
first_kind none empty = none
first_kind none (leaf k t f) = k
first_kind none (node k c f) = k

-- the only child of a root has the number 1
child_kind : (o : Tree) (child : OnlyChild o) → (item o 1).kind ≡ child.kind
child_kind o child = ap (λ f. (get_or (items_from 0 0 None (node o.kind f empty)) 1 no_item).kind) child.is

-- a node that is not the root, or a node of the root's kind, leaves the root's kind as it is
kind_around : (t u : Tree) (x : Context) (k : SyntaxKind) (c : Forest) (j : SyntaxKind) (d : Forest) (root : SyntaxKind) → forest_of t ≡ filled x k c
    → forest_of u ≡ filled x j d
    → t.kind ≡ root
    → (0 < elements_before x) ⊎ (j ≡ root)
    → u.kind ≡ root
kind_around t u (here f) k c j d root e g is (inl behind) = absurd (omega arith)
kind_around t u (here f) k c j d root e g is (inr same) = ap (first_kind root) g ∙ same
kind_around t u (behind_leaf i s x) k c j d root e g is h = absurd (cc)
kind_around t u (behind_node i b x) k c j d root e g is h =
    absurd (let none = ap (λ f. element_count (later f)) e in omega (arith, count_around x k c))
kind_around t u (inside i x f) k c j d root e g is h = ap (first_kind root) g ∙ sym (ap (first_kind root) e) ∙ is

pub root_kind_kept : (t : Tree) (n : ℕ) (o u : Tree) (root : SyntaxKind) → IsNodeIn t n → HasOnlyChild o → IsSpliced t n o u → t.kind ≡ root
    → (0 < n) ⊎ ((item o 1).kind ≡ root)
    → u.kind ≡ root
root_kind_kept t n o u root there only spliced is h =
    let at = found t n there in
    let child = only_child o only in
    kind_around t u at.place at.kind at.children child.kind child.children root at.is
    (spliced at.place at.kind at.children child.kind child.children at.is at.number child.is) is
    (elim h [
      | inl behind ↦ inl (omega (arith, at.number))
      | inr same ↦ inr (sym (child_kind o child) ∙ same)
    ])

-- in place of the root, the other node is the whole tree
spliced_whole : (t o : Tree) (child : OnlyChild o) → IsSpliced t 0 o record { kind = child.kind; children = child.children }
spliced_whole t o child (here f) k c j d e m g = sym child.is ∙ g ∙ ap (node j d) (ap later e)
spliced_whole t o child (behind_leaf i s x) k c j d e m g = absurd (omega (arith, m))
spliced_whole t o child (behind_node i b x) k c j d e m g = absurd (omega (arith, m))
spliced_whole t o child (inside i x f) k c j d e m g = absurd (omega (arith, m))

-- where each tree with the other node has a root of this kind, the node is not the root, or the other node is of this kind
pub inner_or_root : (t : Tree) (n : ℕ) (o : Tree) (root : SyntaxKind) → HasOnlyChild o → ((u : Tree) → IsSpliced t n o u → u.kind ≡ root)
    → (0 < n) ⊎ ((item o 1).kind ≡ root)
inner_or_root t zero o root only h =
    let child = only_child o only in
    inr (child_kind o child ∙ h record { kind = child.kind; children = child.children } (spliced_whole t o child))
inner_or_root t (suc n) o root only h = inl (omega arith)
