-- Equality of elements: the same number in equal trees.
use Rattle.std.specs.Prelude.{◌≡◌, ◌==◌, ◌&&◌, ◌++◌, Bool, true, false, bytes_eq, ℕ, List}
use Rattle.std.specs.Bool.{Decides}
use Rattle.std.specs.Cmp.{IsEquivalence}
use Rattle.std.specs.Hash as fed
use Rattle.std.proofs.Common.{ap, refl}
use Rattle.std.proofs.lemmas.Bool.Decides.{Decides-eqb, Decides-like, Decides-and}
use Rattle.std.proofs.lemmas.Slice.Eq.{bytes_eq-Decides}
use Rattle.rnix_kinds.specs.declared.kinds.SyntaxKind.{SyntaxKind}
use Rattle.rnix_kinds.specs.SyntaxKind.{discriminant_of}
use Rattle.rnix_green.specs.Equality.{same_kind, same_kind-decides, equivalence_from}
use Rattle.rnix_green.specs.Forest.{Forest, empty, leaf, node}
use Rattle.rnix_green.specs.Tree.{Located, item_of, extent_of}
use Rattle.rnix_green.specs.Range.{Extent}

-- two forests are equal
abbrev pub same_forest : Forest → Forest → Bool
same_forest empty empty = true
same_forest (leaf k t f) (leaf l u g) = same_kind k l && (bytes_eq t u && same_forest f g)
same_forest (node k c f) (node l d g) = same_kind k l && (same_forest c d && same_forest f g)
same_forest f g = false

-- two elements have the same number in equal trees
abbrev pub same_located : Located → Located → Bool
same_located a b = a.number == b.number && (same_kind a.tree.kind b.tree.kind && same_forest a.tree.children b.tree.children)

-- what is hashed of an element: its number, its kind and its range
abbrev pub hashed_at : ℕ → SyntaxKind → Extent → List (List ℕ)
hashed_at number kind range = fed.usize number ++ (fed.usize (discriminant_of kind) ++ (fed.usize range.start ++ fed.usize range.end))

-- what is hashed of an element
abbrev pub hashed : Located → List (List ℕ)
hashed e = hashed_at e.number (item_of e).kind (extent_of e)

-- the test decides whether two forests are equal
pub same_forest-decides : (f g : Forest) → Decides (same_forest f g) (f ≡ g)
same_forest-decides empty empty = (λ e. refl, λ e. refl)
same_forest-decides (leaf k t f) (leaf l u g) =
    Decides-like (same_kind k l && (bytes_eq t u && same_forest f g)) (λ e. cc) (λ e. (cc, (cc, cc)))
    (Decides-and (same_kind k l) (bytes_eq t u && same_forest f g) (same_kind-decides k l)
    (Decides-and (bytes_eq t u) (same_forest f g) (bytes_eq-Decides t u) (same_forest-decides f g)))
same_forest-decides (node k c f) (node l d g) =
    Decides-like (same_kind k l && (same_forest c d && same_forest f g)) (λ e. cc) (λ e. (cc, (cc, cc)))
    (Decides-and (same_kind k l) (same_forest c d && same_forest f g) (same_kind-decides k l)
    (Decides-and (same_forest c d) (same_forest f g) (same_forest-decides c d) (same_forest-decides f g)))
same_forest-decides f g = (λ e. cc, λ e. cc)

-- the test decides whether two elements are equal
pub same_located-decides : (a b : Located) → Decides (same_located a b) (a ≡ b)
same_located-decides a b =
    Decides-like (same_located a b) (λ e i. record { tree = record { kind = e.1.0 i; children = e.1.1 i }; number = e.0 i })
    (λ e. (ap (λ (x : Located). x.number) e, (ap (λ (x : Located). x.tree.kind) e, ap (λ (x : Located). x.tree.children) e)))
    (Decides-and (a.number == b.number) (same_kind a.tree.kind b.tree.kind && same_forest a.tree.children b.tree.children) (Decides-eqb a.number b.number)
    (Decides-and (same_kind a.tree.kind b.tree.kind) (same_forest a.tree.children b.tree.children) (same_kind-decides a.tree.kind b.tree.kind)
    (same_forest-decides a.tree.children b.tree.children)))

-- equality of elements is an equivalence
pub same_is_equivalence : IsEquivalence same_located
same_is_equivalence = equivalence_from same_located same_located-decides

-- equal elements are hashed alike
pub hashed_alike : (a b : Located) → same_located a b ≡ true → hashed a ≡ hashed b
hashed_alike a b e = ap hashed ((same_located-decides a b).0 e)
