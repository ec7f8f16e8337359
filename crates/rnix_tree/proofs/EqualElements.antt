-- Elements of equal trees.
use Rattle.std.{proofs.{Common.{◌≡◌, ℕ, Bool, ap}, lemmas.Bool.Decides.{Decides-like, same_from_decides}}, specs.Bool.Decides}
use Rattle.{rnix_tree.specs.Same.{same_located, same_located-decides}, rnix_green.specs.Tree.{Tree, Located}}

-- elements with equal numbers are equal exactly if their trees are
pub same_where : (t u : Tree) (n m : ℕ) (r : Bool) → Decides r (t ≡ u) → n ≡ m
    → r ≡ same_located record { tree = t; number = n } record { tree = u; number = m }
same_where t u n m r d e =
    same_from_decides r (same_located record { tree = t; number = n } record { tree = u; number = m })
    (Decides-like r (λ x i. record { tree = x i; number = e i }) (λ x. ap (λ (l : Located). l.tree) x) d)
    (same_located-decides record { tree = t; number = n } record { tree = u; number = m })
