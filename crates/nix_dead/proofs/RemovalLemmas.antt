-- A test of all nodes of a list, one after another.
use Rattle.std.proofs.Common.{◌≡◌, Bool, true, false, List, ◌∷◌, ap, sym, ◌∙◌}
use Rattle.std.specs.{Prelude.◌&&◌, List.list_all}

module _ {A : Type 0} (p : A → Bool) (xs rest : List A) (x own : A) (all : Bool) (next : xs ≡ x ∷ rest) (own_is : own ≡ x)
    (so_far : list_all p xs ≡ all) where
  decides : (p own && list_all p rest) ≡ all
  decides = ap (λ y. p y && list_all p rest) own_is ∙ ap (list_all p) (sym next) ∙ so_far

  -- the next one fails
  pub one_fails : p own ≡ false → false ≡ all
  one_fails is = ap (λ b. b && list_all p rest) (sym is) ∙ decides

  -- the next one passes
  pub one_passes : p own ≡ true → list_all p rest ≡ all
  one_passes is = ap (λ b. b && list_all p rest) (sym is) ∙ decides
