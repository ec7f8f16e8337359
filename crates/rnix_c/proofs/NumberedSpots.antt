-- Elements of a tree with consecutive numbers.
use Rattle.std.proofs.Common.{◌≡◌, ℕ, zero, suc, ◌+◌, List, ◌∷◌, map}
use Rattle.rnix_green.specs.{Tree.{Tree}, Walk.{Spot, spot_at, counted}}

-- the spots are those of the elements from number `n` on
pub record AreFrom (t : Tree) (n : ℕ) (spots : List Spot) : Type 0 where
  pub count : ℕ
  pub are : spots ≡ map (spot_at t) (counted n count)

-- the others have the numbers from the next one on
others_of : (t : Tree) (n count : ℕ) (spot : Spot) (spots : List Spot) → spot ∷ spots ≡ map (spot_at t) (counted n count) → AreFrom t (n + 1) spots
others_of t n zero spot spots is = absurd (cc is)
others_of t n (suc count) spot spots is = record { count = count; are = cc is }

pub others_follow : (t : Tree) (n : ℕ) (spot : Spot) (spots all : List Spot) → all ≡ spot ∷ spots → AreFrom t n all → AreFrom t (n + 1) spots
others_follow t n spot spots all is from =
    let here : spot ∷ spots ≡ map (spot_at t) (counted n from.count) = cc (is, from.are) in others_of t n from.count spot spots here
