-- Climbing from an element through the nodes around it.
use Rattle.std.proofs.Common.{◌≡◌, ℕ, suc, ◌+◌, ◌≤◌, ◌<◌, length, Option, Some, None, refl, subst, arith}
use Rattle.std.specs.Prelude.{IfSome}
use Rattle.rnix_green.specs.Tree.{Tree, items_of, item}
use Rattle.rnix_green.proofs.ParentLemmas.{parent_is_before}
use Rattle.rnix_reparse.specs.TreeHeight.{AreAround, none, one}

-- how many steps the climb can still take
abbrev pub left_above : Option ℕ → ℕ
left_above None = 0
left_above (Some m) = suc m

-- the element that was reached, if there is one, is in the tree
abbrev IsReached : Tree → Option ℕ → Type 0
IsReached t None = Unit {0}
IsReached t (Some m) = m < length (items_of t)

-- `depth` nodes were passed; with those around the element that was reached, they are the nodes around element `n`
pub record IsClimbed (t : Tree) (n depth : ℕ) (above : Option ℕ) : Type 0 where
  pub reached : IsReached t above
  pub count : (e : ℕ) → AreAround t above e → AreAround t (item t n).parent (depth + e)
  pub few : depth + left_above above ≤ n

-- the parent of an element, if there is one, is in the tree and comes before the element
record IsLower (t : Tree) (n : ℕ) (parent : Option ℕ) : Type 0 where
  reached : IsReached t parent
  low : left_above parent ≤ n

lower : (t : Tree) (n : ℕ) (parent : Option ℕ) → n < length (items_of t) → (item t n).parent ≡ parent → IsLower t n parent
lower t n None l e = record { reached = tt; low = omega arith }
lower t n (Some p) l e = (let before = parent_is_before t n p l e in record { reached = omega arith; low = omega arith })

-- the climb begins at the parent
pub climb_begins : (t : Tree) (n : ℕ) → n < length (items_of t) → IsClimbed t n 0 (item t n).parent
climb_begins t n l =
    let h = lower t n (item t n).parent l refl in
    record {
      reached = h.reached;
      count = λ e a. (let same : e ≡ 0 + e = omega arith in subst (AreAround t (item t n).parent) same a);
      few = omega (arith, h.low);
    }

-- it continues with the parent's parent
pub climb_goes_on : (t : Tree) (n depth m : ℕ) → IsClimbed t n depth (Some m) → IsClimbed t n (depth + 1) (item t m).parent
climb_goes_on t n depth m h =
    let next = lower t m (item t m).parent h.reached refl in
    record {
      reached = next.reached;
      count = λ e a.
          let same : depth + suc e ≡ depth + 1 + e = omega arith in
          subst (AreAround t (item t n).parent) same (h.count (suc e) (one m e a));
      few = omega (arith, h.few, next.low);
    }

-- each step leaves fewer steps
pub climb_shorter : (t : Tree) (m : ℕ) → m < length (items_of t) → left_above (item t m).parent < left_above (Some m)
climb_shorter t m l = (let next = lower t m (item t m).parent l refl in omega (arith, next.low))

-- if no node was reached, all nodes around the element were passed
pub climb_ends : (t : Tree) (n depth : ℕ) → IsClimbed t n depth None → AreAround t (item t n).parent depth
climb_ends t n depth h = (let same : depth + 0 ≡ depth = omega arith in subst (AreAround t (item t n).parent) same (h.count 0 none))

-- each parent is in the tree
some_parent : (t : Tree) (n : ℕ) (parent : Option ℕ) → n < length (items_of t) → (item t n).parent ≡ parent → IfSome parent (λ m. m < length (items_of t))
some_parent t n None l e = tt
some_parent t n (Some p) l e = (let before = parent_is_before t n p l e in omega arith)

-- so is the parent of each element
pub parent_there : (t : Tree) (n : ℕ) → n < length (items_of t) → IfSome (item t n).parent (λ m. m < length (items_of t))
parent_there t n l = some_parent t n (item t n).parent l refl
