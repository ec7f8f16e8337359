-- How large a budget, in half steps, covers the frames and the items that are left.
use Rattle.std.proofs.Common.{◌≡◌, ◌≤◌, ℕ, zero, suc, ◌+◌, ◌*◌, Bool, List, [], ◌∷◌, max, arith}
use Rattle.{std.proofs.lemmas.Bool.leb-true, rnix_grammar.specs.{declared.position.Position.Position, AnnotatedForest.{Token, AnnotatedForest}}}
use Rattle.rnix_proof_lemmas.specs.{Machine.{Head, Frame, opened}, Measures.measure}
use Rattle.rnix_proof_lemmas.proofs.AllowedLemmas.{measure_there}
use Rattle.rnix_proof_steps.proofs.StepBounds.{per_item, room, held, closing, last, closed, last_most, closed_most, last_least, AreAtMost, closes, moves, pushes, opens}

-- what the frames need at the end of the text: two for each step to the ends of their rows
abbrev pub ends : List Frame → ℕ
ends [] = 0
ends (f ∷ fs) = 2 * measure f.position + ends fs

-- what some items pay
abbrev pub pays : Bool → List Token → ℕ
pays levels [] = 0
pays levels (t ∷ ts) = per_item levels + pays levels ts

-- a budget covers frames below others, once those are complete, whether the text ends in the first of them, above it, or after it
abbrev pub Covers : Bool → ℕ → List Frame → Type 0
Covers levels n [] = Unit {0}
Covers levels n (f ∷ fs) =
    (held levels f.position + room levels f.depth + ends fs ≤ n) × ((below : ℕ) × (closing f.position + below ≤ n) × Covers levels below fs)

-- a budget covers frames, the next item, and the items after it
pub record IsEnough (levels : Bool) (c : ℕ) (us : List Token) (f : Frame) (fs : List Frame) : Type 0 where
  pub last_in : pays levels us + last levels f.position + room levels f.depth + ends fs ≤ c
  pub below : ℕ
  pub closed_in : pays levels us + closed levels f.position + below ≤ c
  pub rest : Covers levels below fs

-- a budget covers some frames and the items that are left
abbrev pub Enough : Bool → ℕ → List Token → List Frame → Type 0
Enough levels c [] fs = ends fs ≤ c
Enough levels c (t ∷ us) [] = Unit {0}
Enough levels c (t ∷ us) (f ∷ fs) = IsEnough levels c us f fs

pub measure_some : (x : Position) → 1 ≤ measure x
measure_some x = leb-true 1 (measure x) (measure_there x).1

-- if a frame is open, the budget is at least 2
pub two_least : (levels : Bool) (c : ℕ) (us : List Token) (f : Frame) (fs : List Frame) → Enough levels c us (f ∷ fs) → 2 ≤ c
two_least levels c [] f fs e = omega (arith, e, measure_some f.position)
two_least levels c (t ∷ us) f fs e = omega (arith, e.last_in, last_least levels f.position, measure_some f.position)

pub two_less : (c : ℕ) → 2 ≤ c → (d : ℕ) × (c ≡ 2 + d)
two_less zero h = absurd (omega (arith, h))
two_less (suc zero) h = absurd (omega (arith, h))
two_less (suc (suc d)) h = (d, omega arith)

-- when a frame is complete, the rest of the budget covers the others
pub closed_enough : (levels : Bool) (c : ℕ) (us : List Token) (f g : Frame) (gs : List Frame) (trees : AnnotatedForest) → AreAtMost (closes levels f.position)
    → IsEnough levels (2 + c) us f (g ∷ gs) → IsEnough levels c us (opened g.head g.position g.depth trees) gs
closed_enough levels c us f g gs trees b e = record {
  last_in = omega (arith, b.0, e.closed_in, e.rest.0, last_most levels g.position);
  below = e.rest.1.0;
  closed_in = omega (arith, b.0, e.closed_in, e.rest.1.1, closed_most levels g.position);
  rest = e.rest.1.2;
}

-- when a frame moves to another position with an item, the rest of the budget covers it
pub moved_enough : (levels : Bool) (c : ℕ) (us vs : List Token) (f : Frame) (fs : List Frame) (head : Head) (y : Position) (trees : AnnotatedForest)
    → AreAtMost (moves levels f.position y) → pays levels vs ≤ pays levels us → IsEnough levels (2 + c) us f fs
    → Enough levels c vs (opened head y f.depth trees ∷ fs)
moved_enough levels c us [] f fs head y trees b h e = omega (arith, b.1.1.0, e.last_in)
moved_enough levels c us (v ∷ vs) f fs head y trees b h e = record {
  last_in = omega (arith, b.0, h, e.last_in);
  below = e.below;
  closed_in = omega (arith, b.1.0, h, e.closed_in);
  rest = e.rest;
}

-- when a node opens in a frame that waits, the rest of the budget covers both
pub pushed_enough : (levels : Bool) (c gain : ℕ) (us vs : List Token) (f : Frame) (fs : List Frame) (head other : Head) (x y : Position)
    (inside trees : AnnotatedForest)
    → AreAtMost (pushes gain levels f.position x y) → gain + pays levels vs ≤ pays levels us → IsEnough levels (2 + c) us f fs
    → IsEnough levels c vs (opened head x f.depth inside) (opened other y f.depth trees ∷ fs)
pushed_enough levels c gain us vs f fs head other x y inside trees b h e =
    let waits : ℕ = held levels y + room levels f.depth + ends fs in
    let done : ℕ = closing y + e.below in
    let first : pays levels vs + closed levels x + waits ≤ c = omega (arith, b.1.0, h, e.last_in) in
    let second : pays levels vs + closed levels x + done ≤ c = omega (arith, b.1.1.0, h, e.closed_in) in
    record {
      last_in = omega (arith, b.0, h, e.last_in);
      below = max waits done;
      closed_in = omega (arith, first, second);
      rest = (omega arith, (e.below, omega arith, e.rest));
    }

pub opened_enough : (levels : Bool) (c : ℕ) (us vs : List Token) (f : Frame) (fs : List Frame) (head other : Head) (x y : Position)
    (inside trees : AnnotatedForest)
    → AreAtMost (opens levels f.position x y) → pays levels vs ≤ pays levels us → IsEnough levels (2 + c) us f fs
    → Enough levels c vs (opened head x f.depth inside ∷ (opened other y f.depth trees ∷ fs))
opened_enough levels c us [] f fs head other x y inside trees b h e = omega (arith, b.0, e.last_in)
opened_enough levels c us (v ∷ vs) f fs head other x y inside trees b h e =
    pushed_enough levels c (per_item levels) us vs f fs head other x y inside trees b.1 h e
