-- Bounds on the steps that are left, in half steps. These tables are needed by the proof only; that the actions respect them is computed. There are two
-- sets of bounds: one counts the levels of nesting that are left apart from the items, the other does not.
use Rattle.std.proofs.Common.{◌≡◌, ◌≤◌, ℕ, suc, ◌+◌, ◌*◌, ◌-◌, Bool, true, false, ◌&&◌, List, [], ◌∷◌, Option, Some, None, if◌then◌else◌, nat_le, refl, arith}
use Rattle.std.proofs.lemmas.Bool.{and_parts, Decides.nat_tests}
use Rattle.rnix_kinds.specs.declared.kinds.SyntaxKind.TheVariants.{TOKEN_L_BRACE, TOKEN_OR}
use Rattle.rnix_grammar.specs.{declared.{position.Position.Position, slot_table.{Slot.{Slot, TheVariants.{Next, End}}, TheConstants.{APPLIED, LAMBDA}}}, Tables.depth_limit, Slots.slot_at}
use Rattle.rnix_proof_lemmas.specs.Measures.{measure}
use Rattle.rnix_grammar.specs.declared.position.Position.TheVariants as p
use Rattle.rnix_grammar.specs.declared.rules.Part.TheVariants as r

-- the budget for each item
abbrev pub per_item : Bool → ℕ
per_item true = 8
per_item false = 15

-- the budget for each level of nesting
abbrev pub per_level : Bool → ℕ
per_level true = 14
per_level false = 0

-- the budget for the levels that are left inside `d` counted positions
abbrev pub room : Bool → ℕ → ℕ
room true d = 14 * (depth_limit - d)
room false d = 0

-- the budget for what an operand or an entry that may begin here can leave open
abbrev pub extra_in : Bool → Option Slot → ℕ
extra_in levels (Some (Next (r.Entries closer))) = if levels then 14 else 7
extra_in levels (Some (Next (r.Wanted TOKEN_L_BRACE))) = if levels then 6 else 0
extra_in levels (Some (Next (r.Many level closer))) = 2
extra_in levels (Some (Next (r.Child kind))) = 6
extra_in levels (Some (Next (r.Operand level false))) = 12
extra_in levels (Some (Next (r.EndOr TOKEN_OR))) = 8
extra_in levels slot = 0

-- the slot after an attribute path
abbrev pub behind_path : ℕ → Option Slot → Option Slot
behind_path i (Some (Next r.Attrpath)) = slot_at (i + 1)
behind_path i slot = slot

abbrev pub extra : Bool → Position → ℕ
extra levels (p.InRow i) = extra_in levels (behind_path i (slot_at i))
extra levels (p.AfterOperand min_bp max_bp) = if levels then 16 else 3
extra levels (p.Right level) = if levels then 14 else 0

-- the budget for a frame if the text ends in it or above it
abbrev pub held : Bool → Position → ℕ
held levels x = 2 * measure x + extra levels x

abbrev pub closing_in : Option Slot → ℕ
closing_in None = 2
closing_in (Some (End kind)) = 2
closing_in (Some (Next (r.EndOr kind))) = 2
closing_in (Some (Next r.MoreAttrs)) = 2
closing_in (Some (Next r.PathPieces)) = 2
closing_in (Some (Next r.BoundAlready)) = 2
closing_in slot = 0

-- the budget for a frame that is complete before the text ends
abbrev pub closing : Position → ℕ
closing (p.InRow i) = closing_in (behind_path i (slot_at i))
closing (p.AfterOperand min_bp max_bp) = 2
closing (p.Right level) = 0

-- the budget for the next item in the innermost frame: less if a node that needs the item has begun
abbrev pub held_next : ℕ → Option Slot → ℕ
held_next most (Some (Next r.Attr)) = 6
held_next most (Some (Next r.Attrpath)) = 6
held_next most slot = most

abbrev pub closing_next : ℕ → Option Slot → ℕ
closing_next most (Some (Next r.Attr)) = 4
closing_next most (Some (Next r.Attrpath)) = 6
closing_next most slot = most

-- the budget for the innermost frame and the next item together
abbrev pub last : Bool → Position → ℕ
last levels (p.InRow i) = held_next (per_item levels) (slot_at i) + held levels (p.InRow i)
last levels x = per_item levels + held levels x

abbrev pub closed : Bool → Position → ℕ
closed levels (p.InRow i) = closing_next (per_item levels) (slot_at i) + closing (p.InRow i)
closed levels x = per_item levels + closing x

-- the budget for the next item is at most that for each item
held_next_most : (levels : Bool) (slot : Option Slot) → held_next (per_item levels) slot ≤ per_item levels
held_next_most true (Some (Next r.Attr)) = omega arith
held_next_most false (Some (Next r.Attr)) = omega arith
held_next_most true (Some (Next r.Attrpath)) = omega arith
held_next_most false (Some (Next r.Attrpath)) = omega arith
held_next_most levels _ = omega arith

closing_next_most : (levels : Bool) (slot : Option Slot) → closing_next (per_item levels) slot ≤ per_item levels
closing_next_most true (Some (Next r.Attr)) = omega arith
closing_next_most false (Some (Next r.Attr)) = omega arith
closing_next_most true (Some (Next r.Attrpath)) = omega arith
closing_next_most false (Some (Next r.Attrpath)) = omega arith
closing_next_most levels _ = omega arith

pub last_most : (levels : Bool) (x : Position) → last levels x ≤ per_item levels + held levels x
last_most levels (p.InRow i) = omega (arith, held_next_most levels (slot_at i))
last_most levels (p.AfterOperand min_bp max_bp) = omega arith
last_most levels (p.Right level) = omega arith

pub closed_most : (levels : Bool) (x : Position) → closed levels x ≤ per_item levels + closing x
closed_most levels (p.InRow i) = omega (arith, closing_next_most levels (slot_at i))
closed_most levels (p.AfterOperand min_bp max_bp) = omega arith
closed_most levels (p.Right level) = omega arith

pub last_least : (levels : Bool) (x : Position) → 2 * measure x ≤ last levels x
last_least levels (p.InRow i) = omega arith
last_least levels (p.AfterOperand min_bp max_bp) = omega arith
last_least levels (p.Right level) = omega arith

-- inside a counted position below the limit, one level less is left
not_full : (d : ℕ) → nat_le depth_limit d ≡ false → suc d ≤ depth_limit
not_full d h = grind (arith, nat_tests, h)

pub room_inside : (levels : Bool) (d : ℕ) → nat_le depth_limit d ≡ false → room levels d ≡ per_level levels + room levels (suc d)
room_inside true d h = let some : suc d ≤ depth_limit = not_full d h in omega (arith, some)
room_inside false d h = refl

-- in each pair the first number is at most the second
abbrev pub are_at_most : List (ℕ × ℕ) → Bool
are_at_most [] = true
are_at_most (x ∷ xs) = nat_le x.0 x.1 && are_at_most xs

abbrev pub AreAtMost : List (ℕ × ℕ) → Type 0
AreAtMost [] = Unit {0}
AreAtMost (x ∷ xs) = (x.0 ≤ x.1) × AreAtMost xs

at_most : (m n : ℕ) → nat_le m n ≡ true → m ≤ n
at_most m n h = grind (arith, nat_tests, h)

pub they_are : (xs : List (ℕ × ℕ)) → are_at_most xs ≡ true → AreAtMost xs
they_are [] h = tt
they_are (x ∷ xs) h = let both = and_parts (nat_le x.0 x.1) (are_at_most xs) h in (at_most x.0 x.1 both.0, they_are xs both.1)

-- the position after any operand
abbrev pub operand : Position
operand = p.AfterOperand 0 0

-- the budget for an operand with the item that begins it, at the lowest level or at another
abbrev pub operand_last : Bool → ℕ
operand_last any = if any then 30 else 28

abbrev pub operand_closed : Bool → ℕ
operand_closed levels = per_item levels + 4

-- the budget for an operand if the text ends after its first items
abbrev pub operand_ended : ℕ
operand_ended = 14

-- the bounds for a frame that is complete, or moves to another position
abbrev pub closes : Bool → Position → List (ℕ × ℕ)
closes levels x = (2 + per_item levels, closed levels x) ∷ []

abbrev pub moves : Bool → Position → Position → List (ℕ × ℕ)
moves levels x y =
    (2 + last levels y, per_item levels + last levels x)
    ∷ ((2 + closed levels y, per_item levels + closed levels x) ∷ ((2 + 2 * measure y, last levels x) ∷ []))

-- the bounds for a node that opens in a frame that waits at another position, with an item or without
abbrev pub pushes : ℕ → Bool → Position → Position → Position → List (ℕ × ℕ)
pushes gain levels x inside y =
    (2 + last levels inside + 2 * measure y, gain + last levels x)
    ∷ ((2 + closed levels inside + held levels y, gain + last levels x) ∷ ((2 + closed levels inside + closing y, gain + closed levels x) ∷ []))

abbrev pub opens : Bool → Position → Position → Position → List (ℕ × ℕ)
opens levels x inside y = (2 + 2 * measure inside + 2 * measure y, last levels x) ∷ pushes (per_item levels) levels x inside y

-- the bounds for reading an operand, counted or not, in a frame that waits at another position
abbrev pub level_of : Bool → Bool → ℕ
level_of levels counted = if counted then per_level levels else 0

abbrev pub reads : Bool → Bool → Bool → Position → Position → List (ℕ × ℕ)
reads levels any counted x y =
    (2 + operand_last any + 2 * measure y, per_item levels + last levels x + level_of levels counted)
    ∷ ((2 + operand_closed levels + held levels y, per_item levels + last levels x)
    ∷ ((2 + operand_closed levels + closing y, per_item levels + closed levels x)
    ∷ ((2 + operand_ended + 2 * measure y, last levels x + level_of levels counted) ∷ ((2 + 2 * measure y, last levels x) ∷ []))))

-- the bounds for reading an argument, with an operand that waits below the call
abbrev pub applies : Bool → Position → List (ℕ × ℕ)
applies levels x =
    (2 + operand_last false + 2 * measure (p.InRow APPLIED) + 2 * measure operand, per_item levels + last levels x)
    ∷ ((2 + operand_closed levels + held levels (p.InRow APPLIED) + 2 * measure operand, per_item levels + last levels x)
    ∷ ((2 + operand_closed levels + closing (p.InRow APPLIED) + held levels operand, per_item levels + last levels x)
    ∷ ((2 + operand_closed levels + closing (p.InRow APPLIED) + closing operand, per_item levels + closed levels x)
    ∷ ((2 + operand_ended + 2 * measure (p.InRow APPLIED) + 2 * measure operand, last levels x) ∷ []))))

-- the bounds for an operand that begins: with one frame, two, or three, of which the second is a function's
abbrev pub one_frame : Bool → Bool → List (ℕ × ℕ)
one_frame levels any = (last levels operand, operand_last any) ∷ ((closed levels operand, operand_closed levels) ∷ ((2 * measure operand, operand_ended) ∷ []))

abbrev pub two_frames : Bool → Bool → Position → List (ℕ × ℕ)
two_frames levels any x =
    (last levels x + 2 * measure operand, operand_last any)
    ∷ ((closed levels x + held levels operand, operand_last any)
    ∷ ((closed levels x + closing operand, operand_closed levels) ∷ ((2 * measure x + 2 * measure operand, operand_ended) ∷ [])))

abbrev pub three_frames : ℕ → Bool → Bool → Position → List (ℕ × ℕ)
three_frames more levels any x =
    (last levels x + 2 * measure (p.InRow LAMBDA) + 2 * measure operand, more + operand_last any)
    ∷ ((closed levels x + held levels (p.InRow LAMBDA) + 2 * measure operand, more + operand_last any)
    ∷ ((closed levels x + closing (p.InRow LAMBDA) + held levels operand, more + operand_last any)
    ∷ ((closed levels x + closing (p.InRow LAMBDA) + closing operand, operand_closed levels)
    ∷ ((2 * measure x + 2 * measure (p.InRow LAMBDA) + 2 * measure operand, operand_ended) ∷ []))))
