-- Where an attribute is looked for.
use Rattle.std.proofs.Common.{◌≡◌, ◌∙◌, ℕ, zero, suc, ◌-◌, ◌<◌, Bool, true, List, ap, refl, subst, arith, Option, Some, None}
use Rattle.std.specs.Prelude.{option_and_then, false, if◌then◌else◌}
use Rattle.std.proofs.lemmas.Bool.{cond-true, cond-false}
use Rattle.rnix_green.specs.Tree.{Located}
use Rattle.nix_values.specs.PathNames.{Name}
use Rattle.nix_data.specs.Selection.{Definition, is_defined, Turn, enter, update, or_else, turn_of, turned, selected}

-- where an attribute is looked for in an expression, given what the expression says
turned_next : (levels : ℕ) (name : Name) (is_operand : Bool) (e : Located) (turn : Turn) → turn_of name is_operand e ≡ Some turn →
    selected (suc levels) name is_operand e ≡ turned (selected levels name) is_operand turn
unfolding selected
turned_next levels name is_operand e turn is = ap (option_and_then (turned (selected levels name) is_operand)) is

pub selected_turned : (levels : ℕ) (name : Name) (is_operand : Bool) (e : Located) (turn : Turn) → 0 < levels → turn_of name is_operand e ≡ Some turn →
    selected levels name is_operand e ≡ turned (selected (levels - 1) name) is_operand turn
selected_turned levels name is_operand e turn some is =
    let total : suc (levels - 1) ≡ levels = omega (arith, some) in
    subst (λ l. selected l name is_operand e ≡ turned (selected (levels - 1) name) is_operand turn) total
    (turned_next (levels - 1) name is_operand e turn is)

-- an expression that says nothing has no definitions
pub selected_none : (levels : ℕ) (name : Name) (is_operand : Bool) (e : Located) → turn_of name is_operand e ≡ None →
    selected levels name is_operand e ≡ None
unfolding selected
selected_none zero name is_operand e none = refl
selected_none (suc levels) name is_operand e none = ap (option_and_then (turned (selected levels name) is_operand)) none

-- if no levels are left, there are no definitions
pub selected_at_zero : (levels : ℕ) (name : Name) (is_operand : Bool) (e : Located) → levels ≡ 0 → selected levels name is_operand e ≡ None
unfolding selected
selected_at_zero levels name is_operand e none = ap (λ l. selected l name is_operand e) none

-- in an operation, after the right operand
pub selected_update : (levels : ℕ) (name : Name) (is_operand : Bool) (e left right : Located) (found : List Definition) → 0 < levels →
    turn_of name is_operand e ≡ Some (update left right) → selected (levels - 1) name true right ≡ Some found →
    selected levels name is_operand e ≡ or_else found (selected (levels - 1) name true left)
selected_update levels name is_operand e left right found some is there =
    selected_turned levels name is_operand e (update left right) some is
    ∙ ap (option_and_then (λ definitions. or_else definitions (selected (levels - 1) name true left))) there

pub update_none : (levels : ℕ) (name : Name) (is_operand : Bool) (e left right : Located) → 0 < levels →
    turn_of name is_operand e ≡ Some (update left right) → selected (levels - 1) name true right ≡ None → selected levels name is_operand e ≡ None
update_none levels name is_operand e left right some is none =
    selected_turned levels name is_operand e (update left right) some is
    ∙ ap (option_and_then (λ definitions. or_else definitions (selected (levels - 1) name true left))) none

pub update_right : (levels : ℕ) (name : Name) (is_operand : Bool) (e left right : Located) (found : List Definition) → 0 < levels →
    turn_of name is_operand e ≡ Some (update left right) → selected (levels - 1) name true right ≡ Some found → is_defined found ≡ true →
    selected levels name is_operand e ≡ Some found
update_right levels name is_operand e left right found some is there defined =
    selected_update levels name is_operand e left right found some is there
    ∙ cond-true (is_defined found) (Some found) (selected (levels - 1) name true left) defined

pub update_left : (levels : ℕ) (name : Name) (is_operand : Bool) (e left right : Located) (found : List Definition) → 0 < levels →
    turn_of name is_operand e ≡ Some (update left right) → selected (levels - 1) name true right ≡ Some found → is_defined found ≡ false →
    selected levels name is_operand e ≡ selected (levels - 1) name true left
update_left levels name is_operand e left right found some is there missing =
    selected_update levels name is_operand e left right found some is there
    ∙ cond-false (is_defined found) (Some found) (selected (levels - 1) name true left) missing
