-- How many steps a text is read in.
use Rattle.std.specs.Prelude.{◌≡◌, ℕ, zero, suc, Bool, true, false, List, [], ◌∷◌}
use Rattle.rnix_kinds.specs.Lexical.Tokens.{Lexeme}
use Rattle.rnix_green.specs.Tree.{Tree}
use Rattle.rnix_grammar.specs.declared.action.Action.{Action}
use Rattle.rnix_grammar.specs.declared.action.Action.TheVariants as a
use Rattle.rnix_grammar.specs.Actions.{action_at}
use Rattle.rnix_grammar.specs.AnnotatedForest.{Token, head_kind, touches}
use Rattle.rnix_grammar.specs.Fault.{Fault}
use Rattle.rnix_proof_lemmas.specs.Document.{IsRead}
use Rattle.rnix_proof_lemmas.specs.Machine.{Frame, Machine, Runs, next_items, step}
use Rattle.rnix_proof_lemmas.specs.Machine.{rest as here, then as further}

-- the reading is complete
abbrev pub is_finish : Action → Bool
is_finish a.Finish = true
is_finish action = false

-- nothing is left to do at the innermost frame but to complete the root
abbrev pub is_finished_on : Bool → List Frame → List Token → ℕ → Bool
is_finished_on trivia [] ts n = false
is_finished_on trivia (f ∷ fs) ts n = is_finish (action_at f.position (head_kind (next_items trivia ts)) (touches n (next_items trivia ts)))

-- the same for a machine
abbrev pub is_finished : Bool → Machine → Bool
is_finished trivia m = is_finished_on trivia m.frames m.remaining m.prev_end

-- the number of steps from a machine to another
abbrev pub steps_in : {trivia : Bool} {from to : Machine} → Runs trivia from to → ℕ
steps_in here = zero
steps_in (further runs) = suc (steps_in runs)

-- each of some steps is taken where something is left to do
abbrev pub AreNeeded : (trivia : Bool) (from to : Machine) → Runs trivia from to → Type 0
AreNeeded trivia from to here = Unit {0}
AreNeeded trivia from to (further runs) = (is_finished trivia from ≡ false) × AreNeeded trivia (step trivia from) to runs

-- a machine reaches another in so many steps, each of which is needed
pub record ComesIn (steps : ℕ) (from to : Machine) : Type 0 where
  pub runs : Runs true from to
  pub needed : AreNeeded true from to runs
  pub count : steps ≡ steps_in runs

-- the machine reads these tokens to the end, as this tree with these errors, and P holds of the number of its steps
abbrev pub IsReadIn : (ℕ → Type 0) → List Lexeme → Tree → List Fault → Type 0
IsReadIn P lexemes tree faults = (read : IsRead lexemes tree faults) × P (steps_in read.runs)
