-- Facts about entries that end between errors.
use Rattle.std.proofs.Common.{◌≡◌, ◌∙◌, ℕ, Bool, true, false, List, [], ◌∷◌, ◌++◌, ap, sym, refl, arith, ◌≤◌, if◌then◌else◌}
use Rattle.std.proofs.lemmas.Bool.{ltb-true, lt-ltb}
use Rattle.std.specs.Prelude.{nat_lt}
use Rattle.rnix_green.specs.Tree.{Located}
use Rattle.rnix_grammar.specs.Fault.{Fault}
use Rattle.nix_diagnostics.specs.Locations.{location_of}
use Rattle.nix_diagnostics.specs.TokenErrors.{is_token_error}
use Rattle.nix_diagnostics.specs.Independence.{since, larger, reach, reach_from}
use Rattle.nix_diagnostics.specs.declared.semicolons.Semicolon.{Semicolon}

-- skipping to an offset and then to a larger one is skipping to the larger one
pub since_more : (few more : ℕ) → few ≤ more → (semicolons : List Semicolon) → since more (since few semicolons) ≡ since more semicolons
since_more few more le [] = refl
since_more few more le (s ∷ rest) = step (nat_lt s.start few) refl (since_more few more le rest) where
  step : (b : Bool) → nat_lt s.start few ≡ b → since more (since few rest) ≡ since more rest →
      since more (if b then since few rest else s ∷ rest) ≡ since more (s ∷ rest)
  step true is shorter =
      let passes : nat_lt s.start more ≡ true = lt-ltb s.start more (omega (arith, ltb-true s.start few is, le)) in
      shorter ∙ sym (ap (λ b. if b then since more rest else s ∷ rest) passes)
  step false is shorter = refl

-- the larger of two numbers is at least the first
pub first_le : (m n : ℕ) → m ≤ larger m n
first_le m n = step (nat_lt m n) refl where
  step : (b : Bool) → nat_lt m n ≡ b → m ≤ (if b then n else m)
  step true is = omega (arith, ltb-true m n is)
  step false is = omega arith

-- where some errors and one more end
reach_push : (root : Located) (end : ℕ) (faults : List Fault) (fault : Fault) →
    reach_from root end (faults ++ fault ∷ [])
    ≡ (if is_token_error fault then larger (reach_from root end faults) (location_of root fault).end else reach_from root end faults)
reach_push root end [] fault = step (is_token_error fault) refl where
  step : (b : Bool) → is_token_error fault ≡ b →
      reach_from root end (fault ∷ []) ≡ (if is_token_error fault then larger end (location_of root fault).end else end)
  step b is = refl
reach_push root end (f ∷ faults) fault = reach_push root (if is_token_error f then larger end (location_of root f).end else end) faults fault

-- after a token error, the reach is the larger of the old reach and the error's end
pub reach_token_error : (root : Located) (faults : List Fault) (fault : Fault) → is_token_error fault ≡ true →
    reach root (faults ++ fault ∷ []) ≡ larger (reach root faults) (location_of root fault).end
reach_token_error root faults fault is =
    reach_push root 0 faults fault ∙ ap (λ b. if b then larger (reach root faults) (location_of root fault).end else reach root faults) is

-- another error does not change the reach
pub reach_other : (root : Located) (faults : List Fault) (fault : Fault) → is_token_error fault ≡ false →
    reach root (faults ++ fault ∷ []) ≡ reach root faults
reach_other root faults fault is =
    reach_push root 0 faults fault ∙ ap (λ b. if b then larger (reach root faults) (location_of root fault).end else reach root faults) is
