-- The contracts of results, from those of other results.
use Rattle.std.proofs.Common.{◌≡◌, ◌∙◌, true, ap, sym, Option, Some, None}
use Rattle.std.specs.Prelude.{Result, Ok, Err, IfOk, IsErrAnd}
use Rattle.nix_data.specs.declared.scalars.Stop.{Stop}
use Rattle.nix_data.specs.Refusals.{is_refusal, Refuses, Reads}

-- a result with the same error says what that error says
pub refuses_same : {X : Type 0} (result : Result X Stop) (error : Stop) (P : Type 0) → IsErrAnd result (λ other. other ≡ error) →
    (is_refusal error ≡ true → P) → Refuses result P
refuses_same (Ok found) error P same h = tt
refuses_same (Err other) error P same h = λ refused. h (ap is_refusal (sym same) ∙ refused)

-- what a result says of a value, it says of an equal one
pub reads_value : {X U : Type 0} (result : Result X Stop) (wanted other : Option U) (view : X → U) → other ≡ wanted → Reads result wanted view →
    IfOk result (λ found. other ≡ Some (view found))
reads_value (Ok found) wanted other view same h = same ∙ h
reads_value (Err error) wanted other view same h = tt

pub reads_none : {X U : Type 0} (result : Result X Stop) (wanted other : Option U) (view : X → U) (P : Type 0) → other ≡ wanted →
    Reads result wanted view → Refuses result (P → other ≡ None)
reads_none (Ok found) wanted other view P same h = tt
reads_none (Err error) wanted other view P same h = λ refused p. same ∙ h refused

pub reads_same : {X U : Type 0} (result : Result X Stop) (error : Stop) (wanted : Option U) (view : X → U) → IsErrAnd result (λ other. other ≡ error) →
    (is_refusal error ≡ true → wanted ≡ None) → Reads result wanted view
reads_same (Ok found) error wanted view same h = absurd same
reads_same (Err other) error wanted view same h = λ refused. h (ap is_refusal (sym same) ∙ refused)
