-- Why texts are not updated.
use Rattle.std.proofs.Common.{◌≡◌, ◌∙◌, ℕ, List, drop, map, ap, sym, subst, Option, Some, None, string_bytes, Global}
use Rattle.std.specs.Prelude.{Result, Ok, Err, IfOk, IfSome, IsSome, String}
use Rattle.std.proofs.lemmas.{Bool.false≢true, List.drop-map}
use Rattle.rnix_green.specs.Range.{Extent}
use Rattle.rnix_green.specs.Tree.{Located}
use Rattle.nix_update.specs.declared.outcome.{Attempt.{Attempt}, Outcome.{Outcome}, Reason.{Reason}, Refused.{Refused}}
use Rattle.nix_update.specs.declared.outcome.Attempt.TheVariants as attempt
use Rattle.nix_update.specs.declared.outcome.Outcome.TheVariants as outcome
use Rattle.nix_update.specs.declared.outcome.Reason.TheVariants as reason
use Rattle.nix_update.specs.Updated.{outcome_of}
use Rattle.nix_update.specs.NotUpdated.{IfRefused, IfNone, HasOpenName}

-- a reason for one refusal is one for another
pub refused_weaker : {E : Type 0} (P Q : Reason → Type 0) (r : Result Attempt E) → ((why : Reason) → P why → Q why) → IfOk r (IfRefused P) →
    IfOk r (IfRefused Q)
refused_weaker P Q (Ok (attempt.Made made)) weaker h = tt
refused_weaker P Q (Ok (attempt.Refused refused)) weaker h = weaker refused.reason h
refused_weaker P Q (Err e) weaker h = tt

-- the same, for outcomes
pub none_weaker : {E : Type 0} (P Q : Reason → Type 0) (r : Result Outcome E) → ((why : Reason) → P why → Q why) → IfOk r (IfNone P) → IfOk r (IfNone Q)
none_weaker P Q (Ok (outcome.Updated made)) weaker h = tt
none_weaker P Q (Ok (outcome.SetInLet made offset)) weaker h = tt
none_weaker P Q (Ok (outcome.Refused refused)) weaker h = weaker refused.reason h
none_weaker P Q (Err e) weaker h = tt

-- an attempt that is refused is an outcome that is refused
pub outcome_refused : (P Q : Reason → Type 0) (tried : Attempt) (made : Outcome) → made ≡ outcome_of tried → ((why : Reason) → P why → Q why) →
    IfRefused P tried → IfNone Q made
outcome_refused P Q (attempt.Made text) made is weaker h = subst (IfNone Q) (sym is) tt
outcome_refused P Q (attempt.Refused refused) made is weaker h = subst (IfNone Q) (sym is) (weaker refused.reason h)

-- with a refusal, one of the names from an index on may come from a `with`
pub some_open : (root : Located) (range : Extent) (names rest : List (String Global)) (at : ℕ) (refused : Option Refused) (offset : Option ℕ) →
    rest ≡ drop at names → IfSome refused (λ r. (r.reason ≡ reason.ChangedMeaning) × IsSome offset) →
    IfSome offset (λ _. HasOpenName root range (map string_bytes rest)) →
    IfSome refused (λ r. (r.reason ≡ reason.ChangedMeaning) × HasOpenName root range (drop at (map string_bytes names)))
some_open root range names rest at None offset same is found = tt
some_open root range names rest at (Some refused) None same is found = absurd (false≢true is.1)
some_open root range names rest at (Some refused) (Some offset) same is found =
    (is.0, subst (HasOpenName root range) (ap (map string_bytes) same ∙ sym (drop-map string_bytes at names)) found)
