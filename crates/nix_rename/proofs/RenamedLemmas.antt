-- What tests say about a text that was parsed.
use Rattle.std.proofs.Common.{◌≡◌, List, ℕ, [], ◌∷◌, length, map, Bool, true, false, Option, Some, Result, Ok, Err, sym, ◌∙◌, ap, refl, arith, ◌==◌}
use Rattle.std.{proofs.lemmas.{List.length-map, Bool.{false≢true, Decides.nat_tests}}, specs.{Prelude.{◌&&◌, IfOk}, Bool.MatchBool}}
use Rattle.{std.specs.declared.alloc.AllocError.AllocError, rnix_green.specs.Tree.{Located, extent_of}, nix_scopes.specs.declared.resolution.Binding.Binding}
use Rattle.nix_scopes.specs.{declared.resolution.Resolution.Resolution, Alike.IsResolution, Occurrences.{IsNameAt, binding_at}}
use Rattle.nix_rename.specs.{declared.{refusal.Refusal.Refusal, renaming.Renaming.Renaming}, Renamed.{IsRead, IsNameIn, IsNoName, AreThese, ResolvesTheSame}}
use Rattle.nix_rename.specs.Refused.{is_special_name}
use Rattle.nix_rename.specs.Renamed.{ResolvesDifferently, IsName, IsNamed, IsReason, IsReferent, IsRenamed, IsNotRenamed, IsCause, IfRenamed, IfRefused}
use Rattle.rnix.specs.ParseResult.{Reading, root_of}
use Rattle.nix_rename.specs.declared.refusal.Refusal.TheVariants as refusal
use Rattle.nix_rename.specs.declared.renaming.Renaming.TheVariants as renaming

-- a list is empty if its length is 0
empty : {X : Type 0} (xs : List X) → length xs ≡ 0 → xs ≡ []
empty [] is = refl
empty (x ∷ xs) is = absurd (omega (arith, is))

zero_of : (n : ℕ) → (n == 0) ≡ true → n ≡ 0
zero_of n e = grind (arith, nat_tests)

-- there are no errors exactly if their list is empty
module _ {X Y : Type 0} (f : X → Y) (errors : List X) (faults : List Y) (listed : map f errors ≡ faults) where
  no_faults : length errors ≡ 0 → faults ≡ []
  no_faults none = sym listed ∙ ap (map f) (empty errors none)

  no_errors : faults ≡ [] → length errors ≡ 0
  no_errors none = sym (length-map errors f) ∙ ap length (listed ∙ none)

  -- a test, together with whether there are no errors
  pub both_tested : {P : Type 0} (a b : Bool) → (a ≡ true → P) → (P → a ≡ true) → b ≡ (length errors == 0) →
      MatchBool (a && b) ((faults ≡ []) × P) (¬ ((faults ≡ []) × P))
  both_tested true true holds tests is = (no_faults (zero_of (length errors) (sym is)), holds refl)
  both_tested true false holds tests is = λ both. false≢true (is ∙ ap (λ n. n == 0) (no_errors both.0))
  both_tested false b holds tests is = λ both. false≢true (tests both.1)

-- what tests say about a text that was parsed
module _ (text : List ℕ) (read : Reading) (is_read : IsRead text read) where
  pub name_tested : (passes : Bool) → MatchBool passes (IsNameIn read text) (¬ IsNameIn read text) → MatchBool passes (IsName text) (IsNoName text)
  name_tested true is_name = record { read = read; is_read = is_read; is_name = is_name }
  name_tested false is_none = record { read = read; is_read = is_read; is_none = is_none }

  pub resolved_tested : (names : Resolution) (binding : Binding) (new : List ℕ) (others : Resolution) → IsResolution (root_of read) others →
      (passes : Bool) →
      MatchBool passes ((read.faults ≡ []) × AreThese names binding new others) (¬ ((read.faults ≡ []) × AreThese names binding new others)) →
      MatchBool passes (ResolvesTheSame names binding new text) (ResolvesDifferently names binding new text)
  resolved_tested names binding new others found true both =
      record { read = read; is_read = is_read; errors = both.0; others = others; found = found; alike = both.1 }
  resolved_tested names binding new others found false different =
      record { read = read; is_read = is_read; others = others; found = found; different = different }

-- the name at an offset, and the binding to which it refers, if there is one
pub referent : (root name : Located) (offset : ℕ) (names : Resolution) (binding : Option Binding) → IsResolution root names →
    IsNameAt root offset (Some name) → binding_at names (extent_of name) ≡ binding → IsReferent root offset names binding
referent root name offset names binding found at_offset is_binding =
    record { found = found; name = name; at_offset = at_offset; is_binding = is_binding }

-- the result of renaming the binding of a name is the result of renaming the name
module _ (text : List ℕ) (root : Located) (offset : ℕ) (new : List ℕ) (names : Resolution) (binding : Binding) where
  pub renamed_from : (result : Result Renaming AllocError) → IsName new → is_special_name new ≡ false → IsReferent root offset names (Some binding) →
      IfOk result (IfRenamed (IsNamed text names binding new)) → IfOk result (IfRenamed (IsRenamed text root offset new))
  renamed_from (Ok (renaming.Renamed made)) is_name is_written referent named =
      record { is_name = is_name; is_written = is_written; names = names; binding = binding; referent = referent; named = named }
  renamed_from (Ok (renaming.Refused refusal)) is_name is_written referent named = tt
  renamed_from (Err error) is_name is_written referent named = tt

  hindered : (refusal : Refusal) → IsReferent root offset names (Some binding) → IsReason refusal text names binding new →
      IsNotRenamed refusal text root offset new
  hindered refusal referent reason = record { names = names; binding = binding; referent = referent; reason = reason }

  caused : (refusal : Refusal) → IsReferent root offset names (Some binding) → IsReason refusal text names binding new → IsCause refusal text root offset new
  caused refusal.NotAName referent reason = absurd reason
  caused refusal.SpecialName referent reason = absurd reason
  caused refusal.NoName referent reason = absurd reason
  caused refusal.Unbound referent reason = absurd reason
  caused (refusal.Obstacle obstacle) referent reason = hindered (refusal.Obstacle obstacle) referent reason
  caused refusal.OtherSpelling referent reason = hindered refusal.OtherSpelling referent reason
  caused refusal.ChangedMeaning referent reason = hindered refusal.ChangedMeaning referent reason

  pub refused_from : (result : Result Renaming AllocError) → IsReferent root offset names (Some binding) →
      IfOk result (IfRefused (λ refusal. IsReason refusal text names binding new)) →
      IfOk result (IfRefused (λ refusal. IsCause refusal text root offset new))
  refused_from (Ok (renaming.Renamed made)) referent reason = tt
  refused_from (Ok (renaming.Refused refusal)) referent reason = caused refusal referent reason
  refused_from (Err error) referent reason = tt
