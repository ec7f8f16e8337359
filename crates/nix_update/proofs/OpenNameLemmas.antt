-- Names that may come from a `with`, given what was found.
use Rattle.std.proofs.Common.{◌≡◌, ◌∙◌, ℕ, List, drop, map, ap, sym, subst, Option, Some, None, string_bytes, Global}
use Rattle.std.specs.Prelude.{String, IfNone}
use Rattle.std.proofs.lemmas.List.{drop-map}
use Rattle.rnix_green.specs.Range.{Extent}
use Rattle.rnix_green.specs.Tree.{Located}
use Rattle.nix_update.specs.declared.outcome.Refused.{Refused}
use Rattle.nix_update.specs.SameNames.{HasNoOpenName}

-- without a refusal, none of the names from an index on is such a name
pub none_open : (root : Located) (range : Extent) (names rest : List (String Global)) (at : ℕ) (refused : Option Refused) (offset : Option ℕ) →
    rest ≡ drop at names → IfNone refused (offset ≡ None) → IfNone offset (HasNoOpenName root range (map string_bytes rest)) →
    IfNone refused (HasNoOpenName root range (drop at (map string_bytes names)))
none_open root range names rest at None offset same none found =
    subst (HasNoOpenName root range) (ap (map string_bytes) same ∙ sym (drop-map string_bytes at names))
    (subst (λ (o : Option ℕ). IfNone o (HasNoOpenName root range (map string_bytes rest))) none found)
none_open root range names rest at (Some refused) offset same none found = tt
