-- Several updates, one after another.
use Rattle.std.proofs.Common.{◌≡◌, ◌<◌, ℕ, ◌+◌, List, [], ◌∷◌, ◌++◌, get_or, length, take, refl, sym, subst}
use Rattle.std.proofs.lemmas.List.{take_more}
use Rattle.nix_update.specs.declared.outcome.Outcome.{Outcome}
use Rattle.nix_update.specs.declared.request.Update.{Update}
use Rattle.nix_update.specs.{Results.{HasNew}, FullUpdates.{IsFullyUpdated}, Several.{IsFullyUpdatedTo, AreUpdatedTo}}

-- one more update, of the text that the others make
one_more : (updates : List Update) (text middle made : List ℕ) (update : Update) → AreUpdatedTo updates text middle →
    IsFullyUpdatedTo update middle made → AreUpdatedTo (updates ++ update ∷ []) text made
one_more [] text middle made update before is = (made, subst (λ t. IsFullyUpdatedTo update t made) before is, refl)
one_more (other ∷ updates) text middle made update before is = (before.0, before.1, one_more updates before.0 middle made update before.2 is)

-- one more of some updates
pub next_update : (updates : List Update) (number : ℕ) (text middle seen made : List ℕ) (found : Outcome) (d : Update) → number < length updates →
    AreUpdatedTo (take number updates) text middle → seen ≡ middle → IsFullyUpdated (get_or updates number d) seen found →
    HasNew (λ new. new ≡ made) found → AreUpdatedTo (take (number + 1) updates) text made
next_update updates number text middle seen made found d within before same is new =
    subst (λ us. AreUpdatedTo us text made) (sym (take_more updates number d within))
    (one_more (take number updates) text middle made (get_or updates number d) before
    (found, subst (λ t. IsFullyUpdated (get_or updates number d) t found) same is, new))
