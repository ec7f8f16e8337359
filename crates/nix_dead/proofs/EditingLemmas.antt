-- What a turn makes of a text.
use Rattle.std.proofs.Common.{◌≡◌, ℕ, ◌∷◌, [], List, length, map, sym, subst, arith}
use Rattle.std.specs.Prelude.{string_bytes}
use Rattle.rnix_green.specs.Tree.{Located}
use Rattle.nix_scopes.specs.declared.resolution.Resolution.{Resolution}
use Rattle.nix_scopes.specs.Alike.{IsResolution}
use Rattle.nix_dead.specs.declared.{options.Options.Options, removal.Removal.Removal, applied.Applied.Applied, editing.Turn.Turn}
use Rattle.nix_dead.specs.declared.editing.Turn.TheVariants as turn
use Rattle.nix_dead.specs.{Removal.change_of, Proposals.AreProposed, AppliedRemovals.AreApplied, Editing.{IsChecked, IsChange, IsTurn, HasNone}}

-- the same turn
pub same_turn : (text own : List ℕ) (options : Options) (root tree : Located) (result is : Turn) → text ≡ own → root ≡ tree → result ≡ is →
    IsTurn text options root result → IsTurn own options tree is
same_turn text own options root tree result is text_is root_is result_is turned =
    subst (λ r. IsTurn own options tree r) result_is (subst (λ e. IsTurn own options e result) root_is
    (subst (λ t. IsTurn t options root result) text_is turned))

module _ (text : List ℕ) (options : Options) (root : Located) (names : Resolution) (found : IsResolution root names) (removals : List Removal)
    (are : AreProposed text options root names (map change_of removals)) where
  -- nothing is proposed
  pub none_proposed : length removals ≡ 0 → HasNone text options root
  none_proposed none = record { names = names; found = found; are_proposed = no_changes removals none are } where
    no_changes : (rs : List Removal) → length rs ≡ 0 → AreProposed text options root names (map change_of rs) → AreProposed text options root names []
    no_changes [] none are = are
    no_changes (r ∷ rs) none are = absurd (omega (arith, none))

  -- the result of some removals
  pub turn_checked : (made : Applied) → AreApplied text removals made.removals.items (string_bytes made.made) → (result : Turn) →
      IsChecked names made result → IsTurn text options root result
  turn_checked made applied turn.Done checked = absurd checked
  turn_checked made applied (turn.Changed own read) checked =
      subst (λ (bytes : List ℕ). IsChange text options root bytes read) (sym checked.0) (record {
        names = names;
        found = found;
        removals = removals;
        are_proposed = are;
        applied = made.removals.items;
        are_applied = applied;
        is_so = checked.1;
      })
  turn_checked made applied turn.Refused checked = (
    string_bytes made.made,
    checked.0,
    record {
      names = names;
      found = found;
      removals = removals;
      are_proposed = are;
      applied = made.removals.items;
      are_applied = applied;
      is_so = checked.1;
    },
  )
