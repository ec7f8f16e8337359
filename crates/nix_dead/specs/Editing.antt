-- A text without its unused names.
use Rattle.std.specs.Prelude.{◌≡◌, ◌≢◌, ◌⊎◌, ℕ, ◌+◌, false, true, List, [], map, string_bytes}
use Rattle.rnix_kinds.specs.Lexical.Tokens.{tokens_of}
use Rattle.rnix_green.specs.Tree.{Located}
use Rattle.rnix_grammar.specs.Parsed.{IsParsed}
use Rattle.rnix.specs.ParseResult.{Reading, root_of}
use Rattle.nix_scopes.specs.declared.resolution.Resolution.{Resolution}
use Rattle.nix_scopes.specs.Alike.{IsResolution}
use Rattle.nix_dead.specs.declared.options.Options.{Options}
use Rattle.nix_dead.specs.declared.removal.Removal.{Removal}
use Rattle.nix_dead.specs.declared.applied.Applied.{Applied}
use Rattle.nix_dead.specs.declared.editing.Turn.{Turn}
use Rattle.nix_dead.specs.declared.editing.Turn.TheVariants as turn
use Rattle.nix_dead.specs.declared.editing.Edited.{Edited}
use Rattle.nix_dead.specs.declared.editing.Edited.TheVariants as edited
use Rattle.nix_dead.specs.declared.editing.TheConstants.{MAX_TURNS}
use Rattle.nix_dead.specs.Removal.{change_of}
use Rattle.nix_dead.specs.Proposals.{AreProposed}
use Rattle.nix_dead.specs.AppliedRemovals.{AreApplied}
use Rattle.nix_dead.specs.KeptReferences.{IsCompared}

-- the reading of a text
abbrev pub IsRead : List ℕ → Reading → Type 0
IsRead text read = IsParsed (tokens_of text) read.tree read.faults

-- the reading of a text without errors
abbrev pub IsReadWell : List ℕ → Reading → Type 0
IsReadWell text read = IsRead text read × (read.faults ≡ [])

-- the text that some removals made has no errors, and each name that is left means the same
abbrev pub IsSame : List ℕ → Reading → Resolution → List Removal → Type 0
IsSame made read names applied = IsReadWell made read × IsCompared names applied (root_of read) true

-- it has errors, or some name means something else
abbrev pub IsOther : List ℕ → Reading → Resolution → List Removal → Type 0
IsOther made read names applied = IsRead made read × ((read.faults ≢ []) ⊎ IsCompared names applied (root_of read) false)

-- what a turn makes of such a text
abbrev pub IsChecked : Resolution → Applied → Turn → Type 0
IsChecked names made turn.Done = ⊥
IsChecked names made (turn.Changed text read) =
    (string_bytes text ≡ string_bytes made.made) × IsSame (string_bytes made.made) read names made.removals.items
IsChecked names made turn.Refused = (read : Reading) × IsOther (string_bytes made.made) read names made.removals.items

-- some of the removals of a text were applied, and so is the result
pub record IsTried (text : List ℕ) (options : Options) (root : Located) (made : List ℕ) (so : Resolution → List Removal → Type 0) : Type 0 where
  pub names : Resolution
  pub found : IsResolution root names
  pub removals : List Removal
  pub are_proposed : AreProposed text options root names (map change_of removals)
  pub applied : List Removal
  pub are_applied : AreApplied text removals applied made
  pub is_so : so names applied

-- a text becomes another one, in which each name that is left means the same
abbrev pub IsChange : List ℕ → Options → Located → List ℕ → Reading → Type 0
IsChange text options root made read = IsTried text options root made (IsSame made read)

-- a text would have errors, or some name would mean something else
abbrev pub IsRefusal : List ℕ → Options → Located → Type 0
IsRefusal text options root = (made : List ℕ) × (read : Reading) × IsTried text options root made (IsOther made read)

-- no name of a text that is reported can be removed
pub record HasNone (text : List ℕ) (options : Options) (root : Located) : Type 0 where
  pub names : Resolution
  pub found : IsResolution root names
  pub are_proposed : AreProposed text options root names []

-- what a turn makes of a text
abbrev pub IsTurn : List ℕ → Options → Located → Turn → Type 0
IsTurn text options root turn.Done = HasNone text options root
IsTurn text options root (turn.Changed made read) = IsChange text options root (string_bytes made) read
IsTurn text options root turn.Refused = IsRefusal text options root

-- what a text becomes in so many turns, and its reading
pub data AreTurns (text : List ℕ) (options : Options) : ℕ → List ℕ → Reading → Type 0 where
  no_turns : (read : Reading) → IsReadWell text read → AreTurns text options 0 text read
  one_turn : (count : ℕ) (mid made : List ℕ) (before after : Reading) → AreTurns text options count mid before →
      IsChange mid options (root_of before) made after → AreTurns text options (count + 1) made after

-- a text without its unused names: it becomes this one in some turns, and then no name that is reported can be removed, or there were too many turns
pub record IsWithout (text : List ℕ) (options : Options) (made : List ℕ) : Type 0 where
  pub count : ℕ
  pub read : Reading
  pub turns : AreTurns text options count made read
  pub end : HasNone made options (root_of read) ⊎ (count ≡ MAX_TURNS)

-- a text has errors
abbrev pub IsWithErrors : List ℕ → Type 0
IsWithErrors text = (read : Reading) × IsRead text read × (read.faults ≢ [])

-- after some turns, a text would have errors, or some name would mean something else
pub record IsRefused (text : List ℕ) (options : Options) : Type 0 where
  pub count : ℕ
  pub mid : List ℕ
  pub read : Reading
  pub turns : AreTurns text options count mid read
  pub refused : IsRefusal mid options (root_of read)

-- the result for a text
abbrev pub IsEdited : List ℕ → Options → Edited → Type 0
IsEdited text options (edited.Done made) = IsWithout text options (string_bytes made)
IsEdited text options edited.HasErrors = IsWithErrors text
IsEdited text options edited.Refused = IsRefused text options
