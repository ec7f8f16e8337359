-- What lints find.
use Rattle.std.specs.Prelude.{ℕ, Bool, Option, false, Some, None, if◌then◌else◌}
use Rattle.rnix_kinds.specs.declared.kinds.SyntaxKind.{SyntaxKind}
use Rattle.rnix_green.specs.Range.{Extent, bounds_of}
use Rattle.rnix_green.specs.Tree.{Located, item_of, extent_of}
use Rattle.nix_diagnostics.specs.declared.code.Code.{Code}
use Rattle.nix_lints.specs.declared.finding.Finding.{Finding}
use Rattle.nix_lints.specs.declared.finding.Reason.{Reason}
use Rattle.nix_lints.specs.declared.finding.Reason.TheVariants as reason

-- what a finding is about besides its code: nothing, a character, or another place in the text
pub data About : Type 0 where
  nothing : About
  character : ℕ → About
  place : Extent → About

-- the code of a finding, its range, and what else it is about
pub record Found : Type 0 where
  pub code : Code
  pub extent : Extent
  pub about : About

abbrev pub found : Code → Extent → About → Found
found code extent about = record { code = code; extent = extent; about = about }

-- a finding of the program
abbrev pub about_of : Reason → About
about_of reason.Code = nothing
about_of (reason.Character c) = character c
about_of (reason.Place range) = place (bounds_of range)

abbrev pub found_of : Finding → Found
found_of finding = found finding.code (bounds_of finding.range) (about_of finding.reason)

-- the finding of a lint about a node
abbrev pub found_at : Code → Located → Found
found_at code node = found code (extent_of node) nothing

-- the finding of a lint about a node, if a condition holds
abbrev pub found_if : Bool → Code → Located → Option Found
found_if is code node = if is then Some (found_at code node) else None

-- there is a node, and its kind passes a test
abbrev pub is_kind_in : (SyntaxKind → Bool) → Option Located → Bool
is_kind_in kinds None = false
is_kind_in kinds (Some e) = kinds (item_of e).kind
