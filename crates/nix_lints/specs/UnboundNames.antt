-- Names that nothing binds.
use Rattle.std.specs.Prelude.{ℕ, nat_eq, Bool, not, ◌&&◌, ◌||◌, bytes_eq, codes, List, flat_map, Option, is_none}
use Rattle.std.specs.{List.starts_with, Option.option_to_list}
use Rattle.rnix_green.specs.Tree.{Located}
use Rattle.nix_diagnostics.specs.declared.code.Code.TheVariants as code
use Rattle.nix_scopes.specs.Globals.{is_global}
use Rattle.nix_scopes.specs.Scopes.{Resolved}
use Rattle.nix_scopes.specs.Resolved.{resolved_in}
use Rattle.nix_lints.specs.Found.{Found, found_if}

-- a version of Nix may itself bind the name: it begins with two underscores, like the second name of each builtin function, or is one of the others
abbrev pub is_known : List ℕ → Bool
is_known name = starts_with nat_eq name (codes "__") || (bytes_eq name (codes "break") || is_global name)

-- nothing binds the name of a reference: neither the text nor a `with` around it nor Nix
abbrev pub is_unbound : Resolved → Bool
is_unbound reference = is_none reference.binding && (not reference.is_open && not (is_known reference.text))

-- the finding on a reference, if nothing binds its name
abbrev pub unbound_name : Resolved → Option Found
unbound_name reference = found_if (is_unbound reference) code.UnboundName reference.node

abbrev pub found_by_name : Resolved → List Found
found_by_name reference = option_to_list (unbound_name reference)

-- the names of a text that nothing binds, in the order of the text
abbrev pub unbound_names : Located → List Found
unbound_names root = flat_map found_by_name (resolved_in root)
