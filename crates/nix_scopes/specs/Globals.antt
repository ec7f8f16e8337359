-- The names that Nix itself binds.
use Rattle.std.specs.Prelude.{ℕ, Bool, List, map, bytes_eq}
use Rattle.std.specs.List.{list_any}
use Rattle.nix_scopes.specs.declared.globals.TheConstants.{GLOBAL_NAMES}

-- whether Nix binds the name around every text, so that no `with` does
unfoldable pub is_global : List ℕ → Bool
is_global name = list_any (λ own. bytes_eq own name) (map (λ own. own.now) GLOBAL_NAMES)
