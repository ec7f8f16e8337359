-- A value that becomes an attribute.
use Rattle.std.specs.Prelude.{◌≡◌, ℕ, List, Option, Some, None}
use Rattle.nix_values.specs.declared.attributes.Attributes.{Attributes}
use Rattle.nix_values.specs.Keys.{Keys}
use Rattle.nix_values.specs.IndexedAttributes.{IsInserted}

-- a value becomes the attribute of a set with a name, if there is a set
abbrev pub IsAttached : Keys → Attributes → Option ℕ → List ℕ → ℕ → Attributes → Type 0
IsAttached keys old None name number new = new ≡ old
IsAttached keys old (Some set) name number new = IsInserted keys old set name number new
