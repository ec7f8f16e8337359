-- The texts of names in scope.
use Rattle.std.specs.Prelude.{ℕ, List, string_bytes}
use Rattle.nix_scopes.specs.declared.name_text.NameText.{NameText}
use Rattle.nix_scopes.specs.declared.name_text.NameText.TheVariants as name

-- the bytes of a name
abbrev pub name_bytes : NameText → List ℕ
name_bytes (name.Borrowed text) = text.now
name_bytes (name.Owned text) = string_bytes text.value
