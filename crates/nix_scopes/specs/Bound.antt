-- What is bound and what refers to it, as a resolution lists it.
use Rattle.std.specs.Prelude.{◌≡◌, List, map, Some}
use Rattle.std.specs.List.{All}
use Rattle.std.specs.Cow.{cow_str_bytes}
use Rattle.nix_scopes.specs.declared.resolution.Binding.{Binding}
use Rattle.nix_scopes.specs.declared.resolution.Reference.{Reference}
use Rattle.nix_scopes.specs.declared.resolution.Resolution.{Resolution}
use Rattle.nix_scopes.specs.Names.{Named}
use Rattle.nix_scopes.specs.Scopes.{Bound, Resolved, number_in}

-- the bindings that were found
abbrev pub bindings_of : Resolution → List Binding
bindings_of r = r.bindings.items

-- the references that were found
abbrev pub references_of : Resolution → List Reference
references_of r = r.references.items

-- the binding in the terms of `bindings_in`
abbrev pub bound_of : Binding → Bound
bound_of binding = record { text = cow_str_bytes binding.text; node = binding.node; scope = binding.scope }

-- the reference in the terms of `resolved_in`
abbrev pub resolved_of : Reference → Resolved
resolved_of reference =
    record {
      text = cow_str_bytes reference.text;
      node = reference.node;
      is_inherited = reference.is_inherited;
      binding = reference.binding;
      is_open = reference.is_open;
    }

-- `first` is the number of the first binding of the same name in the same scope
abbrev pub IsFirstOf : List Binding → Binding → Type 0
IsFirstOf bindings binding = number_in (map bound_of bindings) (cow_str_bytes binding.text) binding.scope ≡ Some binding.first

-- this holds for each of these bindings
abbrev pub AreFirst : List Binding → Type 0
AreFirst bindings = All (IsFirstOf bindings) bindings

-- the name of a reference, and the node that writes it
abbrev pub name_of : Reference → Named
name_of reference = record { text = cow_str_bytes reference.text; node = reference.node }

-- the names of the references that were found
abbrev pub listed : Resolution → List Named
listed r = map name_of (references_of r)
