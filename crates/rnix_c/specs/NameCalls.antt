-- What calls write for bindings and references.
use Rattle.std.specs.Prelude.{◌≡◌, ℕ, ℤ, cond, List, map, length}
use Rattle.rnix_kinds.specs.SyntaxKind.{discriminant_of}
use Rattle.rnix_green.specs.Tree.{Tree, Located, item_of}
use Rattle.nix_scopes.specs.Resolved.{bindings_in, resolved_in}
use Rattle.nix_scopes.specs.Scopes.{Bound, Resolved, number_in}
use Rattle.rnix_c.specs.declared.names.RnixBinding.{RnixBinding}
use Rattle.rnix_c.specs.declared.names.RnixReference.{RnixReference}
use Rattle.rnix_c.specs.Answers.{filled, IsWritten}
use Rattle.rnix_c.specs.Elements.{number_or_none}
use Rattle.rnix_c.specs.StringCalls.{located}

-- what is written for a binding, where the first binding of its name in its scope has this number
abbrev pub binding_of : ℕ → Bound → RnixBinding
binding_of first bound = record {
  start = (item_of bound.node).start;
  end = (item_of bound.node).end;
  scope_start = (item_of bound.scope).start;
  scope_end = (item_of bound.scope).end;
  first = first;
  kind = discriminant_of (item_of bound.node).kind;
  scope_kind = discriminant_of (item_of bound.scope).kind;
}

-- what is written for a reference
abbrev pub reference_of : Resolved → RnixReference
reference_of name = record {
  start = (item_of name.node).start;
  end = (item_of name.node).end;
  binding = number_or_none name.binding;
  kind = discriminant_of (item_of name.node).kind;
  is_inherited = cond name.is_inherited 1 0;
  is_open = cond name.is_open 1 0;
}

-- what is written for a binding among others
abbrev pub binding_among : List Bound → Bound → RnixBinding
binding_among bindings bound = binding_of (number_or_none (number_in bindings bound.text bound.scope)) bound

-- what is written for the bindings inside a node
abbrev pub bindings_written : Located → List RnixBinding
bindings_written root = map (binding_among (bindings_in root)) (bindings_in root)

-- what is written for the references inside a node
abbrev pub references_written : Located → List RnixReference
references_written root = map reference_of (resolved_in root)

-- the bindings and the references of a tree are written, together with the number of references
abbrev pub WritesNames : Tree → ℤ → List RnixBinding → List RnixBinding → List RnixReference → List RnixReference → ℕ → Type 0
WritesNames tree answer old new was is count =
    IsWritten (bindings_written (located tree 0)) answer old new
    × (is ≡ filled (references_written (located tree 0)) was)
    × (count ≡ length (references_written (located tree 0)))
