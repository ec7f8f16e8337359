-- What `resolve` finds inside a node.
use Rattle.std.specs.Prelude.{List, if◌then◌else◌}
use Rattle.rnix_green.specs.Tree.{Located}
use Rattle.nix_scopes.specs.Scopes.{Bound, Resolved, lexical_bindings, lexical_references}
use Rattle.nix_scopes.specs.Owners.{may_merge}
use Rattle.nix_scopes.specs.Merged.{merged_bindings, merged_references}

-- all bindings inside a node, in the order of their scopes
abbrev pub bindings_in : Located → List Bound
bindings_in root = if may_merge root then merged_bindings root else lexical_bindings root

-- the references inside a node, in preorder: each refers to the binding of its name in the innermost scope around it that binds the name
abbrev pub resolved_in : Located → List Resolved
resolved_in root = if may_merge root then merged_references root else lexical_references root
