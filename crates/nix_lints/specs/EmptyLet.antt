-- A `let` without bindings.
use Rattle.std.specs.Prelude.{Option, is_none}
use Rattle.rnix_green.specs.Tree.{Located}
use Rattle.rnix_base.specs.Select.{child_of}
use Rattle.rnix.specs.NodeKinds.{is_entry}
use Rattle.nix_diagnostics.specs.declared.code.Code.TheVariants as code
use Rattle.nix_lints.specs.Found.{Found, found_if}

-- the finding on a `let`, if it has no bindings
abbrev pub empty_let : Located → Option Found
empty_let node = found_if (is_none (child_of is_entry 0 node)) code.EmptyLet node
