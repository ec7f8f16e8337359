-- The names that are reported.
use Rattle.std.specs.Prelude.{ℕ}
use Rattle.rnix_green.specs.Tree.{extent_of}
use Rattle.nix_lints.specs.declared.unused.UnusedName.{UnusedName}

-- where a name is written
abbrev pub start_of : UnusedName → ℕ
start_of name = (extent_of name.node).start
