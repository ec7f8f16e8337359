use Rattle.{std.{proofs.Common.{◌≡◌, drop}, specs.List.fold}, rnix.specs.AttrName.state_behind}
use Rattle.rnix.proofs.ast.attr_name.is_run.Given as goal

abbrev pub invariant-loop-byte : goal.invariant-loop-byte
invariant-loop-byte l = fold state_behind 0 l.text ≡ fold state_behind l.state (drop l.byte-index l.byte-items)
