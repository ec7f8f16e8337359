use Rattle.{std.proofs.Common.{◌≡◌, take}, rnix_base.specs.{Normal.borrowed, Indent.{indent_of, no_indent}}}
use Rattle.rnix_base.proofs.indent.least_indentation.Given as goal

abbrev pub invariant-loop-part : goal.invariant-loop-part
invariant-loop-part g l = l.indent ≡ indent_of no_indent (borrowed (take l.part-index l.parts))
