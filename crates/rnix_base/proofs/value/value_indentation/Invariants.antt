use Rattle.{std.proofs.Common.{◌≡◌, take, map}, rnix_base.specs.{Normal.{borrowed, with_text}, Indent.{indent_of, no_indent}, Value.without_escapes}}
use Rattle.rnix_base.proofs.value.value_indentation.Given as goal

abbrev pub invariant-loop-part : goal.invariant-loop-part
invariant-loop-part g l = l.indent ≡ indent_of no_indent (map (with_text without_escapes) (borrowed (take l.part-index l.parts)))
