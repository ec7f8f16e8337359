use Rattle.{std.proofs.Common.{◌≡◌, ◌*◌, ◌≤◌, ◌++◌, drop}, rnix_text.specs.Marks.{marks_after, marks_of}}
use Rattle.rnix_text.proofs.line_index.marks_of.Given as goal

abbrev pub invariant-loop-byte : goal.invariant-loop-byte
invariant-loop-byte l = record {
  offset : l.mark.offset ≡ l.byte-index;
  line : l.mark.position.line ≤ l.byte-index;
  column : l.mark.position.column ≤ 2 * l.byte-index;
  marks : l.marks.items ++ marks_after l.unit l.mark (drop l.byte-index l.bytes) ≡ marks_of l.unit l.bytes;
}
