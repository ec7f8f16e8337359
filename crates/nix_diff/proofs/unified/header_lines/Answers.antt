use Rattle.std.proofs.Common.{rules}
use Rattle.std.specs.Prelude.{string_bytes}
use Rattle.nix_diff.proofs.HeaderLines.{no_header, some_header}
use Rattle.nix_diff.proofs.unified.header_lines.Goals as goal

pub returns-then-is_empty : goal.returns-then-is_empty
returns-then-is_empty c = no_header c.args.hunks.now (string_bytes c.new.result) (search rules) (search rules)

pub returns : goal.returns
returns c = some_header c.args.hunks.now (string_bytes c.in_ok-lines.lines) (search rules) record {
  old_name = c.first_line-old.result.now;
  new_name = c.first_line-new.result.now;
  old_is_line = c.first_line-old.ensures;
  new_is_line = c.first_line-new.ensures;
  are = c.in_ok-lines.ensures.ok;
}
