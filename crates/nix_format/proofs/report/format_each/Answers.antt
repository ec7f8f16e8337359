use Rattle.std.proofs.Common.{ℕ, ◌+◌, List, take, map, subst, sym, arith}
use Rattle.std.specs.{Prelude.string_bytes, Io.KnownBytes.Appends}
use Rattle.nix_format.specs.declared.report.Tally.{Tally}
use Rattle.nix_format.specs.Outcomes.{heading, IsFileFormatted, AreFormatted, none_formatted}
use Rattle.nix_format.proofs.FormattedFiles.{one_file_more}
use Rattle.nix_format.proofs.report.format_each.Goals as goal

pub loop-number-init : goal.loop-number-init
loop-number-init g c = none_formatted

pub loop-number-preserved : goal.loop-number-preserved
loop-number-preserved g c =
    let names = c.args.files.now.names.items in
    let i = c.loop-number.number in
    let file = c.index.result.now in
    let old = g.W.Write.contents c.args.out.now in
    let mid = g.W.Write.contents c.loop-number.out in
    let begun = g.W.Write.contents c.write_heading.new.out in
    let new = g.W.Write.contents c.format_file.new.out in
    let outcome = c.in_ok-outcome.outcome in
    let texts = g.R.TextReader.texts c.args.reader.now in
    subst (λ (tally : Tally). AreFormatted c.args.task texts c.args.has_headings c.args.files.now.failed old (map string_bytes (take (i + 1) names)) new tally)
    (sym c.counted-tally.ensures)
    (one_file_more c.args.task texts c.args.has_headings c.args.files.now.failed old mid begun new names i file c.loop-number.tally outcome
    (omega (arith, c.loop-number-test.true)) c.index.ensures c.loop-number.invariant
    (subst (λ (name : List ℕ). Appends mid begun (heading c.args.has_headings name)) c.as_str-name.ensures.value c.in_ok-write_heading.ensures)
    (subst (λ (name : List ℕ). IsFileFormatted c.args.task texts name begun new outcome) c.as_str-name.ensures.value c.in_ok-outcome.ensures))
