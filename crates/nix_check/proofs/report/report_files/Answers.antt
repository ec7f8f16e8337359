use Rattle.std.proofs.Common.{◌≡◌, ℕ, ◌∙◌, length, sym, subst, rules}
use Rattle.std.proofs.lemmas.List.{length-map}
use Rattle.std.specs.{Prelude.string_bytes, Io.KnownBytes.Appends}
use Rattle.nix_check.specs.ErrorReport.{report_tail}
use Rattle.nix_check.proofs.report.report_files.Goals as goal

pub returns : goal.returns
returns g c =
    let files = c.args.files.now.names.items in
    let count : c.len.result ≡ length files = search rules in
    let old = g.W.Write.contents c.check_files.new.out in
    let new = g.W.Write.contents c.write_end.new.out in
    let tail = report_tail c.args.style.format c.in_ok-tally.tally in
    record {
      begun = g.W.Write.contents c.write_start.new.out;
      done = old;
      tally = c.in_ok-tally.tally;
      head = c.in_ok-write_start.ensures;
      checked = c.in_ok-tally.ensures;
      tail = subst (λ (n : ℕ). Appends old new (tail n)) (count ∙ sym (length-map files string_bytes)) c.in_ok-write_end.ensures;
      status_is = c.status.ensures;
    }
