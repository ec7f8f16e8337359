use Rattle.std.proofs.Common.{◌+◌, ℕ, List, [], map, take, subst, sym, string_bytes, arith}
use Rattle.nix_cli.{specs.Statuses.{first_status, AreProcessed, none_processed}, proofs.ProcessedLemmas.processed_more}
use Rattle.nix_dead.specs.EditedFiles.{IsFileEdited}
use Rattle.nix_dead.proofs.edit.edit_files.Goals as goal

pub loop-number-init : goal.loop-number-init
loop-number-init g c =
    let start = g.W.Write.contents c.args.out.now in
    let Effect = IsFileEdited c.args.options (g.R.TextReader.texts c.args.reader.now) in
    let first = first_status c.args.files.now.failed in
    subst (λ (status : ℕ). AreProcessed Effect first start [] start status) (sym c.status-status.ensures) none_processed

pub loop-number-preserved : goal.loop-number-preserved
loop-number-preserved g c =
    let names = c.args.files.now.names.items in
    let i = c.loop-number.number in
    let start = g.W.Write.contents c.args.out.now in
    let Effect = IsFileEdited c.args.options (g.R.TextReader.texts c.args.reader.now) in
    let mid = g.W.Write.contents c.loop-number.out in
    let new = g.W.Write.contents c.edit_file.new.out in
    let first = first_status c.args.files.now.failed in
    subst (λ (status : ℕ). AreProcessed Effect first start (map string_bytes (take (i + 1) names)) new status)
    (sym c.max-status.ensures)
    (processed_more Effect first start mid new names i c.index.result.now c.loop-number.status c.in_ok-own.own
    (omega (arith, c.loop-number-test.true)) c.index.ensures c.loop-number.invariant
    (subst (λ (file : List ℕ). Effect file mid new c.in_ok-own.own) c.as_str-file.ensures.value c.in_ok-own.ensures))
