use Rattle.std.proofs.Common.{◌≡◌, ◌∙◌, length, sym}
use Rattle.nix_check.proofs.PrintedDiagnostics.{text_checked, nothing_printed, nothing_counted}
use Rattle.nix_check.proofs.check.check_text.Goals as goal

pub returns-then-len-eq0 : goal.returns-then-len-eq0
returns-then-len-eq0 g c =
    let reported = c.in_ok-reported.ensures in
    let items = reported.0 in
    let none : length items ≡ 0 = sym (c.len.ensures items reported.2) ∙ c.if-len-eq0.true in
    let old = g.W.Write.contents c.args.out.now in
    text_checked c.args.style c.args.name.now c.args.text.now c.args.earlier old old c.in_ok-read.read.tree c.in_ok-read.read.faults items
    record { errors = 0; warnings = 0 } c.in_ok-read.ensures reported.1 (nothing_counted items none)
    (nothing_printed c.args.style c.args.name.now c.args.text.now c.args.earlier items old none)

pub returns : goal.returns
returns g c =
    let reported = c.in_ok-reported.ensures in
    let items = reported.0 in
    text_checked c.args.style c.args.name.now c.args.text.now c.args.earlier (g.W.Write.contents c.args.out.now)
    (g.W.Write.contents c.write_reported.new.out) c.in_ok-read.read.tree c.in_ok-read.read.faults items c.in_ok-counts.counts c.in_ok-read.ensures
    reported.1 (c.in_ok-counts.ensures.counted items reported.2) (c.in_ok-counts.ensures.printed items reported.2)
