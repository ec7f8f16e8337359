use Rattle.std.proofs.{Common.{ℕ, List, ◌++◌, subst}, KnownBytes.Appends-trans, lemmas.Result.on_ok_weaker}
use Rattle.std.specs.{Cow.cow_str_bytes, Prelude.codes, Io.KnownBytes.Appends}
use Rattle.nix_cli.specs.{JsonString.shown_text, MessageLocations.location_text}
use Rattle.nix_dead.specs.Dead.{start_of}
use Rattle.nix_dead.proofs.report.write_line.Goals as goal

pub returns : goal.returns
returns g c =
    let source = c.args.source.now in
    let name = c.args.name.now in
    let first = g.W.Write.contents c.write_source_location.new.out in
    let second = g.W.Write.contents c.write_shown.new.out in
    let last = g.W.Write.contents c.write_all.new.self in
    let shown = shown_text (cow_str_bytes name.text) in
    let own : Appends first second shown =
    subst (λ (bytes : List ℕ). Appends first second (shown_text bytes)) c.as_str.ensures.value c.in_ok-write_shown.ensures in
    let located : Appends (g.W.Write.contents c.args.out.now) first (location_text source.name.now source.text.now (start_of name)) =
    subst (λ (n : ℕ). Appends (g.W.Write.contents c.args.out.now) first (location_text source.name.now source.text.now n)) c.start_of.ensures
    c.in_ok-write_source_location.ensures in
    on_ok_weaker c.write_all.result
    (λ e. Appends-trans (g.W.Write.contents c.args.out.now) first last (location_text source.name.now source.text.now (start_of name))
    (shown ++ codes " is never used\n") located
    (Appends-trans first second last shown (codes " is never used\n") own e)) c.write_all.ensures.bytes
