use Rattle.std.proofs.{Common.{◌≡◌, ◌∙◌, ℕ, ap, subst}, KnownBytes.Appends-trans, lemmas.Result.on_ok_weaker}
use Rattle.std.specs.Io.KnownBytes.{Appends}
use Rattle.nix_cli.specs.MessageLocations.{line_and_column}
use Rattle.nix_check.{specs.AsSarif.region, proofs.AppendedPieces.three}
use Rattle.nix_check.proofs.sarif.write_location.Goals as goal

pub returns : goal.returns
returns g c =
    let text = c.args.source.now.text.now in
    let start = g.W.Write.contents c.args.out.now in
    let third = g.W.Write.contents c.write_all-2.new.self in
    let fourth = g.W.Write.contents c.write_region.new.out in
    let from : c.position-start.result ≡ line_and_column text c.args.range.start = c.position-start.ensures ∙ ap (line_and_column text) c.start.ensures in
    let to : c.position-end.result ≡ line_and_column text c.args.range.end = c.position-end.ensures ∙ ap (line_and_column text) c.end.ensures.value in
    on_ok_weaker c.write_region.result
    (λ e. Appends-trans start third fourth _ (region (line_and_column text c.args.range.start) (line_and_column text c.args.range.end))
    (three start (g.W.Write.contents c.write_all.new.self) (g.W.Write.contents c.write_uri.new.out) third _ _ _ c.in_ok-write_all.ensures.bytes
    c.in_ok-write_uri.ensures c.in_ok-write_all-2.ensures.bytes)
    (subst (λ (location : ℕ × ℕ). Appends third fourth (region (line_and_column text c.args.range.start) location)) to
    (subst (λ (location : ℕ × ℕ). Appends third fourth (region location c.position-end.result)) from e))) c.write_region.ensures
