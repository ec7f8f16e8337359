use Rattle.std.proofs.{Common.{rules, ◌≡◌, true, false, subst, sym}, KnownBytes.Keeps-refl, lemmas.Result.IfOk-weaker}
use Rattle.nix_format.specs.declared.file.Outcome.{Outcome}
use Rattle.nix_format.specs.declared.file.Outcome.TheVariants.{Failed}
use Rattle.nix_format.specs.Outcomes.{writes, is_input, IsFileFormatted, irreplaceable}
use Rattle.nix_format.proofs.file.format_file.Goals as goal

pub returns-in-Some : goal.returns-in-Some
returns-in-Some g c =
    let texts = g.R.TextReader.texts c.args.reader.now in
    let start = g.W.Write.contents c.args.out.now in
    let cannot : (writes c.args.task ≡ true) × (is_input c.args.name.now ≡ false) = search rules in
    IfOk-weaker c.fail.result (λ (outcome : Outcome). outcome ≡ Failed) (IsFileFormatted c.args.task texts c.args.name.now start start)
    (λ outcome is. subst (λ (o : Outcome). IsFileFormatted c.args.task texts c.args.name.now start start o) (sym is)
    (irreplaceable cannot.0 cannot.1 (Keeps-refl start))) c.fail.ensures
