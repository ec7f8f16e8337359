use Rattle.std.proofs.Common.{◌≡◌, ◌∙◌, List, ℕ, ◌++◌, ap, subst}
use Rattle.std.specs.{Prelude.{OnOk, codes}, Io.KnownBytes.Appends}
use Rattle.nix_diagnostics.specs.Codes.{severity_of, severity_name}
use Rattle.nix_check.proofs.sarif.write_rule.Goals as goal

pub returns : goal.returns
returns g c =
    let is : c.name-level.result.now ≡ severity_name (severity_of c.args.code) = c.name-level.ensures ∙ ap severity_name c.severity-severity.ensures in
    subst (λ (name : List ℕ). OnOk c.write.result (Appends (g.W.Write.contents c.args.out.now) (g.W.Write.contents c.write.new.self)
    (codes "{\"ruleId\":\"" ++ (name ++ (codes "\",\"level\":\"" ++ (severity_name (severity_of c.args.code) ++ codes "\",")))))) c.name-name.ensures
    (subst (λ (level : List ℕ). OnOk c.write.result (Appends (g.W.Write.contents c.args.out.now) (g.W.Write.contents c.write.new.self)
    (codes "{\"ruleId\":\"" ++ (c.name-name.result.now ++ (codes "\",\"level\":\"" ++ (level ++ codes "\",")))))) is c.write.ensures.bytes)
