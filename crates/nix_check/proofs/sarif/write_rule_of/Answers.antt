use Rattle.std.proofs.Common.{◌≡◌, ◌∙◌, List, ℕ, ◌++◌, ap, subst}
use Rattle.std.specs.{Prelude.{OnOk, codes}, Io.KnownBytes.Appends}
use Rattle.nix_diagnostics.specs.Codes.{Row, rule_of, severity_name}
use Rattle.nix_check.proofs.sarif.write_rule_of.Goals as goal

pub returns : goal.returns
returns g c =
    let name : c.rule-rule.result.name.now ≡ (rule_of c.args.code).name = ap (λ (r : Row). r.name) c.rule-rule.ensures in
    let title : c.rule-rule.result.title.now ≡ (rule_of c.args.code).title = ap (λ (r : Row). r.title) c.rule-rule.ensures in
    let level : c.name-level.result.now ≡ severity_name (rule_of c.args.code).severity = c.name-level.ensures ∙ ap severity_name c.severity-severity.ensures in
    subst (λ (bytes : List ℕ). OnOk c.write.result (Appends (g.W.Write.contents c.args.out.now) (g.W.Write.contents c.write.new.self) bytes))
    (λ k. codes "{\"id\":\"" ++ (name k ++ (codes "\",\"shortDescription\":{\"text\":\"" ++ (title k
    ++ (codes "\"},\"defaultConfiguration\":{\"level\":\"" ++ (level k ++ codes "\"}}"))))))
    c.write.ensures.bytes
