use Rattle.std.proofs.Common.{◌≡◌, ◌∙◌, List, ℕ, ◌++◌, ap, subst}
use Rattle.std.specs.{Prelude.{OnOk, codes, decimal}, Io.KnownBytes.Appends}
use Rattle.nix_diagnostics.specs.Codes.{severity_of, severity_name}
use Rattle.nix_check.proofs.json.write_errors.Goals as goal

pub returns : goal.returns
returns g c =
    let is : c.name-level.result.now ≡ severity_name (severity_of c.args.code) = c.name-level.ensures ∙ ap severity_name c.severity-severity.ensures in
    subst (λ (name : List ℕ). OnOk c.write.result (Appends (g.W.Write.contents c.args.out.now) (g.W.Write.contents c.write.new.self)
    (codes ",\"severity\":\"" ++ (severity_name (severity_of c.args.code) ++ (codes "\",\"code\":\"" ++ (name
    ++ (codes "\",\"errors\":" ++ (decimal c.args.errors ++ codes ",\"notes\":["))))))))
    c.name-name.ensures
    (subst (λ (level : List ℕ). OnOk c.write.result (Appends (g.W.Write.contents c.args.out.now) (g.W.Write.contents c.write.new.self)
    (codes ",\"severity\":\"" ++ (level ++ (codes "\",\"code\":\"" ++ (c.name-name.result.now
    ++ (codes "\",\"errors\":" ++ (decimal c.args.errors ++ codes ",\"notes\":["))))))))
    is c.write.ensures.bytes)
