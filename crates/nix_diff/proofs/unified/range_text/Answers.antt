use Rattle.std.proofs.Common.{◌≡◌, ℕ, ◌==◌, ◌+◌, ◌++◌, ap, sym, subst, ◌∙◌}
use Rattle.std.proofs.lemmas.Bool.{ne_eqb}
use Rattle.std.specs.Prelude.{◌≢◌, IfOk, codes, decimal, string_bytes, if◌then◌else◌}
use Rattle.nix_diff.specs.Unified.{range_text}
use Rattle.nix_diff.proofs.unified.range_text.Goals as goal

-- several lines
wide_text : (before count : ℕ) → count ≢ 0 → count ≢ 1 → range_text before count ≡ decimal (before + 1) ++ codes "," ++ decimal count
wide_text before count some several =
    ap (λ t. if t then decimal before ++ codes ",0" else if count == 1 then decimal (before + 1) else decimal (before + 1) ++ codes "," ++ decimal count)
    (ne_eqb count 0 some)
    ∙ ap (λ t. if t then decimal (before + 1) else decimal (before + 1) ++ codes "," ++ decimal count) (ne_eqb count 1 several)

pub returns-else-count-eq1 : goal.returns-else-count-eq1
returns-else-count-eq1 c =
    subst (λ t. IfOk c.pair_text.result (λ text. string_bytes text ≡ t))
    (sym (wide_text c.args.before c.args.count c.if-count-eq0.false c.if-count-eq1.false)) c.pair_text.ensures
