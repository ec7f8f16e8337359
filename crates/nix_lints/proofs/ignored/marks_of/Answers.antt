use Rattle.std.proofs.Common.{◌≡◌, ◌∙◌, ap, length, map, rules}
use Rattle.std.proofs.lemmas.List.{take_all}
use Rattle.nix_diagnostics.specs.Codes.{all_codes, code_name}
use Rattle.nix_lints.specs.Ignored.{has_name}
use Rattle.nix_lints.proofs.IgnoredLemmas.{none_marked, all_marked}
use Rattle.nix_lints.proofs.ignored.marks_of.Goals as goal

pub returns-then-is_empty : goal.returns-then-is_empty
returns-then-is_empty c =
    let none : length c.args.names.now ≡ 0 = search rules in
    none_marked c.args.names.now c.new-marks.result.items none c.new-marks.ensures.items

pub returns : goal.returns
returns c =
    all_marked c.args.names.now c.loop-code.marks.items
    (c.loop-code.invariant
    ∙ ap (map (λ code. has_name c.args.names.now (code_name code))) (take_all c.loop-code.code-index all_codes c.loop-code-test.false))
