use Rattle.std.proofs.{Common.{◌≡◌, List, length, subst, arith, rules}, lemmas.Bool.Decides.nat_tests}
use Rattle.std.specs.{List.flat_map, Io.KnownBytes.Appends}
use Rattle.nix_lints.specs.declared.unused.UnusedName.{UnusedName}
use Rattle.nix_dead.specs.Report.{name_output}
use Rattle.nix_dead.proofs.ReportedNames.{none_reported, some_reported}
use Rattle.nix_dead.proofs.report.report_names.Goals as goal

pub returns-then-is_empty : goal.returns-then-is_empty
returns-then-is_empty g c =
    let names = c.in_ok-names.names.items in
    let none : length names ≡ 0 = search rules in
    none_reported c.args.options c.args.file.now c.args.text.now c.args.root.now (g.W.Write.contents c.args.out.now) names none
    c.in_ok-names.ensures

pub returns : goal.returns
returns g c =
    let names = c.in_ok-names.names.items in
    let start = g.W.Write.contents c.args.out.now in
    let new = g.W.Write.contents c.write_names.new.out in
    some_reported c.args.options c.args.file.now c.args.text.now c.args.root.now start new names (λ none. grind (arith, nat_tests))
    c.in_ok-names.ensures
    (subst (λ (xs : List UnusedName). Appends start new (flat_map (name_output c.args.options.is_json c.args.file.now c.args.text.now) xs))
    c.deref.ensures.value c.in_ok-write_names.ensures)
