use Rattle.std.proofs.Common.{rules, ◌≡◌, ◌≤◌, ◌<◌, Some, [], length, map, string_bytes, ap, subst, sym, refl, Option, ◌∙◌, arith}
use Rattle.std.{proofs.lemmas.{List.{nil_from_length, length-map}, Option.slice_get_within}, specs.Prelude.{IfSome, IfNone, slice_get}}
use Rattle.rnix_grammar.specs.Fault.{fault_of}
use Rattle.nix_update.specs.declared.path.Path.{Path}
use Rattle.nix_update.{specs.{Path.{IsPath, IsNoPath}, PathSteps.ArePathSteps, Sources.IsSourceOf}, proofs.SourceLemmas.whole_source}
use Rattle.nix_update.proofs.source.value_source.Goals as goal

pub returns-in_default : goal.returns-in_default
returns-in_default c =
    IsSourceOf.no_path c.refuse.result refl c.refuse.ensures
    (subst (λ (found : Option Path). IfNone found (IsNoPath c.args.path.now)) c.in_default.is c.in_ok-path.ensures.none)

pub returns-in-Some-first : goal.returns-in-Some-first
returns-in-Some-first c =
    let errors = c.errors.result.now in
    let first : slice_get errors 0 ≡ Some c.in-Some-first.error.now = search rules in
    let some : 0 < length errors = slice_get_within errors 0 c.in-Some-first.error.now first in
    IsSourceOf.no_nix c.refuse_at.result refl c.refuse_at.ensures record {
      read = c.in_ok-read.read;
      is_read = c.in_ok-read.ensures;
      some = λ is. omega (arith, some, length-map errors fault_of, ap length (c.errors.ensures ∙ is));
    }

pub returns : goal.returns
returns c =
    let path = c.in-Some.path in
    let read = c.in_ok-read.read in
    let past : length c.errors.result.now ≤ 0 = c.in_default-first.ensures.item.3 in
    let none : read.faults ≡ [] = sym c.errors.ensures ∙ ap (map fault_of) (nil_from_length c.errors.result.now (omega (arith, past))) in
    whole_source c.args.path.now c.args.text.now path read c.syntax-root.result c.in_ok-steps.steps.items c.source_along.result
    (subst (λ found. IfSome found (λ found. IsPath c.args.path.now (map string_bytes found.names.items) found.starts.items)) c.in-Some.is
    c.in_ok-path.ensures.is_path)
    c.in_ok-read.ensures none c.syntax-root.ensures
    (subst (λ names. ArePathSteps (map string_bytes names) c.syntax-root.result c.in_ok-steps.steps.items) c.deref.ensures.value c.in_ok-steps.ensures)
    (search rules)
