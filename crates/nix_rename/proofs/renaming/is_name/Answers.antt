use Rattle.{std.{proofs.{Common.{◌≡◌, ◌∙◌, [], true, sym, subst, refl, ap}, lemmas.Bool.false≢true}, specs.Bool.MatchBool}, rnix_base.specs.Select.child_of}
use Rattle.{rnix_grammar.specs.Fault.fault_of, rnix.specs.{NodeKinds.is_expr, ParseResult.root_of}, nix_rename.specs.Renamed.is_name_whole}
use Rattle.nix_rename.proofs.{RenamedLemmas.{both_tested, name_tested}, renaming.is_name.Goals.{then-is_whole, else-is_whole}}
use Rattle.nix_rename.proofs.renaming.is_name.Goals as goal

pub returns : goal.returns
returns c =
    let read = c.in_ok-read.read in
    let named = is_name_whole (child_of is_expr 0 (root_of read)) c.args.text.now ≡ true in
    let is = c.is_name_whole-is_whole.ensures ∙ ap (λ r. is_name_whole (child_of is_expr 0 r) c.args.text.now) c.tree.ensures in
    let tested : MatchBool c.if-is_whole.result ((read.faults ≡ []) × named) (¬ ((read.faults ≡ []) × named)) =
    elim c.if-is_whole.branch [
      | then-is_whole w ↦ subst (λ b. MatchBool b ((read.faults ≡ []) × named) (¬ ((read.faults ≡ []) × named))) (sym w.result-is)
          (both_tested fault_of w.errors.result.now read.faults w.errors.ensures true w.is_empty.result (λ _. sym is ∙ w.if-is_whole.true)
          (λ _. refl) w.is_empty.ensures)
      | else-is_whole w ↦ subst (λ b. MatchBool b ((read.faults ≡ []) × named) (¬ ((read.faults ≡ []) × named))) (sym (w.result-is ∙ w.if-is_whole.false))
          (λ both. false≢true (sym w.if-is_whole.false ∙ is ∙ both.1))
    ] in
    name_tested c.args.text.now read c.in_ok-read.ensures c.if-is_whole.result tested
