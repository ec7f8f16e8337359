use Rattle.{std.{proofs.{Common.{◌≡◌, ◌∙◌, ℕ, [], true, sym, subst, refl}, lemmas.Bool.false≢true}, specs.Bool.MatchBool}, rnix_grammar.specs.Fault.fault_of}
use Rattle.{rnix.specs.ParseResult.root_of, nix_scopes.specs.Alike.{IsResolution, AreAlike, rename_in}, nix_rename.{specs.Renamed.AreThese, proofs.RenamedLemmas.both_tested}}
use Rattle.nix_rename.proofs.{RenamedLemmas.resolved_tested, renaming.resolves_the_same.Goals.{then-is_like, else-is_like}}
use Rattle.nix_rename.proofs.renaming.resolves_the_same.Goals as goal

pub returns : goal.returns
returns c =
    let read = c.in_ok-read.read in
    let others = c.in_ok-others.others in
    let found : IsResolution (root_of read) others =
    subst (λ e. IsResolution e others) c.syntax.ensures
    (record { bindings = c.in_ok-others.ensures.bindings; firsts = c.in_ok-others.ensures.firsts; resolved = c.in_ok-others.ensures.resolved }) in
    let like = AreThese c.args.names.now c.args.binding.now c.args.new.now others in
    let alike : ℕ → Type 0 = λ old. AreAlike (rename_in c.args.names.now c.args.binding.now.first old c.args.new.now) c.args.names.now others in
    let tested : MatchBool c.if-is_like.result ((read.faults ≡ []) × like) (¬ ((read.faults ≡ []) × like)) =
    elim c.if-is_like.branch [
      | then-is_like w ↦ subst (λ b. MatchBool b ((read.faults ≡ []) × like) (¬ ((read.faults ≡ []) × like))) (sym w.result-is)
          (both_tested fault_of w.errors.result.now read.faults w.errors.ensures true w.is_empty.result
          (λ _. subst alike c.len.ensures (c.in_ok-is_like.ensures.0 w.if-is_like.true)) (λ _. refl) w.is_empty.ensures)
      | else-is_like w ↦ subst (λ b. MatchBool b ((read.faults ≡ []) × like) (¬ ((read.faults ≡ []) × like))) (sym (w.result-is ∙ w.if-is_like.false))
          (λ both. false≢true (sym w.if-is_like.false ∙ c.in_ok-is_like.ensures.1 (subst alike (sym c.len.ensures) both.1)))
    ] in
    resolved_tested c.args.text.now read c.in_ok-read.ensures c.args.names.now c.args.binding.now c.args.new.now others found c.if-is_like.result tested
