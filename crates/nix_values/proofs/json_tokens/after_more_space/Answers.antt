use Rattle.std.proofs.Common.{◌≡◌, ◌∙◌, true, get_or, ap, sym, arith, ⊎_elim}
use Rattle.std.proofs.lemmas.Bool.{cases_lt}
use Rattle.nix_values.specs.Json.{is_space}
use Rattle.nix_values.proofs.JsonTokenLemmas.{space_more}
use Rattle.nix_values.proofs.json_tokens.after_more_space.Goals as goal

pub loop-next-preserved : goal.loop-next-preserved
loop-next-preserved c =
    let here : is_space (get_or c.args.bytes.now c.loop-next.next 0) ≡ true = sym c.is_space.ensures ∙ c.if-not-is_space.false in
    record {
      same = space_more c.args.bytes.now c.loop-next.next c.loop-next-test.true here ∙ c.loop-next.invariant.same;
      spaces = λ i from to. ⊎_elim
          (λ before. c.loop-next.invariant.spaces i from before)
          (λ past. let e : i ≡ c.loop-next.next = omega (arith, past, to) in ap (λ k. is_space (get_or c.args.bytes.now k 0)) e ∙ here)
          (cases_lt i c.loop-next.next);
    }
