use Rattle.{std.{proofs.Common.{sym, subst}, specs.{Prelude.{◌≡◌, Bool}, Bool.Decides, FinSet.contains}}, rnix_kinds.specs.declared.kinds.SyntaxKind.SyntaxKind}
use Rattle.rnix_kinds.proofs.KindSets.{same_number-decides, same_number-members}
use Rattle.rnix_kinds.proofs.token_set.same_sets.Goals as goal

pub returns : goal.returns
returns c = record {
  equal = subst (λ (r : Bool). Decides r (c.args.a ≡ c.args.b)) (sym c.eq.ensures) (same_number-decides c.args.a c.args.b);
  kinds =
      subst (λ (r : Bool). Decides r ((kind : SyntaxKind) → contains c.args.a kind ≡ contains c.args.b kind)) (sym c.eq.ensures)
      (same_number-members c.args.a c.args.b);
}
