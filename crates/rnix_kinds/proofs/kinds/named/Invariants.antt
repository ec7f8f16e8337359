use Rattle.{std.{proofs.Common.◌≡◌, specs.List.AllWithin}, rnix_kinds.specs.SyntaxKind.name_of}
use Rattle.rnix_kinds.proofs.kinds.named.Given as goal

abbrev pub invariant-loop-kind : goal.invariant-loop-kind
invariant-loop-kind l = AllWithin (λ kind. ¬ (name_of kind ≡ l.name)) l.kinds 0 l.kind-index
