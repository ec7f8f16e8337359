use Rattle.std.proofs.Common.{◌≡◌}
use Rattle.std.specs.Prelude.{find, nat_lt}
use Rattle.rnix_kinds.specs.declared.kinds.SyntaxKind.TheVariants as k
use Rattle.rnix_green.specs.Equality.{same_kind}
use Rattle.rnix_base.specs.Select.{those_of}
use Rattle.nix_dead.specs.Removal.{start_at, next_entry}
use Rattle.nix_dead.proofs.removal.next_entry.Given as goal

-- the arguments that follow decide
abbrev pub invariant-loop-other : goal.invariant-loop-other
invariant-loop-other l = record {
  next : (goal.iterator-loop-other).can_next l.other-iterator;
  ends : (goal.iterator-loop-other).is_finite l.other-iterator;
  decide : find (λ other. nat_lt (start_at l.entry) (start_at other)) (those_of (same_kind k.NODE_PAT_ENTRY) l.other-iterator) ≡ next_entry l.pattern l.entry;
}
