use Rattle.std.proofs.Common.{rules, map, subst, List}
use Rattle.std.proofs.lemmas.List.Sorted.{IsNonDecreasingBy-from_sort_by_key, IsPermutation-map}
use Rattle.std.specs.List.Sorted.{IsPermutation}
use Rattle.nix_lints.specs.UnusedNames.{Written, written_name}
use Rattle.nix_dead.specs.Dead.{start_of}
use Rattle.nix_dead.proofs.dead.dead_names.Goals as goal

pub returns-clause-order : goal.returns-clause-order
returns-clause-order c = IsNonDecreasingBy-from_sort_by_key start_of _ c.in_ok-sort_by_key.ensures.sorted (λ a r q k. search rules)

pub returns-clause-exactly : goal.returns-clause-exactly
returns-clause-exactly c =
    let sorted = c.sort_by_key.new.self.items in
    subst (λ (names : List Written). IsPermutation names (map written_name sorted)) c.in_ok-names.ensures
    (IsPermutation-map written_name c.in_ok-names.names.items sorted c.in_ok-sort_by_key.ensures.permutation)
