use Rattle.std.proofs.Common.{rules, ap, map}
use Rattle.std.proofs.lemmas.List.Sorted.{IsNonDecreasingBy-from_sort_by_key}
use Rattle.nix_attributes.specs.Repeated.{repeated_in}
use Rattle.nix_lints.specs.{Found.found_of, ForeignSpaces.foreign_in, Lints.{space_found, repetition_found, found_at_names}, Nodes.found_at_nodes}
use Rattle.nix_lints.proofs.LintLemmas.{all_added, are_lints}
use Rattle.nix_lints.proofs.all_lints.lints.Goals as goal

pub returns : goal.returns
returns c =
    let root = c.args.root.now in
    are_lints root c.add_at_nodes.new.found.items c.sort_by_key.new.self.items
    (all_added (map found_of c.new-found.result.items) _ _ _ _ (map space_found (foreign_in root)) (map repetition_found (repeated_in root))
    (found_at_names root) (found_at_nodes root) (ap (map found_of) c.new-found.ensures.items) c.in_ok-add_spaces.ensures c.in_ok-add_repetitions.ensures
    c.in_ok-places.ensures.found (c.in_ok-add_at_nodes.ensures c.in_ok-places.ensures.places))
    c.in_ok-sort_by_key.ensures.permutation
    (IsNonDecreasingBy-from_sort_by_key (λ f. f.range.start) _ c.in_ok-sort_by_key.ensures.sorted (λ a r q k. search rules))
