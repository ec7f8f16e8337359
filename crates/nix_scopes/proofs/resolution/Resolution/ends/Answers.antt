use Rattle.std.{proofs.{Common.{◌≡◌, ◌∙◌, map, ap, subst}, lemmas.List.{take_all, Sorted.IsNonDecreasingBy-from_sort}}, specs.List.Sorted.IsPermutation}
use Rattle.{rnix_green.specs.Range.{Extent, bounds_of}, nix_scopes.specs.Occurrences.occurrences_of}
use Rattle.nix_scopes.proofs.resolution.Resolution.ends.Goals as goal

pub returns-clause-exactly : goal.returns-clause-exactly
returns-clause-exactly c =
    let extents = c.deref-extent-items.result.now in
    let all : map bounds_of extents ≡ occurrences_of c.args.number c.args.self.now =
    ap (map bounds_of) c.deref-extent-items.ensures.value ∙ c.in_ok-occurrences.ensures in
    let listed : c.loop-extent.ends.items ≡ map (λ (extent : Extent). extent.end) (occurrences_of c.args.number c.args.self.now) =
    c.loop-extent.invariant
    ∙ ap (λ xs. map (λ (extent : Extent). extent.end) (map bounds_of xs)) (take_all c.loop-extent.extent-index extents c.loop-extent-test.false)
    ∙ ap (map (λ (extent : Extent). extent.end)) all in
    subst (λ xs. IsPermutation xs c.sort.new.self.items) listed c.in_ok-sort.ensures.permutation

pub returns-clause-order : goal.returns-clause-order
returns-clause-order c = IsNonDecreasingBy-from_sort (λ end. end) c.sort.new.self.items c.in_ok-sort.ensures.sorted
