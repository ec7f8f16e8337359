-- What all lints find, in the order of where it begins.
use Rattle.std.proofs.Common.{◌≡◌, ◌∙◌, ◌≤◌, ◌<◌, List, [], ◌∷◌, ◌++◌, length, map, get_or, sym, ap, subst, arith}
use Rattle.std.proofs.lemmas.List.{append_assoc, length-map, get_or-map, Sorted.IsPermutation-map}
use Rattle.std.specs.List.Sorted.{IsPermutation, IsNonDecreasingBy}
use Rattle.rnix_green.specs.Tree.{Located}
use Rattle.nix_lints.specs.declared.finding.Finding.{Finding}
use Rattle.nix_lints.specs.{Found.{Found, found_of}, Lints.{lints_in, AreLints}}

-- the findings after each lint, one after another
pub all_added : (none a b c d : List Found) (xs ys zs us : List Found) → none ≡ [] → a ≡ none ++ xs → b ≡ a ++ ys → c ≡ b ++ zs → d ≡ c ++ us →
    d ≡ xs ++ (ys ++ (zs ++ us))
all_added none a b c d xs ys zs us empty first second third fourth =
    fourth ∙ ap (λ l. l ++ us) (third ∙ ap (λ l. l ++ zs) (second ∙ ap (λ l. l ++ ys) (first ∙ ap (λ l. l ++ xs) empty)))
    ∙ append_assoc (xs ++ ys) zs us ∙ append_assoc xs ys (zs ++ us)

-- findings in the order of where they begin, in the terms of the definitions
ordered : (xs : List Finding) → IsNonDecreasingBy (λ (f : Finding). f.range.start) xs → IsNonDecreasingBy (λ (f : Found). f.extent.start) (map found_of xs)
ordered [] h i j d before within = absurd (omega (arith, within))
ordered (x ∷ xs) h i j d before within =
    let all = x ∷ xs in
    let inside : j < length all = omega (arith, within, length-map all found_of) in
    let one : get_or (map found_of all) i d ≡ found_of (get_or all i x) = get_or-map found_of all i x d (omega (arith, before, inside)) in
    let other : get_or (map found_of all) j d ≡ found_of (get_or all j x) = get_or-map found_of all j x d inside in
    subst (λ (f : Found). f.extent.start ≤ (get_or (map found_of all) j d).extent.start) (sym one)
    (subst (λ (f : Found). (found_of (get_or all i x)).extent.start ≤ f.extent.start) (sym other) (h i j x before inside))

-- sorted findings are the findings
pub are_lints : (root : Located) (found sorted : List Finding) → map found_of found ≡ lints_in root → IsPermutation found sorted →
    IsNonDecreasingBy (λ (f : Finding). f.range.start) sorted → AreLints root (map found_of sorted)
are_lints root found sorted are same in_order = record {
  same = subst (λ all. IsPermutation all (map found_of sorted)) are (IsPermutation-map found_of found sorted same);
  ordered = ordered sorted in_order;
}
