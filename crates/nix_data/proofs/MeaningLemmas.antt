-- Lists that are concatenated one after another, and nodes that mean values one after another.
use Rattle.std.proofs.Common.{◌≡◌, ◌∙◌, ℕ, suc, ◌+◌, ◌-◌, ◌<◌, true, false, arith, List, [], ◌∷◌, ◌++◌, ap, sym, refl, subst, append_assoc}
use Rattle.std.proofs.lemmas.List.{append-nil}
use Rattle.std.proofs.lemmas.Bool.{cond-true, cond-false}
use Rattle.rnix_green.specs.Tree.{Located}
use Rattle.rnix_green.specs.Walk.{nodes_in, children_of}
use Rattle.nix_values.specs.Contents.{Plain, has_parts, Entry}
use Rattle.nix_data.specs.Meaning.{unwrapped, parts_of, IsPart, HaveDifferentNames, MeansPart, Means, InOrder, IsHead, MeansFirst}
use Rattle.nix_data.proofs.DifferentNames.{names_of_none}

-- if the remaining nodes mean values, these and the values used so far, after a head, are the values of all nodes
abbrev pub Used : (Located → List Entry → Type 0) → List Located → List Located → Entry → List Entry → List Entry → Type 0
Used means all remaining head entries rest =
    (used : List Entry) × ((others : List Entry) → InOrder means remaining others → InOrder means all (used ++ others)) × (entries ≡ head ∷ (used ++ rest))

-- after one more node is used
pub used_more : (levels depth : ℕ) (own : Plain) (all remaining after : List Located) (child inner : Located) (name : List ℕ) (head : Entry)
    (entries rest next : List Entry) →
    remaining ≡ child ∷ after → IsPart own child name inner → MeansFirst levels depth name inner rest next →
    Used (MeansPart (Means levels depth) own) all remaining head entries rest → Used (MeansPart (Means levels depth) own) all after head entries next
used_more levels depth own all remaining after child inner name head entries rest next first part means so_far =
    let used : List Entry = so_far.0 in
    let more : List Entry = means.0 in (
      used ++ more,
      λ others order. subst (InOrder (MeansPart (Means levels depth) own) all) (sym (append_assoc used more others))
          (so_far.1 (more ++ others) (subst (λ nodes. InOrder (MeansPart (Means levels depth) own) nodes (more ++ others)) (sym first)
          (more, others, (name, inner, part, means.1), order, refl))),
      so_far.2 ∙ ap (λ es. head ∷ (used ++ es)) means.2 ∙ ap (λ es. head ∷ es) (sym (append_assoc used more next)),
    )

-- an expression means its own value and those of its parts
means_all : (levels depth : ℕ) (name : List ℕ) (e : Located) (head : Entry) (inside : List Entry) → IsHead depth name (unwrapped e) head →
    InOrder (MeansPart (Means levels (depth + 1)) head.plain) (parts_of head.plain (unwrapped e)) inside →
    HaveDifferentNames head.plain (parts_of head.plain (unwrapped e)) → Means (suc levels) depth name e (head ∷ inside)
unfolding Means
means_all levels depth name e head inside is parts differ = (head, inside, is, parts, refl, differ)

-- so it means the first of these values
means_first : (total depth : ℕ) (name : List ℕ) (e : Located) (head : Entry) (inside entries rest : List Entry) → 0 < total →
    IsHead depth name (unwrapped e) head →
    InOrder (MeansPart (Means (total - 1) (depth + 1)) head.plain) (parts_of head.plain (unwrapped e)) inside →
    HaveDifferentNames head.plain (parts_of head.plain (unwrapped e)) → entries ≡ head ∷ (inside ++ rest) → MeansFirst total depth name e entries rest
means_first total depth name e head inside entries rest some is parts differ all =
    let total_is : suc (total - 1) ≡ total = omega arith in
    subst (λ t. MeansFirst t depth name e entries rest) total_is (head ∷ inside, means_all (total - 1) depth name e head inside is parts differ, all)

-- an expression whose value contains no others means that value alone
pub means_alone : (total depth : ℕ) (name : List ℕ) (e : Located) (head : Entry) (entries rest : List Entry) → 0 < total →
    IsHead depth name (unwrapped e) head → has_parts head.plain ≡ false → entries ≡ head ∷ rest → MeansFirst total depth name e entries rest
means_alone total depth name e head entries rest some is alone all =
    let none : parts_of head.plain (unwrapped e) ≡ [] = cond-false (has_parts head.plain) (nodes_in (children_of (unwrapped e))) [] alone in
    means_first total depth name e head [] entries rest some is
    (subst (λ nodes. InOrder (MeansPart (Means (total - 1) (depth + 1)) head.plain) nodes []) (sym none) refl)
    (subst (HaveDifferentNames head.plain) (sym none) (names_of_none head.plain)) all

-- an expression means its values once all its child nodes are used and, in a set, have different names
pub means_used : (total depth : ℕ) (name : List ℕ) (e : Located) (head : Entry) (remaining : List Located) (entries rest : List Entry) → 0 < total →
    IsHead depth name (unwrapped e) head → has_parts head.plain ≡ true → remaining ≡ [] →
    Used (MeansPart (Means (total - 1) (depth + 1)) head.plain) (nodes_in (children_of (unwrapped e))) remaining head entries rest →
    HaveDifferentNames head.plain (nodes_in (children_of (unwrapped e))) → MeansFirst total depth name e entries rest
means_used total depth name e head remaining entries rest some is there none so_far differ =
    let are_parts : nodes_in (children_of (unwrapped e)) ≡ parts_of head.plain (unwrapped e) =
    sym (cond-true (has_parts head.plain) (nodes_in (children_of (unwrapped e))) [] there) in
    let inside : List Entry = so_far.0 in
    let order : InOrder (MeansPart (Means (total - 1) (depth + 1)) head.plain) (nodes_in (children_of (unwrapped e))) inside =
    subst (InOrder (MeansPart (Means (total - 1) (depth + 1)) head.plain) (nodes_in (children_of (unwrapped e)))) (append-nil inside)
    (so_far.1 [] (subst (λ nodes. InOrder (MeansPart (Means (total - 1) (depth + 1)) head.plain) nodes []) (sym none) refl)) in
    means_first total depth name e head inside entries rest some is
    (subst (λ nodes. InOrder (MeansPart (Means (total - 1) (depth + 1)) head.plain) nodes inside) are_parts order)
    (subst (HaveDifferentNames head.plain) are_parts differ) so_far.2
