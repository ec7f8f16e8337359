-- Nodes that add their values one after another, and paths that are followed name by name.
use Rattle.std.proofs.Common.{◌≡◌, ◌∙◌, ℕ, zero, suc, ◌-◌, ◌<◌, List, [], ◌∷◌, ap, sym, refl, subst, arith, Option, Some, None}
use Rattle.std.specs.Prelude.{option_and_then}
use Rattle.rnix_kinds.specs.declared.kinds.SyntaxKind.{SyntaxKind}
use Rattle.rnix_kinds.specs.declared.kinds.SyntaxKind.TheVariants as k
use Rattle.rnix_green.specs.Tree.{Located, item_of}
use Rattle.rnix_green.specs.Walk.{nodes_in, children_of}
use Rattle.nix_values.specs.Built.{Built}
use Rattle.nix_data.specs.Meaning.{key_of}
use Rattle.nix_data.specs.Added.{Place, attribute, set_from, scalar_begun, begun_as, begun, place_for, place_after, all_added, inside_added, added}

-- what a node and the nodes inside it add, given what the node itself adds
added_next : (levels : ℕ) (place : Place) (e : Located) (old : List Built) (first : Option Place × List Built) → begun place e old ≡ Some first →
    added (suc levels) place e old ≡ inside_added (added levels) e first
unfolding added
added_next levels place e old first is = ap (option_and_then (inside_added (added levels) e)) is

pub added_begun : (levels : ℕ) (place : Place) (e : Located) (old : List Built) (first : Option Place × List Built) → 0 < levels →
    begun place e old ≡ Some first → added levels place e old ≡ inside_added (added (levels - 1)) e first
added_begun levels place e old first some is =
    let total : suc (levels - 1) ≡ levels = omega (arith, some) in
    subst (λ l. added l place e old ≡ inside_added (added (levels - 1)) e first) total (added_next (levels - 1) place e old first is)

-- a node that cannot add its own value adds nothing
pub begun_none : (levels : ℕ) (place : Place) (e : Located) (old : List Built) → begun place e old ≡ None → added levels place e old ≡ None
unfolding added
begun_none zero place e old none = refl
begun_none (suc levels) place e old none = ap (option_and_then (inside_added (added levels) e)) none

-- if no levels are left, nothing is added
pub added_at_zero : (levels : ℕ) (place : Place) (e : Located) (old : List Built) → levels ≡ 0 → added levels place e old ≡ None
unfolding added
added_at_zero levels place e old none = ap (λ l. added l place e old) none

-- a node without nodes inside that add values adds only its own
pub begun_alone : (levels : ℕ) (place : Place) (e : Located) (old more : List Built) → 0 < levels → begun place e old ≡ Some (None, more) →
    added levels place e old ≡ Some more
begun_alone levels place e old more some is = added_begun levels place e old (None, more) some is

-- the remaining nodes add the rest of the values
abbrev pub IsLeft : (Place → Located → List Built → Option (List Built)) → Place → List Located → List Built → Option (List Built) → Type 0
IsLeft add place remaining values whole = all_added add place remaining values ≡ whole

-- after a node adds its own value, all nodes inside it remain
pub begun_inside : (levels : ℕ) (place inner : Place) (e : Located) (all : List Located) (old more : List Built) → 0 < levels →
    all ≡ nodes_in (children_of e) → begun place e old ≡ Some (Some inner, more) →
    IsLeft (added (levels - 1)) inner all more (added levels place e old)
begun_inside levels place inner e all old more some same is =
    ap (λ nodes. all_added (added (levels - 1)) inner nodes more) same ∙ sym (added_begun levels place e old (Some inner, more) some is)

-- if a node cannot add its values, nothing is added
pub left_refused : (add : Place → Located → List Built → Option (List Built)) (place own : Place) (remaining after : List Located) (e : Located)
    (values : List Built) (whole : Option (List Built)) → remaining ≡ e ∷ after → own ≡ place_for (item_of e).kind place →
    add own e values ≡ None → IsLeft add place remaining values whole → whole ≡ None
left_refused add place own remaining after e values whole first at_own none left =
    let none_there : add (place_for (item_of e).kind place) e values ≡ None = ap (λ p. add p e values) (sym at_own) ∙ none in
    sym (subst (λ nodes. IsLeft add place nodes values whole) first left)
    ∙ ap (option_and_then (all_added add (place_after (item_of e).kind place) after)) none_there

-- no node remains
pub left_none : (add : Place → Located → List Built → Option (List Built)) (place : Place) (remaining : List Located) (values : List Built)
    (whole : Option (List Built)) → remaining ≡ [] → IsLeft add place remaining values whole → whole ≡ Some values
left_none add place remaining values whole none left = sym left ∙ ap (λ nodes. all_added add place nodes values) none
