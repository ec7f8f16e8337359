-- The list that a value writes out, sought in one expression after another.
use Rattle.std.proofs.Common.{◌≡◌, ℕ, zero, suc, ◌-◌, ◌<◌, List, [], ◌∷◌, ◌++◌, reverse, true, false, Some, None, refl, ap, ◌∙◌, arith}
use Rattle.std.proofs.lemmas.List.{reverse-append}
use Rattle.std.specs.Prelude.{if◌then◌else◌}
use Rattle.nix_update.specs.declared.lists.ListPart.{ListPart}
use Rattle.nix_update.specs.Lists.{is_list, list_parts, list_among}

-- the expressions that are left, in the order in which they are looked at: the last one of a vector first
pub taken : (olds news : List ListPart) (w : ListPart) → olds ≡ news ++ (w ∷ []) → reverse olds ≡ w ∷ reverse news
taken olds news w is = ap reverse is ∙ reverse-append news (w ∷ [])

-- the next expression is a list
pub list_here : (count : ℕ) (w : ListPart) (parts : List ListPart) → 0 < count → is_list w.node ≡ true →
    list_among count (w ∷ parts) ≡ Some w.node
list_here zero w parts some is = absurd (omega (arith, some))
list_here (suc count) w parts some is = ap (λ b. if b then Some w.node else list_among count (list_parts w ++ parts)) is

-- it is none, so the list is sought inside it next
pub list_inside : (count : ℕ) (w : ListPart) (parts : List ListPart) → 0 < count → is_list w.node ≡ false →
    list_among count (w ∷ parts) ≡ list_among (count - 1) (list_parts w ++ parts)
list_inside zero w parts some is = absurd (omega (arith, some))
list_inside (suc count) w parts some is =
    let fewer : count ≡ suc count - 1 = omega arith in
    ap (λ b. if b then Some w.node else list_among count (list_parts w ++ parts)) is ∙ ap (λ n. list_among n (list_parts w ++ parts)) fewer

-- no expression is left
pub none_left : (count : ℕ) (parts : List ListPart) → parts ≡ [] → list_among count parts ≡ None
none_left zero parts is = refl
none_left (suc count) parts is = ap (list_among (suc count)) is

-- no more expressions are looked at
pub none_more : (count : ℕ) (parts : List ListPart) → count ≡ 0 → list_among count parts ≡ None
none_more count parts is = ap (λ n. list_among n parts) is
