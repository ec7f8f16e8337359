-- The elements of a walk, one after another, and what is listed for each.
use Rattle.std.proofs.Common.{◌≡◌, ℕ, zero, suc, ◌+◌, ◌<◌, List, ◌∷◌, ◌++◌, length, map, drop, get_or, true, false, inl, inr, refl, ap, sym, subst, ◌∙◌, arith}
use Rattle.std.{proofs.lemmas.{List.{append_assoc, get_or_past}, Bool.{cases_lt, false≢true}}, specs.Prelude.flat_map}
use Rattle.rnix_green.specs.{Tree.{Tree, Item, Located, items_of, item, no_item}, Walk.{Spot, spot_at, counted}}
use Rattle.rnix_green.proofs.InsideLemmas.{leaf_holds_nothing}

-- a node is an element of the tree
pub node_there : (t : Tree) (n : ℕ) → (item t n).is_node ≡ true → n < length (items_of t)
node_there t n is = elim (cases_lt n (length (items_of t))) [
  | inl there ↦ there
  | inr absent ↦ absurd (false≢true (sym (ap (λ (i : Item). i.is_node) (get_or_past (items_of t) n no_item absent)) ∙ is))
]

-- nothing is inside a token
pub token_alone : (t : Tree) (n : ℕ) → (item t n).is_node ≡ false → (item t n).below ≡ 0
token_alone t n is = elim (cases_lt n (length (items_of t))) [
  | inl there ↦ leaf_holds_nothing t n there is
  | inr absent ↦ ap (λ (i : Item). i.below) (get_or_past (items_of t) n no_item absent)
]

-- `spot` is the first of the elements, and `later` are the others
pub record IsTaken (t : Tree) (n count : ℕ) (spot : Spot) (later : List Spot) : Type 0 where
  pub first : spot ≡ spot_at t n
  pub others : ℕ
  pub are : later ≡ map (spot_at t) (counted (n + 1) others)
  pub one_more : count ≡ suc others

-- taking the first of the elements
pub taken : (t : Tree) (n count : ℕ) (spots : List Spot) (spot : Spot) (later : List Spot) → spots ≡ map (spot_at t) (counted n count) →
    spots ≡ spot ∷ later → IsTaken t n count spot later
taken t n zero spots spot later all is = absurd (omega (arith, ap length all, ap length is))
taken t n (suc others) spots spot later all is =
    let same : spot ∷ later ≡ spot_at t n ∷ map (spot_at t) (counted (n + 1) others) = sym is ∙ all in
    record { first = ap (λ ss. get_or ss 0 spot) same; others = others; are = ap (drop 1) same; one_more = refl }

-- listing one more element
pub listing_next : {X : Type 0} (f : Located → List X) (so_far new all : List X) (before after : List Located) (e same : Located) →
    so_far ++ flat_map f before ≡ all → before ≡ e ∷ after → same ≡ e → new ≡ so_far ++ f same → new ++ flat_map f after ≡ all
listing_next f so_far new all before after e same is first same_is added =
    subst (λ xs. xs ++ flat_map f after ≡ all) (sym (added ∙ ap (λ x. so_far ++ f x) same_is))
    (append_assoc so_far (f e) _ ∙ subst (λ es. so_far ++ flat_map f es ≡ all) first is)
