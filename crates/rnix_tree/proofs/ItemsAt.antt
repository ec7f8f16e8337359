-- The items of a forest that are in a tree from a number on.
use Rattle.std.proofs.Common.{◌≡◌, ℕ, ◌+◌, ◌-◌, List, ◌∷◌, ◌++◌, length, get_or, ap, sym, ◌∙◌, arith, append_assoc, length-append}
use Rattle.{std.proofs.lemmas.List.get_or-append_right, rnix_green.specs.Tree.{Tree, Item, items_of, no_item, item}}

-- the items of a tree from number `n` on are these
pub record HasItemsAt (t : Tree) (n : ℕ) (is : List Item) : Type 0 where
  pub before : List Item
  pub after : List Item
  pub split : items_of t ≡ before ++ (is ++ after)
  pub counted : length before ≡ n

-- the first of such items is the one with number `n`
pub first_item : (t : Tree) (n : ℕ) (i : Item) (is : List Item) → HasItemsAt t n (i ∷ is) → item t n ≡ i
first_item t n i is h =
    let z : n - n ≡ 0 = omega arith in
    ap (λ xs. get_or xs n no_item) h.split ∙ get_or-append_right h.before ((i ∷ is) ++ h.after) n n no_item h.counted (omega arith)
    ∙ ap (λ j. get_or ((i ∷ is) ++ h.after) j no_item) z

-- the items at the front of such a list
pub front_items : (t : Tree) (n : ℕ) (xs ys : List Item) → HasItemsAt t n (xs ++ ys) → HasItemsAt t n xs
front_items t n xs ys h = record {
  before = h.before;
  after = ys ++ h.after;
  split = h.split ∙ ap (λ x. h.before ++ x) (append_assoc xs ys h.after);
  counted = h.counted;
}

-- the items after the front of such a list
pub back_items : (t : Tree) (n m : ℕ) (xs ys : List Item) → n + length xs ≡ m → HasItemsAt t n (xs ++ ys) → HasItemsAt t m ys
back_items t n m xs ys e h = record {
  before = h.before ++ xs;
  after = h.after;
  split = h.split ∙ ap (λ x. h.before ++ x) (append_assoc xs ys h.after) ∙ sym (append_assoc h.before xs (ys ++ h.after));
  counted = omega (arith, length-append h.before xs, h.counted);
}
