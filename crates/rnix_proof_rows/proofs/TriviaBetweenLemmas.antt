-- Where no node begins or ends with trivia, trivia between two tokens are children of the smallest node that holds both.
use Rattle.std.proofs.Common.{◌≡◌, inl, inr, false, List, [], ◌∷◌, ◌++◌, refl, sym, ◌∙◌, subst, append_assoc, append-nil}
use Rattle.{rnix_kinds.specs.{declared.kinds.SyntaxKind.SyntaxKind, SyntaxKind.is_trivia}, rnix_green.specs.Forest.{Forest, empty, leaf, node, join}}
use Rattle.{rnix_green.specs.Tree.Tree, rnix_grammar.specs.{Trim.{BeginsWithItem, EndsWithItem, leaf_kinds, AreNodesTrimmed}, TriviaBetween.{HasItem, AreTrivia}}}
use Rattle.{rnix_grammar.specs.TriviaBetween.{first_leaves, last_from, HaveNone, HasTriviaBetween, HaveTriviaBetween, AreTriviaBetween}, rnix_proof_lemmas.proofs.EdgeLemmas.some}
use Rattle.rnix_proof_lemmas.proofs.{EdgeLemmas.ends_behind, Basics.true_is_not_false}

-- if two joined forests are trimmed, so are both
trimmed_parts : (f g : Forest) → AreNodesTrimmed (join f g) → AreNodesTrimmed f × AreNodesTrimmed g
trimmed_parts empty g h = (tt, h)
trimmed_parts (leaf k t f) g h = trimmed_parts f g h
trimmed_parts (node k c f) g h = let w = trimmed_parts f g h.3 in ((h.0, h.1, h.2, w.0), w.1)

-- among trivia, only the empty list does not begin with trivia
none_of_trivia : (ks js : List SyntaxKind) → AreTrivia (ks ++ js) → BeginsWithItem ks → ks ≡ []
none_of_trivia [] js h b = refl
none_of_trivia (k ∷ ks) js h b = absurd (true_is_not_false (sym h.0 ∙ b))

-- the rest of a list of trivia is trivia
trivia_rest : (ks js : List SyntaxKind) → AreTrivia (ks ++ js) → AreTrivia js
trivia_rest [] js h = h
trivia_rest (k ∷ ks) js h = trivia_rest ks js h.1

-- a trimmed forest of trivia alone has no nodes
own_leaves : (f : Forest) → AreNodesTrimmed f → AreTrivia (leaf_kinds f) → HaveNone f
own_leaves empty h t = tt
own_leaves (leaf k s f) h t = own_leaves f h t.1
own_leaves (node k c f) h t = (none_of_trivia (leaf_kinds c) (leaf_kinds f) t h.0, own_leaves f h.3 (trivia_rest (leaf_kinds c) (leaf_kinds f) t))

-- a single kind that is an item is no trivia
one_item : (k : SyntaxKind) → HasItem (k ∷ []) → is_trivia k ≡ false
one_item k h = elim h [ inl e ↦ e | inr e ↦ absurd e ]

-- a list that begins with an item still does with more after it
begins_more : (ks js : List SyntaxKind) → HasItem ks → BeginsWithItem ks → BeginsWithItem (ks ++ js)
begins_more [] js h b = absurd h
begins_more (k ∷ ks) js h b = b

-- a trimmed forest whose first tree contains an item begins with an item
begins_first : (f : Forest) → AreNodesTrimmed f → HasItem (first_leaves f) → BeginsWithItem (leaf_kinds f)
begins_first empty h i = tt
begins_first (leaf k t f) h i = one_item k i
begins_first (node k c f) h i = begins_more (leaf_kinds c) (leaf_kinds f) i h.0

-- a list that ends with an item still does with more before it
ends_more : (js ks : List SyntaxKind) → HasItem ks → EndsWithItem ks → EndsWithItem (js ++ ks)
ends_more js [] h e = absurd h
ends_more js (k ∷ ks) h e = ends_behind js (k ∷ ks) (some k ks) e

-- a trimmed forest whose last tree contains an item ends with an item
ends_last : (f : Forest) (js ks : List SyntaxKind) → AreNodesTrimmed f → (HasItem ks → EndsWithItem ks) → HasItem (last_from ks f)
    → EndsWithItem ((js ++ ks) ++ leaf_kinds f)
ends_last empty js ks h e i = subst EndsWithItem (sym (append-nil (js ++ ks))) (ends_more js ks i (e i))
ends_last (leaf k t f) js ks h e i =
    subst EndsWithItem (append_assoc (js ++ ks) (k ∷ []) (leaf_kinds f)) (ends_last f (js ++ ks) (k ∷ []) h (one_item k) i)
ends_last (node k c f) js ks h e i =
    subst EndsWithItem (append_assoc (js ++ ks) (leaf_kinds c) (leaf_kinds f)) (ends_last f (js ++ ks) (leaf_kinds c) h.3 (λ o. h.1) i)

-- where no node begins or ends with trivia, trivia between tokens in different children of a node are children of it
pub row_trivia_between : (c : Forest) → AreNodesTrimmed c → HasTriviaBetween c
row_trivia_between c h = λ x y z e i t j.
    let w = trimmed_parts x (join y z) (subst AreNodesTrimmed e h) in
    let v = trimmed_parts y z w.1 in
    record { ends = ends_last x [] [] w.0 (λ o. absurd o) i; own = own_leaves y v.0 t; begins = begins_first z v.1 j }

-- this holds for each node
all_trivia_between : (f : Forest) → AreNodesTrimmed f → HaveTriviaBetween f
all_trivia_between empty h = tt
all_trivia_between (leaf k t f) h = all_trivia_between f h
all_trivia_between (node k c f) h = (row_trivia_between c h.2, all_trivia_between c h.2, all_trivia_between f h.3)

-- trivia between two tokens are children of the smallest node that holds both
pub trivia_between : (tree : Tree) → AreNodesTrimmed tree.children → AreTriviaBetween tree
trivia_between tree h = (row_trivia_between tree.children h, all_trivia_between tree.children h)
