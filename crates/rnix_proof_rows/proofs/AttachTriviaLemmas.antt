-- Forests with their trivia, as determined by their items and the tokens of the text.
use Rattle.{std.proofs.Common.{◌≡◌, true, false, List, [], ◌∷◌, ◌++◌, refl, ap, sym, ◌∙◌, subst}, rnix_kinds.specs.declared.kinds.SyntaxKind.SyntaxKind}
use Rattle.{rnix_kinds.specs.SyntaxKind.is_trivia, rnix_grammar.specs.AnnotatedForest.{Token, Note, TooDeep, AnnotatedForest, blank, token, branch, fault, ◌⊕◌}}
use Rattle.rnix_grammar.specs.{AnnotatedForest.{one_branch, one_fault, without_trivia, token_if, leaf_kind, head_kind}, Layout.{from_item, from_item_if}}
use Rattle.rnix_grammar.specs.Layout.{trivia_if, trivia_before, items, tail_of, is_last, trivia_after, rest_after, remaining_after, with_trivia}
use Rattle.rnix_proof_lemmas.{specs.{Allowed.is_there, Machine.{with_leading, after_item, leaf_in, leaf, run_leaves, run_rest}}, proofs.Basics.true_is_not_false}
use Rattle.rnix_proof_lemmas.proofs.{AnnotatedForestLemmas.{⊕-assoc, ⊕-blank}, LayoutLemmas.{trivia-from_item, from_item-from_item, items_head, items-view}}
use Rattle.rnix_proof_lemmas.proofs.{LayoutLemmas.from_item_item, WithoutTriviaLemmas.{with_leading_without_trivia, added_without_trivia, run_bared}}

-- the tokens that remain after two joined forests remain after the second, read after the first
pub remaining_after-⊕ : (f g : AnnotatedForest) (ts : List Token) → remaining_after (f ⊕ g) ts ≡ remaining_after g (remaining_after f ts)
remaining_after-⊕ blank g ts = refl
remaining_after-⊕ (token k t f) g ts = remaining_after-⊕ f g (tail_of (from_item ts))
remaining_after-⊕ (branch k c f) g ts = remaining_after-⊕ f g (remaining_after c (from_item ts))
remaining_after-⊕ (fault n c f) g ts = remaining_after-⊕ f g (rest_after (is_last n) (remaining_after c (from_item ts)))

-- two joined forests with their trivia: the second gets the trivia where the first ends
pub with_trivia-⊕ : (f g : AnnotatedForest) (ts : List Token) → with_trivia (f ⊕ g) ts ≡ with_trivia f ts ⊕ with_trivia g (remaining_after f ts)
with_trivia-⊕ blank g ts = refl
with_trivia-⊕ (token k t f) g ts =
    let rest = tail_of (from_item ts) in rw (with_trivia-⊕ f g rest)
    (sym (⊕-assoc (trivia_before ts) (token k t (with_trivia f rest)) (with_trivia g (remaining_after f rest))))
with_trivia-⊕ (branch k c f) g ts =
    let rest = remaining_after c (from_item ts) in
    rw (with_trivia-⊕ f g rest) (sym (⊕-assoc (trivia_before ts) (branch k (with_trivia c (from_item ts)) (with_trivia f rest))
    (with_trivia g (remaining_after f rest))))
with_trivia-⊕ (fault n c f) g ts =
    let later = rest_after (is_last n) (remaining_after c (from_item ts)) in
    let own = trivia_after (is_last n) (remaining_after c (from_item ts)) in
    rw (with_trivia-⊕ f g later, sym (⊕-assoc own (with_trivia f later) (with_trivia g (remaining_after f later))))
    (sym (⊕-assoc (trivia_before ts) (fault n (with_trivia c (from_item ts)) (own ⊕ with_trivia f later)) (with_trivia g (remaining_after f later))))

-- a forest has a tree
abbrev pub HasTree : AnnotatedForest → Type 0
HasTree blank = ⊥
HasTree (token k t f) = Unit {0}
HasTree (branch k c f) = Unit {0}
HasTree (fault n c f) = Unit {0}

-- a forest that ends with another one has the trees of this one
pub tree_behind : (f g : AnnotatedForest) → HasTree g → HasTree (f ⊕ g)
tree_behind blank g h = h
tree_behind (token k t f) g h = tt
tree_behind (branch k c f) g h = tt
tree_behind (fault n c f) g h = tt

-- the tokens do not begin with trivia
abbrev pub HasNoLeadingTrivia : List Token → Type 0
HasNoLeadingTrivia ts = from_item ts ≡ ts

-- from the first item on, tokens do not begin with trivia
pub from_no_leading_trivia : (ts : List Token) → HasNoLeadingTrivia (from_item ts)
from_no_leading_trivia ts = from_item-from_item ts

-- no trivia precede tokens that begin with an item
pub no_leading_trivia : (ts : List Token) → HasNoLeadingTrivia ts → trivia_before ts ≡ blank
no_leading_trivia ts h = ap trivia_before (sym h) ∙ trivia-from_item ts

-- a forest has the trivia that its items and the tokens determine, and these other tokens remain after it
pub record HasTrivia (trees : AnnotatedForest) (ts us : List Token) : Type 0 where
  pub same : with_trivia (without_trivia trees) ts ≡ trees
  pub remaining : remaining_after (without_trivia trees) ts ≡ us

-- the empty forest has its trivia
pub with_trivia_blank : (ts : List Token) → HasTrivia blank ts ts
with_trivia_blank ts = record { same = refl; remaining = refl }

-- the trivia before the first item come first; after them the forest is made as from that item on
record IsAhead (c : AnnotatedForest) (ts : List Token) : Type 0 where
  pub same : with_trivia c ts ≡ trivia_before ts ⊕ with_trivia c (from_item ts)
  pub remaining : remaining_after c ts ≡ remaining_after c (from_item ts)

-- this holds for each forest with a tree
ahead : (c : AnnotatedForest) (ts : List Token) → HasTree c → IsAhead c ts
ahead blank ts h = absurd h
ahead (token k t f) ts h = record { same = rw (from_item-from_item ts, trivia-from_item ts) refl; remaining = rw (from_item-from_item ts) refl }
ahead (branch k c f) ts h = record { same = rw (from_item-from_item ts, trivia-from_item ts) refl; remaining = rw (from_item-from_item ts) refl }
ahead (fault n c f) ts h = record { same = rw (from_item-from_item ts, trivia-from_item ts) refl; remaining = rw (from_item-from_item ts) refl }

-- a forest with trivia stays one if trees with theirs are added after it
pub with_trivia_added : (trees g : AnnotatedForest) (ts us vs : List Token) → HasTrivia trees ts us → HasTrivia g (from_item us) vs → HasTree (without_trivia g)
    → HasTrivia (with_leading true trees us ⊕ g) ts vs
with_trivia_added trees g ts us vs h j t =
    let parts : without_trivia (with_leading true trees us ⊕ g) ≡ without_trivia trees ⊕ without_trivia g = added_without_trivia trees us g refl in
    let a : IsAhead (without_trivia g) us = ahead (without_trivia g) us t in
    record {
      same = rw (parts, with_trivia-⊕ (without_trivia trees) (without_trivia g) ts, h.same, h.remaining, a.same, j.same)
          (sym (⊕-assoc trees (trivia_before us) g));
      remaining = rw (parts, remaining_after-⊕ (without_trivia trees) (without_trivia g) ts, h.remaining, a.remaining) j.remaining;
    }

-- a forest has a tree if the trees added after it do
pub tree_added : (trees : AnnotatedForest) (us : List Token) (g : AnnotatedForest) → HasTree (without_trivia g)
    → HasTree (without_trivia (with_leading true trees us ⊕ g))
tree_added trees us g h = subst HasTree (sym (added_without_trivia trees us g refl)) (tree_behind (without_trivia trees) (without_trivia g) h)

-- a node over a forest with trivia has its trivia
pub with_trivia_branch : (k : SyntaxKind) (trees : AnnotatedForest) (ts us : List Token) → HasNoLeadingTrivia ts → HasTrivia trees ts us
    → HasTrivia (one_branch k trees) ts us
with_trivia_branch k trees ts us b h = record {
  same = rw (no_leading_trivia ts b, b, h.same) refl;
  remaining = ap (remaining_after (without_trivia trees)) b
      ∙ h.remaining;
}

-- an error node over a forest with trivia has its trivia, unless it is that of the nesting limit
pub with_trivia_fault : (n : Note) (trees : AnnotatedForest) (ts us : List Token) → is_last n ≡ false → HasNoLeadingTrivia ts → HasTrivia trees ts us
    → HasTrivia (one_fault n trees) ts us
with_trivia_fault n trees ts us e b h = record { same = rw (no_leading_trivia ts b, b, e, h.same) refl; remaining = rw (b, e) h.remaining }

-- an error node of the nesting limit has its trivia, with those after it
pub with_trivia_last : (trees : AnnotatedForest) (ts us : List Token) → HasNoLeadingTrivia ts → HasTrivia trees ts us
    → HasTrivia (with_leading true (one_fault TooDeep trees) us) ts (from_item us)
with_trivia_last trees ts us b h =
    let bare : without_trivia (with_leading true (one_fault TooDeep trees) us) ≡ one_fault TooDeep (without_trivia trees) =
    with_leading_without_trivia (one_fault TooDeep trees) us in
    record {
      same = ap (λ x. with_trivia x ts) bare ∙ rw (no_leading_trivia ts b, b, h.same, h.remaining) (ap (fault TooDeep trees) (⊕-blank (trivia_before us)));
      remaining = ap (λ x. remaining_after x ts) bare ∙ ap (λ x. from_item (remaining_after (without_trivia trees) x)) b ∙ ap from_item h.remaining;
    }

-- the next item as a leaf has its trivia
pub with_trivia_leaf : (k : SyntaxKind) (ts : List Token) → HasTrivia (leaf true k ts) (from_item ts) (after_item true ts)
with_trivia_leaf k ts = by_head (from_item ts) refl
  where
    by_item : (x : Token) (xs : List Token) → is_trivia x.kind ≡ false → HasTrivia (token (leaf_kind k x) x blank) (x ∷ xs) xs
    by_item x xs e =
        let bare : without_trivia (token (leaf_kind k x) x blank) ≡ token (leaf_kind k x) x blank = ap (λ y. token_if y (leaf_kind k x) x blank) e in
        let here : from_item (x ∷ xs) ≡ x ∷ xs = ap (λ y. from_item_if y x xs (from_item xs)) e in
        record {
          same =
              ap (λ y. with_trivia y (x ∷ xs)) bare ∙ ap (λ y. trivia_if y x (trivia_before xs) ⊕ token (leaf_kind k x) x blank) e;
          remaining = ap (λ y. remaining_after y (x ∷ xs)) bare ∙ ap tail_of here;
        }

    by_head : (xs : List Token) → from_item ts ≡ xs → HasTrivia (leaf_in k xs) xs (tail_of xs)
    by_head [] e = with_trivia_blank []
    by_head (x ∷ xs) e = by_item x xs (from_item_item ts x xs e)

-- the leaf of the next item is a tree, if an item is left
pub tree_leaf : (k : SyntaxKind) (ts : List Token) → is_there (head_kind (items ts)) ≡ true → HasTree (without_trivia (leaf true k ts))
tree_leaf k ts h = by_head (from_item ts) refl (subst (λ (x : List Token). is_there (head_kind x) ≡ true) (items-view ts) h)
  where
    by_head : (xs : List Token) → from_item ts ≡ xs → is_there (head_kind (items_head xs)) ≡ true → HasTree (without_trivia (leaf_in k xs))
    by_head [] e h = absurd (true_is_not_false (sym h))
    by_head (x ∷ xs) e h = rw (from_item_item ts x xs e) tt

-- the first items as leaves have their trivia
pub with_trivia_run : (run ts us : List Token) → items ts ≡ run ++ us → HasTrivia (run_leaves true run ts) (from_item ts) (run_rest true run ts)
with_trivia_run run ts us e =
    let w = run_bared run ts us e in
    record { same = ap (λ x. with_trivia x (from_item ts)) w.same; remaining = ap (λ x. remaining_after x (from_item ts)) w.same }
