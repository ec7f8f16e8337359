-- A forest of items with its trivia.
use Rattle.std.proofs.Common.{◌≡◌, Bool, true, false, List, [], ◌∷◌, ◌++◌, refl, ap, sym, ◌∙◌, append_assoc}
use Rattle.rnix_kinds.specs.declared.kinds.SyntaxKind.{SyntaxKind, TheVariants.{TOKEN_IDENT, TOKEN_OR, NODE_IDENT, NODE_CUR_POS, NODE_ERROR}}
use Rattle.{rnix_kinds.specs.SyntaxKind.is_trivia, rnix_grammar.specs.AnnotatedForest.{Token, AnnotatedForest, blank, token, branch, fault, ◌⊕◌, tokens_in}}
use Rattle.rnix_grammar.specs.{AnnotatedForest.{without_trivia, token_if, leaf_kind_as, HaveLeafKinds}, Layout.{from_item_if, from_item, trivia_if}}
use Rattle.rnix_grammar.specs.Layout.{trivia_before, item_if, items, tail_of, is_last, trivia_after, rest_after, remaining_after, with_trivia}
use Rattle.rnix_proof_lemmas.proofs.{AnnotatedForestLemmas.tokens_two, Basics.true_is_not_false}

-- no trivia are before the tokens from the first item on
pub trivia-from_item : (ts : List Token) → trivia_before (from_item ts) ≡ blank
trivia-from_item [] = refl
trivia-from_item (t ∷ ts) = advance (trivia-from_item ts) (is_trivia t.kind) refl
  where
    advance : trivia_before (from_item ts) ≡ blank → (x : Bool) → is_trivia t.kind ≡ x → trivia_before (from_item_if x t ts (from_item ts)) ≡ blank
    advance ih true e = ih
    advance ih false e = ap (λ y. trivia_if y t (trivia_before ts)) e

-- skipping trivia twice is skipping them once
pub from_item-from_item : (ts : List Token) → from_item (from_item ts) ≡ from_item ts
from_item-from_item [] = refl
from_item-from_item (t ∷ ts) = advance (from_item-from_item ts) (is_trivia t.kind) refl
  where
    advance : from_item (from_item ts) ≡ from_item ts → (x : Bool) → is_trivia t.kind ≡ x
        → from_item (from_item_if x t ts (from_item ts)) ≡ from_item_if x t ts (from_item ts)
    advance ih true e = ih
    advance ih false e = ap (λ y. from_item_if y t ts (from_item ts)) e

-- the items, by the first of them
abbrev pub items_head : List Token → List Token
items_head [] = []
items_head (t ∷ ts) = t ∷ items ts

-- the items are the first item and those after it
pub items-view : (ts : List Token) → items ts ≡ items_head (from_item ts)
items-view [] = refl
items-view (t ∷ ts) =
    elim (is_trivia t.kind) as (λ x. item_if x t (items ts) ≡ items_head (from_item_if x t ts (from_item ts))) [ true ↦ items-view ts | false ↦ refl ]

-- skipping the trivia before the first item changes no items
pub items-from_item : (ts : List Token) → items (from_item ts) ≡ items ts
items-from_item ts = items-view (from_item ts) ∙ ap items_head (from_item-from_item ts) ∙ sym (items-view ts)

-- the items of two joined lists of tokens are those of both, joined
pub items-++ : (xs ys : List Token) → items (xs ++ ys) ≡ items xs ++ items ys
items-++ [] ys = refl
items-++ (x ∷ xs) ys =
    elim (is_trivia x.kind) as (λ z. item_if z x (items (xs ++ ys)) ≡ item_if z x (items xs)
    ++ items ys) [ true ↦ items-++ xs ys | false ↦ ap (λ z. x ∷ z) (items-++ xs ys) ]

-- an item is the first one of some tokens, and these items come after it
pub record IsFirst (t : Token) (us ts : List Token) : Type 0 where
  pub here : from_item ts ≡ t ∷ tail_of (from_item ts)
  pub item : is_trivia t.kind ≡ false
  pub remaining : items (tail_of (from_item ts)) ≡ us

-- if these tokens begin with an item, it is their first token, and the items after it are those of the rest
head_here : (xs : List Token) (t : Token) (us : List Token) → items_head xs ≡ t ∷ us → (xs ≡ t ∷ tail_of xs) × (items (tail_of xs) ≡ us)
head_here [] t us e = absurd (cc)
head_here (x ∷ xs) t us e =
    let same : x ≡ t = cc in
    let more : items xs ≡ us = cc in
    (ap (λ y. y ∷ xs) same, more)

-- the first item is no trivia
pub from_item_item : (ts : List Token) (t : Token) (us : List Token) → from_item ts ≡ t ∷ us → is_trivia t.kind ≡ false
from_item_item [] t us e = absurd (cc)
from_item_item (x ∷ xs) t us e = advance (from_item_item xs t us) (is_trivia x.kind) refl e
  where
    advance : (from_item xs ≡ t ∷ us → is_trivia t.kind ≡ false) → (y : Bool) → is_trivia x.kind ≡ y → from_item_if y x xs (from_item xs) ≡ t ∷ us
        → is_trivia t.kind ≡ false
    advance ih true h e = ih e
    advance ih false h e = let same : x ≡ t = cc in ap (λ z. is_trivia z.kind) (sym same) ∙ h

-- the first of the items has its place among the tokens
pub first_item : (t : Token) (us ts : List Token) → items ts ≡ t ∷ us → IsFirst t us ts
first_item t us ts e =
    let w = head_here (from_item ts) t us (sym (items-view ts) ∙ e) in
    record { here = w.0; item = from_item_item ts t (tail_of (from_item ts)) w.0; remaining = w.1 }

-- removing the trivia of two joined forests removes those of both
pub without_trivia-⊕ : (f g : AnnotatedForest) → without_trivia (f ⊕ g) ≡ without_trivia f ⊕ without_trivia g
without_trivia-⊕ blank g = refl
without_trivia-⊕ (token k t f) g =
    elim (is_trivia t.kind) as (λ x. token_if x k t (without_trivia (f ⊕ g)) ≡ token_if x k t (without_trivia f)
    ⊕ without_trivia g) [ true ↦ without_trivia-⊕ f g | false ↦ ap (token k t) (without_trivia-⊕ f g) ]
without_trivia-⊕ (branch k c f) g = ap (branch k (without_trivia c)) (without_trivia-⊕ f g)
without_trivia-⊕ (fault n c f) g = ap (fault n (without_trivia c)) (without_trivia-⊕ f g)

-- trivia alone leave an empty forest when they are removed
pub without_trivia-trivia : (ts : List Token) → without_trivia (trivia_before ts) ≡ blank
without_trivia-trivia [] = refl
without_trivia-trivia (t ∷ ts) = advance (without_trivia-trivia ts) (is_trivia t.kind) refl
  where
    advance : without_trivia (trivia_before ts) ≡ blank → (x : Bool) → is_trivia t.kind ≡ x → without_trivia (trivia_if x t (trivia_before ts)) ≡ blank
    advance ih true e = ap (λ y. token_if y t.kind t (without_trivia (trivia_before ts))) e ∙ ih
    advance ih false e = refl

-- trivia after a node leave an empty forest when they are removed
without_trivia-trivia_after : (x : Bool) (ts : List Token) → without_trivia (trivia_after x ts) ≡ blank
without_trivia-trivia_after true ts = without_trivia-trivia ts
without_trivia-trivia_after false ts = refl

-- removing trivia from a forest with trivia before it leaves that forest without its own
without_trivia-behind : (ts : List Token) (f : AnnotatedForest) → without_trivia (trivia_before ts ⊕ f) ≡ without_trivia f
without_trivia-behind ts f = without_trivia-⊕ (trivia_before ts) f ∙ ap (λ x. x ⊕ without_trivia f) (without_trivia-trivia ts)

-- the trivia after an error node of the nesting limit contain no items
pub items-rest_after : (x : Bool) (ts : List Token) → items (rest_after x ts) ≡ items ts
items-rest_after true ts = items-from_item ts
items-rest_after false ts = refl

-- removing the trivia of a forest with trivia gives the forest
pub record IsBared (f : AnnotatedForest) (ts us : List Token) : Type 0 where
  pub same : without_trivia (with_trivia f ts) ≡ f
  pub remaining : items (remaining_after f ts) ≡ us

-- a forest of the first items, with trivia added and removed again, is the same, and the other items follow it
pub bared : (f : AnnotatedForest) (ts us : List Token) → items ts ≡ tokens_in f ++ us → IsBared f ts us
bared blank ts us e = record { same = refl; remaining = e }
bared (token k t f) ts us e =
    let w : IsFirst t (tokens_in f ++ us) ts = first_item t (tokens_in f ++ us) ts e in
    let ih = bared f (tail_of (from_item ts)) us w.remaining in
    record {
      same = without_trivia-behind ts (token k t (with_trivia f (tail_of (from_item ts))))
          ∙ ap (λ x. token_if x k t (without_trivia (with_trivia f (tail_of (from_item ts))))) w.item ∙ ap (token k t) ih.same;
      remaining = ih.remaining;
    }
bared (branch k c f) ts us e =
    let inside = bared c (from_item ts) (tokens_in f ++ us) (items-from_item ts ∙ e ∙ append_assoc (tokens_in c) (tokens_in f) us) in
    let behind = bared f (remaining_after c (from_item ts)) us inside.remaining in
    record {
      same =
          without_trivia-behind ts (branch k (with_trivia c (from_item ts)) (with_trivia f (remaining_after c (from_item ts))))
          ∙ ap (λ x. branch k x (without_trivia (with_trivia f (remaining_after c (from_item ts))))) inside.same ∙ ap (branch k c) behind.same;
      remaining = behind.remaining;
    }
bared (fault n c f) ts us e =
    let inside = bared c (from_item ts) (tokens_in f ++ us) (items-from_item ts ∙ e ∙ append_assoc (tokens_in c) (tokens_in f) us) in
    let rest = remaining_after c (from_item ts) in
    let behind = bared f (rest_after (is_last n) rest) us (items-rest_after (is_last n) rest ∙ inside.remaining) in
    let later = with_trivia f (rest_after (is_last n) rest) in
    record {
      same =
          without_trivia-behind ts (fault n (with_trivia c (from_item ts)) (trivia_after (is_last n) rest ⊕ later))
          ∙ ap (λ x. fault n x (without_trivia (trivia_after (is_last n) rest ⊕ later))) inside.same
          ∙ ap (fault n c) (without_trivia-⊕ (trivia_after (is_last n) rest) later
          ∙ ap (λ x. x ⊕ without_trivia later) (without_trivia-trivia_after (is_last n) rest) ∙ behind.same);
      remaining = behind.remaining;
    }

-- the trivia before the first item and the tokens from it on are all tokens
pub trivia_tokens : (ts : List Token) → tokens_in (trivia_before ts) ++ from_item ts ≡ ts
trivia_tokens [] = refl
trivia_tokens (t ∷ ts) =
    elim (is_trivia t.kind) as (λ x. tokens_in (trivia_if x t (trivia_before ts)) ++ from_item_if x t ts (from_item ts) ≡ t ∷ ts)
    [ true ↦ ap (λ x. t ∷ x) (trivia_tokens ts) | false ↦ refl ]

-- the trivia after a node and the tokens after these are all tokens
rest_tokens : (x : Bool) (ts : List Token) → tokens_in (trivia_after x ts) ++ rest_after x ts ≡ ts
rest_tokens true ts = trivia_tokens ts
rest_tokens false ts = refl

-- a forest with the trivia before it and the tokens after it are all tokens
behind_trivia : (ts us : List Token) (f : AnnotatedForest) → tokens_in f ++ us ≡ from_item ts → tokens_in (trivia_before ts ⊕ f) ++ us ≡ ts
behind_trivia ts us f e = tokens_two (trivia_before ts) f us ∙ ap (λ x. tokens_in (trivia_before ts) ++ x) e ∙ trivia_tokens ts

-- the leaves of a forest with trivia, and the remaining tokens, are all tokens
pub with_trivia_tokens : (f : AnnotatedForest) (ts us : List Token) → items ts ≡ tokens_in f ++ us → tokens_in (with_trivia f ts) ++ remaining_after f ts ≡ ts
with_trivia_tokens blank ts us e = refl
with_trivia_tokens (token k t f) ts us e =
    let w : IsFirst t (tokens_in f ++ us) ts = first_item t (tokens_in f ++ us) ts e in
    let rest = tail_of (from_item ts) in
    behind_trivia ts (remaining_after f rest) (token k t (with_trivia f rest)) (ap (λ x. t ∷ x) (with_trivia_tokens f rest us w.remaining) ∙ sym w.here)
with_trivia_tokens (branch k c f) ts us e =
    let all : items (from_item ts) ≡ tokens_in c ++ (tokens_in f ++ us) = items-from_item ts ∙ e ∙ append_assoc (tokens_in c) (tokens_in f) us in
    let inside = bared c (from_item ts) (tokens_in f ++ us) all in
    let rest = remaining_after c (from_item ts) in
    behind_trivia ts (remaining_after f rest) (branch k (with_trivia c (from_item ts)) (with_trivia f rest))
    (append_assoc (tokens_in (with_trivia c (from_item ts))) (tokens_in (with_trivia f rest)) (remaining_after f rest)
    ∙ ap (λ x. tokens_in (with_trivia c (from_item ts)) ++ x) (with_trivia_tokens f rest us inside.remaining)
    ∙ with_trivia_tokens c (from_item ts) (tokens_in f ++ us) all)
with_trivia_tokens (fault n c f) ts us e =
    let all : items (from_item ts) ≡ tokens_in c ++ (tokens_in f ++ us) = items-from_item ts ∙ e ∙ append_assoc (tokens_in c) (tokens_in f) us in
    let inside = bared c (from_item ts) (tokens_in f ++ us) all in
    let rest = remaining_after c (from_item ts) in
    let later = rest_after (is_last n) rest in
    behind_trivia ts (remaining_after f later) (fault n (with_trivia c (from_item ts)) (trivia_after (is_last n) rest ⊕ with_trivia f later))
    (append_assoc (tokens_in (with_trivia c (from_item ts))) (tokens_in (trivia_after (is_last n) rest ⊕ with_trivia f later)) (remaining_after f later)
    ∙ ap (λ x. tokens_in (with_trivia c (from_item ts)) ++ x)
    (tokens_two (trivia_after (is_last n) rest) (with_trivia f later) (remaining_after f later)
    ∙ ap (λ x. tokens_in (trivia_after (is_last n) rest) ++ x) (with_trivia_tokens f later us (items-rest_after (is_last n) rest ∙ inside.remaining))
    ∙ rest_tokens (is_last n) rest)
    ∙ with_trivia_tokens c (from_item ts) (tokens_in f ++ us) all)

-- if no item is left, no token is left from the first item on
pub nothing_from : (xs : List Token) → items_head xs ≡ [] → xs ≡ []
nothing_from [] h = refl
nothing_from (t ∷ ts) h = absurd (cc)

-- trivia keep their kinds below a name
trivia_name : (k : SyntaxKind) → is_trivia k ≡ true → k ≡ leaf_kind_as NODE_IDENT k
trivia_name TOKEN_OR h = absurd (true_is_not_false (sym h))
trivia_name _ h = cc

-- below `__curPos` too
trivia_leaf_kind : (k : SyntaxKind) → is_trivia k ≡ true → k ≡ leaf_kind_as NODE_CUR_POS k
trivia_leaf_kind TOKEN_IDENT h = absurd (true_is_not_false (sym h))
trivia_leaf_kind _ h = refl

-- trivia keep their kinds below any parent
pub trivia_keeps_kind : (p k : SyntaxKind) → is_trivia k ≡ true → k ≡ leaf_kind_as p k
trivia_keeps_kind NODE_IDENT k h = trivia_name k h
trivia_keeps_kind NODE_CUR_POS k h = trivia_leaf_kind k h
trivia_keeps_kind _ k h = refl

-- if the leaves of two forests have their kinds below a parent, so have those of both joined
pub leaf_kind-⊕ : (p : SyntaxKind) (f g : AnnotatedForest) → HaveLeafKinds p f → HaveLeafKinds p g → HaveLeafKinds p (f ⊕ g)
leaf_kind-⊕ p blank g h k = k
leaf_kind-⊕ p (token j t f) g h k = (h.0, leaf_kind-⊕ p f g h.1 k)
leaf_kind-⊕ p (branch j c f) g h k = (h.0, leaf_kind-⊕ p f g h.1 k)
leaf_kind-⊕ p (fault n c f) g h k = (h.0, leaf_kind-⊕ p f g h.1 k)

-- trivia before a node keep their kinds below any parent
pub trivia_leaf_kinds : (p : SyntaxKind) (ts : List Token) → HaveLeafKinds p (trivia_before ts)
trivia_leaf_kinds p [] = tt
trivia_leaf_kinds p (t ∷ ts) = advance (trivia_leaf_kinds p ts) (is_trivia t.kind) refl
  where
    advance : HaveLeafKinds p (trivia_before ts) → (x : Bool) → is_trivia t.kind ≡ x → HaveLeafKinds p (trivia_if x t (trivia_before ts))
    advance ih true e = (trivia_keeps_kind p t.kind e, ih)
    advance ih false e = tt

-- trivia after a node keep their kinds below any parent
trivia_after_leaf_kinds : (p : SyntaxKind) (x : Bool) (ts : List Token) → HaveLeafKinds p (trivia_after x ts)
trivia_after_leaf_kinds p true ts = trivia_leaf_kinds p ts
trivia_after_leaf_kinds p false ts = tt

-- if the leaves of a forest have their kinds, so have those of the forest with trivia
pub with_trivia_leaf_kinds : (p : SyntaxKind) (f : AnnotatedForest) (ts : List Token) → HaveLeafKinds p f → HaveLeafKinds p (with_trivia f ts)
with_trivia_leaf_kinds p blank ts h = tt
with_trivia_leaf_kinds p (token k t f) ts h =
    leaf_kind-⊕ p (trivia_before ts) (token k t (with_trivia f (tail_of (from_item ts)))) (trivia_leaf_kinds p ts)
    (h.0, with_trivia_leaf_kinds p f (tail_of (from_item ts)) h.1)
with_trivia_leaf_kinds p (branch k c f) ts h =
    leaf_kind-⊕ p (trivia_before ts) (branch k (with_trivia c (from_item ts)) (with_trivia f (remaining_after c (from_item ts)))) (trivia_leaf_kinds p ts)
    (with_trivia_leaf_kinds k c (from_item ts) h.0, with_trivia_leaf_kinds p f (remaining_after c (from_item ts)) h.1)
with_trivia_leaf_kinds p (fault n c f) ts h =
    let rest = remaining_after c (from_item ts) in
    let later = with_trivia f (rest_after (is_last n) rest) in
    leaf_kind-⊕ p (trivia_before ts) (fault n (with_trivia c (from_item ts)) (trivia_after (is_last n) rest ⊕ later)) (trivia_leaf_kinds p ts) (
      with_trivia_leaf_kinds NODE_ERROR c (from_item ts) h.0,
      leaf_kind-⊕ p (trivia_after (is_last n) rest) later (trivia_after_leaf_kinds p (is_last n) rest)
          (with_trivia_leaf_kinds p f (rest_after (is_last n) rest) h.1),
    )
