-- If the nodes of trees begin and end with items, the trivia are where a reading puts them.
use Rattle.std.proofs.Common.{◌≡◌, Bool, true, false, List, [], ◌∷◌, ◌++◌, refl, ap, sym, ◌∙◌, subst, append_assoc}
use Rattle.rnix_kinds.specs.declared.kinds.SyntaxKind.{SyntaxKind}
use Rattle.rnix_kinds.specs.SyntaxKind.{is_trivia}
use Rattle.rnix_grammar.specs.AnnotatedForest.{Token, AnnotatedForest, blank, token, branch, fault, ◌⊕◌, tokens_in, leaf_kind, HaveLeafKinds}
use Rattle.rnix_grammar.specs.AnnotatedForest.{without_trivia, token_if}
use Rattle.rnix_grammar.specs.Layout.{from_item, from_item_if, trivia_before, trivia_if, tail_of, items, item_if, is_last, trivia_after, rest_after}
use Rattle.rnix_grammar.specs.Layout.{remaining_after, with_trivia, with_all_trivia}
use Rattle.rnix_proof_lemmas.proofs.Basics.{true_is_not_false, not_nil}
use Rattle.rnix_proof_lemmas.proofs.LayoutLemmas.{trivia_keeps_kind}
use Rattle.rnix_proof_lemmas.proofs.ReportLemmas.{without_trivia_tokens}

-- the tokens begin with an item
abbrev pub StartsWithItem : List Token → Type 0
StartsWithItem [] = ⊥
StartsWithItem (t ∷ ts) = is_trivia t.kind ≡ false

-- the tokens are empty or end with an item
abbrev pub StopsWithItem : List Token → Type 0
StopsWithItem [] = Unit {0}
StopsWithItem (t ∷ []) = is_trivia t.kind ≡ false
StopsWithItem (t ∷ (u ∷ ts)) = StopsWithItem (u ∷ ts)

-- each node of a forest begins and ends with items
abbrev pub HaveItemEdges : AnnotatedForest → Type 0
HaveItemEdges blank = Unit {0}
HaveItemEdges (token k t f) = HaveItemEdges f
HaveItemEdges (branch k c f) = StartsWithItem (tokens_in c) × StopsWithItem (tokens_in c) × HaveItemEdges c × HaveItemEdges f
HaveItemEdges (fault n c f) = ⊥

-- the rest of tokens that end with an item ends with an item
stops_behind : (t : Token) (ts : List Token) → StopsWithItem (t ∷ ts) → StopsWithItem ts
stops_behind t [] h = tt
stops_behind t (u ∷ ts) h = h

pub stops_second : (ts us : List Token) → StopsWithItem (ts ++ us) → StopsWithItem us
stops_second [] us h = h
stops_second (t ∷ ts) us h = stops_second ts us (stops_behind t (ts ++ us) h)

-- whether the first token is an item or trivia
item_first : (t : Token) (ts : List Token) → is_trivia t.kind ≡ false → (trivia_before (t ∷ ts) ≡ blank) × (from_item (t ∷ ts) ≡ t ∷ ts)
item_first t ts e = (ap (λ b. trivia_if b t (trivia_before ts)) e, ap (λ b. from_item_if b t ts (from_item ts)) e)

trivia_first : (t : Token) (ts : List Token) → is_trivia t.kind ≡ true
    → (trivia_before (t ∷ ts) ≡ token t.kind t (trivia_before ts)) × (from_item (t ∷ ts) ≡ from_item ts)
trivia_first t ts e = (ap (λ b. trivia_if b t (trivia_before ts)) e, ap (λ b. from_item_if b t ts (from_item ts)) e)

starts_first : (ts us : List Token) → StartsWithItem ts → (trivia_before (ts ++ us) ≡ blank) × (from_item (ts ++ us) ≡ ts ++ us)
starts_first [] us h = absurd h
starts_first (t ∷ ts) us h = item_first t (ts ++ us) h

-- tokens that end with an item contain one
some_items : (t : Token) (ts : List Token) → StopsWithItem (t ∷ ts) → items (t ∷ ts) ≡ [] → ⊥
some_items t [] h e = not_nil (sym (ap (λ b. item_if b t []) h) ∙ e)
some_items t (u ∷ ts) h e = by (is_trivia t.kind) refl (some_items u ts h)
  where
    by : (b : Bool) → is_trivia t.kind ≡ b → (items (u ∷ ts) ≡ [] → ⊥) → ⊥
    by true i more = more (sym (ap (λ b. item_if b t (items (u ∷ ts))) i) ∙ e)
    by false i more = not_nil (sym (ap (λ b. item_if b t (items (u ∷ ts))) i) ∙ e)

-- a leaf of trivia has its token's kind
trivia_leaf : (p k : SyntaxKind) (t : Token) → k ≡ leaf_kind p t → is_trivia t.kind ≡ true → t.kind ≡ k
trivia_leaf p k t e i = trivia_keeps_kind p t.kind i ∙ sym e

-- trees are not empty, so the trivia before them come first
abbrev IsSome : AnnotatedForest → Type 0
IsSome blank = ⊥
IsSome f = Unit {0}

behind_trivia : (g : AnnotatedForest) → IsSome g → (t : Token) (ts : List Token) → is_trivia t.kind ≡ true
    → (with_trivia g (t ∷ ts) ≡ token t.kind t (with_trivia g ts)) × (remaining_after g (t ∷ ts) ≡ remaining_after g ts)
behind_trivia blank s t ts e = absurd s
behind_trivia (token k x f) s t ts e =
    let w = trivia_first t ts e in (
      ap (λ z. z ⊕ token k x (with_trivia f (tail_of (from_item (t ∷ ts))))) w.0
          ∙ ap (λ z. token t.kind t (trivia_before ts ⊕ token k x (with_trivia f (tail_of z)))) w.1,
      ap (λ z. remaining_after f (tail_of z)) w.1,
    )
behind_trivia (branch k c f) s t ts e =
    let w = trivia_first t ts e in (
      ap (λ z. z ⊕ branch k (with_trivia c (from_item (t ∷ ts))) (with_trivia f (remaining_after c (from_item (t ∷ ts))))) w.0
          ∙ ap (λ z. token t.kind t (trivia_before ts ⊕ branch k (with_trivia c z) (with_trivia f (remaining_after c z)))) w.1,
      ap (λ z. remaining_after f (remaining_after c z)) w.1,
    )
behind_trivia (fault n c f) s t ts e =
    let w = trivia_first t ts e in (
      ap (λ z. z ⊕ fault n (with_trivia c (from_item (t ∷ ts))) (trivia_after (is_last n) (remaining_after c (from_item (t ∷ ts)))
          ⊕ with_trivia f (rest_after (is_last n) (remaining_after c (from_item (t ∷ ts)))))) w.0
          ∙ ap (λ z. token t.kind t (trivia_before ts ⊕ fault n (with_trivia c z) (trivia_after (is_last n) (remaining_after c z)
          ⊕ with_trivia f (rest_after (is_last n) (remaining_after c z))))) w.1,
      ap (λ z. remaining_after f (rest_after (is_last n) (remaining_after c z))) w.1,
    )

all_behind_trivia : (g : AnnotatedForest) (t : Token) (ts : List Token) → is_trivia t.kind ≡ true
    → with_all_trivia g (t ∷ ts) ≡ token t.kind t (with_all_trivia g ts)
all_behind_trivia blank t ts e = (trivia_first t ts e).0
all_behind_trivia (token k x f) t ts e =
    let w = behind_trivia (token k x f) tt t ts e in
    ap (λ z. z ⊕ trivia_before (remaining_after (token k x f) (t ∷ ts))) w.0
    ∙ ap (λ z. token t.kind t (with_trivia (token k x f) ts) ⊕ trivia_before z) w.1
all_behind_trivia (branch k c f) t ts e =
    let w = behind_trivia (branch k c f) tt t ts e in
    ap (λ z. z ⊕ trivia_before (remaining_after (branch k c f) (t ∷ ts))) w.0
    ∙ ap (λ z. token t.kind t (with_trivia (branch k c f) ts) ⊕ trivia_before z) w.1
all_behind_trivia (fault n c f) t ts e =
    let w = behind_trivia (fault n c f) tt t ts e in
    ap (λ z. z ⊕ trivia_before (remaining_after (fault n c f) (t ∷ ts))) w.0
    ∙ ap (λ z. token t.kind t (with_trivia (fault n c f) ts) ⊕ trivia_before z) w.1

-- an item, or a node that begins with one, has no trivia before it
item_placed : (k : SyntaxKind) (t : Token) (g : AnnotatedForest) (ts : List Token) → is_trivia t.kind ≡ false
    → (with_trivia (token k t g) (t ∷ ts) ≡ token k t (with_trivia g ts)) × (remaining_after (token k t g) (t ∷ ts) ≡ remaining_after g ts)
item_placed k t g ts e =
    let w = item_first t ts e in (
      ap (λ z. z ⊕ token k t (with_trivia g (tail_of (from_item (t ∷ ts))))) w.0 ∙ ap (λ z. token k t (with_trivia g (tail_of z))) w.1,
      ap (λ z. remaining_after g (tail_of z)) w.1,
    )

node_placed : (k : SyntaxKind) (c f : AnnotatedForest) (ts : List Token) → (trivia_before ts ≡ blank) × (from_item ts ≡ ts)
    → (with_trivia (branch k c f) ts ≡ branch k (with_trivia c ts) (with_trivia f (remaining_after c ts))) ×
    (remaining_after (branch k c f) ts ≡ remaining_after f (remaining_after c ts))
node_placed k c f ts w = (
  ap (λ z. z ⊕ branch k (with_trivia c (from_item ts)) (with_trivia f (remaining_after c (from_item ts)))) w.0
      ∙ ap (λ z. branch k (with_trivia c z) (with_trivia f (remaining_after c z))) w.1,
  ap (λ z. remaining_after f (remaining_after c z)) w.1,
)

-- a forest that ends with an item gets back its own trivia, whatever follows it
abbrev IsPlaced : AnnotatedForest → AnnotatedForest → List Token → List Token → Type 0
IsPlaced f g ts us = (with_trivia g ts ≡ f) × (remaining_after g ts ≡ us)

row_placed : (p : SyntaxKind) (f : AnnotatedForest) (us : List Token) → HaveLeafKinds p f → HaveItemEdges f → StopsWithItem (tokens_in f)
    → IsPlaced f (without_trivia f) (tokens_in f ++ us) us
row_placed p blank us l e h = (refl, refl)
row_placed p (fault n c f) us l e h = absurd e
row_placed p (token k t f) us l e h = by (is_trivia t.kind) refl (row_placed p f us l.1 e (stops_behind t (tokens_in f) h))
  where
    some : (g : AnnotatedForest) → is_trivia t.kind ≡ true → (ts : List Token) → StopsWithItem (t ∷ ts) → tokens_in g ≡ items ts → IsSome g
    some blank i [] s same = absurd (true_is_not_false (sym i ∙ s))
    some blank i (u ∷ ts) s same = absurd (some_items u ts s (sym same))
    some (token j x g) i ts s same = tt
    some (branch j c g) i ts s same = tt
    some (fault j c g) i ts s same = tt

    by : (b : Bool) → is_trivia t.kind ≡ b → IsPlaced f (without_trivia f) (tokens_in f ++ us) us
        → IsPlaced (token k t f) (without_trivia (token k t f)) (t ∷ (tokens_in f ++ us)) us
    by true i ih =
        let w = behind_trivia (without_trivia f) (some (without_trivia f) i (tokens_in f) h (without_trivia_tokens f)) t (tokens_in f ++ us) i in
        subst (λ (g : AnnotatedForest). IsPlaced (token k t f) g (t ∷ (tokens_in f ++ us)) us) (sym (ap (λ b. token_if b k t (without_trivia f)) i))
        (w.0 ∙ ap (token t.kind t) ih.0 ∙ ap (λ j. token j t f) (trivia_leaf p k t l.0 i), w.1 ∙ ih.1)
    by false i ih =
        let w = item_placed k t (without_trivia f) (tokens_in f ++ us) i in
        subst (λ (g : AnnotatedForest). IsPlaced (token k t f) g (t ∷ (tokens_in f ++ us)) us) (sym (ap (λ b. token_if b k t (without_trivia f)) i))
        (w.0 ∙ ap (token k t) ih.0, w.1 ∙ ih.1)
row_placed p (branch k c f) us l e h =
    let ts : List Token = tokens_in c ++ (tokens_in f ++ us) in
    let inside = row_placed k c (tokens_in f ++ us) l.0 e.2 e.1 in
    let behind = row_placed p f us l.1 e.3 (stops_second (tokens_in c) (tokens_in f) h) in
    let w = node_placed k (without_trivia c) (without_trivia f) ts (starts_first (tokens_in c) (tokens_in f ++ us) e.0) in
    subst (λ (z : List Token). IsPlaced (branch k c f) (branch k (without_trivia c) (without_trivia f)) z us)
    (sym (append_assoc (tokens_in c) (tokens_in f) us)) (
      w.0 ∙ ap (λ x. branch k x (with_trivia (without_trivia f) (remaining_after (without_trivia c) ts))) inside.0
          ∙ ap (λ z. branch k c (with_trivia (without_trivia f) z)) inside.1 ∙ ap (branch k c) behind.0,
      w.1 ∙ ap (remaining_after (without_trivia f)) inside.1 ∙ behind.1,
    )

-- a whole forest gets back its own trivia
pub placed_again : (p : SyntaxKind) (f : AnnotatedForest) → HaveLeafKinds p f → HaveItemEdges f → with_all_trivia (without_trivia f) (tokens_in f) ≡ f
placed_again p blank l e = refl
placed_again p (fault n c f) l e = absurd e
placed_again p (token k t f) l e = by (is_trivia t.kind) refl (placed_again p f l.1 e)
  where
    by : (b : Bool) → is_trivia t.kind ≡ b → with_all_trivia (without_trivia f) (tokens_in f) ≡ f
        → with_all_trivia (without_trivia (token k t f)) (t ∷ tokens_in f) ≡ token k t f
    by true i ih =
        ap (λ b. with_all_trivia (token_if b k t (without_trivia f)) (t ∷ tokens_in f)) i ∙ all_behind_trivia (without_trivia f) t (tokens_in f) i
        ∙ ap (token t.kind t) ih ∙ ap (λ j. token j t f) (trivia_leaf p k t l.0 i)
    by false i ih =
        let w = item_placed k t (without_trivia f) (tokens_in f) i in
        ap (λ b. with_all_trivia (token_if b k t (without_trivia f)) (t ∷ tokens_in f)) i
        ∙ ap (λ z. z ⊕ trivia_before (remaining_after (token k t (without_trivia f)) (t ∷ tokens_in f))) w.0
        ∙ ap (λ z. token k t (with_trivia (without_trivia f) (tokens_in f)) ⊕ trivia_before z) w.1 ∙ ap (token k t) ih
placed_again p (branch k c f) l e =
    let ts : List Token = tokens_in c ++ tokens_in f in
    let inside = row_placed k c (tokens_in f) l.0 e.2 e.1 in
    let w = node_placed k (without_trivia c) (without_trivia f) ts (starts_first (tokens_in c) (tokens_in f) e.0) in
    ap (λ z. z ⊕ trivia_before (remaining_after (branch k (without_trivia c) (without_trivia f)) ts)) w.0
    ∙ ap (λ z. branch k (with_trivia (without_trivia c) ts) (with_trivia (without_trivia f) (remaining_after (without_trivia c) ts)) ⊕ trivia_before z) w.1
    ∙ ap (λ x. branch k x (with_trivia (without_trivia f) (remaining_after (without_trivia c) ts)
    ⊕ trivia_before (remaining_after (without_trivia f) (remaining_after (without_trivia c) ts)))) inside.0
    ∙ ap (λ z. branch k c (with_trivia (without_trivia f) z ⊕ trivia_before (remaining_after (without_trivia f) z))) inside.1
    ∙ ap (branch k c) (placed_again p f l.1 e.3)
