-- A forest that is given trivia from an item on begins and ends with items, both as annotated and as trees.
use Rattle.std.proofs.Common.{◌≡◌, Bool, true, false, List, [], ◌∷◌, ◌++◌, refl, ap, sym, ◌∙◌, subst, append_assoc}
use Rattle.rnix_kinds.specs.declared.kinds.SyntaxKind.{SyntaxKind, TheVariants.{TOKEN_IDENT, TOKEN_OR, NODE_IDENT, NODE_CUR_POS, NODE_ERROR}}
use Rattle.{rnix_kinds.specs.SyntaxKind.is_trivia, rnix_grammar.specs.AnnotatedForest.{Token, AnnotatedForest, blank, token, branch, fault, ◌⊕◌, tokens_in}}
use Rattle.rnix_grammar.specs.{AnnotatedForest.{forget, leaf_kind_as, HaveLeafKinds}, Layout.{from_item, from_item_if, tail_of, items, trivia_if}}
use Rattle.rnix_grammar.specs.{Layout.{trivia_before, is_last, trivia_after, rest_after, remaining_after, with_trivia}, Trim.{BeginsWithItem, EndsWithItem}}
use Rattle.{rnix_grammar.specs.Trim.{leaf_kinds, token_kinds, AreFaultsTrimmed, AreNodesTrimmed}, rnix_proof_lemmas.proofs.LayoutLemmas.{IsFirst, first_item}}
use Rattle.rnix_proof_lemmas.proofs.{LayoutLemmas.{IsBared, bared, items-from_item, items-rest_after, with_trivia_tokens}, EdgeLemmas.{IsSome, some}}
use Rattle.rnix_proof_lemmas.proofs.EdgeLemmas.{some_before, some_behind, ends_behind, ends_both, begins_part, token_kinds-++, kinds_in, kinds_in-⊕}
use Rattle.{rnix_proof_lemmas.proofs.EdgeLemmas.{faults_trimmed-⊕, faults_trimmed_trivia}, rnix_proof_rows.proofs.AttachTriviaLemmas.HasTree}
use Rattle.rnix_proof_rows.proofs.{ReadsFilled.{AreFilled, AreFaultsFilled, rows_filled}, ReadsShapes.AreErrorFreeRows}

-- a forest begins and ends with items, or is empty
abbrev IsEdged : AnnotatedForest → Type 0
IsEdged f = BeginsWithItem (kinds_in f) × EndsWithItem (kinds_in f)

-- so does each node of a forest, and none is an error node
abbrev pub AreEdged : AnnotatedForest → Type 0
AreEdged blank = Unit {0}
AreEdged (token k t f) = AreEdged f
AreEdged (branch k c f) = IsEdged c × AreEdged c × AreEdged f
AreEdged (fault n c f) = ⊥

-- without trivia, the children of a node are its items, and the other items follow
inside : (c f : AnnotatedForest) (ts us : List Token) → items ts ≡ (tokens_in c ++ tokens_in f) ++ us → IsBared c (from_item ts) (tokens_in f ++ us)
inside c f ts us e = bared c (from_item ts) (tokens_in f ++ us) (items-from_item ts ∙ e ∙ append_assoc (tokens_in c) (tokens_in f) us)

-- from the first item on, tokens begin with it
begins_item : (ts : List Token) → BeginsWithItem (token_kinds (from_item ts))
begins_item [] = tt
begins_item (t ∷ ts) = by (is_trivia t.kind) refl (begins_item ts)
  where
    by : (x : Bool) → is_trivia t.kind ≡ x → BeginsWithItem (token_kinds (from_item ts)) → BeginsWithItem (token_kinds (from_item_if x t ts (from_item ts)))
    by true e h = h
    by false e h = e

-- a nonempty forest with its trivia contains a token and ends with an item
record IsEnded (f g : AnnotatedForest) : Type 0 where
  pub some : HasTree f → IsSome (kinds_in g)
  pub ends : EndsWithItem (kinds_in g)

-- this holds after trivia, for a tree and the trees after it
ended_behind : (ts : List Token) (f x : AnnotatedForest) (js ks : List SyntaxKind) → kinds_in x ≡ js ++ ks → IsSome js → EndsWithItem js → EndsWithItem ks
    → IsEnded f (trivia_before ts ⊕ x)
ended_behind ts f x js ks e s h j =
    let all : kinds_in (trivia_before ts ⊕ x) ≡ kinds_in (trivia_before ts) ++ (js ++ ks) =
    kinds_in-⊕ (trivia_before ts) x ∙ ap (λ z. kinds_in (trivia_before ts) ++ z) e in
    let more : IsSome (js ++ ks) = some_before js ks s in
    record {
      some = λ t. subst IsSome (sym all) (some_behind (kinds_in (trivia_before ts)) (js ++ ks) more);
      ends = subst EndsWithItem (sym all) (ends_behind (kinds_in (trivia_before ts)) (js ++ ks) more (ends_both js ks h j));
    }

ended_trees : (f : AnnotatedForest) (ts us : List Token) → items ts ≡ tokens_in f ++ us → AreFilled f → IsEnded f (with_trivia f ts)
ended_trees blank ts us e h = record { some = λ t. absurd t; ends = tt }
ended_trees (token k x f) ts us e h =
    let w : IsFirst x (tokens_in f ++ us) ts = first_item x (tokens_in f ++ us) ts e in
    let rest : List Token = tail_of (from_item ts) in
    ended_behind ts (token k x f) (token k x (with_trivia f rest)) (x.kind ∷ []) (kinds_in (with_trivia f rest)) refl (some x.kind []) w.item
    (ended_trees f rest us w.remaining h).ends
ended_trees (branch k c f) ts us e h =
    let d : AnnotatedForest = with_trivia c (from_item ts) in
    let rest : List Token = remaining_after c (from_item ts) in
    let below = ended_trees c (from_item ts) (tokens_in f ++ us) (items-from_item ts ∙ e ∙ append_assoc (tokens_in c) (tokens_in f) us) h.1 in
    ended_behind ts (branch k c f) (branch k d (with_trivia f rest)) (kinds_in d) (kinds_in (with_trivia f rest))
    (token_kinds-++ (tokens_in d) (tokens_in (with_trivia f rest)))
    (below.some h.0) below.ends (ended_trees f rest us (inside c f ts us e).remaining h.2).ends
ended_trees (fault n c f) ts us e h =
    let d : AnnotatedForest = with_trivia c (from_item ts) in
    let rest : List Token = remaining_after c (from_item ts) in
    let below = ended_trees c (from_item ts) (tokens_in f ++ us) (items-from_item ts ∙ e ∙ append_assoc (tokens_in c) (tokens_in f) us) h.2 in
    subst (λ (z : Bool). IsEnded (fault n c f) (trivia_before ts ⊕ fault n d (trivia_after z rest ⊕ with_trivia f (rest_after z rest)))) (sym h.0)
    (ended_behind ts (fault n c f) (fault n d (with_trivia f rest)) (kinds_in d) (kinds_in (with_trivia f rest))
    (token_kinds-++ (tokens_in d) (tokens_in (with_trivia f rest)))
    (below.some h.1) below.ends (ended_trees f rest us (inside c f ts us e).remaining h.3).ends)

-- a forest that is given trivia from an item on begins and ends with items
edged_from : (f : AnnotatedForest) (ts us : List Token) → items ts ≡ tokens_in f ++ us → AreFilled f → IsEdged (with_trivia f (from_item ts))
edged_from f ts us e h =
    let own : items (from_item ts) ≡ tokens_in f ++ us = items-from_item ts ∙ e in
    let g : AnnotatedForest = with_trivia f (from_item ts) in
    let all : token_kinds (from_item ts) ≡ kinds_in g ++ token_kinds (remaining_after f (from_item ts)) =
    ap token_kinds (sym (with_trivia_tokens f (from_item ts) us own)) ∙ token_kinds-++ (tokens_in g) (remaining_after f (from_item ts)) in (
      begins_part (kinds_in g) (token_kinds (remaining_after f (from_item ts))) (subst BeginsWithItem all (begins_item ts)),
      (ended_trees f (from_item ts) us own h).ends,
    )

-- if the nodes of two forests begin and end with items, so do those of both joined
pub edged-⊕ : (f g : AnnotatedForest) → AreEdged f → AreEdged g → AreEdged (f ⊕ g)
edged-⊕ blank g h j = j
edged-⊕ (token k t f) g h j = edged-⊕ f g h j
edged-⊕ (branch k c f) g h j = (h.0, h.1, edged-⊕ f g h.2 j)
edged-⊕ (fault n c f) g h j = absurd h

-- trivia have no nodes
pub edged_trivia : (ts : List Token) → AreEdged (trivia_before ts)
edged_trivia [] = tt
edged_trivia (t ∷ ts) = elim (is_trivia t.kind) as (λ x. AreEdged (trivia_if x t (trivia_before ts))) [ true ↦ edged_trivia ts | false ↦ tt ]

-- if the children of each node are a row, each node begins and ends with items
pub with_trivia_edged : (f : AnnotatedForest) (ts us : List Token) → items ts ≡ tokens_in f ++ us → AreErrorFreeRows f → AreEdged (with_trivia f ts)
with_trivia_edged blank ts us e h = tt
with_trivia_edged (token k x f) ts us e h =
    let rest : List Token = tail_of (from_item ts) in
    edged-⊕ (trivia_before ts) (token k x (with_trivia f rest)) (edged_trivia ts) (with_trivia_edged f rest us (first_item x (tokens_in f
    ++ us) ts e).remaining h)
with_trivia_edged (branch k c f) ts us e h =
    let all : items ts ≡ tokens_in c ++ (tokens_in f ++ us) = e ∙ append_assoc (tokens_in c) (tokens_in f) us in
    let rest : List Token = remaining_after c (from_item ts) in
    edged-⊕ (trivia_before ts) (branch k (with_trivia c (from_item ts)) (with_trivia f rest)) (edged_trivia ts) (
      edged_from c ts (tokens_in f ++ us) all (rows_filled c h.2),
      with_trivia_edged c (from_item ts) (tokens_in f ++ us) (items-from_item ts ∙ all) h.2,
      with_trivia_edged f rest us (inside c f ts us e).remaining h.3,
    )
with_trivia_edged (fault n c f) ts us e h = absurd h

-- trivia after an error node of the nesting limit contain no error nodes
trimmed_after : (z : Bool) (ts : List Token) → AreFaultsTrimmed (trivia_after z ts)
trimmed_after true ts = faults_trimmed_trivia ts
trimmed_after false ts = tt

-- no error node of a forest with its trivia begins or ends with trivia
pub with_trivia_trimmed : (f : AnnotatedForest) (ts us : List Token) → items ts ≡ tokens_in f ++ us → AreFaultsFilled f → AreFaultsTrimmed (with_trivia f ts)
with_trivia_trimmed blank ts us e h = tt
with_trivia_trimmed (token k x f) ts us e h =
    let rest : List Token = tail_of (from_item ts) in
    faults_trimmed-⊕ (trivia_before ts) (token k x (with_trivia f rest)) (faults_trimmed_trivia ts)
    (with_trivia_trimmed f rest us (first_item x (tokens_in f ++ us) ts e).remaining h)
with_trivia_trimmed (branch k c f) ts us e h =
    let all : items ts ≡ tokens_in c ++ (tokens_in f ++ us) = e ∙ append_assoc (tokens_in c) (tokens_in f) us in
    let rest : List Token = remaining_after c (from_item ts) in
    faults_trimmed-⊕ (trivia_before ts) (branch k (with_trivia c (from_item ts)) (with_trivia f rest)) (faults_trimmed_trivia ts)
    (with_trivia_trimmed c (from_item ts) (tokens_in f ++ us) (items-from_item ts ∙ all) h.0, with_trivia_trimmed f rest us (inside c f ts us e).remaining h.1)
with_trivia_trimmed (fault n c f) ts us e h =
    let all : items ts ≡ tokens_in c ++ (tokens_in f ++ us) = e ∙ append_assoc (tokens_in c) (tokens_in f) us in
    let rest : List Token = remaining_after c (from_item ts) in
    let later : List Token = rest_after (is_last n) rest in
    let edges = edged_from c ts (tokens_in f ++ us) all h.0 in
    faults_trimmed-⊕ (trivia_before ts) (fault n (with_trivia c (from_item ts)) (trivia_after (is_last n) rest ⊕ with_trivia f later))
    (faults_trimmed_trivia ts) (
      edges.0,
      edges.1,
      with_trivia_trimmed c (from_item ts) (tokens_in f ++ us) (items-from_item ts ∙ all) h.1,
      faults_trimmed-⊕ (trivia_after (is_last n) rest) (with_trivia f later) (trimmed_after (is_last n) rest)
          (with_trivia_trimmed f later us (items-rest_after (is_last n) rest ∙ (inside c f ts us e).remaining) h.2),
    )

-- two lists of kinds have trivia at the same places
data AreAlike : List SyntaxKind → List SyntaxKind → Type 0 where
  none : AreAlike [] []
  both : {j k : SyntaxKind} {js ks : List SyntaxKind} → is_trivia j ≡ is_trivia k → AreAlike js ks → AreAlike (j ∷ js) (k ∷ ks)

-- if two pairs of lists do, so do the joined lists
alike-++ : {js ks ls ms : List SyntaxKind} → AreAlike js ks → AreAlike ls ms → AreAlike (js ++ ls) (ks ++ ms)
alike-++ none i = i
alike-++ (both e h) i = both e (alike-++ h i)

-- such lists both begin with an item, or neither does; and both end with one, or neither does
begins_alike : {js ks : List SyntaxKind} → AreAlike js ks → BeginsWithItem ks → BeginsWithItem js
begins_alike none b = tt
begins_alike (both e h) b = e ∙ b

ends_alike : {js ks : List SyntaxKind} → AreAlike js ks → EndsWithItem ks → EndsWithItem js
ends_alike none b = tt
ends_alike (both e none) b = e ∙ b
ends_alike (both e (both {j = j} {k = k} f h)) b = ends_alike (both {j = j} {k = k} f h) b

-- below a name, a leaf is trivia exactly if its token is
name_alike : (k : SyntaxKind) → is_trivia (leaf_kind_as NODE_IDENT k) ≡ is_trivia k
name_alike TOKEN_OR = refl
name_alike _ = refl

-- below `__curPos` too
trivia_alike : (k : SyntaxKind) → is_trivia (leaf_kind_as NODE_CUR_POS k) ≡ is_trivia k
trivia_alike TOKEN_IDENT = refl
trivia_alike _ = refl

-- below any parent
pub remapped_is_trivia : (p k : SyntaxKind) → is_trivia (leaf_kind_as p k) ≡ is_trivia k
remapped_is_trivia NODE_IDENT k = name_alike k
remapped_is_trivia NODE_CUR_POS k = trivia_alike k
remapped_is_trivia _ k = refl

-- the leaves of a forest are trivia exactly where its tokens are
leaves_alike : (p : SyntaxKind) (f : AnnotatedForest) → HaveLeafKinds p f → AreAlike (leaf_kinds (forget f)) (token_kinds (tokens_in f))
leaves_alike p blank h = none
leaves_alike p (token k t f) h = both (ap is_trivia h.0 ∙ remapped_is_trivia p t.kind) (leaves_alike p f h.1)
leaves_alike p (branch k c f) h =
    subst (AreAlike (leaf_kinds (forget c) ++ leaf_kinds (forget f))) (sym (token_kinds-++ (tokens_in c) (tokens_in f)))
    (alike-++ (leaves_alike k c h.0) (leaves_alike p f h.1))
leaves_alike p (fault n c f) h =
    subst (AreAlike (leaf_kinds (forget c) ++ leaf_kinds (forget f))) (sym (token_kinds-++ (tokens_in c) (tokens_in f)))
    (alike-++ (leaves_alike NODE_ERROR c h.0) (leaves_alike p f h.1))

-- if the nodes of an annotated forest begin and end with items, so do those of its trees
pub nodes_trimmed : (p : SyntaxKind) (f : AnnotatedForest) → HaveLeafKinds p f → AreEdged f → AreNodesTrimmed (forget f)
nodes_trimmed p blank h e = tt
nodes_trimmed p (token k t f) h e = nodes_trimmed p f h.1 e
nodes_trimmed p (branch k c f) h e =
    let same = leaves_alike k c h.0 in
    (begins_alike same e.0.0, ends_alike same e.0.1, nodes_trimmed k c h.0 e.1, nodes_trimmed p f h.1 e.2)
nodes_trimmed p (fault n c f) h e = absurd e
