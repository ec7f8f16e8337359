-- Names contain their tokens alone, with trivia around them too.
use Rattle.std.proofs.Common.{◌≡◌, Bool, true, false, List, [], ◌∷◌, refl, sym}
use Rattle.{rnix_kinds.specs.SyntaxKind.is_trivia, rnix_grammar.specs.AnnotatedForest.{Token, AnnotatedForest, blank, token, branch, fault, ◌⊕◌}}
use Rattle.rnix_grammar.specs.{Layout.{from_item, tail_of, trivia_if, trivia_before, is_last, trivia_after, rest_after, remaining_after, with_trivia}, Trim.is_single_token}
use Rattle.{rnix_grammar.specs.Trim.{begins_with_node, AreNamesSingleTokens}, rnix_proof_lemmas.proofs.{Basics.true_is_not_false, LayoutLemmas.trivia-from_item}}

-- if the names of two forests are single tokens, so are those of both joined
pub bare-⊕ : (f g : AnnotatedForest) → AreNamesSingleTokens f → AreNamesSingleTokens g → AreNamesSingleTokens (f ⊕ g)
bare-⊕ blank g h j = j
bare-⊕ (token k t f) g h j = bare-⊕ f g h j
bare-⊕ (branch k c f) g h j = (h.0, h.1, bare-⊕ f g h.2 j)
bare-⊕ (fault n c f) g h j = (h.0, bare-⊕ f g h.1 j)

-- trivia contain no names
pub trivia_names : (ts : List Token) → AreNamesSingleTokens (trivia_before ts)
trivia_names [] = tt
trivia_names (t ∷ ts) = elim (is_trivia t.kind) as (λ x. AreNamesSingleTokens (trivia_if x t (trivia_before ts))) [ true ↦ trivia_names ts | false ↦ tt ]

trivia_after_names : (z : Bool) (ts : List Token) → AreNamesSingleTokens (trivia_after z ts)
trivia_after_names true ts = trivia_names ts
trivia_after_names false ts = tt

-- a forest that begins with a node still does when it is given trivia from the item on
begins_with_trivia : (c : AnnotatedForest) (ts : List Token) → begins_with_node c ≡ true → begins_with_node (with_trivia c (from_item ts)) ≡ true
begins_with_trivia (branch k c f) ts h = rw (trivia-from_item ts) refl
begins_with_trivia _ ts h = absurd (true_is_not_false (sym h))

-- a forest of a single token still is one when it is given trivia from the item on
single_token_with_trivia : (c : AnnotatedForest) (ts : List Token) → is_single_token c ≡ true → is_single_token (with_trivia c (from_item ts)) ≡ true
single_token_with_trivia blank ts h = refl
single_token_with_trivia (token k t blank) ts h = rw (trivia-from_item ts) refl
single_token_with_trivia _ ts h = absurd (true_is_not_false (sym h))

-- the names of a forest with its trivia are single tokens
pub with_trivia_names : (f : AnnotatedForest) (ts : List Token) → AreNamesSingleTokens f → AreNamesSingleTokens (with_trivia f ts)
with_trivia_names blank ts h = tt
with_trivia_names (token k t f) ts h = let rest : List Token = tail_of (from_item ts) in bare-⊕ (trivia_before ts) (token k t (with_trivia f rest))
    (trivia_names ts) (with_trivia_names f rest h)
with_trivia_names (branch k c f) ts h =
    let rest : List Token = remaining_after c (from_item ts) in
    bare-⊕ (trivia_before ts) (branch k (with_trivia c (from_item ts)) (with_trivia f rest)) (trivia_names ts) (
      (λ e. single_token_with_trivia c ts (h.0.0 e), λ e. begins_with_trivia c ts (h.0.1 e)),
      with_trivia_names c (from_item ts) h.1,
      with_trivia_names f rest h.2,
    )
with_trivia_names (fault n c f) ts h =
    let rest : List Token = remaining_after c (from_item ts) in
    let later : List Token = rest_after (is_last n) rest in
    bare-⊕ (trivia_before ts) (fault n (with_trivia c (from_item ts)) (trivia_after (is_last n) rest ⊕ with_trivia f later)) (trivia_names ts) (
      with_trivia_names c (from_item ts) h.0,
      bare-⊕ (trivia_after (is_last n) rest) (with_trivia f later) (trivia_after_names (is_last n) rest)
          (with_trivia_names f later h.1),
    )
