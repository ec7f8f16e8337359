-- Joining annotated forests.
use Rattle.std.proofs.Common.{◌≡◌, List, [], ◌∷◌, ◌++◌, refl, ap, sym, ◌∙◌, append_assoc}
use Rattle.{rnix_kinds.specs.declared.kinds.SyntaxKind.TheVariants.NODE_ERROR, rnix_green.specs.Forest.{leaf, node, join}}
use Rattle.rnix_grammar.specs.AnnotatedForest.{Token, AnnotatedForest, blank, token, branch, fault, ◌⊕◌, row_of, tokens_in, forget}

-- joining forests is associative
pub ⊕-assoc : (f g h : AnnotatedForest) → (f ⊕ g) ⊕ h ≡ f ⊕ (g ⊕ h)
⊕-assoc blank g h = refl
⊕-assoc (token k t f) g h = ap (token k t) (⊕-assoc f g h)
⊕-assoc (branch k c f) g h = ap (branch k c) (⊕-assoc f g h)
⊕-assoc (fault n c f) g h = ap (fault n c) (⊕-assoc f g h)

-- joining an empty forest after another changes nothing
pub ⊕-blank : (f : AnnotatedForest) → f ⊕ blank ≡ f
⊕-blank blank = refl
⊕-blank (token k t f) = ap (token k t) (⊕-blank f)
⊕-blank (branch k c f) = ap (branch k c) (⊕-blank f)
⊕-blank (fault n c f) = ap (fault n c) (⊕-blank f)

-- the tokens of two joined forests are those of the first, then those of the second
pub tokens_in-⊕ : (f g : AnnotatedForest) → tokens_in (f ⊕ g) ≡ tokens_in f ++ tokens_in g
tokens_in-⊕ blank g = refl
tokens_in-⊕ (token k t f) g = ap (λ x. t ∷ x) (tokens_in-⊕ f g)
tokens_in-⊕ (branch k c f) g = ap (λ x. tokens_in c ++ x) (tokens_in-⊕ f g) ∙ sym (append_assoc (tokens_in c) (tokens_in f) (tokens_in g))
tokens_in-⊕ (fault n c f) g = ap (λ x. tokens_in c ++ x) (tokens_in-⊕ f g) ∙ sym (append_assoc (tokens_in c) (tokens_in f) (tokens_in g))

-- the same with further tokens after them
pub tokens_two : (f g : AnnotatedForest) (us : List Token) → tokens_in (f ⊕ g) ++ us ≡ tokens_in f ++ (tokens_in g ++ us)
tokens_two f g us = ap (λ x. x ++ us) (tokens_in-⊕ f g) ∙ append_assoc (tokens_in f) (tokens_in g) us

-- the tokens of a forest of leaves are these leaves
pub tokens_in-row_of : (ts : List Token) → tokens_in (row_of ts) ≡ ts
tokens_in-row_of [] = refl
tokens_in-row_of (t ∷ ts) = ap (λ x. t ∷ x) (tokens_in-row_of ts)

-- the trees of two joined forests are the trees of both, joined
pub forget-⊕ : (f g : AnnotatedForest) → forget (f ⊕ g) ≡ join (forget f) (forget g)
forget-⊕ blank g = refl
forget-⊕ (token k t f) g = ap (leaf k t.text) (forget-⊕ f g)
forget-⊕ (branch k c f) g = ap (node k (forget c)) (forget-⊕ f g)
forget-⊕ (fault n c f) g = ap (node NODE_ERROR (forget c)) (forget-⊕ f g)
