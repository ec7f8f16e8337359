-- The first and the last token of a forest.
use Rattle.std.proofs.Common.{◌≡◌, true, false, List, [], ◌∷◌, ◌++◌, refl, ap, ◌∙◌}
use Rattle.{rnix_kinds.specs.{declared.kinds.SyntaxKind.SyntaxKind, SyntaxKind.is_trivia}, rnix_grammar.specs.AnnotatedForest.{Token, AnnotatedForest}}
use Rattle.rnix_grammar.specs.{AnnotatedForest.{blank, token, branch, fault, ◌⊕◌, tokens_in}, Layout.{trivia_before, trivia_if}}
use Rattle.rnix_grammar.specs.Trim.{BeginsWithItem, EndsWithItem, token_kinds, AreFaultsTrimmed}
use Rattle.rnix_proof_lemmas.proofs.AnnotatedForestLemmas.{tokens_in-⊕}

-- a list of kinds that is not empty
pub data IsSome : List SyntaxKind → Type 0 where
  some : (k : SyntaxKind) (ks : List SyntaxKind) → IsSome (k ∷ ks)

-- a list that ends with an item still does with others before it
pub ends_behind : (xs ys : List SyntaxKind) → IsSome ys → EndsWithItem ys → EndsWithItem (xs ++ ys)
ends_behind [] ys s h = h
ends_behind (x ∷ []) _ (some k ks) h = h
ends_behind (x ∷ (z ∷ xs)) ys s h = ends_behind (z ∷ xs) ys s h

-- a list that begins with a nonempty one is not empty
pub some_before : (xs ys : List SyntaxKind) → IsSome xs → IsSome (xs ++ ys)
some_before _ ys (some k ks) = some k (ks ++ ys)

-- a list that ends with a nonempty one is not empty
pub some_behind : (xs ys : List SyntaxKind) → IsSome ys → IsSome (xs ++ ys)
some_behind [] ys h = h
some_behind (x ∷ xs) ys h = some x (xs ++ ys)

-- if two lists end with items, both joined end with an item
pub ends_both : (xs ys : List SyntaxKind) → EndsWithItem xs → EndsWithItem ys → EndsWithItem (xs ++ ys)
ends_both [] ys h j = j
ends_both (x ∷ []) [] h j = h
ends_both (x ∷ []) (y ∷ ys) h j = j
ends_both (x ∷ (z ∷ xs)) ys h j = ends_both (z ∷ xs) ys h j

-- if two joined lists begin with an item, so does the first
pub begins_part : (xs ys : List SyntaxKind) → BeginsWithItem (xs ++ ys) → BeginsWithItem xs
begins_part [] ys h = tt
begins_part (x ∷ xs) ys h = h

-- the kinds of two joined lists of tokens are the kinds of both, joined
pub token_kinds-++ : (ts us : List Token) → token_kinds (ts ++ us) ≡ token_kinds ts ++ token_kinds us
token_kinds-++ [] us = refl
token_kinds-++ (t ∷ ts) us = ap (λ x. t.kind ∷ x) (token_kinds-++ ts us)

-- the kinds of the tokens of a forest
abbrev pub kinds_in : AnnotatedForest → List SyntaxKind
kinds_in f = token_kinds (tokens_in f)

-- the kinds of the tokens of two joined forests are those of both, joined
pub kinds_in-⊕ : (f g : AnnotatedForest) → kinds_in (f ⊕ g) ≡ kinds_in f ++ kinds_in g
kinds_in-⊕ f g = ap token_kinds (tokens_in-⊕ f g) ∙ token_kinds-++ (tokens_in f) (tokens_in g)

-- if the error nodes of two forests are trimmed, so are those of both joined
pub faults_trimmed-⊕ : (f g : AnnotatedForest) → AreFaultsTrimmed f → AreFaultsTrimmed g → AreFaultsTrimmed (f ⊕ g)
faults_trimmed-⊕ blank g h k = k
faults_trimmed-⊕ (token j t f) g h k = faults_trimmed-⊕ f g h k
faults_trimmed-⊕ (branch j c f) g h k = (h.0, faults_trimmed-⊕ f g h.1 k)
faults_trimmed-⊕ (fault n c f) g h k = (h.0, h.1, h.2, faults_trimmed-⊕ f g h.3 k)

-- trivia have no error nodes
pub faults_trimmed_trivia : (ts : List Token) → AreFaultsTrimmed (trivia_before ts)
faults_trimmed_trivia [] = tt
faults_trimmed_trivia (t ∷ ts) = elim (is_trivia t.kind) as (λ x. AreFaultsTrimmed
    (trivia_if x t (trivia_before ts))) [ true ↦ faults_trimmed_trivia ts | false ↦ tt ]
