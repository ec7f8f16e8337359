-- Trimmed tokens are reported as their items are.
use Rattle.std.proofs.Common.{◌≡◌, ℕ, Bool, true, false, List, [], ◌∷◌, ◌++◌, refl, ap, sym, ◌∙◌}
use Rattle.{rnix_kinds.specs.{declared.kinds.SyntaxKind.SyntaxKind, SyntaxKind.is_trivia}, rnix_grammar.specs.AnnotatedForest.{Token, Note, Stray}}
use Rattle.rnix_grammar.specs.{AnnotatedForest.{AnnotatedForest, blank, token, branch, fault, tokens_in, without_trivia, token_if, end_from}, Layout.item_if}
use Rattle.{rnix_grammar.specs.{Layout.items, Reports.report, Trim.{BeginsWithItem, EndsWithItem, token_kinds}}, rnix_proof_lemmas.proofs.LayoutLemmas.items-++}

-- a leaf without trivia is the token, if that is an item
onto_items : (x : Bool) (k : SyntaxKind) (t : Token) (f : AnnotatedForest) (us : List Token) → tokens_in f ≡ us → tokens_in (token_if x k t f) ≡ item_if x t us
onto_items true k t f us e = e
onto_items false k t f us e = ap (λ z. t ∷ z) e

-- the tokens of a forest without trivia are the items among its tokens
pub without_trivia_tokens : (f : AnnotatedForest) → tokens_in (without_trivia f) ≡ items (tokens_in f)
without_trivia_tokens blank = refl
without_trivia_tokens (token k t f) = onto_items (is_trivia t.kind) k t (without_trivia f) (items (tokens_in f)) (without_trivia_tokens f)
without_trivia_tokens (branch k c f) = ap (λ x. x ++ tokens_in (without_trivia f)) (without_trivia_tokens c)
    ∙ ap (λ x. items (tokens_in c) ++ x) (without_trivia_tokens f) ∙ sym (items-++ (tokens_in c) (tokens_in f))
without_trivia_tokens (fault n c f) = ap (λ x. x ++ tokens_in (without_trivia f)) (without_trivia_tokens c)
    ∙ ap (λ x. items (tokens_in c) ++ x) (without_trivia_tokens f) ∙ sym (items-++ (tokens_in c) (tokens_in f))

-- trimmed tokens end where their items do
pub same_end : (n : ℕ) (ts : List Token) → EndsWithItem (token_kinds ts) → end_from n (items ts) ≡ end_from n ts
same_end n [] h = refl
same_end n (t ∷ []) h = ap (λ x. end_from n (item_if x t [])) h
same_end n (t ∷ (u ∷ ts)) h =
    elim (is_trivia t.kind) as (λ x. end_from n (item_if x t (items (u ∷ ts))) ≡ end_from n (t ∷ (u ∷ ts)))
    [ true ↦ same_end n (u ∷ ts) h ∙ refl | false ↦ same_end t.end (u ∷ ts) h ]

-- trimmed tokens are reported as their items
pub same_report : (n : Note) (ts : List Token) → BeginsWithItem (token_kinds ts) → EndsWithItem (token_kinds ts) → report n (items ts) ≡ report n ts
same_report n [] b e = refl
same_report n (t ∷ ts) b e =
    let first : items (t ∷ ts) ≡ t ∷ items ts = ap (λ x. item_if x t (items ts)) b in
    let ends : end_from t.end (items ts) ≡ end_from t.end ts = sym (ap (end_from 0) first) ∙ same_end 0 (t ∷ ts) e in
    ap (report n) first ∙ by_note n ends
  where
    by_note : (n : Note) → end_from t.end (items ts) ≡ end_from t.end ts → report n (t ∷ items ts) ≡ report n (t ∷ ts)
    by_note Stray e = cc
    by_note _ e = cc
