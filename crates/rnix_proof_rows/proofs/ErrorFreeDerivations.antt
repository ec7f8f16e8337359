-- What is read without errors and accepted extensions is a derivation of its items.
use Rattle.std.proofs.Common.{◌≡◌, ◌≤◌, ℕ, Bool, true, false, List, [], ◌∷◌, ◌++◌, refl, ap, sym, ◌∙◌, subst, append-nil, append_assoc, map, if◌then◌else◌}
use Rattle.{std.proofs.lemmas.List.map-append, rnix_kinds.specs.declared.kinds.SyntaxKind.{SyntaxKind, TheVariants.{TOKEN_CUR_POS, TOKEN_IDENT, TOKEN_OR}}}
use Rattle.{rnix_kinds.specs.declared.kinds.SyntaxKind.TheVariants.{NODE_CUR_POS, NODE_IDENT, NODE_ROOT}, rnix_grammar.specs.AnnotatedForest.{Token, lexeme_of}}
use Rattle.rnix_grammar.specs.AnnotatedForest.{AnnotatedForest, blank, token, branch, fault, tokens_in, forget, leaf_kind_as, HaveLeafKinds}
use Rattle.rnix_grammar.specs.{Yield.{kind_of_token, yield}, Tables.{is_or, depth_limit}, Grammar.IsExpression, Derivation.{beyond, annotate, IsDerivation}}
use Rattle.{rnix_grammar.specs.{PathPieces.ArePaths, Nest.nest}, rnix_proof_lemmas.{specs.Spelled.{is_spelled, AreSpelled}, proofs.Basics.true_is_not_false}}
use Rattle.{rnix_proof_lemmas.proofs.SpelledLemmas.{spelled_first, spelled_rest}, rnix_proof_rows.proofs.ReadsShapes.AreErrorFreeRows}

-- the tokens after those of the trees of a forest without error nodes are those after the forest
pub beyond_row : (f : AnnotatedForest) (us : List Token) → AreErrorFreeRows f → beyond (forget f) (tokens_in f ++ us) ≡ us
beyond_row blank us h = refl
beyond_row (token k t f) us h = beyond_row f us h
beyond_row (branch k c f) us h =
    rw (append_assoc (tokens_in c) (tokens_in f) us) (ap (beyond (forget f)) (beyond_row c (tokens_in f ++ us) h.2) ∙ beyond_row f us h.3)
beyond_row (fault n c f) us h = absurd h

-- an error-free forest, annotated with its own tokens, is itself
pub annotate_row_same : (f : AnnotatedForest) (us : List Token) → AreErrorFreeRows f → annotate (forget f) (tokens_in f ++ us) ≡ f
annotate_row_same blank us h = refl
annotate_row_same (token k t f) us h = ap (token k t) (annotate_row_same f us h)
annotate_row_same (branch k c f) us h =
    rw (append_assoc (tokens_in c) (tokens_in f) us, annotate_row_same c (tokens_in f ++ us) h.2)
    (ap (λ x. branch k c (annotate (forget f) x)) (beyond_row c (tokens_in f ++ us) h.2) ∙ ap (branch k c) (annotate_row_same f us h.3))
annotate_row_same (fault n c f) us h = absurd h

-- the same with no more tokens after it
pub annotate_same : (f : AnnotatedForest) → AreErrorFreeRows f → annotate (forget f) (tokens_in f) ≡ f
annotate_same f h = ap (annotate (forget f)) (sym (append-nil (tokens_in f))) ∙ annotate_row_same f [] h

-- each leaf of the forest yields its token
name_back : (text : List ℕ) → is_or text ≡ true → kind_of_token TOKEN_IDENT text ≡ TOKEN_OR
name_back text h = ap (λ w. if w then TOKEN_OR else TOKEN_IDENT) h

plain_back : (text : List ℕ) → (w : Bool) → is_or text ≡ w → (if w then false else true) ≡ true → kind_of_token TOKEN_IDENT text ≡ TOKEN_IDENT
plain_back text true e h = absurd (true_is_not_false (sym h))
plain_back text false e h = ap (λ v. if v then TOKEN_OR else TOKEN_IDENT) e

kept_back : (k : SyntaxKind) (text : List ℕ) → is_spelled k text ≡ true → kind_of_token k text ≡ k
kept_back TOKEN_IDENT text h = plain_back text (is_or text) refl h
kept_back TOKEN_CUR_POS text h = absurd (true_is_not_false (sym h))
kept_back _ text h = refl

ident_back : (k : SyntaxKind) (text : List ℕ) → is_spelled k text ≡ true → kind_of_token (leaf_kind_as NODE_IDENT k) text ≡ k
ident_back TOKEN_OR text h = name_back text h
ident_back TOKEN_CUR_POS text h = absurd (true_is_not_false (sym h))
ident_back k text h = kept_back k text h

remapped_token_kind : (p k : SyntaxKind) (text : List ℕ) → is_spelled k text ≡ true → kind_of_token (leaf_kind_as p k) text ≡ k
remapped_token_kind NODE_IDENT k text h = ident_back k text h
remapped_token_kind NODE_CUR_POS TOKEN_IDENT text h = refl
remapped_token_kind NODE_CUR_POS k text h = kept_back k text h
remapped_token_kind _ k text h = kept_back k text h

-- the trees of the forest yield its tokens
pub yields_same : (p : SyntaxKind) (f : AnnotatedForest) → AreErrorFreeRows f → HaveLeafKinds p f → AreSpelled (tokens_in f)
    → yield (forget f) ≡ map lexeme_of (tokens_in f)
yields_same p blank h t s = refl
yields_same p (token k x f) h t s =
    ap (λ z. (z, x.text) ∷ yield (forget f)) (ap (λ z. kind_of_token z x.text) t.0 ∙ remapped_token_kind p x.kind x.text s.0)
    ∙ ap (λ z. lexeme_of x ∷ z) (yields_same p f h t.1 s.1)
yields_same p (branch k c f) h t s =
    ap (λ z. z ++ yield (forget f)) (yields_same k c h.2 t.0 (spelled_first (tokens_in c) (tokens_in f) s))
    ∙ ap (λ z. map lexeme_of (tokens_in c) ++ z) (yields_same p f h.3 t.1 (spelled_rest (tokens_in c) (tokens_in f) s))
    ∙ sym (map-append lexeme_of (tokens_in c) (tokens_in f))
yields_same p (fault n c f) h t s = absurd h

-- if the pieces of its paths touch, such a forest is a derivation of its tokens
pub derived : (f : AnnotatedForest) → AreErrorFreeRows f → HaveLeafKinds NODE_ROOT f → AreSpelled (tokens_in f) → IsExpression (forget f)
    → nest NODE_ROOT (forget f) ≤ depth_limit → ArePaths f []
    → IsDerivation (forget f) (tokens_in f)
derived f h t s strict shallow paths = record {
  strict = strict;
  shallow = shallow;
  yields = yields_same NODE_ROOT f h t s;
  joined = subst (λ x. ArePaths x []) (sym (annotate_same f h)) paths;
}
