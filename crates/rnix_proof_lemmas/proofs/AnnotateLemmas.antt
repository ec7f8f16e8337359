-- A tree whose leaves are some items can be annotated with these items as its tokens.
use Rattle.std.proofs.Common.{◌≡◌, ℕ, Bool, true, false, List, [], ◌∷◌, ◌++◌, refl, ap, sym, ◌∙◌, append-nil, append_assoc, ◌&&◌, map, if◌then◌else◌}
use Rattle.std.proofs.lemmas.Bool.{and_parts}
use Rattle.{rnix_kinds.specs.{declared.kinds.SyntaxKind.SyntaxKind, SyntaxKind.is_token, Lexical.Tokens.Lexeme}, rnix_green.specs.Forest.{Forest, empty, leaf}}
use Rattle.{rnix_green.specs.Forest.node, rnix_grammar.specs.{AnnotatedForest.{Token, lexeme_of, tokens_in, forget}, Yield.{yield, kind_of_token}}}
use Rattle.rnix_proof_lemmas.specs.LeafKinds.{is_node}
use Rattle.rnix_grammar.specs.Derivation.{beyond, annotate, has_tokens_alone}
use Rattle.rnix_proof_lemmas.specs.LeafKinds.{HaveTokenKinds}

-- a forest annotated with the first of some items, and the items after these
pub record IsAnnotated (f : Forest) (ts : List Token) (ls : List Lexeme) : Type 0 where
  pub tokens : tokens_in (annotate f ts) ++ beyond f ts ≡ ts
  pub forest : forget (annotate f ts) ≡ f
  pub spelled : HaveTokenKinds (annotate f ts)
  pub rest : map lexeme_of (beyond f ts) ≡ ls

no_token : (k : SyntaxKind) (rest : Bool) → (is_token k && rest) ≡ true → (is_node k ≡ false) × (rest ≡ true)
no_token k rest h = let w = and_parts (is_token k) rest h in (ap (λ b. if b then false else true) w.0, w.1)

abbrev pair : SyntaxKind → List ℕ → Lexeme
pair k t = (k, t)

first_of : (k : SyntaxKind) (t : List ℕ) (m : List Lexeme) (x : Token) (ts : List Token) → pair (kind_of_token k t) t ∷ m ≡ lexeme_of x ∷ map lexeme_of ts
    → (x.kind ≡ kind_of_token k x.text) × (x.text ≡ t) × (m ≡ map lexeme_of ts)
first_of k t m x ts h = by (ap heads h) (ap tails h)
  where
    heads : List Lexeme → Lexeme
    heads [] = lexeme_of x
    heads (l ∷ ls) = l

    tails : List Lexeme → List Lexeme
    tails [] = []
    tails (l ∷ ls) = ls

    by : pair (kind_of_token k t) t ≡ lexeme_of x → m ≡ map lexeme_of ts → (x.kind ≡ kind_of_token k x.text) × (x.text ≡ t) × (m ≡ map lexeme_of ts)
    by e u =
        let text : t ≡ x.text = ap (λ (l : Lexeme). l.1) e in
        (sym (ap (λ (l : Lexeme). l.0) e) ∙ ap (kind_of_token k) text, sym text, u)

-- a forest whose leaves are the first of some items can be annotated with them
pub annotate_row : (f : Forest) (ts : List Token) (ls : List Lexeme) → has_tokens_alone f ≡ true → yield f ++ ls ≡ map lexeme_of ts → IsAnnotated f ts ls
annotate_row empty ts ls h e = record { tokens = refl; forest = refl; spelled = tt; rest = sym e }
annotate_row (leaf k t f) [] ls h e = absurd (cc)
annotate_row (leaf k t f) (x ∷ ts) ls h e =
    let o = first_of k t (yield f ++ ls) x ts e in
    let w = no_token k (has_tokens_alone f) h in
    let r = annotate_row f ts ls w.1 o.2 in
    record {
      tokens = ap (λ us. x ∷ us) r.tokens;
      forest = ap (λ s. leaf k s (forget (annotate f ts))) o.1 ∙ ap (leaf k t) r.forest;
      spelled = (w.0, o.0, r.spelled);
      rest = r.rest;
    }
annotate_row (node k c f) ts ls h e =
    let w = and_parts (has_tokens_alone c) (has_tokens_alone f) h in
    let p = annotate_row c ts (yield f ++ ls) w.0 (sym (append_assoc (yield c) (yield f) ls) ∙ e) in
    let q = annotate_row f (beyond c ts) ls w.1 (sym p.rest) in
    record {
      tokens =
          append_assoc (tokens_in (annotate c ts)) (tokens_in (annotate f (beyond c ts))) (beyond f (beyond c ts))
          ∙ ap (λ us. tokens_in (annotate c ts) ++ us) q.tokens ∙ p.tokens;
      forest = ap (λ z. node k z (forget (annotate f (beyond c ts)))) p.forest ∙ ap (node k c) q.forest;
      spelled = (p.spelled, q.spelled);
      rest = q.rest;
    }

no_more : (us : List Token) → map lexeme_of us ≡ [] → us ≡ []
no_more [] h = refl
no_more (u ∷ us) h = absurd (cc)

-- a forest annotated with all of some items
pub record IsAnnotatedRoot (f : Forest) (ts : List Token) : Type 0 where
  pub tokens : tokens_in (annotate f ts) ≡ ts
  pub forest : forget (annotate f ts) ≡ f
  pub spelled : HaveTokenKinds (annotate f ts)

-- a forest whose leaves are some items can be annotated with all of them
pub annotate_root : (f : Forest) (ts : List Token) → has_tokens_alone f ≡ true → yield f ≡ map lexeme_of ts → IsAnnotatedRoot f ts
annotate_root f ts h e =
    let r = annotate_row f ts [] h (append-nil (yield f) ∙ e) in
    record {
      tokens = sym (append-nil (tokens_in (annotate f ts))) ∙ ap (λ us. tokens_in (annotate f ts) ++ us) (sym (no_more (beyond f ts) r.rest)) ∙ r.tokens;
      forest = r.forest;
      spelled = r.spelled;
    }
