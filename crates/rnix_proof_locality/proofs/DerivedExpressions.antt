-- Each expression of a derivation is a derivation of its own items.
use Rattle.std.proofs.Common.{◌≡◌, ℕ, suc, ◌≤◌, max, Bool, true, false, List, [], ◌∷◌, ◌++◌, refl, ap, sym, ◌∙◌, subst, append-nil, append_assoc, map}
use Rattle.std.{proofs.{Common.{if◌then◌else◌, arith}, lemmas.List.{map-append, Elements.{All-nil, All-cons, All-append}}}, specs.List.All}
use Rattle.{rnix_kinds.specs.declared.kinds.SyntaxKind.{SyntaxKind, TheVariants.{NODE_PAT_ENTRY, NODE_ROOT}}, rnix_green.specs.Forest.{Forest, empty, node}}
use Rattle.rnix_grammar.specs.{AnnotatedForest.{Token, lexeme_of, AnnotatedForest, blank, token, branch, fault, tokens_in, forget}, Yield.yield}
use Rattle.rnix_grammar.specs.{Derivation.{beyond, annotate, IsDerivation}, Nest.{nest, nests}, NodeClasses.is_expression, Levels.expression_level, Tables.depth_limit}
use Rattle.{rnix_grammar.specs.PathPieces.{is_path, is_joined, ArePaths}, rnix_proof_lemmas.{specs.LeafKinds.HaveTokenKinds, proofs.Basics.true_is_not_false}}
use Rattle.{rnix_proof_lemmas.proofs.AnnotateLemmas.annotate_root, rnix_proof_strict.proofs.GrammarLeaves.expression_fine}
use Rattle.rnix_proof_locality.specs.{Expressions.{Expression, is_expression_node, expression_if, expressions}, ReadAlone.IsDerived}
use Rattle.rnix_proof_locality.proofs.{StrictExpressions.{path_begins, IsStrict, AreStrict, strict_kind, root_strict}, PathsAlone.{path_before, paths_before}}
use Rattle.rnix_grammar.specs.Grammar as G

-- after the trees of a forest, only the tokens that follow its own are left
beyond_own : (f : AnnotatedForest) (us : List Token) → HaveTokenKinds f → beyond (forget f) (tokens_in f ++ us) ≡ us
beyond_own blank us v = refl
beyond_own (token k t f) us v = beyond_own f us v.2
beyond_own (branch k c f) us v =
    rw (append_assoc (tokens_in c) (tokens_in f) us) (ap (beyond (forget f)) (beyond_own c (tokens_in f ++ us) v.0) ∙ beyond_own f us v.1)
beyond_own (fault n c f) us v = absurd v

annotate_own : (f : AnnotatedForest) (us : List Token) → HaveTokenKinds f → annotate (forget f) (tokens_in f ++ us) ≡ f
annotate_own blank us v = refl
annotate_own (token k t f) us v = ap (token k t) (annotate_own f us v.2)
annotate_own (branch k c f) us v =
    rw (append_assoc (tokens_in c) (tokens_in f) us, annotate_own c (tokens_in f ++ us) v.0)
    (ap (λ x. branch k c (annotate (forget f) x)) (beyond_own c (tokens_in f ++ us) v.0) ∙ ap (branch k c) (annotate_own f us v.1))
annotate_own (fault n c f) us v = absurd v

annotate_alone : (f : AnnotatedForest) → HaveTokenKinds f → annotate (forget f) (tokens_in f) ≡ f
annotate_alone f v = ap (annotate (forget f)) (sym (append-nil (tokens_in f))) ∙ annotate_own f [] v

-- the trees of a forest yield its own tokens
yields_own : (f : AnnotatedForest) → HaveTokenKinds f → yield (forget f) ≡ map lexeme_of (tokens_in f)
yields_own blank v = refl
yields_own (token k t f) v = ap (λ z. (z, t.text) ∷ yield (forget f)) (sym v.1) ∙ ap (λ z. lexeme_of t ∷ z) (yields_own f v.2)
yields_own (branch k c f) v =
    ap (λ z. z ++ yield (forget f)) (yields_own c v.0) ∙ ap (λ z. map lexeme_of (tokens_in c) ++ z) (yields_own f v.1)
    ∙ sym (map-append lexeme_of (tokens_in c) (tokens_in f))
yields_own (fault n c f) v = absurd v

-- an expression that leaves room for one more level is within the limit below a root
bounded : (w : Bool) (n : ℕ) → suc n ≤ depth_limit → max (if w then suc n else n) 0 ≤ depth_limit
bounded true n h = omega (arith, h)
bounded false n h = omega (arith, h)

nest_alone : (k : SyntaxKind) (c : Forest) → is_expression k ≡ true → suc (nest k c) ≤ depth_limit → nest NODE_ROOT (node k c empty) ≤ depth_limit
nest_alone NODE_PAT_ENTRY c e h = absurd (true_is_not_false (sym e))
nest_alone k c e h = bounded (nests NODE_ROOT k) (nest k c) h

-- a strict expression is a derivation of its own items, whatever follows them
derived : (k : SyntaxKind) (c : AnnotatedForest) (vs : List Token) → IsStrict k (forget c) → path_begins k (forget c) ≡ true
    → AreStrict (forget c) → HaveTokenKinds c → (if is_path k then is_joined c vs else true) ≡ true → ArePaths c vs
    → IsDerived (record { kind = k; children = c })
derived k c vs s b i v j a = record {
  strict = let low : expression_level ≤ s.level = omega arith in G.expression (G.looser low s.strict);
  shallow = nest_alone k (forget c) (strict_kind s.strict) s.shallow;
  yields = append-nil (yield (forget c)) ∙ yields_own c v;
  joined = subst (λ z. ((if is_path k then is_joined z [] else true) ≡ true) × ArePaths z [] × Unit {0}) (sym (annotate_alone c v))
      (path_before (is_path k) c [] vs b j, paths_before c [] vs i a, tt);
}

all_if : (w : Bool) (e : Expression) (es : List Expression) → (w ≡ true → IsDerived e) → All IsDerived es → All IsDerived (expression_if w e es)
all_if true e es f h = All-cons IsDerived e es (f refl) h
all_if false e es f h = h

-- so is each expression of a forest
each_derived : (f : AnnotatedForest) (vs : List Token) → AreStrict (forget f) → HaveTokenKinds f → ArePaths f vs → All IsDerived (expressions f)
each_derived blank vs s v a = All-nil IsDerived
each_derived (token k t f) vs s v a = each_derived f vs s v.2 a
each_derived (branch k c f) vs s v a =
    all_if (is_expression_node k (forget c)) (record { kind = k; children = c }) (expressions c ++ expressions f)
    (λ e. derived k c (tokens_in f ++ vs) (s.0 e) s.1 s.2 v.0 a.0 a.1)
    (All-append IsDerived (expressions c) (expressions f) (each_derived c (tokens_in f ++ vs) s.2 v.0 a.1) (each_derived f vs s.3 v.1 a.2))
each_derived (fault n c f) vs s v a = absurd v

-- each expression of a derivation is a derivation of its own items
pub derived_expressions : (t : Forest) (ts : List Token) → IsDerivation t ts → All IsDerived (expressions (annotate t ts))
derived_expressions t ts d =
    let l = annotate_root t ts (expression_fine d.strict).tokens d.yields in
    each_derived (annotate t ts) [] (subst AreStrict (sym l.forest) (root_strict d.strict d.shallow)) l.spelled d.joined
