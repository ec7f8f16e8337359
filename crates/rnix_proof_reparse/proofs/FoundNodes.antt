-- A node in a tree that is read: its items, those before and after it, and the tree with other children in this node.
use Rattle.std.proofs.Common.{◌≡◌, ℕ, suc, List, [], ◌∷◌, ◌++◌, refl, ap, sym, ◌∙◌, subst, append_assoc, if◌then◌else◌}
use Rattle.std.specs.Prelude.{flat_map}
use Rattle.rnix_kinds.specs.declared.kinds.SyntaxKind.{SyntaxKind}
use Rattle.rnix_green.specs.Forest.{Forest, empty, leaf, node, text_of}
use Rattle.rnix_green.specs.Context.{Context, filled, text_before}
use Rattle.rnix_grammar.specs.Nest.{nests}
use Rattle.rnix_grammar.specs.AnnotatedForest.{Token, AnnotatedForest, blank, token, branch, fault, tokens_in, forget, HaveLeafKinds}
use Rattle.rnix_proof_reparse.specs.LevelsAround.{levels_around}
use Rattle.rnix_proof_reparse.proofs.SwappedNodes.{Swapped}
use Rattle.rnix_proof_reparse.proofs.ReplacedReadings.{levels}
use Rattle.rnix_proof_reparse.proofs.PlacedAgain.{HaveItemEdges}
use Rattle.rnix_green.specs.Context as x
use Rattle.rnix_proof_reparse.proofs.SwappedNodes as s

-- the texts of tokens
abbrev pub tokens_text : List Token → List ℕ
tokens_text = flat_map (λ (t : Token). t.text)

-- the tree with other children in the node
pub record IsPut (c : Context) (p k : SyntaxKind) (a d e : AnnotatedForest) (first last : List Token) : Type 0 where
  pub trees : AnnotatedForest
  pub swapped : Swapped k d e a trees
  pub forest : forget trees ≡ filled c k (forget e)
  pub tokens : tokens_in trees ≡ first ++ (tokens_in e ++ last)
  pub levels : levels p swapped ≡ levels_around p k c
  pub kinds : HaveLeafKinds k e → HaveLeafKinds p trees

-- a node of the kind in a tree that is read
pub record IsFound (c : Context) (p k : SyntaxKind) (a : AnnotatedForest) (d : Forest) : Type 0 where
  pub children : AnnotatedForest
  pub first : List Token
  pub last : List Token
  pub forest : forget children ≡ d
  pub tokens : tokens_in a ≡ first ++ (tokens_in children ++ last)
  pub before : tokens_text first ≡ text_before c
  pub kinds : HaveLeafKinds k children
  pub edges : HaveItemEdges children
  pub put : (e : AnnotatedForest) → IsPut c p k a children e first last

-- the text of two joined lists of tokens, and that of the leaves of trees
pub text_tokens : (xs ys : List Token) → tokens_text (xs ++ ys) ≡ tokens_text xs ++ tokens_text ys
text_tokens [] ys = refl
text_tokens (t ∷ xs) ys = ap (λ z. t.text ++ z) (text_tokens xs ys) ∙ sym (append_assoc t.text (tokens_text xs) (tokens_text ys))

pub text_forest : (f : AnnotatedForest) → text_of (forget f) ≡ tokens_text (tokens_in f)
text_forest blank = refl
text_forest (token k t f) = ap (λ z. t.text ++ z) (text_forest f)
text_forest (branch k c f) =
    ap (λ z. z ++ text_of (forget f)) (text_forest c) ∙ ap (λ z. tokens_text (tokens_in c) ++ z) (text_forest f)
    ∙ sym (text_tokens (tokens_in c) (tokens_in f))
text_forest (fault k c f) =
    ap (λ z. z ++ text_of (forget f)) (text_forest c) ∙ ap (λ z. tokens_text (tokens_in c) ++ z) (text_forest f)
    ∙ sym (text_tokens (tokens_in c) (tokens_in f))

-- equal nodes have equal kinds, children and following trees
pub kinds_of_nodes : {j k : SyntaxKind} {c d f g : Forest} → node j c f ≡ node k d g → (j ≡ k) × (c ≡ d) × (f ≡ g)
kinds_of_nodes e = (cc, cc, cc)

pub parts_of_leaves : {j k : SyntaxKind} {t u : List ℕ} {f g : Forest} → leaf j t f ≡ leaf k u g → (j ≡ k) × (t ≡ u) × (f ≡ g)
parts_of_leaves e = (cc, cc, cc)

pub no_leaf : {A : Type 0} {j k : SyntaxKind} {t : List ℕ} {c f g : Forest} → leaf j t f ≡ node k c g → A
no_leaf e = absurd (cc)

pub no_empty : {A : Type 0} {k : SyntaxKind} {c g : Forest} → empty ≡ node k c g → A
no_empty e = absurd (cc)

pub no_end : {A : Type 0} {k : SyntaxKind} {t : List ℕ} {g : Forest} → empty ≡ leaf k t g → A
no_end e = absurd (cc)

pub no_node : {A : Type 0} {j k : SyntaxKind} {t : List ℕ} {c f g : Forest} → node k c g ≡ leaf j t f → A
no_node e = absurd (cc)

-- the node in the trees is found in the annotated forest
pub find : (c : Context) (p k : SyntaxKind) (a : AnnotatedForest) (d : Forest) → forget a ≡ filled c k d → HaveLeafKinds p a → HaveItemEdges a
    → IsFound c p k a d
find (x.here f) p k blank d e l h = no_empty e
find (x.here f) p k (token j t g) d e l h = no_leaf e
find (x.here f) p k (fault n y g) d e l h = absurd h
find (x.here f) p k (branch j y g) d e l h =
    let w = kinds_of_nodes e in
    subst (λ (j : SyntaxKind). HaveLeafKinds j y → IsFound (x.here f) p k (branch j y g) d) (sym w.0)
    (λ m. record {
      children = y;
      first = [];
      last = tokens_in g;
      forest = w.1;
      tokens = refl;
      before = refl;
      kinds = m;
      edges = h.2;
      put = λ e. record {
        trees = branch k e g;
        swapped = s.here;
        forest = ap (node k (forget e)) w.2;
        tokens = refl;
        levels = refl;
        kinds = λ n. (n, l.1);
      };
    }) l.0
find (x.behind_leaf j t c) p k blank d e l h = no_end e
find (x.behind_leaf j t c) p k (branch i y g) d e l h = no_node e
find (x.behind_leaf j t c) p k (fault n y g) d e l h = absurd h
find (x.behind_leaf j t c) p k (token i u g) d e l h =
    let w = parts_of_leaves e in
    let r = find c p k g d w.2 l.1 h in
    record {
      children = r.children;
      first = u ∷ r.first;
      last = r.last;
      forest = r.forest;
      tokens = ap (λ z. u ∷ z) r.tokens;
      before = ap (λ z. z ++ tokens_text r.first) w.1 ∙ ap (λ z. t ++ z) r.before;
      kinds = r.kinds;
      edges = r.edges;
      put = λ e. let q = r.put e in record {
        trees = token i u q.trees;
        swapped = s.past_token q.swapped;
        forest = ap (λ z. leaf z u.text (forget q.trees)) w.0 ∙ ap (λ z. leaf j z (forget q.trees)) w.1 ∙ ap (leaf j t) q.forest;
        tokens = ap (λ z. u ∷ z) q.tokens;
        levels = q.levels;
        kinds = λ n. (l.0, q.kinds n);
      };
    }
find (x.behind_node j b c) p k blank d e l h = no_empty e
find (x.behind_node j b c) p k (token i u g) d e l h = no_leaf e
find (x.behind_node j b c) p k (fault n y g) d e l h = absurd h
find (x.behind_node j b c) p k (branch i y g) d e l h =
    let w = kinds_of_nodes e in
    let r = find c p k g d w.2 l.1 h.3 in
    record {
      children = r.children;
      first = tokens_in y ++ r.first;
      last = r.last;
      forest = r.forest;
      tokens = ap (λ z. tokens_in y ++ z) r.tokens ∙ sym (append_assoc (tokens_in y) r.first (tokens_in r.children ++ r.last));
      before = text_tokens (tokens_in y) r.first ∙ ap (λ z. z ++ tokens_text r.first) (sym (text_forest y) ∙ ap text_of w.1)
          ∙ ap (λ z. text_of b ++ z) r.before;
      kinds = r.kinds;
      edges = r.edges;
      put = λ e. let q = r.put e in record {
        trees = branch i y q.trees;
        swapped = s.past_branch q.swapped;
        forest = ap (λ z. node z (forget y) (forget q.trees)) w.0 ∙ ap (λ z. node j z (forget q.trees)) w.1 ∙ ap (node j b) q.forest;
        tokens = ap (λ z. tokens_in y ++ z) q.tokens ∙ sym (append_assoc (tokens_in y) r.first (tokens_in e ++ r.last));
        levels = q.levels;
        kinds = λ n. (l.0, q.kinds n);
      };
    }
find (x.inside j c f) p k blank d e l h = no_empty e
find (x.inside j c f) p k (token i u g) d e l h = no_leaf e
find (x.inside j c f) p k (fault n y g) d e l h = absurd h
find (x.inside j c f) p k (branch i y g) d e l h =
    let w = kinds_of_nodes e in
    let r = find c j k y d w.1 (subst (λ (z : SyntaxKind). HaveLeafKinds z y) w.0 l.0) h.2 in
    record {
      children = r.children;
      first = r.first;
      last = r.last ++ tokens_in g;
      forest = r.forest;
      tokens = ap (λ z. z ++ tokens_in g) r.tokens ∙ three r.first (tokens_in r.children) r.last (tokens_in g);
      before = r.before;
      kinds = r.kinds;
      edges = r.edges;
      put = λ e. let q = r.put e in record {
        trees = branch i q.trees g;
        swapped = s.inside q.swapped;
        forest = ap (λ z. node z (forget q.trees) (forget g)) w.0 ∙ ap (λ z. node j z (forget g)) q.forest ∙ ap (node j (filled c k (forget e))) w.2;
        tokens = ap (λ z. z ++ tokens_in g) q.tokens ∙ three r.first (tokens_in e) r.last (tokens_in g);
        levels = ap (λ z. if nests p z then suc (levels z q.swapped) else levels z q.swapped) w.0 ∙ ap (λ z. if nests p j then suc z else z) q.levels;
        kinds = λ n. (subst (λ (z : SyntaxKind). HaveLeafKinds z q.trees) (sym w.0) (q.kinds n), l.1);
      };
    }
  where
    three : (a b c d : List Token) → (a ++ (b ++ c)) ++ d ≡ a ++ (b ++ (c ++ d))
    three a b c d = append_assoc a (b ++ c) d ∙ ap (λ z. a ++ z) (append_assoc b c d)
