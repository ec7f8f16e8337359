-- A node with brackets below the root of a tree.
use Rattle.std.proofs.Common.{◌≡◌, ℕ, suc, ◌+◌, List, length, Option, Some, None, refl, ap, sym, ◌∙◌, subst, arith}
use Rattle.rnix_kinds.specs.declared.kinds.SyntaxKind.{SyntaxKind}
use Rattle.rnix_kinds.specs.declared.kinds.SyntaxKind.TheVariants.{NODE_ROOT}
use Rattle.rnix_green.specs.Forest.{Forest, empty, leaf, node}
use Rattle.rnix_green.specs.Tree.{Tree, item, forest_of, text_at}
use Rattle.rnix_green.specs.Context.{Context, here, behind_leaf, behind_node, inside, filled, text_before, elements_before}
use Rattle.rnix_green.specs.Splice.{IsSpliced}
use Rattle.rnix_green.proofs.ContextLemmas.{found, shown}
use Rattle.rnix_green.proofs.SpliceLemmas.{only_child}
use Rattle.rnix_proof_reparse.specs.Bracketed.{IsBracketed, set, recursive_set, legacy_let, list, paren, string}
use Rattle.rnix_proof_reparse.specs.LevelsAround.{between}
use Rattle.rnix_proof_reparse.specs.Reparsed.{rooted}
use Rattle.rnix_reparse.specs.OwnBrackets.{HasBrackets, HasSameBrackets}
use Rattle.rnix_reparse.proofs.ForestsInside.{HasForest, whole_forest, filled_forest, inside_first, parent_in, trees_behind}
use Rattle.rnix_reparse.proofs.BetweenBrackets.{AreBetween, between_brackets}

-- the kind of the first tree
abbrev kind_of : Forest → SyntaxKind
kind_of empty = NODE_ROOT
kind_of (leaf k t f) = k
kind_of (node k c f) = k

-- the children of the first tree
abbrev inside_of : Forest → Forest
inside_of empty = empty
inside_of (leaf k t f) = empty
inside_of (node k c f) = c

-- the trees after the first one
abbrev rest_of : Forest → Forest
rest_of empty = empty
rest_of (leaf k t f) = f
rest_of (node k c f) = f

-- a context with a node is not empty
some_trees : (x : Context) (k : SyntaxKind) (c : Forest) → empty ≡ filled x k c → {A : Type 0} → A
some_trees (here f) k c e = absurd (cc)
some_trees (behind_leaf j t x) k c e = absurd (cc)
some_trees (behind_node j d x) k c e = absurd (cc)
some_trees (inside j x f) k c e = absurd (cc)

-- the node of a context is below the root
record IsBelowRoot (t : Tree) (place : Context) (k : SyntaxKind) (c : Forest) : Type 0 where
  around : Context
  is : place ≡ inside t.kind around empty
  children : t.children ≡ filled around k c

-- this holds if it has another kind than the root
below_root : (t : Tree) (place : Context) (k : SyntaxKind) (c : Forest) → forest_of t ≡ filled place k c → (k ≡ t.kind → ⊥) → IsBelowRoot t place k c
below_root t (here f) k c e other = absurd (other (sym (ap kind_of e)))
below_root t (behind_leaf j u x) k c e other = absurd (cc)
below_root t (behind_node j d x) k c e other = some_trees x k c (ap rest_of e)
below_root t (inside j x f) k c e other = record {
  around = x;
  is = ap (λ i. inside i x f) (sym (ap kind_of e)) ∙ ap (inside t.kind x) (sym (ap rest_of e));
  children = ap inside_of e;
}

-- a node with brackets is not the root
no_root : {k l r : SyntaxKind} → IsBracketed k l r → k ≡ NODE_ROOT → ⊥
no_root set e = cc
no_root recursive_set e = cc
no_root legacy_let e = cc
no_root list e = cc
no_root paren e = cc
no_root string e = cc

-- the children of a node: its first and its last token, and these trees between them
abbrev pub enclosed : Tree → ℕ → Forest → Forest
enclosed t n inner =
    between (item t (n + 1)).kind (text_at record { tree = t; number = n + 1 }) inner (item t (n + (item t n).below)).kind
    (text_at record { tree = t; number = n + (item t n).below })

-- the place of a node with brackets below the root: its context, its brackets, and what is between them
pub record IsSite (t : Tree) (n : ℕ) : Type 0 where
  pub place : Context
  pub inner : Forest
  pub is : t ≡ rooted (filled place (item t n).kind (enclosed t n inner))
  pub whole : forest_of t ≡ filled (inside NODE_ROOT place empty) (item t n).kind (enclosed t n inner)
  pub number : suc (elements_before place) ≡ n

-- the children of such a node are its brackets and what is between them
inner_of : (t : Tree) (n : ℕ) (place : Context) (k : SyntaxKind) (c : Forest) → forest_of t ≡ filled place k c → elements_before place ≡ n → HasBrackets t n
    → AreBetween t (n + 1) (n + (item t n).below) c
inner_of t n place k c e number h =
    let forest : HasForest t 0 0 None (filled place k c) = subst (HasForest t 0 0 None) e (whole_forest t) in
    let s : ℕ = 0 + length (text_before place) in
    let p : Option ℕ = parent_in 0 None place in
    let same : 0 + elements_before place ≡ n = omega arith in
    let own : HasForest t n s p (node k c (trees_behind place)) =
    subst (λ m. HasForest t m s p (node k c (trees_behind place))) same (filled_forest t 0 0 None place k c forest) in
    between_brackets t n s p k c (trees_behind place) own h

pub site : (t : Tree) (n : ℕ) → t.kind ≡ NODE_ROOT → HasBrackets t n → IsSite t n
site t n root h =
    let x = found t n h.node in
    let kind : x.kind ≡ (item t n).kind = sym (shown t n x.place x.kind x.children x.is x.number).kind in
    let inner = inner_of t n x.place x.kind x.children x.is x.number h in
    let filled_is : forest_of t ≡ filled x.place (item t n).kind (enclosed t n inner.inside) =
    x.is ∙ ap (λ k. filled x.place k x.children) kind ∙ ap (filled x.place (item t n).kind) inner.is in
    let below = below_root t x.place (item t n).kind (enclosed t n inner.inside) filled_is (λ e. no_root h.brackets (e ∙ root)) in
    let place_is : x.place ≡ inside NODE_ROOT below.around empty = below.is ∙ ap (λ k. inside k below.around empty) root in
    record {
      place = below.around;
      inner = inner.inside;
      is = (λ i. record { kind = root i; children = below.children i });
      whole = filled_is ∙ ap (λ z. filled z (item t n).kind (enclosed t n inner.inside)) place_is;
      number = sym (ap elements_before place_is) ∙ x.number;
    }

-- the only child of a root has the same brackets as a node of another tree
pub record IsNewNode (t : Tree) (n : ℕ) (u : Tree) : Type 0 where
  pub edited : Forest
  pub is : u.children ≡ node (item t n).kind (enclosed t n edited) empty

-- children with equal brackets, and the same trees between them, are equal
same_enclosed : (l m r q : SyntaxKind) (s a v b : List ℕ) (f : Forest) → l ≡ m → r ≡ q → s ≡ a → v ≡ b → between m a f q b ≡ between l s f r v
same_enclosed l m r q s a v b f e1 e2 e3 e4 = λ i. between (sym e1 i) (sym e3 i) f (sym e2 i) (sym e4 i)

pub new_node : (t : Tree) (n : ℕ) (u : Tree) → HasSameBrackets t n u → IsNewNode t n u
new_node t n u h =
    let child = only_child u h.only in
    let forest : HasForest u 0 0 None (forest_of u) = whole_forest u in
    let below : HasForest u 1 0 (Some 0) (node child.kind child.children empty) =
    subst (HasForest u 1 0 (Some 0)) child.is (inside_first u 0 0 None u.kind u.children empty forest) in
    let inner = between_brackets u 1 0 (Some 0) child.kind child.children empty below h.new in
    let place : forest_of u ≡ filled (inside u.kind (here empty) empty) child.kind child.children = ap (λ f. node u.kind f empty) child.is in
    let kind : child.kind ≡ (item t n).kind =
    sym (shown u 1 (inside u.kind (here empty) empty) child.kind child.children place refl).kind ∙ sym h.kind in
    record {
      edited = inner.inside;
      is = child.is ∙ ap (λ k. node k child.children empty) kind
          ∙ ap (λ f. node (item t n).kind f empty) (inner.is ∙ same_enclosed _ _ _ _ _ _ _ _ inner.inside h.opening.kind h.closing.kind h.opening.text
          h.closing.text);
    }

-- the tree in which the new node replaces the old one, as a context with that node
pub spliced_tree : (t u v : Tree) (n : ℕ) (s : IsSite t n) (m : IsNewNode t n u) → IsSpliced t n u v
    → v ≡ rooted (filled s.place (item t n).kind (enclosed t n m.edited))
spliced_tree t u v n s m h =
    let e : forest_of v ≡ node NODE_ROOT (filled s.place (item t n).kind (enclosed t n m.edited)) empty =
    h (inside NODE_ROOT s.place empty) (item t n).kind (enclosed t n s.inner) (item t n).kind (enclosed t n m.edited) s.whole s.number m.is in
    λ i. record { kind = ap kind_of e i; children = ap inside_of e i }
