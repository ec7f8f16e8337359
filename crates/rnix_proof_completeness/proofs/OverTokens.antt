-- A tree of the grammar over its tokens, and how a forest of such trees is read, tree by tree.
use Rattle.std.{specs.List.list_all, proofs.Common.{◌≡◌, ℕ, Bool, true, false, List, [], ◌∷◌, ◌++◌, Some, refl, sym, subst, if◌then◌else◌, nat_eq}}
use Rattle.{rnix_kinds.{specs.declared.kinds.SyntaxKind.SyntaxKind, proofs.AllKinds.{all_kinds, implied}}, rnix_green.specs.Forest.{Forest, empty, leaf, node}}
use Rattle.rnix_grammar.specs.AnnotatedForest.{Token, AnnotatedForest, blank, token, branch, fault, ◌⊕◌, one_token, one_branch, tokens_in, forget, head_kind}
use Rattle.rnix_grammar.specs.{AnnotatedForest.{end_from, leaf_kind}, FirstKinds.IsOperandOf, Yield.kind_of_token, Reports.repeats, Rules.{Row, ◌·◌, ◌or◌, row}}
use Rattle.rnix_grammar.specs.{Rules.{after, expects, expects_item, IsExpected, is_first_expected, level_at, IsFollowed}, Reads.{Reads, IsRoom, IsOver, deeper}}
use Rattle.rnix_proof_lemmas.{specs.LeafKinds.HaveTokenKinds, proofs.{Basics.not_if, TokenEnds.end_behind}}
use Rattle.rnix_grammar.specs.declared.rules.Part.TheVariants as p
use Rattle.rnix_grammar.specs.Reads as read

-- each leaf of a tree is over a token, with the kind and the text that the leaf gives
pub data Over : Forest → AnnotatedForest → Type 0 where
  over_nothing : Over empty blank
  over_leaf : {k : SyntaxKind} {s : List ℕ} {t : Forest} {x : Token} {f : AnnotatedForest} → x.kind ≡ kind_of_token k s → x.text ≡ s → Over t f
      → Over (leaf k s t) (token k x f)
  over_node : {k : SyntaxKind} {c t : Forest} {b f : AnnotatedForest} → Over c b → Over t f → Over (node k c t) (branch k b f)

-- the trees of a forest without error nodes are over the forest
pub over_trees : (f : AnnotatedForest) → HaveTokenKinds f → Over (forget f) f
over_trees blank v = over_nothing
over_trees (token k x f) v = over_leaf v.1 refl (over_trees f v.2)
over_trees (branch k c f) v = over_node (over_trees c v.0) (over_trees f v.1)
over_trees (fault n c f) v = absurd v

-- a forest is read without errors, and its row may end after it
abbrev pub IsRead : SyntaxKind → ℕ → ℕ → Row → AnnotatedForest → AnnotatedForest → List Token → Type 0
IsRead p d n q g f us = (r : Row) × Reads p d n q r g us f [] × IsOver r (end_from n (tokens_in f)) us

-- a token is read, and then the rest of the forest
pub token_read : {p : SyntaxKind} {q : Row} {d n : ℕ} {g f : AnnotatedForest} {us : List Token} {k : SyntaxKind} {x : Token} → k ≡ leaf_kind p x
    → IsExpected q n (x ∷ (tokens_in f ++ us)) true → IsFollowed q g (Some k) → IsRead p d x.end (after q k) (g ⊕ one_token k x) f us
    → IsRead p d n q g (token k x f) us
token_read {p} {q} {d} {n} {g} {f} {us} {k} {x} e i w h =
    subst (λ z. IsFollowed q g (Some z) → IsRead p d x.end (after q z) (g ⊕ one_token z x) f us → IsRead p d n q g (token z x f) us) (sym e)
    (λ v r. (r.0, read.leaf i v r.1, r.2)) w h

-- a node is read, and then the rest of the forest, up to a position of the row
pub node_reads : {p : SyntaxKind} {q s z : Row} {d n : ℕ} {g f : AnnotatedForest} {us : List Token} {k : SyntaxKind} {c : AnnotatedForest} → after q k ≡ s
    → IsRoom q d
    → IsRead k (deeper q d) n (row k) blank c (tokens_in f ++ us) → IsExpected q n (tokens_in c ++ (tokens_in f ++ us)) (is_first_expected q k c)
    → IsFollowed q g (head_kind (tokens_in c ++ (tokens_in f ++ us))) → IsOperandOf (level_at q (one_branch k c)) (one_branch k c) (tokens_in f ++ us)
    → repeats k g c ≡ [] → Reads p d (end_from n (tokens_in c)) s z (g ⊕ one_branch k c) us f [] → Reads p d n q z g us (branch k c f) []
node_reads {p} {q} {s} {z} {d} {n} {g} {f} {us} {k} {c} a room inside i w o e h =
    subst (λ es. Reads p d n q z g us (branch k c f) (([] ++ es) ++ [])) e
    (read.inner room inside.1 inside.2 i w o (subst (λ y. Reads p d (end_from n (tokens_in c)) y z (g ⊕ one_branch k c) us f []) (sym a) h))

-- a node is read, and then the rest of the forest
pub node_read : {p : SyntaxKind} {q s : Row} {d n : ℕ} {g f : AnnotatedForest} {us : List Token} {k : SyntaxKind} {c : AnnotatedForest} → after q k ≡ s
    → IsRoom q d
    → IsRead k (deeper q d) n (row k) blank c (tokens_in f ++ us) → IsExpected q n (tokens_in c ++ (tokens_in f ++ us)) (is_first_expected q k c)
    → IsFollowed q g (head_kind (tokens_in c ++ (tokens_in f ++ us))) → IsOperandOf (level_at q (one_branch k c)) (one_branch k c) (tokens_in f ++ us)
    → repeats k g c ≡ [] → IsRead p d (end_from n (tokens_in c)) s (g ⊕ one_branch k c) f us → IsRead p d n q g (branch k c f) us
node_read {n = n} {f = f} {us = us} {c = c} a room inside i w o e h =
    (h.0, node_reads a room inside i w o e h.1, subst (λ m. IsOver h.0 m us) (sym (end_behind n (tokens_in c) (tokens_in f))) h.2)

-- two tests give the same result
abbrev pub alike : Bool → Bool → Bool
alike true w = w
alike false w = if w then false else true

pub alike_so : (v w : Bool) → alike v w ≡ true → v ≡ w
alike_so true w h = sym h
alike_so false w h = sym (not_if w h)

-- `w` is whether the row expects an item of the kind; any `w` will do for a row that decides without the item
abbrev pub stands_so : Row → Bool → SyntaxKind → Bool → Bool
stands_so (p.Child kind · r) touches k w = true
stands_so (p.Atom · r) touches k w = true
stands_so (p.First m · r) touches k w = true
stands_so (p.Suffix kind · r) touches k w = true
stands_so (p.Binary · r) touches k w = true
stands_so (r or s) touches k w = true
stands_so r touches k w = alike (expects_item r touches k) w

-- this holds for the next item
pub expected_so : (q : Row) (n : ℕ) (t : Token) (ts : List Token) (w : Bool) → stands_so q (nat_eq t.start n) t.kind w ≡ true → IsExpected q n (t ∷ ts) w
expected_so (p.Child kind · r) n t ts w h = tt
expected_so (p.Atom · r) n t ts w h = tt
expected_so (p.First m · r) n t ts w h = tt
expected_so (p.Suffix kind · r) n t ts w h = tt
expected_so (p.Binary · r) n t ts w h = tt
expected_so (r or s) n t ts w h = tt
expected_so q n t ts w h = alike_so (expects q n (t ∷ ts)) w h

-- the items begin with one whose kind passes a test
abbrev pub Opens : (SyntaxKind → Bool) → List Token → Type 0
Opens test [] = ⊥
Opens test (t ∷ ts) = test t.kind ≡ true

-- this holds for items that begin with a kind that passes a test, if it holds for all such kinds
pub opened_so : (q : Row) (n : ℕ) (w : Bool) (test : SyntaxKind → Bool)
    → ((b : Bool) → list_all (λ i. if test i then stands_so q b i w else true) all_kinds ≡ true)
    → (ts : List Token) → Opens test ts → IsExpected q n ts w
opened_so q n w test h [] o = absurd o
opened_so q n w test h (t ∷ ts) o = expected_so q n t ts w (implied test (λ i. stands_so q (nat_eq t.start n) i w) (h (nat_eq t.start n)) t.kind o)
