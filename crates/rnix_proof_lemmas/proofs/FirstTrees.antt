-- Forests that begin with one tree.
use Rattle.std.proofs.Common.{◌≡◌, refl}
use Rattle.{rnix_kinds.specs.declared.kinds.SyntaxKind.{SyntaxKind, TheVariants.NODE_LAMBDA}, rnix_grammar.specs.AnnotatedForest.{Token, Note, AnnotatedForest}}
use Rattle.rnix_grammar.specs.{AnnotatedForest.{blank, token, branch, fault, ◌⊕◌}, TreeLevels.{operator_in, calls_or, is_or_row}, Operands.first_tree}

-- a forest of one tree
pub data IsSingle : AnnotatedForest → Type 0 where
  a_node : {k : SyntaxKind} {c : AnnotatedForest} → IsSingle (branch k c blank)
  an_error : {n : Note} {c : AnnotatedForest} → IsSingle (fault n c blank)

-- the trees after the first one do not change its kind
first_rest : (k : SyntaxKind) (c f g : AnnotatedForest) → first_tree (branch k c f) ≡ first_tree (branch k c g)
first_rest NODE_LAMBDA blank f g = refl
first_rest NODE_LAMBDA (token i t h) f g = refl
first_rest NODE_LAMBDA (branch i e h) f g = refl
first_rest NODE_LAMBDA (fault i e h) f g = refl
first_rest _ c f g = refl

-- the first tree of a forest that begins with one tree is that tree's
pub first_in : (x g : AnnotatedForest) → IsSingle x → first_tree (x ⊕ g) ≡ first_tree x
first_in _ g (a_node {k = k} {c = c}) = first_rest k c g blank
first_in _ g an_error = refl

-- the operator after a single tree is found
pub single_operator : (x f : AnnotatedForest) (j : SyntaxKind) (t : Token) → IsSingle x → operator_in (x ⊕ token j t f) ≡ j
single_operator _ f j t a_node = refl
single_operator _ f j t an_error = refl

-- whether a call's argument is the name `or` is decided by the trees after a single tree
pub single_calls : (x g : AnnotatedForest) → IsSingle x → calls_or (x ⊕ g) ≡ is_or_row g
single_calls _ g a_node = refl
single_calls _ g an_error = refl
