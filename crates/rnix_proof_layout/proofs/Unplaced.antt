-- Trees without the ranges of their tokens: the rules of a reading do not depend on the ranges in trees.
use Rattle.std.proofs.Common.{◌≡◌, ℕ, List, Option, Some, None, refl, ap, sym, ◌∙◌, if◌then◌else◌, ◌&&◌, ◌||◌}
use Rattle.{rnix_kinds.specs.{declared.kinds.SyntaxKind.{SyntaxKind, TheVariants.NODE_LAMBDA}, SyntaxKind.is_fn_arg}, rnix_green.specs.Range.Extent}
use Rattle.rnix_grammar.specs.{AnnotatedForest.{Token, AnnotatedForest, blank, token, branch, fault, ◌⊕◌, one_branch, tokens_in}, TreeLevels.operator_in}
use Rattle.rnix_grammar.specs.{TreeLevels.{prefix_in, is_or_leaf, is_or_row, calls_or, level_of, row_level, is_atom_row}, Operands.{first_tree, follows}}
use Rattle.rnix_grammar.specs.{declared.rules.Part.TheVariants.{Suffix, Binary, Argument}, TokenKinds.is_or, Rules.{Row, ◌·◌, is_first_expected, level_at}}
use Rattle.{rnix_grammar.specs.{Rules.IsFollowed, Levels.binding_power}, rnix_proof_lemmas.proofs.EachKind.each_kind}
use Rattle.rnix_proof_layout.proofs.MovedItems.{moved_trees, later, past}

-- a token without its range
abbrev pub unplaced_token : Token → Token
unplaced_token t = record { kind = t.kind; text = t.text; start = 0; end = 0 }

-- trees whose tokens have no ranges
abbrev pub unplaced : AnnotatedForest → AnnotatedForest
unplaced blank = blank
unplaced (token k t f) = token k (unplaced_token t) (unplaced f)
unplaced (branch k c f) = branch k (unplaced c) (unplaced f)
unplaced (fault n c f) = fault n (unplaced c) (unplaced f)

pub unplaced-⊕ : (f g : AnnotatedForest) → unplaced (f ⊕ g) ≡ unplaced f ⊕ unplaced g
unplaced-⊕ blank g = refl
unplaced-⊕ (token k t f) g = ap (λ x. token k (unplaced_token t) x) (unplaced-⊕ f g)
unplaced-⊕ (branch k c f) g = ap (λ x. branch k (unplaced c) x) (unplaced-⊕ f g)
unplaced-⊕ (fault n c f) g = ap (λ x. fault n (unplaced c) x) (unplaced-⊕ f g)

-- trees with other ranges are the same without ranges
pub unplaced_moved : (f : AnnotatedForest) (ps : List Extent) → unplaced (moved_trees f ps) ≡ unplaced f
unplaced_moved blank ps = refl
unplaced_moved (token k t f) ps = ap (λ x. token k (unplaced_token t) x) (unplaced_moved f (later ps))
unplaced_moved (branch k c f) ps =
    ap (λ x. branch k x (unplaced (moved_trees f (past (tokens_in c) ps)))) (unplaced_moved c ps)
    ∙ ap (λ x. branch k (unplaced c) x) (unplaced_moved f (past (tokens_in c) ps))
unplaced_moved (fault n c f) ps =
    ap (λ x. fault n x (unplaced (moved_trees f (past (tokens_in c) ps)))) (unplaced_moved c ps)
    ∙ ap (λ x. fault n (unplaced c) x) (unplaced_moved f (past (tokens_in c) ps))

-- a function that does not depend on ranges has equal values for trees that are the same without ranges
pub alike : {A : Type 0} (F : AnnotatedForest → A) → ((x : AnnotatedForest) → F (unplaced x) ≡ F x) → (x y : AnnotatedForest) → unplaced x ≡ unplaced y
    → F x ≡ F y
alike F h x y e = sym (h x) ∙ ap F e ∙ h y

or_leaf : (x : AnnotatedForest) → is_or_leaf (unplaced x) ≡ is_or_leaf x
or_leaf blank = refl
or_leaf (token k t f) = refl
or_leaf (branch k c f) = refl
or_leaf (fault n c f) = refl

pub or_row : (x : AnnotatedForest) → is_or_row (unplaced x) ≡ is_or_row x
or_row blank = refl
or_row (token k t f) = refl
or_row (branch k c f) = each_kind (λ k. is_or_row (branch k (unplaced c) (unplaced f)) ≡ is_or_row (branch k c f)) (assumption (or_leaf c)) k
or_row (fault n c f) = refl

pub call_or : (x : AnnotatedForest) → calls_or (unplaced x) ≡ calls_or x
call_or blank = refl
call_or (token k t f) = refl
call_or (branch k c f) = or_row f
call_or (fault n c f) = or_row f

operator_same : (x : AnnotatedForest) → operator_in (unplaced x) ≡ operator_in x
operator_same blank = refl
operator_same (token k t f) = refl
operator_same (branch k c blank) = refl
operator_same (branch k c (token j t f)) = refl
operator_same (branch k c (branch j d f)) = refl
operator_same (branch k c (fault n d f)) = refl
operator_same (fault n c blank) = refl
operator_same (fault n c (token j t f)) = refl
operator_same (fault n c (branch j d f)) = refl
operator_same (fault n c (fault m d f)) = refl

prefix_same : (x : AnnotatedForest) → prefix_in (unplaced x) ≡ prefix_in x
prefix_same blank = refl
prefix_same (token k t f) = each_kind (λ k. prefix_in (token k (unplaced_token t) (unplaced f)) ≡ prefix_in (token k t f)) (assumption) k
prefix_same (branch k c f) = refl
prefix_same (fault n c f) = refl

level_same : (k : SyntaxKind) (c : AnnotatedForest) → level_of k (unplaced c) ≡ level_of k c
level_same k c = each_kind (λ k. level_of k (unplaced c) ≡ level_of k c)
    (assumption (ap binding_power (operator_same c), prefix_same c, ap {B = ℕ} (λ w. if w then 16 else 15) (call_or c))) k

pub row_level_same : (x : AnnotatedForest) → row_level (unplaced x) ≡ row_level x
row_level_same blank = refl
row_level_same (token k t f) = refl
row_level_same (branch k c f) = level_same k c
row_level_same (fault n c f) = refl

pub atom_row_same : (x : AnnotatedForest) → is_atom_row (unplaced x) ≡ is_atom_row x
atom_row_same blank = refl
atom_row_same (token k t f) = refl
atom_row_same (branch k c f) = refl
atom_row_same (fault n c f) = refl

-- the first tree of an operand does not depend on ranges
lambda_same : (c f : AnnotatedForest) → first_tree (branch NODE_LAMBDA (unplaced c) (unplaced f)) ≡ first_tree (branch NODE_LAMBDA c f)
lambda_same blank f = refl
lambda_same (token k t g) f = refl
lambda_same (branch k d g) f = refl
lambda_same (fault n d g) f = refl

first_in : (k : SyntaxKind) (c f : AnnotatedForest) → first_tree (unplaced c) ≡ first_tree c
    → first_tree (branch k (unplaced c) (unplaced f)) ≡ first_tree (branch k c f)
first_in k c f h = each_kind (λ k. first_tree (branch k (unplaced c) (unplaced f)) ≡ first_tree (branch k c f)) (assumption (h, lambda_same c f)) k

pub first_same : (x : AnnotatedForest) → first_tree (unplaced x) ≡ first_tree x
first_same blank = refl
first_same (token k t f) = refl
first_same (branch k c f) = first_in k c f (first_same c)
first_same (fault n c f) = refl

-- what may follow a tree does not depend on ranges
pub follows_same : (k : SyntaxKind) (x : AnnotatedForest) → follows k (unplaced x) ≡ follows k x
follows_same k x = rw (row_level_same x, atom_row_same x) refl

-- whether a node's first item is expected, and the level that an operand must have, do not depend on ranges
pub first_expected_same : (q : Row) (k : SyntaxKind) (c : AnnotatedForest) → is_first_expected q k (unplaced c) ≡ is_first_expected q k c
first_expected_same (Argument · r) k c = or_row (one_branch k c)
first_expected_same q k c = refl

pub asked_same : (q : Row) (x : AnnotatedForest) → level_at q (unplaced x) ≡ level_at q x
asked_same (Argument · r) x = ap (λ w. if w then None else Some 16) (or_row x)
asked_same q x = refl

-- what may follow the first tree of an operation, a call or a selection does not depend on ranges
pub followed_same : (q : Row) (x y : AnnotatedForest) (next : Option SyntaxKind) → unplaced x ≡ unplaced y → IsFollowed q x next → IsFollowed q y next
followed_same (Suffix kind · r) x y (Some k) e h = sym (alike (follows k) (follows_same k) x y e) ∙ h
followed_same (Binary · r) x y (Some k) e h = sym (alike (follows k) (follows_same k) x y e) ∙ h
followed_same (Argument · r) x y (Some k) e h = sym (ap (λ w. (is_fn_arg k || is_or k) && w) (alike (follows k) (follows_same k) x y e)) ∙ h
followed_same q x y next e h = tt
