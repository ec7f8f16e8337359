-- The names of the entries of a pattern, in forests.
use Rattle.std.proofs.Common.{◌≡◌, ℕ, Bool, true, false, List, Option, None, refl, ap, sym, ◌∙◌, if◌then◌else◌, ◌&&◌}
use Rattle.{rnix_kinds.specs.declared.kinds.SyntaxKind.{SyntaxKind, TheVariants.NODE_PAT_ENTRY}, rnix_grammar.specs.AnnotatedForest.{Token, AnnotatedForest}}
use Rattle.rnix_grammar.specs.{AnnotatedForest.{blank, token, branch, fault, ◌⊕◌}, Reports.{entry_name, is_same_name, has_entry}}

-- the name of a node that is an entry of a pattern, with its trivia or without
abbrev pub name_of_items : SyntaxKind → AnnotatedForest → Option Token
name_of_items NODE_PAT_ENTRY c = entry_name c
name_of_items k c = None

-- a forest has an entry of a name if its first node is one, or the trees after it have one
pub has_branch : (name : List ℕ) (k : SyntaxKind) (c f : AnnotatedForest)
    → has_entry name (branch k c f) ≡ (if is_same_name name (name_of_items k c) then true else has_entry name f)
has_branch name NODE_PAT_ENTRY c f = refl
has_branch name _ c f = refl

-- a choice among three tests is associative
pub either_assoc : (x y z : Bool) → (if x then true else (if y then true else z)) ≡ (if (if x then true else y) then true else z)
either_assoc true y z = refl
either_assoc false y z = refl

-- two joined forests have an entry of a name if one of them has
pub has-⊕ : (name : List ℕ) (b c : AnnotatedForest) → has_entry name (b ⊕ c) ≡ (if has_entry name b then true else has_entry name c)
has-⊕ name blank c = refl
has-⊕ name (token k t f) c = has-⊕ name f c
has-⊕ name (branch k d f) c =
    has_branch name k d (f ⊕ c) ∙ ap (λ x. if is_same_name name (name_of_items k d) then true else x) (has-⊕ name f c)
    ∙ either_assoc (is_same_name name (name_of_items k d)) (has_entry name f) (has_entry name c)
    ∙ ap (λ x. if x then true else has_entry name c) (sym (has_branch name k d f))
has-⊕ name (fault n d f) c = has-⊕ name f c

-- a choice of true or false by a test is that test
pub if_not : (x : Bool) → (if x then true else false) ≡ x
if_not true = refl
if_not false = refl

-- a conjunction is true if both tests are
pub both_true : (a b : Bool) → a ≡ true → b ≡ true → (a && b) ≡ true
both_true a b h k = ap (λ x. x && b) h ∙ k
