-- Trees that differ in the children of one bracketed node: what a reading requires of them is the same.
use Rattle.std.proofs.Common.{◌≡◌, ℕ, true, List, Option, Some, None, refl, ap, sym, ◌∙◌, if◌then◌else◌, ◌&&◌, ◌||◌}
use Rattle.rnix_kinds.specs.declared.kinds.SyntaxKind.{SyntaxKind}
use Rattle.rnix_kinds.specs.declared.kinds.SyntaxKind.TheVariants.{NODE_LAMBDA}
use Rattle.rnix_kinds.specs.SyntaxKind.{is_fn_arg}
use Rattle.rnix_grammar.specs.AnnotatedForest.{Token, Note, AnnotatedForest, blank, token, branch, fault, ◌⊕◌, one_branch}
use Rattle.rnix_grammar.specs.TreeLevels.{operator_in, prefix_in, is_or_leaf, is_or_row, calls_or, level_of, row_level, is_atom_row}
use Rattle.rnix_grammar.specs.Operands.{first_tree, follows}
use Rattle.rnix_grammar.specs.Reports.{only_token, entry_name, is_same_name, has_entry, repeated_if, repeats}
use Rattle.rnix_grammar.specs.Levels.{binding_power}
use Rattle.rnix_grammar.specs.TokenKinds.{is_or}
use Rattle.rnix_grammar.specs.declared.rules.Part.TheVariants.{Suffix, Binary, Argument}
use Rattle.rnix_grammar.specs.Rules.{Row, ◌·◌, is_first_expected, level_at, IsFollowed}
use Rattle.rnix_proof_lemmas.proofs.EachKind.{each_kind}
use Rattle.rnix_proof_reparse.specs.Bracketed.{IsBracketed, set, recursive_set, legacy_let, list, paren, string}

-- two forests are equal except for the children of one node of the kind
pub data Swapped (k : SyntaxKind) (c e : AnnotatedForest) : AnnotatedForest → AnnotatedForest → Type 0 where
  here : {f : AnnotatedForest} → Swapped k c e (branch k c f) (branch k e f)
  past_token : {j : SyntaxKind} {t : Token} {f g : AnnotatedForest} → Swapped k c e f g → Swapped k c e (token j t f) (token j t g)
  past_branch : {j : SyntaxKind} {d f g : AnnotatedForest} → Swapped k c e f g → Swapped k c e (branch j d f) (branch j d g)
  past_fault : {n : Note} {d f g : AnnotatedForest} → Swapped k c e f g → Swapped k c e (fault n d f) (fault n d g)
  inside : {j : SyntaxKind} {d h f : AnnotatedForest} → Swapped k c e d h → Swapped k c e (branch j d f) (branch j h f)

-- the level of a bracketed node does not depend on its children, and it is no name
level_here : {k l r : SyntaxKind} → IsBracketed k l r → (c e : AnnotatedForest) → level_of k c ≡ level_of k e
level_here set c e = refl
level_here recursive_set c e = refl
level_here legacy_let c e = refl
level_here list c e = refl
level_here paren c e = refl
level_here string c e = refl

first_here : {k l r : SyntaxKind} → IsBracketed k l r → (c e f : AnnotatedForest) → first_tree (branch k c f) ≡ first_tree (branch k e f)
first_here set c e f = refl
first_here recursive_set c e f = refl
first_here legacy_let c e f = refl
first_here list c e f = refl
first_here paren c e f = refl
first_here string c e f = refl

or_here : {k l r : SyntaxKind} → IsBracketed k l r → (c e f : AnnotatedForest) → is_or_row (branch k c f) ≡ is_or_row (branch k e f)
or_here set c e f = refl
or_here recursive_set c e f = refl
or_here legacy_let c e f = refl
or_here list c e f = refl
or_here paren c e f = refl
or_here string c e f = refl

name_here : {k l r : SyntaxKind} → IsBracketed k l r → (c e f : AnnotatedForest) → entry_name (branch k c f) ≡ entry_name (branch k e f)
name_here set c e f = refl
name_here recursive_set c e f = refl
name_here legacy_let c e f = refl
name_here list c e f = refl
name_here paren c e f = refl
name_here string c e f = refl

entry_here : {k l r : SyntaxKind} → IsBracketed k l r → (name : List ℕ) (c e f : AnnotatedForest)
    → has_entry name (branch k c f) ≡ has_entry name (branch k e f)
entry_here set name c e f = refl
entry_here recursive_set name c e f = refl
entry_here legacy_let name c e f = refl
entry_here list name c e f = refl
entry_here paren name c e f = refl
entry_here string name c e f = refl

-- the operator after the first tree is the same
operator_behind : (j : SyntaxKind) (d h f : AnnotatedForest) → operator_in (branch j d f) ≡ operator_in (branch j h f)
operator_behind j d h blank = refl
operator_behind j d h (token i t f) = refl
operator_behind j d h (branch i c f) = refl
operator_behind j d h (fault n c f) = refl

operator_later : {k : SyntaxKind} {c e f g : AnnotatedForest} (j : SyntaxKind) (d : AnnotatedForest) → Swapped k c e f g
    → operator_in (branch j d f) ≡ operator_in (branch j d g)
operator_later j d here = refl
operator_later j d (past_token s) = refl
operator_later j d (past_branch s) = refl
operator_later j d (past_fault s) = refl
operator_later j d (inside s) = refl

operator_after : {k : SyntaxKind} {c e f g : AnnotatedForest} (n : Note) (d : AnnotatedForest) → Swapped k c e f g
    → operator_in (fault n d f) ≡ operator_in (fault n d g)
operator_after n d here = refl
operator_after n d (past_token s) = refl
operator_after n d (past_branch s) = refl
operator_after n d (past_fault s) = refl
operator_after n d (inside s) = refl

operator_swapped : {k : SyntaxKind} {c e f g : AnnotatedForest} → Swapped k c e f g → operator_in f ≡ operator_in g
operator_swapped {k} {c} {e} (here {f = f}) = operator_behind k c e f
operator_swapped (past_token s) = refl
operator_swapped (past_branch {j = j} {d = d} s) = operator_later j d s
operator_swapped (past_fault {n = n} {d = d} s) = operator_after n d s
operator_swapped (inside {j = j} {d = d} {h = h} {f = f} s) = operator_behind j d h f

-- the prefix operator is the same
prefix_leaf : (j : SyntaxKind) (t : Token) (f g : AnnotatedForest) → prefix_in (token j t f) ≡ prefix_in (token j t g)
prefix_leaf j t f g = each_kind (λ j. prefix_in (token j t f) ≡ prefix_in (token j t g)) (assumption) j

prefix_swapped : {k : SyntaxKind} {c e f g : AnnotatedForest} → Swapped k c e f g → prefix_in f ≡ prefix_in g
prefix_swapped here = refl
prefix_swapped (past_token {j = j} {t = t} {f = f} {g = g} s) = prefix_leaf j t f g
prefix_swapped (past_branch s) = refl
prefix_swapped (past_fault s) = refl
prefix_swapped (inside s) = refl

-- whether a forest begins with the name `or` is the same
or_leaf_swapped : {k : SyntaxKind} {c e f g : AnnotatedForest} → Swapped k c e f g → is_or_leaf f ≡ is_or_leaf g
or_leaf_swapped here = refl
or_leaf_swapped (past_token s) = refl
or_leaf_swapped (past_branch s) = refl
or_leaf_swapped (past_fault s) = refl
or_leaf_swapped (inside s) = refl

or_row_later : (j : SyntaxKind) (d f g : AnnotatedForest) → is_or_row (branch j d f) ≡ is_or_row (branch j d g)
or_row_later j d f g = each_kind (λ j. is_or_row (branch j d f) ≡ is_or_row (branch j d g)) (assumption) j

or_row_inside : (j : SyntaxKind) (d h f : AnnotatedForest) → is_or_leaf d ≡ is_or_leaf h → is_or_row (branch j d f) ≡ is_or_row (branch j h f)
or_row_inside j d h f e = each_kind (λ j. is_or_row (branch j d f) ≡ is_or_row (branch j h f)) (assumption (e)) j

lambda_later : (d f g : AnnotatedForest) → first_tree (branch NODE_LAMBDA d f) ≡ first_tree (branch NODE_LAMBDA d g)
lambda_later blank f g = refl
lambda_later (token j t d) f g = refl
lambda_later (branch j b d) f g = refl
lambda_later (fault n b d) f g = refl

first_later : (j : SyntaxKind) (d f g : AnnotatedForest) → first_tree (branch j d f) ≡ first_tree (branch j d g)
first_later j d f g = each_kind (λ j. first_tree (branch j d f) ≡ first_tree (branch j d g)) (assumption (lambda_later d f g)) j

name_inside : (j : SyntaxKind) (d h f : AnnotatedForest) → only_token d ≡ only_token h → entry_name (branch j d f) ≡ entry_name (branch j h f)
name_inside j d h f i = each_kind (λ j. entry_name (branch j d f) ≡ entry_name (branch j h f)) (assumption (i)) j

name_later : (j : SyntaxKind) (d f g : AnnotatedForest) → entry_name (branch j d f) ≡ entry_name (branch j d g)
name_later j d f g = each_kind (λ j. entry_name (branch j d f) ≡ entry_name (branch j d g)) (assumption) j

entry_inside : (name : List ℕ) (j : SyntaxKind) (d h f : AnnotatedForest) → entry_name d ≡ entry_name h
    → has_entry name (branch j d f) ≡ has_entry name (branch j h f)
entry_inside name j d h f i = each_kind (λ j. has_entry name (branch j d f) ≡ has_entry name (branch j h f))
    (assumption (ap (λ n. if is_same_name name n then true else has_entry name f) i)) j

entry_later : (name : List ℕ) (j : SyntaxKind) (d f g : AnnotatedForest) → has_entry name f ≡ has_entry name g
    → has_entry name (branch j d f) ≡ has_entry name (branch j d g)
entry_later name j d f g i = each_kind (λ j. has_entry name (branch j d f) ≡ has_entry name (branch j d g))
    (assumption (i, ap (λ n. if is_same_name name (entry_name d) then true else n) i)) j

-- a bracketed node adds no name
pub repeats_here : {k l r : SyntaxKind} → IsBracketed k l r → (b c e : AnnotatedForest) → repeats k b c ≡ repeats k b e
repeats_here set b c e = refl
repeats_here recursive_set b c e = refl
repeats_here legacy_let b c e = refl
repeats_here list b c e = refl
repeats_here paren b c e = refl
repeats_here string b c e = refl

module _ {k l r : SyntaxKind} (w : IsBracketed k l r) {c e : AnnotatedForest} where
  or_row_swapped : {f g : AnnotatedForest} → Swapped k c e f g → is_or_row f ≡ is_or_row g
  or_row_swapped (here {f = f}) = or_here w c e f
  or_row_swapped (past_token s) = refl
  or_row_swapped (past_branch {j = j} {d = d} {f = f} {g = g} s) = or_row_later j d f g
  or_row_swapped (past_fault s) = refl
  or_row_swapped (inside {j = j} {d = d} {h = h} {f = f} s) = or_row_inside j d h f (or_leaf_swapped s)

  call_or_swapped : {f g : AnnotatedForest} → Swapped k c e f g → calls_or f ≡ calls_or g
  call_or_swapped here = refl
  call_or_swapped (past_token s) = refl
  call_or_swapped (past_branch s) = or_row_swapped s
  call_or_swapped (past_fault s) = or_row_swapped s
  call_or_swapped (inside s) = refl

  level_inside : (j : SyntaxKind) {d h : AnnotatedForest} → Swapped k c e d h → level_of j d ≡ level_of j h
  level_inside j {d} {h} s = each_kind (λ j. level_of j d ≡ level_of j h)
      (assumption (ap binding_power (operator_swapped s), prefix_swapped s, ap {B = ℕ} (λ w. if w then 16 else 15) (call_or_swapped s))) j

  pub row_level_swapped : {f g : AnnotatedForest} → Swapped k c e f g → row_level f ≡ row_level g
  row_level_swapped here = level_here w c e
  row_level_swapped (past_token s) = refl
  row_level_swapped (past_branch s) = refl
  row_level_swapped (past_fault s) = refl
  row_level_swapped (inside {j = j} s) = level_inside j s

  atom_row_swapped : {f g : AnnotatedForest} → Swapped k c e f g → is_atom_row f ≡ is_atom_row g
  atom_row_swapped here = refl
  atom_row_swapped (past_token s) = refl
  atom_row_swapped (past_branch s) = refl
  atom_row_swapped (past_fault s) = refl
  atom_row_swapped (inside s) = refl

  -- the first tree of an operand is the same
  lambda_inside : {d h : AnnotatedForest} (f : AnnotatedForest) → Swapped k c e d h → first_tree (branch NODE_LAMBDA d f) ≡ first_tree (branch NODE_LAMBDA h f)
  lambda_inside f here = refl
  lambda_inside f (past_token s) = refl
  lambda_inside f (past_branch s) = refl
  lambda_inside f (past_fault s) = refl
  lambda_inside f (inside s) = refl

  first_inside : (j : SyntaxKind) {d h : AnnotatedForest} (f : AnnotatedForest) → Swapped k c e d h → first_tree d ≡ first_tree h
      → first_tree (branch j d f) ≡ first_tree (branch j h f)
  first_inside j {d} {h} f s i = each_kind (λ j. first_tree (branch j d f) ≡ first_tree (branch j h f)) (assumption (i, lambda_inside f s)) j

  pub first_swapped : {f g : AnnotatedForest} → Swapped k c e f g → first_tree f ≡ first_tree g
  first_swapped (here {f = f}) = first_here w c e f
  first_swapped (past_token s) = refl
  first_swapped (past_branch {j = j} {d = d} {f = f} {g = g} s) = first_later j d f g
  first_swapped (past_fault s) = refl
  first_swapped (inside {j = j} {f = f} s) = first_inside j f s (first_swapped s)

  -- what may follow a tree is the same
  pub follows_swapped : (i : SyntaxKind) {f g : AnnotatedForest} → Swapped k c e f g → follows i f ≡ follows i g
  follows_swapped i s = rw (row_level_swapped s, atom_row_swapped s) refl

  -- whether a node's first item is expected, and the level that an operand must have, are the same
  pub first_expected_swapped : (q : Row) (j : SyntaxKind) {d h : AnnotatedForest} → Swapped k c e (one_branch j d) (one_branch j h)
      → is_first_expected q j d ≡ is_first_expected q j h
  first_expected_swapped (Argument · q) j s = or_row_swapped s
  first_expected_swapped q j s = refl

  pub asked_swapped : (q : Row) {f g : AnnotatedForest} → Swapped k c e f g → level_at q f ≡ level_at q g
  asked_swapped (Argument · q) s = ap (λ w. if w then None else Some 16) (or_row_swapped s)
  asked_swapped q s = refl

  pub followed_swapped : (q : Row) {f g : AnnotatedForest} (next : Option SyntaxKind) → Swapped k c e f g → IsFollowed q f next → IsFollowed q g next
  followed_swapped (Suffix kind · q) (Some i) s h = sym (follows_swapped i s) ∙ h
  followed_swapped (Binary · q) (Some i) s h = sym (follows_swapped i s) ∙ h
  followed_swapped (Argument · q) (Some i) s h = sym (ap (λ w. (is_fn_arg i || is_or i) && w) (follows_swapped i s)) ∙ h
  followed_swapped q next s h = tt

  -- the entries of a pattern are the same
  token_swapped : {f g : AnnotatedForest} → Swapped k c e f g → only_token f ≡ only_token g
  token_swapped here = refl
  token_swapped (past_token s) = refl
  token_swapped (past_branch s) = refl
  token_swapped (past_fault s) = refl
  token_swapped (inside s) = refl

  name_swapped : {f g : AnnotatedForest} → Swapped k c e f g → entry_name f ≡ entry_name g
  name_swapped (here {f = f}) = name_here w c e f
  name_swapped (past_token s) = refl
  name_swapped (past_branch {j = j} {d = d} {f = f} {g = g} s) = name_later j d f g
  name_swapped (past_fault s) = refl
  name_swapped (inside {j = j} {d = d} {h = h} {f = f} s) = name_inside j d h f (token_swapped s)

  entry_swapped : (name : List ℕ) {f g : AnnotatedForest} → Swapped k c e f g → has_entry name f ≡ has_entry name g
  entry_swapped name (here {f = f}) = entry_here w name c e f
  entry_swapped name (past_token s) = entry_swapped name s
  entry_swapped name (past_branch {j = j} {d = d} {f = f} {g = g} s) = entry_later name j d f g (entry_swapped name s)
  entry_swapped name (past_fault s) = entry_swapped name s
  entry_swapped name (inside {j = j} {d = d} {h = h} {f = f} s) = entry_inside name j d h f (name_swapped s)

  repeated_swapped : (name : Option Token) {f g : AnnotatedForest} → Swapped k c e f g → repeated_if name f ≡ repeated_if name g
  repeated_swapped None s = refl
  repeated_swapped (Some t) s = rw (entry_swapped t.text s) refl

  pub repeats_before : (j : SyntaxKind) (d : AnnotatedForest) {f g : AnnotatedForest} → Swapped k c e f g → repeats j f d ≡ repeats j g d
  repeats_before j d {f} {g} s = each_kind (λ j. repeats j f d ≡ repeats j g d) (assumption (repeated_swapped (entry_name d) s)) j

  pub repeats_inside : (j : SyntaxKind) (b : AnnotatedForest) {d h : AnnotatedForest} → Swapped k c e d h → repeats j b d ≡ repeats j b h
  repeats_inside j b {d} {h} s = each_kind (λ j. repeats j b d ≡ repeats j b h) (assumption (ap (λ n. repeated_if n b) (name_swapped s))) j

-- two such forests with the same trees before or after them
pub swapped_first : {k : SyntaxKind} {c e f g : AnnotatedForest} (x : AnnotatedForest) → Swapped k c e f g → Swapped k c e (f ⊕ x) (g ⊕ x)
swapped_first x here = here
swapped_first x (past_token s) = past_token (swapped_first x s)
swapped_first x (past_branch s) = past_branch (swapped_first x s)
swapped_first x (past_fault s) = past_fault (swapped_first x s)
swapped_first x (inside s) = inside s

pub swapped_behind : {k : SyntaxKind} {c e f g : AnnotatedForest} (b : AnnotatedForest) → Swapped k c e f g → Swapped k c e (b ⊕ f) (b ⊕ g)
swapped_behind blank s = s
swapped_behind (token j t b) s = past_token (swapped_behind b s)
swapped_behind (branch j d b) s = past_branch (swapped_behind b s)
swapped_behind (fault n d b) s = past_fault (swapped_behind b s)
