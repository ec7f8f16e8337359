-- The conditions on the first child of a row, and on a child at a position of it.
use Rattle.std.proofs.Common.{◌≡◌, ℕ, Bool, true, false, List, [], ◌∷◌, Option, Some, None, refl, ap, sym, ◌∙◌, subst, suc, if◌then◌else◌}
use Rattle.rnix_kinds.specs.{declared.kinds.SyntaxKind.{SyntaxKind}, declared.kinds.SyntaxKind.TheVariants.{NODE_LITERAL}, SyntaxKind.{is_token}}
use Rattle.{rnix_kinds.proofs.AllKinds.{implied}, rnix_green.specs.Equality.{same_kind}}
use Rattle.rnix_grammar.specs.{declared.rules.Part.TheVariants.{Child, Atom, First, Suffix, Binary, Argument, Operand, Many}, AnnotatedForest.{Token}}
use Rattle.rnix_grammar.specs.{AnnotatedForest.{AnnotatedForest, blank, head_kind, touches}, NodeClasses.{fits, is_expression}, Rules.{Row, ◌·◌, ◌or◌, only, after}}
use Rattle.rnix_grammar.specs.Rules.{expects, expects_item, expects_end, IsExpected, IsFollowed, level_at, counts, is_first_expected}
use Rattle.rnix_grammar.specs.{FirstKinds.{IsOperandOf}, Reads.{IsRoom, deeper}}
use Rattle.rnix_proof_lemmas.proofs.{Basics.{true_is_not_false, not_if, some_same}, EveryKind.{same}, LevelLemmas.{atom_fits}, KindsOfNodes.{fits_expression}}

-- a row begins with a child that every such node has
abbrev pub is_front : Row → Bool
is_front (Child kind · r) = true
is_front (Atom · r) = true
is_front (First m · r) = true
is_front (r or s) = true
is_front r = false

-- the next child is not an operand
pub record HasNoOperand (r : Row) : Type 0 where
  pub operand : (x y : AnnotatedForest) (us : List Token) → IsOperandOf (level_at r x) y us
  pub room : (d : ℕ) → IsRoom r d
  pub deep : (d : ℕ) → deeper r d ≡ d

pub no_operand : (r : Row) → ((x : AnnotatedForest) → level_at r x ≡ None) → counts r ≡ false → HasNoOperand r
no_operand r l c = record {
  operand = λ x y us. subst (λ l. IsOperandOf l y us) (sym (l x)) tt;
  room = λ d e. absurd (true_is_not_false (sym e ∙ c));
  deep = λ d. ap (λ w. if w then suc d else d) c;
}

-- the next child has no conditions
pub record IsFront (r : Row) : Type 0 where
  pub expected : (n : ℕ) (ts : List Token) (own : Bool) → IsExpected r n ts own
  pub followed : (x : AnnotatedForest) (next : Option SyntaxKind) → IsFollowed r x next
  pub no_operand : HasNoOperand r

pub front : (r : Row) → is_front r ≡ true → IsFront r
front (Child kind · r) h = record { expected = λ n ts own. tt; followed = λ x next. tt; no_operand = no_operand (Child kind · r) (λ x. refl) refl }
front (Atom · r) h = record { expected = λ n ts own. tt; followed = λ x next. tt; no_operand = no_operand (Atom · r) (λ x. refl) refl }
front (First m · r) h = record { expected = λ n ts own. tt; followed = λ x next. tt; no_operand = no_operand (First m · r) (λ x. refl) refl }
front (r or s) h = record { expected = λ n ts own. tt; followed = λ x next. tt; no_operand = no_operand (r or s) (λ x. refl) refl }
front _ h = absurd (cc)

-- the row begins with a part at which the reader may be: none that its node always has, and a series only up to a token
abbrev pub is_remaining : Row → Bool
is_remaining (Child kind · r) = false
is_remaining (Atom · r) = false
is_remaining (First m · r) = false
is_remaining (Suffix token · r) = false
is_remaining (Binary · r) = false
is_remaining (Argument · r) = false
is_remaining (r or s) = false
is_remaining (Many n closer · r) = is_token closer
is_remaining r = true

-- the tree before such a part has no condition on what follows it
pub remaining_followed : (r : Row) → is_remaining r ≡ true → (x : AnnotatedForest) (next : Option SyntaxKind) → IsFollowed r x next
remaining_followed (Suffix token · r) h x next = absurd (cc)
remaining_followed (Binary · r) h x next = absurd (cc)
remaining_followed (Argument · r) h x next = absurd (cc)
remaining_followed (_ · r) h x next = tt
remaining_followed _ h x next = tt

-- the level that such a part requires does not depend on the tree that is read there
pub left_level : (r : Row) → is_remaining r ≡ true → (x : AnnotatedForest) → level_at r x ≡ level_at r blank
left_level (Argument · r) h x = absurd (cc)
left_level _ h x = refl

-- so the next child is not an operand if no level is required
pub remaining_no_operand : (r : Row) → is_remaining r ≡ true → counts r ≡ false → level_at r blank ≡ None → HasNoOperand r
remaining_no_operand r i c l = no_operand r (λ x. left_level r i x ∙ l) c

-- whether a node's first item is expected at such a part does not depend on the node's children
pub remaining_first_expected : (r : Row) → is_remaining r ≡ true → (k : SyntaxKind) (c : AnnotatedForest)
    → is_first_expected r k c ≡ is_first_expected r k blank
remaining_first_expected (Argument · r) h k c = absurd (cc)
remaining_first_expected _ h k c = refl

-- the row expects the next item, or the end of the text
abbrev pub expects_next : Row → Bool → Option SyntaxKind → Bool
expects_next r touch None = expects_end r
expects_next r touch (Some k) = expects_item r touch k

-- the same for a list of items
pub expects_at : (r : Row) (n : ℕ) (ts : List Token) → expects r n ts ≡ expects_next r (touches n ts) (head_kind ts)
expects_at r n [] = refl
expects_at r n (t ∷ ts) = refl

-- the condition on the expected item holds for the test's result
pub expected_as : (r : Row) (n : ℕ) (ts : List Token) (own : Bool) → expects r n ts ≡ own → IsExpected r n ts own
expected_as (Child kind · r) n ts own h = tt
expected_as (Atom · r) n ts own h = tt
expected_as (First m · r) n ts own h = tt
expected_as (Suffix token · r) n ts own h = tt
expected_as (Binary · r) n ts own h = tt
expected_as (r or s) n ts own h = tt
expected_as _ n ts own h = h

-- a token's kind is not that of an expression
no_token : (closer k : SyntaxKind) → is_token closer ≡ true → is_expression k ≡ true → same_kind closer k ≡ false
no_token closer k h e = by (same_kind closer k) refl
  where
    by : (w : Bool) → same_kind closer k ≡ w → same_kind closer k ≡ false
    by true i = absurd (true_is_not_false (sym h ∙ ap is_token (same closer k i)
        ∙ not_if (is_token k) (implied is_expression (λ j. if is_token j then false else true) refl k e)))
    by false i = i

-- if operands of a level are allowed, the row continues after each that fits the level as after an error node
pub operand_goes : (r : Row) (n : ℕ) (k : SyntaxKind) → is_remaining r ≡ true → level_at r blank ≡ Some n → fits n k ≡ true → after r k ≡ after r NODE_LITERAL
operand_goes (Operand m counted · r) n k i e h =
    let j : m ≡ n = some_same m n e in ap (λ w. only w r) (ap (λ m. fits m k) j ∙ h ∙ sym (atom_fits m NODE_LITERAL refl))
operand_goes (Many m closer · r) n k i e h =
    let j : m ≡ n = some_same m n e in
    let goes : (k : SyntaxKind) → fits m k ≡ true → after (Many m closer · r) k ≡ Many m closer · r =
    λ k h. ap (λ w. if w then r else only (fits m k) (Many m closer · r)) (no_token closer k i (fits_expression m k h))
    ∙ ap (λ w. only w (Many m closer · r)) h in
    goes k (ap (λ m. fits m k) j ∙ h) ∙ sym (goes NODE_LITERAL (atom_fits m NODE_LITERAL refl))
operand_goes (Argument · r) n k i e h = absurd (cc)
operand_goes _ n k i e h = absurd (cc)

-- no operand is expected by its first item
pub operand_not_expected : (r : Row) (n : ℕ) (k : SyntaxKind) → is_remaining r ≡ true → level_at r blank ≡ Some n → is_first_expected r k blank ≡ false
operand_not_expected (Operand m counted · r) n k i e = refl
operand_not_expected (Many m closer · r) n k i e = refl
operand_not_expected (Argument · r) n k i e = absurd (cc)
operand_not_expected _ n k i e = absurd (cc)
