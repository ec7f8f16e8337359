-- A text means at most one list of values, and has at most one list of data.
use Rattle.std.proofs.Common.{◌≡◌, ◌∙◌, ℕ, zero, suc, ◌+◌, ℤ, Bool, true, false, arith, List, [], ◌∷◌, ◌++◌, get_or, ap, ap₂, sym, refl, subst, Option, Some, None}
use Rattle.std.specs.Prelude.{◌<◌, ◌^◌, codes, unwrap_or, option_map, IsSomeAnd, unsigned_abs, FitsSigned, if◌then◌else◌}
use Rattle.std.specs.Int.{w64}
use Rattle.std.proofs.lemmas.Bool.{cond-false}
use Rattle.std.proofs.lemmas.Fmt.{signed_decimal_injective}
use Rattle.std.proofs.lemmas.Int.{fits_signed_from_abs}
use Rattle.rnix_kinds.specs.declared.kinds.SyntaxKind.{SyntaxKind}
use Rattle.rnix_kinds.specs.declared.kinds.SyntaxKind.TheVariants as k
use Rattle.rnix_kinds.specs.Lexical.Tokens.{Lexeme, tokens_of}
use Rattle.rnix_green.specs.Equality.{same_kind, same_kind-decides}
use Rattle.rnix_green.specs.Tree.{Tree, Located, item_of, text_at}
use Rattle.rnix_base.specs.declared.literal.LiteralKind.{LiteralKind}
use Rattle.rnix_base.specs.declared.literal.LiteralKind.TheVariants as literal
use Rattle.rnix_base.specs.Literal.{first_literal}
use Rattle.rnix_base.specs.Select.{HasKind, child_of}
use Rattle.rnix_grammar.specs.Fault.{Fault}
use Rattle.rnix_grammar.specs.Reading.{IsReading}
use Rattle.rnix.specs.NodeKinds.{is_expr}
use Rattle.nix_values.specs.Contents.{Plain, null, boolean, integer, float, text, list, set, Entry}
use Rattle.nix_data.specs.declared.nix_writer.TheConstants.{LEVELS}
use Rattle.rnix.specs.StringParts.{plain_value}
use Rattle.nix_data.specs.Meaning.{expression_text, unsigned, is_integer, is_float, word_of, HasValue, unwrapped, parts_of, IsPart, InOrder, MeansPart, Means}
use Rattle.nix_values.specs.Preorder.{preorder}
use Rattle.nix_data.specs.Misread.{is_altered, IsReadAlike}
use Rattle.nix_data.specs.Added.{values_of}
use Rattle.nix_data.specs.Written.{IsWritten, IsData, IsNoData}

-- the sorts of expressions with values
data Sort : Type 0 where
  word : Sort
  number : Sort
  string : Sort
  brackets : Sort
  braces : Sort
  other : Sort

-- the sort of a kind
abbrev sort_of : SyntaxKind → Sort
sort_of k.NODE_IDENT = word
sort_of k.NODE_LITERAL = number
sort_of k.NODE_UNARY_OP = number
sort_of k.NODE_STRING = string
sort_of k.NODE_LIST = brackets
sort_of k.NODE_ATTR_SET = braces
sort_of _ = other

-- the values of a sort
data IsOfSort : Plain → Sort → Type 0 where
  a_null : IsOfSort null word
  a_boolean : (b : Bool) → IsOfSort (boolean b) word
  an_integer : (n : ℤ) → IsOfSort (integer n) number
  a_float : (digits : List ℕ) → IsOfSort (float digits) number
  a_text : (t : List ℕ) → IsOfSort (text t) string
  a_list : IsOfSort list brackets
  a_set : IsOfSort set braces

-- the sort of an element
abbrev sort_at : Located → Sort
sort_at e = sort_of (item_of e).kind

-- an element of a kind has the sort of that kind
has_sort : (kind : SyntaxKind) (e : Located) → HasKind kind e → sort_of kind ≡ sort_at e
has_sort kind e h = ap sort_of ((same_kind-decides kind (item_of e).kind).0 h)

-- a literal, possibly with a sign, is a number
number_sort : (e : Located) (b : Bool) → same_kind k.NODE_UNARY_OP (item_of e).kind ≡ b → HasKind k.NODE_LITERAL (unsigned e) → number ≡ sort_at e
number_sort e true is h = has_sort k.NODE_UNARY_OP e is
number_sort e false is h =
    has_sort k.NODE_LITERAL e
    (subst (HasKind k.NODE_LITERAL) (cond-false (same_kind k.NODE_UNARY_OP (item_of e).kind) (unwrap_or (child_of is_expr 0 e) e) e is) h)

-- if a text is found after two tests, the second test passed
second_passed : (altered is_string : Bool) (found : Option (List ℕ)) (t : List ℕ) →
    (if altered then None else (if is_string then found else None)) ≡ Some t → is_string ≡ true
second_passed true is_string found t h = absurd (cc)
second_passed false true found t h = refl
second_passed false false found t h = absurd (cc)

-- an expression with a text is a string
string_sort : (e : Located) (t : List ℕ) → expression_text e ≡ Some t → string ≡ sort_at e
string_sort e t h =
    has_sort k.NODE_STRING e (second_passed (is_altered (text_at e)) (same_kind k.NODE_STRING (item_of e).kind) (plain_value e) t h)

-- an integer with less than 64 bits in absolute value fits in 64 bits with a sign
fits : (n : ℤ) → unsigned_abs n < 2 ^ 63 → FitsSigned w64 n
fits n few = fits_signed_from_abs w64 n few

-- a value is of the sort of its expression
value_sort : (e : Located) (a : Plain) → HasValue e a → IsOfSort a (sort_at e)
value_sort e null h = subst (IsOfSort null) (has_sort k.NODE_IDENT e h.0) a_null
value_sort e (boolean b) h = subst (IsOfSort (boolean b)) (has_sort k.NODE_IDENT e h.0) (a_boolean b)
value_sort e (integer n) h = subst (IsOfSort (integer n)) (number_sort e (same_kind k.NODE_UNARY_OP (item_of e).kind) refl h.0.0) (an_integer n)
value_sort e (float digits) h = subst (IsOfSort (float digits)) (number_sort e (same_kind k.NODE_UNARY_OP (item_of e).kind) refl h.0.0) (a_float digits)
value_sort e (text t) h = subst (IsOfSort (text t)) (string_sort e t h) (a_text t)
value_sort e list h = subst (IsOfSort list) (has_sort k.NODE_LIST e h) a_list
value_sort e set h = subst (IsOfSort set) (has_sort k.NODE_ATTR_SET e h.0) a_set

-- the keywords differ
null_differs : (b : Bool) → codes "null" ≡ word_of b → ⊥
null_differs true e = let letter : ◌≡◌ {A = ℕ} 110 116 = ap (λ l. get_or l 0 0) e in omega (arith, letter)
null_differs false e = let letter : ◌≡◌ {A = ℕ} 110 102 = ap (λ l. get_or l 0 0) e in omega (arith, letter)

words_differ : (a b : Bool) → word_of a ≡ word_of b → a ≡ b
words_differ true true e = refl
words_differ false false e = refl
words_differ true false e = let letter : ◌≡◌ {A = ℕ} 116 102 = ap (λ l. get_or l 0 0) e in absurd (omega (arith, letter))
words_differ false true e = let letter : ◌≡◌ {A = ℕ} 102 116 = ap (λ l. get_or l 0 0) e in absurd (omega (arith, letter))

-- a literal is not both an integer and a float
not_both : (l : Option LiteralKind) → is_integer l ≡ true → is_float l ≡ true → ⊥
not_both None i f = absurd (cc)
not_both (Some (literal.Integer t)) i f = absurd (cc)
not_both (Some (literal.Float t)) i f = absurd (cc)
not_both (Some (literal.Uri t)) i f = absurd (cc)

-- two values of an expression that have the same sort are equal
same_value : (e : Located) (a b : Plain) (s : Sort) → IsOfSort a s → IsOfSort b s → HasValue e a → HasValue e b → a ≡ b
same_value e _ _ _ a_null a_null p q = refl
same_value e _ _ _ a_null (a_boolean b) p q = absurd (null_differs b (sym p.1 ∙ q.1))
same_value e _ _ _ (a_boolean a) a_null p q = absurd (null_differs a (sym q.1 ∙ p.1))
same_value e _ _ _ (a_boolean a) (a_boolean b) p q = ap boolean (words_differ a b (sym p.1 ∙ q.1))
same_value e _ _ _ (an_integer m) (an_integer n) p q = ap integer (signed_decimal_injective m n (fits m p.2).sfits (fits n q.2).sfits (sym p.1 ∙ q.1))
same_value e _ _ _ (an_integer m) (a_float d) p q = absurd (not_both (first_literal (unsigned e)) p.0.1 q.0.1)
same_value e _ _ _ (a_float d) (an_integer n) p q = absurd (not_both (first_literal (unsigned e)) q.0.1 p.0.1)
same_value e _ _ _ (a_float c) (a_float d) p q = ap float (sym p.1 ∙ q.1)
same_value e _ _ _ (a_text t) (a_text u) p q = ap (λ o. text (unwrap_or o [])) (sym p ∙ q)
same_value e _ _ _ a_list a_list p q = refl
same_value e _ _ _ a_set a_set p q = refl

-- an expression has at most one value
one_value : (e : Located) (a b : Plain) → HasValue e a → HasValue e b → a ≡ b
one_value e a b p q = same_value e a b (sort_at e) (value_sort e a p) (value_sort e b q) p q

-- a child node has at most one name and value
one_part : (own : Plain) (child : Located) (m n : List ℕ) (i j : Located) → IsPart own child m i → IsPart own child n j → (m ≡ n) × (i ≡ j)
one_part null child m n i j p q = (p.0 ∙ sym q.0, sym p.1 ∙ q.1)
one_part (boolean b) child m n i j p q = (p.0 ∙ sym q.0, sym p.1 ∙ q.1)
one_part (integer z) child m n i j p q = (p.0 ∙ sym q.0, sym p.1 ∙ q.1)
one_part (float d) child m n i j p q = (p.0 ∙ sym q.0, sym p.1 ∙ q.1)
one_part (text t) child m n i j p q = (p.0 ∙ sym q.0, sym p.1 ∙ q.1)
one_part list child m n i j p q = (p.0 ∙ sym q.0, sym p.1 ∙ q.1)
one_part set child m n i j p q = (ap (λ o. unwrap_or o []) (sym p.1 ∙ q.1), ap (λ o. unwrap_or o child) (sym p.2 ∙ q.2))

-- if each node means at most one list of values, so do nodes one after another
one_order : (means : Located → List Entry → Type 0) → ((node : Located) (a b : List Entry) → means node a → means node b → a ≡ b) →
    (nodes : List Located) (a b : List Entry) → InOrder means nodes a → InOrder means nodes b → a ≡ b
one_order means one [] a b p q = p ∙ sym q
one_order means one (node ∷ nodes) a b p q =
    p.4 ∙ ap₂ (λ xs ys. xs ++ ys) (one node p.0 q.0 p.2 q.2) (one_order means one nodes p.1 q.1 p.3 q.3) ∙ sym q.4

-- a child node means at most one list of values, if its value does
one_inside : (means : List ℕ → Located → List Entry → Type 0) →
    ((name : List ℕ) (e : Located) (a b : List Entry) → means name e a → means name e b → a ≡ b) →
    (own : Plain) (child : Located) (a b : List Entry) → MeansPart means own child a → MeansPart means own child b → a ≡ b
one_inside means one own child a b p q =
    let same = one_part own child p.0 q.0 p.1 q.1 p.2 q.2 in
    one p.0 p.1 a b p.3 (subst (λ n. means n p.1 b) (sym same.0) (subst (λ i. means q.0 i b) (sym same.1) q.3))

-- an entry with these parts
abbrev entry_with : ℕ → List ℕ → Plain → Entry
entry_with d n p = record { depth = d; name = n; plain = p }

-- entries with equal parts are equal
one_entry : (a b : Entry) → a.depth ≡ b.depth → a.name ≡ b.name → a.plain ≡ b.plain → a ≡ b
one_entry a b depths names plains =
    ap (λ d. entry_with d a.name a.plain) depths ∙ ap (λ n. entry_with b.depth n a.plain) names ∙ ap (entry_with b.depth b.name) plains

-- an expression means at most one list of values
pub one_meaning : (levels depth : ℕ) (name : List ℕ) (e : Located) (a b : List Entry) → Means levels depth name e a → Means levels depth name e b → a ≡ b
unfolding Means
one_meaning zero depth name e a b p q = absurd p
one_meaning (suc levels) depth name e a b p q =
    let plains : p.0.plain ≡ q.0.plain = one_value (unwrapped e) p.0.plain q.0.plain p.2.2 q.2.2 in
    let heads : p.0 ≡ q.0 = one_entry p.0 q.0 (p.2.0 ∙ sym q.2.0) (p.2.1 ∙ sym q.2.1) plains in
    let insides : p.1 ≡ q.1 = one_order (MeansPart (Means levels (depth + 1)) p.0.plain)
    (one_inside (Means levels (depth + 1)) (one_meaning levels (depth + 1)) p.0.plain) (parts_of p.0.plain (unwrapped e)) p.1 q.1 p.3
    (subst (λ h. InOrder (MeansPart (Means levels (depth + 1)) h) (parts_of h (unwrapped e)) q.1) (sym plains) q.3) in
    p.4 ∙ ap₂ (λ x xs. x ∷ xs) heads insides ∙ sym q.4

-- an expression that was found means at most one list of values
one_found : (found : Option Located) (levels : ℕ) (a b : List Entry) → IsSomeAnd found (λ e. Means levels 0 [] e a) →
    IsSomeAnd found (λ e. Means levels 0 [] e b) → a ≡ b
one_found None levels a b p q = absurd p
one_found (Some e) levels a b p q = one_meaning levels 0 [] e a b p q

-- the root of a tree
abbrev root_at : Tree → Located
root_at t = record { tree = t; number = 0 }

-- each text has only one reading
abbrev pub IsReadOnce : Type 0
IsReadOnce = (ls : List Lexeme) (t u : Tree) (ds es : List Fault) → IsReading ls t ds → IsReading ls u es → (t ≡ u) × (ds ≡ es)

-- a text means at most one list of values, if it has only one reading
pub one_written : IsReadOnce → (bytes : List ℕ) (a b : List Entry) → IsWritten bytes a → IsWritten bytes b → a ≡ b
one_written one bytes a b p q =
    let same = one (tokens_of bytes) p.read.tree q.read.tree p.read.faults q.read.faults p.is_read.reading q.is_read.reading in
    one_found (child_of is_expr 0 (root_at p.read.tree)) LEVELS a b p.is_meant
    (subst (λ t. IsSomeAnd (child_of is_expr 0 (root_at t)) (λ e. Means LEVELS 0 [] e b)) (sym same.0) q.is_meant)

-- a text has at most one list of data, if it has only one reading
pub one_data : IsReadOnce → (bytes : List ℕ) (a b : List Entry) → IsData bytes a → IsData bytes b → a ≡ b
one_data one bytes a b p q =
    let same = one (tokens_of bytes) p.read.tree q.read.tree p.read.faults q.read.faults p.is_read.reading q.is_read.reading in
    let found : Some a ≡ Some b = sym p.has_data ∙ ap (λ t. option_map preorder (values_of (root_at t))) same.0 ∙ q.has_data in
    cc found

-- a text with data is not refused, if it has only one reading
pub data_or_none : IsReadOnce → (bytes : List ℕ) (a : List Entry) → IsData bytes a → IsNoData bytes → ⊥
data_or_none one bytes a p q =
    let same = one (tokens_of bytes) p.read.tree q.read.tree p.read.faults q.read.faults p.is_read.reading q.is_read.reading in
    let none : values_of (root_at q.read.tree) ≡ None = q.has_none (sym same.1 ∙ p.no_errors) (subst (λ t. IsReadAlike (root_at t)) same.0 p.is_alike) in
    let found : None ≡ Some a =
    sym (ap (option_map preorder) none) ∙ ap (λ t. option_map preorder (values_of (root_at t))) (sym same.0) ∙ p.has_data in
    cc found
