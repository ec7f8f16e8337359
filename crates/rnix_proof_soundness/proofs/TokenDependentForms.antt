-- What names, selections, calls and operations are in the grammar. Their names and levels depend on their tokens.
use Rattle.std.{specs.List.list_all, proofs.Common.{◌≡◌, ℕ, ◌≤◌, inl, inr, Bool, true, false, List, [], Some, None, refl, ap, sym, ◌∙◌, subst, arith}}
use Rattle.{std.proofs.{Common.{if◌then◌else◌, ◌||◌, ◌&&◌, nat_eq, nat_le}, lemmas.Bool.or_right}, rnix_kinds.specs.declared.kinds.SyntaxKind.SyntaxKind}
use Rattle.rnix_kinds.specs.declared.kinds.SyntaxKind.TheVariants.{TOKEN_CUR_POS, TOKEN_DOT, TOKEN_IDENT, TOKEN_INVERT, TOKEN_OR, TOKEN_QUESTION, TOKEN_SUB}
use Rattle.rnix_kinds.specs.declared.kinds.SyntaxKind.TheVariants.{NODE_APPLY, NODE_BIN_OP, NODE_CUR_POS, NODE_HAS_ATTR, NODE_IDENT, NODE_LAMBDA, NODE_LITERAL}
use Rattle.rnix_kinds.specs.declared.kinds.SyntaxKind.TheVariants.{NODE_PAT_BIND, NODE_PAT_ENTRY, NODE_PATTERN, NODE_SELECT, NODE_UNARY_OP}
use Rattle.{rnix_kinds.{specs.SyntaxKind.is_token, proofs.AllKinds.{all_kinds, implied}}, rnix_green.specs.Forest.{Forest, empty, leaf, node}}
use Rattle.rnix_grammar.specs.AnnotatedForest.{Token, Note, Stray, Unwanted, Extra, DoubleBind, TooDeep, AnnotatedForest, blank, token, branch, fault, ◌⊕◌}
use Rattle.rnix_grammar.specs.{AnnotatedForest.{one_token, one_branch, one_fault, leaf_kind_as}, FirstKinds.IsOperandOf, BehindErrors.{after_run, after_error}}
use Rattle.rnix_grammar.specs.{NodeClasses.{fits, is_atom, is_expression, is_infix, is_simple}, Levels.{application_level, binding_power, has_attr_level, left_of}}
use Rattle.rnix_grammar.specs.{Levels.{negation_level, inversion_level, right_of, selection_level}, Rules.{Row, never, done, ◌·◌, row, after, only, may_end}}
use Rattle.rnix_grammar.specs.{Rules.run_at, AllowedNames.{is_name_at, is_plain, is_position}, Named.{begins_with_token, is_name_allowed}, Operands.follows}
use Rattle.rnix_grammar.specs.TreeLevels.{calls_or, is_atom_row, is_or_leaf, is_or_row, level_of, operator_in, prefix_in, row_level}
use Rattle.rnix_grammar.specs.{Extensions.{holds_no_lambda, is_extension}, Repaired.{repair, repaired}, Tables.is_cur_pos, TokenKinds.is_or}
use Rattle.rnix_proof_lemmas.{specs.Spelled.is_spelled, proofs.{Basics.{choice, not_if, true_is_not_false}, EveryKind.{never as no_kind_both}}}
use Rattle.rnix_proof_lemmas.proofs.{LevelLemmas.at_most, ReachableRows.is_viable, KindsOfNodes.fits_expression}
use Rattle.rnix_proof_soundness.proofs.{RowViews.{begins_with_leaf, IsIn, Ends, ends, leads, heads, FirstNode, stands, View, view}, RowForms.are_entries_new}
use Rattle.rnix_proof_soundness.proofs.{RowForms.{is_closed, depends_on_tokens, is_value, IsMade, made, of_strict}, SoundRows.{leaf_is_token, IsName, name}}
use Rattle.rnix_proof_soundness.proofs.SoundRows.{IsEntry, Tokens, IsLeaf, IsChild, Skips, IsSound, no_part, nowhere, zero, named_value, sound_row}
use Rattle.rnix_proof_soundness.proofs.SoundRows.{level_operand}
use Rattle.rnix_grammar.specs.Grammar as G
use Rattle.rnix_grammar.specs.Tables as tables
use Rattle.rnix_grammar.specs.declared.rules.Part.TheVariants as p

-- if a row continues only if a test is true, the test is true
goes : (parent : SyntaxKind) (w : Bool) (r : Row) (b f : AnnotatedForest) → IsSound parent (only w r) b f → (w ≡ true) × IsSound parent r b f
goes i true r b f h = (refl, h)
goes i false r b f h = nowhere i b f h

-- where no run may be read, an error node is replaced by a number
as_number : (parent : SyntaxKind) (q : Row) (n : Note) (b f : AnnotatedForest) → run_at q ≡ None → may_end q ≡ false
    → Skips n q × IsSound parent (after_error q n) b f
    → ((g : Forest) → repair n g ≡ node NODE_LITERAL zero g) × IsSound parent (after q NODE_LITERAL) b f
as_number i q Stray b f e m h = ((λ g. refl), h.1)
as_number i q TooDeep b f e m h = ((λ g. refl), h.1)
as_number i q (Unwanted u) b f e m h = nowhere i b f (subst (λ w. IsSound i (after_run w) b f) e h.1)
as_number i q Extra b f e m h = absurd (true_is_not_false (sym (ap may_end h.0) ∙ m))
as_number i q DoubleBind b f e m h = absurd (true_is_not_false (sym (ap may_end h.0) ∙ m))

-- the first tree of a forest, or the number that replaces it
record IsFirst (x : AnnotatedForest) (k : SyntaxKind) (g : Forest) : Type 0 where
  stands : (n : ℕ) → n ≤ row_level x → G.Strict n k g
  atom : is_atom_row x ≡ true → G.Atom k g
  simple : is_simple k ≡ true → application_level ≤ row_level x
  operator : (j : SyntaxKind) (t : Token) (f : AnnotatedForest) → operator_in (x ⊕ token j t f) ≡ j
  calls : (f : AnnotatedForest) → calls_or (x ⊕ f) ≡ is_or_row f

closed : (parent k : SyntaxKind) (g : Forest) → is_atom k ≡ true → holds_no_lambda parent ≡ true → (if is_extension parent k g then false else true) ≡ true
    → is_closed k ≡ true
closed parent NODE_LAMBDA g a h m = absurd (true_is_not_false (sym h ∙ not_if (holds_no_lambda parent) m))
closed parent _ g a h m = a

simple_level : (k : SyntaxKind) (c : AnnotatedForest) → is_simple k ≡ true → application_level ≤ level_of k c
simple_level NODE_APPLY c h = choice (λ n. application_level ≤ n) (calls_or c) (omega arith) (omega arith)
simple_level _ c h = first_of (omega arith, assumption, cc)

tree_first : (parent k : SyntaxKind) (q : Row) {b c : AnnotatedForest} → holds_no_lambda parent ≡ true
    → ((t : Token) → is_name_at q t ≡ true → is_plain t ≡ true) → is_expression k ≡ true → IsChild parent q b k c → IsFirst (one_branch k c) k (repaired c)
tree_first parent k q {b} {c} h plain e s =
    let named = named_value q k c (λ i. plain) s.suited in
    record {
      stands = λ n l. level_operand n s e named l (or_right (nat_eq n 0) (holds_no_lambda parent) h);
      atom = λ a. s.made.atom (closed parent k (repaired c) a h s.extension) named;
      simple = simple_level k c;
      operator = λ j t f. refl;
      calls = λ f. refl;
    }

number_first : (n : Note) (c : AnnotatedForest) → IsFirst (one_fault n c) NODE_LITERAL zero
number_first n c = record {
  stands = λ m l. G.looser l (G.atom (G.literal refl));
  atom = λ h. G.literal refl;
  simple = λ h. omega arith;
  operator = λ j t f. refl;
  calls = λ f. refl;
}

-- a property that holds of what follows each first tree holds of the row
by_first : (parent : SyntaxKind) (a : SyntaxKind → Bool) (q r : Row) (P : AnnotatedForest → Forest → Type 0) → ((k : SyntaxKind) → after q k ≡ only (a k) r)
    → run_at q ≡ None → may_end q ≡ false → ((k : SyntaxKind) → a k ≡ true → is_expression k ≡ true) → holds_no_lambda parent ≡ true
    → ((t : Token) → is_name_at q t ≡ true → is_plain t ≡ true)
    → ((x f : AnnotatedForest) (k : SyntaxKind) (g : Forest) → a k ≡ true → IsFirst x k g → IsSound parent r x f → P (x ⊕ f) (node k g (repaired f)))
    → (c : AnnotatedForest) → IsSound parent q blank c → P c (repaired c)
by_first i a q r P e o m x h plain n blank s = absurd (true_is_not_false (sym s ∙ m))
by_first i a q r P e o m x h plain n (token k t f) s =
    absurd (no_kind_both is_token is_expression refl k (leaf_is_token s.0)
    (x k (goes i (a k) r (one_token k t) f (subst (λ z. IsSound i z (one_token k t) f) (e k) s.1)).0))
by_first i a q r P e o m x h plain n (branch k c f) s =
    let w = goes i (a k) r (one_branch k c) f (subst (λ z. IsSound i z (one_branch k c) f) (e k) s.1) in
    n (one_branch k c) f k (repaired c) w.0 (tree_first i k q h plain (x k w.0) s.0) w.1
by_first i a q r P e o m x h plain n (fault u c f) s =
    let v = as_number i q u (one_fault u c) f o m s in
    let w = goes i (a NODE_LITERAL) r (one_fault u c) f (subst (λ z. IsSound i z (one_fault u c) f) (e NODE_LITERAL) v.1) in
    subst (P (fault u c f)) (sym (v.0 (repaired f))) (n (one_fault u c) f NODE_LITERAL zero w.0 (number_first u c) w.1)

-- a row with a forest that is read is viable
viable : (parent : SyntaxKind) (q : Row) (b f : AnnotatedForest) → IsSound parent q b f → is_viable q ≡ true
viable i never b f s = nowhere i b f s
viable i _ b f s = refl

-- at a row where no node may be read, the forest begins with a token
abbrev Next : SyntaxKind → Row → AnnotatedForest → (AnnotatedForest → Type 0) → Type 0
Next parent q b P = (k : SyntaxKind) (t : Token) (f : AnnotatedForest) → IsLeaf parent q b k t → IsSound parent (after q k) (b ⊕ one_token k t) f
    → P (token k t f)

token_next : (parent : SyntaxKind) (q : Row) (b : AnnotatedForest) → run_at q ≡ None → may_end q ≡ false
    → list_all (λ k. if is_viable (after q k) then is_token k else true) all_kinds ≡ true → (P : AnnotatedForest → Type 0) → Next parent q b P
    → (f : AnnotatedForest) → IsSound parent q b f → P f
token_next i q b o m all P n blank s = absurd (true_is_not_false (sym s ∙ m))
token_next i q b o m all P n (token k t f) s = n k t f s.0 s.1
token_next i q b o m all P n (branch k c f) s =
    absurd (true_is_not_false (sym (implied (λ k. is_viable (after q k)) is_token all k (viable i (after q k) (b ⊕ one_branch k c) f s.1))
    ∙ not_if (is_token k) s.0.node))
token_next i q b o m all P n (fault u c f) s =
    absurd (true_is_not_false (sym (implied (λ k. is_viable (after q k)) is_token all NODE_LITERAL
    (viable i (after q NODE_LITERAL) (b ⊕ one_fault u c) f (as_number i q u (b ⊕ one_fault u c) f o m s).1))))

-- the rest of a complete row is empty
past_blank : (parent : SyntaxKind) (b f : AnnotatedForest) → IsSound parent done b f → f ≡ blank
past_blank i b blank s = refl
past_blank i b (token k t f) s = nowhere i (b ⊕ one_token k t) f s.1
past_blank i b (branch k c f) s = nowhere i (b ⊕ one_branch k c) f s.1
past_blank i b (fault Extra c f) s = no_part done refl s.0
past_blank i b (fault DoubleBind c f) s = no_part done refl s.0
past_blank i b (fault n c f) s = nowhere i (b ⊕ one_fault n c) f s.1

-- names
name_spelled : (kind : SyntaxKind) (text : List ℕ) → TOKEN_IDENT ≡ leaf_kind_as NODE_IDENT kind → is_spelled kind text ≡ true → tables.is_or text ≡ is_or kind
name_spelled TOKEN_IDENT text l h = not_if (tables.is_or text) h
name_spelled _ text l h = cc

name_tokens : (c : AnnotatedForest) → IsSound NODE_IDENT (row NODE_IDENT) blank c → IsName c
name_tokens = token_next NODE_IDENT (row NODE_IDENT) blank refl refl refl IsName next
  where
    next : Next NODE_IDENT (row NODE_IDENT) blank IsName
    next TOKEN_IDENT t f l s = subst (λ f. IsName (token TOKEN_IDENT t f)) (sym (past_blank NODE_IDENT (one_token TOKEN_IDENT t) f s))
        (name (name_spelled t.kind t.text l.kind_is l.spelled))
    next k t f l s = nowhere NODE_IDENT (one_token k t) f s

plain_parts : (v w : Bool) → (if v then false else (if w then false else true)) ≡ true → (v ≡ false) × (w ≡ false)
plain_parts true w h = absurd (true_is_not_false (sym h))
plain_parts false w h = (refl, not_if w h)

name_made : {c : AnnotatedForest} → IsName c → IsMade NODE_IDENT c (repaired c)
name_made (name {t = t} e) = record { atom = λ h n. value n; strict = λ h n. G.atom (value n); part = λ i h. G.named_attr }
  where
    value : is_plain t ≡ true → G.Atom NODE_IDENT (leaf TOKEN_IDENT t.text empty)
    value n = let w = plain_parts (is_or t.kind) (is_cur_pos t.text) n in G.named (e ∙ w.0) w.1

-- `__curPos` is spelled so
position_spelled : (kind : SyntaxKind) (text : List ℕ) → is_spelled kind text ≡ true → is_position kind text ≡ true → is_cur_pos text ≡ true
position_spelled TOKEN_CUR_POS text h n = absurd (true_is_not_false (sym h))
position_spelled _ text h n = n

position_made : (c : AnnotatedForest) → IsSound NODE_CUR_POS (row NODE_CUR_POS) blank c → IsMade NODE_CUR_POS c (repaired c)
position_made = token_next NODE_CUR_POS (row NODE_CUR_POS) blank refl refl refl (λ c. IsMade NODE_CUR_POS c (repaired c)) next
  where
    made_of : (t : Token) → is_spelled t.kind t.text ≡ true → IsMade NODE_CUR_POS (one_token TOKEN_CUR_POS t) (leaf TOKEN_CUR_POS t.text empty)
    made_of t w = record { atom = λ h n. value n; strict = λ h n. G.atom (value n); part = λ i h. tt }
      where
        value : is_position t.kind t.text ≡ true → G.Atom NODE_CUR_POS (leaf TOKEN_CUR_POS t.text empty)
        value n = G.current_position (position_spelled t.kind t.text w n)

    next : Next NODE_CUR_POS (row NODE_CUR_POS) blank (λ c. IsMade NODE_CUR_POS c (repaired c))
    next TOKEN_CUR_POS t f l s = subst (λ f. IsMade NODE_CUR_POS (token TOKEN_CUR_POS t f) (leaf TOKEN_CUR_POS t.text (repaired f)))
        (sym (past_blank NODE_CUR_POS (one_token TOKEN_CUR_POS t) f s)) (made_of t l.spelled)
    next k t f l s = nowhere NODE_CUR_POS (one_token k t) f s

-- a forest that is read has a view for the rest of its row
seen : (parent : SyntaxKind) (q : Row) (b f : AnnotatedForest) → IsSound parent q b f → View parent q (repaired f)
seen i q b f s = view i q (repaired f) (sound_row i q b f s)

-- prefix operators
prefix_strict : (c : AnnotatedForest) → IsSound NODE_UNARY_OP (row NODE_UNARY_OP) blank c → G.Strict (prefix_in c) NODE_UNARY_OP (repaired c)
prefix_strict = token_next NODE_UNARY_OP (row NODE_UNARY_OP) blank refl refl refl (λ c. G.Strict (prefix_in c) NODE_UNARY_OP (repaired c)) next
  where
    next : Next NODE_UNARY_OP (row NODE_UNARY_OP) blank (λ c. G.Strict (prefix_in c) NODE_UNARY_OP (repaired c))
    next TOKEN_SUB t f l s = by (seen NODE_UNARY_OP (p.Operand negation_level true · done) (one_token TOKEN_SUB t) f s)
      where
        by : {g : Forest} → FirstNode (IsIn NODE_UNARY_OP negation_level) Ends g → G.Strict negation_level NODE_UNARY_OP (leaf TOKEN_SUB t.text g)
        by (stands a ends) = G.negate (a refl)
    next TOKEN_INVERT t f l s = by (seen NODE_UNARY_OP (p.Operand inversion_level true · done) (one_token TOKEN_INVERT t) f s)
      where
        by : {g : Forest} → FirstNode (IsIn NODE_UNARY_OP inversion_level) Ends g → G.Strict inversion_level NODE_UNARY_OP (leaf TOKEN_INVERT t.text g)
        by (stands a ends) = G.invert (a refl)
    next k t f l s = nowhere NODE_UNARY_OP (one_token k t) f s

-- a tree and a token after it: selections, tests for attributes, binary operations
with_token : (parent : SyntaxKind) (a : SyntaxKind → Bool) (q z : Row) (P : AnnotatedForest → Forest → Type 0) → ((k : SyntaxKind) → after q k ≡ only (a k) z)
    → run_at q ≡ None → may_end q ≡ false → ((k : SyntaxKind) → a k ≡ true → is_expression k ≡ true) → holds_no_lambda parent ≡ true
    → ((t : Token) → is_name_at q t ≡ true → is_plain t ≡ true) → run_at z ≡ None → may_end z ≡ false
    → list_all (λ k. if is_viable (after z k) then is_token k else true) all_kinds ≡ true
    → ((x : AnnotatedForest) (k : SyntaxKind) (g : Forest) → IsFirst x k g → Next parent z x (λ f. P (x ⊕ f) (node k g (repaired f))))
    → (c : AnnotatedForest) → IsSound parent q blank c → P c (repaired c)
with_token i a q z P e o m x h plain u v all next = by_first i a q z P e o m x h plain
    (λ x f k g y first s. token_next i z x u v all (λ f. P (x ⊕ f) (node k g (repaired f))) (next x k g first) f s)

select_strict : (c : AnnotatedForest) → IsSound NODE_SELECT (row NODE_SELECT) blank c → G.Strict selection_level NODE_SELECT (repaired c)
select_strict = with_token NODE_SELECT is_atom (row NODE_SELECT) (p.Suffix TOKEN_DOT · behind) (λ c g. G.Strict selection_level NODE_SELECT g)
    (λ k. refl) refl refl (implied is_atom is_expression refl) refl (λ t e. e) refl refl refl next
  where
    behind : Row
    behind = p.Attrpath · p.EndOr TOKEN_OR · p.Operand selection_level false · done

    by : {k : SyntaxKind} {g h : Forest} (t : List ℕ) → G.Atom k g → View NODE_SELECT behind h
        → G.Strict selection_level NODE_SELECT (node k g (leaf TOKEN_DOT t h))
    by t a (heads m b (inl (leads (stands e ends)))) = G.select_or a m (e refl)
    by t a (heads m b (inr ends)) = G.select a m

    next : (x : AnnotatedForest) (k : SyntaxKind) (g : Forest) → IsFirst x k g
        → Next NODE_SELECT (p.Suffix TOKEN_DOT · behind) x (λ f. G.Strict selection_level NODE_SELECT (node k g (repaired f)))
    next x k g a TOKEN_DOT t f l s = by t.text (a.atom l.followed) (seen NODE_SELECT behind (x ⊕ one_token TOKEN_DOT t) f s)
    next x k g a j t f l s = nowhere NODE_SELECT (x ⊕ one_token j t) f s

has_strict : (c : AnnotatedForest) → IsSound NODE_HAS_ATTR (row NODE_HAS_ATTR) blank c → G.Strict has_attr_level NODE_HAS_ATTR (repaired c)
has_strict = with_token NODE_HAS_ATTR (fits has_attr_level) (row NODE_HAS_ATTR) (p.Suffix TOKEN_QUESTION · p.Attrpath · done)
    (λ c g. G.Strict has_attr_level NODE_HAS_ATTR g) (λ k. refl) refl refl (fits_expression has_attr_level) refl (λ t e. e) refl refl refl next
  where
    by : {k : SyntaxKind} {g h : Forest} (t : List ℕ) → G.Strict has_attr_level k g → View NODE_HAS_ATTR (p.Attrpath · done) h
        → G.Strict has_attr_level NODE_HAS_ATTR (node k g (leaf TOKEN_QUESTION t h))
    by t a (heads m b ends) = G.has_attr a m

    next : (x : AnnotatedForest) (k : SyntaxKind) (g : Forest) → IsFirst x k g
        → Next NODE_HAS_ATTR (p.Suffix TOKEN_QUESTION · p.Attrpath · done) x (λ f. G.Strict has_attr_level NODE_HAS_ATTR (node k g (repaired f)))
    next x k g a TOKEN_QUESTION t f l s = by t.text (a.stands has_attr_level (at_most has_attr_level (row_level x) l.followed))
        (seen NODE_HAS_ATTR (p.Attrpath · done) (x ⊕ one_token TOKEN_QUESTION t) f s)
    next x k g a j t f l s = nowhere NODE_HAS_ATTR (x ⊕ one_token j t) f s

-- binary operators
then_part : (w u v : Bool) → w ≡ true → (if w then u else v) ≡ true → u ≡ true
then_part true u v e h = h
then_part false u v e h = absurd (true_is_not_false (sym e))

operated : {x : AnnotatedForest} {k j : SyntaxKind} {g h : Forest} {t : List ℕ} → IsFirst x k g → is_infix j ≡ true → follows j x ≡ true
    → FirstNode (IsIn NODE_BIN_OP (right_of j)) Ends h → G.Strict (binding_power j) NODE_BIN_OP (node k g (leaf j t h))
operated {x = x} {j = j} a i o (stands b ends) = G.binary i (a.stands (left_of j)
    (at_most (left_of j) (row_level x) (then_part (is_infix j) (nat_le (left_of j) (row_level x)) _ i o)))
    (b (implied is_infix (λ o. nat_le (right_of o) selection_level && (nat_eq (right_of o) 0 || holds_no_lambda NODE_BIN_OP)) refl j i))

operator_strict : (c : AnnotatedForest) → IsSound NODE_BIN_OP (row NODE_BIN_OP) blank c → G.Strict (binding_power (operator_in c)) NODE_BIN_OP (repaired c)
operator_strict = with_token NODE_BIN_OP (fits 12) (row NODE_BIN_OP) (p.Binary · done) (λ c g. G.Strict (binding_power (operator_in c)) NODE_BIN_OP g)
    (λ k. refl) refl refl (fits_expression 12) refl (λ t e. e) refl refl refl next
  where
    next : (x : AnnotatedForest) (k : SyntaxKind) (g : Forest) → IsFirst x k g
        → Next NODE_BIN_OP (p.Binary · done) x (λ f. G.Strict (binding_power (operator_in (x ⊕ f))) NODE_BIN_OP (node k g (repaired f)))
    next x k g a j t f l s =
        let v = goes NODE_BIN_OP (is_infix j) (p.Operand (right_of j) false · done) (x ⊕ one_token j t) f s in
        subst (λ o. G.Strict (binding_power o) NODE_BIN_OP (node k g (leaf j t.text (repaired f)))) (sym (a.operator j t f))
        (operated a v.0 l.followed (seen NODE_BIN_OP (p.Operand (right_of j) false · done) (x ⊕ one_token j t) f v.1))

-- calls
called_value : (k : SyntaxKind) (c : AnnotatedForest) → Tokens k c → is_or_row (one_branch k c) ≡ false → is_name_allowed (p.Argument · done) k c ≡ true
    → is_value k c ≡ true
called_value NODE_IDENT c h o n = by h o n
  where
    by : {g : AnnotatedForest} → IsName g → is_or_leaf g ≡ false → is_name_allowed (p.Argument · done) NODE_IDENT g ≡ true → is_value NODE_IDENT g ≡ true
    by (name {t = t} e) o n = ap (λ z. if z then false else (if is_cur_pos t.text then false else true)) o
        ∙ sym (ap (λ z. if z then true else (if is_cur_pos t.text then false else true)) o) ∙ n
called_value k c h o n = named_value (p.Argument · done) k c (λ e. absurd (cc)) n

module _ (x : AnnotatedForest) (k : SyntaxKind) (g : Forest) (a : IsFirst x k g) (tight : application_level ≤ row_level x) where
  or_argument : (j : SyntaxKind) (d : AnnotatedForest) → IsChild NODE_APPLY (p.Argument · done) x j d → is_or_row (one_branch j d) ≡ true
      → G.Strict selection_level NODE_APPLY (node k g (node j (repaired d) empty))
  or_argument NODE_IDENT d s o = by s.tokens o (s.called o)
    where
      by : {c : AnnotatedForest} → IsName c → is_or_leaf c ≡ true → is_atom_row x ≡ true
          → G.Strict selection_level NODE_APPLY (node k g (node NODE_IDENT (repaired c) empty))
      by (name e) o h = G.apply_or (a.atom h) (e ∙ o)
  or_argument _ d s o = absurd (true_is_not_false (sym o))

  argument : (j : SyntaxKind) (d : AnnotatedForest) → is_simple j ≡ true → IsChild NODE_APPLY (p.Argument · done) x j d
      → G.Strict (if is_or_row (one_branch j d) then selection_level else application_level) NODE_APPLY (node k g (node j (repaired d) empty))
  argument j d i s = by (is_or_row (one_branch j d)) refl
    where
      by : (w : Bool) → is_or_row (one_branch j d) ≡ w
          → G.Strict (if w then selection_level else application_level) NODE_APPLY (node k g (node j (repaired d) empty))
      by true o = or_argument j d s o
      by false o = G.apply (a.stands application_level tight) (level_operand selection_level s (implied is_simple is_expression refl j i)
          (called_value j d s.tokens o s.suited)
          (subst (λ w. IsOperandOf (if w then None else Some selection_level) (one_branch j d) s.next) o s.operand).0 refl)

  argued : (f : AnnotatedForest) → IsSound NODE_APPLY (p.Argument · done) x f
      → G.Strict (if is_or_row f then selection_level else application_level) NODE_APPLY (node k g (repaired f))
  argued blank s = absurd (true_is_not_false (sym s))
  argued (token j t f) s = absurd (no_kind_both is_token is_simple refl j (leaf_is_token s.0) (goes NODE_APPLY (is_simple j) done (x ⊕ one_token j t) f s.1).0)
  argued (branch j d f) s =
      let v = goes NODE_APPLY (is_simple j) done (x ⊕ one_branch j d) f s.1 in
      subst (λ f. G.Strict (if is_or_row (branch j d f) then selection_level else application_level) NODE_APPLY (node k g (node j (repaired d) (repaired f))))
      (sym (past_blank NODE_APPLY (x ⊕ one_branch j d) f v.1))
      (argument j d v.0 s.0)
  argued (fault n c f) s =
      let v = as_number NODE_APPLY (p.Argument · done) n (x ⊕ one_fault n c) f refl refl s in
      subst (λ h. G.Strict application_level NODE_APPLY (node k g h))
      (ap (λ f. node NODE_LITERAL zero (repaired f)) (sym (past_blank NODE_APPLY (x ⊕ one_fault n c) f v.1)) ∙ sym (v.0 (repaired f)))
      (G.apply (a.stands application_level tight) (G.atom (G.literal refl)))

call_strict : (c : AnnotatedForest) → IsSound NODE_APPLY (row NODE_APPLY) blank c → G.Strict (level_of NODE_APPLY c) NODE_APPLY (repaired c)
call_strict = by_first NODE_APPLY is_simple (row NODE_APPLY) (p.Argument · done) (λ c g. G.Strict (level_of NODE_APPLY c) NODE_APPLY g) (λ k. refl) refl refl
    (implied is_simple is_expression refl) refl (λ t e. e)
    (λ x f k g i a s. subst (λ w. G.Strict (if w then selection_level else application_level) NODE_APPLY (node k g (repaired f))) (sym (a.calls f))
    (argued x k g a (a.simple i) f s))

-- the children of each node whose form depends on tokens have their form
made_led : (k : SyntaxKind) (c : AnnotatedForest) → depends_on_tokens k ≡ true → IsSound k (row k) blank c → IsMade k c (repaired c)
made_led NODE_IDENT c e s = name_made (name_tokens c s)
made_led NODE_CUR_POS c e s = position_made c s
made_led NODE_SELECT c e s = of_strict refl (select_strict c s) tt
made_led NODE_HAS_ATTR c e s = of_strict refl (has_strict c s) tt
made_led NODE_APPLY c e s = of_strict refl (call_strict c s) tt
made_led NODE_UNARY_OP c e s = of_strict refl (prefix_strict c s) tt
made_led NODE_BIN_OP c e s = of_strict refl (operator_strict c s) tt
made_led _ c e s = absurd (true_is_not_false (sym e))

pub sound_made : (k : SyntaxKind) (c : AnnotatedForest) → IsSound k (row k) blank c → (k ≡ NODE_PATTERN → are_entries_new [] (repaired c) ≡ true)
    → IsMade k c (repaired c)
sound_made k c s n = by (depends_on_tokens k) refl
  where
    by : (w : Bool) → depends_on_tokens k ≡ w → IsMade k c (repaired c)
    by true e = made_led k c e s
    by false e = made k c (repaired c) e (seen k (row k) blank c s) n

-- what is known of the tokens of an entry
entry_tokens : (c : AnnotatedForest) → IsSound NODE_PAT_ENTRY (row NODE_PAT_ENTRY) blank c → IsEntry c
entry_tokens blank s = absurd (true_is_not_false (sym s))
entry_tokens (token k t f) s = absurd (no_kind_both is_token (λ k. is_viable (after (row NODE_PAT_ENTRY) k)) refl k (leaf_is_token s.0)
    (viable NODE_PAT_ENTRY (after (row NODE_PAT_ENTRY) k) (one_token k t) f s.1))
entry_tokens (branch NODE_IDENT c f) s = by s.0.tokens
  where
    by : {c : AnnotatedForest} → IsName c → IsEntry (branch NODE_IDENT c f)
    by (name {t = t} e) = record { name = t; said = refl; same = refl }
entry_tokens (branch k c f) s = nowhere NODE_PAT_ENTRY (one_branch k c) f s.1
entry_tokens (fault n c f) s = nowhere NODE_PAT_ENTRY (one_fault n c) f (as_number NODE_PAT_ENTRY (row NODE_PAT_ENTRY) n (one_fault n c) f refl refl s).1

bind_tokens : (c : AnnotatedForest) → IsSound NODE_PAT_BIND (row NODE_PAT_BIND) blank c → begins_with_leaf (repaired c) ≡ begins_with_token c
bind_tokens (fault n c f) s = nowhere NODE_PAT_BIND (one_fault n c) f (as_number NODE_PAT_BIND (row NODE_PAT_BIND) n (one_fault n c) f refl refl s).1
bind_tokens _ s = refl

pub sound_tokens : (k : SyntaxKind) (c : AnnotatedForest) → IsSound k (row k) blank c → Tokens k c
sound_tokens NODE_IDENT c s = name_tokens c s
sound_tokens NODE_PAT_ENTRY c s = entry_tokens c s
sound_tokens NODE_PAT_BIND c s = bind_tokens c s
sound_tokens k c s = tt
