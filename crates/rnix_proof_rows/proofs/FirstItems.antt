-- The kind of an operand's first tree restricts the operand's first item. So does the kind of each node that is read.
use Rattle.std.{specs.List.list_all, proofs.Common.{◌≡◌, ℕ, Bool, true, false, List, [], ◌∷◌, ◌++◌, Option, Some, None, refl, ap, sym, ◌∙◌, subst, append-nil}}
use Rattle.{std.proofs.Common.{if◌then◌else◌, nat_eq, take, drop}, rnix_kinds.specs.declared.kinds.SyntaxKind.{SyntaxKind, TheVariants.TOKEN_AT}}
use Rattle.rnix_kinds.specs.declared.kinds.SyntaxKind.TheVariants.{TOKEN_COLON, TOKEN_IDENT, TOKEN_LET}
use Rattle.rnix_kinds.specs.declared.kinds.SyntaxKind.TheVariants.{TOKEN_L_BRACE, NODE_APPLY, NODE_BIN_OP, NODE_CUR_POS, NODE_HAS_ATTR, NODE_IDENT}
use Rattle.rnix_kinds.specs.declared.kinds.SyntaxKind.TheVariants.{NODE_IDENT_PARAM, NODE_LAMBDA, NODE_PATTERN, NODE_PAT_BIND, NODE_PAT_ENTRY, NODE_SELECT}
use Rattle.rnix_kinds.specs.SyntaxKind.{is_token}
use Rattle.{rnix_kinds.proofs.AllKinds.{all_kinds, implied}, rnix_green.specs.Equality.same_kind, rnix_grammar.specs.declared.rules.Part.TheVariants.Child}
use Rattle.rnix_grammar.specs.{declared.rules.Part.TheVariants.{Atom, First, Suffix, Binary, Argument, Optional}, AnnotatedForest.{Token, AnnotatedForest}}
use Rattle.rnix_grammar.specs.{AnnotatedForest.{blank, branch, one_branch, tokens_in, head_kind}, OperandStarts.{first_kind_of_name, first_kind_of_let, first_kind, second_kind, is_pattern}}
use Rattle.rnix_grammar.specs.FirstKinds.{BeginsAs, IsOperandOf}
use Rattle.rnix_grammar.specs.{Levels.selection_level, AllowedNames.{is_position, is_name_at, is_named_by}}
use Rattle.rnix_grammar.specs.{Operands.first_tree, Tables.is_cur_pos, TokenKinds.is_or, TreeLevels.is_or_row, Rules.{Row, never, done, ◌·◌, ◌or◌, row, after}}
use Rattle.{rnix_grammar.specs.Rules.{expects_item, IsExpected, is_first_expected, level_at}, rnix_proof_lemmas.proofs.Basics.{true_is_not_false, not_if}}
use Rattle.rnix_proof_lemmas.proofs.{Basics.{choice, Where, where_one, where_any}, EachKind.{Each, each_kind}, FirstTrees.{a_node, first_in}, ReachableRows.IsKnown}
use Rattle.rnix_proof_lemmas.proofs.ReachableRows.{is_viable, known_rows, EachRow, each_parts, each_known, every_known}
use Rattle.rnix_proof_lemmas.proofs.EachBeginning.{highest, where_allowed}
use Rattle.std.specs.Option.{is_some}
use Rattle.rnix_proof_rows.proofs.RowsWithoutAttrpath.{is_free, is_same, same_true}

-- the first item of a pattern that comes before a function's body
abbrev pub begins_pattern : SyntaxKind → Bool
begins_pattern TOKEN_IDENT = true
begins_pattern TOKEN_L_BRACE = true
begins_pattern kind = false

-- an item may be the first of an operand whose first tree has the kind
abbrev pub may_begin : SyntaxKind → SyntaxKind → List ℕ → Bool
may_begin NODE_IDENT kind text = if is_or kind then false else (if is_cur_pos text then false else true)
may_begin NODE_CUR_POS kind text = is_position kind text
may_begin NODE_IDENT_PARAM kind text = same_kind TOKEN_IDENT kind
may_begin NODE_PATTERN kind text = begins_pattern kind
may_begin NODE_PAT_BIND kind text = if is_or kind then false else true
may_begin NODE_PAT_ENTRY kind text = if is_or kind then false else true
may_begin k kind text = true

-- the first of some items, if there is one, may begin an operand whose first tree has the kind
abbrev pub MayBegin : SyntaxKind → List Token → Type 0
MayBegin k [] = Unit {0}
MayBegin k (t ∷ ts) = may_begin k t.kind t.text ≡ true

-- a property of the first tree that an item begins: the item may begin it
abbrev OperandStarts : SyntaxKind → List ℕ → SyntaxKind → Type 0
OperandStarts kind text k = may_begin k kind text ≡ true

plain_begins : (text : List ℕ) (w : Bool) → is_cur_pos text ≡ w → OperandStarts TOKEN_IDENT text (if w then NODE_CUR_POS else NODE_IDENT)
plain_begins text true e = e
plain_begins text false e = ap (λ w. if w then false else true) e

name_begins : (text : List ℕ) (second : Option SyntaxKind) → OperandStarts TOKEN_IDENT text (first_kind_of_name text second)
name_begins text (Some TOKEN_COLON) = refl
name_begins text (Some TOKEN_AT) = refl
name_begins text second = plain_begins text (is_cur_pos text) refl

let_begins : (text : List ℕ) (second : Option SyntaxKind) → OperandStarts TOKEN_LET text (first_kind_of_let second)
let_begins text (Some TOKEN_L_BRACE) = refl
let_begins text second = refl

begins : (level : ℕ) (kind : SyntaxKind) (text : List ℕ) (second third : Option SyntaxKind) → OperandStarts kind text (first_kind level kind text second third)
begins level kind text second third = where_allowed (OperandStarts kind text) level kind text second third (λ l. by kind)
    (where_any (is_some (highest kind)) refl)
  where
    by : (kind : SyntaxKind) → OperandStarts kind text (first_kind 0 kind text second third)
    by TOKEN_IDENT = name_begins text second
    by TOKEN_L_BRACE = choice (OperandStarts TOKEN_L_BRACE text) (is_pattern second third) refl refl
    by TOKEN_LET = let_begins text second
    by kind = refl

-- an operand begins with an item that may begin its first tree
operand_begins : (level : ℕ) (x : AnnotatedForest) (ts : List Token) → BeginsAs level x ts → MayBegin (first_tree x) ts
operand_begins level x [] h = tt
operand_begins level x (t ∷ ts) h = subst (λ (k : SyntaxKind). may_begin k t.kind t.text ≡ true) h (begins level t.kind t.text (head_kind ts) (second_kind ts))

-- the row begins with a node
abbrev pub is_first : Row → Bool
is_first (Atom · r) = true
is_first (First n · r) = true
is_first (Child kind · r) = if is_token kind then false else true
is_first (r or s) = true
is_first r = false

-- at a row that begins with a node, inside a node of the kind, the first item may begin that node's first tree
abbrev pub Fronts : SyntaxKind → Row → AnnotatedForest → List Token → Type 0
Fronts p q f ts = Where (is_first q) (MayBegin (first_tree (one_branch p f)) ts)

-- if a node of the kind is a name or `__curPos`, the row allows it to begin with the first item
abbrev pub Names : Row → SyntaxKind → List Token → Type 0
Names q k [] = Unit {0}
Names q k (t ∷ ts) = is_named_by q k t ≡ true

-- what is known about a node that begins with the next item
abbrev pub Known : Row → SyntaxKind → AnnotatedForest → List Token → Type 0
Known q k c ts = Names q k ts × Fronts k (row k) c ts

-- a name that is neither `or` nor `__curPos` may be wherever a name may
plain_named : (q : Row) (t : Token) → is_or t.kind ≡ false → is_cur_pos t.text ≡ false → is_name_at q t ≡ true
plain_named (Optional kind · r) t e g = plain_named r t e g
plain_named (r or s) t e g = plain_named r t e g
plain_named (_ · r) t e g = cc
plain_named _ t e g = cc

plain_parts : (v w : Bool) → (if v then false else (if w then false else true)) ≡ true → (v ≡ false) × (w ≡ false)
plain_parts true w h = absurd (true_is_not_false (sym h))
plain_parts false w h = (refl, not_if w h)

-- it is known of an operand
operand_known : (q : Row) (k : SyntaxKind) (c : AnnotatedForest) (ts : List Token) → MayBegin (first_tree (one_branch k c)) ts → Known q k c ts
operand_known q k c ts h = (names k ts h, where_any (is_first (row k)) h)
  where
    names : (k : SyntaxKind) (ts : List Token) → MayBegin (first_tree (one_branch k c)) ts → Names q k ts
    names k [] h = tt
    names NODE_IDENT (t ∷ ts) h = let e = plain_parts (is_or t.kind) (is_cur_pos t.text) h in plain_named q t e.0 e.1
    names NODE_CUR_POS (t ∷ ts) h = h
    names _ (t ∷ ts) h = refl

-- nodes of operators, calls and selections, which begin with an operand
abbrev begins_with_operand : SyntaxKind → Bool
begins_with_operand NODE_APPLY = true
begins_with_operand NODE_BIN_OP = true
begins_with_operand NODE_HAS_ATTR = true
begins_with_operand NODE_SELECT = true
begins_with_operand k = false

-- nodes of which something has to be known
abbrev is_constrained : SyntaxKind → Bool
is_constrained NODE_IDENT = true
is_constrained NODE_CUR_POS = true
is_constrained NODE_LAMBDA = true
is_constrained NODE_PATTERN = true
is_constrained NODE_IDENT_PARAM = true
is_constrained NODE_PAT_BIND = true
is_constrained NODE_PAT_ENTRY = true
is_constrained k = begins_with_operand k

-- a property holds of each of them
abbrev EachConstrained : (SyntaxKind → Type 0) → Type 0
EachConstrained P = P NODE_IDENT × P NODE_CUR_POS × P NODE_LAMBDA × P NODE_PATTERN × P NODE_IDENT_PARAM × P NODE_PAT_BIND × P NODE_PAT_ENTRY
    × P NODE_APPLY × P NODE_BIN_OP × P NODE_HAS_ATTR × P NODE_SELECT

each_constrained : (P : SyntaxKind → Type 0) → EachConstrained P → (k : SyntaxKind) → is_constrained k ≡ true → P k
each_constrained P h NODE_IDENT w = h.0
each_constrained P h NODE_CUR_POS w = h.1
each_constrained P h NODE_LAMBDA w = h.2
each_constrained P h NODE_PATTERN w = h.3
each_constrained P h NODE_IDENT_PARAM w = h.4
each_constrained P h NODE_PAT_BIND w = h.5
each_constrained P h NODE_PAT_ENTRY w = h.6
each_constrained P h NODE_APPLY w = h.7
each_constrained P h NODE_BIN_OP w = h.8
each_constrained P h NODE_HAS_ATTR w = h.9
each_constrained P h NODE_SELECT w = h.10
each_constrained P h _ w = absurd (true_is_not_false (sym w))

-- nothing has to be known of the others
other_known : (q : Row) (k : SyntaxKind) (c : AnnotatedForest) (ts : List Token) → is_constrained k ≡ false → Known q k c ts
other_known q k c [] h = (tt, where_any (is_first (row k)) tt)
other_known q k c (t ∷ ts) h =
    where_one (if is_constrained k then false else true) (ap (λ w. if w then false else true) h)
    (each_kind (λ k. Where (if is_constrained k then false else true) (Known q k c (t ∷ ts))) (assumption) k)

-- it is known of an operator's first operand, and of what is called or selected from
led_known : (p : SyntaxKind) (q : Row) (k : SyntaxKind) (c f : AnnotatedForest) (ts : List Token) → begins_with_operand p ≡ true
    → MayBegin (first_tree (one_branch p (branch k c f))) ts → Known q k c ts
led_known p q k c f ts l h = operand_known q k c ts (subst (λ (g : SyntaxKind). MayBegin g ts) (first_in (one_branch k c) f a_node) (by p l h))
  where
    by : (p : SyntaxKind) → begins_with_operand p ≡ true → MayBegin (first_tree (one_branch p (branch k c f))) ts → MayBegin (first_tree (branch k c f)) ts
    by NODE_APPLY l h = h
    by NODE_BIN_OP l h = h
    by NODE_HAS_ATTR l h = h
    by NODE_SELECT l h = h
    by _ l h = absurd (true_is_not_false (sym l))

abbrev pub is_argument : Row → Bool
is_argument (Argument · r) = true
is_argument r = false

-- rows at which a name or a parameter may be read, but no operand
abbrev is_settled : SyntaxKind → Row → Bool
is_settled p q = if is_argument q then false else (if is_first q then (if begins_with_operand p then false else true) else is_free (level_at q blank))

-- an item may be the first of a node at the row, whether the row begins with it or expects it or not
abbrev may_stand : SyntaxKind → Row → Bool → SyntaxKind → AnnotatedForest → SyntaxKind → List ℕ → Bool
may_stand p q touch k f kind text =
    if is_first q then may_begin (first_tree (one_branch p f)) kind text else is_same (expects_item q touch kind) (is_first_expected q k blank)

-- what is known of a node, by the kind of the first item
abbrev KnownBy : SyntaxKind → Row → Bool → SyntaxKind → AnnotatedForest → AnnotatedForest → Token → List Token → SyntaxKind → Type 0
KnownBy p q touch k c f t ts j =
    Where (may_stand p q touch k (branch k c f) j t.text) (Known q k c (record { kind = j; text = t.text; start = t.start; end = t.end } ∷ ts))

abbrev AllKnown : Bool → AnnotatedForest → AnnotatedForest → Token → List Token → SyntaxKind → Row → Type 0
AllKnown touch c f t ts p q =
    Where (is_settled p q) (EachConstrained (λ k. Where (is_viable (after q k)) (Each (KnownBy p q touch k c f t ts) all_kinds)))

-- checked by computation, for some rows at a time
constrained_0 : (touch : Bool) (c f : AnnotatedForest) (t : Token) (ts : List Token) → EachRow (AllKnown touch c f t ts) (take 80 known_rows)
constrained_0 touch c f t ts = assumption

constrained_80 : (touch : Bool) (c f : AnnotatedForest) (t : Token) (ts : List Token) → EachRow (AllKnown touch c f t ts) (take 26 (drop 80 known_rows))
constrained_80 touch c f t ts = assumption

constrained_106 : (touch : Bool) (c f : AnnotatedForest) (t : Token) (ts : List Token)
    → EachRow (AllKnown touch c f t ts) (take 39 (drop 26 (drop 80 known_rows)))
constrained_106 touch c f t ts = assumption

constrained_145 : (touch : Bool) (c f : AnnotatedForest) (t : Token) (ts : List Token)
    → EachRow (AllKnown touch c f t ts) (take 12 (drop 39 (drop 26 (drop 80 known_rows))))
constrained_145 touch c f t ts = assumption

constrained_157 : (touch : Bool) (c f : AnnotatedForest) (t : Token) (ts : List Token)
    → EachRow (AllKnown touch c f t ts) (drop 12 (drop 39 (drop 26 (drop 80 known_rows))))
constrained_157 touch c f t ts = assumption

all_known : (touch : Bool) (c f : AnnotatedForest) (t : Token) (ts : List Token) → EachRow (AllKnown touch c f t ts) known_rows
all_known touch c f t ts =
    each_parts (AllKnown touch c f t ts) 80 known_rows (constrained_0 touch c f t ts)
    (each_parts (AllKnown touch c f t ts) 26 (drop 80 known_rows) (constrained_80 touch c f t ts)
    (each_parts (AllKnown touch c f t ts) 39 (drop 26 (drop 80 known_rows)) (constrained_106 touch c f t ts)
    (each_parts (AllKnown touch c f t ts) 12 (drop 39 (drop 26 (drop 80 known_rows))) (constrained_145 touch c f t ts) (constrained_157 touch c f t ts))))

-- this is known for all first items
settled_known : {p : SyntaxKind} (q : Row) (touch : Bool) (k : SyntaxKind) (c f : AnnotatedForest) (t : Token) (ts : List Token) → IsKnown p q
    → is_settled p q ≡ true → is_constrained k ≡ true → is_viable (after q k) ≡ true → may_stand p q touch k (branch k c f) t.kind t.text ≡ true
    → Known q k c (t ∷ ts)
settled_known {p} q touch k c f t ts n s i l h =
    where_one (may_stand p q touch k (branch k c f) t.kind t.text) h
    (each_kind (KnownBy p q touch k c f t ts) (where_one (is_viable (after q k)) l
    (each_constrained (λ k. Where (is_viable (after q k)) (Each (KnownBy p q touch k c f t ts) all_kinds))
    (where_one (is_settled p q) s
    (each_known (AllKnown touch c f t ts) (λ p. where_any (is_settled p never) (assumption)) (all_known touch c f t ts) p q n)) k i)) t.kind)

-- the row is empty or begins with a token or an argument that its node always has
abbrev is_child : Row → Bool
is_child (Child kind · r) = is_token kind
is_child (Suffix token · r) = true
is_child (Binary · r) = true
is_child (Argument · r) = true
is_child never = true
is_child r = false

-- at any other row that does not begin with a node, the next item decides what is expected
asked : (q : Row) (n : ℕ) (t : Token) (ts : List Token) (k : SyntaxKind) (c : AnnotatedForest) → is_child q ≡ false → is_first q ≡ false
    → IsExpected q n (t ∷ ts) (is_first_expected q k c) → is_same (expects_item q (nat_eq t.start n) t.kind) (is_first_expected q k blank) ≡ true
asked done n t ts k c h f e = same_true _ _ e
asked (Child kind · r) n t ts k c h f e = absurd (true_is_not_false (sym (ap (λ w. if w then false else true) h) ∙ f))
asked (Atom · r) n t ts k c h f e = absurd (true_is_not_false f)
asked (First m · r) n t ts k c h f e = absurd (true_is_not_false f)
asked (Suffix token · r) n t ts k c h f e = absurd (true_is_not_false h)
asked (Binary · r) n t ts k c h f e = absurd (true_is_not_false h)
asked (Argument · r) n t ts k c h f e = absurd (true_is_not_false h)
asked (_ · r) n t ts k c h f e = same_true _ _ e
asked never n t ts k c h f e = absurd (true_is_not_false h)
asked (r or s) n t ts k c h f e = absurd (true_is_not_false f)

-- it is known where a row begins with a node, or a name or a parameter may be read
by_item : {p : SyntaxKind} (q : Row) (k : SyntaxKind) (c f : AnnotatedForest) (n : ℕ) (ts : List Token) → IsKnown p q → is_settled p q ≡ true
    → is_constrained k ≡ true
    → is_viable (after q k) ≡ true → (is_first q ≡ false → is_child q ≡ false) → IsExpected q n ts (is_first_expected q k c) → Fronts p q (branch k c f) ts
    → Known q k c ts
by_item q k c f n [] i s o l a x h = (tt, where_any (is_first (row k)) tt)
by_item {p} q k c f n (t ∷ ts) i s o l a x h = settled_known q (nat_eq t.start n) k c f t ts i s o l (by (is_first q) refl h)
  where
    by : (w : Bool) → is_first q ≡ w → Where w (MayBegin (first_tree (one_branch p (branch k c f))) (t ∷ ts))
        → (if w then may_begin (first_tree (one_branch p (branch k c f))) t.kind t.text
        else is_same (expects_item q (nat_eq t.start n) t.kind) (is_first_expected q k blank)) ≡ true
    by true e h = h
    by false e h = asked q n t ts k c (a e) e x

-- after a token that its node always has, no name and no parameter is read
abbrev none_constrained : Row → Bool
none_constrained q = list_all (λ k. if is_viable (after q k) then (if is_constrained k then false else true) else true) all_kinds

abbrev is_unconstrained : Row → Bool
is_unconstrained q = if is_child q then (if is_argument q then true else none_constrained q) else true

child_unconstrained : {p : SyntaxKind} (q : Row) (k : SyntaxKind) → IsKnown p q → is_child q ≡ true → is_argument q ≡ false → is_viable (after q k) ≡ true
    → is_constrained k ≡ false
child_unconstrained {p} q k n h a l = not_if (is_constrained k) (implied (λ k. is_viable (after q k)) (λ k. if is_constrained k then false else true)
    (sym (ap (λ w. if w then true else none_constrained q) a) ∙ sym (ap (λ w. if w then (if is_argument q then true else none_constrained q) else true) h)
    ∙ every_known (λ p q. is_unconstrained q) (λ p. refl) refl p q n) k l)

-- it is known of the name `or` after a function
called_known : (q : Row) (k : SyntaxKind) (c : AnnotatedForest) (n : ℕ) (ts : List Token) → is_argument q ≡ true → level_at q (one_branch k c) ≡ None
    → IsExpected q n ts (is_first_expected q k c) → Known q k c ts
called_known (Argument · r) k c n ts a e x = by (is_or_row (one_branch k c)) refl e x
  where
    named : (k : SyntaxKind) (ts : List Token) → is_or_row (one_branch k c) ≡ true → IsExpected (Argument · r) n ts true → Known (Argument · r) k c ts
    named k [] e x = (tt, where_any (is_first (row k)) tt)
    named NODE_IDENT (t ∷ ts) e x = (ap (λ w. if w then true else (if is_cur_pos t.text then false else true)) x, tt)
    named k (t ∷ ts) e x = absurd (true_is_not_false (sym e))

    by : (v : Bool) → is_or_row (one_branch k c) ≡ v → (if v then None else Some selection_level) ≡ None → IsExpected (Argument · r) n ts v
        → Known (Argument · r) k c ts
    by true e l x = named k ts e x
    by false e l x = absurd (cc)
called_known _ k c n ts a e x = absurd (true_is_not_false (sym a))

-- except before an argument, the level depends on the row alone
pub level_alone : (q : Row) (x : AnnotatedForest) → is_argument q ≡ false → level_at q x ≡ level_at q blank
level_alone (Argument · r) x h = absurd (true_is_not_false h)
level_alone _ x h = refl

-- it is known at each row that requires no level
free_known : {p : SyntaxKind} (q : Row) (k : SyntaxKind) (c f : AnnotatedForest) (n : ℕ) (ts : List Token) → IsKnown p q → is_viable (after q k) ≡ true
    → IsExpected q n ts (is_first_expected q k c) → Fronts p q (branch k c f) ts → level_at q (one_branch k c) ≡ None → is_argument q ≡ false
    → is_constrained k ≡ true
    → Known q k c ts
free_known {p} q k c f n ts i l x h e a o = by (is_first q) refl (begins_with_operand p) refl (is_child q) refl
  where
    settled : (u v : Bool) → is_first q ≡ u → (if u then (if begins_with_operand p then false else true) else is_free (level_at q blank)) ≡ v
        → is_settled p q ≡ v
    settled u v b g = ap (λ w. if w then false else (if is_first q then (if begins_with_operand p then false else true) else is_free (level_at q blank))) a
        ∙ ap (λ w. if w then (if begins_with_operand p then false else true) else is_free (level_at q blank)) b ∙ g

    by : (u : Bool) → is_first q ≡ u → (v : Bool) → begins_with_operand p ≡ v → (w : Bool) → is_child q ≡ w → Known q k c ts
    by true b true g w d = led_known p q k c f ts g (where_one (is_first q) b h)
    by true b false g w d =
        by_item q k c f n ts i (settled true true b (ap (λ w. if w then false else true) g)) o l (λ z. absurd (true_is_not_false (sym b ∙ z))) x h
    by false b v g true d = absurd (true_is_not_false (sym o ∙ child_unconstrained q k i d a l))
    by false b v g false d = by_item q k c f n ts i (settled false true b (ap is_free (sym (level_alone q (one_branch k c) a) ∙ e))) o l (λ z. d) x h

-- it is known of each node where it is read
pub node_known : {p : SyntaxKind} (q : Row) (k : SyntaxKind) (c f : AnnotatedForest) (n : ℕ) (vs : List Token) → IsKnown p q → is_viable (after q k) ≡ true
    → IsExpected q n (tokens_in c ++ vs) (is_first_expected q k c) → IsOperandOf (level_at q (one_branch k c)) (one_branch k c) vs
    → Fronts p q (branch k c f) (tokens_in c ++ vs) → Known q k c (tokens_in c ++ vs)
node_known q k c f n vs i l x w h = by_level (level_at q (one_branch k c)) refl w
  where
    free : level_at q (one_branch k c) ≡ None → (u : Bool) → is_argument q ≡ u → (v : Bool) → is_constrained k ≡ v → Known q k c (tokens_in c ++ vs)
    free e true a v o = called_known q k c n (tokens_in c ++ vs) a e x
    free e false a true o = free_known q k c f n (tokens_in c ++ vs) i l x h e a o
    free e false a false o = other_known q k c (tokens_in c ++ vs) o

    by_level : (o : Option ℕ) → level_at q (one_branch k c) ≡ o → IsOperandOf o (one_branch k c) vs → Known q k c (tokens_in c ++ vs)
    by_level None e w = free e (is_argument q) refl (is_constrained k) refl
    by_level (Some level) e w =
        subst (Known q k c) (ap (λ us. us ++ vs) (append-nil (tokens_in c)))
        (operand_known q k c (tokens_in (one_branch k c) ++ vs) (operand_begins level (one_branch k c) (tokens_in (one_branch k c) ++ vs) w.1))
