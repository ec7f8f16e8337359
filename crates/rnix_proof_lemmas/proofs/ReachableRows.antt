-- The rests of rows that occur in readings, for each kind of node. What holds of each of them is shown by one computation.
use Rattle.std.specs.List.{list_all}
use Rattle.std.proofs.Common.{◌≡◌, ℕ, zero, suc, take, drop, Bool, true, false, List, [], ◌∷◌, ◌++◌, Option, Some, None, refl, ap, sym, ◌∙◌, subst, arith, ◌&&◌}
use Rattle.std.proofs.Common.{if◌then◌else◌, nat_eq}
use Rattle.std.proofs.lemmas.Bool.{and_parts, Decides.nat_tests}
use Rattle.rnix_kinds.specs.declared.kinds.SyntaxKind.{SyntaxKind}
use Rattle.rnix_kinds.specs.declared.kinds.SyntaxKind.TheVariants.{NODE_ATTR_SET, NODE_BIN_OP, NODE_ERROR, NODE_LAMBDA, NODE_LITERAL, NODE_PATTERN}
use Rattle.rnix_kinds.specs.declared.kinds.SyntaxKind.TheVariants.{NODE_PAT_BIND, NODE_UNARY_OP}
use Rattle.rnix_kinds.{proofs.AllKinds.{all_kinds, every}}
use Rattle.{rnix_green.specs.Equality.{same_kind, same_kind-decides}}
use Rattle.{rnix_grammar.specs.{declared.{slot_table.{Slot.Slot, TheConstants.SLOTS}, rules.Part.Part}, Fault.Fault}}
use Rattle.rnix_grammar.specs.declared.rules.Part.TheVariants.{Child, Atom, First, Suffix, Binary, Argument, Operand, Many, Entries, Wanted, Attr, Attrpath}
use Rattle.rnix_grammar.specs.declared.rules.Part.TheVariants.{MoreAttrs, Names, Pieces, PathPieces, Formals, FormalsAfterComma, Comma, Optional, EndOr}
use Rattle.rnix_grammar.specs.declared.rules.Part.TheVariants.{BoundAlready, TextEnd}
use Rattle.rnix_grammar.specs.Rules.{Row, never, done, ◌·◌, ◌or◌, row, second_name, after, may_end, missing, run_at}
use Rattle.rnix_proof_lemmas.specs.SlotRows.{remaining_in, kind_in}
use Rattle.rnix_grammar.specs.AnnotatedForest.{Token, Note, Stray, Unwanted, Extra, DoubleBind, TooDeep}
use Rattle.{rnix_grammar.specs.Reads.IsWrong, rnix_proof_lemmas.proofs.Basics.true_is_not_false}

-- the row is not `never`
abbrev pub is_viable : Row → Bool
is_viable never = false
is_viable r = true

-- two parts are the same
abbrev same_part : Part → Part → Bool
same_part (Child k) (Child j) = same_kind k j
same_part Atom Atom = true
same_part (First n) (First m) = nat_eq n m
same_part (Suffix k) (Suffix j) = same_kind k j
same_part Binary Binary = true
same_part Argument Argument = true
same_part (Operand n true) (Operand m true) = nat_eq n m
same_part (Operand n false) (Operand m false) = nat_eq n m
same_part (Many n k) (Many m j) = nat_eq n m && same_kind k j
same_part (Entries k) (Entries j) = same_kind k j
same_part (Wanted k) (Wanted j) = same_kind k j
same_part Attr Attr = true
same_part Attrpath Attrpath = true
same_part MoreAttrs MoreAttrs = true
same_part Names Names = true
same_part Pieces Pieces = true
same_part PathPieces PathPieces = true
same_part Formals Formals = true
same_part FormalsAfterComma FormalsAfterComma = true
same_part Comma Comma = true
same_part (Optional k) (Optional j) = same_kind k j
same_part (EndOr k) (EndOr j) = same_kind k j
same_part BoundAlready BoundAlready = true
same_part TextEnd TextEnd = true
same_part p q = false

number : (n m : ℕ) → nat_eq n m ≡ true → n ≡ m
number n m h = grind (arith, nat_tests, h)

kind : (k j : SyntaxKind) → same_kind k j ≡ true → k ≡ j
kind k j h = (same_kind-decides k j).0 h

part_is : (p q : Part) → same_part p q ≡ true → p ≡ q
part_is (Child k) (Child j) h = ap Child (kind k j h)
part_is (First n) (First m) h = ap First (number n m h)
part_is (Suffix k) (Suffix j) h = ap Suffix (kind k j h)
part_is (Operand n true) (Operand m true) h = ap (λ n. Operand n true) (number n m h)
part_is (Operand n false) (Operand m false) h = ap (λ n. Operand n false) (number n m h)
part_is (Many n k) (Many m j) h =
    let both = and_parts (nat_eq n m) (same_kind k j) h in
    ap (λ n. Many n k) (number n m both.0) ∙ ap (Many m) (kind k j both.1)
part_is (Entries k) (Entries j) h = ap Entries (kind k j h)
part_is (Wanted k) (Wanted j) h = ap Wanted (kind k j h)
part_is (Optional k) (Optional j) h = ap Optional (kind k j h)
part_is (EndOr k) (EndOr j) h = ap EndOr (kind k j h)
part_is Atom Atom h = refl
part_is Binary Binary h = refl
part_is Argument Argument h = refl
part_is Attr Attr h = refl
part_is Attrpath Attrpath h = refl
part_is MoreAttrs MoreAttrs h = refl
part_is Names Names h = refl
part_is Pieces Pieces h = refl
part_is PathPieces PathPieces h = refl
part_is Formals Formals h = refl
part_is FormalsAfterComma FormalsAfterComma h = refl
part_is Comma Comma h = refl
part_is BoundAlready BoundAlready h = refl
part_is TextEnd TextEnd h = refl
part_is _ _ h = absurd (true_is_not_false (sym h))

-- two rows are the same
abbrev same_row : Row → Row → Bool
same_row never never = true
same_row done done = true
same_row (p · r) (q · s) = same_part p q && same_row r s
same_row (r or s) (t or u) = same_row r t && same_row s u
same_row r s = false

row_is : (r s : Row) → same_row r s ≡ true → r ≡ s
row_is never never h = refl
row_is done done h = refl
row_is (p · r) (q · s) h =
    let both = and_parts (same_part p q) (same_row r s) h in
    ap (λ p. p · r) (part_is p q both.0) ∙ ap (λ r. q · r) (row_is r s both.1)
row_is (r or s) (t or u) h =
    let both = and_parts (same_row r t) (same_row s u) h in
    ap (λ r. r or s) (row_is r t both.0) ∙ ap (λ s. t or s) (row_is s u both.1)
row_is _ _ h = absurd (true_is_not_false (sym h))

-- all rests of rows: at each index of the table, for kinds with several rows, and after an operator
abbrev lefts : List Slot → List (SyntaxKind × Row) → List (SyntaxKind × Row)
lefts [] rest = rest
lefts (s ∷ ss) rest = (kind_in (s ∷ ss), remaining_in (s ∷ ss)) ∷ lefts ss rest

abbrev begun : List SyntaxKind → List (SyntaxKind × Row) → List (SyntaxKind × Row)
begun [] rest = rest
begun (k ∷ ks) rest = (k, row k) ∷ begun ks rest

abbrev with_row : Row → List (SyntaxKind × Row) → List (SyntaxKind × Row)
with_row never rest = rest
with_row r rest = (NODE_BIN_OP, r) ∷ rest

abbrev operated : List SyntaxKind → List (SyntaxKind × Row)
operated [] = []
operated (k ∷ ks) = with_row (after (Binary · done) k) (operated ks)

-- kinds with several rows
abbrev several : List SyntaxKind
several = NODE_LITERAL ∷ (NODE_ATTR_SET ∷ (NODE_LAMBDA ∷ (NODE_PATTERN ∷ (NODE_PAT_BIND ∷ (NODE_UNARY_OP ∷ [])))))

-- the rests of rows, each with the kind of its node
abbrev pub known_rows : List (SyntaxKind × Row)
known_rows = lefts SLOTS ((NODE_ERROR, second_name) ∷ begun several (operated all_kinds))

-- a row of a kind is in a list
abbrev pub is_among_rows : List (SyntaxKind × Row) → SyntaxKind → Row → Bool
is_among_rows [] i r = false
is_among_rows (x ∷ xs) i r = if same_row x.1 r && same_kind x.0 i then true else is_among_rows xs i r

-- a row is known for a kind: it is a rest of one of its rows, or `never`
abbrev pub is_known : SyntaxKind → Row → Bool
is_known i r = if is_viable r then is_among_rows known_rows i r else true

pub record IsKnown (i : SyntaxKind) (r : Row) : Type 0 where
  pub known : is_known i r ≡ true

-- a property holds of each of some rows
abbrev pub EachRow : (SyntaxKind → Row → Type 0) → List (SyntaxKind × Row) → Type 0
EachRow P [] = Unit {0}
EachRow P (x ∷ xs) = P x.0 x.1 × EachRow P xs

-- a property of the first rows and of those after them holds of all
pub each_parts : (P : SyntaxKind → Row → Type 0) (n : ℕ) (xs : List (SyntaxKind × Row)) → EachRow P (take n xs) → EachRow P (drop n xs) → EachRow P xs
each_parts P zero xs h g = g
each_parts P (suc n) [] h g = tt
each_parts P (suc n) (x ∷ xs) h g = (h.0, each_parts P n xs h.1 g)

each_among : (P : SyntaxKind → Row → Type 0) (xs : List (SyntaxKind × Row)) (i : SyntaxKind) (r : Row) → EachRow P xs → is_among_rows xs i r ≡ true → P i r
each_among P [] i r h k = absurd (true_is_not_false (sym k))
each_among P (x ∷ xs) i r h k = by (same_row x.1 r && same_kind x.0 i) refl k (each_among P xs i r h.1)
  where
    by : (w : Bool) → (same_row x.1 r && same_kind x.0 i) ≡ w → (if w then true else is_among_rows xs i r) ≡ true → (is_among_rows xs i r ≡ true → P i r)
        → P i r
    by true e k more =
        let both = and_parts (same_row x.1 r) (same_kind x.0 i) e in
        subst (λ i. P i r) (kind x.0 i both.1) (subst (P x.0) (row_is x.1 r both.0) h.0)
    by false e k more = more k

pub dead_is : (r : Row) → is_viable r ≡ false → r ≡ never
dead_is never e = refl
dead_is _ e = absurd (true_is_not_false e)

-- a property of `never` and of each known row in the list holds of every known row
pub each_known : (P : SyntaxKind → Row → Type 0) → ((i : SyntaxKind) → P i never) → EachRow P known_rows → (i : SyntaxKind) (r : Row) → IsKnown i r → P i r
each_known P n h i r k = by (is_viable r) refl k.known
  where
    by : (w : Bool) → is_viable r ≡ w → (if w then is_among_rows known_rows i r else true) ≡ true → P i r
    by true e k = each_among P known_rows i r h k
    by false e k = subst (P i) (sym (dead_is r e)) (n i)

-- a test that each of some rows passes is true of each
all_pass : (test : SyntaxKind → Row → Bool) (xs : List (SyntaxKind × Row)) → list_all (λ x. test x.0 x.1) xs ≡ true → EachRow (λ i r. test i r ≡ true) xs
all_pass test [] h = tt
all_pass test (x ∷ xs) h = let both = and_parts (test x.0 x.1) (list_all (λ x. test x.0 x.1) xs) h in (both.0, all_pass test xs both.1)

pub every_known : (test : SyntaxKind → Row → Bool) → ((i : SyntaxKind) → test i never ≡ true) → list_all (λ x. test x.0 x.1) known_rows ≡ true
    → (i : SyntaxKind) (r : Row) → IsKnown i r → test i r ≡ true
every_known test n h = each_known (λ i r. test i r ≡ true) n (all_pass test known_rows h)

-- the whole row of a kind is known
pub known_row : (k : SyntaxKind) → IsKnown k (row k)
known_row k = record { known = every (λ k. is_known k (row k)) refl k }

pub known_second : IsKnown NODE_ERROR second_name
known_second = record { known = refl }

-- after a child, a known row is known
pub known_after : {i : SyntaxKind} {r : Row} (k : SyntaxKind) → IsKnown i r → IsKnown i (after r k)
known_after {i} {r} k h =
    record { known = every (λ k. is_known i (after r k)) (every_known (λ i r. list_all (λ k. is_known i (after r k)) all_kinds) (λ i. refl) refl i r h) k }

-- after a missing part or a run, a known row is known
abbrev is_known_behind : {A : Type 0} → SyntaxKind → Option (A × Row) → Bool
is_known_behind i None = true
is_known_behind i (Some w) = is_known i w.1

pub known_missing : {i : SyntaxKind} {q r : Row} {e : Fault} → missing q ≡ Some (e, r) → IsKnown i q → IsKnown i r
known_missing {i} {q} m h = record { known = sym (ap (is_known_behind i) m) ∙ every_known (λ i r. is_known_behind i (missing r)) (λ i. refl) refl i q h }

pub known_run : {i : SyntaxKind} {q r : Row} {ks : List SyntaxKind} → run_at q ≡ Some (ks, r) → IsKnown i q → IsKnown i r
known_run {i} {q} m h = record { known = sym (ap (is_known_behind i) m) ∙ every_known (λ i r. is_known_behind i (run_at r)) (λ i. refl) refl i q h }

-- the row expects a second name of its pattern
abbrev is_bound : Row → Bool
is_bound (BoundAlready · r) = true
is_bound r = false

pub known_past : {i : SyntaxKind} → IsKnown i (BoundAlready · done) → IsKnown i done
known_past {i} h = record { known = every_known (λ i r. if is_bound r then is_known i done else true) (λ i. refl) refl i (BoundAlready · done) h }

-- after each error node, a known row is known
pub known_wrong : {i : SyntaxKind} {q r : Row} (note : Note) (d : ℕ) (ts us : List Token) → IsWrong note d q r ts us → IsKnown i q → IsKnown i r
known_wrong {i} Stray d ts us w h = subst (IsKnown i) w.3 (known_after NODE_LITERAL h)
known_wrong (Unwanted until) d ts us w h = known_run w.2 h
known_wrong {i} Extra d ts us w h = subst (IsKnown i) (sym w.3) h
known_wrong DoubleBind d ts us w h = absurd w
known_wrong {i} TooDeep d ts us w h = subst (IsKnown i) w.3 (known_after NODE_LITERAL h)
