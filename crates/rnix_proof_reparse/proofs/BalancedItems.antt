-- The items of a node that is read without errors are balanced, and so are those between the brackets of a bracketed node.
use Rattle.std.proofs.Common.{◌≡◌, ℕ, suc, ◌+◌, ◌-◌, Bool, true, false, List, [], ◌∷◌, ◌++◌, map, refl, ap, sym, ◌∙◌, arith, append_assoc}
use Rattle.std.proofs.Common.{if◌then◌else◌, nat_eq}
use Rattle.std.specs.List.{list_all}
use Rattle.std.proofs.lemmas.Bool.Decides.{nat_tests}
use Rattle.std.proofs.lemmas.List.{map-append}
use Rattle.rnix_kinds.specs.declared.kinds.SyntaxKind.{SyntaxKind}
use Rattle.rnix_kinds.specs.declared.kinds.SyntaxKind.TheVariants.{NODE_ATTR_SET, NODE_CUR_POS, NODE_IDENT, NODE_LEGACY_LET, NODE_LIST, NODE_PAREN}
use Rattle.rnix_kinds.specs.declared.kinds.SyntaxKind.TheVariants.{NODE_STRING, TOKEN_CUR_POS, TOKEN_IDENT, TOKEN_OR}
use Rattle.rnix_kinds.proofs.AllKinds.{all_kinds, every}
use Rattle.rnix_kinds.specs.Lexical.Tokens.{Lexeme}
use Rattle.rnix_grammar.specs.declared.rules.Part.{Part}
use Rattle.rnix_grammar.specs.declared.rules.Part.TheVariants.{Child, Operand, Many, Entries, Wanted, Pieces, Formals, FormalsAfterComma, Comma}
use Rattle.rnix_grammar.specs.AnnotatedForest.{Token, lexeme_of, AnnotatedForest, blank, token, branch}
use Rattle.rnix_grammar.specs.AnnotatedForest.{fault, ◌⊕◌, one_token, tokens_in, leaf_kind, leaf_kind_as}
use Rattle.rnix_grammar.specs.Fault.{Fault}
use Rattle.rnix_grammar.specs.Reads.{Reads, end, leaf, inner, missing_part, wrong, second}
use Rattle.rnix_grammar.specs.Reports.{repeats}
use Rattle.rnix_grammar.specs.Rules.{Row, never, done, ◌·◌, ◌or◌, row, after, may_end}
use Rattle.rnix_proof_lemmas.proofs.Basics.{true_is_not_false, not_nil, none_remaining, none_right}
use Rattle.rnix_proof_lemmas.proofs.RowKinds.{has_row}
use Rattle.rnix_proof_lemmas.proofs.ReachableRows.{IsKnown, is_viable, every_known, known_row, known_after}
use Rattle.rnix_proof_lemmas.proofs.ViableRows.{reads_viable, end_viable, reads_row, past_ends}
use Rattle.rnix_proof_replacement.specs.Replaced.{opens_level, closes_level, one_less, are_balanced}
use Rattle.rnix_proof_reparse.proofs.CarriedReadings.{no_second, known_end}

-- how many levels are open before a part, from how many are open after it
abbrev before_token : SyntaxKind → ℕ → ℕ
before_token k n = if opens_level k then n - 1 else (if closes_level k then suc n else n)

abbrev before_part : Part → ℕ → ℕ
before_part (Child k) n = before_token k n
before_part (Wanted k) n = before_token k n
before_part (Many level closer) n = before_token closer n
before_part (Entries closer) n = before_token closer n
before_part Formals n = suc n
before_part FormalsAfterComma n = suc n
before_part Comma n = suc n
before_part p n = n

-- how many levels of its node are open at this rest of a row
abbrev open_in : Row → ℕ
open_in never = 0
open_in done = 0
open_in (p · r) = before_part p (open_in r)
open_in (r or s) = open_in r

-- a child of the kind changes the number of open levels from the first to the second
abbrev goes_level : SyntaxKind → ℕ → ℕ → Bool
goes_level k n m = if opens_level k then nat_eq m (suc n) else (if closes_level k then nat_eq n (suc m) else nat_eq n m)

abbrev keeps_levels : Row → SyntaxKind → Bool
keeps_levels q k = if is_viable (after q k) then goes_level k (open_in q) (open_in (after q k)) else true

kept_levels : {i : SyntaxKind} (q : Row) (k : SyntaxKind) → IsKnown i q → is_viable (after q k) ≡ true → goes_level k (open_in q) (open_in (after q k)) ≡ true
kept_levels {i} q k known v =
    sym (ap (λ w. if w then goes_level k (open_in q) (open_in (after q k)) else true) v)
    ∙ every (keeps_levels q) (every_known (λ i q. list_all (keeps_levels q) all_kinds) (λ i. refl) refl i q known) k

-- at the beginning and at the end of a row no level is open
row_start : (k : SyntaxKind) → open_in (row k) ≡ 0
row_start k = number (open_in (row k)) (every (λ k. nat_eq (open_in (row k)) 0) refl k)
  where
    number : (n : ℕ) → nat_eq n 0 ≡ true → n ≡ 0
    number n h = grind (arith, nat_tests, h)

row_end : {i : SyntaxKind} (q : Row) → IsKnown i q → may_end q ≡ true → open_in q ≡ 0
row_end {i} q known v =
    number (open_in q) (sym (ap (λ w. if w then nat_eq (open_in q) 0 else true) v)
    ∙ every_known (λ i q. if may_end q then nat_eq (open_in q) 0 else true) (λ i. refl) refl i q known)
  where
    number : (n : ℕ) → nat_eq n 0 ≡ true → n ≡ 0
    number n h = grind (arith, nat_tests, h)

-- a leaf opens or closes a level exactly if its token does
leaf_opens : (p k : SyntaxKind) → opens_level (leaf_kind_as p k) ≡ opens_level k
leaf_opens NODE_IDENT TOKEN_OR = refl
leaf_opens NODE_IDENT TOKEN_CUR_POS = refl
leaf_opens NODE_CUR_POS TOKEN_IDENT = refl
leaf_opens _ _ = refl

leaf_closes : (p k : SyntaxKind) → closes_level (leaf_kind_as p k) ≡ closes_level k
leaf_closes NODE_IDENT TOKEN_OR = refl
leaf_closes NODE_IDENT TOKEN_CUR_POS = refl
leaf_closes NODE_CUR_POS TOKEN_IDENT = refl
leaf_closes _ _ = refl

-- the number of levels after an item
same_number : (n m : ℕ) → nat_eq n m ≡ true → n ≡ m
same_number n m h = grind (arith, nat_tests, h)

item_levels : (a b : Bool) (n m d : ℕ) (ls : List Lexeme) → (if a then nat_eq m (suc n) else (if b then nat_eq n (suc m) else nat_eq n m)) ≡ true
    → (if a then are_balanced ls (suc (n + d)) else (if b then one_less (n + d) (are_balanced ls) else are_balanced ls (n + d))) ≡ are_balanced ls (m + d)
item_levels true b n m d ls h = let e : suc (n + d) ≡ m + d = omega (arith, same_number m (suc n) h) in ap (are_balanced ls) e
item_levels false true n m d ls h =
    let e : n + d ≡ suc (m + d) = omega (arith, same_number n (suc m) h) in ap (λ z. one_less z (are_balanced ls)) e
item_levels false false n m d ls h = ap (λ z. are_balanced ls (z + d)) (same_number n m h)

leaf_levels : (p : SyntaxKind) (t : Token) (n m d : ℕ) (ls : List Lexeme) → goes_level (leaf_kind p t) n m ≡ true
    → are_balanced (lexeme_of t ∷ ls) (n + d) ≡ are_balanced ls (m + d)
leaf_levels p t n m d ls h = item_levels (opens_level t.kind) (closes_level t.kind) n m d ls
    (sym (ap (λ a. if a then nat_eq m (suc n) else (if closes_level (leaf_kind p t) then nat_eq n (suc m) else nat_eq n m)) (leaf_opens p t.kind)
    ∙ ap (λ b. if opens_level t.kind then nat_eq m (suc n) else (if b then nat_eq n (suc m) else nat_eq n m)) (leaf_closes p t.kind)) ∙ h)

-- a node as a whole opens and closes nothing
node_neutral : (k : SyntaxKind) → has_row k ≡ true → (opens_level k ≡ false) × (closes_level k ≡ false)
node_neutral k h = (by (opens_level k) refl first, by (closes_level k) refl last)
  where
    first : (if opens_level k then false else true) ≡ true
    first = sym (ap (λ w. if w then (if opens_level k then false else true) else true) h)
        ∙ every (λ k. if has_row k then (if opens_level k then false else true) else true) refl k

    last : (if closes_level k then false else true) ≡ true
    last = sym (ap (λ w. if w then (if closes_level k then false else true) else true) h)
        ∙ every (λ k. if has_row k then (if closes_level k then false else true) else true) refl k

    by : (w : Bool) {v : Bool} → v ≡ w → (if v then false else true) ≡ true → v ≡ false
    by true e g = absurd (true_is_not_false (sym (sym (ap (λ w. if w then false else true) e) ∙ g)))
    by false e g = e

node_levels : (k : SyntaxKind) (n m : ℕ) → has_row k ≡ true → goes_level k n m ≡ true → n ≡ m
node_levels k n m h g =
    let w = node_neutral k h in
    same_number n m (sym (ap (λ a. if a then nat_eq m (suc n) else (if closes_level k then nat_eq n (suc m) else nat_eq n m)) w.0
    ∙ ap (λ b. if b then nat_eq n (suc m) else nat_eq n m) w.1) ∙ g)

-- the lexemes of two joined lists of items are those of both, joined
lexemes_two : (xs ys : List Token) (ls : List Lexeme) → map lexeme_of (xs ++ ys) ++ ls ≡ map lexeme_of xs ++ (map lexeme_of ys ++ ls)
lexemes_two xs ys ls = ap (λ z. z ++ ls) (map-append lexeme_of xs ys) ∙ append_assoc (map lexeme_of xs) (map lexeme_of ys) ls

-- with no level open in its row, a node changes nothing for the items after it
none_open : (q : Row) (m : ℕ) (ls : List Lexeme) → open_in q ≡ 0 → are_balanced ls m ≡ are_balanced ls (open_in q + m)
none_open q m ls e = let same : m ≡ open_in q + m = omega (arith, e) in ap (are_balanced ls) same

-- the items of a forest that is read lead from the number of levels open before it in its row to the number after it
pub balanced_row : {p : SyntaxKind} {d n : ℕ} {q q' : Row} {b : AnnotatedForest} {us : List Token} {f : AnnotatedForest} {es : List Fault}
    → Reads p d n q q' b us f es → es ≡ [] → IsKnown p q → is_viable q' ≡ true → (m : ℕ) (ls : List Lexeme)
    → are_balanced (map lexeme_of (tokens_in f) ++ ls) (open_in q + m) ≡ are_balanced ls (open_in q' + m)
balanced_row end z known v m ls = refl
balanced_row (missing_part u t x o h) z known v m ls = absurd (not_nil z)
balanced_row (wrong note ts x o y h) z known v m ls = absurd (not_nil z)
balanced_row (second {c = x} {ds = ds} {es = es} hr over h) z known v m ls = no_second ds (tokens_in x) es z
balanced_row {p} {q = q} (leaf {t = t} {f = f} x o h) z known v m ls =
    let k : SyntaxKind = leaf_kind p t in
    leaf_levels p t (open_in q) (open_in (after q k)) m (map lexeme_of (tokens_in f) ++ ls) (kept_levels q k known (reads_viable h v))
    ∙ balanced_row h z (known_after k known) v m ls
balanced_row {q = q} {b = b} (inner {k = k} {s = s} {c = x} {f = f} {ds = ds} {es = es} room hr over i o op h) z known v m ls =
    let none : ds ++ repeats k b x ≡ [] = none_remaining (ds ++ repeats k b x) es z in
    let first : ds ≡ [] = none_remaining ds (repeats k b x) none in
    let more : List Lexeme = map lexeme_of (tokens_in f) ++ ls in
    let inside : are_balanced (map lexeme_of (tokens_in x) ++ more) (open_in (row k) + (open_in q + m)) ≡ are_balanced more (open_in s + (open_in q + m)) =
    balanced_row hr first (known_row k) (end_viable s over.0) (open_in q + m) more in
    let same : open_in q ≡ open_in (after q k) =
    node_levels k (open_in q) (open_in (after q k)) (reads_row hr over.0) (kept_levels q k known (reads_viable h v)) in
    ap (λ l. are_balanced l (open_in q + m)) (lexemes_two (tokens_in x) (tokens_in f) ls)
    ∙ (none_open (row k) (open_in q + m) (map lexeme_of (tokens_in x) ++ more) (row_start k)
    ∙ (inside ∙ (sym (none_open s (open_in q + m) more (row_end s (known_end hr first (known_row k)) over.0))
    ∙ (ap (λ c. are_balanced more (c + m)) same
    ∙ balanced_row h (none_right (ds ++ repeats k b x) es z) (known_after k known) v m ls))))

-- the rest of the row is inside the brackets of a node
abbrev pub is_within : SyntaxKind → Row → Bool
is_within NODE_ATTR_SET (Entries closer · r) = true
is_within NODE_LEGACY_LET (Entries closer · r) = true
is_within NODE_LIST (Many level closer · r) = true
is_within NODE_PAREN (Operand level counted · r) = true
is_within NODE_PAREN (Wanted k · r) = true
is_within NODE_STRING (Pieces · r) = true
is_within k q = false

abbrev pub is_over : Row → Bool
is_over done = true
is_over q = false

over_is : (q : Row) → is_over q ≡ true → q ≡ done
over_is done h = refl
over_is _ h = absurd (true_is_not_false (sym h))

-- each child opens and closes nothing and leaves the row inside, or is the last
abbrev stays : SyntaxKind → Row → SyntaxKind → Bool
stays i q k =
    if is_over (after q k) then true
    else (if opens_level k then false else (if closes_level k then false else is_within i (after q k)))

abbrev stays_within : SyntaxKind → Row → Bool
stays_within i q = if is_within i q then list_all (λ k. if is_viable (after q k) then stays i q k else true) all_kinds else true

kind_never : (i : SyntaxKind) → stays_within i never ≡ true
kind_never NODE_ATTR_SET = refl
kind_never NODE_LEGACY_LET = refl
kind_never NODE_LIST = refl
kind_never NODE_PAREN = refl
kind_never NODE_STRING = refl
kind_never _ = refl

within_stays : {i : SyntaxKind} (q : Row) (k : SyntaxKind) → IsKnown i q → is_within i q ≡ true → is_viable (after q k) ≡ true → stays i q k ≡ true
within_stays {i} q k known w v =
    sym (ap (λ a. if a then stays i q k else true) v)
    ∙ every (λ k. if is_viable (after q k) then stays i q k else true)
    (sym (ap (λ a. if a then list_all (λ k. if is_viable (after q k) then stays i q k else true) all_kinds else true) w)
    ∙ every_known stays_within kind_never refl i q known) k

-- this holds for a child that is not the last
record Stays (i : SyntaxKind) (q : Row) (k : SyntaxKind) : Type 0 where
  opens : opens_level k ≡ false
  closes : closes_level k ≡ false
  within : is_within i (after q k) ≡ true

stays_parts : (i : SyntaxKind) (q : Row) (k : SyntaxKind) → stays i q k ≡ true → is_over (after q k) ≡ false → Stays i q k
stays_parts i q k h e = by (opens_level k) refl (closes_level k) refl (sym (ap (λ a. if a then true else (if opens_level k then false
    else (if closes_level k then false else is_within i (after q k)))) e) ∙ h)
  where
    by : (a : Bool) → opens_level k ≡ a → (c : Bool) → closes_level k ≡ c
        → (if opens_level k then false else (if closes_level k then false else is_within i (after q k))) ≡ true → Stays i q k
    by true e c f g = absurd (true_is_not_false (sym (sym (ap (λ a. if a then false else (if closes_level k then false else is_within i (after q k))) e) ∙ g)))
    by false e true f g =
        absurd (true_is_not_false (sym (sym (ap (λ a. if a then false else (if closes_level k then false else is_within i (after q k))) e
        ∙ ap (λ c. if c then false else is_within i (after q k)) f) ∙ g)))
    by false e false f g = record {
      opens = e;
      closes = f;
      within = sym (ap (λ a. if a then false else (if closes_level k then false else is_within i (after q k))) e
          ∙ ap (λ c. if c then false else is_within i (after q k)) f) ∙ g;
    }

-- the row is not complete if more is read
pub not_over : {p : SyntaxKind} {d n : ℕ} {q q' : Row} {b : AnnotatedForest} {us : List Token} {es : List Fault} (x : AnnotatedForest) (r : SyntaxKind)
    (u : Token)
    → Reads p d n q q' b us (x ⊕ one_token r u) es → is_viable q' ≡ true → is_over q ≡ false
not_over {q = q} x r u h v = by (is_over q) refl
  where
    some : (y : AnnotatedForest) → y ⊕ one_token r u ≡ blank → ⊥
    some blank e = cc
    some (token j t y) e = cc
    some (branch j c y) e = cc
    some (fault j c y) e = cc

    by : (w : Bool) → is_over q ≡ w → is_over q ≡ false
    by true e = absurd (some x (past_ends h (over_is q e) v).no_trees)
    by false e = e

neutral_item : (p : SyntaxKind) (t : Token) (m : ℕ) (ls : List Lexeme) → opens_level (leaf_kind p t) ≡ false → closes_level (leaf_kind p t) ≡ false
    → are_balanced (lexeme_of t ∷ ls) m ≡ are_balanced ls m
neutral_item p t m ls a b =
    ap (λ w. if w then are_balanced ls (suc m) else (if closes_level t.kind then one_less m (are_balanced ls) else are_balanced ls m))
    (sym (leaf_opens p t.kind) ∙ a)
    ∙ ap (λ w. if w then one_less m (are_balanced ls) else are_balanced ls m) (sym (leaf_closes p t.kind) ∙ b)

-- the items between the brackets are balanced
pub balanced_inside : (x : AnnotatedForest) (r : SyntaxKind) (u : Token) {p : SyntaxKind} {d n : ℕ} {q q' : Row} {b : AnnotatedForest} {us : List Token}
    {es : List Fault}
    → Reads p d n q q' b us (x ⊕ one_token r u) es → es ≡ [] → IsKnown p q → is_viable q' ≡ true → is_within p q ≡ true → (m : ℕ) (ls : List Lexeme)
    → are_balanced (map lexeme_of (tokens_in x) ++ ls) m ≡ are_balanced ls m
balanced_inside blank r u h z known v w m ls = refl
balanced_inside (token i t x) r u (missing_part a s y o h) z known v w m ls = absurd (not_nil z)
balanced_inside (branch i y x) r u (missing_part a s c o h) z known v w m ls = absurd (not_nil z)
balanced_inside (fault i y x) r u (missing_part a s c o h) z known v w m ls = absurd (not_nil z)
balanced_inside (fault i y x) r u (wrong note ts a o c h) z known v w m ls = absurd (not_nil z)
balanced_inside (fault i y x) r u (second {ds = ds} {es = es} hr over h) z known v w m ls = no_second ds (tokens_in y) es z
balanced_inside (token i t x) r u {p} {q = q} (leaf a o h) z known v w m ls =
    let k : SyntaxKind = leaf_kind p t in
    let s : Stays p q k = stays_parts p q k (within_stays q k known w (reads_viable h v)) (not_over x r u h v) in
    neutral_item p t m (map lexeme_of (tokens_in x) ++ ls) s.opens s.closes ∙ balanced_inside x r u h z (known_after k known) v s.within m ls
balanced_inside (branch k y x) r u {p} {q = q} {b = b} (inner {s = t} {ds = ds} {es = es} room hr over i o op h) z known v w m ls =
    let none : ds ++ repeats k b y ≡ [] = none_remaining (ds ++ repeats k b y) es z in
    let first : ds ≡ [] = none_remaining ds (repeats k b y) none in
    let s : Stays p q k = stays_parts p q k (within_stays q k known w (reads_viable h v)) (not_over x r u h v) in
    let more : List Lexeme = map lexeme_of (tokens_in x) ++ ls in
    ap (λ l. are_balanced l m) (lexemes_two (tokens_in y) (tokens_in x) ls)
    ∙ (none_open (row k) m (map lexeme_of (tokens_in y) ++ more) (row_start k)
    ∙ (balanced_row hr first (known_row k) (end_viable t over.0) m more
    ∙ (sym (none_open t m more (row_end t (known_end hr first (known_row k)) over.0))
    ∙ balanced_inside x r u h (none_right (ds ++ repeats k b y) es z) (known_after k known) v s.within m ls)))
