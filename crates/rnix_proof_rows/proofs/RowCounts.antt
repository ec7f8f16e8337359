-- What every row of a kind contains, by computation along the rows.
use Rattle.std.{specs.List.{filter, find, list_all}, proofs.Common.{◌≡◌, ℕ, zero, suc, ◌≤◌, Bool, true, false, cond, List, [], ◌∷◌, length, Some}}
use Rattle.std.proofs.{Common.{refl, ap, sym, ◌∙◌, arith, ◌&&◌, if◌then◌else◌, is_some, slice_get}, lemmas.Bool.and_parts}
use Rattle.rnix_kinds.{specs.declared.kinds.SyntaxKind.{SyntaxKind, TheVariants.NODE_ATTRPATH}, proofs.AllKinds.{all_kinds, every, implied}}
use Rattle.{rnix_green.specs.Equality.same_kind, rnix_grammar.specs.{declared.rules.Part.Part, NodeClasses.{is_atom, is_simple, is_entry, fits}}}
use Rattle.rnix_grammar.specs.declared.rules.Part.TheVariants.{Child, Atom, First, Suffix, Binary, Argument, Operand, Many, Entries, Wanted, Attrpath}
use Rattle.rnix_grammar.specs.{Rules.{Row, never, done, ◌·◌, ◌or◌, row, only, after, may_end}, CompleteRows.{after_all, is_row}}
use Rattle.rnix_proof_lemmas.proofs.{Basics.true_is_not_false, ReachableRows.is_viable, ViableRows.{nowhere, later_viable}}

-- a set of kinds
abbrev pub Test : Type 0
Test = SyntaxKind → Bool

-- every row gets beyond the part
abbrev passes : Part → Bool
passes (Child kind) = true
passes Atom = true
passes (First n) = true
passes (Suffix token) = true
passes Argument = true
passes (Operand n counted) = true
passes (Many n closer) = true
passes (Entries closer) = true
passes (Wanted kind) = true
passes Attrpath = true
passes part = false

-- the kinds of children that lead beyond the part
abbrev leads : Part → Test
leads (Child kind) = same_kind kind
leads Atom = is_atom
leads (First n) = fits n
leads (Suffix token) = same_kind token
leads Argument = is_simple
leads (Operand n counted) = fits n
leads (Many n closer) = same_kind closer
leads (Entries closer) = same_kind closer
leads (Wanted kind) = same_kind kind
leads part = same_kind NODE_ATTRPATH

-- the kinds of children after which the part is still next
abbrev stays : Part → Test
stays (Many n closer) = fits n
stays (Entries closer) = is_entry
stays part = λ k. false

-- a child leads beyond a part, or the part is still next after it, or it does not fit
single : (w : Bool) (q r : Row) → only w r ≡ (if w then r else only false q)
single true q r = refl
single false q r = refl

passed : (p : Part) (r : Row) (k : SyntaxKind) → passes p ≡ true → after (p · r) k ≡ (if leads p k then r else only (stays p k) (p · r))
passed (Child kind) r k h = single (same_kind kind k) (Child kind · r) r
passed Atom r k h = single (is_atom k) (Atom · r) r
passed (First n) r k h = single (fits n k) (First n · r) r
passed (Suffix token) r k h = single (same_kind token k) (Suffix token · r) r
passed Argument r k h = single (is_simple k) (Argument · r) r
passed (Operand n counted) r k h = single (fits n k) (Operand n counted · r) r
passed (Many n closer) r k h = refl
passed (Entries closer) r k h = refl
passed (Wanted kind) r k h = single (same_kind kind k) (Wanted kind · r) r
passed Attrpath r k h = single (same_kind NODE_ATTRPATH k) (Attrpath · r) r
passed _ r k h = absurd (true_is_not_false (sym h))

no_end : (p : Part) (r : Row) → passes p ≡ true → may_end (p · r) ≡ false
no_end Atom r h = refl
no_end _ r h = cc

-- all kinds that lead beyond the part are in the set
abbrev is_sure : Test → Part → Bool
is_sure test p = list_all (λ k. if leads p k then test k else true) all_kinds

-- the part is an operator
abbrev is_binary : Part → Bool
is_binary Binary = true
is_binary part = false

-- after each child of a row, the rows after it have so many children of the set
abbrev each_step : Test → (ℕ → Row → Bool) → ℕ → Row → Bool
each_step test more n q = list_all (λ k. if is_viable (after q k) then more (if test k then n else suc n) (after q k) else true) all_kinds

-- each row from here on has so many children of a set, as computed along so many steps
abbrev pub has : Test → ℕ → ℕ → Row → Bool
has test zero m q = true
has test (suc n) zero q = false
has test (suc n) (suc m) never = true
has test (suc n) (suc m) done = false
has test (suc n) (suc m) (p · r) =
    if passes p then has test (if is_sure test p then n else suc n) m r
    else is_binary p && each_step test (λ n q. has test n m q) n (p · r)
has test (suc n) (suc m) (r or s) = each_step test (λ n q. has test n m q) n (r or s)

-- one more child leaves enough of the set
grown : (test : Test) (n : ℕ) (k : SyntaxKind) (ks : List SyntaxKind) → n ≤ length (filter test ks) → n ≤ length (filter test (k ∷ ks))
grown test n k ks h = by (test k)
  where
    by : (w : Bool) → n ≤ length (cond w (k ∷ filter test ks) (filter test ks))
    by true = omega (arith, h)
    by false = h

-- one more child of the set leaves one fewer to come
counted : (test : Test) (v : Bool) (n : ℕ) (k : SyntaxKind) (ks : List SyntaxKind) → (v ≡ true → test k ≡ true)
    → (if v then n else suc n) ≤ length (filter test ks)
    → suc n ≤ length (filter test (k ∷ ks))
counted test false n k ks t h = grown test (suc n) k ks h
counted test true n k ks t h =
    let same : length (filter test (k ∷ ks)) ≡ suc (length (filter test ks)) = ap (λ w. length (cond w (k ∷ filter test ks) (filter test ks))) (t refl) in
    omega (arith, same, h)

-- if every row gets beyond a part, what holds of the rest holds of the row
behind : (test : Test) (n : ℕ) (p : Part) (r : Row) (ks : List SyntaxKind) → passes p ≡ true → may_end (after_all (p · r) ks) ≡ true
    → ((ks : List SyntaxKind) → may_end (after_all r ks) ≡ true → (if is_sure test p then n else suc n) ≤ length (filter test ks))
    → suc n ≤ length (filter test ks)
behind test n p r [] s w ih = absurd (true_is_not_false (sym w ∙ no_end p r s))
behind test n p r (k ∷ ks) s w ih =
    by (leads p k) (stays p k) refl (ap (λ q. may_end (after_all q ks)) (sym (passed p r k s)) ∙ w) (behind test n p r ks s)
  where
    by : (v u : Bool) → leads p k ≡ v → may_end (after_all (if v then r else only u (p · r)) ks) ≡ true
        → (may_end (after_all (p · r) ks) ≡ true
        → ((ks : List SyntaxKind) → may_end (after_all r ks) ≡ true → (if is_sure test p then n else suc n) ≤ length (filter test ks))
        → suc n ≤ length (filter test ks)) → suc n ≤ length (filter test (k ∷ ks))
    by true u e w more = counted test (is_sure test p) n k ks (λ a. implied (leads p) test a k e) (ih ks w)
    by false true e w more = grown test (suc n) k ks (more w ih)
    by false false e w more = absurd (true_is_not_false (sym w ∙ ap may_end (nowhere ks)))

-- this holds for each row whose children are examined one by one
stepped : (test : Test) (n m : ℕ) (q : Row) (ks : List SyntaxKind) → each_step test (λ n q. has test n m q) n q ≡ true
    → may_end q ≡ false → may_end (after_all q ks) ≡ true
    → ((n : ℕ) (q : Row) (ks : List SyntaxKind) → has test n m q ≡ true → may_end (after_all q ks) ≡ true → n ≤ length (filter test ks))
    → suc n ≤ length (filter test ks)
stepped test n m q [] h e w ih = absurd (true_is_not_false (sym w ∙ e))
stepped test n m q (k ∷ ks) h e w ih =
    let remaining : ℕ = if test k then n else suc n in
    counted test (test k) n k ks (λ e. e)
    (ih remaining (after q k) ks
    (sym (ap (λ v. if v then has test remaining m (after q k) else true) (later_viable (after q k) ks w))
    ∙ every (λ k. if is_viable (after q k) then has test (if test k then n else suc n) m (after q k) else true) h k) w)

-- what is computed is true of each row
enough : (test : Test) (n m : ℕ) (q : Row) (ks : List SyntaxKind) → has test n m q ≡ true → may_end (after_all q ks) ≡ true → n ≤ length (filter test ks)
enough test zero m q ks h w = omega arith
enough test (suc n) zero q ks h w = absurd (true_is_not_false (sym h))
enough test (suc n) (suc m) never ks h w = absurd (true_is_not_false (sym w ∙ ap may_end (nowhere ks)))
enough test (suc n) (suc m) done ks h w = absurd (true_is_not_false (sym h))
enough test (suc n) (suc m) (p · r) ks h w = by (passes p) refl h (λ n q ks h w. enough test n m q ks h w)
  where
    binary : (p : Part) → is_binary p ≡ true → may_end (p · r) ≡ false
    binary Binary h = refl
    binary _ h = absurd (true_is_not_false (sym h))

    by : (v : Bool) → passes p ≡ v
        → (if v then has test (if is_sure test p then n else suc n) m r else is_binary p && each_step test (λ n q. has test n m q) n (p · r)) ≡ true
        → ((n : ℕ) (q : Row) (ks : List SyntaxKind) → has test n m q ≡ true → may_end (after_all q ks) ≡ true → n ≤ length (filter test ks))
        → suc n ≤ length (filter test ks)
    by true e h ih = behind test n p r ks e w (λ ks w. ih (if is_sure test p then n else suc n) r ks h w)
    by false e h ih =
        let both = and_parts (is_binary p) _ h in
        stepped test n m (p · r) ks both.1 (binary p both.0) w ih
enough test (suc n) (suc m) (r or s) ks h w = stepped test n m (r or s) ks h refl w (λ n q ks h w. enough test n m q ks h w)

-- a number of steps that is enough for every row
abbrev steps : ℕ
steps = 7

-- each row of a kind has so many children of a set
abbrev pub row_has : Test → ℕ → SyntaxKind → Bool
row_has test n kind = has test n steps (row kind)

-- if a list has a member of the set, it has a first one
first_some : (test : Test) (ks : List SyntaxKind) → 1 ≤ length (filter test ks) → is_some (find test ks) ≡ true
first_some test [] h = absurd (omega (arith, h))
first_some test (k ∷ ks) h = by (test k) h (first_some test ks)
  where
    by : (w : Bool) → 1 ≤ length (cond w (k ∷ filter test ks) (filter test ks)) → (1 ≤ length (filter test ks) → is_some (find test ks) ≡ true)
        → is_some (cond w (Some k) (find test ks)) ≡ true
    by true h ih = refl
    by false h ih = ih h

pub row_first : (kind : SyntaxKind) (ks : List SyntaxKind) (test : Test) → row_has test 1 kind ≡ true → is_row kind ks ≡ true → is_some (find test ks) ≡ true
row_first kind ks test h r = first_some test ks (enough test 1 steps (row kind) ks h r)

-- a list of more than `n` members has the member number `n`
nth_some : {A : Type 0} (xs : List A) (n : ℕ) → suc n ≤ length xs → is_some (slice_get xs n) ≡ true
nth_some [] n h = absurd (omega (arith, h))
nth_some (x ∷ xs) zero h = refl
nth_some (x ∷ xs) (suc n) h = nth_some xs n (omega (arith, h))

pub row_nth : (kind : SyntaxKind) (ks : List SyntaxKind) (test : Test) (n : ℕ) → row_has test (suc n) kind ≡ true → is_row kind ks ≡ true
    → is_some (slice_get (filter test ks) n) ≡ true
row_nth kind ks test n h r = nth_some (filter test ks) n (enough test (suc n) steps (row kind) ks h r)

-- a test passes for all rows from here on, as far as rows are shorter than the number of steps
abbrev pub all_rows : ℕ → Row → (List SyntaxKind → Bool) → Bool
all_rows zero q test = false
all_rows (suc m) q test =
    (if may_end q then test [] else true) && list_all (λ k. if is_viable (after q k) then all_rows m (after q k) (λ ks. test (k ∷ ks)) else true) all_kinds

each_row : (m : ℕ) (q : Row) (test : List SyntaxKind → Bool) → all_rows m q test ≡ true → (ks : List SyntaxKind) → may_end (after_all q ks) ≡ true
    → test ks ≡ true
each_row zero q test h ks w = absurd (true_is_not_false (sym h))
each_row (suc m) q test h [] w = sym (ap (λ v. if v then test [] else true) w) ∙ (and_parts (if may_end q then test [] else true) _ h).0
each_row (suc m) q test h (k ∷ ks) w =
    each_row m (after q k) (λ ks. test (k ∷ ks))
    (sym (ap (λ v. if v then all_rows m (after q k) (λ ks. test (k ∷ ks)) else true) (later_viable (after q k) ks w))
    ∙ every (λ k. if is_viable (after q k) then all_rows m (after q k) (λ ks. test (k ∷ ks)) else true)
    (and_parts (if may_end q then test [] else true) _ h).1 k) ks w

-- a test that passes for all rows of a kind is true of each
pub row_is : (kind : SyntaxKind) (test : List SyntaxKind → Bool) → all_rows steps (row kind) test ≡ true → (ks : List SyntaxKind) → is_row kind ks ≡ true
    → test ks ≡ true
row_is kind test h ks r = each_row steps (row kind) test h ks r
