-- Which rows need a token, and that a repaired row can be completed as the row that is read: after a run of unwanted tokens the rests of both rows may
-- differ, but the same children continue them.
use Rattle.std.{specs.List.list_all, proofs.Common.{◌≡◌, ℕ, zero, suc, Bool, true, false, List, [], ◌∷◌, Option, Some, None, refl, ap, sym, ◌∙◌, subst, ◌||◌}}
use Rattle.{std.proofs.Common.if◌then◌else◌, rnix_kinds.specs.declared.kinds.SyntaxKind.{SyntaxKind, TheVariants.{NODE_LITERAL, NODE_PATTERN}}}
use Rattle.rnix_kinds.{specs.{declared.kinds.SyntaxKind.TheVariants.TOKEN_STRING_END, SyntaxKind.is_token}, proofs.AllKinds.{all_kinds, implied}}
use Rattle.{rnix_green.specs.Forest.Forest, rnix_grammar.specs.declared.rules.Part.{Part, TheVariants.{Child, Suffix, Binary, Many, Entries, Wanted, Formals}}}
use Rattle.rnix_grammar.specs.{declared.rules.Part.TheVariants.{FormalsAfterComma, Comma, BoundAlready}, AnnotatedForest.{Token, Note, Stray, Unwanted, Extra}}
use Rattle.rnix_grammar.specs.{AnnotatedForest.{DoubleBind, TooDeep}, Reads.IsWrong, Repaired.{repair, kinds_of}, Rules.{Row, never, done, ◌·◌, row, after}}
use Rattle.{rnix_grammar.specs.{Rules.{may_end, run_at}, CompleteRows.after_all}, rnix_proof_lemmas.proofs.Basics.{true_is_not_false, Where, where_one}}
use Rattle.rnix_proof_lemmas.proofs.{EachKind.{Each, each_kind}, RowKinds.has_row, ReachableRows.{IsKnown, is_viable, each_known, every_known, known_after}}
use Rattle.rnix_proof_lemmas.proofs.ViableRows.{later_viable}

-- some children complete the row
abbrev pub IsCompletable : Row → Type 0
IsCompletable q = (kinds : List SyntaxKind) × (may_end (after_all q kinds) ≡ true)

-- the first of some kinds that continues the row
abbrev first_viable : Row → List SyntaxKind → SyntaxKind
first_viable q [] = NODE_LITERAL
first_viable q (k ∷ ks) = if is_viable (after q k) then k else first_viable q ks

-- the children that complete a row: at most `n` of the first ones that continue it
abbrev ending : ℕ → Row → List SyntaxKind
ending zero q = []
ending (suc n) q = if may_end q then [] else first_viable q (TOKEN_STRING_END ∷ all_kinds) ∷ ending n (after q (first_viable q (TOKEN_STRING_END ∷ all_kinds)))

-- each viable row is completed by at most eight children
pub completed : {i : SyntaxKind} (q : Row) → IsKnown i q → is_viable q ≡ true → IsCompletable q
completed {i} q k l = (
  ending 8 q,
  sym (ap (λ w. if w then may_end (after_all q (ending 8 q)) else true) l) ∙
      every_known (λ i q. if is_viable q then may_end (after_all q (ending 8 q)) else true) (λ i. refl) refl i q k,
)

-- no row gets beyond the part without a token
abbrev pays : Part → Bool
pays (Child kind) = is_token kind
pays (Wanted kind) = is_token kind
pays (Suffix token) = true
pays Binary = true
pays (Many n closer) = true
pays (Entries closer) = true
pays Formals = true
pays FormalsAfterComma = true
pays Comma = true
pays part = false

-- a token must come before the row can end, and no node is that token
abbrev pub needs_token : Row → Bool
needs_token never = true
needs_token (p · r) = if may_end (p · r) then false else pays p || needs_token r
needs_token r = false

-- a row that needs a token may not end
pub needs_token_half : (q : Row) → needs_token q ≡ true → may_end q ≡ false
needs_token_half (p · r) h = by (may_end (p · r)) refl h
  where
    by : (w : Bool) → may_end (p · r) ≡ w → (if w then false else pays p || needs_token r) ≡ true → may_end (p · r) ≡ false
    by true e h = absurd (true_is_not_false (sym h))
    by false e h = e
needs_token_half never h = refl
needs_token_half _ h = absurd (true_is_not_false (sym h))

-- after a node, a row that needs a token still needs one
abbrev stays_needs_token : Row → Bool
stays_needs_token q = if needs_token q then list_all (λ k. if has_row k then needs_token (after q k) else true) all_kinds else true

pub needs_token_goes : {i : SyntaxKind} (q : Row) (k : SyntaxKind) → IsKnown i q → needs_token q ≡ true → has_row k ≡ true → needs_token (after q k) ≡ true
needs_token_goes {i} q k n o h = implied has_row (λ k. needs_token (after q k))
    (sym (ap (λ w. if w then list_all (λ k. if has_row k then needs_token (after q k) else true) all_kinds else true) o)
    ∙ every_known (λ i q. stays_needs_token q) (λ i. refl) refl i q n) k h

-- after a pattern a row needs a token
pub pattern_owes : {i : SyntaxKind} (q : Row) → IsKnown i q → is_viable (after q NODE_PATTERN) ≡ true → needs_token (after q NODE_PATTERN) ≡ true
pattern_owes {i} q n l = sym (ap (λ w. if w then needs_token (after q NODE_PATTERN) else true) l) ∙
    every_known (λ i q. if is_viable (after q NODE_PATTERN) then needs_token (after q NODE_PATTERN) else true) (λ i. refl) refl i q n

-- what continues the second row continues the first, which may end exactly if the second may, and needs a token if the second does
pub record Simulates (q0 q : Row) : Type 0 where
  pub goes : (k : SyntaxKind) → is_viable (after q k) ≡ true → after q0 k ≡ after q k
  pub ends : may_end q0 ≡ may_end q
  pub needs : needs_token q ≡ true → needs_token q0 ≡ true

-- a row simulates itself
pub simulates_self : (q : Row) → Simulates q q
simulates_self q = record { goes = λ k l. refl; ends = refl; needs = λ o. o }

-- a row simulates an equal one
pub simulates_same : (q0 q : Row) → q0 ≡ q → Simulates q0 q
simulates_same q0 q e = subst (λ x. Simulates q0 x) e (simulates_self q0)

-- simulating is transitive
pub simulates_both : {q0 q r : Row} → Simulates q0 q → Simulates q r → Simulates q0 r
simulates_both m n =
    record { goes = λ k l. m.goes k (ap is_viable (n.goes k l) ∙ l) ∙ n.goes k l; ends = m.ends ∙ n.ends; needs = λ o. m.needs (n.needs o) }

-- where a run may be read, the row before it simulates the row after it
abbrev SimulatesRun : Row → Option (List SyntaxKind × Row) → Type 0
SimulatesRun q None = Unit {0}
SimulatesRun q (Some w) =
    Each (λ k. Where (is_viable (after w.1 k)) (after q k ≡ after w.1 k)) all_kinds × (may_end q ≡ may_end w.1) × Where (needs_token w.1) (needs_token q ≡ true)

pub run_simulates : {i : SyntaxKind} (q r : Row) (ks : List SyntaxKind) → IsKnown i q → run_at q ≡ Some (ks, r) → Simulates q r
run_simulates {i} q r ks n h =
    let w : SimulatesRun q (Some (ks, r)) = subst (SimulatesRun q) h (each_known (λ i q. SimulatesRun q (run_at q)) (λ i. tt) (assumption) i q n) in
    record {
      goes = λ k l. where_one (is_viable (after r k)) l (each_kind (λ k. Where (is_viable (after r k)) (after q k ≡ after r k)) w.0 k);
      ends = w.1;
      needs = λ o. where_one (needs_token r) o w.2;
    }

-- the row before a second name simulates the row after it
pub second_simulates : Simulates (BoundAlready · done) done
second_simulates = record { goes = λ k l. absurd (true_is_not_false (sym l)); ends = refl; needs = λ o. absurd (true_is_not_false (sym o)) }

-- the rest of a row after the repair of an error node
abbrev pub after_repair : Note → Row → Row
after_repair Stray q = after q NODE_LITERAL
after_repair TooDeep q = after q NODE_LITERAL
after_repair n q = q

-- a row with the children of a repair is the row after the repair, with the other children
pub after_repair_all : (n : Note) (q : Row) (f : Forest) → after_all q (kinds_of (repair n f)) ≡ after_all (after_repair n q) (kinds_of f)
after_repair_all Stray q f = refl
after_repair_all _ q f = cc

pub known_after_repair : {i : SyntaxKind} {q : Row} (n : Note) → IsKnown i q → IsKnown i (after_repair n q)
known_after_repair Stray k = known_after NODE_LITERAL k
known_after_repair TooDeep k = known_after NODE_LITERAL k
known_after_repair _ k = k

-- after a repair, a row that needs a token still needs one
pub needs_token_after_repair : {i : SyntaxKind} (n : Note) (q : Row) → IsKnown i q → needs_token q ≡ true → needs_token (after_repair n q) ≡ true
needs_token_after_repair Stray q k o = needs_token_goes q NODE_LITERAL k o refl
needs_token_after_repair TooDeep q k o = needs_token_goes q NODE_LITERAL k o refl
needs_token_after_repair _ q k o = o

-- the number that replaces an error node continues the row as the error node does
literal_simulates : {q0 q r : Row} → Simulates q0 q → after q NODE_LITERAL ≡ r → is_viable r ≡ true → Simulates (after q0 NODE_LITERAL) r
literal_simulates {q0 = q0} {r = r} m g l = simulates_same (after q0 NODE_LITERAL) r (m.goes NODE_LITERAL (ap is_viable g ∙ l) ∙ g)

-- the row after the repair of an error node simulates the row after the error node
pub wrong_simulates : {i : SyntaxKind} (note : Note) (d : ℕ) (q0 q r : Row) (ts us : List Token) → IsKnown i q → IsWrong note d q r ts us → is_viable r ≡ true
    → Simulates q0 q
    → Simulates (after_repair note q0) r
wrong_simulates Stray d q0 q r ts us k w l m = literal_simulates m w.3 l
wrong_simulates (Unwanted until) d q0 q r ts us k w l m = simulates_both m (run_simulates q r _ k w.2)
wrong_simulates Extra d q0 q r ts us k w l m = subst (Simulates q0) (sym w.3) m
wrong_simulates DoubleBind d q0 q r ts us k w l m = absurd w
wrong_simulates TooDeep d q0 q r ts us k w l m = literal_simulates m w.3 l

-- the children that complete a row complete each row that simulates it
simulates_all : {q0 q : Row} → Simulates q0 q → (ks : List SyntaxKind) → may_end (after_all q ks) ≡ true → may_end (after_all q0 ks) ≡ true
simulates_all m [] h = m.ends ∙ h
simulates_all {q = q} m (k ∷ ks) h = ap (λ z. may_end (after_all z ks)) (m.goes k (later_viable (after q k) ks h)) ∙ h

-- a row that simulates a row that can be completed can be completed
pub simulates_completable : {q0 q : Row} → Simulates q0 q → IsCompletable q → IsCompletable q0
simulates_completable m w = (w.0, simulates_all m w.0 w.1)

-- no row may end before its first child
pub start_half : (k : SyntaxKind) → may_end (row k) ≡ false
start_half = each_kind (λ k. may_end (row k) ≡ false) (assumption)
