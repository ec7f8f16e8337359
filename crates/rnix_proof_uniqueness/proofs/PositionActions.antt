-- The reader's action at a position of a row, by what comes next in a reading.
use Rattle.std.proofs.Common.{◌≡◌, ◌⊎◌, inl, inr, ℕ, ◌<◌, Bool, true, false, ◌&&◌, ◌||◌, List, [], ◌∷◌, ◌++◌, Option, Some, None, refl, ap, sym, ◌∙◌, subst}
use Rattle.{std.proofs.{Common.{arith, if◌then◌else◌, nat_le}, lemmas.Bool.{and_parts, Decides.nat_tests}}, rnix_kinds.proofs.AllKinds.implied}
use Rattle.rnix_kinds.specs.declared.kinds.SyntaxKind.{SyntaxKind, TheVariants.{NODE_IDENT, NODE_LITERAL, NODE_PAT_ENTRY, TOKEN_AT, TOKEN_IDENT}}
use Rattle.{rnix_kinds.specs.SyntaxKind.is_token, rnix_green.specs.Equality.same_kind, rnix_grammar.specs.declared.position.Position.Position}
use Rattle.rnix_grammar.specs.declared.{action.Action.Action, expected_set.ExpectedSet.ExpectedSet, rules.Part.TheVariants.{Argument, BoundAlready, Many}}
use Rattle.rnix_grammar.specs.{declared.rules.Part.TheVariants.{Operand, TextEnd}, Fault.{Fault, unexpected_eof, unexpected_eof_wanted}, Tables.depth_limit}
use Rattle.rnix_grammar.specs.{Tables.wanted_kinds, Actions.action_at, NodeClasses.fits, Reads.{IsOver, IsRoom}, AnnotatedForest.{AnnotatedForest, Token, blank}}
use Rattle.rnix_grammar.specs.{AnnotatedForest.{head_kind, leaf_kind_as, touches}, Rules.{Row, done, ◌·◌, row, only, after, may_end, missing, is_there, run_at}}
use Rattle.{rnix_grammar.specs.Rules.{expects_end, is_first_expected, level_at, counts, IsExpected}, rnix_proof_lemmas.specs.{SlotRows.remaining_at, Machine.Head}}
use Rattle.rnix_proof_lemmas.{specs.Machine.{Frame, machine, opened, perform, limited}, proofs.{Basics.{true_is_not_false, not_if, some_same}, EveryKind.same}}
use Rattle.rnix_proof_lemmas.proofs.{ActionTable.IsActionAt, RestAt.rest_at, RowParts.{HasNoOperand, is_remaining, expects_next, remaining_no_operand}}
use Rattle.rnix_proof_lemmas.proofs.{RowParts.{remaining_first_expected, operand_goes, operand_not_expected}, ReachableRows.is_viable}
use Rattle.rnix_proof_uniqueness.proofs.{ViableReadings.{viable_only, uncounted, until_in, until_is}, OneAction.{is_at, is_inner, goal, lands, LeadsTo, asks}}
use Rattle.rnix_proof_uniqueness.proofs.OneAction.{asked, is_any, is_take, is_double_bind, is_extra, is_run, is_read, is_miss, is_ending, opens}
use Rattle.rnix_proof_uniqueness.proofs.OneAction.{opens_with_item, is_bound, is_text_end, may_begin, is_same, IsDone, done_at, done_as, other_end, other_item}
use Rattle.rnix_proof_uniqueness.proofs.OneAction.{remaining_at_position, next_is}
use Rattle.rnix_grammar.specs.declared.position.Position.TheVariants as p
use Rattle.rnix_grammar.specs.declared.action.Action.TheVariants as a

-- an expected token with which the row continues becomes a leaf
takes_by : (k j : SyntaxKind) (r : Row) (touch : Bool) (action : Action) → IsActionAt r touch (Some j) action → is_take action ≡ true → lands k action ≡ true
    → leaf_kind_as k j ≡ j
    → LeadsTo k (after r (leaf_kind_as k j)) a.Take action
takes_by k j r touch (a.Take y) s t l e = (refl, sym s.1 ∙ ap (after r) (sym e), l)
takes_by k j r touch _ s t l e = absurd (true_is_not_false (sym t))

pub takes_at : {k j : SyntaxKind} {r : Row} {touch : Bool} {action : Action} → IsDone k r touch (Some j) action → expects_next r touch (Some j) ≡ true
    → is_viable (after r (leaf_kind_as k j)) ≡ true → LeadsTo k (after r (leaf_kind_as k j)) a.Take action
takes_at {k} {j} {r} {touch} {action} w o l =
    let t = asked (is_viable (after r (leaf_kind_as k j))) _ (and_parts (asks (is_viable (after r (leaf_kind_as k j))) _) _ (done_as true w o)).0 l in
    let u = and_parts (same_kind (leaf_kind_as k j) j) _ t in
    let v = and_parts (is_take action) (lands k action) u.1 in
    takes_by k j r touch action w.action_is_at v.0 v.1 (same (leaf_kind_as k j) j u.0)

-- the parts of two equal pairs are equal
two_same : {A B : Type 0} (x y : A) (v w : B) {z : Option (A × B)} → z ≡ Some (x, v) → z ≡ Some (y, w) → (x ≡ y) × (v ≡ w)
two_same x y v w h e = let i = some_same (x, v) (y, w) (sym h ∙ e) in (ap (λ q. q.0) i, ap (λ q. q.1) i)

-- if a run is allowed, an item that is not expected begins one
runs_by : (k j : SyntaxKind) (r s : Row) (touch : Bool) (until : ExpectedSet) (action : Action) → IsActionAt r touch (Some j) action → is_run action ≡ true
    → lands k action ≡ true
    → run_at r ≡ Some (wanted_kinds until, s) → LeadsTo k s (a.Run until) action
runs_by k j r s touch until (a.Run v y) w t l e =
    let i = two_same (wanted_kinds v) (wanted_kinds until) (remaining_at y) s w.2 e in (
      ap (λ v. a.Run v y) (sym (until_is v) ∙ ap until_in i.0 ∙ until_is until),
      i.1,
      l,
    )
runs_by k j r s touch until _ w t l e = absurd (true_is_not_false (sym t))

pub runs_at : {k j : SyntaxKind} {r s : Row} {touch : Bool} {action : Action} (until : ExpectedSet) → IsDone k r touch (Some j) action
    → expects_next r touch (Some j) ≡ false
    → run_at r ≡ Some (wanted_kinds until, s) → LeadsTo k s (a.Run until) action
runs_at {k} {j} {r} {s} {touch} {action} until w o e =
    let t = asked (is_any (run_at r)) _ (and_parts (asks (is_any (run_at r)) _) _ (other_item w o)).0 (ap is_any e) in
    let v = and_parts (is_run action) (lands k action) t in
    runs_by k j r s touch until action w.action_is_at v.0 v.1 e

-- within the limit, an operand at the end of the text is reported as missing
reads_none : (level : ℕ) (z : Position) (h : Head) (d n : ℕ) (b : AnnotatedForest) (fs : List Frame) (gs : List Fault) (w : Bool) → nat_le depth_limit d ≡ w
    → d < depth_limit
    → (if w then limited false (opened h z d b) fs [] n gs else machine (opened h z d b ∷ fs) [] n (gs ++ unexpected_eof ∷ [])) ≡ machine (opened h z d b ∷ fs)
    [] n
    (gs ++ unexpected_eof ∷ [])
reads_none level z h d n b fs gs true e l = absurd (grind (arith, nat_tests, e, l))
reads_none level z h d n b fs gs false e l = refl

-- at the end of the text, the action reports the missing part, and this rest of the row is left
pub record Misses (k : SyntaxKind) (r : Row) (d : ℕ) (e : Fault) (action : Action) : Type 0 where
  pub rest : remaining_at (goal action) ≡ r
  pub here : is_at k (p.InRow (goal action)) ≡ true
  pub steps : (h : Head) (x : Position) (n : ℕ) (b : AnnotatedForest) (fs : List Frame) (gs : List Fault)
      → perform false action (opened h x d b) fs [] n gs ≡ machine (opened h (p.InRow (goal action)) d b ∷ fs) [] n (gs ++ e ∷ [])

misses_by : (k : SyntaxKind) (r s : Row) (touch : Bool) (d : ℕ) (e : Fault) (action : Action) → IsActionAt r touch None action → is_miss action ≡ true
    → lands k action ≡ true
    → missing r ≡ Some (e, s) → (expects_end r ≡ false → IsRoom r d) → Misses k s d e action
misses_by k r s touch d e (a.Miss y) w t l m room =
    let i = two_same unexpected_eof e (remaining_at y) s w.0 m in
    record { rest = i.1; here = l; steps = λ h x n b fs gs. ap (λ z. machine (opened h (p.InRow y) d b ∷ fs) [] n (gs ++ z ∷ [])) i.0 }
misses_by k r s touch d e (a.MissWanted until y) w t l m room =
    let i = two_same (unexpected_eof_wanted (wanted_kinds until)) e (remaining_at y) s w.0 m in
    record { rest = i.1; here = l; steps = λ h x n b fs gs. ap (λ z. machine (opened h (p.InRow y) d b ∷ fs) [] n (gs ++ z ∷ [])) i.0 }
misses_by k r s touch d e (a.Read level false y) w t l m room =
    let i = two_same unexpected_eof e (remaining_at y) s w.1 m in
    record { rest = i.1; here = l; steps = λ h x n b fs gs. ap (λ z. machine (opened h (p.InRow y) d b ∷ fs) [] n (gs ++ z ∷ [])) i.0 }
misses_by k r s touch d e (a.Read level true y) w t l m room =
    let i = two_same unexpected_eof e (remaining_at y) s w.1 m in
    record {
      rest = i.1;
      here = l;
      steps = λ h x n b fs gs. reads_none level (p.InRow y) h d n b fs gs (nat_le depth_limit d) refl (room w.0.2 w.0.1)
          ∙ ap (λ z. machine (opened h (p.InRow y) d b ∷ fs) [] n (gs ++ z ∷ [])) i.0;
    }
misses_by k r s touch d e _ w t l m room = absurd (true_is_not_false (sym t))

pub misses_at : {k : SyntaxKind} {r s : Row} {touch : Bool} {d : ℕ} {e : Fault} {action : Action} → IsDone k r touch None action → missing r ≡ Some (e, s)
    → (expects_end r ≡ false → IsRoom r d) → Misses k s d e action
misses_at {k} {r} {s} {touch} {d} {e} {action} w m room =
    let t = asked (is_there (missing r)) _ (and_parts (asks (is_there (missing r)) _) _ w.only).0 (ap is_there m) in
    let v = and_parts (is_miss action) (lands k action) t in
    misses_by k r s touch d e action w.action_is_at v.0 v.1 m room

-- the row ends where it may, if the next item is not expected
pub ends_at : (k : SyntaxKind) (x : Position) (n : ℕ) (ts : List Token) → is_at k x ≡ true → IsOver (rest_at x) n ts
    → is_ending k (action_at x (head_kind ts) (touches n ts)) ≡ true
ends_at k x n ts h o =
    asked (may_end (rest_at x)) _ (and_parts (asks (may_end (rest_at x)) _) _
    (other_end (done_at k x (touches n ts) (head_kind ts) h) (next_is k x n ts false h o.1))).0 o.0

-- items after the root's expression become one error node
pub extra_at : {k j : SyntaxKind} {r : Row} {touch : Bool} {action : Action} → IsDone k r touch (Some j) action → expects_next r touch (Some j) ≡ false
    → r ≡ TextEnd · done
    → action ≡ a.Extra
extra_at {r = r} {action = action} w o e = by action (asked (is_text_end r) _ (and_parts (asks (is_any (run_at r)) _) _ (other_item w o)).1 (ap is_text_end e))
  where
    by : (action : Action) → is_extra action ≡ true → action ≡ a.Extra
    by a.Extra h = refl
    by _ h = absurd (true_is_not_false (sym h))

-- a second name of a pattern begins
double_bind_by : (k : SyntaxKind) (r : Row) (touch : Bool) (action : Action) → IsActionAt r touch (Some TOKEN_AT) action → is_double_bind action ≡ true
    → lands k action ≡ true → LeadsTo k done a.DoubleBind action
double_bind_by k r touch (a.DoubleBind y) w t l = (refl, w.2, l)
double_bind_by k r touch _ w t l = absurd (true_is_not_false (sym t))

pub double_bind_at : {k : SyntaxKind} {r : Row} {touch : Bool} {action : Action} → IsDone k r touch (Some TOKEN_AT) action → r ≡ BoundAlready · done
    → LeadsTo k done a.DoubleBind action
double_bind_at {k} {r} {touch} {action} w e =
    let o = done_as true w (ap (λ r. expects_next r touch (Some TOKEN_AT)) e) in
    let v = and_parts (is_double_bind action) (lands k action) (asked (is_bound r) _ (and_parts (asks (is_viable (after r (leaf_kind_as k TOKEN_AT))) _) _ o).1
    (ap is_bound e)) in
    double_bind_by k r touch action w.action_is_at v.0 v.1

-- the action reads an operand of a level at this rest of a row, and the other rest is left after it
pub record Operands (k : SyntaxKind) (r s : Row) (action : Action) : Type 0 where
  pub level : ℕ
  pub is : level_at r blank ≡ Some level
  pub act : LeadsTo k s (a.Read level (counts r)) action

reads_by : (k : SyntaxKind) (r : Row) (touch : Bool) (next : Option SyntaxKind) (action : Action) → IsActionAt r touch next action → is_read action ≡ true
    → lands k action ≡ true
    → Operands k r (after r NODE_LITERAL) action
reads_by k r touch None (a.Read level counted y) w t l = record { level = level; is = w.0.0; act = (ap (λ c. a.Read level c y) (sym w.0.1), sym w.0.3, l) }
reads_by k r touch (Some j) (a.Read level counted y) w t l = record { level = level; is = w.0; act = (ap (λ c. a.Read level c y) (sym w.1), sym w.3, l) }
reads_by k r touch _ _ w t l = absurd (true_is_not_false (sym t))

-- this holds where operands or error nodes are allowed and the next item is not expected
pub reads_at : {k : SyntaxKind} {r : Row} {touch : Bool} {next : Option SyntaxKind} {action : Action} → IsDone k r touch next action
    → expects_next r touch next ≡ false
    → (is_any (level_at r blank) || is_viable (after r NODE_LITERAL)) ≡ true → Operands k r (after r NODE_LITERAL) action
reads_at {k} {r} {touch} {next} {action} w o e =
    let stands : Bool = is_any (level_at r blank) || is_viable (after r NODE_LITERAL) in
    let v = and_parts (is_read action) (lands k action) (asked stands _ (and_parts (asks stands _) _ (done_as false w o)).0 e) in
    reads_by k r touch next action w.action_is_at v.0 v.1

-- a statement about the next item, if there is one
abbrev pub IfNext : Option SyntaxKind → (SyntaxKind → Type 0) → Type 0
IfNext None P = Unit {0}
IfNext (Some j) P = P j

-- how a node of the kind that is not an operand begins in the row of another, with this rest left after it
pub data IsNode (k q : SyntaxKind) (r : Row) (next : Option SyntaxKind) (action : Action) : Type 0 where
  by_open_empty : (z : ℕ) → (is_at k (p.InRow z) ≡ true) × (is_inner k ≡ true) → row k ≡ remaining_at z → LeadsTo q r (a.OpenEmpty k z) action
      → IsNode k q r next action
  by_open : (z : ℕ) → (is_at k (p.InRow z) ≡ true) × (is_inner k ≡ true) × (opens_with_item k ≡ true)
      → IfNext next (λ j. after (row k) (leaf_kind_as k j) ≡ remaining_at z)
      → LeadsTo q r (a.Open k z) action → IsNode k q r next action
  by_name : k ≡ NODE_IDENT → LeadsTo q r (a.Leaf NODE_IDENT) action → IsNode k q r next action
  by_entry : k ≡ NODE_PAT_ENTRY → IfNext next (λ j. j ≡ TOKEN_IDENT) → LeadsTo q r a.Entry action → IsNode k q r next action

node_by : (q : SyntaxKind) (r : Row) (touch : Bool) (k : SyntaxKind) (next : Option SyntaxKind) (action : Action) → IsActionAt r touch next action
    → opens k action ≡ true
    → lands q action ≡ true → IsNode k q (after r k) next action
node_by q r touch k (Some j) (a.Leaf NODE_IDENT y) w o l =
    subst (λ k. IsNode k q (after r k) (Some j) (a.Leaf NODE_IDENT y)) (same NODE_IDENT k o) (by_name refl (refl, sym w.0.3, l))
node_by q r touch k (Some j) (a.Open i z y) w o l =
    let v = and_parts (same_kind i k) _ o in
    let u = and_parts (is_at i (p.InRow z)) _ v.1 in
    let t = and_parts (is_inner i) (opens_with_item i) u.1 in
    subst (λ k. IsNode k q (after r k) (Some j) (a.Open i z y)) (same i k v.0) (by_open z (u.0, t.0, t.1) w.2 (refl, sym w.0.3, l))
node_by q r touch k next (a.OpenEmpty i z y) w o l =
    let v = and_parts (same_kind i k) _ o in
    let u = and_parts (is_at i (p.InRow z)) (is_inner i) v.1 in
    subst (λ k. IsNode k q (after r k) next (a.OpenEmpty i z y)) (same i k v.0) (by_open_empty z (u.0, u.1) w.1 (refl, sym w.0.3, l))
node_by q r touch k (Some j) (a.Entry y) w o l =
    subst (λ k. IsNode k q (after r k) (Some j) (a.Entry y)) (same NODE_PAT_ENTRY k o) (by_entry refl w.1 (refl, sym w.0.3, l))
node_by q r touch k None (a.Leaf NODE_IDENT y) w o l = absurd w
node_by q r touch k None (a.Open i z y) w o l = absurd w
node_by q r touch k None (a.Entry y) w o l = absurd w
node_by q r touch k _ _ w o l = absurd (true_is_not_false (sym o))

-- no kind of node is that of a token
no_token : (closer k : SyntaxKind) → is_token closer ≡ true → is_viable (row k) ≡ true → same_kind closer k ≡ false
no_token closer k h l = by (same_kind closer k) refl
  where
    by : (w : Bool) → same_kind closer k ≡ w → same_kind closer k ≡ false
    by true i = absurd (true_is_not_false (sym h ∙ ap is_token (same closer k i)
        ∙ not_if (is_token k) (implied (λ j. is_viable (row j)) (λ j. if is_token j then false else true) refl k l)))
    by false i = i

-- a node that is allowed where operands are fits their level
operand_fits : (r : Row) (n : ℕ) (k : SyntaxKind) → is_remaining r ≡ true → level_at r blank ≡ Some n → is_viable (row k) ≡ true → is_viable (after r k) ≡ true
    → fits n k ≡ true
operand_fits (Operand m counted · r) n k i e h l = ap (λ m. fits m k) (sym (some_same m n e)) ∙ viable_only (fits m k) r l
operand_fits (Many m closer · r) n k i e h l =
    let goes : Bool → Row = λ w. if w then r else only (fits m k) (Many m closer · r) in
    ap (λ m. fits m k) (sym (some_same m n e)) ∙ viable_only (fits m k) (Many m closer · r) (ap (λ w. is_viable (goes w)) (sym (no_token closer k i h)) ∙ l)
operand_fits (Argument · r) n k i e h l = absurd (cc)
operand_fits _ n k i e h l = absurd (cc)

-- equal tests pass the test for equality
same_answer : (v w : Bool) → v ≡ w → is_same v w ≡ true
same_answer true w e = sym e
same_answer false true e = absurd (true_is_not_false (sym e))
same_answer false false e = refl

-- the action reads the node as an operand, or begins it by its kind
abbrev pub NodeRead : SyntaxKind → Position → Option SyntaxKind → SyntaxKind → Action → Type 0
NodeRead q x next k action =
    ((w : Operands q (rest_at x) (after (rest_at x) k) action) × (fits w.level k ≡ true)) ⊎
    (HasNoOperand (rest_at x) × IsNode k q (after (rest_at x) k) next action)

-- the action at a position where a node comes next reads it in one of these ways
pub node_at : {q : SyntaxKind} (x : Position) (n : ℕ) (ts : List Token) (k : SyntaxKind) (c : AnnotatedForest) → is_at q x ≡ true → is_viable (row k) ≡ true
    → is_viable (after (rest_at x) k) ≡ true → may_begin k (head_kind ts) ≡ true → IsExpected (rest_at x) n ts (is_first_expected (rest_at x) k c)
    → NodeRead q x (head_kind ts) k (action_at x (head_kind ts) (touches n ts))
node_at {q} x n ts k c h r g b o = by (level_at (rest_at x) blank) refl
  where
    action : Action
    action = action_at x (head_kind ts) (touches n ts)

    here : IsDone q (rest_at x) (touches n ts) (head_kind ts) action
    here = done_at q x (touches n ts) (head_kind ts) h

    remaining : is_remaining (rest_at x) ≡ true
    remaining = remaining_at_position q x h

    own : expects_next (rest_at x) (touches n ts) (head_kind ts) ≡ is_first_expected (rest_at x) k blank
    own = next_is q x n ts (is_first_expected (rest_at x) k c) h o ∙ remaining_first_expected (rest_at x) remaining k c

    by : (l : Option ℕ) → level_at (rest_at x) blank ≡ l → NodeRead q x (head_kind ts) k action
    by (Some l) e =
        let w = reads_at here (own ∙ operand_not_expected (rest_at x) l k remaining e) (ap (λ l. is_any l || is_viable (after (rest_at x) NODE_LITERAL)) e) in
        let fit : fits w.level k ≡ true = operand_fits (rest_at x) w.level k remaining w.is r g in
        inl (record { level = w.level; is = w.is; act = (w.act.0, w.act.1 ∙ sym (operand_goes (rest_at x) w.level k remaining w.is fit), w.act.2) }, fit)
    by None e =
        let same : Bool = is_same (expects_next (rest_at x) (touches n ts) (head_kind ts)) (is_first_expected (rest_at x) k blank) in
        let both : (same && may_begin k (head_kind ts)) ≡ true = ap (λ w. w && may_begin k (head_kind ts)) (same_answer _ _ own) ∙ b in
        let v = and_parts (opens k action) (lands q action) (asked (same && may_begin k (head_kind ts)) _ (here.nodes k e g r) both) in
        inr (
          remaining_no_operand (rest_at x) remaining (uncounted (rest_at x) e) e,
          node_by q (rest_at x) (touches n ts) k
              (head_kind ts) action here.action_is_at v.0 v.1,
        )
