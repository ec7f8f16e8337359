-- The reader's action at each position of a row is the only one with which a reading can continue there: one table of tests, beside ActionTable.
use Rattle.std.proofs.Common.{◌≡◌, ℕ, Bool, true, false, ◌&&◌, ◌||◌, List, [], ◌∷◌, Option, Some, None, refl, ap, sym, ◌∙◌, subst, if◌then◌else◌}
use Rattle.{std.{proofs.lemmas.Bool.and_parts, specs.{List.{list_all, list_any}, Prelude.drop}}, rnix_kinds.proofs.AllKinds.{all_kinds, every}}
use Rattle.rnix_kinds.specs.declared.kinds.SyntaxKind.{SyntaxKind, TheVariants.{NODE_BIN_OP, NODE_ERROR, NODE_IDENT, NODE_LITERAL, NODE_PAT_ENTRY, NODE_ROOT}}
use Rattle.rnix_kinds.specs.declared.kinds.SyntaxKind.TheVariants.{TOKEN_IDENT, NODE_DYNAMIC, NODE_INHERIT, NODE_INHERIT_FROM, NODE_INTERPOL, NODE_PAT_BIND}
use Rattle.{rnix_kinds.specs.declared.kinds.SyntaxKind.TheVariants.NODE_STRING, rnix_green.specs.Equality.same_kind}
use Rattle.rnix_grammar.specs.declared.{position.Position.Position, action.Action.Action, slot_table.TheConstants.SLOTS, rules.Part.TheVariants.BoundAlready}
use Rattle.rnix_grammar.specs.{declared.rules.Part.TheVariants.TextEnd, Actions.{action_at_slot, action_at}, AnnotatedForest.{Token, blank, head_kind}}
use Rattle.rnix_grammar.specs.{AnnotatedForest.{leaf_kind_as, touches}, Rules.{Row, never, ◌·◌, row, after, may_end, missing, is_there, run_at}}
use Rattle.{rnix_grammar.specs.Rules.{is_first_expected, level_at, IsExpected}, rnix_proof_lemmas.specs.SlotRows.{remaining_at, remaining_in, kind_at}}
use Rattle.rnix_proof_lemmas.proofs.{Basics.true_is_not_false, EachIndex.each_index, EveryKind.same, ActionTable.{is_waiting, IsActionAt, action_is_at}}
use Rattle.rnix_proof_lemmas.proofs.{RestAt.rest_at, RowParts.{is_remaining, expects_next, expects_at}, ReachableRows.is_viable}
use Rattle.rnix_proof_uniqueness.proofs.ViableReadings.{as_expected}
use Rattle.rnix_grammar.specs.declared.position.Position.TheVariants as p
use Rattle.rnix_grammar.specs.declared.action.Action.TheVariants as a

-- a position in the row of a node of the kind, at which the reader may be
abbrev pub is_at : SyntaxKind → Position → Bool
is_at k (p.InRow i) = same_kind (kind_at i) k && is_waiting (remaining_at i)
is_at k (p.AfterOperand min_bp max_bp) = false
is_at k (p.Right level) = same_kind NODE_BIN_OP k

-- the index to which an action leads
abbrev pub goal : Action → ℕ
goal (a.Take y) = y
goal (a.Miss y) = y
goal (a.MissWanted until y) = y
goal (a.Run until y) = y
goal (a.Leaf k y) = y
goal (a.Open k z y) = y
goal (a.OpenEmpty k z y) = y
goal (a.Entry y) = y
goal (a.DoubleBind y) = y
goal (a.Read level counted y) = y
goal action = 0

-- the action leads to a position in the row of a node of the kind
abbrev pub lands : SyntaxKind → Action → Bool
lands k action = is_at k (p.InRow (goal action))

-- an action leads to a position in the row of a node of the kind, with this rest of the row
abbrev pub LeadsTo : SyntaxKind → Row → (ℕ → Action) → Action → Type 0
LeadsTo k r to action = (action ≡ to (goal action)) × (remaining_at (goal action) ≡ r) × (is_at k (p.InRow (goal action)) ≡ true)

-- if the first test is true, so is the second
abbrev pub asks : Bool → Bool → Bool
asks true w = w
asks false w = true

pub asked : (v w : Bool) → asks v w ≡ true → v ≡ true → w ≡ true
asked true w h e = h
asked false w h e = absurd (true_is_not_false (sym e))

-- a disjunction is true if its second test is
pub or_true : (v : Bool) {w : Bool} → w ≡ true → (v || w) ≡ true
or_true true e = refl
or_true false e = e

-- there is a value
abbrev pub is_any : {A : Type 0} → Option A → Bool
is_any None = false
is_any (Some x) = true

-- the action consumes the next item; the tests after this one are for other kinds of actions
abbrev pub is_take : Action → Bool
is_take (a.Take y) = true
is_take action = false

abbrev pub is_double_bind : Action → Bool
is_double_bind (a.DoubleBind y) = true
is_double_bind action = false

abbrev pub is_extra : Action → Bool
is_extra a.Extra = true
is_extra action = false

abbrev pub is_run : Action → Bool
is_run (a.Run until y) = true
is_run action = false

abbrev pub is_read : Action → Bool
is_read (a.Read level counted y) = true
is_read action = false

abbrev pub is_miss : Action → Bool
is_miss (a.Miss y) = true
is_miss (a.MissWanted until y) = true
is_miss action = is_read action

-- a node of the kind closes without reporting anything and is no error node
abbrev pub is_closed : SyntaxKind → Bool
is_closed NODE_PAT_ENTRY = false
is_closed NODE_ERROR = false
is_closed k = true

-- the action ends the row of a node of the kind; for the root, this is true of every action but `CloseEntry` and `CloseDoubleBind`
abbrev pub is_ending : SyntaxKind → Action → Bool
is_ending k a.Close = is_closed k
is_ending k a.ClosePattern = is_closed k
is_ending k a.CloseEntry = same_kind NODE_PAT_ENTRY k
is_ending k a.CloseDoubleBind = same_kind NODE_ERROR k
is_ending k action = same_kind NODE_ROOT k

-- the row has come to the end of a pattern that has a name before it; the next test is for the end of the text
abbrev pub is_bound : Row → Bool
is_bound (BoundAlready · r) = true
is_bound r = false

abbrev pub is_text_end : Row → Bool
is_text_end (TextEnd · r) = true
is_text_end r = false

-- the only node that may come next in the row is a name
abbrev pub names_only : Row → Bool
names_only r = list_all (λ k. if is_viable (after r k) then (if is_viable (row k) then same_kind k NODE_IDENT else true) else true) all_kinds

-- a token with which a name begins
abbrev pub is_name : SyntaxKind → Bool
is_name j = same_kind (leaf_kind_as NODE_IDENT j) TOKEN_IDENT

-- no token with which a node of the kind begins is a name's
abbrev pub is_opened : SyntaxKind → Bool
is_opened k = list_all (λ j. if is_viable (after (row k) (leaf_kind_as k j)) then (if is_name j then false else true) else true) all_kinds

-- the kinds of nodes that are inside others
abbrev pub is_inner : SyntaxKind → Bool
is_inner NODE_ROOT = false
is_inner NODE_ERROR = false
is_inner k = true

-- the kinds of nodes that begin with a token, where no operand is expected; the next test is also for those that begin with a name
abbrev pub opens_with_item : SyntaxKind → Bool
opens_with_item k = list_any (λ j. same_kind j k) (NODE_STRING ∷ (NODE_DYNAMIC ∷ (NODE_INTERPOL ∷ (NODE_INHERIT ∷ (NODE_INHERIT_FROM ∷ (NODE_PAT_BIND ∷ []))))))

abbrev pub begins_with_item : SyntaxKind → Bool
begins_with_item k = opens_with_item k || (same_kind NODE_IDENT k || same_kind NODE_PAT_ENTRY k)

-- the action begins a node of the kind, or makes it of the next item
abbrev pub opens : SyntaxKind → Action → Bool
opens k (a.Leaf NODE_IDENT y) = same_kind NODE_IDENT k
opens k (a.Open j z y) = same_kind j k && (is_at j (p.InRow z) && (is_inner j && opens_with_item j))
opens k (a.OpenEmpty j z y) = same_kind j k && (is_at j (p.InRow z) && is_inner j)
opens k (a.Entry y) = same_kind NODE_PAT_ENTRY k
opens k action = false

-- if the next item is expected, it becomes a leaf, or begins a second name of a pattern
abbrev pub by_own : SyntaxKind → Row → Option SyntaxKind → Action → Bool
by_own k r None action = true
by_own k r (Some j) action =
    asks (is_viable (after r (leaf_kind_as k j))) (same_kind (leaf_kind_as k j) j && (is_take action && lands k action)) && asks (is_bound r)
    (is_double_bind action && lands k action)

-- if it is not, an operand is read, or the row ends, or a run of other items is read
abbrev pub by_item : SyntaxKind → Row → Option SyntaxKind → Action → Bool
by_item k r None action = true
by_item k r (Some j) action = asks (is_any (run_at r)) (is_run action && lands k action) && asks (is_text_end r) (is_extra action)

abbrev pub by_other : SyntaxKind → Row → Option SyntaxKind → Action → Bool
by_other k r next action =
    asks (is_any (level_at r blank) || is_viable (after r NODE_LITERAL))
    (is_read action && lands k action) && (asks (may_end r) (is_ending k action) && by_item k r next action)

-- at the end of the text the missing part is reported
abbrev pub by_end : SyntaxKind → Row → Option SyntaxKind → Action → Bool
by_end k r None action = asks (is_there (missing r)) (is_miss action && lands k action)
by_end k r (Some j) action = true

-- no other action is possible in the row of a node of the kind, apart from reading a node that is no operand
abbrev pub by_next : Bool → SyntaxKind → Row → Option SyntaxKind → Action → Bool
by_next true = by_own
by_next false = by_other

abbrev pub is_only : SyntaxKind → Row → Bool → Option SyntaxKind → Action → Bool
is_only k r touch next action = by_end k r next action && by_next (expects_next r touch next) k r next action

-- a node of the kind may begin with the next item, if it begins with an item or a name
abbrev pub is_first : SyntaxKind → Option SyntaxKind → Bool
is_first k None = false
is_first k (Some j) = is_viable (after (row k) (leaf_kind_as k j)) || (is_viable (after (row k) NODE_IDENT) && is_name j)

abbrev pub may_begin : SyntaxKind → Option SyntaxKind → Bool
may_begin k next = if begins_with_item k then is_first k next else true

-- two tests give the same result
abbrev pub is_same : Bool → Bool → Bool
is_same true w = w
is_same false w = if w then false else true

-- if a node of the kind comes next in the row of another, the action begins it
abbrev pub by_node : SyntaxKind → Row → Bool → SyntaxKind → Option SyntaxKind → Action → Bool
by_node q r touch k next action = asks (is_same (expects_next r touch next) (is_first_expected r k blank) && may_begin k next)
    (opens k action && lands q action)

-- a test passes for each next item, and for the end of the text
abbrev all_next : (Option SyntaxKind → Bool) → Bool
all_next test = test None && list_all (λ k. test (Some k)) all_kinds

every_next : (test : Option SyntaxKind → Bool) → all_next test ≡ true → (next : Option SyntaxKind) → test next ≡ true
every_next test h None = (and_parts (test None) _ h).0
every_next test h (Some k) = every (λ k. test (Some k)) (and_parts (test None) _ h).1 k

abbrev by_nodes : ℕ → Bool → SyntaxKind → Bool
by_nodes i touch k =
    asks (is_viable (after (remaining_at i) k)) (asks (is_viable (row k))
    (all_next (λ next. by_node (kind_at i) (remaining_at i) touch k next (action_at_slot i next touch))))

-- all of these tests at an index of the table
abbrev at_index : Bool → ℕ → Bool
at_index touch i =
    all_next (λ next. is_only (kind_at i) (remaining_at i) touch next (action_at_slot i next touch))
    && (is_any (level_at (remaining_at i) blank) || list_all (by_nodes i touch) all_kinds)

abbrev IsIndex : Bool → ℕ → Type 0
IsIndex touch i = asks (is_waiting (remaining_at i)) (at_index touch i) ≡ true

past_end : (touch : Bool) (i : ℕ) → drop i SLOTS ≡ [] → IsIndex touch i
past_end touch i d = ap (λ ss. asks (is_waiting (remaining_in ss)) (at_index touch i)) d

is_index : (touch : Bool) (i : ℕ) → IsIndex touch i
is_index true = each_index (IsIndex true) (assumption) (λ i e d. past_end true i d)
is_index false = each_index (IsIndex false) (assumption) (λ i e d. past_end false i d)

-- at this rest of the row of a node of the kind, the action is allowed, and is the only one
pub record IsDone (k : SyntaxKind) (r : Row) (touch : Bool) (next : Option SyntaxKind) (action : Action) : Type 0 where
  pub action_is_at : IsActionAt r touch next action
  pub only : is_only k r touch next action ≡ true
  pub nodes : (j : SyntaxKind) → level_at r blank ≡ None → is_viable (after r j) ≡ true → is_viable (row j) ≡ true → by_node k r touch j next action ≡ true

-- this holds at each index
remaining_done : (i : ℕ) (touch : Bool) (next : Option SyntaxKind) → is_waiting (remaining_at i) ≡ true
    → IsDone (kind_at i) (remaining_at i) touch next (action_at_slot i next touch)
remaining_done i touch next h =
    let all = and_parts (all_next (λ next. is_only (kind_at i) (remaining_at i) touch next (action_at_slot i next touch))) _
    (asked (is_waiting (remaining_at i)) (at_index touch i) (is_index touch i) h) in
    record {
      action_is_at = action_is_at (p.InRow i) touch next h;
      only = every_next (λ next. is_only (kind_at i) (remaining_at i) touch next (action_at_slot i next touch)) all.0 next;
      nodes = λ j n l o.
          let nodes = every (by_nodes i touch) (sym (ap (λ l. is_any l || list_all (by_nodes i touch) all_kinds) n) ∙ all.1) j in
          every_next (λ next. by_node (kind_at i) (remaining_at i) touch j next (action_at_slot i next touch))
          (asked (is_viable (row j)) _ (asked (is_viable (after (remaining_at i) j)) _ nodes l) o) next;
    }

-- this holds at each position of a row
pub done_at : (k : SyntaxKind) (x : Position) (touch : Bool) (next : Option SyntaxKind) → is_at k x ≡ true
    → IsDone k (rest_at x) touch next (action_at x next touch)
done_at k (p.InRow i) touch next h =
    let w = and_parts (same_kind (kind_at i) k) (is_waiting (remaining_at i)) h in
    subst (λ k. IsDone k (remaining_at i) touch next (action_at_slot i next touch)) (same (kind_at i) k w.0) (remaining_done i touch next w.1)
done_at k (p.AfterOperand min_bp max_bp) touch next h = absurd (true_is_not_false (sym h))
done_at k (p.Right level) touch next h =
    subst (λ k. IsDone k (rest_at (p.Right level)) touch next (action_at (p.Right level) next touch)) (same NODE_BIN_OP k h)
    (record { action_is_at = action_is_at (p.Right level) touch next refl; only = by next; nodes = λ j n l o. absurd (cc n) })
  where
    by : (next : Option SyntaxKind) → is_only NODE_BIN_OP (rest_at (p.Right level)) touch next (action_at (p.Right level) next touch) ≡ true
    by None = refl
    by (Some k) = refl

-- this holds whether the next item is expected or not
pub done_as : {k : SyntaxKind} {r : Row} {touch : Bool} {next : Option SyntaxKind} {action : Action} (own : Bool) → IsDone k r touch next action
    → expects_next r touch next ≡ own → by_next own k r next action ≡ true
done_as {k} {r} {touch} {next} {action} own w e = ap (λ own. by_next own k r next action) (sym e) ∙ (and_parts (by_end k r next action) _ w.only).1

pub other_end : {k : SyntaxKind} {r : Row} {touch : Bool} {next : Option SyntaxKind} {action : Action} → IsDone k r touch next action
    → expects_next r touch next ≡ false
    → (asks (may_end r) (is_ending k action) && by_item k r next action) ≡ true
other_end {k} {r} {action = action} w o =
    (and_parts (asks (is_any (level_at r blank) || is_viable (after r NODE_LITERAL)) (is_read action && lands k action)) _ (done_as false w o)).1

pub other_item : {k : SyntaxKind} {r : Row} {touch : Bool} {next : Option SyntaxKind} {action : Action} → IsDone k r touch next action
    → expects_next r touch next ≡ false
    → by_item k r next action ≡ true
other_item {k} {r} {action = action} w o = (and_parts (asks (may_end r) (is_ending k action)) _ (other_end w o)).1

-- the rest of a row at such a position does not begin with a child that its node always has
waiting_remaining : (r : Row) → is_waiting r ≡ true → is_remaining r ≡ true
waiting_remaining never h = refl
waiting_remaining _ h = h

pub waiting_viable : (r : Row) → is_waiting r ≡ true → is_viable r ≡ true
waiting_viable never h = h
waiting_viable _ h = refl

pub remaining_at_position : (k : SyntaxKind) (x : Position) → is_at k x ≡ true → is_remaining (rest_at x) ≡ true
remaining_at_position k (p.InRow i) h = waiting_remaining (remaining_at i) (and_parts (same_kind (kind_at i) k) (is_waiting (remaining_at i)) h).1
remaining_at_position k (p.AfterOperand min_bp max_bp) h = absurd (true_is_not_false (sym h))
remaining_at_position k (p.Right level) h = refl

-- the row expects the next item at a position exactly if a reading does
pub next_is : (k : SyntaxKind) (x : Position) (n : ℕ) (ts : List Token) (own : Bool) → is_at k x ≡ true → IsExpected (rest_at x) n ts own
    → expects_next (rest_at x) (touches n ts) (head_kind ts) ≡ own
next_is k x n ts own h o = sym (expects_at (rest_at x) n ts) ∙ as_expected (rest_at x) (remaining_at_position k x h) n ts own o
