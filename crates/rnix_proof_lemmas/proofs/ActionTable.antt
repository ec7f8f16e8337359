-- The reader's action at each position of a row, for each next item, is one that the rules allow. This is one table, with a line for each action.
use Rattle.std.proofs.Common.{◌≡◌, ℕ, Bool, true, false, [], Option, Some, None, refl, sym, ap, subst, take, drop}
use Rattle.rnix_kinds.proofs.AllKinds.{all_kinds}
use Rattle.rnix_kinds.specs.declared.kinds.SyntaxKind.{SyntaxKind, TheVariants.{NODE_IDENT, NODE_LITERAL, NODE_PAT_ENTRY, TOKEN_IDENT, TOKEN_AT}}
use Rattle.rnix_grammar.specs.declared.{position.Position.Position, action.Action.Action, slot_table.TheConstants.SLOTS, rules.Part.TheVariants.{BoundAlready, TextEnd}}
use Rattle.rnix_grammar.specs.{Fault.{Fault, unexpected_eof, unexpected_eof_wanted}, Tables.{is_wanted, wanted_kinds}, AnnotatedForest.{blank, leaf_kind_as}, Actions.{action_at_slot, action_at}}
use Rattle.rnix_proof_lemmas.specs.SlotRows.{remaining_at, remaining_in}
use Rattle.rnix_grammar.specs.Rules.{Row, never, done, ◌·◌, row, only, after, may_end, missing, run_at, expects_item, expects_end, is_first_expected, level_at, counts}
use Rattle.rnix_proof_lemmas.proofs.{EachKind.{Each, each_kind}, EachIndex.{EachSlot, from_index, each_split, each_index}, Basics.true_is_not_false, LevelLemmas.atom_fits, RowParts.{is_front, is_remaining, expects_next}, RestAt.rest_at}
use Rattle.rnix_grammar.specs.declared.position.Position.TheVariants as p
use Rattle.rnix_grammar.specs.declared.action.Action.TheVariants as a

-- a node of a kind that is no operand may be read here, and `s` is the rest of the row after it
abbrev pub IsNodeHere : Row → Bool → Option SyntaxKind → SyntaxKind → Row → Type 0
IsNodeHere r touch next k s = (counts r ≡ false) × (level_at r blank ≡ None) × (expects_next r touch next ≡ is_first_expected r k blank) × (after r k ≡ s)

-- the row may end here
abbrev pub MayEnd : Row → Bool → Option SyntaxKind → Type 0
MayEnd r touch next = (may_end r ≡ true) × (expects_next r touch next ≡ false)

-- at the end of the text this error is reported here, and `s` is the rest of the row
abbrev pub IsMissing : Row → Fault → Row → Type 0
IsMissing r e s = (missing r ≡ Some (e, s)) × (expects_end r ≡ true)

-- an operand of a level, counted or not, is read here, and `s` is the rest of the row after it
abbrev pub IsOperandHere : Row → Bool → Option SyntaxKind → ℕ → Bool → Row → Type 0
IsOperandHere r touch next level counted s =
    (level_at r blank ≡ Some level) × (counts r ≡ counted) × (expects_next r touch next ≡ false) × (after r NODE_LITERAL ≡ s)

-- with this rest of the row and this next item, which touches the one before it or not, the rules allow the action
abbrev pub IsActionAt : Row → Bool → Option SyntaxKind → Action → Type 0
IsActionAt r touch next a.Close = MayEnd r touch next
IsActionAt r touch next a.ClosePattern = MayEnd r touch next
IsActionAt r touch next a.CloseEntry = MayEnd r touch next
IsActionAt r touch next a.CloseDoubleBind = MayEnd r touch next
IsActionAt r touch next a.Finish = Unit {0}
IsActionAt r touch (Some k) a.Extra = r ≡ TextEnd · done
IsActionAt r touch (Some k) (a.Take y) = (expects_item r touch k ≡ true) × (after r k ≡ remaining_at y)
IsActionAt r touch None (a.Miss y) = IsMissing r unexpected_eof (remaining_at y)
IsActionAt r touch None (a.MissWanted until y) = IsMissing r (unexpected_eof_wanted (wanted_kinds until)) (remaining_at y)
IsActionAt r touch (Some k) (a.Run until y) = (expects_item r touch k ≡ false) × (is_wanted until k ≡ false)
    × (run_at r ≡ Some (wanted_kinds until, remaining_at y))
IsActionAt r touch (Some j) (a.Leaf NODE_IDENT y) =
    IsNodeHere r touch (Some j) NODE_IDENT (remaining_at y) × (after (row NODE_IDENT) (leaf_kind_as NODE_IDENT j) ≡ done)
IsActionAt r touch (Some j) (a.Open k z y) =
    IsNodeHere r touch (Some j) k (remaining_at y) × (is_front (row k) ≡ true) × (after (row k) (leaf_kind_as k j) ≡ remaining_at z)
IsActionAt r touch next (a.OpenEmpty k z y) = IsNodeHere r touch next k (remaining_at y) × (row k ≡ remaining_at z)
IsActionAt r touch (Some j) (a.Entry y) = IsNodeHere r touch (Some j) NODE_PAT_ENTRY (remaining_at y) × (j ≡ TOKEN_IDENT)
IsActionAt r touch (Some j) (a.DoubleBind y) = (r ≡ BoundAlready · done) × (j ≡ TOKEN_AT) × (remaining_at y ≡ done)
IsActionAt r touch None (a.Read level counted y) = IsOperandHere r touch None level counted (remaining_at y)
    × (missing r ≡ Some (unexpected_eof, remaining_at y))
IsActionAt r touch next (a.Read level counted y) = IsOperandHere r touch next level counted (remaining_at y)
IsActionAt r touch next action = ⊥

-- the rest of the row at a position where a node is open
abbrev pub is_waiting : Row → Bool
is_waiting never = false
is_waiting r = is_remaining r

-- a position in a row, that is, not after an operand
abbrev pub is_in_row : Position → Bool
is_in_row (p.InRow i) = is_waiting (remaining_at i)
is_in_row (p.AfterOperand min_bp max_bp) = false
is_in_row (p.Right level) = true

-- a statement that must hold only where a node is open
abbrev IfWaiting : Bool → Type 0 → Type 0
IfWaiting true A = A
IfWaiting false A = Unit {0}

if_waiting : (w : Bool) (A : Type 0) → w ≡ true → IfWaiting w A → A
if_waiting true A e h = h
if_waiting false A e h = absurd (true_is_not_false (sym e))

-- past the end of the table no node is open, so there is nothing to show
past_end : (A : ℕ → Type 0) (i : ℕ) → drop i SLOTS ≡ [] → IfWaiting (is_waiting (remaining_at i)) (A i)
past_end A i d = subst (λ w. IfWaiting w (A i)) (sym (ap (λ ss. is_waiting (remaining_in ss)) d)) tt

-- the action at an index is allowed at the end of the text
abbrev AtEnd : Bool → ℕ → Type 0
AtEnd touch i = IfWaiting (is_waiting (remaining_at i)) (IsActionAt (remaining_at i) touch None (action_at_slot i None touch))

at_end : (touch : Bool) (i : ℕ) → AtEnd touch i
at_end true = each_index (AtEnd true) (assumption) (λ i e d. past_end (λ i. IsActionAt (remaining_at i) true None (action_at_slot i None true)) i d)
at_end false = each_index (AtEnd false) (assumption) (λ i e d. past_end (λ i. IsActionAt (remaining_at i) false None (action_at_slot i None false)) i d)

-- the action at an index is allowed before each item
abbrev BeforeItem : Bool → ℕ → Type 0
BeforeItem touch i = IfWaiting (is_waiting (remaining_at i))
    (Each (λ k. IsActionAt (remaining_at i) touch (Some k) (action_at_slot i (Some k) touch)) all_kinds)

-- checked by computation, for some indices at a time
before_0 : (touch : Bool) → EachSlot (BeforeItem touch) (take 15 SLOTS)
before_0 touch = assumption

before_15 : (touch : Bool) → EachSlot (from_index 15 (BeforeItem touch)) (take 12 (drop 15 SLOTS))
before_15 true = assumption
before_15 false = assumption

before_27 : (touch : Bool) → EachSlot (from_index 27 (BeforeItem touch)) (take 33 (drop 27 SLOTS))
before_27 touch = assumption

before_60 : (touch : Bool) → EachSlot (from_index 60 (BeforeItem touch)) (take 35 (drop 60 SLOTS))
before_60 touch = assumption

before_95 : (touch : Bool) → EachSlot (from_index 95 (BeforeItem touch)) (take 35 (drop 95 SLOTS))
before_95 touch = assumption

before_130 : (touch : Bool) → EachSlot (from_index 130 (BeforeItem touch)) (drop 130 SLOTS)
before_130 touch = assumption

before_each : (touch : Bool) → EachSlot (BeforeItem touch) SLOTS
before_each touch =
    each_split (BeforeItem touch) 15 SLOTS (before_0 touch)
    (each_split (from_index 15 (BeforeItem touch)) 12 (drop 15 SLOTS) (before_15 touch)
    (each_split (from_index 27 (BeforeItem touch)) 33 (drop 27 SLOTS) (before_27 touch)
    (each_split (from_index 60 (BeforeItem touch)) 35 (drop 60 SLOTS) (before_60 touch)
    (each_split (from_index 95 (BeforeItem touch)) 35 (drop 95 SLOTS) (before_95 touch) (before_130 touch)))))

before_item : (touch : Bool) (i : ℕ) → BeforeItem touch i
before_item touch = each_index (BeforeItem touch) (before_each touch)
    (λ i e d. past_end (λ i. Each (λ k. IsActionAt (remaining_at i) touch (Some k) (action_at_slot i (Some k) touch)) all_kinds) i d)

-- at each position of a row the reader's action is allowed
pub action_is_at : (x : Position) (touch : Bool) (next : Option SyntaxKind) → is_in_row x ≡ true → IsActionAt (rest_at x) touch next (action_at x next touch)
action_is_at (p.AfterOperand min_bp max_bp) touch next h = absurd (cc)
action_is_at (p.Right level) touch None h = ((refl, refl, refl, ap (λ w. only w done) (atom_fits level NODE_LITERAL refl)), refl)
action_is_at (p.Right level) touch (Some k) h = (refl, refl, refl, ap (λ w. only w done) (atom_fits level NODE_LITERAL refl))
action_is_at (p.InRow i) touch None h = if_waiting (is_waiting (remaining_at i)) (IsActionAt (remaining_at i) touch None (action_at_slot i None touch)) h
    (at_end touch i)
action_is_at (p.InRow i) touch (Some k) h =
    each_kind (λ k. IsActionAt (remaining_at i) touch (Some k) (action_at_slot i (Some k) touch))
    (if_waiting (is_waiting (remaining_at i)) (Each (λ k. IsActionAt (remaining_at i) touch (Some k) (action_at_slot i (Some k) touch)) all_kinds) h
    (before_item touch i)) k
