-- The actions in the grammar's tables are allowed at their positions.
use Rattle.std.proofs.Common.{◌≡◌, ℕ, ◌+◌, Bool, true, false, [], ◌∷◌, Option, Some, None, refl, sym, ap, subst, arith, nat_le, if◌then◌else◌, ◌||◌, ◌∙◌}
use Rattle.std.specs.{Prelude.drop, List.list_any}
use Rattle.rnix_kinds.specs.declared.kinds.SyntaxKind.{SyntaxKind, TheVariants.{TOKEN_INHERIT, TOKEN_OR, TOKEN_QUESTION, NODE_IDENT, NODE_INTERPOL, NODE_PAT_BIND, NODE_PATTERN, NODE_PAT_ENTRY, NODE_ERROR, NODE_ROOT}}
use Rattle.rnix_green.specs.Equality.{same_kind}
use Rattle.rnix_grammar.specs.declared.{position.Position.Position, action.Action.Action, rules.Part.Part, slot_table.{Slot.{Slot, TheVariants.{Next, End}}, TheConstants.{SLOTS, ROOT, PATTERN, AFTER_COMMA, AFTER_FORMAL, PATTERN_CLOSE, BOUND_AFTER_COMMA, BOUND_AFTER_FORMAL, BOUND_PATTERN_CLOSE}}}
use Rattle.rnix_grammar.specs.{Tables.wanted_kinds, Actions.{expected_set_of, token_action, is_not, continue_action, may_continue, slot_action, action_at}, Slots.{slot_at}}
use Rattle.rnix_proof_lemmas.specs.FrameKinds.{FrameKind, Root, Pattern, Entry, OperandFrame, NodeFrame, frame_kind, frame_kind_of_row, frame_kind_in, may_hold, is_open}
use Rattle.rnix_proof_lemmas.specs.Allowed.{Allowed}
use Rattle.rnix_proof_lemmas.specs.Measures.{steps_with, steps_from, measure, start_measure_in, start_measure}
use Rattle.rnix_proof_lemmas.proofs.{EachKind.each_kind, EachIndex.{each_index}}
use Rattle.rnix_grammar.specs.declared.position.Position.TheVariants as p
use Rattle.rnix_grammar.specs.declared.rules.Part.TheVariants as r
use Rattle.rnix_grammar.specs.declared.action.Action.TheVariants as a

-- the frame kind of a position, by the next part; tokens, operands and names occur at positions of several frame kinds, so theirs is given
abbrev pub sort_by_part : Part → FrameKind → FrameKind
sort_by_part (r.Many level closer) own = NodeFrame
sort_by_part (r.Entries closer) own = NodeFrame
sort_by_part r.Attr own = NodeFrame
sort_by_part r.Attrpath own = NodeFrame
sort_by_part r.MoreAttrs own = NodeFrame
sort_by_part r.Names own = NodeFrame
sort_by_part (r.Optional kind) own = NodeFrame
sort_by_part r.Pieces own = NodeFrame
sort_by_part r.PathPieces own = NodeFrame
sort_by_part r.Formals own = Pattern
sort_by_part r.FormalsAfterComma own = Pattern
sort_by_part r.Comma own = Pattern
sort_by_part r.BoundAlready own = Pattern
sort_by_part r.TextEnd own = Root
sort_by_part (r.EndOr TOKEN_QUESTION) own = Entry
sort_by_part (r.EndOr NODE_PAT_BIND) own = Pattern
sort_by_part (r.EndOr kind) own = NodeFrame
sort_by_part part own = own

-- the frame kind of a position, by its slot
abbrev pub sort_by : Option Slot → FrameKind → FrameKind
sort_by None own = NodeFrame
sort_by (Some (End NODE_ROOT)) own = NodeFrame
sort_by (Some (End kind)) own = frame_kind_of_row kind
sort_by (Some (Next part)) own = sort_by_part part own

-- the frame kind of the position after a part
abbrev sort_after : Option Slot → ℕ → FrameKind → FrameKind
sort_after (Some (Next r.TextEnd)) i own = own
sort_after (Some (Next part)) i own = frame_kind (p.InRow (i + 1))
sort_after slot i own = own

-- a position of this frame kind may have this slot: a token is in no second name, and an operand only where one may be
abbrev may_stand : Option Slot → FrameKind → Bool
may_stand (Some (Next (r.Operand level counted))) sort = may_hold sort OperandFrame
may_stand (Some (Next (r.Wanted NODE_IDENT))) sort = true
may_stand (Some (Next part)) sort = is_open sort
may_stand slot sort = true

-- the only index with this slot, if it is the end of the text
abbrev index_by : Option Slot → ℕ → ℕ
index_by (Some (Next r.TextEnd)) i = ROOT + 1
index_by slot i = i

-- the list of kinds that an error reports for a missing child is this child's kind alone
abbrev ReportsMissingChild : Option Slot → Type 0
ReportsMissingChild (Some (Next (r.Wanted NODE_IDENT))) = Unit {0}
ReportsMissingChild (Some (Next (r.Wanted kind))) = wanted_kinds (expected_set_of kind) ≡ kind ∷ []
ReportsMissingChild slot = Unit {0}

-- what the slot of an index fixes: its frame kind and the next one's, what may be there, and the number of steps at the end of the text
abbrev SlotAgrees : Option Slot → ℕ → Type 0
SlotAgrees slot i =
    (frame_kind (p.InRow i) ≡ sort_by slot (frame_kind (p.InRow i))) × (sort_after slot i (frame_kind (p.InRow i)) ≡ frame_kind (p.InRow i))
    × (may_stand slot (frame_kind (p.InRow i)) ≡ true) × (i ≡ index_by slot i) × (measure (p.InRow i) ≡ steps_with measure (slot_action slot i None false))
    × (nat_le 1 (measure (p.InRow i)) ≡ true) × (nat_le (measure (p.InRow i)) 7 ≡ true) × ReportsMissingChild slot

past_end : (i : ℕ) → slot_at i ≡ None → drop i SLOTS ≡ [] → SlotAgrees (slot_at i) i
past_end i e d =
    let steps : measure (p.InRow i) ≡ 1 = ap (λ s. steps_with (steps_from 6) (slot_action s i None false)) e in
    subst (λ s. SlotAgrees s i) (sym e) (ap frame_kind_in d, refl, refl, refl, steps, ap (nat_le 1) steps, ap (λ n. nat_le n 7) steps, tt)

pub slot_agrees : (i : ℕ) → SlotAgrees (slot_at i) i
slot_agrees = each_index (λ i. SlotAgrees (slot_at i) i) (assumption) past_end

-- the frame kind of a position, by its slot
pub sort_there : (i : ℕ) → frame_kind (p.InRow i) ≡ sort_by (slot_at i) (frame_kind (p.InRow i))
sort_there i = (slot_agrees i).0

-- the measure of a position is that of its action at the end of the text; it is at least 1 and at most a small number
pub measure_there : (position : Position)
    → (measure position ≡ steps_with measure (action_at position None false)) × (nat_le 1 (measure position) ≡ true) × (nat_le (measure position) 7 ≡ true)
measure_there (p.InRow i) = let w = slot_agrees i in (w.4, w.5, w.6)
measure_there (p.AfterOperand min_bp max_bp) = (refl, refl, refl)
measure_there (p.Right level) = (refl, refl, refl)

-- a choice is allowed if both of its actions are
either : (position : Position) (next : Option SyntaxKind) (b : Bool) (x y : Action) → (b ≡ true → Allowed position next x)
    → (b ≡ false → Allowed position next y) → Allowed position next (if b then x else y)
either position next true x y h k = h refl
either position next false x y h k = k refl

-- the action at a slot is allowed at the end of the text
ended : (slot : Option Slot) (i : ℕ) (touches : Bool) → start_measure (p.InRow i) ≡ start_measure_in slot → SlotAgrees slot i
    → Allowed (p.InRow i) None (slot_action slot i None touches)
ended None i touches e w = (w.0, e)
ended (Some (End NODE_PAT_ENTRY)) i touches e w = w.0
ended (Some (End NODE_PATTERN)) i touches e w = w.0
ended (Some (End NODE_ERROR)) i touches e w = w.0
ended (Some (End _)) i touches e w = (w.0, e)
ended (Some (Next (r.Operand level counted))) i touches e w = ((w.1, omega (arith, w.4)), w.2)
ended (Some (Next r.Attrpath)) i touches e w = (w.1, refl, refl, ap is_open w.0, refl, omega (arith, w.4), λ n. omega (arith, w.4))
ended (Some (Next r.MoreAttrs)) i touches e w = (w.0, e)
ended (Some (Next r.PathPieces)) i true e w = (w.0, e)
ended (Some (Next r.PathPieces)) i false e w = (w.0, e)
ended (Some (Next (r.Optional kind))) i touches e w = (refl, (sym w.0, omega (arith, w.4)))
ended (Some (Next (r.EndOr TOKEN_QUESTION))) i touches e w = w.0
ended (Some (Next (r.EndOr NODE_PAT_BIND))) i touches e w = w.0
ended (Some (Next (r.EndOr _))) i touches e w = (w.0, e)
ended (Some (Next r.BoundAlready)) i touches e w = w.0
ended (Some (Next r.TextEnd)) i touches e w = (ap p.InRow w.3, refl)
ended (Some (Next (r.Wanted NODE_IDENT))) i touches e w = (refl, (w.1, omega (arith, w.4)))
ended (Some (Next _)) i touches e w = (refl, (w.1, omega (arith, w.4)))

-- if this position and both choices of the next one are a pattern's, the chosen one has the frame kind of this one
same_sort : (bound : Bool) (i x y : ℕ) → frame_kind (p.InRow x) ≡ Pattern → frame_kind (p.InRow y) ≡ Pattern → frame_kind (p.InRow i) ≡ Pattern
    → frame_kind (p.InRow (if bound then x else y)) ≡ frame_kind (p.InRow i)
same_sort true i x y h k e = h ∙ sym e
same_sort false i x y h k e = k ∙ sym e

pattern_comma : (bound : Bool) (i : ℕ) → frame_kind (p.InRow i) ≡ Pattern
    → frame_kind (p.InRow (if bound then BOUND_AFTER_COMMA else AFTER_COMMA)) ≡ frame_kind (p.InRow i)
pattern_comma bound i e = same_sort bound i BOUND_AFTER_COMMA AFTER_COMMA refl refl e

pattern_formal : (bound : Bool) (i : ℕ) → frame_kind (p.InRow i) ≡ Pattern
    → frame_kind (p.InRow (if bound then BOUND_AFTER_FORMAL else AFTER_FORMAL)) ≡ frame_kind (p.InRow i)
pattern_formal bound i e = same_sort bound i BOUND_AFTER_FORMAL AFTER_FORMAL refl refl e

pattern_close : (bound : Bool) (i : ℕ) → frame_kind (p.InRow i) ≡ Pattern
    → frame_kind (p.InRow (if bound then BOUND_PATTERN_CLOSE else PATTERN_CLOSE)) ≡ frame_kind (p.InRow i)
pattern_close bound i e = same_sort bound i BOUND_PATTERN_CLOSE PATTERN_CLOSE refl refl e

-- consuming a wanted token is allowed
token_at : (wanted : SyntaxKind) (i : ℕ) (kind : SyntaxKind) → frame_kind (p.InRow (i + 1)) ≡ frame_kind (p.InRow i) → is_open (frame_kind (p.InRow i)) ≡ true
    → wanted_kinds (expected_set_of wanted) ≡ wanted ∷ [] → Allowed (p.InRow i) (Some kind) (token_action wanted i (i + 1) kind)
token_at wanted i kind n o t =
    either (p.InRow i) (Some kind) (same_kind wanted kind) (a.Take (i + 1)) (a.Run (expected_set_of wanted) i) (λ h. (refl, n, o))
    (λ h. (ap (list_any (λ k. same_kind k kind)) t ∙ ap (λ x. x || false) h, refl))

-- the action at a slot is allowed before an item
at_hand : (slot : Option Slot) (i : ℕ) (kind : SyntaxKind) (touches : Bool) → start_measure (p.InRow i) ≡ start_measure_in slot → SlotAgrees slot i
    → Allowed (p.InRow i) (Some kind) (slot_action slot i (Some kind) touches)
at_hand None i kind touches e w = (w.0, e)
at_hand (Some (End NODE_PAT_ENTRY)) i kind touches e w = w.0
at_hand (Some (End NODE_PATTERN)) i kind touches e w = w.0
at_hand (Some (End NODE_ERROR)) i kind touches e w = w.0
at_hand (Some (End _)) i kind touches e w = (w.0, e)
at_hand (Some (Next (r.Operand level counted))) i kind touches e w = (w.1, w.2)
at_hand (Some (Next r.Attrpath)) i kind touches e w = (w.1, refl, refl, ap is_open w.0, refl, omega (arith, w.4), λ n. omega (arith, w.4))
at_hand (Some (Next (r.Many level closer))) i kind touches e w =
    either (p.InRow i) (Some kind) (same_kind closer kind) (a.Take (i + 1)) (a.Read level true i) (λ h. (refl, w.1, ap is_open w.0))
    (λ h. (refl, ap (λ x. may_hold x OperandFrame) w.0))
at_hand (Some (Next (r.Entries closer))) i TOKEN_INHERIT touches e w = (refl, refl, refl, refl, ap is_open w.0)
at_hand (Some (Next (r.Entries closer))) i kind touches e w =
    either (p.InRow i) (Some kind) (same_kind closer kind) (a.Take (i + 1)) _ (λ h. (refl, w.1, ap is_open w.0))
    (λ h. (refl, refl, refl, ap is_open w.0, refl, omega (arith, e), λ n. absurd (cc)))
at_hand (Some (Next (r.Wanted NODE_IDENT))) i kind touches e w =
    each_kind (λ k. Allowed (p.InRow i) (Some k) (slot_action (Some (Next (r.Wanted NODE_IDENT))) i (Some k) touches)) (assumption (w.1)) kind
at_hand (Some (Next (r.Wanted _))) i kind touches e w = token_at _ i kind w.1 w.2 w.7
at_hand (Some (Next r.Formals)) i kind touches e w =
    let b : Bool = is_not i PATTERN in
    each_kind (λ k. Allowed (p.InRow i) (Some k) (slot_action (Some (Next r.Formals)) i (Some k) touches))
    (assumption (w.0, sym w.0, ap is_open w.0, w.1, pattern_comma b i w.0, pattern_formal b i w.0, pattern_close b i w.0)) kind
at_hand (Some (Next r.FormalsAfterComma)) i kind touches e w =
    let b : Bool = is_not i AFTER_COMMA in
    each_kind (λ k. Allowed (p.InRow i) (Some k) (slot_action (Some (Next r.FormalsAfterComma)) i (Some k) touches))
    (assumption (w.0, sym w.0, ap is_open w.0, w.1, pattern_comma b i w.0, pattern_formal b i w.0, pattern_close b i w.0)) kind
at_hand (Some (Next r.Comma)) i kind touches e w =
    let b : Bool = is_not i AFTER_FORMAL in
    each_kind (λ k. Allowed (p.InRow i) (Some k) (slot_action (Some (Next r.Comma)) i (Some k) touches))
    (assumption (w.0, sym w.0, ap is_open w.0, w.1, pattern_comma b i w.0, pattern_formal b i w.0, pattern_close b i w.0)) kind
at_hand (Some (Next (r.EndOr TOKEN_OR))) i kind touches e w =
    each_kind (λ k. Allowed (p.InRow i) (Some k) (slot_action (Some (Next (r.EndOr TOKEN_OR))) i (Some k) touches))
    (assumption (w.0, ap is_open w.0, w.1, e)) kind
at_hand (Some (Next (r.EndOr TOKEN_QUESTION))) i kind touches e w =
    each_kind (λ k. Allowed (p.InRow i) (Some k) (slot_action (Some (Next (r.EndOr TOKEN_QUESTION))) i (Some k) touches))
    (assumption (w.0, ap is_open w.0, w.1)) kind
at_hand (Some (Next (r.EndOr NODE_INTERPOL))) i kind touches e w =
    each_kind (λ k. Allowed (p.InRow i) (Some k) (slot_action (Some (Next (r.EndOr NODE_INTERPOL))) i (Some k) touches))
    (assumption (w.0, ap is_open w.0, w.1, e)) kind
at_hand (Some (Next (r.EndOr NODE_PAT_BIND))) i kind touches e w =
    each_kind (λ k. Allowed (p.InRow i) (Some k) (slot_action (Some (Next (r.EndOr NODE_PAT_BIND))) i (Some k) touches))
    (assumption (w.0, ap is_open w.0, w.1)) kind
at_hand (Some (Next (r.EndOr _))) i kind touches e w = (w.0, e)
at_hand (Some (Next r.PathPieces)) i kind true e w =
    each_kind (λ k. Allowed (p.InRow i) (Some k) (slot_action (Some (Next r.PathPieces)) i (Some k) true)) (assumption (w.0, sym w.0, ap is_open w.0, e)) kind
at_hand (Some (Next r.PathPieces)) i kind false e w =
    each_kind (λ k. Allowed (p.InRow i) (Some k) (slot_action (Some (Next r.PathPieces)) i (Some k) false)) (assumption (w.0, sym w.0, ap is_open w.0, e)) kind
at_hand (Some (Next r.TextEnd)) i kind touches e w = (refl, w.0)
at_hand (Some (Next part)) i kind touches e w =
    each_kind (λ k. Allowed (p.InRow i) (Some k) (slot_action (Some (Next part)) i (Some k) touches))
    (assumption (w.0, sym w.0, ap is_open w.0, w.1, w.2, e)) kind

-- the action at each position is allowed
pub allowed : (position : Position) (next : Option SyntaxKind) (touches : Bool) → Allowed position next (action_at position next touches)
allowed (p.InRow i) None touches = ended (slot_at i) i touches refl (slot_agrees i)
allowed (p.InRow i) (Some kind) touches = at_hand (slot_at i) i kind touches refl (slot_agrees i)
allowed (p.Right level) None touches = ((refl, omega (arith)), refl)
allowed (p.Right level) (Some kind) touches = (refl, refl)
allowed (p.AfterOperand min_bp max_bp) None touches = refl
allowed (p.AfterOperand min_bp max_bp) (Some kind) touches =
    either (p.AfterOperand min_bp max_bp) (Some kind) (may_continue min_bp max_bp kind) (continue_action kind) a.EndOperand
    (λ h. each_kind (λ k. Allowed (p.AfterOperand min_bp max_bp) (Some k) (continue_action k)) (assumption) kind) (λ h. refl)
