-- Before an item, the actions at each position respect the bounds. Shown by computation over the table of rows.
use Rattle.std.proofs.Common.{◌≡◌, ℕ, ◌+◌, ◌*◌, Bool, true, false, ◌&&◌, List, [], ◌∷◌, Option, Some, None, if◌then◌else◌, nat_eq, drop, refl, ap, sym, subst}
use Rattle.std.proofs.lemmas.Bool.{and_parts}
use Rattle.rnix_kinds.{specs.declared.kinds.SyntaxKind.SyntaxKind, proofs.AllKinds.every}
use Rattle.rnix_kinds.specs.declared.kinds.SyntaxKind.TheVariants.{TOKEN_INHERIT, TOKEN_L_PAREN, TOKEN_SEMICOLON, TOKEN_R_BRACE, TOKEN_COMMA, TOKEN_OR, TOKEN_QUESTION, NODE_IDENT, NODE_INHERIT, NODE_INHERIT_FROM, NODE_ATTRPATH_VALUE, NODE_ATTRPATH, NODE_INTERPOL, NODE_DYNAMIC, NODE_STRING, NODE_PAT_BIND}
use Rattle.rnix_green.specs.Equality.{same_kind}
use Rattle.rnix_grammar.specs.declared.{position.Position.Position, action.Action.Action, slot_table.Slot.{Slot, TheVariants.{Next, End}}}
use Rattle.rnix_grammar.specs.declared.slot_table.TheConstants.{SLOTS, PATTERN, AFTER_COMMA, AFTER_FORMAL, PATTERN_CLOSE, BOUND_AFTER_COMMA, BOUND_AFTER_FORMAL, BOUND_PATTERN_CLOSE, DYNAMIC, STRING, STRING_CLOSED, INHERIT_END, INHERIT_CLOSED, INTERPOL, INHERIT, INHERIT_FROM, INHERITED_NAME, ATTRPATH, ATTRPATH_VALUE, PAT_BIND, PAT_ENTRY, SECOND_BIND, BIN_OP_END}
use Rattle.rnix_grammar.specs.{Slots.slot_at, Actions.{expected_set_of, name_action, attr_action, names_action, pieces_action, piece_action, more_attrs_action, formals_action, end_or_action, bound_action, close_action, is_not, continue_action, may_continue, slot_action, action_at}}
use Rattle.rnix_proof_lemmas.specs.Measures.{measure}
use Rattle.rnix_proof_lemmas.proofs.{Basics.choice, EachKind.each_kind, EachIndex.each_index}
use Rattle.rnix_proof_steps.proofs.StepBounds.{are_at_most, AreAtMost, they_are, last, closing_in, closing_next, behind_path, operand, closes, moves, pushes, opens, reads, applies}
use Rattle.rnix_grammar.specs.declared.position.Position.TheVariants as p
use Rattle.rnix_grammar.specs.declared.rules.Part.TheVariants as r
use Rattle.rnix_grammar.specs.declared.expected_set.ExpectedSet.TheVariants as u
use Rattle.rnix_grammar.specs.declared.action.Action.TheVariants as a

-- the bounds for an action before an item, as pairs of which the first must be at most the second; no bound is met by actions for the end of the text
abbrev pub bounds : Bool → Position → Action → List (ℕ × ℕ)
bounds levels x a.Close = closes levels x
bounds levels x a.CloseEntry = closes levels x
bounds levels x a.ClosePattern = closes levels x
bounds levels x a.CloseDoubleBind = closes levels x
bounds levels x a.EndOperand = closes levels x
bounds levels x a.Extra = (2 + 2 * measure x, last levels x) ∷ []
bounds levels x (a.Take after) = moves levels x (p.InRow after)
bounds levels x (a.Run until after) = moves levels x (p.InRow after)
bounds levels x (a.Leaf k after) = moves levels x (p.InRow after)
bounds levels x (a.Open k inside after) = opens levels x (p.InRow inside) (p.InRow after)
bounds levels x (a.OpenEmpty k inside after) = pushes 0 levels x (p.InRow inside) (p.InRow after)
bounds levels x (a.Entry after) = opens levels x (p.InRow PAT_ENTRY) (p.InRow after)
bounds levels x (a.DoubleBind after) = opens levels x (p.InRow SECOND_BIND) (p.InRow after)
bounds levels x (a.Read level counted after) = reads levels (nat_eq level 0) counted x (p.InRow after)
bounds levels x (a.Wrap k inside max_bp) = opens levels x inside operand
bounds levels x a.Apply = applies levels x
bounds levels x a.ApplyOr = moves levels x operand
bounds levels x action = (1, 0) ∷ []

abbrev keeps : Position → Action → Bool
keeps x action = are_at_most (bounds false x action) && are_at_most (bounds true x action)

-- a property holds of each action where an attribute may be read
abbrev AttrActions : (Action → Type 0) → ℕ → ℕ → Type 0
AttrActions P again after = P (a.Open NODE_DYNAMIC DYNAMIC after) × P (a.Open NODE_STRING STRING after) × P (a.Leaf NODE_IDENT after) × P (a.Run u.Attr again)

abbrev NamesActions : (Action → Type 0) → ℕ → Type 0
NamesActions P remaining = P (a.Take INHERIT_CLOSED) × AttrActions P INHERITED_NAME remaining

abbrev FormalsActions : (Action → Type 0) → Bool → ℕ → Type 0
FormalsActions P bound after =
    P (a.Take after) × P (a.Take (if bound then BOUND_PATTERN_CLOSE else PATTERN_CLOSE))
    × P (a.Entry (if bound then BOUND_AFTER_FORMAL else AFTER_FORMAL)) × P (a.Run u.Entry (if bound then BOUND_AFTER_COMMA else AFTER_COMMA))

-- a property holds of each action at a slot before an item
abbrev EachAction : (Action → Type 0) → Option Slot → ℕ → Type 0
EachAction P None i = P a.Close
EachAction P (Some (End kind)) i = P (close_action kind)
EachAction P (Some (Next (r.Operand level counted))) i = P (a.Read level counted (i + 1))
EachAction P (Some (Next (r.Wanted kind))) i =
    P (a.Take (i + 1)) × P (a.Run (expected_set_of kind) i) × P (a.Leaf NODE_IDENT (i + 1)) × P (a.Run u.Ident i)
EachAction P (Some (Next (r.Many level closer))) i = P (a.Take (i + 1)) × P (a.Read level true i)
EachAction P (Some (Next (r.Entries closer))) i =
    P (a.Open NODE_INHERIT INHERIT i) × P (a.Take (i + 1)) × P (a.OpenEmpty NODE_ATTRPATH_VALUE ATTRPATH_VALUE i)
EachAction P (Some (Next r.Attr)) i = AttrActions P i (i + 1)
EachAction P (Some (Next r.Attrpath)) i = P (a.OpenEmpty NODE_ATTRPATH ATTRPATH (i + 1))
EachAction P (Some (Next r.MoreAttrs)) i = P (a.Take ATTRPATH) × P a.Close
EachAction P (Some (Next r.Names)) i = NamesActions P i
EachAction P (Some (Next (r.Optional kind))) i = P (a.Open NODE_INHERIT_FROM INHERIT_FROM (i + 1)) × NamesActions P (i + 1)
EachAction P (Some (Next r.Pieces)) i = P (a.Take STRING_CLOSED) × P (a.Take i) × P (a.Open NODE_INTERPOL INTERPOL i) × P (a.Run u.Piece i)
EachAction P (Some (Next r.PathPieces)) i = P (a.Take i) × P (a.Open NODE_INTERPOL INTERPOL i) × P a.Close
EachAction P (Some (Next r.Formals)) i = FormalsActions P (is_not i PATTERN) (i + 1)
EachAction P (Some (Next r.FormalsAfterComma)) i = FormalsActions P (is_not i AFTER_COMMA) (i + 1)
EachAction P (Some (Next r.Comma)) i =
    P (a.Take (if is_not i AFTER_FORMAL then BOUND_AFTER_COMMA else AFTER_COMMA)) × P (a.Take (i + 1))
    × P (a.Run u.RBrace (if is_not i AFTER_FORMAL then BOUND_PATTERN_CLOSE else PATTERN_CLOSE))
EachAction P (Some (Next (r.EndOr TOKEN_OR))) i = P (a.Take (i + 1)) × P a.Close
EachAction P (Some (Next (r.EndOr TOKEN_QUESTION))) i = P (a.Take (i + 1)) × P a.CloseEntry
EachAction P (Some (Next (r.EndOr NODE_INTERPOL))) i = P (a.Open NODE_INTERPOL INTERPOL (i + 1)) × P a.Close
EachAction P (Some (Next (r.EndOr NODE_PAT_BIND))) i = P (a.Open NODE_PAT_BIND PAT_BIND (i + 1)) × P a.ClosePattern
EachAction P (Some (Next (r.EndOr kind))) i = P a.Close
EachAction P (Some (Next r.BoundAlready)) i = P (a.DoubleBind (i + 1)) × P a.ClosePattern
EachAction P (Some (Next r.TextEnd)) i = P a.Extra
EachAction P (Some (Next part)) i = P (a.Take (i + 1))

-- then it holds of the action that the table has
attr_acted : (P : Action → Type 0) (again after : ℕ) (kind : SyntaxKind) → AttrActions P again after → P (attr_action again after (Some kind))
attr_acted P again after kind h = each_kind (λ k. P (attr_action again after (Some k))) (assumption (h.0, h.1, h.2, h.3)) kind

names_acted : (P : Action → Type 0) (remaining after : ℕ) (kind : SyntaxKind) → NamesActions P remaining → P (names_action remaining after (Some kind))
names_acted P remaining after kind h = choice P (same_kind kind TOKEN_SEMICOLON) h.0 (attr_acted P INHERITED_NAME remaining kind h.1)

formals_acted : (P : Action → Type 0) (bound : Bool) (after : ℕ) (kind : SyntaxKind) → FormalsActions P bound after → P (formals_action bound after (Some kind))
formals_acted P bound after kind h = each_kind (λ k. P (formals_action bound after (Some k))) (assumption (h.0, h.1, h.2, h.3)) kind

acted : (P : Action → Type 0) (slot : Option Slot) (i : ℕ) (kind : SyntaxKind) (touches : Bool) → EachAction P slot i
    → P (slot_action slot i (Some kind) touches)
acted P None i kind touches h = h
acted P (Some (End k)) i kind touches h = h
acted P (Some (Next (r.Operand level counted))) i kind touches h = h
acted P (Some (Next (r.Wanted wanted))) i kind touches h =
    choice P (same_kind wanted NODE_IDENT) (each_kind (λ k. P (name_action i (i + 1) k)) (assumption (h.2, h.3)) kind)
    (choice P (same_kind wanted kind) h.0 h.1)
acted P (Some (Next (r.Many level closer))) i kind touches h = choice P (same_kind closer kind) h.0 h.1
acted P (Some (Next (r.Entries closer))) i TOKEN_INHERIT touches h = h.0
acted P (Some (Next (r.Entries closer))) i kind touches h = choice P (same_kind closer kind) h.1 h.2
acted P (Some (Next r.Attr)) i kind touches h = attr_acted P i (i + 1) kind h
acted P (Some (Next r.Attrpath)) i kind touches h = h
acted P (Some (Next r.MoreAttrs)) i kind touches h = each_kind (λ k. P (more_attrs_action (Some k))) (assumption (h.0, h.1)) kind
acted P (Some (Next r.Names)) i kind touches h = names_acted P i (i + 1) kind h
acted P (Some (Next (r.Optional k))) i kind touches h = choice P (same_kind kind TOKEN_L_PAREN) h.0 (names_acted P (i + 1) INHERIT_END kind h.1)
acted P (Some (Next r.Pieces)) i kind touches h =
    each_kind (λ k. P (pieces_action i (i + 1) (Some k))) (assumption (h.0, h.1, h.2, h.3)) kind
acted P (Some (Next r.PathPieces)) i kind touches h =
    choice P touches (each_kind (λ k. P (piece_action i (Some k))) (assumption (h.0, h.1, h.2)) kind) h.2
acted P (Some (Next r.Formals)) i kind touches h = formals_acted P (is_not i PATTERN) (i + 1) kind h
acted P (Some (Next r.FormalsAfterComma)) i kind touches h = formals_acted P (is_not i AFTER_COMMA) (i + 1) kind h
acted P (Some (Next r.Comma)) i kind touches h = choice P (same_kind kind TOKEN_COMMA) h.0 (choice P (same_kind TOKEN_R_BRACE kind) h.1 h.2)
acted P (Some (Next (r.EndOr TOKEN_OR))) i kind touches h =
    each_kind (λ k. P (end_or_action TOKEN_OR (i + 1) (Some k))) (assumption (h.0, h.1)) kind
acted P (Some (Next (r.EndOr TOKEN_QUESTION))) i kind touches h =
    each_kind (λ k. P (end_or_action TOKEN_QUESTION (i + 1) (Some k))) (assumption (h.0, h.1)) kind
acted P (Some (Next (r.EndOr NODE_INTERPOL))) i kind touches h =
    each_kind (λ k. P (end_or_action NODE_INTERPOL (i + 1) (Some k))) (assumption (h.0, h.1)) kind
acted P (Some (Next (r.EndOr NODE_PAT_BIND))) i kind touches h =
    each_kind (λ k. P (end_or_action NODE_PAT_BIND (i + 1) (Some k))) (assumption (h.0, h.1)) kind
acted P (Some (Next (r.EndOr _))) i kind touches h = h
acted P (Some (Next r.BoundAlready)) i kind touches h = each_kind (λ k. P (bound_action (i + 1) (Some k))) (assumption (h.0, h.1)) kind
acted P (Some (Next r.TextEnd)) i kind touches h = h
acted P (Some (Next _)) i kind touches h = h

-- the actions at each slot respect the bounds
abbrev KeepsAt : ℕ → Type 0
KeepsAt i = EachAction (λ action. keeps (p.InRow i) action ≡ true) (slot_at i) i

past_end : (i : ℕ) → slot_at i ≡ None → drop i SLOTS ≡ [] → KeepsAt i
past_end i e d = subst (λ s. EachAction (λ action. keeps (p.InRow i) action ≡ true) s i) (sym e) (ap closes_at e)
  where
    closes_at : Option Slot → Bool
    closes_at s =
        are_at_most ((2 + 15, closing_next 15 s + closing_in (behind_path i s)) ∷ [])
        && are_at_most ((2 + 8, closing_next 8 s + closing_in (behind_path i s)) ∷ [])

keeps_at : (i : ℕ) → KeepsAt i
keeps_at = each_index KeepsAt (assumption) past_end

-- reading the operand after an operator respects the bounds
behind_operator : (level : ℕ) (any : Bool)
    → (are_at_most (reads false any false (p.Right level) (p.InRow BIN_OP_END)) && are_at_most (reads true any false (p.Right level) (p.InRow BIN_OP_END)))
    ≡ true
behind_operator level true = refl
behind_operator level false = refl

-- the action at each position respects the bounds
kept : (x : Position) (kind : SyntaxKind) (touches : Bool) → keeps x (action_at x (Some kind) touches) ≡ true
kept (p.InRow i) kind touches = acted (λ action. keeps (p.InRow i) action ≡ true) (slot_at i) i kind touches (keeps_at i)
kept (p.AfterOperand min_bp max_bp) kind touches =
    choice (λ action. keeps (p.AfterOperand min_bp max_bp) action ≡ true) (may_continue min_bp max_bp kind)
    (every (λ k. keeps (p.AfterOperand min_bp max_bp) (continue_action k)) refl kind) refl
kept (p.Right level) kind touches = behind_operator level (nat_eq level 0)

kept_by : (levels : Bool) (x : Position) (action : Action) → keeps x action ≡ true → AreAtMost (bounds levels x action)
kept_by false x action h = they_are (bounds false x action) (and_parts (are_at_most (bounds false x action)) (are_at_most (bounds true x action)) h).0
kept_by true x action h = they_are (bounds true x action) (and_parts (are_at_most (bounds false x action)) (are_at_most (bounds true x action)) h).1

pub bounded : (levels : Bool) (x : Position) (kind : SyntaxKind) (touches : Bool) → AreAtMost (bounds levels x (action_at x (Some kind) touches))
bounded levels x kind touches = kept_by levels x (action_at x (Some kind) touches) (kept x kind touches)
