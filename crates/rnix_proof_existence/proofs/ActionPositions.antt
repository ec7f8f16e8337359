-- Every action at a position of a node leads to positions of the same row, and opens other nodes at positions of theirs.
use Rattle.std.{specs.List.list_all, proofs.Common.{◌≡◌, ℕ, Bool, true, false, Option, Some, None, ap, sym, ◌∙◌, subst, if◌then◌else◌, ◌&&◌, nat_le}}
use Rattle.{std.proofs.lemmas.Bool.and_parts, rnix_kinds.{proofs.AllKinds.{all_kinds, every}, specs.declared.kinds.SyntaxKind.SyntaxKind}}
use Rattle.{rnix_kinds.specs.declared.kinds.SyntaxKind.TheVariants.{NODE_ERROR, NODE_PAT_ENTRY}, rnix_green.specs.Equality.same_kind}
use Rattle.rnix_grammar.specs.{declared.{position.Position.Position, action.Action.Action, slot_table.TheConstants.SLOTS}, Actions.{action_at_slot, action_at}}
use Rattle.rnix_proof_lemmas.{specs.{Machine.Node, SlotRows.{remaining_at, remaining_in, kind_at}}, proofs.{Basics.true_is_not_false, EveryKind.same, EachIndex.EachSlot}}
use Rattle.{rnix_proof_lemmas.proofs.{EachIndex.each_index, ActionTable.is_waiting}, rnix_proof_existence.proofs.Frames.{is_in_row_of, is_sound}}
use Rattle.rnix_grammar.specs.declared.position.Position.TheVariants as p
use Rattle.rnix_grammar.specs.declared.action.Action.TheVariants as a

-- a node of the kind may report an error when it is complete
abbrev pub is_reported : SyntaxKind → Bool
is_reported NODE_PAT_ENTRY = true
is_reported NODE_ERROR = true
is_reported kind = false

-- an action at a position of a node of the kind leads to positions of its row, opens other nodes at positions of theirs, or completes it as its kind requires
abbrev pub leads : SyntaxKind → Action → Bool
leads k a.Close = if is_reported k then false else true
leads k a.ClosePattern = if is_reported k then false else true
leads k a.CloseEntry = same_kind k NODE_PAT_ENTRY
leads k a.CloseDoubleBind = same_kind k NODE_ERROR
leads k a.Finish = true
leads k a.Extra = true
leads k (a.Take y) = is_in_row_of (p.InRow y) k
leads k (a.Miss y) = is_in_row_of (p.InRow y) k
leads k (a.MissWanted until y) = is_in_row_of (p.InRow y) k
leads k (a.Run until y) = is_in_row_of (p.InRow y) k
leads k (a.Leaf j y) = is_in_row_of (p.InRow y) k
leads k (a.Entry y) = is_in_row_of (p.InRow y) k
leads k (a.DoubleBind y) = is_in_row_of (p.InRow y) k
leads k (a.Open j z y) = is_sound (Node j) && (is_in_row_of (p.InRow z) j && is_in_row_of (p.InRow y) k)
leads k (a.OpenEmpty j z y) = is_sound (Node j) && (is_in_row_of (p.InRow z) j && is_in_row_of (p.InRow y) k)
leads k (a.Read level counted y) = nat_le level 16 && is_in_row_of (p.InRow y) k
leads k action = false

-- each action at an index does so, whatever the next item is
abbrev leads_from : Bool → ℕ → Bool
leads_from touch i = leads (kind_at i) (action_at_slot i None touch) && list_all (λ j. leads (kind_at i) (action_at_slot i (Some j) touch)) all_kinds

abbrev LeadsAt : Bool → ℕ → Type 0
LeadsAt touch i = (if is_waiting (remaining_at i) then leads_from touch i else true) ≡ true

leads_each : (touch : Bool) → EachSlot (LeadsAt touch) SLOTS
leads_each true = assumption
leads_each false = assumption

leads_at : (touch : Bool) (i : ℕ) → LeadsAt touch i
leads_at touch = each_index (LeadsAt touch) (leads_each touch) (λ i e d. ap (λ ss. if is_waiting (remaining_in ss) then leads_from touch i else true) d)

-- each action at a position does so
pub leads_on : (x : Position) (k : SyntaxKind) (next : Option SyntaxKind) (touch : Bool) → is_in_row_of x k ≡ true → leads k (action_at x next touch) ≡ true
leads_on (p.AfterOperand min_bp max_bp) k next touch h = absurd (true_is_not_false (sym h))
leads_on (p.Right level) k next touch h = h
leads_on (p.InRow i) k next touch h = subst (λ (j : SyntaxKind). leads j (action_at_slot i next touch) ≡ true) (same (kind_at i) k q.1) (by next)
  where
    q : (is_waiting (remaining_at i) ≡ true) × (same_kind (kind_at i) k ≡ true)
    q = and_parts (is_waiting (remaining_at i)) (same_kind (kind_at i) k) h

    all : (leads (kind_at i) (action_at_slot i None touch) ≡ true) × (list_all (λ j. leads (kind_at i) (action_at_slot i (Some j) touch)) all_kinds ≡ true)
    all = and_parts _ _ (sym (ap (λ w. if w then leads_from touch i else true) q.0) ∙ leads_at touch i)

    by : (next : Option SyntaxKind) → leads (kind_at i) (action_at_slot i next touch) ≡ true
    by None = all.0
    by (Some j) = every (λ j. leads (kind_at i) (action_at_slot i (Some j) touch)) all.1 j
