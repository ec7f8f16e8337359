-- No step changes the trees that are complete before the last item read, and no item is lost.
use Rattle.std.proofs.Common.{◌≡◌, ℕ, suc, ◌+◌, ◌≤◌, ◌<◌, Bool, true, false, List, [], ◌∷◌, length, refl, ap, sym, ◌∙◌, subst, arith, nat_le}
use Rattle.rnix_kinds.specs.declared.kinds.SyntaxKind.{SyntaxKind, TheVariants.{NODE_ERROR, NODE_APPLY, NODE_IDENT, NODE_IDENT_PARAM}}
use Rattle.rnix_kinds.specs.declared.kinds.SyntaxKind.TheVariants.{NODE_LEGACY_LET, NODE_PAT_BIND, NODE_PATTERN}
use Rattle.rnix_green.{specs.{Forest.{Forest, empty, node, join}, ForestCode.join_empty}, proofs.ForestLemmas.join_assoc}
use Rattle.rnix_grammar.specs.declared.{slot_table.TheConstants.APPLIED, action.Action.Action, operand_start.OperandStart.OperandStart}
use Rattle.rnix_grammar.specs.declared.expected_set.ExpectedSet.{ExpectedSet}
use Rattle.rnix_grammar.specs.{Fault.Fault, Tables.{depth_limit, is_wanted}, Actions.action_at, OperandStarts.{operand_start_of, second_kind}, UnwantedRun.run_of, Layout.tail_of}
use Rattle.rnix_grammar.specs.AnnotatedForest.{Token, Stray, Unwanted, Extra, TooDeep, AnnotatedForest, blank, ◌⊕◌, one_branch, one_fault, row_of, forget, head_kind, touches}
use Rattle.rnix_proof_lemmas.specs.Machine.{Head, Node, SecondBind, Operand, Frame, Machine, put, opened, leaf, dropped, kind_of, made, min_bp_of, machine, closed}
use Rattle.rnix_proof_lemmas.specs.Machine.{entry_closed, begun, limited, operand_on, reading, perform, step_on, step, Runs}
use Rattle.rnix_proof_lemmas.specs.Machine.{rest as here, then as further}
use Rattle.rnix_proof_lemmas.proofs.{AnnotatedForestLemmas.forget-⊕, Basics.choice}
use Rattle.rnix_proof_lookahead.{specs.Completed.{leaf_count, completed}, proofs.CompletedTrees.{leaf_count-join, node_count, completed_more, completed_node}}
use Rattle.rnix_grammar.specs.declared.position.Position.TheVariants as p
use Rattle.rnix_grammar.specs.declared.action.Action.TheVariants as a
use Rattle.rnix_grammar.specs.declared.operand_start.OperandStart.TheVariants as b

-- all trees that have been read, those of the outer frames first
abbrev pub trees_in : List Frame → Forest
trees_in [] = empty
trees_in (f ∷ fs) = join (trees_in fs) (forget f.children)

-- a machine comes from one with these trees and items, with nothing lost or changed
pub record IsKept (old : Forest) (ts : List Token) (next : Machine) : Type 0 where
  -- each item is a leaf or is still left
  pub counts : leaf_count (trees_in next.frames) + length next.remaining ≡ leaf_count old + length ts
  pub shorter : length next.remaining ≤ length ts
  -- the first k items complete the same trees, if at least k were read before, and more than k are read now
  pub same : (k : ℕ) → k ≤ leaf_count old → k < leaf_count (trees_in next.frames) → completed k (trees_in next.frames) ≡ completed k old

-- a machine that has read more trees comes from the one before
kept_more : (old x : Forest) (ts : List Token) (next : Machine) → trees_in next.frames ≡ join old x → leaf_count x + length next.remaining ≡ length ts
    → IsKept old ts next
kept_more old x ts next e c =
    let count : leaf_count (trees_in next.frames) ≡ leaf_count old + leaf_count x = ap leaf_count e ∙ leaf_count-join old x in
    record {
      counts = omega (arith, count, c);
      shorter = omega (arith, c);
      same = λ k l m. ap (completed k) e ∙ completed_more k old x l;
    }

-- so does a machine in which the last trees, with some more, are a node
kept_node : (p r x : Forest) (i : SyntaxKind) (ts : List Token) (next : Machine) → trees_in next.frames ≡ join p (node i (join r x) empty)
    → leaf_count x + length next.remaining ≡ length ts → IsKept (join p r) ts next
kept_node p r x i ts next e c =
    let count : leaf_count (trees_in next.frames) ≡ leaf_count p + leaf_count (join r x) = ap leaf_count e ∙ node_count p (join r x) i in
    let inside : leaf_count (join r x) ≡ leaf_count r + leaf_count x = leaf_count-join r x in
    let before : leaf_count (join p r) ≡ leaf_count p + leaf_count r = leaf_count-join p r in
    record {
      counts = omega (arith, count, inside, before, c);
      shorter = omega (arith, c);
      same = λ k l m.
          let short : k < leaf_count p + leaf_count (join r x) = omega (arith, m, count) in
          ap (completed k) e ∙ completed_node k p (join r x) i short ∙ ap (completed k) (sym (join_assoc p r x)) ∙ completed_more k (join p r) x l;
    }

-- so does a machine that has read nothing
kept_same : (old : Forest) (ts : List Token) (next : Machine) → trees_in next.frames ≡ old → next.remaining ≡ ts → IsKept old ts next
kept_same old ts next e l =
    let none : length next.remaining ≡ length ts = ap length l in
    kept_more old empty ts next (e ∙ sym (join_empty old)) (omega (arith, none))

-- more children are more trees at the end
pub grown : (r : Forest) (f g : AnnotatedForest) → join r (forget (f ⊕ g)) ≡ join (join r (forget f)) (forget g)
grown r f g = ap (join r) (forget-⊕ f g) ∙ sym (join_assoc r (forget f) (forget g))

-- the item of a leaf is no longer left
taken : (i : SyntaxKind) (ts : List Token) → leaf_count (forget (leaf false i ts)) + length (tail_of ts) ≡ length ts
taken i [] = omega arith
taken i (t ∷ ts) = omega arith

two_taken : (i j : SyntaxKind) (ts : List Token)
    → leaf_count (forget (leaf false i ts ⊕ leaf false j (tail_of ts))) + length (tail_of (tail_of ts)) ≡ length ts
two_taken i j [] = omega arith
two_taken i j (t ∷ []) = omega arith
two_taken i j (t ∷ (u ∷ ts)) = omega arith

named_taken : (i j k : SyntaxKind) (ts : List Token)
    → leaf_count (forget (one_branch i (leaf false j ts) ⊕ leaf false k (tail_of ts))) + length (tail_of (tail_of ts)) ≡ length ts
named_taken i j k [] = omega arith
named_taken i j k (t ∷ []) = omega arith
named_taken i j k (t ∷ (u ∷ ts)) = omega arith

pub row_count : (ts : List Token) → leaf_count (forget (row_of ts)) ≡ length ts
row_count [] = refl
row_count (t ∷ ts) = ap suc (row_count ts)

pub all_taken : (ts : List Token) → length (dropped ts ts) ≡ 0
all_taken [] = refl
all_taken (t ∷ ts) = all_taken ts

pub run_taken : (until : ExpectedSet) (ts : List Token) → length (run_of until ts) + length (dropped (run_of until ts) ts) ≡ length ts
run_taken until [] = omega arith
run_taken until (t ∷ ts) =
    choice (λ z. length z + length (dropped z (t ∷ ts)) ≡ suc (length ts)) (is_wanted until t.kind) (omega arith) (omega (arith, run_taken until ts))

-- completing a frame keeps the trees
made_kept : (h : Head) (f g : Frame) (fs : List Frame) (ts : List Token) (n : ℕ) (es : List Fault)
    → IsKept (trees_in (f ∷ (g ∷ fs))) ts (machine (put g.position (g.children ⊕ made h f.children) g ∷ fs) ts n es)
made_kept h f g fs ts n es = by h
  where
    outer : Forest
    outer = join (trees_in fs) (forget g.children)

    around : (i : SyntaxKind) → join outer (node i (forget f.children) empty) ≡ join outer (node i (join (forget f.children) empty) empty)
    around i = ap (λ z. join outer (node i z empty)) (sym (join_empty (forget f.children)))

    none : leaf_count empty + length ts ≡ length ts
    none = omega arith

    by : (h : Head) → IsKept (trees_in (f ∷ (g ∷ fs))) ts (machine (put g.position (g.children ⊕ made h f.children) g ∷ fs) ts n es)
    by (Node i) =
        kept_node outer (forget f.children) empty i ts (machine (put g.position (g.children ⊕ made (Node i) f.children) g ∷ fs) ts n es)
        (grown (trees_in fs) g.children (made (Node i) f.children) ∙ around i) none
    by SecondBind =
        kept_node outer (forget f.children) empty NODE_ERROR ts (machine (put g.position (g.children ⊕ made SecondBind f.children) g ∷ fs) ts n es)
        (grown (trees_in fs) g.children (made SecondBind f.children) ∙ around NODE_ERROR) none
    by Operand =
        kept_same (trees_in (f ∷ (g ∷ fs))) ts (machine (put g.position (g.children ⊕ made Operand f.children) g
        ∷ fs) ts n es) (grown (trees_in fs) g.children f.children) refl

closed_kept : (f : Frame) (fs : List Frame) (ts : List Token) (n : ℕ) (es : List Fault) → IsKept (trees_in (f ∷ fs)) ts (closed f fs ts n es)
closed_kept f [] ts n es = kept_same (trees_in (f ∷ [])) ts (closed f [] ts n es) refl refl
closed_kept f (g ∷ fs) ts n es = made_kept f.head f g fs ts n es

entry_closed_kept : (f : Frame) (fs : List Frame) (ts : List Token) (n : ℕ) (es : List Fault)
    → IsKept (trees_in (f ∷ fs)) ts (entry_closed false f fs ts n es)
entry_closed_kept f [] ts n es = kept_same (trees_in (f ∷ [])) ts (entry_closed false f [] ts n es) refl refl
entry_closed_kept f (g ∷ fs) ts n es = made_kept f.head f g fs ts n _

-- beginning an operand keeps the trees
pub begun_kept : (how : OperandStart) (level d : ℕ) (t : Token) (f : Frame) (fs : List Frame) (ts : List Token) (n : ℕ) (es : List Fault)
    → IsKept (trees_in (f ∷ fs)) ts (begun false how level d t f fs ts n es)
begun_kept how level d t f fs ts n es = by how
  where
    old : Forest
    old = trees_in (f ∷ fs)

    -- one or two empty frames add no trees
    one : (x : Forest) → join (join old empty) x ≡ join old x
    one x = ap (λ z. join z x) (join_empty old)

    two : (x : Forest) → join (join (join old empty) empty) x ≡ join old x
    two x = ap (λ z. join z x) (join_empty (join old empty)) ∙ one x

    by : (how : OperandStart) → IsKept (trees_in (f ∷ fs)) ts (begun false how level d t f fs ts n es)
    by (b.Leaf i) =
        kept_more old (forget (one_branch i (leaf false i ts))) ts (begun false (b.Leaf i) level d t f fs ts n es) refl (omega (arith, taken i ts))
    by (b.Node i index high) =
        kept_more old (forget (leaf false i ts)) ts (begun false (b.Node i index high) level d t f fs ts n es) (one (forget (leaf false i ts))) (taken i ts)
    by b.LegacyLet =
        let x : Forest = forget (leaf false NODE_LEGACY_LET ts ⊕ leaf false NODE_LEGACY_LET (tail_of ts)) in
        kept_more old x ts (begun false b.LegacyLet level d t f fs ts n es) (one x) (two_taken NODE_LEGACY_LET NODE_LEGACY_LET ts)
    by b.NameLambda =
        let x : Forest = forget (one_branch NODE_IDENT_PARAM (one_branch NODE_IDENT (leaf false NODE_IDENT ts))) in
        kept_more old x ts (begun false b.NameLambda level d t f fs ts n es) (one x) (omega (arith, taken NODE_IDENT ts))
    by b.BoundLambda =
        let c : AnnotatedForest = one_branch NODE_IDENT (leaf false NODE_IDENT ts) ⊕ leaf false NODE_PAT_BIND (tail_of ts) in
        let x : Forest = forget (one_branch NODE_PAT_BIND c) in
        kept_more old x ts (begun false b.BoundLambda level d t f fs ts n es) (two x) (omega (arith, named_taken NODE_IDENT NODE_IDENT NODE_PAT_BIND ts))
    by b.PatternLambda =
        let x : Forest = forget (leaf false NODE_PATTERN ts) in
        kept_more old x ts (begun false b.PatternLambda level d t f fs ts n es) (two x) (taken NODE_PATTERN ts)
    by b.Stray =
        kept_more old (forget (one_fault Stray (leaf false NODE_ERROR ts))) ts (begun false b.Stray level d t f fs ts n es) refl
        (omega (arith, taken NODE_ERROR ts))

-- reading an operand of a level, or missing it at the end of the text, keeps the trees
operand_kept : (level d : ℕ) (f : Frame) (fs : List Frame) (ts : List Token) (n : ℕ) (es : List Fault)
    → IsKept (trees_in (f ∷ fs)) ts (operand_on false level d f fs ts ts n es)
operand_kept level d f fs [] n es = kept_same (trees_in (f ∷ fs)) [] (operand_on false level d f fs [] [] n es) refl refl
operand_kept level d f fs (t ∷ us) n es = begun_kept (operand_start_of level t.kind t.text (head_kind us) (second_kind us)) level d t f fs (t ∷ us) n es

-- putting everything left into one error node keeps the trees
pub limited_kept : (f : Frame) (fs : List Frame) (ts : List Token) (n : ℕ) (es : List Fault) → IsKept (trees_in (f ∷ fs)) ts (limited false f fs ts n es)
limited_kept f fs ts n es =
    kept_more (trees_in (f ∷ fs)) (forget (one_fault TooDeep (row_of ts))) ts (limited false f fs ts n es)
    (grown (trees_in fs) f.children (one_fault TooDeep (row_of ts)))
    (omega (arith, row_count ts, all_taken ts))

reading_kept : (level : ℕ) (counted : Bool) (f : Frame) (fs : List Frame) (ts : List Token) (n : ℕ) (es : List Fault)
    → IsKept (trees_in (f ∷ fs)) ts (reading false level counted f fs ts n es)
reading_kept level true f fs ts n es =
    choice (IsKept (trees_in (f ∷ fs)) ts) (nat_le depth_limit f.depth) (limited_kept f fs ts n es) (operand_kept level (suc f.depth) f fs ts n es)
reading_kept level false f fs ts n es = operand_kept level f.depth f fs ts n es

-- each action keeps the trees
pub perform_kept : (action : Action) (f : Frame) (fs : List Frame) (ts : List Token) (n : ℕ) (es : List Fault)
    → IsKept (trees_in (f ∷ fs)) ts (perform false action f fs ts n es)
perform_kept action f fs ts n es = by action
  where
    old : Forest
    old = trees_in (f ∷ fs)

    -- more children of the innermost frame keep the trees
    grows : (x : AnnotatedForest) (next : Machine) → trees_in next.frames ≡ join (trees_in fs) (forget (f.children ⊕ x))
        → leaf_count (forget x) + length next.remaining ≡ length ts → IsKept old ts next
    grows x next e c = kept_more old (forget x) ts next (e ∙ grown (trees_in fs) f.children x) c

    by : (action : Action) → IsKept (trees_in (f ∷ fs)) ts (perform false action f fs ts n es)
    by a.Close = closed_kept f fs ts n es
    by a.ClosePattern = closed_kept f fs ts n es
    by a.CloseEntry = entry_closed_kept f fs ts n es
    by a.CloseDoubleBind = closed_kept f fs ts n _
    by a.EndOperand = closed_kept f fs ts n es
    by a.Extra = grows (one_fault Extra (row_of ts)) (perform false a.Extra f fs ts n es) refl (omega (arith, row_count ts, all_taken ts))
    by (a.Take after) = grows (leaf false (kind_of f.head) ts) (perform false (a.Take after) f fs ts n es) refl (taken (kind_of f.head) ts)
    by (a.Run until after) =
        grows (one_fault (Unwanted until) (row_of (run_of until ts))) (perform false (a.Run until after) f fs ts n es) refl
        (omega (arith, row_count (run_of until ts), run_taken until ts))
    by (a.Leaf i after) = grows (one_branch i (leaf false i ts)) (perform false (a.Leaf i after) f fs ts n es) refl (omega (arith, taken i ts))
    by (a.Open i inside after) = kept_more old (forget (leaf false i ts)) ts (perform false (a.Open i inside after) f fs ts n es) refl (taken i ts)
    by (a.OpenEmpty i inside after) = kept_more old empty ts (perform false (a.OpenEmpty i inside after) f fs ts n es) refl (omega arith)
    by (a.Entry after) =
        kept_more old (forget (one_branch NODE_IDENT (leaf false NODE_IDENT ts))) ts (perform false (a.Entry after) f fs ts n es) refl
        (omega (arith, taken NODE_IDENT ts))
    by (a.DoubleBind after) =
        kept_more old (forget (leaf false NODE_ERROR ts)) ts (perform false (a.DoubleBind after) f fs ts n es) refl (taken NODE_ERROR ts)
    by (a.Read level counted after) = reading_kept level counted (put (p.InRow after) f.children f) fs ts n es
    by (a.Wrap i inside high) =
        grows (leaf false i ts) (perform false (a.Wrap i inside high) f fs ts n es)
        (ap (λ z. join z (forget (f.children ⊕ leaf false i ts))) (join_empty (trees_in fs))) (taken i ts)
    by a.Apply =
        subst (λ z. IsKept (join z (forget f.children)) ts (perform false a.Apply f fs ts n es)) (join_empty (trees_in fs))
        (reading_kept 16 false (opened (Node NODE_APPLY) (p.InRow APPLIED) f.depth f.children)
        (opened Operand (p.AfterOperand (min_bp_of f.position) 15) f.depth blank ∷ fs) ts n es)
    by a.ApplyOr =
        let x : AnnotatedForest = one_branch NODE_IDENT (leaf false NODE_IDENT ts) in
        kept_node (trees_in fs) (forget f.children) (forget x) NODE_APPLY ts (perform false a.ApplyOr f fs ts n es)
        (ap (λ z. join (trees_in fs) (node NODE_APPLY z empty)) (forget-⊕ f.children x)) (omega (arith, taken NODE_IDENT ts))
    by action = kept_same old ts (perform false action f fs ts n es) refl refl

-- each step keeps the trees
pub step_kept : (now : Machine) → IsKept (trees_in now.frames) now.remaining (step false now)
step_kept now = by now.frames
  where
    by : (fs : List Frame) → IsKept (trees_in fs) now.remaining (step_on false fs now.remaining now.prev_end now.faults)
    by [] = kept_same empty now.remaining (step_on false [] now.remaining now.prev_end now.faults) refl refl
    by (f ∷ fs) = perform_kept (action_at f.position (head_kind now.remaining) (touches now.prev_end now.remaining)) f fs now.remaining now.prev_end now.faults

-- a run of steps keeps what the first items complete
pub runs_kept : (k : ℕ) {now last : Machine} → Runs false now last → k < leaf_count (trees_in now.frames)
    → completed k (trees_in last.frames) ≡ completed k (trees_in now.frames)
runs_kept k here l = refl
runs_kept k (further {m = now} r) l =
    let w : IsKept (trees_in now.frames) now.remaining (step false now) = step_kept now in
    let longer : k < leaf_count (trees_in (step false now).frames) = omega (arith, l, w.counts, w.shorter) in
    runs_kept k r longer ∙ w.same k (omega (arith, l)) longer
