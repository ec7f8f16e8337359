-- A step over tokens with trivia is, apart from the trivia, a step over the items.
use Rattle.std.proofs.Common.{◌≡◌, ℕ, suc, Bool, true, false, List, [], ◌∷◌, ◌++◌, refl, ap, sym, ◌∙◌, if◌then◌else◌, nat_le}
use Rattle.rnix_kinds.specs.declared.kinds.SyntaxKind.{SyntaxKind, TheVariants.{NODE_IDENT, NODE_PAT_ENTRY, NODE_LAMBDA, NODE_IDENT_PARAM, NODE_PATTERN}}
use Rattle.rnix_kinds.specs.declared.kinds.SyntaxKind.TheVariants.{NODE_PAT_BIND, NODE_LEGACY_LET, NODE_APPLY, NODE_ERROR}
use Rattle.rnix_grammar.specs.declared.slot_table.TheConstants.{LEGACY_LET, LAMBDA, PATTERN, BOUND_PATTERN, PAT_ENTRY, SECOND_BIND, APPLIED}
use Rattle.rnix_grammar.specs.{declared.{position.Position.Position, expected_set.ExpectedSet.ExpectedSet, action.Action.Action, operand_start.OperandStart.OperandStart}, Fault.Fault, Tables.is_wanted}
use Rattle.rnix_grammar.specs.{Tables.depth_limit, Actions.action_at, OperandStarts.{operand_start_of, second_kind}, AnnotatedForest.{Token, Stray, Unwanted, Extra, DoubleBind}}
use Rattle.rnix_grammar.specs.AnnotatedForest.{TooDeep, AnnotatedForest, blank, ◌⊕◌, one_branch, one_fault, row_of, tokens_in, without_trivia, token_if}
use Rattle.rnix_grammar.specs.{AnnotatedForest.{leaf_kind, head_kind, touches}, Layout.{items, from_item, tail_of, trivia_before}, Reports.{report, repeated}}
use Rattle.rnix_proof_lemmas.specs.Machine.{Head, Node, SecondBind, Operand, Frame, Machine, put, opened, with_leading, after_item, end_of, item_end, leaf_in, leaf, run_leaves, dropped}
use Rattle.rnix_proof_lemmas.specs.Machine.{run_rest, kind_of, made, min_bp_of, machine, closed, entry_closed, limited, begun, operand_on, reading, perform, step_on}
use Rattle.rnix_grammar.specs.UnwantedRun.{run_of}
use Rattle.rnix_proof_lemmas.specs.Machine.{step, Runs, rest}
use Rattle.rnix_proof_lemmas.specs.Machine.{then as further}
use Rattle.rnix_proof_lemmas.specs.WithoutTrivia.{without_trivia_frame, without_trivia_frames}
use Rattle.rnix_proof_lemmas.proofs.AnnotatedForestLemmas.{⊕-blank, tokens_in-row_of}
use Rattle.rnix_proof_lemmas.specs.WithoutTrivia.{without_trivia_machine}
use Rattle.rnix_proof_lemmas.proofs.LayoutLemmas.{items_head, items-view, items-from_item, from_item_item, without_trivia-⊕, without_trivia-trivia, IsBared, bared}
use Rattle.rnix_grammar.specs.declared.position.Position.TheVariants as p
use Rattle.rnix_grammar.specs.declared.action.Action.TheVariants as a
use Rattle.rnix_grammar.specs.declared.operand_start.OperandStart.TheVariants as b

-- the items after the first one are the items of the tokens after it
pub items_behind : (ts : List Token) → items (after_item true ts) ≡ tail_of (items ts)
items_behind ts = by_head (from_item ts) ∙ ap tail_of (sym (items-view ts))
  where
    by_head : (xs : List Token) → items (tail_of xs) ≡ tail_of (items_head xs)
    by_head [] = refl
    by_head (x ∷ xs) = refl

-- the first item ends where the first of the items does
pub item_end_items : (n : ℕ) (ts : List Token) → item_end true n ts ≡ end_of n (items ts)
item_end_items n ts = by_head (from_item ts) ∙ ap (end_of n) (sym (items-view ts))
  where
    by_head : (xs : List Token) → end_of n xs ≡ end_of n (items_head xs)
    by_head [] = refl
    by_head (x ∷ xs) = refl

-- a leaf over the first item is, without trivia, that item
pub leaf_without_trivia : (k : SyntaxKind) (ts : List Token) → without_trivia (leaf true k ts) ≡ leaf_in k (items ts)
leaf_without_trivia k ts = by_head (from_item ts) refl ∙ ap (leaf_in k) (sym (items-view ts))
  where
    by_head : (xs : List Token) → from_item ts ≡ xs → without_trivia (leaf_in k xs) ≡ leaf_in k (items_head xs)
    by_head [] e = refl
    by_head (x ∷ xs) e = ap (λ y. token_if y (leaf_kind k x) x blank) (from_item_item ts x xs e)

-- trivia after a forest are removed
pub with_leading_without_trivia : (f : AnnotatedForest) (ts : List Token) → without_trivia (with_leading true f ts) ≡ without_trivia f
with_leading_without_trivia f ts = without_trivia-⊕ f (trivia_before ts) ∙ ap (λ x. without_trivia f ⊕ x) (without_trivia-trivia ts)
    ∙ ⊕-blank (without_trivia f)

-- trivia between a forest and the trees after it are removed
pub added_without_trivia : (f : AnnotatedForest) (ts : List Token) (g : AnnotatedForest) {h : AnnotatedForest} → without_trivia g ≡ h
    → without_trivia (with_leading true f ts ⊕ g) ≡ without_trivia f ⊕ h
added_without_trivia f ts g e = without_trivia-⊕ (with_leading true f ts) g ∙ ap (λ x. x ⊕ without_trivia g) (with_leading_without_trivia f ts)
    ∙ ap (λ x. without_trivia f ⊕ x) e

-- a run and the tokens after it are all tokens
pub run_prefix : (until : ExpectedSet) (ts : List Token) → ts ≡ run_of until ts ++ dropped (run_of until ts) ts
run_prefix until [] = refl
run_prefix until (t ∷ ts) =
    elim (is_wanted until t.kind) as (λ x. t ∷ ts ≡ (if x then [] else t ∷ run_of until ts) ++ dropped (if x then [] else t ∷ run_of until ts) (t ∷ ts))
    [ true ↦ refl | false ↦ ap (λ z. t ∷ z) (run_prefix until ts) ]

-- all tokens, and those after all of them, are all tokens
pub all_prefix : (ts : List Token) → ts ≡ ts ++ dropped ts ts
all_prefix [] = refl
all_prefix (t ∷ ts) = ap (λ z. t ∷ z) (all_prefix ts)

-- a run, with the trivia inside it, is the run of items when these are removed
pub run_bared : (run ts us : List Token) → items ts ≡ run ++ us → IsBared (row_of run) (from_item ts) us
run_bared run ts us e = bared (row_of run) (from_item ts) us (items-from_item ts ∙ e ∙ ap (λ x. x ++ us) (sym (tokens_in-row_of run)))

-- equal frames on equal lists of frames are equal
cons_same : {f g : Frame} {fs gs : List Frame} → f ≡ g → fs ≡ gs → f ∷ fs ≡ g ∷ gs
cons_same {f = f} {gs = gs} d e = ap (λ x. f ∷ x) e ∙ ap (λ x. x ∷ gs) d

-- frames with equal children are equal
children_same : (h : Head) (q : Position) (d : ℕ) {f g : AnnotatedForest} → f ≡ g → opened h q d f ≡ opened h q d g
children_same h q d e = ap (opened h q d) e

-- machines with equal frames, tokens and ends are equal
machine_same : {fs gs : List Frame} {ts us : List Token} {n m : ℕ} {es : List Fault} → fs ≡ gs → ts ≡ us → n ≡ m → machine fs ts n es ≡ machine gs us m es
machine_same {gs = gs} {ts = ts} {us = us} {n = n} {es = es} c d e =
    ap (λ x. machine x ts n es) c ∙ ap (λ x. machine gs x n es) d ∙ ap (λ x. machine gs us x es) e

-- a choice between two machines is, without trivia, the choice between both without trivia
choice_same : (x : Bool) (k m : Machine) {k' m' : Machine} → without_trivia_machine k ≡ k' → without_trivia_machine m ≡ m'
    → without_trivia_machine (if x then k else m) ≡ (if x then k' else m')
choice_same true k m d e = d
choice_same false k m d e = e

-- the node that a frame becomes is, without trivia, that of its children without trivia
made_without_trivia : (h : Head) (f : AnnotatedForest) → without_trivia (made h f) ≡ made h (without_trivia f)
made_without_trivia (Node k) f = refl
made_without_trivia _ f = assumption

-- completing a frame is the same with trivia and without
closed_without_trivia : (f : Frame) (fs : List Frame) (ts : List Token) (n : ℕ) (es : List Fault)
    → without_trivia_machine (closed f fs ts n es) ≡ closed (without_trivia_frame f) (without_trivia_frames fs) (items ts) n es
closed_without_trivia f [] ts n es = refl
closed_without_trivia f (g ∷ fs) ts n es =
    machine_same
    (cons_same (children_same g.head g.position g.depth (without_trivia-⊕ g.children (made f.head f.children)
    ∙ ap (λ x. without_trivia g.children ⊕ x) (made_without_trivia f.head f.children))) refl) refl refl

-- completing an entry of a pattern is the same with trivia and without
entry_without_trivia : (f : Frame) (fs : List Frame) (ts : List Token) (n : ℕ) (es : List Fault)
    → without_trivia_machine (entry_closed true f fs ts n es) ≡ entry_closed false (without_trivia_frame f) (without_trivia_frames fs) (items ts) n es
entry_without_trivia f [] ts n es = refl
entry_without_trivia f (g ∷ fs) ts n es = closed_without_trivia f (g ∷ fs) ts n (es ++ repeated (without_trivia g.children) (without_trivia f.children))

-- reading what is nested too deep is the same with trivia and without
limited_without_trivia : (f : Frame) (fs : List Frame) (ts : List Token) (n : ℕ) (es : List Fault)
    → without_trivia_machine (limited true f fs ts n es) ≡ limited false (without_trivia_frame f) (without_trivia_frames fs) (items ts) n es
limited_without_trivia f fs ts n es =
    let run : List Token = items ts in
    let w : IsBared (row_of run) (from_item ts) (dropped run run) = run_bared run ts (dropped run run) (all_prefix run) in
    let remaining : List Token = run_rest true run ts in
    machine_same
    (cons_same
    (children_same f.head f.position f.depth
    (with_leading_without_trivia (with_leading true f.children ts ⊕ one_fault TooDeep (run_leaves true run ts)) remaining
    ∙ added_without_trivia f.children ts (one_fault TooDeep (run_leaves true run ts)) (ap (one_fault TooDeep) w.same))) refl)
    (items-from_item remaining ∙ w.remaining) refl

-- the frame that waits for an operand is the same with trivia and without
waiting_without_trivia : (f : Frame) (fs : List Frame) (ts : List Token)
    → without_trivia_frames (put f.position (with_leading true f.children ts) f ∷ fs) ≡ put f.position (without_trivia f.children) f ∷ without_trivia_frames fs
waiting_without_trivia f fs ts = cons_same (children_same f.head f.position f.depth (with_leading_without_trivia f.children ts)) refl

-- two items end where the second of the items does
reach_two : (n : ℕ) (ts : List Token) → item_end true (item_end true n ts) (after_item true ts) ≡ item_end false (item_end false n (items ts))
    (after_item false (items ts))
reach_two n ts = item_end_items (item_end true n ts) (after_item true ts) ∙ ap (λ x. end_of x (items (after_item true ts))) (item_end_items n ts)
    ∙ ap (end_of (end_of n (items ts))) (items_behind ts)

-- the items after two items are the items of the tokens after them
behind_two : (ts : List Token) → items (after_item true (after_item true ts)) ≡ tail_of (tail_of (items ts))
behind_two ts = items_behind (after_item true ts) ∙ ap tail_of (items_behind ts)

-- a leaf over the second item is, without trivia, that item
leaf_behind : (k : SyntaxKind) (ts : List Token) → without_trivia (leaf true k (after_item true ts)) ≡ leaf_in k (tail_of (items ts))
leaf_behind k ts = leaf_without_trivia k (after_item true ts) ∙ ap (leaf_in k) (items_behind ts)

-- beginning an operand is the same with trivia and without
begun_without_trivia : (how : OperandStart) (level d : ℕ) (t : Token) (f : Frame) (fs : List Frame) (ts : List Token) (n : ℕ) (es : List Fault)
    → without_trivia_machine (begun true how level d t f fs ts n es) ≡ begun false how level d t (without_trivia_frame f) (without_trivia_frames fs)
    (items ts) n es
begun_without_trivia (b.Leaf k) level d t f fs ts n es =
    machine_same (cons_same (children_same Operand (p.AfterOperand level 16) d (ap (one_branch k) (leaf_without_trivia k ts))) (waiting_without_trivia f fs ts))
    (items_behind ts) (item_end_items n ts)
begun_without_trivia (b.Node k remaining max_bp) level d t f fs ts n es =
    machine_same (cons_same (children_same (Node k) (p.InRow remaining) d (leaf_without_trivia k ts)) (cons_same refl (waiting_without_trivia f fs ts)))
    (items_behind ts)
    (item_end_items n ts)
begun_without_trivia b.LegacyLet level d t f fs ts n es =
    machine_same
    (cons_same
    (children_same (Node NODE_LEGACY_LET) (p.InRow LEGACY_LET) d
    (added_without_trivia (leaf true NODE_LEGACY_LET ts) (after_item true ts) (leaf true NODE_LEGACY_LET (after_item true ts)) (leaf_behind NODE_LEGACY_LET ts)
    ∙ ap (λ x. x ⊕ leaf_in NODE_LEGACY_LET (tail_of (items ts))) (leaf_without_trivia NODE_LEGACY_LET ts))) (cons_same refl (waiting_without_trivia f fs ts)))
    (behind_two ts) (reach_two n ts)
begun_without_trivia b.NameLambda level d t f fs ts n es =
    machine_same
    (cons_same (children_same (Node NODE_LAMBDA) (p.InRow LAMBDA) d (ap (λ x. one_branch NODE_IDENT_PARAM (one_branch NODE_IDENT x))
    (leaf_without_trivia NODE_IDENT ts)))
    (cons_same refl (waiting_without_trivia f fs ts))) (items_behind ts) (item_end_items n ts)
begun_without_trivia b.BoundLambda level d t f fs ts n es =
    machine_same
    (cons_same
    (children_same (Node NODE_PATTERN) (p.InRow BOUND_PATTERN) d
    (ap (one_branch NODE_PAT_BIND)
    (added_without_trivia (one_branch NODE_IDENT (leaf true NODE_IDENT ts)) (after_item true ts) (leaf true NODE_PAT_BIND (after_item true ts))
    (leaf_behind NODE_PAT_BIND ts)
    ∙ ap (λ x. one_branch NODE_IDENT x ⊕ leaf_in NODE_PAT_BIND (tail_of (items ts))) (leaf_without_trivia NODE_IDENT ts))))
    (cons_same refl (cons_same refl (waiting_without_trivia f fs ts)))) (behind_two ts) (reach_two n ts)
begun_without_trivia b.PatternLambda level d t f fs ts n es =
    machine_same (cons_same (children_same (Node NODE_PATTERN) (p.InRow PATTERN) d (leaf_without_trivia NODE_PATTERN ts))
    (cons_same refl (cons_same refl (waiting_without_trivia f fs ts))))
    (items_behind ts) (item_end_items n ts)
begun_without_trivia b.Stray level d t f fs ts n es =
    machine_same (cons_same (children_same Operand (p.AfterOperand level 16) d (ap (one_fault Stray) (leaf_without_trivia NODE_ERROR ts)))
    (waiting_without_trivia f fs ts)) (items_behind ts) (item_end_items n ts)

-- reading an operand of a level, or reporting its absence at the end of the text, is the same with trivia and without
operand_without_trivia : (level d : ℕ) (f : Frame) (fs : List Frame) (ts xs : List Token) (n : ℕ) (es : List Fault)
    → without_trivia_machine (operand_on true level d f fs ts xs n es) ≡ operand_on false level d (without_trivia_frame f) (without_trivia_frames fs)
    (items ts) xs n es
operand_without_trivia level d f fs ts [] n es = refl
operand_without_trivia level d f fs ts (t ∷ us) n es =
    begun_without_trivia (operand_start_of level t.kind t.text (head_kind us) (second_kind us)) level d t f fs ts n es

-- the same for an operand that is counted or not
reading_without_trivia : (level : ℕ) (counted : Bool) (f : Frame) (fs : List Frame) (ts : List Token) (n : ℕ) (es : List Fault)
    → without_trivia_machine (reading true level counted f fs ts n es) ≡ reading false level counted (without_trivia_frame f) (without_trivia_frames fs)
    (items ts) n es
reading_without_trivia level true f fs ts n es =
    choice_same (nat_le depth_limit f.depth) (limited true f fs ts n es) (operand_on true level (suc f.depth) f fs ts (items ts) n es)
    (limited_without_trivia f fs ts n es)
    (operand_without_trivia level (suc f.depth) f fs ts (items ts) n es)
reading_without_trivia level false f fs ts n es = operand_without_trivia level f.depth f fs ts (items ts) n es

-- each action is the same with trivia and without
perform_without_trivia : (action : Action) (f : Frame) (fs : List Frame) (ts : List Token) (n : ℕ) (es : List Fault)
    → without_trivia_machine (perform true action f fs ts n es) ≡ perform false action (without_trivia_frame f) (without_trivia_frames fs) (items ts) n es
perform_without_trivia a.Close f fs ts n es = closed_without_trivia f fs ts n es
perform_without_trivia a.ClosePattern f fs ts n es = closed_without_trivia f fs ts n es
perform_without_trivia a.CloseEntry f fs ts n es = entry_without_trivia f fs ts n es
perform_without_trivia a.CloseDoubleBind f fs ts n es = closed_without_trivia f fs ts n (es ++ report DoubleBind (tokens_in (without_trivia f.children)) ∷ [])
perform_without_trivia a.EndOperand f fs ts n es = closed_without_trivia f fs ts n es
perform_without_trivia a.Extra f fs ts n es =
    let run : List Token = items ts in
    let w : IsBared (row_of run) (from_item ts) (dropped run run) = run_bared run ts (dropped run run) (all_prefix run) in
    machine_same (cons_same (children_same f.head f.position f.depth (added_without_trivia f.children ts (one_fault Extra (run_leaves true run ts))
    (ap (one_fault Extra) w.same))) refl) w.remaining refl
perform_without_trivia (a.Take after) f fs ts n es =
    machine_same (cons_same (children_same f.head (p.InRow after) f.depth
    (added_without_trivia f.children ts (leaf true (kind_of f.head) ts) (leaf_without_trivia (kind_of f.head) ts))) refl) (items_behind ts)
    (item_end_items n ts)
perform_without_trivia (a.Run until after) f fs ts n es =
    let run : List Token = run_of until (items ts) in
    let w : IsBared (row_of run) (from_item ts) (dropped run (items ts)) = run_bared run ts (dropped run (items ts)) (run_prefix until (items ts)) in
    machine_same (cons_same (children_same f.head (p.InRow after) f.depth
    (added_without_trivia f.children ts (one_fault (Unwanted until) (run_leaves true run ts)) (ap (one_fault (Unwanted until)) w.same))) refl) w.remaining refl
perform_without_trivia (a.Leaf k after) f fs ts n es =
    machine_same (cons_same (children_same f.head (p.InRow after) f.depth
    (added_without_trivia f.children ts (one_branch k (leaf true k ts)) (ap (one_branch k) (leaf_without_trivia k ts)))) refl) (items_behind ts)
    (item_end_items n ts)
perform_without_trivia (a.Open k inside after) f fs ts n es =
    machine_same
    (cons_same (children_same (Node k) (p.InRow inside) f.depth (leaf_without_trivia k ts)) (waiting_without_trivia (put (p.InRow after) f.children f) fs ts))
    (items_behind ts) (item_end_items n ts)
perform_without_trivia (a.OpenEmpty k inside after) f fs ts n es =
    machine_same (cons_same refl (waiting_without_trivia (put (p.InRow after) f.children f) fs ts)) (items-from_item ts) refl
perform_without_trivia (a.Entry after) f fs ts n es =
    machine_same (cons_same (children_same (Node NODE_PAT_ENTRY) (p.InRow PAT_ENTRY) f.depth (ap (one_branch NODE_IDENT) (leaf_without_trivia NODE_IDENT ts)))
    (waiting_without_trivia (put (p.InRow after) f.children f) fs ts))
    (items_behind ts) (item_end_items n ts)
perform_without_trivia (a.DoubleBind after) f fs ts n es =
    machine_same (cons_same (children_same SecondBind (p.InRow SECOND_BIND) f.depth (leaf_without_trivia NODE_ERROR ts))
    (waiting_without_trivia (put (p.InRow after) f.children f) fs ts)) (items_behind ts) (item_end_items n ts)
perform_without_trivia (a.Read level counted after) f fs ts n es = reading_without_trivia level counted (put (p.InRow after) f.children f) fs ts n es
perform_without_trivia (a.Wrap k inside max_bp) f fs ts n es =
    machine_same (cons_same (children_same (Node k) inside f.depth (added_without_trivia f.children ts (leaf true k ts) (leaf_without_trivia k ts))) refl)
    (items_behind ts) (item_end_items n ts)
perform_without_trivia a.Apply f fs ts n es =
    reading_without_trivia 16 false (opened (Node NODE_APPLY) (p.InRow APPLIED) f.depth f.children)
    (opened Operand (p.AfterOperand (min_bp_of f.position) 15) f.depth blank ∷ fs) ts n es
perform_without_trivia a.ApplyOr f fs ts n es =
    machine_same
    (cons_same
    (children_same Operand (p.AfterOperand (min_bp_of f.position) 15) f.depth
    (ap (one_branch NODE_APPLY) (added_without_trivia f.children ts (one_branch NODE_IDENT (leaf true NODE_IDENT ts))
    (ap (one_branch NODE_IDENT) (leaf_without_trivia NODE_IDENT ts))))) refl)
    (items_behind ts) (item_end_items n ts)
perform_without_trivia _ f fs ts n es = cc

-- a step with trivia is, without them, a step without trivia
pub step_without_trivia : (m : Machine) → without_trivia_machine (step true m) ≡ step false (without_trivia_machine m)
step_without_trivia m = by_frames m.frames
  where
    by_frames : (fs : List Frame) → without_trivia_machine (step_on true fs m.remaining m.prev_end m.faults) ≡ step_on false (without_trivia_frames fs)
        (items m.remaining) m.prev_end m.faults
    by_frames [] = refl
    by_frames (f ∷ fs) = perform_without_trivia (action_at f.position (head_kind (items m.remaining))
        (touches m.prev_end (items m.remaining))) f fs m.remaining m.prev_end m.faults

-- steps with trivia are, without them, steps without trivia
pub runs_without_trivia : {m n : Machine} → Runs true m n → Runs false (without_trivia_machine m) (without_trivia_machine n)
runs_without_trivia rest = rest
runs_without_trivia {n = n} (further {m = m} r) = further (rw (← step_without_trivia m) (runs_without_trivia r))
