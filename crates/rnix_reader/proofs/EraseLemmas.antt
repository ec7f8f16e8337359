-- The reader's single steps, in the state that corresponds to a machine.
use Rattle.{std.proofs.Common.{◌≡◌, ℕ, true, false, List, [], ◌∷◌, ◌++◌, refl, ap, sym, ◌∙◌}, rnix_kinds.specs.declared.kinds.SyntaxKind.{SyntaxKind, TheVariants.NODE_ERROR}}
use Rattle.rnix_green.{specs.{Forest.{Forest, join, tree_count}, Draft.wrapped-join, ForestCode.join_empty}, proofs.ForestLemmas.join_assoc}
use Rattle.rnix_grammar.specs.{declared.{position.Position.Position, expected_set.ExpectedSet.ExpectedSet}, Fault.Fault, UnwantedRun.run_of, Layout.{items, from_item, trivia_before, tail_of, with_trivia}}
use Rattle.rnix_grammar.specs.AnnotatedForest.{Token, Note, AnnotatedForest, blank, ◌⊕◌, one_branch, one_fault, row_of, forget, end_from}
use Rattle.rnix_proof_lemmas.specs.Machine.{Head, Node, SecondBind, Operand, Frame, put, opened, with_leading, leaf, leaf_in, after_item, item_end, end_of, made, run_leaves, run_rest, machine, closed}
use Rattle.rnix_proof_lemmas.proofs.{Basics.true_is_not_false, LayoutLemmas.{from_item-from_item, items-from_item}, AnnotatedForestLemmas.forget-⊕}
use Rattle.rnix_proof_lemmas.specs.FrameKinds.{OperandFrame, frame_kind, frame_kind_of_head, IsStackedOn}
use Rattle.rnix_reader.specs.{declared.mark.Mark.Mark, State.{State, eaten, taken, bumped, skipped, started_here, started, started_at, ended, failed, pushed}}
use Rattle.rnix_reader.{specs.{Erase.{trees_of, marks_of, mark_at, erase, erase_with, popped}, FrameSteps.{node_here, operand_here, leaf_node_made}, Reported.error_over}, proofs.FrameKindLemmas.{is_operand_frame, node_not_operand, head_operand}}
use Rattle.rnix_proof_steps.proofs.BudgetedSteps.{is_root}
use Rattle.rnix_reader.proofs.StateLemmas.{state_is, eaten-settled}

-- adding one forest after another adds both joined
grown : (t : Forest) (a b : AnnotatedForest) → join (join t (forget a)) (forget b) ≡ join t (forget (a ⊕ b))
grown t a b = join_assoc t (forget a) (forget b) ∙ ap (join t) (sym (forget-⊕ a b))

-- the reader adds the trivia before the next item to the innermost frame
pub erase-eaten : (ms : List Mark) (f : Frame) (fs : List Frame) (ts : List Token) (n : ℕ) (es : List Fault)
    → eaten (erase_with ms (machine (f ∷ fs) ts n es)) ≡ erase_with ms (machine (put f.position (with_leading true f.children ts) f ∷ fs) (from_item ts) n es)
unfolding eaten
erase-eaten ms f fs ts n es = state_is refl (grown (trees_of fs) f.children (trivia_before ts)) refl refl refl refl

-- after the trivia there are none to add
pub erase-settled : (ms : List Mark) (fs : List Frame) (ts : List Token) (n : ℕ) (es : List Fault)
    → eaten (erase_with ms (machine fs (from_item ts) n es)) ≡ erase_with ms (machine fs (from_item ts) n es)
erase-settled ms fs ts n es = eaten-settled (erase_with ms (machine fs (from_item ts) n es)) (from_item-from_item ts)

-- the reader adds the next token to the innermost frame
erase-taken : (ms : List Mark) (k : SyntaxKind) (f : Frame) (fs : List Frame) (us : List Token) (n : ℕ) (es : List Fault)
    → taken k (erase_with ms (machine (f ∷ fs) us n es))
    ≡ erase_with ms (machine (put f.position (f.children ⊕ leaf_in k us) f ∷ fs) (tail_of us) (end_of n us) es)
erase-taken ms k f fs us n es = state_is refl (grown (trees_of fs) f.children (leaf_in k us)) refl refl refl refl

-- the reader adds the next item to the innermost frame, after the trivia before it
pub erase-bumped : (ms : List Mark) (k : SyntaxKind) (f : Frame) (fs : List Frame) (ts : List Token) (n : ℕ) (es : List Fault)
    → bumped k (erase_with ms (machine (f ∷ fs) ts n es)) ≡ erase_with ms
    (machine (put f.position (with_leading true f.children ts ⊕ leaf true k ts) f ∷ fs) (after_item true ts) (item_end true n ts) es)
unfolding bumped
erase-bumped ms k f fs ts n es = ap (taken k) (erase-eaten ms f fs ts n es)
    ∙ erase-taken ms k (put f.position (with_leading true f.children ts) f) fs (from_item ts) n es

-- after the trivia it adds the item alone
pub erase-next : (ms : List Mark) (k : SyntaxKind) (f : Frame) (fs : List Frame) (ts : List Token) (n : ℕ) (es : List Fault)
    → bumped k (erase_with ms (machine (f ∷ fs) (from_item ts) n es)) ≡ erase_with ms
    (machine (put f.position (f.children ⊕ leaf true k ts) f ∷ fs) (after_item true ts) (item_end true n ts) es)
unfolding bumped
erase-next ms k f fs ts n es = ap (taken k) (erase-settled ms (f ∷ fs) ts n es) ∙ erase-taken ms k f fs (from_item ts) n es

-- the reader opens an empty node
pub erase-started : (ms : List Mark) (k : SyntaxKind) (inside : Position) (d : ℕ) (fs : List Frame) (us : List Token) (n : ℕ) (es : List Fault)
    → started_here k (erase_with ms (machine fs us n es)) ≡ erase_with ms (machine (opened (Node k) inside d blank ∷ fs) us n es)
unfolding started_at
erase-started ms k inside d fs us n es = state_is refl (sym (join_empty (trees_of fs))) refl refl refl refl

-- the reader opens an empty node, with its mark
pub erase-node_started : (k : SyntaxKind) (inside : Position) (d : ℕ) (fs : List Frame) (us : List Token) (n : ℕ) (es : List Fault)
    → node_here k inside d (erase (machine fs us n es)) ≡ erase (machine (opened (Node k) inside d blank ∷ fs) us n es)
unfolding pushed
erase-node_started k inside d fs us n es = ap (pushed (mark_at inside d (tree_count (trees_of fs)))) (erase-started (marks_of fs) k inside d fs us n es)

-- the reader begins an empty operand
pub erase-operand : (inside : Position) (d : ℕ) (fs : List Frame) (us : List Token) (n : ℕ) (es : List Fault)
    → operand_here inside d (erase (machine fs us n es)) ≡ erase (machine (opened Operand inside d blank ∷ fs) us n es)
unfolding pushed
erase-operand inside d fs us n es = state_is refl (sym (join_empty (trees_of fs))) refl refl refl refl

-- the reader completes what is open, if that is a node
pub erase-closed : (ms : List Mark) (h : Head) (position : Position) (d : ℕ) (trees : AnnotatedForest) (g : Frame) (fs : List Frame) (ts : List Token) (n : ℕ)
    (es : List Fault)
    → is_operand_frame (frame_kind_of_head h) ≡ false
    → ended (erase_with ms (machine (opened h position d trees ∷ (g ∷ fs)) ts n es)) ≡ erase_with ms (closed (opened h position d trees) (g ∷ fs) ts n es)
unfolding ended
erase-closed ms (Node k) position d trees g fs ts n es e =
    state_is refl (wrapped-join k (trees_of (g ∷ fs)) (forget trees) ∙ grown (trees_of fs) g.children (one_branch k trees)) refl refl refl refl
erase-closed ms SecondBind position d trees g fs ts n es e =
    state_is refl (wrapped-join NODE_ERROR (trees_of (g ∷ fs)) (forget trees) ∙ grown (trees_of fs) g.children (made SecondBind trees)) refl refl refl refl
erase-closed ms Operand position d trees g fs ts n es e = absurd (true_is_not_false e)

-- the reader completes a node that is not the root
pub closes : (f : Frame) (fs : List Frame) (ts : List Token) (n : ℕ) (es : List Fault) → IsStackedOn f.head f.position fs
    → is_operand_frame (frame_kind f.position) ≡ false
    → is_root (frame_kind f.position) ≡ false → ended (popped (machine (f ∷ fs) ts n es)) ≡ erase (closed f fs ts n es)
closes f [] ts n es st l r = absurd (true_is_not_false (sym (ap is_root st.1) ∙ r))
closes f (g ∷ fs) ts n es st l r = erase-closed _ f.head f.position f.depth f.children g fs ts n es (ap is_operand_frame st.0 ∙ l)

-- the reader completes an operand
pub settles : (f : Frame) (fs : List Frame) (ts : List Token) (n : ℕ) (es : List Fault) → IsStackedOn f.head f.position fs
    → frame_kind f.position ≡ OperandFrame
    → popped (machine (f ∷ fs) ts n es) ≡ erase (closed f fs ts n es)
settles f [] ts n es st e = absurd (true_is_not_false (sym (ap is_root st.1) ∙ ap is_root e))
settles f (g ∷ fs) ts n es st e = rw (head_operand f.head (st.0 ∙ e)) (state_is refl (grown (trees_of fs) g.children f.children) refl refl refl refl)

-- an error comes after all others
pub closed_failed : (e : Fault) (f : Frame) (fs : List Frame) (ts : List Token) (n : ℕ) (es : List Fault)
    → failed e (erase (closed f fs ts n es)) ≡ erase (closed f fs ts n (es ++ e ∷ []))
unfolding failed
closed_failed e f [] ts n es = refl
closed_failed e f (g ∷ fs) ts n es = refl

leaf_here : (ms : List Mark) (k : SyntaxKind) (f : Frame) (fs : List Frame) (us : List Token) (n : ℕ) (es : List Fault)
    → ended (taken k (started_here k (erase_with ms (machine (f ∷ fs) us n es))))
    ≡ erase_with ms (machine (put f.position (f.children ⊕ one_branch k (leaf_in k us)) f ∷ fs) (tail_of us) (end_of n us) es)
leaf_here ms k f fs us n es =
    ap (λ x. ended (taken k x)) (erase-started ms k f.position f.depth (f ∷ fs) us n es)
    ∙ ap ended (erase-taken ms k (opened (Node k) f.position f.depth blank) (f ∷ fs) us n es)
    ∙ erase-closed ms (Node k) f.position f.depth (leaf_in k us) f fs (tail_of us) (end_of n us) es (node_not_operand k)

-- the reader makes a node over the next item
pub erase-leaf_node_made : (ms : List Mark) (k : SyntaxKind) (f : Frame) (fs : List Frame) (ts : List Token) (n : ℕ) (es : List Fault)
    → leaf_node_made k (erase_with ms (machine (f ∷ fs) ts n es))
    ≡ erase_with ms (machine (put f.position (with_leading true f.children ts ⊕ one_branch k (leaf true k ts)) f
    ∷ fs) (after_item true ts) (item_end true n ts) es)
erase-leaf_node_made ms k f fs ts n es =
    ap (λ x. ended (taken k (started_here k x))) (erase-eaten ms f fs ts n es)
    ∙ leaf_here ms k (put f.position (with_leading true f.children ts) f) fs (from_item ts) n es

-- after the trivia it makes the node over the item alone
pub erase-first : (ms : List Mark) (k : SyntaxKind) (f : Frame) (fs : List Frame) (ts : List Token) (n : ℕ) (es : List Fault)
    → leaf_node_made k (erase_with ms (machine (f ∷ fs) (from_item ts) n es))
    ≡ erase_with ms (machine (put f.position (f.children ⊕ one_branch k (leaf true k ts)) f ∷ fs) (after_item true ts) (item_end true n ts) es)
erase-first ms k f fs ts n es = ap (λ x. ended (taken k (started_here k x))) (erase-settled ms (f ∷ fs) ts n es) ∙ leaf_here ms k f fs (from_item ts) n es

-- the reader makes an error node over a run
pub erase-over : (ms : List Mark) (note : Note) (until : ExpectedSet) (run : List Token) (f : Frame) (fs : List Frame) (ts : List Token) (n : ℕ)
    (es : List Fault) → run_of until (items ts) ≡ run
    → error_over until (erase_with ms (machine (f ∷ fs) ts n es))
    ≡ erase_with ms (machine (put f.position (with_leading true f.children ts ⊕ one_fault note (run_leaves true run ts)) f ∷ fs) (run_rest true run ts)
    (end_from n run) es)
unfolding ended skipped started_at eaten
erase-over ms note until run f fs ts n es r =
    let trees : AnnotatedForest = with_leading true f.children ts in
    let made : Forest = forget (with_trivia (row_of run) (from_item ts)) in
    let s : State = erase_with ms (machine (f ∷ fs) ts n es) in
    ap (λ x. ended (skipped x (started NODE_ERROR s))) (ap (run_of until) (items-from_item ts) ∙ r)
    ∙ ap (λ x. ended (skipped run (started_here NODE_ERROR x))) (erase-eaten ms f fs ts n es)
    ∙ state_is refl (wrapped-join NODE_ERROR (join (trees_of fs) (forget trees)) made
    ∙ grown (trees_of fs) trees (one_fault note (run_leaves true run ts))) refl refl refl refl

-- the reader makes an operand the first child of a node
pub erase-wrapped : (ms : List Mark) (k : SyntaxKind) (inside over : Position) (f : Frame) (fs : List Frame) (ts : List Token) (n : ℕ) (es : List Fault)
    → f.head ≡ Operand
    → started_at (tree_count (trees_of fs)) k (erase_with ms (machine (put over f.children f ∷ fs) ts n es))
    ≡ erase_with ms (machine (opened (Node k) inside f.depth f.children ∷ (opened Operand over f.depth blank ∷ fs)) ts n es)
unfolding started_at
erase-wrapped ms k inside over f fs ts n es h = rw (h, join_empty (trees_of fs)) refl
