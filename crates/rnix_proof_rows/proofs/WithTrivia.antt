-- The items of the open frames and the tokens of the text determine where the trivia of the frames are.
use Rattle.std.proofs.Common.{◌≡◌, ℕ, suc, Bool, true, false, List, [], ◌∷◌, ◌++◌, Option, refl, sym, ap, ◌∙◌, subst, if◌then◌else◌, nat_le}
use Rattle.rnix_kinds.specs.declared.kinds.SyntaxKind.{SyntaxKind, TheVariants.{NODE_ERROR, NODE_IDENT, NODE_IDENT_PARAM, NODE_APPLY, NODE_LEGACY_LET}}
use Rattle.{rnix_kinds.specs.declared.kinds.SyntaxKind.TheVariants.{NODE_PATTERN, NODE_PAT_BIND}, rnix_grammar.specs.declared.position.Position.Position}
use Rattle.rnix_grammar.specs.declared.{slot_table.TheConstants.APPLIED, expected_set.ExpectedSet.ExpectedSet, action.Action.Action, operand_start.OperandStart.OperandStart}
use Rattle.rnix_grammar.specs.{Fault.Fault, Tables.depth_limit, Actions.action_at, OperandStarts.{operand_start_of, second_kind}, AnnotatedForest.{Token, Stray, Unwanted}}
use Rattle.rnix_grammar.specs.AnnotatedForest.{Extra, DoubleBind, TooDeep, AnnotatedForest, blank, ◌⊕◌, one_branch, one_fault, without_trivia, head_kind}
use Rattle.rnix_grammar.specs.{AnnotatedForest.touches, Layout.{from_item, tail_of, trivia_before, items, remaining_after, with_all_trivia}, Reports.repeated}
use Rattle.{rnix_grammar.specs.UnwantedRun.run_of, rnix_proof_lemmas.specs.Machine.{Head, Node, SecondBind, Operand, Frame, Machine, put, opened, with_leading}}
use Rattle.rnix_proof_lemmas.specs.Machine.{after_item, leaf, run_leaves, dropped, run_rest, made, kind_of, min_bp_of, closed, entry_closed, limited, begun}
use Rattle.rnix_proof_lemmas.specs.{Machine.{operand_on, reading, perform, step_on, step, initial_machine, Runs, rest, then as further}, FrameKinds.OperandFrame}
use Rattle.rnix_proof_lemmas.{specs.{FrameKinds.{frame_kind, IsStackedOn, AreStacked}, Allowed.{Allowed, is_there}}, proofs.AnnotatedForestLemmas.⊕-assoc}
use Rattle.rnix_proof_lemmas.proofs.{LayoutLemmas.without_trivia-⊕, WithoutTriviaLemmas.{items_behind, with_leading_without_trivia, run_prefix, all_prefix}}
use Rattle.rnix_proof_lemmas.proofs.{AllowedLemmas.allowed, StackedFrames.{BeginsInner, operand_start_inner, step_stacked, initial_stacked}}
use Rattle.rnix_proof_rows.proofs.AttachTriviaLemmas.{HasTree, tree_behind, HasNoLeadingTrivia, from_no_leading_trivia, no_leading_trivia, HasTrivia}
use Rattle.rnix_proof_rows.proofs.AttachTriviaLemmas.{with_trivia_blank, with_trivia_added, tree_added, with_trivia_branch, with_trivia_fault, with_trivia_last}
use Rattle.rnix_proof_rows.proofs.AttachTriviaLemmas.{with_trivia_leaf, tree_leaf, with_trivia_run}
use Rattle.rnix_grammar.specs.declared.position.Position.TheVariants as p
use Rattle.rnix_grammar.specs.declared.action.Action.TheVariants as a
use Rattle.rnix_grammar.specs.declared.operand_start.OperandStart.TheVariants as b

-- a forest with the trivia after it waits for a tree that begins with the tokens `vs`
pub record IsAwaiting (trees : AnnotatedForest) (ts vs : List Token) : Type 0 where
  pub before : AnnotatedForest
  pub at : List Token
  pub row_is : trees ≡ with_leading true before at
  pub before_has_trivia : HasTrivia before ts at
  pub next : vs ≡ from_item at

-- the forests of all frames wait, each for a tree that begins with the tokens of the frame above it; the lowest begins with all tokens
abbrev pub AreAwaiting : List Token → List Frame → List Token → Type 0
AreAwaiting all [] vs = vs ≡ all
AreAwaiting all (g ∷ gs) vs = (ts : List Token) × (IsAwaiting g.children ts vs × AreAwaiting all gs ts)

-- an operand's forest has a tree
abbrev pub HasOperand : Head → AnnotatedForest → Type 0
HasOperand Operand trees = HasTree (without_trivia trees)
HasOperand head trees = Unit {0}

-- all forests have their trivia, and the innermost one continues with the tokens `us`
abbrev pub HaveTrivia : List Token → List Frame → List Token → Type 0
HaveTrivia all [] us = Unit {0}
HaveTrivia all (f ∷ fs) us = (ts : List Token) × (HasTrivia f.children ts us × (HasOperand f.head f.children × AreAwaiting all fs ts))

-- the forests of a machine have their trivia
abbrev pub AttachesTrivia : List Token → Machine → Type 0
AttachesTrivia all m = HaveTrivia all m.frames m.remaining

-- a forest with trivia, and those after it, waits for the next item
awaits : (trees : AnnotatedForest) (ts us : List Token) → HasTrivia trees ts us → IsAwaiting (with_leading true trees us) ts (from_item us)
awaits trees ts us h = record { before = trees; at = us; row_is = refl; before_has_trivia = h; next = refl }

-- an empty forest waits for the next item
awaits_blank : (ts : List Token) → HasNoLeadingTrivia ts → IsAwaiting blank ts ts
awaits_blank ts b = record { before = blank; at = ts; row_is = sym (no_leading_trivia ts b); before_has_trivia = with_trivia_blank ts; next = sym b }

-- the awaited tree does not begin with trivia
awaited_no_leading_trivia : (trees : AnnotatedForest) (ts vs : List Token) → IsAwaiting trees ts vs → HasNoLeadingTrivia vs
awaited_no_leading_trivia trees ts vs h = subst HasNoLeadingTrivia (sym h.next) (from_no_leading_trivia h.at)

-- a forest that waited has its trivia once the tree has been added
came : (trees g : AnnotatedForest) (ts vs us : List Token) → IsAwaiting trees ts vs → HasTrivia g vs us → HasTree (without_trivia g)
    → HasTrivia (trees ⊕ g) ts us
came trees g ts vs us h j t =
    subst (λ (x : AnnotatedForest). HasTrivia (x ⊕ g) ts us) (sym h.row_is)
    (with_trivia_added h.before g ts h.at us h.before_has_trivia (subst (λ (x : List Token). HasTrivia g x us) h.next j) t)

-- the node that a frame becomes has its trivia
made_with_trivia : (h : Head) (trees : AnnotatedForest) (ts us : List Token) → HasNoLeadingTrivia ts → HasTrivia trees ts us → HasTrivia (made h trees) ts us
made_with_trivia (Node k) trees ts us b h = with_trivia_branch k trees ts us b h
made_with_trivia SecondBind trees ts us b h = with_trivia_fault DoubleBind trees ts us refl b h
made_with_trivia Operand trees ts us b h = h

-- the node that a frame becomes is a tree
made_tree : (h : Head) (trees : AnnotatedForest) → HasOperand h trees → HasTree (without_trivia (made h trees))
made_tree Operand trees t = t
made_tree _ trees t = tt

-- a forest with a tree is an operand's, whatever its head
operand_tree : (h : Head) (trees : AnnotatedForest) → HasTree (without_trivia trees) → HasOperand h trees
operand_tree Operand trees t = t
operand_tree _ trees t = tt

-- an operand is above another frame, so it does not begin with trivia
on_some : (all : List Token) (head : Head) (position : Position) (fs : List Frame) (ts : List Token) → frame_kind position ≡ OperandFrame
    → IsStackedOn head position fs
    → AreAwaiting all fs ts → HasNoLeadingTrivia ts
on_some all head position [] ts e w h = absurd (cc)
on_some all head position (f ∷ fs) ts e w h = awaited_no_leading_trivia f.children h.0 ts h.1.0

-- a frame waits for a tree that begins with the next item
waiting : (all : List Token) (f : Frame) (fs : List Frame) (ts : List Token) → HaveTrivia all (f ∷ fs) ts
    → AreAwaiting all (put f.position (with_leading true f.children ts) f ∷ fs) (from_item ts)
waiting all f fs ts h = (h.0, (awaits f.children h.0 ts h.1.0, h.1.1.1))

-- the forests keep their trivia when a frame is complete
closed_with_trivia : (all : List Token) (f : Frame) (fs : List Frame) (ts : List Token) (n : ℕ) (es : List Fault) → HaveTrivia all (f ∷ fs) ts
    → AttachesTrivia all (closed f fs ts n es)
closed_with_trivia all f [] ts n es h = h
closed_with_trivia all f (g ∷ fs) ts n es h =
    let below = h.1.1.1 in
    let tree : HasTree (without_trivia (made f.head f.children)) = made_tree f.head f.children h.1.1.0 in
    let trees : AnnotatedForest = g.children ⊕ made f.head f.children in (
      below.0,
      (
        came g.children (made f.head f.children) below.0 h.0 ts below.1.0 (made_with_trivia f.head f.children h.0 ts
            (awaited_no_leading_trivia g.children below.0 h.0 below.1.0) h.1.0) tree,
        (
          operand_tree g.head trees (subst HasTree (sym (without_trivia-⊕ g.children (made f.head f.children)))
              (tree_behind (without_trivia g.children) (without_trivia (made f.head f.children)) tree)),
          below.1.1,
        ),
      ),
    )

-- the forests keep their trivia when an entry of a pattern is complete
entry_with_trivia : (all : List Token) (f : Frame) (fs : List Frame) (ts : List Token) (n : ℕ) (es : List Fault) → HaveTrivia all (f ∷ fs) ts
    → AttachesTrivia all (entry_closed true f fs ts n es)
entry_with_trivia all f [] ts n es h = h
entry_with_trivia all f (g ∷ fs) ts n es h = closed_with_trivia all f (g ∷ fs) ts n (es ++ repeated (without_trivia g.children) (without_trivia f.children)) h

-- a second item as a leaf, after a forest that begins with the first, has its trivia
two_with_trivia : (j : SyntaxKind) (trees : AnnotatedForest) (ts : List Token) (x : Token) (us : List Token) → items ts ≡ x ∷ us
    → is_there (head_kind us) ≡ true → HasTrivia trees (from_item ts) (after_item true ts)
    → HasTrivia (with_leading true trees (after_item true ts) ⊕ leaf true j (after_item true ts)) (from_item ts) (after_item true (after_item true ts))
two_with_trivia j trees ts x us i s h =
    let later : items (after_item true ts) ≡ us = items_behind ts ∙ ap tail_of i in
    with_trivia_added trees (leaf true j (after_item true ts)) (from_item ts) (after_item true ts) (after_item true (after_item true ts)) h
    (with_trivia_leaf j (after_item true ts))
    (tree_leaf j (after_item true ts) (subst (λ (z : List Token). is_there (head_kind z) ≡ true) (sym later) s))

-- a node over one leaf has its trivia
one_with_trivia : (j : SyntaxKind) (ts : List Token) → HasTrivia (one_branch j (leaf true j ts)) (from_item ts) (after_item true ts)
one_with_trivia j ts = with_trivia_branch j (leaf true j ts) (from_item ts) (after_item true ts) (from_no_leading_trivia ts) (with_trivia_leaf j ts)

-- the forests keep their trivia when an operand begins that a frame waits for
begun_with_trivia : (all : List Token) (how : OperandStart) (level d : ℕ) (t x : Token) (us : List Token) (f : Frame) (fs : List Frame) (ts : List Token)
    (n : ℕ)
    (es : List Fault)
    → items ts ≡ x ∷ us → BeginsInner (head_kind us) how → AreAwaiting all (put f.position (with_leading true f.children ts) f ∷ fs) (from_item ts)
    → AttachesTrivia all (begun true how level d t f fs ts n es)
begun_with_trivia all (b.Leaf j) level d t x us f fs ts n es i s w = (from_item ts, (one_with_trivia j ts, (tt, w)))
begun_with_trivia all (b.Node j position max_bp) level d t x us f fs ts n es i s w =
    (from_item ts, (with_trivia_leaf j ts, (tt, (from_item ts, (awaits_blank (from_item ts) (from_no_leading_trivia ts), w)))))
begun_with_trivia all b.LegacyLet level d t x us f fs ts n es i s w = (
  from_item ts,
  (
    two_with_trivia NODE_LEGACY_LET (leaf true NODE_LEGACY_LET ts) ts x us i s (with_trivia_leaf NODE_LEGACY_LET ts),
    (tt, (from_item ts, (awaits_blank (from_item ts) (from_no_leading_trivia ts), w))),
  ),
)
begun_with_trivia all b.NameLambda level d t x us f fs ts n es i s w = (
  from_item ts,
  (
    with_trivia_branch NODE_IDENT_PARAM (one_branch NODE_IDENT (leaf true NODE_IDENT ts)) (from_item ts) (after_item true ts) (from_no_leading_trivia ts)
        (one_with_trivia NODE_IDENT ts),
    (tt, (from_item ts, (awaits_blank (from_item ts) (from_no_leading_trivia ts), w))),
  ),
)
begun_with_trivia all b.BoundLambda level d t x us f fs ts n es i s w =
    let name : AnnotatedForest = one_branch NODE_IDENT (leaf true NODE_IDENT ts) in
    let trees : AnnotatedForest = with_leading true name (after_item true ts) ⊕ leaf true NODE_PAT_BIND (after_item true ts) in
    let free : IsAwaiting blank (from_item ts) (from_item ts) = awaits_blank (from_item ts) (from_no_leading_trivia ts) in (
      from_item ts,
      (
        with_trivia_branch NODE_PAT_BIND trees (from_item ts) (after_item true (after_item true ts)) (from_no_leading_trivia ts)
            (two_with_trivia NODE_PAT_BIND name ts x us i s (one_with_trivia NODE_IDENT ts)),
        (tt, (from_item ts, (free, (from_item ts, (free, w))))),
      ),
    )
begun_with_trivia all b.PatternLambda level d t x us f fs ts n es i s w =
    let free : IsAwaiting blank (from_item ts) (from_item ts) = awaits_blank (from_item ts) (from_no_leading_trivia ts) in
    (from_item ts, (with_trivia_leaf NODE_PATTERN ts, (tt, (from_item ts, (free, (from_item ts, (free, w)))))))
begun_with_trivia all b.Stray level d t x us f fs ts n es i s w = (
  from_item ts,
  (
    with_trivia_fault Stray (leaf true NODE_ERROR ts) (from_item ts) (after_item true ts) refl (from_no_leading_trivia ts)
        (with_trivia_leaf NODE_ERROR ts),
    (tt, w),
  ),
)

-- the forests keep their trivia when an operand of a level is read, or is missing at the end of the text
operand_with_trivia : (all : List Token) (level d : ℕ) (f : Frame) (fs : List Frame) (ts xs : List Token) (n : ℕ) (es : List Fault)
    → items ts ≡ xs → HaveTrivia all (f ∷ fs) ts → AttachesTrivia all (operand_on true level d f fs ts xs n es)
operand_with_trivia all level d f fs ts [] n es i h = h
operand_with_trivia all level d f fs ts (t ∷ us) n es i h =
    begun_with_trivia all (operand_start_of level t.kind t.text (head_kind us) (second_kind us)) level d t t us f fs ts n es i
    (operand_start_inner level t.kind t.text (head_kind us) (second_kind us)) (waiting all f fs ts h)

-- the forests keep their trivia when everything left is nested too deep
limited_with_trivia : (all : List Token) (f : Frame) (fs : List Frame) (ts : List Token) (n : ℕ) (es : List Fault) → HaveTrivia all (f ∷ fs) ts
    → AttachesTrivia all (limited true f fs ts n es)
limited_with_trivia all f fs ts n es h =
    let run : List Token = items ts in
    let node : AnnotatedForest = one_fault TooDeep (run_leaves true run ts) in
    let remaining : List Token = run_rest true run ts in
    let last : HasTrivia (with_leading true node remaining) (from_item ts) (from_item remaining) =
    with_trivia_last (run_leaves true run ts) (from_item ts) remaining (from_no_leading_trivia ts) (with_trivia_run run ts (dropped run run) (all_prefix run))
    in
    let two : HasTrivia (with_leading true f.children ts ⊕ with_leading true node remaining) h.0 (from_item remaining) =
    with_trivia_added f.children (with_leading true node remaining) h.0 ts (from_item remaining) h.1.0 last tt in
    let same : with_leading true (with_leading true f.children ts ⊕ node) remaining ≡ with_leading true f.children ts ⊕ with_leading true node remaining =
    ⊕-assoc (with_leading true f.children ts) node (trivia_before remaining) in
    let tree : HasTree (without_trivia (with_leading true f.children ts ⊕ with_leading true node remaining)) =
    tree_added f.children ts (with_leading true node remaining) tt in (
      h.0,
      (
        subst (λ (x : AnnotatedForest). HasTrivia x h.0 (from_item remaining)) (sym same) two,
        (
          operand_tree f.head (with_leading true (with_leading true f.children ts ⊕ node) remaining)
              (subst (λ (x : AnnotatedForest). HasTree (without_trivia x)) (sym same) tree),
          h.1.1.1,
        ),
      ),
    )

-- the same for an operand that is counted or not
reading_with_trivia : (all : List Token) (level : ℕ) (counted : Bool) (f : Frame) (fs : List Frame) (ts : List Token) (n : ℕ) (es : List Fault)
    → HaveTrivia all (f ∷ fs) ts → AttachesTrivia all (reading true level counted f fs ts n es)
reading_with_trivia all level true f fs ts n es h =
    elim (nat_le depth_limit f.depth) as (λ x. AttachesTrivia all (if x then limited true f fs ts n es else operand_on true level (suc f.depth) f fs ts
    (items ts) n es))
    [ true ↦ limited_with_trivia all f fs ts n es h | false ↦ operand_with_trivia all level (suc f.depth) f fs ts (items ts) n es refl h ]
reading_with_trivia all level false f fs ts n es h = operand_with_trivia all level f.depth f fs ts (items ts) n es refl h

-- a run of items in an error node, after a forest, has its trivia
run_with_trivia : (until : ExpectedSet) (trees : AnnotatedForest) (vs ts : List Token) → HasTrivia trees vs ts
    → HasTrivia (with_leading true trees ts ⊕ one_fault (Unwanted until) (run_leaves true (run_of until (items ts)) ts)) vs
    (run_rest true (run_of until (items ts)) ts)
run_with_trivia until trees vs ts h =
    let run : List Token = run_of until (items ts) in
    with_trivia_added trees (one_fault (Unwanted until) (run_leaves true run ts)) vs ts (run_rest true run ts) h
    (with_trivia_fault (Unwanted until) (run_leaves true run ts) (from_item ts) (run_rest true run ts) refl (from_no_leading_trivia ts)
    (with_trivia_run run ts (dropped run (items ts)) (run_prefix until (items ts)))) tt

-- a leaf in a node, after a forest, has its trivia
name_with_trivia : (j : SyntaxKind) (trees : AnnotatedForest) (vs ts : List Token) → HasTrivia trees vs ts
    → HasTrivia (with_leading true trees ts ⊕ one_branch j (leaf true j ts)) vs (after_item true ts)
name_with_trivia j trees vs ts h = with_trivia_added trees (one_branch j (leaf true j ts)) vs ts (after_item true ts) h (one_with_trivia j ts) tt

-- the next item, after a forest, has its trivia
next_with_trivia : (k : SyntaxKind) (trees : AnnotatedForest) (vs ts : List Token) → is_there (head_kind (items ts)) ≡ true → HasTrivia trees vs ts
    → HasTrivia (with_leading true trees ts ⊕ leaf true k ts) vs (after_item true ts)
next_with_trivia k trees vs ts f h = with_trivia_added trees (leaf true k ts) vs ts (after_item true ts) h (with_trivia_leaf k ts) (tree_leaf k ts f)

-- the forests keep their trivia when a tree is added to the innermost one
grown : (all : List Token) (f : Frame) (fs : List Frame) (ts us : List Token) (g : AnnotatedForest) → HasTree (without_trivia g)
    → ((vs : List Token) → HasTrivia f.children vs ts → HasTrivia (with_leading true f.children ts ⊕ g) vs us)
    → HaveTrivia all (f ∷ fs) ts → HaveTrivia all (put f.position (with_leading true f.children ts ⊕ g) f ∷ fs) us
grown all f fs ts us g t d h = (h.0, (d h.0 h.1.0, (operand_tree f.head (with_leading true f.children ts ⊕ g) (tree_added f.children ts g t), h.1.1.1)))

-- the forests keep their trivia when an allowed action is taken
perform_with_trivia : (all : List Token) (action : Action) (f : Frame) (fs : List Frame) (ts : List Token) (n : ℕ) (es : List Fault)
    → Allowed f.position (head_kind (items ts)) action → IsStackedOn f.head f.position fs → HaveTrivia all (f ∷ fs) ts
    → AttachesTrivia all (perform true action f fs ts n es)
perform_with_trivia all a.Close f fs ts n es al w h = closed_with_trivia all f fs ts n es h
perform_with_trivia all a.ClosePattern f fs ts n es al w h = closed_with_trivia all f fs ts n es h
perform_with_trivia all a.CloseEntry f fs ts n es al w h = entry_with_trivia all f fs ts n es h
perform_with_trivia all a.CloseDoubleBind f fs ts n es al w h = closed_with_trivia all f fs ts n _ h
perform_with_trivia all a.Finish f fs ts n es al w h = h
perform_with_trivia all a.EndOperand f fs ts n es al w h = closed_with_trivia all f fs ts n es h
perform_with_trivia all a.Extra f fs ts n es al w h =
    let run : List Token = items ts in
    let node = with_trivia_fault Extra (run_leaves true run ts) (from_item ts) (run_rest true run ts) refl (from_no_leading_trivia ts)
    (with_trivia_run run ts (dropped run run) (all_prefix run)) in
    grown all f fs ts (run_rest true run ts) (one_fault Extra (run_leaves true run ts)) tt
    (λ vs d. with_trivia_added f.children (one_fault Extra (run_leaves true run ts)) vs ts (run_rest true run ts) d node tt) h
perform_with_trivia all (a.Take after) f fs ts n es al w h =
    grown all f fs ts (after_item true ts) (leaf true (kind_of f.head) ts) (tree_leaf (kind_of f.head) ts al.0)
    (λ vs d. next_with_trivia (kind_of f.head) f.children vs ts al.0 d) h
perform_with_trivia all (a.Miss after) f fs ts n es al w h = h
perform_with_trivia all (a.MissWanted until after) f fs ts n es al w h = h
perform_with_trivia all (a.Run until after) f fs ts n es al w h =
    grown all f fs ts (run_rest true (run_of until (items ts)) ts) (one_fault (Unwanted until) (run_leaves true (run_of until (items ts)) ts)) tt
    (λ vs d. run_with_trivia until f.children vs ts d) h
perform_with_trivia all (a.Leaf j after) f fs ts n es al w h =
    grown all f fs ts (after_item true ts) (one_branch j (leaf true j ts)) tt (λ vs d. name_with_trivia j f.children vs ts d) h
perform_with_trivia all (a.Open j inside after) f fs ts n es al w h = (from_item ts, (with_trivia_leaf j ts, (tt, waiting all f fs ts h)))
perform_with_trivia all (a.OpenEmpty j inside after) f fs ts n es al w h = (from_item ts, (with_trivia_blank (from_item ts), (tt, waiting all f fs ts h)))
perform_with_trivia all (a.Entry after) f fs ts n es al w h = (from_item ts, (one_with_trivia NODE_IDENT ts, (tt, waiting all f fs ts h)))
perform_with_trivia all (a.DoubleBind after) f fs ts n es al w h = (from_item ts, (with_trivia_leaf NODE_ERROR ts, (tt, waiting all f fs ts h)))
perform_with_trivia all (a.Read level counted after) f fs ts n es al w h = reading_with_trivia all level counted (put (p.InRow after) f.children f) fs ts n es h
perform_with_trivia all (a.Wrap j inside max_bp) f fs ts n es al w h =
    let free : IsAwaiting blank h.0 h.0 = awaits_blank h.0 (on_some all f.head f.position fs h.0 al.1 w h.1.1.1) in
    (h.0, (next_with_trivia j f.children h.0 ts al.0 h.1.0, (tt, (h.0, (free, h.1.1.1)))))
perform_with_trivia all a.Apply f fs ts n es al w h =
    let free : IsAwaiting blank h.0 h.0 = awaits_blank h.0 (on_some all f.head f.position fs h.0 al.1 w h.1.1.1) in
    reading_with_trivia all 16 false (opened (Node NODE_APPLY) (p.InRow APPLIED) f.depth f.children)
    (opened Operand (p.AfterOperand (min_bp_of f.position) 15) f.depth blank ∷ fs) ts n es (h.0, (h.1.0, (tt, (h.0, (free, h.1.1.1)))))
perform_with_trivia all a.ApplyOr f fs ts n es al w h =
    let inside : AnnotatedForest = with_leading true f.children ts ⊕ one_branch NODE_IDENT (leaf true NODE_IDENT ts) in (
      h.0,
      (
        with_trivia_branch NODE_APPLY inside h.0 (after_item true ts) (on_some all f.head f.position fs h.0 al.1 w h.1.1.1)
            (name_with_trivia NODE_IDENT f.children h.0 ts h.1.0),
        (tt, h.1.1.1),
      ),
    )

-- the forests keep their trivia in each step
pub step_with_trivia : (all : List Token) (m : Machine) → AreStacked m.frames → AttachesTrivia all m → AttachesTrivia all (step true m)
step_with_trivia all m k h = by_frames m.frames k h
  where
    by_frames : (fs : List Frame) → AreStacked fs → HaveTrivia all fs m.remaining → AttachesTrivia all (step_on true fs m.remaining m.prev_end m.faults)
    by_frames [] k h = tt
    by_frames (f ∷ fs) k h =
        let next : Option SyntaxKind = head_kind (items m.remaining) in
        let near : Bool = touches m.prev_end (items m.remaining) in
        perform_with_trivia all (action_at f.position next near) f fs m.remaining m.prev_end m.faults (allowed f.position next near) k h

-- the forests keep their trivia in a run of steps
pub runs_with_trivia : (all : List Token) {m n : Machine} → Runs true m n → AreStacked m.frames → AttachesTrivia all m → AttachesTrivia all n
runs_with_trivia all rest k h = h
runs_with_trivia all (further {m = m} r) k h = runs_with_trivia all r (step_stacked true m k) (step_with_trivia all m k h)

-- the root's forest has its trivia, and the tokens that are left remain after its items
pub root_with_trivia : (ts : List Token) {m : Machine} (f : Frame) → Runs true (initial_machine ts) m → m.frames ≡ f ∷ [] → HasTrivia f.children ts m.remaining
root_with_trivia ts {m = m} f r e =
    let all : HaveTrivia ts (f ∷ []) m.remaining =
    subst (λ (x : List Frame). HaveTrivia ts x m.remaining) e (runs_with_trivia ts r (initial_stacked ts) (ts, (with_trivia_blank ts, (tt, refl)))) in
    subst (λ (x : List Token). HasTrivia f.children x m.remaining) all.1.1.1 all.1.0

-- the trees of a whole text have the trivia that their items and its tokens determine
pub root_row_with_trivia : (ts : List Token) (m : Machine) (f : Frame) → Runs true (initial_machine ts) m → m.frames ≡ f ∷ [] → items m.remaining ≡ []
    → f.children ⊕ trivia_before m.remaining ≡ with_all_trivia (without_trivia (f.children ⊕ trivia_before m.remaining)) ts
root_row_with_trivia ts m f r e z =
    let w : HasTrivia f.children ts m.remaining = root_with_trivia ts f r e in
    sym (ap (λ x. with_all_trivia x ts) (with_leading_without_trivia f.children m.remaining)
    ∙ ap (λ x. x ⊕ trivia_before (remaining_after (without_trivia f.children) ts)) w.same
    ∙ ap (λ x. f.children ⊕ trivia_before x) w.remaining)
