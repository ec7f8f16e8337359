-- The steps read one more tree of a row, and then the rest of the row.
use Rattle.std.proofs.Common.{◌≡◌, ℕ, Bool, true, false, List, [], ◌∷◌, ◌++◌, refl, ap, sym, ◌∙◌, subst, append-nil, append_assoc, suc, ◌<◌, ◌≤◌, Some, None}
use Rattle.{std.proofs.{Common.{arith, if◌then◌else◌, nat_le}, lemmas.Bool.Decides.nat_tests}, rnix_kinds.specs.declared.kinds.SyntaxKind.SyntaxKind}
use Rattle.rnix_kinds.specs.declared.kinds.SyntaxKind.TheVariants.{NODE_PAT_ENTRY, NODE_ERROR, NODE_ROOT}
use Rattle.rnix_grammar.specs.{declared.{position.Position.Position, action.Action.Action}, FirstKinds.BeginsAs, Fault.Fault, Actions.action_at, Rules.{Row, IsExpected, after}}
use Rattle.rnix_grammar.specs.{Rules.{counts, expects_end, missing}, Reads.{IsOver, IsRoom, deeper}, AnnotatedForest.{Token, DoubleBind, AnnotatedForest}}
use Rattle.rnix_grammar.specs.AnnotatedForest.{blank, ◌⊕◌, one_branch, one_fault, tokens_in, head_kind, end_from, touches, one_token, leaf_kind}
use Rattle.{rnix_grammar.specs.{Reports.{report, repeats}, Tables.depth_limit, Operands.is_continued, TreeLevels.row_level}, rnix_proof_lemmas.specs.Machine.Head}
use Rattle.rnix_proof_lemmas.specs.Machine.{Node, SecondBind, Operand, Frame, machine, put, opened, perform, step, Runs, kind_of, limited, operand_on, dropped}
use Rattle.rnix_proof_lemmas.{specs.Machine.{rest as here}, proofs.{Basics.true_is_not_false, EveryKind.same, RestAt.rest_at}}
use Rattle.rnix_proof_lemmas.proofs.{AnnotatedForestLemmas.{⊕-assoc, ⊕-blank}, TokenEnds.end_behind, OpenHeads.is_open, ViableRows.end_viable}
use Rattle.{rnix_proof_lemmas.proofs.ReachableRows.is_viable, rnix_proof_uniqueness.proofs.StepReads.{runs_on, runs_to, step_to, ReadsRow, runs_from}}
use Rattle.rnix_proof_uniqueness.proofs.{StepReads.{ReadsTree, IsOperandRead, ReadsTo}, OneAction.{is_at, is_closed, is_ending, is_inner, LeadsTo, done_at}}
use Rattle.rnix_proof_uniqueness.proofs.{OneAction.{goal, next_is}, PositionActions.{ends_at, Misses, misses_at, takes_at}, ReadingHeights.{Complete, AllRows}}
use Rattle.rnix_proof_uniqueness.proofs.{ReadingHeights.IsLower, OperandBegins.settles}
use Rattle.rnix_grammar.specs.declared.action.Action.TheVariants as a
use Rattle.rnix_grammar.specs.declared.position.Position.TheVariants as p

-- the steps read the rest of a row, from a position to one at which the row may end
pub record ReadOn (k : SyntaxKind) (d n : ℕ) (x : Position) (b : AnnotatedForest) (us : List Token) (f : AnnotatedForest) (es : List Fault) : Type 0 where
  pub position : Position
  pub row : ReadsRow k d n x position b us f es
  pub here : is_at k position ≡ true
  pub over : IsOver (rest_at position) (end_from n (tokens_in f)) us

-- so they do for each lower reading
pub read_on : {m : ℕ} {k : SyntaxKind} {d n : ℕ} {b : AnnotatedForest} {us : List Token} {f : AnnotatedForest} {es : List Fault} → AllRows m → (x : Position)
    → is_at k x ≡ true → Complete m k d n (rest_at x) b us f es → ReadOn k d n x b us f es
read_on {m} {k} {d} {n} {b} {us} {f} {es} rows x i w =
    let r = rows k d n x w.last b us f es i w.part (end_viable w.last w.over.0) in
    record { position = r.position; row = r.row; here = r.here; over = subst (λ (s : Row). IsOver s (end_from n (tokens_in f)) us) (sym r.is) w.over }

-- a node that is neither an entry of a pattern nor an error node reports nothing when it closes
pub quiet : (k : SyntaxKind) (b c : AnnotatedForest) → is_closed k ≡ true → repeats k b c ≡ []
quiet NODE_PAT_ENTRY b c e = absurd (true_is_not_false (sym e))
quiet _ b c e = refl

-- the end of a row completes its node
closes_by : (k : SyntaxKind) (act : Action) → is_ending k act ≡ true
    → (d n : ℕ) (x : Position) (c : AnnotatedForest) (F : Frame) (fs : List Frame) (ts : List Token) (gs : List Fault)
    → is_inner k ≡ true
    → perform false act (opened (Node k) x d c) (F ∷ fs) ts n gs
    ≡ machine (put F.position (F.children ⊕ one_branch k c) F ∷ fs) ts n (gs ++ repeats k F.children c)
closes_by k a.Close i d n x c F fs ts gs h =
    ap (λ z. machine (put F.position (F.children ⊕ one_branch k c) F ∷ fs) ts n z) (sym (append-nil gs) ∙ ap (λ z. gs ++ z) (sym (quiet k F.children c i)))
closes_by k a.ClosePattern i d n x c F fs ts gs h =
    ap (λ z. machine (put F.position (F.children ⊕ one_branch k c) F ∷ fs) ts n z) (sym (append-nil gs) ∙ ap (λ z. gs ++ z) (sym (quiet k F.children c i)))
closes_by k a.CloseEntry i d n x c F fs ts gs h =
    ap (λ j. machine (put F.position (F.children ⊕ one_branch k c) F ∷ fs) ts n (gs ++ repeats j F.children c)) (same NODE_PAT_ENTRY k i)
closes_by k a.CloseDoubleBind i d n x c F fs ts gs h = absurd (true_is_not_false (sym h ∙ ap is_inner (sym (same NODE_ERROR k i))))
closes_by k _ i d n x c F fs ts gs h = absurd (true_is_not_false (sym h ∙ ap is_inner (sym (same NODE_ROOT k i))))

-- a node is complete when its row is read to the end
pub node_read : {k : SyntaxKind} {d m : ℕ} {x : Position} {g : AnnotatedForest} {vs : List Token} {f : AnnotatedForest} {ds : List Fault}
    → ReadOn k d m x g vs f ds
    → is_inner k ≡ true → (h : Head) (y : Position) (e : ℕ) (b : AnnotatedForest) (fs : List Frame) (gs : List Fault)
    → Runs false (machine (opened (Node k) x d g ∷ (opened h y e b ∷ fs)) (tokens_in f ++ vs) m gs)
    (machine (opened h y e (b ⊕ one_branch k (g ⊕ f)) ∷ fs) vs (end_from m (tokens_in f)) (gs ++ (ds ++ repeats k b (g ⊕ f))))
node_read {k} {d} {m} {x} {g} {vs} {f} {ds} r i h y e b fs gs =
    let n : ℕ = end_from m (tokens_in f) in
    runs_on (r.row (Node k) (opened h y e b ∷ fs) gs refl refl)
    (step_to (closes_by k (action_at r.position (head_kind vs) (touches n vs)) (ends_at k r.position n vs r.here r.over) d n r.position (g ⊕ f)
    (opened h y e b) fs vs (gs ++ ds) i)
    (runs_to (ap (λ q. machine (opened h y e (b ⊕ one_branch k (g ⊕ f)) ∷ fs) vs n q) (append_assoc gs ds (repeats k b (g ⊕ f)))) here))

-- the same for a node that is an operand
pub operand_read : {k : SyntaxKind} {d m : ℕ} {x : Position} {g : AnnotatedForest} {vs : List Token} {f : AnnotatedForest} {ds : List Fault}
    → ReadOn k d m x g vs f ds
    → is_inner k ≡ true → is_closed k ≡ true → (y : Position) (e : ℕ) (fs : List Frame) (gs : List Fault)
    → Runs false (machine (opened (Node k) x d g ∷ (opened Operand y e blank ∷ fs)) (tokens_in f ++ vs) m gs)
    (machine (opened Operand y e (one_branch k (g ⊕ f)) ∷ fs) vs (end_from m (tokens_in f)) (gs ++ ds))
operand_read {k} {d} {m} {x} {g} {vs} {f} {ds} r i q y e fs gs =
    runs_to (ap (λ z. machine (opened Operand y e (one_branch k (g ⊕ f)) ∷ fs) vs (end_from m (tokens_in f)) (gs ++ z))
    (ap (λ z. ds ++ z) (quiet k blank (g ⊕ f) q) ∙ append-nil ds))
    (node_read r i Operand y e blank fs gs)

-- the end of a second name completes it
double_bind_by : (act : Action) → is_ending NODE_ERROR act ≡ true
    → (x : Position) (d n : ℕ) (c : AnnotatedForest) (F : Frame) (fs : List Frame) (ts : List Token) (gs : List Fault)
    → perform false act (opened SecondBind x d c) (F ∷ fs) ts n gs ≡ machine (put F.position (F.children ⊕ one_fault DoubleBind c) F ∷ fs) ts n
    (gs ++ report DoubleBind (tokens_in c) ∷ [])
double_bind_by a.CloseDoubleBind i x d n c F fs ts gs = refl
double_bind_by _ i x d n c F fs ts gs = absurd (true_is_not_false (sym i))

-- a second name whose row ends is complete
pub closes_second : (x : Position) (d n : ℕ) (c : AnnotatedForest) (F : Frame) (fs : List Frame) (ts : List Token) (gs : List Fault)
    → is_at NODE_ERROR x ≡ true → IsOver (rest_at x) n ts
    → step false (machine (opened SecondBind x d c ∷ (F ∷ fs)) ts n gs) ≡ machine (put F.position (F.children ⊕ one_fault DoubleBind c) F ∷ fs) ts n
    (gs ++ report DoubleBind (tokens_in c) ∷ [])
closes_second x d n c F fs ts gs h o = double_bind_by (action_at x (head_kind ts) (touches n ts)) (ends_at NODE_ERROR x n ts h o) x d n c F fs ts gs

-- The steps read one more tree over some items, from a position of a row to another.
abbrev pub ReadsOne : SyntaxKind → ℕ → ℕ → Position → Position → AnnotatedForest → List Token → List Token → AnnotatedForest → List Fault → Type 0
ReadsOne k d n x y b ts vs w ds =
    (h : Head) (fs : List Frame) (gs : List Fault) → is_open h ≡ true → kind_of h ≡ k
    → Runs false (machine (opened h x d b ∷ fs) (ts ++ vs) n gs) (machine (opened h y d (b ⊕ w) ∷ fs) vs (end_from n ts) (gs ++ ds))

-- The steps read one more tree, to some position with this rest of the row.
pub record OneTo (k : SyntaxKind) (d n : ℕ) (x : Position) (to : Row) (b : AnnotatedForest) (ts vs : List Token) (w : AnnotatedForest)
    (ds : List Fault) : Type 0 where
  pub position : Position
  pub is : rest_at position ≡ to
  pub here : is_at k position ≡ true
  pub one : ReadsOne k d n x position b ts vs w ds

-- this holds if the action at the position leads there
pub goes_one : {k : SyntaxKind} {d n : ℕ} {x : Position} {to : Row} {b w : AnnotatedForest} {ts vs : List Token} {ds : List Fault} (f : ℕ → Action)
    → LeadsTo k to f (action_at x (head_kind (ts ++ vs)) (touches n (ts ++ vs)))
    → ((y : ℕ) (h : Head) (fs : List Frame) (gs : List Fault) → kind_of h ≡ k
    → Runs false (perform false (f y) (opened h x d b) fs (ts ++ vs) n gs) (machine (opened h (p.InRow y) d (b ⊕ w) ∷ fs) vs (end_from n ts) (gs ++ ds)))
    → OneTo k d n x to b ts vs w ds
goes_one {d = d} {n} {x} {b = b} {ts = ts} {vs} f g one =
    let action : Action = action_at x (head_kind (ts ++ vs)) (touches n (ts ++ vs)) in
    record {
      position = p.InRow (goal action);
      is = g.1;
      here = g.2;
      one = λ h fs gs o e. step_to (ap (λ z. perform false z (opened h x d b) fs (ts ++ vs) n gs) g.0) (one (goal action) h fs gs e);
    }

-- the steps read an empty rest of a row
pub row_end : (k : SyntaxKind) (d n : ℕ) (x : Position) (s : Row) (b : AnnotatedForest) (us : List Token) → rest_at x ≡ s → is_at k x ≡ true
    → ReadsTo k d n x s b us blank []
row_end k d n x s b us i e = record { position = x; is = i; here = e; row = λ h fs gs o e. runs_to (cc (⊕-blank b, append-nil gs)) here }

-- the steps read a row if they read its first tree and the rest
pub row_on : {m : ℕ} {k : SyntaxKind} {d n : ℕ} {x : Position} {to s : Row} {b : AnnotatedForest} {ts us : List Token} {w f : AnnotatedForest}
    {ds es : List Fault} → AllRows m
    → (o : OneTo k d n x to b ts (tokens_in f ++ us) w ds) → IsLower m k d (end_from n ts) to s (b ⊕ w) us f es → is_viable s ≡ true → tokens_in (w ⊕ f) ≡ ts
    ++ tokens_in f
    → ReadsTo k d n x s b us (w ⊕ f) (ds ++ es)
row_on {m} {k} {d} {n} {x} {to} {s} {b} {ts} {us} {w} {f} {ds} {es} rows o h l t = record { position = r.position; is = r.is; here = r.here; row = row }
  where
    r : ReadsTo k d (end_from n ts) o.position s (b ⊕ w) us f es
    r = rows k d (end_from n ts) o.position s (b ⊕ w) us f es o.here (subst (λ q. IsLower m k d (end_from n ts) q s (b ⊕ w) us f es) (sym o.is) h) l

    row : ReadsRow k d n x r.position b us (w ⊕ f) (ds ++ es)
    row h fs gs i e =
        runs_from (cc (t, append_assoc ts (tokens_in f) us))
        (runs_on (o.one h fs gs i e)
        (runs_to (cc (t, ⊕-assoc b w f, end_behind n ts (tokens_in f), append_assoc gs ds es)) (r.row h fs (gs ++ ds) i e)))

-- the steps read a leaf
pub one_leaf : {q : SyntaxKind} {d n : ℕ} {x : Position} {b : AnnotatedForest} {t : Token} {vs : List Token} → is_at q x ≡ true
    → IsExpected (rest_at x) n (t ∷ vs) true
    → is_viable (after (rest_at x) (leaf_kind q t)) ≡ true → OneTo q d n x (after (rest_at x) (leaf_kind q t)) b (t ∷ []) vs (one_token (leaf_kind q t) t) []
one_leaf {q} {d} {n} {x} {b} {t} {vs} l o g =
    goes_one a.Take (takes_at (done_at q x (touches n (t ∷ vs)) (Some t.kind) l) (next_is q x n (t ∷ vs) true l o) g)
    (λ y h fs gs e. runs_to (cc (e, append-nil gs)) here)

-- the steps read a missing part at the end of the text
pub row_lost : {m : ℕ} {k : SyntaxKind} {d n : ℕ} {x : Position} {r s : Row} {b : AnnotatedForest} {us : List Token} {f : AnnotatedForest} {e : Fault}
    {es : List Fault} → AllRows m
    → is_at k x ≡ true → us ≡ [] → tokens_in f ≡ [] → missing (rest_at x) ≡ Some (e, r) → (expects_end (rest_at x) ≡ false → IsRoom (rest_at x) d)
    → IsLower m k d n r s b us f es → is_viable s ≡ true → ReadsTo k d n x s b us f (e ∷ es)
row_lost {m} {k} {d} {n} {x} {r} {s} {b} {us} {f} {e} {es} rows at u v l room h viable = record { position = q.position; is = q.is; here = q.here; row = row }
  where
    lost : Misses k r d e (action_at x None false)
    lost = misses_at (done_at k x false None at) l room

    z : Position
    z = p.InRow (goal (action_at x None false))

    q : ReadsTo k d n z s b us f es
    q = rows k d n z s b us f es lost.here (subst (λ q. IsLower m k d n q s b us f es) (sym lost.rest) h) viable

    row : ReadsRow k d n x q.position b us f (e ∷ es)
    row h fs gs o w =
        runs_on
        (subst (λ (q : List Token). Runs false (machine (opened h x d b ∷ fs) q n gs) (machine (opened h z d b ∷ fs) q n (gs ++ e ∷ [])))
        (sym (ap (λ q. q ++ us) v ∙ u))
        (step_to (lost.steps h x n b fs gs) here))
        (runs_to (cc (append_assoc gs (e ∷ []) es)) (q.row h fs (gs ++ e ∷ []) o w))

-- the action for an operand reads it, if it is within the limit
reads_counted : (level : ℕ) (counted : Bool) (x : Position) (y d n : ℕ) (b : AnnotatedForest) (h : Head) (fs : List Frame) (ts : List Token) (gs : List Fault)
    → (counted ≡ true → d < depth_limit)
    → perform false (a.Read level counted y) (opened h x d b) fs ts n gs ≡ operand_on false level (if counted then suc d else d)
    (opened h (p.InRow y) d b) fs ts ts n gs
reads_counted level false x y d n b h fs ts gs r = refl
reads_counted level true x y d n b h fs ts gs r = by (nat_le depth_limit d) refl
  where
    by : (w : Bool) → nat_le depth_limit d ≡ w
        → (if w then limited false (opened h (p.InRow y) d b) fs ts n gs else operand_on false level (suc d) (opened h (p.InRow y) d b) fs ts ts n gs)
        ≡ operand_on false level (suc d) (opened h (p.InRow y) d b) fs ts ts n gs
    by true e = absurd (grind (arith, nat_tests, e, r refl))
    by false e = refl

-- the steps read an operand
pub one_operand : {d n level : ℕ} {w : AnnotatedForest} {ts vs : List Token} {ds : List Fault} (x : Position) (b : AnnotatedForest) → IsRoom (rest_at x) d
    → level ≤ row_level w
    → BeginsAs level w (ts ++ vs) → is_continued level w vs ≡ false → ReadsTree (deeper (rest_at x) d) n ts w vs ds
    → (y : ℕ) (h : Head) (fs : List Frame) (gs : List Fault)
    → Runs false (perform false (a.Read level (counts (rest_at x)) y) (opened h x d b) fs (ts ++ vs) n gs)
    (machine (opened h (p.InRow y) d (b ⊕ w) ∷ fs) vs (end_from n ts) (gs ++ ds))
one_operand {d} {n} {level} {w} {ts} {vs} {ds} x b room min_bp begun over tree y h fs gs =
    let f : Frame = opened h (p.InRow y) d b in
    let r : IsOperandRead level (deeper (rest_at x) d) n ts w vs ds f fs gs = tree level f fs gs min_bp begun in
    runs_from (reads_counted level (counts (rest_at x)) x y d n b h fs (ts ++ vs) gs room)
    (runs_on r.runs
    (step_to (ap (λ z. perform false z (opened Operand (p.AfterOperand level r.max_bp) (deeper (rest_at x) d) w) (f ∷ fs) vs (end_from n ts) (gs ++ ds))
    (settles level r.max_bp w vs r.followed over)) here))

-- the tokens after a run
pub dropped_front : (ts vs : List Token) → dropped ts (ts ++ vs) ≡ vs
dropped_front [] vs = refl
dropped_front (t ∷ ts) vs = dropped_front ts vs

-- the action for an operand beyond the limit reads none
pub too_far : (level d n y : ℕ) (x : Position) (h : Head) (b : AnnotatedForest) (fs : List Frame) (ts : List Token) (gs : List Fault) → d ≡ depth_limit
    → perform false (a.Read level true y) (opened h x d b) fs ts n gs ≡ limited false (opened h (p.InRow y) d b) fs ts n gs
too_far level d n y x h b fs ts gs r = by (nat_le depth_limit d) refl
  where
    f : Frame
    f = opened h (p.InRow y) d b

    by : (w : Bool) → nat_le depth_limit d ≡ w → (if w then limited false f fs ts n gs else operand_on false level
        (suc d) f fs ts ts n gs) ≡ limited false f fs ts n gs
    by true e = refl
    by false e = absurd (grind (arith, nat_tests, e, r))
