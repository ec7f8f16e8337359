-- Each step at an open node or a second name preserves what is known of the frames. If the text can be read after the step, it can be read before it.
use Rattle.std.proofs.Common.{◌≡◌, inl, ℕ, suc, ◌≤◌, ◌<◌, Bool, true, false, List, [], ◌∷◌, ◌++◌, Option, Some, refl, ap, sym, ◌∙◌, subst, append_assoc}
use Rattle.std.proofs.{Common.{append-nil, arith, if◌then◌else◌, nat_le, ◌&&◌}, lemmas.Bool.{and_parts, Decides.nat_tests}}
use Rattle.rnix_kinds.specs.declared.kinds.SyntaxKind.{SyntaxKind, TheVariants.{NODE_IDENT, NODE_PAT_ENTRY, NODE_ERROR, NODE_LITERAL, TOKEN_AT}}
use Rattle.rnix_grammar.specs.declared.{position.Position.Position, expected_set.ExpectedSet.ExpectedSet, action.Action.Action}
use Rattle.rnix_grammar.specs.{declared.{slot_table.TheConstants.{PAT_ENTRY, SECOND_BIND}, rules.Part.TheVariants.{BoundAlready, TextEnd}}, Fault.Fault}
use Rattle.rnix_grammar.specs.{Fault.{unexpected_eof, unexpected_eof_wanted}, Tables.{depth_limit, is_wanted, wanted_kinds}, Reports.{report, repeats}}
use Rattle.rnix_grammar.specs.{Reports.repeated, UnwantedRun.run_of, Actions.action_at, AnnotatedForest.{Token, Note, Unwanted, Extra, DoubleBind, TooDeep}}
use Rattle.rnix_grammar.specs.AnnotatedForest.{AnnotatedForest, blank, ◌⊕◌, one_token, one_branch, one_fault, row_of, tokens_in, is_some, leaf_kind, end_from}
use Rattle.rnix_grammar.specs.{AnnotatedForest.{head_kind, touches}, Rules.{IsExpected, IsFollowed, Row, after, counts, done, run_at, missing, expects_end}}
use Rattle.rnix_grammar.specs.{Rules.{is_first_expected, second_name, row as row_of_kind, ◌·◌}, Reads.{IsOver, IsRoom, IsWrong, Reads, deeper, end}}
use Rattle.{rnix_grammar.specs.Reads.missing_part, rnix_proof_lemmas.specs.{SlotRows.remaining_at, Machine.{Head, Node, SecondBind, Operand, Frame, put, opened}}}
use Rattle.rnix_proof_lemmas.{specs.Machine.{made, kind_of, dropped, closed, machine, operand_on, limited, reading}, proofs.Basics.{true_is_not_false, not_if}}
use Rattle.rnix_proof_lemmas.proofs.{Basics.{none_remaining, none_right, not_nil}, AnnotatedForestLemmas.{⊕-blank, tokens_in-row_of}, EveryKind.same}
use Rattle.rnix_proof_lemmas.proofs.{OpenHeads.is_open, UnwantedRuns.{parted, run_begins, dropped_all}, LevelLemmas.{at_most, atom_fits}, KindsOfNodes.is_error}
use Rattle.rnix_proof_lemmas.proofs.{KindsOfNodes.keeps_kind, RestAt.rest_at, RowParts.{front, expected_as, expects_at, expects_next, is_remaining, remaining_no_operand}}
use Rattle.rnix_proof_lemmas.proofs.{RowParts.{remaining_first_expected, remaining_followed}, ActionTable.{IsNodeHere, IsOperandHere, MayEnd, IsActionAt, action_is_at}}
use Rattle.rnix_proof_lemmas.proofs.ReadsFrom.{leaf_from, name_reads, plain_from, second_from, wrong_from, past_over}
use Rattle.rnix_proof_existence.proofs.Frames.{is_in_row_of, is_sound, in_row, AtOpen, node, sound_open, left_of, grown, stayed, waits, landed, alone, Below}
use Rattle.rnix_proof_existence.proofs.{Frames.{above, closing}, ActionPositions.{is_reported, leads, leads_on}, OperandTrees.{Takes, left_takes, placed}}
use Rattle.rnix_proof_existence.proofs.{OperandFrames.{item_first, name_first, OperandStartEnds, operand_begins}, OpenFrames.{Outcome, Spans, spanned, spans_made}}
use Rattle.rnix_proof_existence.proofs.OpenFrames.{item, IsRead, EndsOn, RowEnds, Closes, Fronts, IsPreserved, IsPreservedBy, row_fronted, fronted, open_ends}
use Rattle.rnix_grammar.specs.declared.position.Position.TheVariants as p
use Rattle.rnix_grammar.specs.declared.action.Action.TheVariants as a

-- the row expects the next item, or the end of the text, exactly if the test says so
expected : (r : Row) (n : ℕ) (ts : List Token) (own : Bool) → expects_next r (touches n ts) (head_kind ts) ≡ own → IsExpected r n ts own
expected r n ts own h = expected_as r n ts own (expects_at r n ts ∙ h)

-- a row may end here if the test says so
over : (r : Row) (n : ℕ) (ts : List Token) → MayEnd r (touches n ts) (head_kind ts) → IsOver r n ts
over r n ts w = (w.0, expected r n ts false w.1)

-- the items that are left, with none after them; a depth within the limit and not below it is the limit
all_remaining : (ts : List Token) → ts ≡ ts ++ dropped ts ts
all_remaining ts = sym (ap (λ z. ts ++ z) (dropped_all ts) ∙ append-nil ts)

one_row : (ts : List Token) → tokens_in (row_of ts) ++ [] ≡ ts
one_row ts = append-nil (tokens_in (row_of ts)) ∙ tokens_in-row_of ts

at_limit : (d : ℕ) → nat_le depth_limit d ≡ true → d ≤ depth_limit → d ≡ depth_limit
at_limit d h j = grind (arith, nat_tests, h, j)

-- a counted operand is read below the limit
below_limit : (d : ℕ) → nat_le depth_limit d ≡ false → d < depth_limit
below_limit d h = grind (arith, nat_tests, h)

-- the leaves of an open frame keep their kinds
plain : (h : Head) (t : Token) → is_sound h ≡ true → leaf_kind (kind_of h) t ≡ t.kind
plain (Node k) t s = keeps_kind k t.kind (not_if (is_error k) s)
plain SecondBind t s = refl
plain Operand t s = refl

-- the errors that a complete frame reports
abbrev reported : Frame → List Frame → List Fault
reported f [] = []
reported f (g ∷ fs) = closing f.head g.children f.children

silent : (f : Frame) (fs : List Frame) → is_sound f.head ≡ true → is_reported (kind_of f.head) ≡ false → reported f fs ≡ []
silent f [] s h = refl
silent f (g ∷ fs) s h = by f.head s h
  where
    by : (h : Head) → is_sound h ≡ true → is_reported (kind_of h) ≡ false → closing h g.children f.children ≡ []
    by (Node NODE_PAT_ENTRY) s h = absurd (true_is_not_false h)
    by (Node _) s h = refl
    by SecondBind s h = absurd (true_is_not_false h)
    by Operand s h = refl

entry : (h : Head) (b c : AnnotatedForest) → kind_of h ≡ NODE_PAT_ENTRY → closing h b c ≡ repeated b c
entry (Node k) b c h = ap (λ k. repeats k b c) h
entry SecondBind b c h = absurd (cc)
entry Operand b c h = absurd (cc)

is_second : (h : Head) → is_sound h ≡ true → kind_of h ≡ NODE_ERROR → h ≡ SecondBind
is_second (Node k) s h = absurd (true_is_not_false (sym s ∙ ap (λ k. is_sound (Node k)) h))
is_second SecondBind s h = refl
is_second Operand s h = absurd (cc)

-- a frame, where the last item read ends at `n`, and `gs` are the errors so far
module _ (whole : Outcome) (f : Frame) (n : ℕ) (gs : List Fault) where
  -- the rest of its row, and its kind
  abbrev here : Row
  here = rest_at f.position

  abbrev kind : SyntaxKind
  kind = kind_of f.head

  -- its row is complete, so it closes
  closes : (fs : List Frame) → AtOpen f fs → (ts : List Token) (hs : List Fault) → MayEnd here (touches n ts) (head_kind ts) → hs ≡ gs ++ reported f fs
      → IsPreserved whole (closed f fs ts n hs) f fs ts n gs
  closes [] r ts hs o h = (node r, λ ends. subst (EndsOn whole [] f ts n) (h ∙ append-nil gs) ends)
  closes (g ∷ fs) r ts hs o h = (
    landed f.head f.children g fs r.below,
    λ ends. inl (record {
      remaining = ts;
      prev_end = n;
      row_state = here;
      rest = blank;
      inside = [];
      opened = sound_open f.head r.is.sound;
      reads = end;
      span = spanned;
      ends = (
        over here n ts o,
        subst (λ (z : AnnotatedForest). EndsOn whole fs (put g.position (g.children ⊕ made f.head z) g) ts n ((gs ++ []) ++ closing f.head g.children z))
            (sym (⊕-blank f.children))
            (subst (EndsOn whole fs (put g.position (g.children ⊕ made f.head f.children) g) ts n) (h
            ∙ ap (λ z. z ++ closing f.head g.children f.children) (sym (append-nil gs)))
            ends),
      );
    }),
  )

  -- an entry of a pattern closes, and may repeat another one's name
  closes_entry : (fs : List Frame) → AtOpen f fs → (ts : List Token) → MayEnd here (touches n ts) (head_kind ts) → kind ≡ NODE_PAT_ENTRY
      → IsPreservedBy whole a.CloseEntry f fs ts n gs
  closes_entry [] r ts o h = (node r, λ ends. ends)
  closes_entry (g ∷ fs) r ts o h = closes (g ∷ fs) r ts (gs
      ++ repeated g.children f.children) o (ap (λ z. gs ++ z) (sym (entry f.head g.children f.children h)))

  -- a second name closes
  closes_double_bind : (fs : List Frame) → AtOpen f fs → (ts : List Token) → MayEnd here (touches n ts) (head_kind ts) → f.head ≡ SecondBind
      → IsPreservedBy whole a.CloseDoubleBind f fs ts n gs
  closes_double_bind [] r ts o h = absurd (alone (subst (λ (h : Head). Below (above h f.children) []) h r.below))
  closes_double_bind (g ∷ fs) r ts o h = closes (g ∷ fs) r ts (gs ++ report DoubleBind (tokens_in f.children)
      ∷ []) o (ap (λ z. gs ++ closing z g.children f.children) (sym h))

  module _ (fs : List Frame) (r : AtOpen f fs) where
    wide : is_open f.head ≡ true
    wide = sound_open f.head r.is.sound

    -- no tree before this position requires a certain next item
    followed : (next : Option SyntaxKind) → IsFollowed here f.children next
    followed next = remaining_followed here (left_of f r.is) f.children next

    -- some trees are read, and the frame moves to another position
    goes_on : (y : Position) (x : AnnotatedForest) (ts us : List Token) (m : ℕ) (ds hs : List Fault) → is_in_row_of y kind ≡ true → Spans ts n us m x → hs ≡ gs
        ++ ds
        → Fronts kind f.depth n here f.children x us m (rest_at y) ds → IsPreserved whole (machine (put y (f.children ⊕ x) f ∷ fs) us m hs) f fs ts n gs
    goes_on y x ts us m ds hs in_row_of v h reads = (node (grown f fs y x r in_row_of), fronted whole fs f y x ts us n m gs ds hs wide v h reads)

    -- the next item becomes a leaf
    takes : (t : Token) (ts : List Token) (y : ℕ) → is_in_row_of (p.InRow y) kind ≡ true → IsExpected here n (t ∷ ts) true
        → after here (leaf_kind kind t) ≡ remaining_at y
        → IsPreservedBy whole (a.Take y) f fs (t ∷ ts) n gs
    takes t ts y in_row_of w g =
        goes_on (p.InRow y) (item kind t) (t ∷ ts) ts t.end [] gs in_row_of spanned (sym (append-nil gs))
        (λ vs s x es e z. leaf_from e w (followed (Some (leaf_kind kind t))) g z)

    -- at the end of the text, an error reports the missing part
    misses : (e : Fault) (y : ℕ) → is_in_row_of (p.InRow y) kind ≡ true → missing here ≡ Some (e, remaining_at y)
        → (expects_end here ≡ false → IsRoom here f.depth)
        → IsPreserved whole (machine (put (p.InRow y) f.children f ∷ fs) [] n (gs ++ e ∷ [])) f fs [] n gs
    misses e y in_row_of lost room = (
      node (stayed f fs (p.InRow y) r in_row_of),
      λ ends. fronted whole fs f (p.InRow y) blank [] [] n n gs (e ∷ []) (gs ++ e ∷ []) wide spanned refl
          (λ vs s x es h z. missing_part (none_right (tokens_in x) vs (sym h)) (none_remaining (tokens_in x) vs (sym h)) lost room
          (subst (λ (b : AnnotatedForest). Reads kind f.depth n (remaining_at y) s b vs x es) (⊕-blank f.children) z))
          (subst (λ (b : AnnotatedForest). EndsOn whole fs (put (p.InRow y) b f) [] n (gs ++ e ∷ [])) (sym (⊕-blank f.children)) ends),
    )

    -- some items become an error node
    wrongs : (ts us run : List Token) (y : Position) (note : Note) → is_in_row_of y kind ≡ true → ts ≡ run ++ us → IsExpected here n ts false
        → IsWrong note f.depth here (rest_at y) run us
        → IsPreserved whole (machine (put y (f.children ⊕ one_fault note (row_of run)) f ∷ fs) us (end_from n run) (gs ++ report note run ∷ [])) f fs ts n gs
    wrongs ts us run y note in_row_of e w x =
        goes_on y (one_fault note (row_of run)) ts us (end_from n run) (report note run ∷ []) (gs ++ report note run ∷ []) in_row_of
        (record { items = e ∙ ap (λ z. z ++ us) (sym (one_row run)); item_end = ap (end_from n) (sym (one_row run)) }) refl
        (λ vs s f es h z. wrong_from note run h (subst (λ (z : List Token). IsExpected here n z false) e w) (followed (head_kind run)) x refl z)

    -- a run of unwanted items becomes an error node
    runs : (t : Token) (ts : List Token) (until : ExpectedSet) (y : ℕ) → is_in_row_of (p.InRow y) kind ≡ true → IsExpected here n (t ∷ ts) false
        → is_wanted until t.kind ≡ false
        → run_at here ≡ Some (wanted_kinds until, remaining_at y) → IsPreservedBy whole (a.Run until y) f fs (t ∷ ts) n gs
    runs t ts until y in_row_of w u at =
        let run : List Token = run_of until (t ∷ ts) in
        let all : t ∷ ts ≡ run ++ dropped run (t ∷ ts) = (parted until (t ∷ ts)).all in
        wrongs (t ∷ ts) (dropped run (t ∷ ts)) run (p.InRow y) (Unwanted until) in_row_of all w
        (ap is_some (run_begins until t ts u), ap (run_of until) all, at)

    -- all items after the root's expression become one error node
    remaining_over : (t : Token) (ts : List Token) → here ≡ TextEnd · done → IsPreservedBy whole a.Extra f fs (t ∷ ts) n gs
    remaining_over t ts e =
        wrongs (t ∷ ts) (dropped (t ∷ ts) (t ∷ ts)) (t ∷ ts) f.position Extra r.is.in_row_of (all_remaining (t ∷ ts))
        (subst (λ (q : Row). IsExpected q n (t ∷ ts) false) (sym e) refl)
        (refl, dropped_all (t ∷ ts), e, refl)

    -- a node that is no operand is read before the rest of the row
    node_here : (k : SyntaxKind) (y : ℕ) (ts : List Token) → IsNodeHere here (touches n ts) (head_kind ts) k (remaining_at y)
        → (c : AnnotatedForest) (us : List Token) (m : ℕ) (u : Row) (ds : List Fault) → Spans ts n us m c → Reads k f.depth n (row_of_kind k) u blank us c ds
        → IsOver u m us
        → Fronts kind f.depth n here f.children (one_branch k c) us m (remaining_at y) (ds ++ repeats k f.children c)
    node_here k y ts w c us m u ds v z o vs s x es h i =
        let l : is_remaining here ≡ true = left_of f r.is in
        plain_from (remaining_no_operand here l w.0 w.1) h v.items z v.item_end o
        (expected here n ts (is_first_expected here k c) (w.2 ∙ sym (remaining_first_expected here l k c)))
        (followed (head_kind ts)) w.3 i refl

    -- a name becomes a node
    names : (t : Token) (ts : List Token) (y : ℕ) → is_in_row_of (p.InRow y) kind ≡ true
        → IsNodeHere here (touches n (t ∷ ts)) (Some t.kind) NODE_IDENT (remaining_at y)
        → after (row_of_kind NODE_IDENT) (leaf_kind NODE_IDENT t) ≡ done → IsPreservedBy whole (a.Leaf NODE_IDENT y) f fs (t ∷ ts) n gs
    names t ts y in_row_of w k =
        goes_on (p.InRow y) (one_branch NODE_IDENT (item NODE_IDENT t)) (t ∷ ts) ts t.end [] gs in_row_of spanned (sym (append-nil gs))
        (node_here NODE_IDENT y (t ∷ ts) w (item NODE_IDENT t) ts t.end done [] spanned (name_reads t k) (past_over t.end ts))

    -- another frame opens with some trees; when it is complete, its tree is read before the rest of the row
    opens : (h : Head) (q : Row) (z : Position) (y : ℕ) (x : AnnotatedForest) (ts us : List Token) (m : ℕ) → is_sound h ≡ true
        → (is_in_row_of z (kind_of h) && is_in_row_of (p.InRow y) kind) ≡ true
        → Spans ts n us m x → Fronts (kind_of h) f.depth n q blank x us m (rest_at z) []
        → ((c : AnnotatedForest) (remaining : List Token) (l : ℕ) (u : Row) (ds : List Fault) → Spans ts n remaining l c
        → Reads (kind_of h) f.depth n q u blank remaining c
        ds → IsOver u l remaining
        → Fronts kind f.depth n here f.children (made h c) remaining l (remaining_at y) (ds ++ closing h f.children c))
        → IsPreserved whole (machine (opened h z f.depth x ∷ (put (p.InRow y) f.children f ∷ fs)) us m gs) f fs ts n gs
    opens h q z y x ts us m sound in_row_of v reads stands = (
      node (record { is = record { sound = sound; in_row_of = homes.0; shallow = r.is.shallow }; below = waits g fs (stayed f fs (p.InRow y) r homes.1) }),
      λ ends. by (row_fronted x [] v (sym (append-nil gs)) reads (open_ends whole g fs (opened h z f.depth x) us m gs (sound_open h sound) ends)),
    )
      where
        homes : (is_in_row_of z (kind_of h) ≡ true) × (is_in_row_of (p.InRow y) kind ≡ true)
        homes = and_parts (is_in_row_of z (kind_of h)) (is_in_row_of (p.InRow y) kind) in_row_of

        g : Frame
        g = put (p.InRow y) f.children f

        by : RowEnds h f.depth q blank (Closes h g (EndsOn whole fs)) ts n gs → EndsOn whole fs f ts n gs
        by o =
            let ds : List Fault = closing h f.children o.rest in
            fronted whole fs f (p.InRow y) (made h o.rest) ts o.remaining n o.prev_end gs (o.inside ++ ds) ((gs ++ o.inside)
            ++ ds) wide (spans_made h o.rest o.span)
            (append_assoc gs o.inside ds) (stands o.rest o.remaining o.prev_end o.row_state o.inside o.span o.reads o.ends.0) o.ends.1

    -- a node opens
    opens_node : (k : SyntaxKind) (z y : ℕ) (x : AnnotatedForest) (ts us : List Token) (m : ℕ)
        → (is_sound (Node k) && (is_in_row_of (p.InRow z) k && is_in_row_of (p.InRow y) kind)) ≡ true
        → Spans ts n us m x → Fronts k f.depth n (row_of_kind k) blank x us m (remaining_at z) []
        → IsNodeHere here (touches n ts) (head_kind ts) k (remaining_at y)
        → IsPreserved whole (machine (opened (Node k) (p.InRow z) f.depth x ∷ (put (p.InRow y) f.children f ∷ fs)) us m gs) f fs ts n gs
    opens_node k z y x ts us m in_row_of v reads w =
        let q = and_parts (is_sound (Node k)) (is_in_row_of (p.InRow z) k && is_in_row_of (p.InRow y) kind) in_row_of in
        opens (Node k) (row_of_kind k) (p.InRow z) y x ts us m q.0 q.1 v reads (node_here k y ts w)

    -- a second name of a pattern opens with `@`
    opens_second : (t : Token) (ts : List Token) (y : ℕ) → is_in_row_of (p.InRow y) kind ≡ true → here ≡ BoundAlready · done → t.kind ≡ TOKEN_AT
        → remaining_at y ≡ done
        → IsPreservedBy whole (a.DoubleBind y) f fs (t ∷ ts) n gs
    opens_second t ts y in_row_of i j l =
        opens SecondBind second_name (p.InRow SECOND_BIND) y (one_token t.kind t) (t ∷ ts) ts t.end refl in_row_of spanned
        (λ vs s x es e z. leaf_from e tt tt (ap (after second_name) j) z)
        (λ c remaining m u ds v z o vs s x es e w. second_from e z v.item_end o i l w)

    -- an operand of a level begins, inside `d` counted positions, or is missing at the end of the text
    operand_at : (ts : List Token) (level d y : ℕ) → level ≤ 16 → d ≤ depth_limit → is_in_row_of (p.InRow y) kind ≡ true → Takes here level (remaining_at y)
        → d ≡ deeper here f.depth → IsRoom here f.depth
        → IsExpected here n ts false → (ts ≡ [] → missing here ≡ Some (unexpected_eof, remaining_at y))
        → IsPreserved whole (operand_on false level d (put (p.InRow y) f.children f) fs ts ts n gs) f fs ts n gs
    operand_at [] level d y l s in_row_of takes e room own lost = misses unexpected_eof y in_row_of (lost refl) (λ v. room)
    operand_at (t ∷ us) level d y l s in_row_of takes e room own lost =
        let b = operand_begins whole level d (put (p.InRow y) f.children f) fs n gs (stayed f fs (p.InRow y) r in_row_of) s l t us in
        (b.0, λ ends. by (b.1 ends))
      where
        by : OperandStartEnds whole level d (put (p.InRow y) f.children f) fs (t ∷ us) n gs → EndsOn whole fs f (t ∷ us) n gs
        by b =
            fronted whole fs f (p.InRow y) b.tree (t ∷ us) b.remaining n b.prev_end gs b.inside (gs ++ b.inside) wide b.read.span refl
            (λ vs s x es i z. placed takes (subst (λ (j : ℕ). IsRead level j n
            (t ∷ us) b.tree b.remaining b.prev_end b.inside) e b.read) b.is_complete_operand i own room
            (followed (Some t.kind)) z) b.ends

    -- an operand of a level is read, unless it is nested too deep
    reads_operand : (ts : List Token) (level : ℕ) (counted : Bool) (y : ℕ) → (nat_le level 16 && is_in_row_of (p.InRow y) kind) ≡ true
        → IsOperandHere here (touches n ts) (head_kind ts) level counted (remaining_at y) → (ts ≡ [] → missing here ≡ Some (unexpected_eof, remaining_at y))
        → IsPreservedBy whole (a.Read level counted y) f fs ts n gs
    reads_operand ts level counted y h w lost = by counted w.1
      where
        in_row_of : (nat_le level 16 ≡ true) × (is_in_row_of (p.InRow y) kind ≡ true)
        in_row_of = and_parts (nat_le level 16) (is_in_row_of (p.InRow y) kind) h

        takes : Takes here level (remaining_at y)
        takes = left_takes here level (remaining_at y) (left_of f r.is) w.0 w.3

        own : IsExpected here n ts false
        own = expected here n ts false w.2

        inside : (d : ℕ) → d ≤ depth_limit → d ≡ deeper here f.depth → IsRoom here f.depth
            → IsPreserved whole (operand_on false level d (put (p.InRow y) f.children f) fs ts ts n gs) f fs ts n gs
        inside d s e room = operand_at ts level d y (at_most level 16 in_row_of.0) s in_row_of.1 takes e room own lost

        limit : counts here ≡ true → (v : Bool) → nat_le depth_limit f.depth ≡ v
            → IsPreserved whole (if v then limited false (put (p.InRow y) f.children f) fs ts n gs else operand_on false level (suc f.depth)
            (put (p.InRow y) f.children f) fs ts
            ts n gs) f fs ts n gs
        limit e true v =
            wrongs ts (dropped ts ts) ts (p.InRow y) TooDeep in_row_of.1 (all_remaining ts) own
            (dropped_all ts, e, at_limit f.depth v r.is.shallow, takes.goes NODE_LITERAL (atom_fits level NODE_LITERAL refl))
        limit e false v =
            inside (suc f.depth) (omega (arith, below_limit f.depth v)) (ap (λ w. if w then suc f.depth else f.depth) (sym e)) (λ u. below_limit f.depth v)

        by : (counted : Bool) → counts here ≡ counted → IsPreserved whole (reading false level counted (put (p.InRow y) f.children f) fs ts n gs) f fs ts n gs
        by false e = inside f.depth r.is.shallow (ap (λ w. if w then suc f.depth else f.depth) (sym e)) (λ v. absurd (true_is_not_false (sym v ∙ e)))
        by true e = limit e (nat_le depth_limit f.depth) refl

    -- each allowed action at the position preserves what is known
    done_by : (action : Action) (ts : List Token) → IsActionAt here (touches n ts) (head_kind ts) action → leads kind action ≡ true
        → IsPreservedBy whole action f fs ts n gs
    done_by a.Close ts w h = closes fs r ts gs w (sym (ap (λ z. gs ++ z) (silent f fs r.is.sound (not_if (is_reported kind) h)) ∙ append-nil gs))
    done_by a.ClosePattern ts w h = closes fs r ts gs w (sym (ap (λ z. gs ++ z) (silent f fs r.is.sound (not_if (is_reported kind) h)) ∙ append-nil gs))
    done_by a.CloseEntry ts w h = closes_entry fs r ts w (same kind NODE_PAT_ENTRY h)
    done_by a.CloseDoubleBind ts w h = closes_double_bind fs r ts w (is_second f.head r.is.sound (same kind NODE_ERROR h))
    done_by a.Finish ts w h = (node r, λ ends. ends)
    done_by a.Extra (t ∷ ts) w h = remaining_over t ts w
    done_by (a.Take y) (t ∷ ts) w h = takes t ts y h (expected here n (t ∷ ts) true w.0) (ap (after here) (plain f.head t r.is.sound) ∙ w.1)
    done_by (a.Miss y) [] w h = misses unexpected_eof y h w.0 (λ z. absurd (true_is_not_false (sym w.1 ∙ z)))
    done_by (a.MissWanted until y) [] w h = misses (unexpected_eof_wanted (wanted_kinds until)) y h w.0 (λ z. absurd (true_is_not_false (sym w.1 ∙ z)))
    done_by (a.Run until y) (t ∷ ts) w h = runs t ts until y h (expected here n (t ∷ ts) false w.0) w.1 w.2
    done_by (a.Leaf NODE_IDENT y) (t ∷ ts) w h = names t ts y h w.0 w.1
    done_by (a.Open k z y) (t ∷ ts) w h = opens_node k z y (item k t) (t ∷ ts) ts t.end h spanned
        (item_first k t ts (front (row_of_kind k) w.1) w.2) w.0
    done_by (a.OpenEmpty k z y) ts w h =
        opens_node k z y blank ts ts n h spanned (λ vs s x es i q. subst (λ (r : Row). Reads k f.depth n r s blank vs x es) (sym w.1) q) w.0
    done_by (a.Entry y) (t ∷ ts) w h =
        opens_node NODE_PAT_ENTRY PAT_ENTRY y (one_branch NODE_IDENT (item NODE_IDENT t)) (t ∷ ts) ts t.end h spanned
        (name_first NODE_PAT_ENTRY t ts (front (row_of_kind NODE_PAT_ENTRY) refl) w.1) w.0
    done_by (a.DoubleBind y) (t ∷ ts) w h = opens_second t ts y h w.0 w.1 w.2
    done_by (a.Read level counted y) [] w h = reads_operand [] level counted y h w.0 (λ e. w.1)
    done_by (a.Read level counted y) (t ∷ ts) w h = reads_operand (t ∷ ts) level counted y h w (λ e. absurd (not_nil e))
    done_by _ [] w h = absurd w
    done_by _ (t ∷ ts) w h = absurd w

    -- each step at an open frame preserves what is known
    pub node_step : (ts : List Token) → IsPreservedBy whole (action_at f.position (head_kind ts) (touches n ts)) f fs ts n gs
    node_step ts =
        done_by (action_at f.position (head_kind ts) (touches n ts)) ts
        (action_is_at f.position (touches n ts) (head_kind ts) (in_row f.position kind r.is.in_row_of))
        (leads_on f.position kind (head_kind ts) (touches n ts) r.is.in_row_of)
