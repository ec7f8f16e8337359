-- Runs of items.
use Rattle.std.proofs.Common.{◌≡◌, ◌≤◌, ◌<◌, ℕ, true, false, List, [], ◌∷◌, length, Some, None, refl, ap, sym, ◌∙◌, subst, arith, if◌then◌else◌}
use Rattle.{rnix_kinds.specs.{declared.kinds.SyntaxKind.{SyntaxKind, TheVariants.NODE_ERROR}, SyntaxKind.is_trivia}, rnix_green.specs.Forest.{empty, leaf}}
use Rattle.rnix_green.{specs.{Forest.join, Range.Extent, ForestCode.join_empty}, proofs.ForestLemmas.join_assoc}
use Rattle.rnix_grammar.specs.{declared.{expected_set.ExpectedSet.{ExpectedSet, TheVariants.End}, position.Position.Position}, Fault.unwanted, Tables.{is_wanted, stops, operand_kinds}}
use Rattle.rnix_grammar.specs.{AnnotatedForest.{Token, token, row_of, forget, head_of, head_kind, end_from, extent_of, Stray as StrayNote}, Layout.items}
use Rattle.rnix_grammar.specs.{Layout.{from_item, trivia_before, tail_of, with_trivia, item_if}, UnwantedRun.run_of, Reports.report}
use Rattle.rnix_proof_lemmas.specs.Machine.{leaf_in, end_of}
use Rattle.rnix_proof_lemmas.proofs.{LayoutLemmas.{first_item, items-from_item}, AnnotatedForestLemmas.forget-⊕, UnwantedRuns.run_begins}
use Rattle.rnix_reader.specs.{FrameSteps.operand_begun, Reported.{error_over, next_run}, Placed.AreInOrder, State.{State, items_remaining, eaten, bumped, skipped}}
use Rattle.rnix_reader.{specs.State.{started, started_at, ended, pushed}, proofs.{CursorLemmas.in_order_from, StateLemmas.{state_is, first_of, none_remaining}}}

-- an empty run changes nothing
pub skipped-none : (s : State) → skipped [] s ≡ s
unfolding skipped
skipped-none s = state_is refl (join_empty s.trees) refl refl refl refl

-- a run is skipped item by item
pub skipped-more : (t : Token) (us run : List Token) (s s' : State) → items s.rest ≡ t ∷ us → s' ≡ bumped NODE_ERROR s → skipped (t ∷ run) s ≡ skipped run s'
unfolding skipped bumped eaten
skipped-more t us run s s' i e =
    let here : from_item s.rest ≡ t ∷ tail_of (from_item s.rest) = (first_item t us s.rest i).here in
    let more = with_trivia (row_of run) (tail_of (from_item s.rest)) in
    state_is refl
    (ap (join s.trees) (forget-⊕ (trivia_before s.rest) (token t.kind t more))
    ∙ sym (join_assoc s.trees (forget (trivia_before s.rest)) (leaf t.kind t.text (forget more)))
    ∙ sym (join_assoc (join s.trees (forget (trivia_before s.rest))) (leaf t.kind t.text empty) (forget more))
    ∙ ap (λ x. join (join (join s.trees (forget (trivia_before s.rest))) (forget (leaf_in NODE_ERROR x))) (forget more)) (sym here))
    refl refl
    (ap (λ x. end_from (end_of s.prev_end x) run) (sym here)) refl
    ∙ ap (skipped run) (sym e)

-- skipping an item leaves the items after it
pub remaining_bumped : (k : SyntaxKind) (t : Token) (us : List Token) (s s' : State) → items s.rest ≡ t ∷ us → s' ≡ bumped k s → items s'.rest ≡ us
unfolding bumped eaten
remaining_bumped k t us s s' i e = ap (λ x. items x.rest) e ∙ (first_item t us s.rest i).remaining

-- a run is empty if the next item ends it, or none is left
pub run_stops : (u : ExpectedSet) (ts : List Token) → stops u (head_kind ts) ≡ true → run_of u ts ≡ []
run_stops u [] h = refl
run_stops u (t ∷ ts) h = ap (λ x. if x then [] else t ∷ run_of u ts) h

-- a run that nothing ends contains all items
pub run_all : (ts : List Token) → run_of End ts ≡ ts
run_all [] = refl
run_all (t ∷ ts) = ap (λ x. t ∷ x) (run_all ts)

-- if no kind comes next, no token is left
pub no_items : (ts : List Token) → head_kind ts ≡ None → ts ≡ []
no_items [] e = refl
no_items (t ∷ ts) e = absurd (cc)

-- one turn of the loop that skips a run
pub skip_turn : (u : ExpectedSet) (t : Token) (s s' : State) → head_of (items s.rest) ≡ Some t → is_wanted u t.kind ≡ false → s' ≡ bumped NODE_ERROR s
    → skipped (run_of u (items s'.rest)) s' ≡ skipped (run_of u (items s.rest)) s
skip_turn u t s s' h off e =
    let all : items s.rest ≡ t ∷ tail_of (items s.rest) = first_of (items s.rest) t h in
    let remaining : items s'.rest ≡ tail_of (items s.rest) = remaining_bumped NODE_ERROR t (tail_of (items s.rest)) s s' all e in
    ap (λ x. skipped (run_of u x) s') remaining
    ∙ sym (skipped-more t (tail_of (items s.rest)) (run_of u (tail_of (items s.rest))) s s' all e)
    ∙ ap (λ x. skipped x s) (sym (ap (run_of u) all ∙ run_begins u t (tail_of (items s.rest)) off))

-- an empty run leaves everything as it is
pub skip_end : (u : ExpectedSet) (s : State) → stops u (head_kind (items s.rest)) ≡ true → skipped (run_of u (items s.rest)) s ≡ s
skip_end u s h = ap (λ x. skipped x s) (run_stops u (items s.rest) h) ∙ skipped-none s

-- so does a run if no item is left
pub skip_none : (u : ExpectedSet) (s : State) → head_of (items s.rest) ≡ None → skipped (run_of u (items s.rest)) s ≡ s
skip_none u s h = ap (λ x. skipped (run_of u x) s) (none_remaining (items s.rest) h) ∙ skipped-none s

-- skipping an item leaves fewer items
pub shorter : (t : Token) (s s' : State) → head_of (items s.rest) ≡ Some t → s' ≡ bumped NODE_ERROR s → length (items s'.rest) < length (items s.rest)
shorter t s s' h e =
    let all = first_of (items s.rest) t h in
    omega (arith, ap length all, ap length (remaining_bumped NODE_ERROR t (tail_of (items s.rest)) s s' all e))

-- an error node over a run ends where the run does
reached_over : (u : ExpectedSet) (s : State) → (error_over u s).prev_end ≡ end_from s.prev_end (run_of u (items s.rest))
unfolding ended skipped started_at eaten
reached_over u s = ap (λ x. end_from s.prev_end (run_of u x)) (items-from_item s.rest)

-- the items among tokens in order are in order
pub in_order_items : (n : ℕ) (ts : List Token) → AreInOrder n ts → AreInOrder n (items ts)
in_order_items n [] o = tt
in_order_items n (t ∷ ts) o =
    let ih : AreInOrder t.end (items ts) = in_order_items t.end ts o.2 in
    elim (is_trivia t.kind) as (λ x. AreInOrder n (item_if x t (items ts))) [
      | true ↦ in_order_from n t.end (items ts) (omega (arith, o.0, o.1)) ih
      | false ↦
          (o.0, o.1, ih)
    ]

-- a run does not end before it begins
pub run_end : (u : ExpectedSet) (n : ℕ) (ts : List Token) → AreInOrder n ts → n ≤ end_from n (run_of u ts)
run_end u n [] o = omega arith
run_end u n (t ∷ ts) o = elim (is_wanted u t.kind) as (λ x. n ≤ end_from n (if x then [] else t ∷ run_of u ts)) [
  | true ↦ omega arith
  | false ↦ omega
      (arith, o.0, o.1, run_end u t.end ts o.2)
]

-- an item does not end before it begins
pub item_in_order : (s : State) (t : Token) → AreInOrder 0 s.rest → head_of (items_remaining s) ≡ Some t → t.start ≤ t.end
item_in_order s t o e = (subst (AreInOrder 0) (first_of (items s.rest) t e) (in_order_items 0 s.rest o)).1

-- a run begins with its first item
run_first : (u : ExpectedSet) (t : Token) (ts : List Token) → head_of ts ≡ Some t → is_wanted u t.kind ≡ false → run_of u ts ≡ t ∷ run_of u (tail_of ts)
run_first u t ts h off = ap (run_of u) (first_of ts t h) ∙ run_begins u t (tail_of ts) off

-- a run does not end before its first item begins
pub run_reach : (u : ExpectedSet) (s s' : State) (t : Token) → AreInOrder 0 s.rest → head_of (items_remaining s) ≡ Some t → is_wanted u t.kind ≡ false
    → s' ≡ error_over u s → t.start ≤ s'.prev_end
run_reach u s s' t o h off e =
    let inside : AreInOrder 0 (t ∷ tail_of (items s.rest)) = subst (AreInOrder 0) (first_of (items s.rest) t h) (in_order_items 0 s.rest o) in
    let is : s'.prev_end ≡ end_from t.end (run_of u (tail_of (items s.rest))) =
    ap (λ x. x.prev_end) e ∙ reached_over u s ∙ ap (end_from s.prev_end) (run_first u t (items s.rest) h off) in
    omega (arith, inside.1, run_end u t.end (tail_of (items s.rest)) inside.2, is)

-- the range of a run is that of its items
pub run_extent : (u : ExpectedSet) (s s' : State) (t : Token) (range : Extent) → head_of (items_remaining s) ≡ Some t → is_wanted u t.kind ≡ false
    → s' ≡ error_over u s
    → range ≡ record { start = t.start; end = s'.prev_end } → range ≡ extent_of (next_run u s)
run_extent u s s' t range h off e r =
    let first : run_of u (items s.rest) ≡ t ∷ run_of u (tail_of (items s.rest)) = run_first u t (items s.rest) h off in
    r ∙ ap (λ x. let y : Extent = record { start = t.start; end = x } in y) (ap (λ x. x.prev_end) e ∙ reached_over u s ∙ ap (end_from s.prev_end) first)
    ∙ sym (ap extent_of first)

-- the error of a token that begins no operand
pub stray_report : (t : Token) (range : Extent) (wanted : List SyntaxKind) → range ≡ record { start = t.start; end = t.end } → wanted ≡ operand_kinds
    → unwanted t.kind range wanted ≡ report StrayNote (t ∷ [])
stray_report t range wanted r w = ap (λ x. unwanted t.kind x wanted) r ∙ ap (unwanted t.kind record { start = t.start; end = t.end }) w

-- the reader makes an error node over a run
pub run_made : (u : ExpectedSet) (s s1 s2 s3 : State) → s1 ≡ started NODE_ERROR s → s2 ≡ skipped (next_run u s1) s1 → s3 ≡ ended s2 → s3 ≡ error_over u s
run_made u s s1 s2 s3 a b c = c ∙ ap ended (b ∙ ap (λ x. skipped (next_run u x) x) a)

-- beginning an operand leaves the items as they are
pub left_operand : (over : Position) (d : ℕ) (s s' : State) → s' ≡ operand_begun over d s → items s'.rest ≡ items s.rest
unfolding pushed eaten
left_operand over d s s' e = ap (λ x. items x.rest) e ∙ items-from_item s.rest
