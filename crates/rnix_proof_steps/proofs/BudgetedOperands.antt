-- The budget where an operand begins.
use Rattle.std.proofs.Common.{◌≡◌, ◌≤◌, ℕ, ◌+◌, ◌*◌, Bool, true, List, [], ◌∷◌, max, ap, sym, ◌∙◌, arith}
use Rattle.rnix_grammar.specs.{declared.{position.Position.Position, operand_start.OperandStart.OperandStart, slot_table.TheConstants.{LEGACY_LET, LAMBDA, PATTERN, BOUND_PATTERN}}, Fault.Fault}
use Rattle.rnix_grammar.specs.{AnnotatedForest.{Token, AnnotatedForest, head_kind}, Layout.{items, tail_of}}
use Rattle.rnix_proof_lemmas.specs.{Machine.{Head, Node, Operand, Frame, put, opened, with_leading, after_item, begun}, Measures.measure, Allowed.is_there}
use Rattle.rnix_proof_lemmas.proofs.{Basics.true_is_not_false, StackedFrames.BeginsInner, WithoutTriviaLemmas.items_behind}
use Rattle.rnix_proof_steps.proofs.StepBounds.{per_item, room, held, closing, last, closed, AreAtMost, operand, operand_last, operand_closed, operand_ended, one_frame, two_frames, three_frames}
use Rattle.rnix_proof_steps.proofs.{BoundedOperands.begun_bounds, Budgets.{ends, pays, Covers, Enough}}
use Rattle.rnix_grammar.specs.declared.position.Position.TheVariants as p
use Rattle.rnix_grammar.specs.declared.operand_start.OperandStart.TheVariants as b

-- a budget covers the frames that wait for an operand inside `d` counted positions, when the next item begins the operand
pub record Awaits (levels any : Bool) (c : ℕ) (us : List Token) (d : ℕ) (fs : List Frame) : Type 0 where
  pub last_in : pays levels us + operand_last any + room levels d + ends fs ≤ per_item levels + c
  pub below : ℕ
  pub closed_in : pays levels us + operand_closed levels + below ≤ per_item levels + c
  pub rest : Covers levels below fs
  pub ended : operand_ended + ends fs ≤ c

-- then it covers the operand's frame
one_enough : (levels any : Bool) (c : ℕ) (us vs : List Token) (d level max_bp : ℕ) (fs : List Frame) (trees : AnnotatedForest)
    → AreAtMost (one_frame levels any) → pays levels vs ≤ pays levels us → Awaits levels any c us d fs
    → Enough levels c vs (opened Operand (p.AfterOperand level max_bp) d trees ∷ fs)
one_enough levels any c us [] d level max_bp fs trees m h e = omega (arith, m.1.1.0, e.ended)
one_enough levels any c us (v ∷ vs) d level max_bp fs trees m h e = record {
  last_in = omega (arith, m.0, h, e.last_in);
  below = e.below;
  closed_in = omega (arith, m.1.0, h, e.closed_in);
  rest = e.rest;
}

-- it covers a node in the operand
two_enough : (levels any : Bool) (c : ℕ) (us vs : List Token) (d level max_bp : ℕ) (fs : List Frame) (head : Head) (x : Position)
    (inside trees : AnnotatedForest) → AreAtMost (two_frames levels any x) → pays levels vs ≤ pays levels us → Awaits levels any c us d fs
    → Enough levels c vs (opened head x d inside ∷ (opened Operand (p.AfterOperand level max_bp) d trees ∷ fs))
two_enough levels any c us [] d level max_bp fs head x inside trees m h e = omega (arith, m.1.1.1.0, e.ended)
two_enough levels any c us (v ∷ vs) d level max_bp fs head x inside trees m h e =
    let waits : ℕ = held levels operand + room levels d + ends fs in
    let done : ℕ = closing operand + e.below in
    let first : pays levels vs + closed levels x + waits ≤ c = omega (arith, m.1.0, h, e.last_in) in
    let second : pays levels vs + closed levels x + done ≤ c = omega (arith, m.1.1.0, h, e.closed_in) in
    record {
      last_in = omega (arith, m.0, h, e.last_in);
      below = max waits done;
      closed_in = omega (arith, first, second);
      rest = (omega arith, (e.below, omega arith, e.rest));
    }

-- it covers a pattern in a function in the operand
three_enough : (levels any : Bool) (c more : ℕ) (us vs : List Token) (d level max_bp : ℕ) (fs : List Frame) (head other : Head) (x : Position)
    (inside between trees : AnnotatedForest)
    → AreAtMost (three_frames more levels any x) → more + pays levels vs ≤ pays levels us → Awaits levels any c us d fs
    → Enough levels c vs (opened head x d inside ∷ (opened other (p.InRow LAMBDA) d between ∷ (opened Operand (p.AfterOperand level max_bp) d trees ∷ fs)))
three_enough levels any c more us [] d level max_bp fs head other x inside between trees m h e = omega (arith, m.1.1.1.1.0, e.ended)
three_enough levels any c more us (v ∷ vs) d level max_bp fs head other x inside between trees m h e =
    let waits : ℕ = held levels operand + room levels d + ends fs in
    let done : ℕ = closing operand + e.below in
    let next : ℕ = max waits done in
    let function : ℕ = held levels (p.InRow LAMBDA) + room levels d + (2 * measure operand + ends fs) in
    let first : pays levels vs + closed levels x + function ≤ c = omega (arith, m.1.0, h, e.last_in) in
    let second : pays levels vs + closed levels x + closing (p.InRow LAMBDA) + waits ≤ c = omega (arith, m.1.1.0, h, e.last_in) in
    let third : pays levels vs + closed levels x + closing (p.InRow LAMBDA) + done ≤ c = omega (arith, m.1.1.1.0, h, e.closed_in) in
    record {
      last_in = omega (arith, m.0, h, e.last_in);
      below = max function (closing (p.InRow LAMBDA) + next);
      closed_in = omega (arith, first, second, third);
      rest = (omega arith, (next, omega arith, (omega arith, (e.below, omega arith, e.rest))));
    }

-- the items after the first, or after two, pay no more than all items
tail_pays : (levels : Bool) (us : List Token) → pays levels (tail_of us) ≤ pays levels us
tail_pays levels [] = omega arith
tail_pays levels (t ∷ us) = omega arith

tail_gains : (levels : Bool) (us : List Token) → is_there (head_kind us) ≡ true → per_item levels + pays levels (tail_of us) ≤ pays levels us
tail_gains levels [] h = absurd (true_is_not_false (sym h))
tail_gains levels (t ∷ us) h = omega arith

-- it covers whatever the operand begins with
pub begun_enough : (levels any : Bool) (how : OperandStart) (c level d : ℕ) (t u : Token) (us : List Token) (f : Frame) (fs : List Frame) (ts : List Token)
    (n : ℕ)
    (es : List Fault)
    → items ts ≡ t ∷ us → BeginsInner (head_kind us) how → AreAtMost (begun_bounds levels any how)
    → Awaits levels any c us d (put f.position (with_leading true f.children ts) f ∷ fs)
    → Enough levels c (items (begun true how level d u f fs ts n es).remaining) (begun true how level d u f fs ts n es).frames
begun_enough levels any how c level d t u us f fs ts n es q i m e = by how i m
  where
    one : pays levels (items (after_item true ts)) ≤ pays levels us
    one = omega (arith, ap (pays levels) (items_behind ts ∙ ap tail_of q))

    two : pays levels (items (after_item true (after_item true ts))) ≡ pays levels (tail_of us)
    two = ap (pays levels) (items_behind (after_item true ts) ∙ ap tail_of (items_behind ts) ∙ ap (λ xs. tail_of (tail_of xs)) q)

    by : (how : OperandStart) → BeginsInner (head_kind us) how → AreAtMost (begun_bounds levels any how)
        → Enough levels c (items (begun true how level d u f fs ts n es).remaining) (begun true how level d u f fs ts n es).frames
    by (b.Leaf k) i m = one_enough levels any c us (items (after_item true ts)) d level 16 _ _ m one e
    by (b.Node k remaining max_bp) i m = two_enough levels any c us (items (after_item true ts)) d level max_bp _ (Node k) (p.InRow remaining) _ _ m one e
    by b.LegacyLet i m =
        two_enough levels any c us (items (after_item true (after_item true ts))) d level 0 _ _ (p.InRow LEGACY_LET) _ _ m
        (omega (arith, two, tail_pays levels us)) e
    by b.NameLambda i m = two_enough levels any c us (items (after_item true ts)) d level 16 _ _ (p.InRow LAMBDA) _ _ m one e
    by b.BoundLambda i m =
        three_enough levels any c (per_item levels) us (items (after_item true (after_item true ts))) d level 16 _ _ _ (p.InRow BOUND_PATTERN) _ _ _ m
        (omega (arith, two, tail_gains levels us i)) e
    by b.PatternLambda i m =
        three_enough levels any c 0 us (items (after_item true ts)) d level 16 _ _ _ (p.InRow PATTERN) _ _ _ m (omega (arith, one)) e
    by b.Stray i m = one_enough levels any c us (items (after_item true ts)) d level 16 _ _ m one e
