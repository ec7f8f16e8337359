-- Tests of several facts at once.
use Rattle.std.proofs.Common.{◌≡◌, ℕ, Bool, true, false, List, ◌++◌, ap, sym, ◌∙◌}
use Rattle.std.proofs.lemmas.{Bool.{Decides.Decides-like, false≢true}, List.append_cancel_left}
use Rattle.std.specs.Bool.{Decides}
use Rattle.rnix_green.specs.{Tree.{Located}, Walk.{Event, preorder_of}}
use Rattle.rnix_edit.specs.declared.node_range.NodeRange.{NodeRange}
use Rattle.rnix_edit.specs.Steps.{Step, steps_of, has_node, steps_in, steps_before, steps_after, events_inside, events_after, is_exited}
use Rattle.rnix_edit.specs.Steps.{AreTaken, AreCommentsTaken, IsClosingTaken}
use Rattle.rnix_edit.specs.Edited.{IsAround, IsWith, IsWithout, IsAfter, IsLastIn}
use Rattle.rnix_edit.proofs.PassedLemmas.{passed, remaining_or_not}

-- a walk that entered the node and then left it continues with the steps after the node
pub after_entered : (target : NodeRange) (root : Located) (inside after : List Event) → inside ≡ events_inside target (preorder_of root) →
    after ≡ events_after target inside → steps_of after ≡ steps_after target root
after_entered target root inside after entered remaining = ap steps_of (remaining ∙ ap (events_after target) entered ∙ sym (passed target root).after)

-- it left the node exactly if there is one
pub exited_entered : (target : NodeRange) (root : Located) (inside : List Event) (found : Bool) → inside ≡ events_inside target (preorder_of root) →
    found ≡ is_exited target inside → found ≡ has_node target root
exited_entered target root inside found entered remaining =
    remaining ∙ ap (is_exited target) entered ∙ sym (passed target root).remaining ∙ remaining_or_not target root

-- the tests of a tree around a node, if the node exists
pub around_tested : (root other : Located) (old new : NodeRange) (there rest : Bool) (after afters : List Step) →
    steps_before new other ≡ steps_before old root → there ≡ has_node new other → there ≡ true →
    afters ≡ steps_after new other → after ≡ steps_after old root → Decides rest (afters ≡ after) → Decides rest (IsAround root old other new)
around_tested root other old new there rest after afters before is holds seconds firsts tested =
    Decides-like rest (λ same. record { is_there = sym is ∙ holds; before = before; after = sym seconds ∙ same ∙ firsts })
    (λ h. seconds ∙ h.after ∙ sym firsts) tested

-- if it does not exist, the tree is not as required
pub none_around : (root other : Located) (old new : NodeRange) (there : Bool) → there ≡ has_node new other → there ≡ false →
    Decides there (IsAround root old other new)
none_around root other old new there is fails =
    (λ holds. absurd (false≢true (sym fails ∙ holds)), λ h. is ∙ h.is_there)

-- the steps begin with the given ones, and the others follow, exactly if the test says so
pub begun_tested : (taken same : Bool) (first all remaining rest : List Step) → AreTaken taken first all remaining → taken ≡ true →
    Decides same (remaining ≡ rest) → Decides same (all ≡ first ++ rest)
begun_tested taken same first all remaining rest comes is tested =
    let so : all ≡ first ++ remaining = comes.passed is in
    Decides-like same (λ same_rest. so ∙ ap (λ steps. first ++ steps) same_rest)
    (λ whole. append_cancel_left first remaining rest (sym so ∙ whole)) tested

-- a walk that left the node continues with the steps after it
pub after_remaining : (target : NodeRange) (root : Located) (walk after : List Event) → walk ≡ preorder_of root → after ≡ events_after target walk →
    steps_of after ≡ steps_after target root
after_remaining target root walk after whole remaining = ap steps_of (remaining ∙ ap (events_after target) whole)

-- the tests of a tree that is another one with a new node, if the node exists
pub with_tested : (root other : Located) (new : NodeRange) (there taken same : Bool) (remaining after : List Step) →
    AreTaken taken (steps_before new other) (steps_in root) remaining → taken ≡ true → there ≡ has_node new other → there ≡ true →
    after ≡ steps_after new other → Decides same (remaining ≡ after) → Decides same (IsWith root other new)
with_tested root other new there taken same remaining after comes begun is holds seconds tested =
    Decides-like same
    (λ whole. record { is_there = sym is ∙ holds; rest = whole ∙ ap (λ steps. steps_before new other ++ steps) seconds })
    (λ h. h.rest ∙ ap (λ steps. steps_before new other ++ steps) (sym seconds))
    (begun_tested taken same (steps_before new other) (steps_in root) remaining after comes begun tested)

-- if it does not exist, the tree is not as required
pub none_with : (root other : Located) (new : NodeRange) (there : Bool) → there ≡ has_node new other → there ≡ false → Decides there (IsWith root other new)
none_with root other new there is fails = (λ holds. absurd (false≢true (sym fails ∙ holds)), λ h. is ∙ h.is_there)

-- the test for a node right after another one and its comments
pub after_tested : (root : Located) (old : NodeRange) (comments : ℕ) (other : Located) (new : NodeRange) (taken same : Bool) (remaining : List Step) →
    IsWith root other new → AreCommentsTaken taken comments (steps_after old root) remaining → taken ≡ true →
    Decides same (remaining ≡ steps_after new other) → Decides same (IsAfter root old comments other new)
after_tested root old comments other new taken same remaining added comes is tested =
    let passed = comes.passed is in
    Decides-like same
    (λ after. record { added = added; fits = passed.0.0; are_comments = passed.0.1; after = sym after ∙ passed.1 })
    (λ h. passed.1 ∙ sym h.after) tested

-- the test for a node right before the last token of another one
pub inside_tested : (root : Located) (old : NodeRange) (other : Located) (new : NodeRange) (taken same : Bool) (remaining : List Step) →
    IsWith root other new → IsClosingTaken taken (steps_after new other) remaining → taken ≡ true →
    Decides same (steps_after old root ≡ remaining) → Decides same (IsLastIn root old other new)
inside_tested root old other new taken same remaining added comes is tested =
    let passed = comes.passed is in
    Decides-like same
    (λ after. record { added = added; fits = passed.0.0; token = passed.0.1; after = after ∙ passed.1 })
    (λ h. h.after ∙ sym passed.1) tested

-- the tests of a tree without a node and its comments
pub without_tested : (root : Located) (old : NodeRange) (comments : ℕ) (other : Located) (remaining : List Step) (taken same : Bool) →
    AreCommentsTaken taken comments (steps_after old root) remaining → taken ≡ true → Decides same (steps_in other ≡ steps_before old root ++ remaining) →
    Decides same (IsWithout root old comments other)
without_tested root old comments other remaining taken same comes is tested =
    let passed = comes.passed is in
    Decides-like same
    (λ rest. record {
      fits = passed.0.0;
      are_comments = passed.0.1;
      rest = rest ∙ ap (λ steps. steps_before old root ++ steps) passed.1;
    })
    (λ h. h.rest ∙ ap (λ steps. steps_before old root ++ steps) (sym passed.1))
    tested
