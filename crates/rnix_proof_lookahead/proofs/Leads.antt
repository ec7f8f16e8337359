-- What the first items complete is fixed as soon as one more item is read.
use Rattle.std.proofs.Common.{◌≡◌, ℕ, ◌+◌, ◌≤◌, ◌<◌, false, List, [], ◌∷◌, ◌++◌, length, refl, ap, sym, ◌∙◌, arith}
use Rattle.rnix_kinds.specs.declared.kinds.SyntaxKind.{SyntaxKind, TheVariants.NODE_ERROR}
use Rattle.rnix_green.{specs.Forest.{Forest, empty, leaf, node, join}, proofs.ForestLemmas.join_assoc}
use Rattle.rnix_grammar.specs.AnnotatedForest.{Token, Note, ◌⊕◌, one_fault, row_of, forget}
use Rattle.rnix_proof_lemmas.specs.Machine.{Frame, Machine, step, Runs}
use Rattle.rnix_proof_lemmas.specs.Machine.{rest as here, then as further}
use Rattle.rnix_proof_lemmas.proofs.Basics.{not_nil}
use Rattle.rnix_proof_lookahead.{specs.Completed.{leaf_count, completed}, proofs.CompletedTrees.{leaf_count-join, node_count, completed_more, completed_node}}
use Rattle.rnix_proof_lookahead.proofs.KeptSteps.{trees_in, IsKept, runs_kept, grown, row_count}

-- however the text is read to its end from here, its first `k` items complete these trees
abbrev pub Leads : ℕ → Forest → Machine → Type 0
Leads k s now = (last : Machine) → Runs false now last → last.remaining ≡ [] → completed k (trees_in last.frames) ≡ s

-- this holds if more than `k` items have been read, and the first `k` complete these trees
pub past_leads : (k : ℕ) (s : Forest) (now : Machine) → k < leaf_count (trees_in now.frames) → completed k (trees_in now.frames) ≡ s → Leads k s now
past_leads k s now l e last r over = runs_kept k r l ∙ e

-- this holds before a step if it is after the step, while items are left
pub next_leads : (k : ℕ) (s : Forest) (now : Machine) (t : Token) (ts : List Token) → now.remaining ≡ t ∷ ts → Leads k s (step false now) → Leads k s now
next_leads k s now t ts e a last here over = absurd (not_nil (sym e ∙ over))
next_leads k s now t ts e a last (further r) over = a last r over

-- this holds if the first `k` items had been read, and now one more is
pub taken_leads : (k : ℕ) (old : Forest) (ts : List Token) (next : Machine) → leaf_count old ≡ k → IsKept old ts next → length next.remaining < length ts
    → Leads k (completed k old) next
taken_leads k old ts next c w l =
    let more : k < leaf_count (trees_in next.frames) = omega (arith, c, w.counts, l) in
    past_leads k (completed k old) next more (w.same k (omega (arith, c)) more)

-- this holds if the last of the first `k` items and more are read at once as trees
pub split_leads : (k : ℕ) (old c x : Forest) (next : Machine) → trees_in next.frames ≡ join old (join c x) → leaf_count old + leaf_count c ≡ k
    → 1 ≤ leaf_count x → Leads k (completed k (join old c)) next
split_leads k old c x next e h l =
    let all : leaf_count (trees_in next.frames) ≡ leaf_count old + leaf_count (join c x) = ap leaf_count e ∙ leaf_count-join old (join c x) in
    let two : leaf_count (join c x) ≡ leaf_count c + leaf_count x = leaf_count-join c x in
    let first : leaf_count (join old c) ≡ leaf_count old + leaf_count c = leaf_count-join old c in
    past_leads k (completed k (join old c)) next (omega (arith, all, two, h, l))
    (ap (completed k) (e ∙ sym (join_assoc old c x)) ∙ completed_more k (join old c) x (omega (arith, first, h)))

-- and if they are read at once inside a node
pub spanned_leads : (k : ℕ) (old c x : Forest) (i : SyntaxKind) (next : Machine) → trees_in next.frames ≡ join old (node i (join c x) empty)
    → leaf_count old + leaf_count c ≡ k → 1 ≤ leaf_count x → Leads k (completed k (join old c)) next
spanned_leads k old c x i next e h l =
    let all : leaf_count (trees_in next.frames) ≡ leaf_count old + leaf_count (join c x) = ap leaf_count e ∙ node_count old (join c x) i in
    let two : leaf_count (join c x) ≡ leaf_count c + leaf_count x = leaf_count-join c x in
    let first : leaf_count (join old c) ≡ leaf_count old + leaf_count c = leaf_count-join old c in
    past_leads k (completed k (join old c)) next (omega (arith, all, two, h, l))
    (ap (completed k) e ∙ completed_node k old (join c x) i (omega (arith, two, h, l)) ∙ ap (completed k) (sym (join_assoc old c x))
    ∙ completed_more k (join old c) x (omega (arith, first, h)))

-- joined lists of items as leaves are the leaves of both, joined
pub row_two : (ts us : List Token) → forget (row_of (ts ++ us)) ≡ join (forget (row_of ts)) (forget (row_of us))
row_two [] us = refl
row_two (t ∷ ts) us = ap (leaf t.kind t.text) (row_two ts us)

-- the same leaves in an error node
pub faulted : (note : Note) (f : Frame) (fs : List Frame) (q us : List Token)
    → join (trees_in fs) (forget (f.children ⊕ one_fault note (row_of (q ++ us))))
    ≡ join (trees_in (f ∷ fs)) (node NODE_ERROR (join (forget (row_of q)) (forget (row_of us))) empty)
faulted note f fs q us =
    grown (trees_in fs) f.children (one_fault note (row_of (q ++ us))) ∙ ap (λ z. join (trees_in (f ∷ fs)) (node NODE_ERROR z empty)) (row_two q us)

-- this holds if an error node contains the last of the first `k` items and more
pub faulted_leads : (k : ℕ) (note : Note) (f : Frame) (fs : List Frame) (q us : List Token) (next : Machine)
    → trees_in next.frames ≡ join (trees_in fs) (forget (f.children ⊕ one_fault note (row_of (q ++ us))))
    → leaf_count (trees_in (f ∷ fs)) + length q ≡ k → 1 ≤ length us
    → Leads k (completed k (join (trees_in (f ∷ fs)) (forget (row_of q)))) next
faulted_leads k note f fs q us next e h l =
    spanned_leads k (trees_in (f ∷ fs)) (forget (row_of q)) (forget (row_of us)) NODE_ERROR next (e ∙ faulted note f fs q us)
    (omega (arith, row_count q, h)) (omega (arith, row_count us, l))
