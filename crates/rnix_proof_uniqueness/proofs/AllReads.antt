-- Each reading of some items is the result of the machine's steps; so there is only one.
use Rattle.std.proofs.Common.{◌≡◌, ℕ, suc, false, List, [], ◌∷◌, refl, ap, sym, ◌∙◌, zero, ◌<◌, ◌++◌, subst, append-nil, arith}
use Rattle.{rnix_kinds.specs.declared.kinds.SyntaxKind.{SyntaxKind, TheVariants.NODE_ROOT}, rnix_grammar.specs.{Fault.Fault, AnnotatedForest.Token}}
use Rattle.rnix_grammar.specs.{AnnotatedForest.{AnnotatedForest, blank, tokens_in, end_from}, declared.slot_table.TheConstants.ROOT}
use Rattle.rnix_grammar.specs.{declared.{position.Position.Position, rules.Part.TheVariants.TextEnd}, Rules.{Row, done, ◌·◌}, Reads.ReadsRoot}
use Rattle.rnix_proof_lemmas.specs.{Machine.{Node, Frame, Machine, machine, opened, initial_machine, step, Runs, rest as here, then as further}, SlotRows.remaining_at}
use Rattle.rnix_proof_lemmas.{specs.SlotRows.remaining_in, proofs.{Basics.{Where, where_one}, EachIndex.each_index, RestAt.rest_at}}
use Rattle.rnix_proof_uniqueness.proofs.{ReadingHeights.{height, IsLower, AllRows, Trees}, TreeReads.tree_runs, OneAction.is_text_end, RowReads.row_next}
use Rattle.rnix_proof_uniqueness.proofs.StepReads.{ReadsTo}
use Rattle.rnix_grammar.specs.declared.position.Position.TheVariants as p

-- steps that lead to a machine from which no step changes anything end in that machine
leads_back : {a b c : Machine} → Runs false c b → c ≡ a → step false a ≡ a → a ≡ b
leads_back here e h = sym e
leads_back (further r) e h = leads_back r (ap (step false) e ∙ h) h

-- from a machine that no step changes, steps lead only to itself
stays : {a b : Machine} → step false a ≡ a → Runs false a b → a ≡ b
stays h r = leads_back r refl h

-- two runs from one machine end in the same machine, if no step changes their ends
pub same_end : {m a b : Machine} → Runs false m a → Runs false m b → step false a ≡ a → step false b ≡ b → a ≡ b
same_end here s u v = stays u s
same_end (further r) here u v = sym (stays v (further r))
same_end (further r) (further s) u v = same_end r s u v

-- the index at which the root's row is complete; the root's frame there
abbrev pub root_end : ℕ
root_end = suc ROOT

abbrev pub root_frame : AnnotatedForest → Frame
root_frame trees = opened (Node NODE_ROOT) (p.InRow root_end) 0 trees

-- the root's frame alone, with nothing left to read
abbrev pub ended_with : AnnotatedForest → ℕ → List Fault → Machine
ended_with trees n es = machine (root_frame trees ∷ []) [] n es

-- the children of the innermost frame
abbrev pub innermost_children : List Frame → AnnotatedForest
innermost_children [] = blank
innermost_children (f ∷ fs) = f.children

-- if the steps read some items to their end, they do so with one tree and one list of errors
pub ended_once : (ts : List Token) (f : AnnotatedForest) (n : ℕ) (es : List Fault) (m : Machine) → Runs false (initial_machine ts) (ended_with f n es)
    → Runs false (initial_machine ts) m → step false m ≡ m
    → (innermost_children m.frames ≡ f) × (m.faults ≡ es)
ended_once ts f n es m r q h =
    let e = same_end q r h refl in
    (ap (λ (z : Machine). innermost_children z.frames) e, ap (λ (z : Machine). z.faults) e)

-- no reading is lower than 0
lowest : {A : Type 0} {k : SyntaxKind} {d n : ℕ} {q s : Row} {b : AnnotatedForest} {us : List Token} {f : AnnotatedForest} {es : List Fault}
    → IsLower 0 k d n q s b us f es → A
lowest h = absurd (by (height h.reads) h.short)
  where
    by : (a : ℕ) → a < 0 → ⊥
    by a h = omega (arith, h)

-- the steps follow the readings of all rows and expressions
pub all_read : (m : ℕ) → AllRows m × Trees m
all_read zero = (λ k d n x s b us f es i h l. lowest h, λ k d n us c ds h e. lowest h.part)
all_read (suc m) = by (all_read m)
  where
    by : AllRows m × Trees m → AllRows (suc m) × Trees (suc m)
    by w = (λ k d n x s b us f es i h l. row_next m w.0 w.1 x i refl h.reads h.short l, tree_runs m w.0 w.1)

-- the root's row ends at one position
text_ends : (i : ℕ) → Where (is_text_end (remaining_at i)) (i ≡ root_end)
text_ends = each_index (λ i. Where (is_text_end (remaining_at i)) (i ≡ root_end)) (assumption)
    (λ i e d. subst (λ ss. Where (is_text_end (remaining_in ss)) (i ≡ root_end)) (sym d) tt)

text_end_at : (x : Position) → rest_at x ≡ TextEnd · done → x ≡ p.InRow root_end
text_end_at (p.InRow i) h = ap p.InRow (where_one (is_text_end (remaining_at i)) (ap is_text_end h) (text_ends i))
text_end_at (p.AfterOperand min_bp max_bp) h = absurd (cc)
text_end_at (p.Right level) h = absurd (cc)

-- a reading of some items is the result of the steps
pub reads_runs : (f : AnnotatedForest) (faults : List Fault) → ReadsRoot f faults
    → Runs false (initial_machine (tokens_in f)) (ended_with f (end_from 0 (tokens_in f)) faults)
reads_runs f faults r =
    let w : ReadsTo NODE_ROOT 0 0 (p.InRow ROOT) (TextEnd · done) blank [] f faults =
    (all_read (suc (height r))).0 NODE_ROOT 0 0 (p.InRow ROOT) (TextEnd · done) blank [] f faults refl (record { reads = r; short = omega arith }) refl in
    subst (λ (ts : List Token). Runs false (initial_machine ts) (ended_with f (end_from 0 (tokens_in f)) faults)) (append-nil (tokens_in f))
    (subst (λ (y : Position). Runs false (initial_machine (tokens_in f ++ [])) (machine (opened (Node NODE_ROOT) y 0 f
    ∷ []) [] (end_from 0 (tokens_in f)) faults))
    (text_end_at w.position w.is)
    (w.row (Node NODE_ROOT) [] [] refl refl))

-- two readings of the same items are equal
pub one_row : (f g : AnnotatedForest) (es fs : List Fault) → ReadsRoot f es → ReadsRoot g fs → tokens_in f ≡ tokens_in g → (f ≡ g) × (es ≡ fs)
one_row f g es fs r s e =
    let h = ended_once (tokens_in f) f (end_from 0 (tokens_in f)) es (ended_with g (end_from 0 (tokens_in g)) fs) (reads_runs f es r)
    (subst (λ (ts : List Token). Runs false (initial_machine ts) (ended_with g (end_from 0 (tokens_in g)) fs)) (sym e) (reads_runs g fs s)) refl in
    (sym h.0, sym h.1)
