-- The result of the machine's steps over a list of items satisfies the rules of a reading.
use Rattle.std.proofs.Common.{◌≡◌, ℕ, ◌+◌, false, List, [], ◌∷◌, ◌++◌, refl, ap, sym, ◌∙◌, subst, append-nil, arith}
use Rattle.{rnix_kinds.specs.declared.kinds.SyntaxKind.TheVariants.NODE_ROOT, rnix_grammar.specs.declared.position.Position.Position}
use Rattle.rnix_grammar.specs.{declared.{slot_table.TheConstants.ROOT, rules.Part.TheVariants.TextEnd}, Fault.Fault, AnnotatedForest.{Token, AnnotatedForest}}
use Rattle.rnix_grammar.specs.{AnnotatedForest.{blank, tokens_in}, Reads.{Reads, ReadsRoot, end}, Rules.{Row, done, ◌·◌}}
use Rattle.rnix_proof_lemmas.specs.Machine.{Machine, Node, Frame, kind_of, step_on, initial_machine, Runs, rest, then as further}
use Rattle.{rnix_proof_lemmas.proofs.{AnnotatedForestLemmas.⊕-blank, OpenHeads.is_open, RestAt.rest_at}, rnix_proof_existence.proofs.Frames.{no_frame, Reading}}
use Rattle.rnix_proof_existence.proofs.{Frames.{node, operand}, OpenFrames.{Outcome, EndsAll}, NodeSteps.node_step, OperandSteps.operand_step}
use Rattle.rnix_grammar.specs.declared.position.Position.TheVariants as p

-- a step preserves what is known of the frames; if the outcome is reached after it, it is reached before it
step : (whole : Outcome) {fs : List Frame} (ts : List Token) (n : ℕ) (gs : List Fault) → Reading fs
    → let m : Machine = step_on false fs ts n gs in Reading m.frames × (EndsAll whole m.frames m.remaining m.prev_end m.faults → EndsAll whole fs ts n gs)
step whole ts n gs (node {f = f} {fs = fs} r) = node_step whole f n gs fs r ts
step whole ts n gs (operand {min_bp = min_bp} {max_bp = max_bp} {d = d} {x = x} {fs = fs} r) = operand_step whole min_bp max_bp d x n gs fs r ts

-- a run of steps does so too
runs_end : (whole : Outcome) {m n : Machine} → Runs false m n → Reading m.frames → EndsAll whole n.frames n.remaining n.prev_end n.faults
    → EndsAll whole m.frames m.remaining m.prev_end m.faults
runs_end whole rest r ends = ends
runs_end whole (further {m = m} s) r ends = let w = step whole m.remaining m.prev_end m.faults r in w.1 (runs_end whole s w.0 ends)

-- if the steps end with the root's row complete and no item left, the root's children are a reading of all the items
pub steps_read_root : (ts : List Token) (m : Machine) (f : Frame) → Runs false (initial_machine ts) m → m.frames ≡ f ∷ [] → f.head ≡ Node NODE_ROOT
    → f.position ≡ p.InRow (ROOT + 1) → m.remaining ≡ []
    → (ts ≡ tokens_in f.children) × ReadsRoot f.children m.faults
steps_read_root ts m f s e h x l = by (runs_end (f.children, m.faults) s begun ended)
  where
    -- before the first step the root is open
    begun : Reading (initial_machine ts).frames
    begun = node (record { is = record { sound = refl; in_row_of = refl; shallow = omega arith }; below = no_frame })

    ended : EndsAll (f.children, m.faults) m.frames m.remaining m.prev_end m.faults
    ended = subst (λ (z : List Frame). EndsAll (f.children, m.faults) z m.remaining m.prev_end m.faults) (sym e) (record {
      remaining = [];
      prev_end = m.prev_end;
      row_state = TextEnd · done;
      rest = blank;
      inside = [];
      opened = ap is_open h;
      reads = subst (λ (z : Position). Reads (kind_of f.head) f.depth m.prev_end (rest_at z) (TextEnd · done) f.children [] blank []) (sym x) end;
      span = record { items = l; item_end = refl };
      ends = (h, refl, refl, ⊕-blank f.children, append-nil m.faults);
    })

    by : EndsAll (f.children, m.faults) (initial_machine ts).frames ts 0 [] → (ts ≡ tokens_in f.children) × ReadsRoot f.children m.faults
    by w = (
      w.span.items ∙ ap (λ z. tokens_in w.rest ++ z) w.ends.2 ∙ append-nil (tokens_in w.rest) ∙ ap tokens_in w.ends.3,
      subst (λ (z : List Fault). ReadsRoot f.children z) w.ends.4 (subst (λ (z : AnnotatedForest). ReadsRoot z w.inside) w.ends.3
          (subst (λ (z : List Token). Reads NODE_ROOT 0 0 (rest_at (p.InRow ROOT)) (TextEnd · done) blank z w.rest w.inside) w.ends.2
          (subst (λ (z : Row). Reads NODE_ROOT 0 0 (rest_at (p.InRow ROOT)) z blank w.remaining w.rest w.inside) w.ends.1 w.reads))),
    )
