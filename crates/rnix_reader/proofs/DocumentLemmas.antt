-- Reading a whole text.
use Rattle.std.proofs.Common.{◌≡◌, ℕ, true, List, [], ◌∷◌, ◌++◌, map, refl, ap, sym, ◌∙◌, subst}
use Rattle.{rnix_kinds.specs.{declared.kinds.SyntaxKind.TheVariants.NODE_ROOT, Lexical.Tokens.Lexeme}, rnix_green.specs.Forest.{Forest, empty, node}}
use Rattle.rnix_green.specs.{Forest.tree_count, Draft.{Draft, blank, node_opened}, Tree.{Tree, forest_of}}
use Rattle.rnix_grammar.specs.{declared.{error.ParseError.ParseError, slot_table.TheConstants.ROOT}, Fault.{Fault, fault_of}, Layout.items}
use Rattle.rnix_proof_lemmas.specs.Document.{IsRead}
use Rattle.rnix_grammar.specs.AnnotatedForest.{Token, placed_from, forget, head_kind}
use Rattle.rnix_proof_lemmas.specs.Allowed.{Allowed}
use Rattle.rnix_proof_lemmas.specs.FrameKinds.{frame_kind, IsStackedOn}
use Rattle.rnix_proof_lemmas.specs.Machine.{Frame, Machine, machine, initial_machine, with_leading}
use Rattle.rnix_proof_steps.specs.StepCount.{ComesIn}
use Rattle.{rnix_proof_lemmas.proofs.StackedFrames.{head_root, root_alone}, rnix_reader.specs.{declared.mark.Mark.Mark, State.{State, pushed}, Erase.{erase, mark_at}, Holds.{IsReadTo, IsThrough}}}
use Rattle.rnix_reader.proofs.{FrameKindLemmas.head_sort, StateLemmas.state_is, SkippedRuns.no_items}
use Rattle.rnix_grammar.specs.declared.position.Position.TheVariants as p
use Rattle.rnix_grammar.specs.declared.action.Action.TheVariants as a

-- before the first step the reader's state is that of a machine in which the root is open
pub opened_root : (r : List Token) (b b0 : Draft) (errors : List ParseError) (marks : List Mark) (at : ℕ) (s : State) → b0 ≡ blank
    → b ≡ node_opened NODE_ROOT (tree_count b0.finished) b0
    → errors ≡ [] → marks ≡ [] → at ≡ tree_count b0.finished
    → s ≡ pushed (mark_at (p.InRow ROOT) 0 at) record {
      rest = r;
      trees = b.finished;
      open_nodes = b.open_nodes;
      faults = map fault_of errors;
      prev_end = 0;
      marks = marks;
    }
    → s ≡ erase (initial_machine s.rest)
unfolding pushed
opened_root r b b0 errors marks at s e0 e1 e2 e3 e4 e =
    let builder : b ≡ node_opened NODE_ROOT 0 blank = e1 ∙ ap (λ x. node_opened NODE_ROOT (tree_count x.finished) x) e0 in
    let first : s ≡ erase (initial_machine r) =
    e ∙ state_is refl (ap (λ x. x.finished) builder) (ap (λ x. x.open_nodes) builder) (ap (map fault_of) e2) refl
    (ap (λ x. x ++ mark_at (p.InRow ROOT) 0 at ∷ []) e3 ∙ ap (λ x. mark_at (p.InRow ROOT) 0 x ∷ []) (e4 ∙ ap (λ x. tree_count x.finished) e0)) in
    first ∙ ap (λ x. erase (initial_machine x)) (sym (ap (λ x. x.rest) first))

tree_is_node : (t : Tree) (f : Forest) → forest_of t ≡ node NODE_ROOT f empty → t ≡ record { kind = NODE_ROOT; children = f }
tree_is_node t f e =
    let kinds : t.kind ≡ NODE_ROOT = cc in
    let trees : t.children ≡ f = cc in
    ap (λ x. let y : Tree = record { kind = x; children = t.children } in y) kinds
    ∙ ap (λ x. let y : Tree = record { kind = NODE_ROOT; children = x } in y) trees

-- a machine that ends with the root alone has read the text
abbrev pub root_through : {steps : ℕ} {from : Machine} (f : Frame) (fs : List Frame) (ts : List Token) (n : ℕ) (es : List Fault)
    → ComesIn steps from (machine (f ∷ fs) ts n es)
    → IsStackedOn f.head f.position fs → Allowed f.position (head_kind (items ts)) a.Finish → IsThrough from
root_through {steps} {from} f fs ts n es comes fit ends = record {
  last = machine (f ∷ fs) ts n es;
  steps = steps;
  comes = comes;
  root = f;
  alone = ap (λ x. f ∷ x) (root_alone f.head f.position fs fit (ap frame_kind ends.0));
  head = head_root f.head (head_sort f.head f.position fs fit ∙ ap frame_kind ends.0);
  position = ends.0;
  nothing = no_items (items ts) ends.1;
}

-- then the tree and the errors are those of the reading
pub read_of : (ls : List Lexeme) (t : IsThrough (initial_machine (placed_from 0 ls))) (tree : Tree) (faults : List Fault)
    → tree ≡ record { kind = NODE_ROOT; children = forget (with_leading true t.root.children t.last.remaining) } → faults ≡ t.last.faults
    → IsRead ls tree faults
read_of ls t tree faults e f = record {
  root = t.root;
  last = t.last;
  runs = t.comes.runs;
  alone = t.alone;
  head = t.head;
  position = t.position;
  nothing = t.nothing;
  tree_is = e;
  faults_are = f;
}

-- so they are for the reader's state
pub read_made : {Counted : ℕ → Type 0} (ls : List Lexeme) (ts : List Token) (s : State) (tree : Tree) → ts ≡ placed_from 0 ls → IsReadTo Counted ts s
    → forest_of tree ≡ s.trees → IsRead ls tree s.faults
read_made {Counted} ls ts s tree e r t =
    let all : IsReadTo Counted (placed_from 0 ls) s = subst (λ x. IsReadTo Counted x s) e r in
    read_of ls all.through tree s.faults (tree_is_node tree (forget (with_leading true all.through.root.children all.through.last.remaining)) (t
    ∙ all.trees)) all.faults

-- one more mark leaves the tokens as they are
pub rest_marked : (m : Mark) (s s' : State) → s' ≡ pushed m s → s'.rest ≡ s.rest
unfolding pushed
rest_marked m s s' e = ap (λ x. x.rest) e
