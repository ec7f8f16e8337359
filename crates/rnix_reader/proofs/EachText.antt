-- The machine reads each list of tokens to its end.
use Rattle.std.proofs.Common.{◌≡◌, ◌<◌, ◌+◌, ℕ, zero, suc, Bool, true, false, List, [], ◌∷◌, refl, sym, subst, arith}
use Rattle.{rnix_kinds.specs.{declared.kinds.SyntaxKind.TheVariants.NODE_ROOT, Lexical.Tokens.Lexeme}, rnix_green.specs.Tree.Tree}
use Rattle.rnix_grammar.specs.{declared.action.Action.Action, Fault.Fault, AnnotatedForest.{Token, placed_from, forget, head_kind, touches}, Layout.items}
use Rattle.rnix_grammar.specs.Actions.{action_at}
use Rattle.rnix_proof_lemmas.specs.FrameKinds.{AreStacked}
use Rattle.rnix_proof_lemmas.specs.Machine.{Frame, Machine, machine, initial_machine, with_leading, perform}
use Rattle.rnix_proof_lemmas.specs.Machine.{rest as here}
use Rattle.rnix_proof_lemmas.proofs.Basics.{true_is_not_false}
use Rattle.rnix_proof_lemmas.specs.Allowed.{Allowed}
use Rattle.rnix_proof_lemmas.specs.Document.{IsRead}
use Rattle.rnix_proof_lemmas.proofs.{StackedFrames.{step_stacked, initial_stacked}, AllowedLemmas.allowed}
use Rattle.rnix_proof_steps.{specs.StepCount.is_finish, proofs.BudgetedRuns.comes_before}
use Rattle.rnix_reader.{specs.Holds.IsThrough, proofs.{DocumentLemmas.{root_through, read_of}, WorkLemmas.{cost_of, perform_less}}}
use Rattle.rnix_grammar.specs.declared.action.Action.TheVariants as a

finish_is : (action : Action) → is_finish action ≡ true → action ≡ a.Finish
finish_is a.Finish e = refl
finish_is _ e = absurd (true_is_not_false (sym e))

-- a machine with less than `c` to do comes to its end
through : (c : ℕ) (fs : List Frame) (ts : List Token) (n : ℕ) (es : List Fault) → cost_of (machine fs ts n es) < c → AreStacked fs
    → IsThrough (machine fs ts n es)
through zero fs ts n es l k = absurd (omega (arith, l))
through (suc c) [] ts n es l k = absurd k
through (suc c) (f ∷ fs) ts n es l k = by (λ hs us m gs x y. through c hs us m gs x y) (is_finish action) refl
  where
    action : Action
    action = action_at f.position (head_kind (items ts)) (touches n (items ts))

    may : Allowed f.position (head_kind (items ts)) action
    may = allowed f.position (head_kind (items ts)) (touches n (items ts))

    next : Machine
    next = perform true action f fs ts n es

    by : ((hs : List Frame) (us : List Token) (m : ℕ) (gs : List Fault) → cost_of (machine hs us m gs) < c → AreStacked hs → IsThrough (machine hs us m gs))
        → (w : Bool) → is_finish action ≡ w → IsThrough (machine (f ∷ fs) ts n es)
    by again true e =
        let ends : Allowed f.position (head_kind (items ts)) a.Finish =
        subst (λ (x : Action). Allowed f.position (head_kind (items ts)) x) (finish_is action e) may in
        root_through f fs ts n es (record { runs = here; needed = tt; count = refl }) k ends
    by again false e =
        let less : cost_of next < cost_of (machine (f ∷ fs) ts n es) = perform_less f fs ts n es k action may e in
        let rest : IsThrough next =
        again next.frames next.remaining next.prev_end next.faults (omega (arith, less, l)) (step_stacked true (machine (f ∷ fs) ts n es) k) in
        record {
          last = rest.last;
          steps = rest.steps + 1;
          comes = comes_before rest.steps (machine (f ∷ fs) ts n es) rest.last e rest.comes;
          root = rest.root;
          alone = rest.alone;
          head = rest.head;
          position = rest.position;
          nothing = rest.nothing;
        }

-- the machine reads each list of tokens to its end
pub each_through : (ts : List Token) → IsThrough (initial_machine ts)
each_through ts = through (suc (cost_of (initial_machine ts))) (initial_machine ts).frames ts 0 [] (omega arith) (initial_stacked ts)

-- so each list of tokens is read as a tree with errors
pub each_read : (ls : List Lexeme) → (tree : Tree) × ((faults : List Fault) × IsRead ls tree faults)
each_read ls =
    let t : IsThrough (initial_machine (placed_from 0 ls)) = each_through (placed_from 0 ls) in
    let tree : Tree = record { kind = NODE_ROOT; children = forget (with_leading true t.root.children t.last.remaining) } in
    (tree, (t.last.faults, read_of ls t tree t.last.faults refl refl))
