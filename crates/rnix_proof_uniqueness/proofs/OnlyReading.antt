-- How certain texts are read: the steps compute the one reading of their items.
use Rattle.{std.proofs.Common.{◌≡◌, ℕ, zero, suc, false, List, [], ◌∷◌, refl, sym, subst}, rnix_kinds.specs.declared.kinds.SyntaxKind.SyntaxKind}
use Rattle.{rnix_kinds.specs.{declared.kinds.SyntaxKind.TheVariants.{NODE_ROOT, NODE_ERROR}, Lexical.Tokens.tokens_of}, rnix_grammar.specs.Fault.Fault}
use Rattle.rnix_grammar.specs.AnnotatedForest.{Token, Note, AnnotatedForest, blank, token, branch, fault, leaf_kind, tokens_in, end_from, placed_from}
use Rattle.{rnix_grammar.specs.{Layout.{items, tail_of}, Reads.ReadsRoot}, rnix_proof_lemmas.{specs.{Machine.{Machine, initial_machine, step, Runs, rest as here}}}}
use Rattle.{rnix_proof_lemmas.{specs.{Machine.{then as further}}}, rnix_proof_uniqueness.proofs.AllReads.{ended_with, ended_once, reads_runs}}

-- a forest without its items: each leaf stands for the next one
pub data Shape : Type 0 where
  done : Shape
  item : Shape → Shape
  node : SyntaxKind → Shape → Shape → Shape
  wrong : Note → Shape → Shape → Shape

-- the items that remain after those of the forest
abbrev pub unfilled : Shape → List Token → List Token
unfilled done ts = ts
unfilled (item f) ts = unfilled f (tail_of ts)
unfilled (node k c f) ts = unfilled f (unfilled c ts)
unfilled (wrong n c f) ts = unfilled f (unfilled c ts)

-- the children of a node, filled with its items
abbrev pub filled : SyntaxKind → Shape → List Token → AnnotatedForest
filled p done ts = blank
filled p (item f) [] = blank
filled p (item f) (t ∷ ts) = token (leaf_kind p t) t (filled p f ts)
filled p (node k c f) ts = branch k (filled k c ts) (filled p f (unfilled c ts))
filled p (wrong n c f) ts = fault n (filled NODE_ERROR c ts) (filled p f (unfilled c ts))

-- `n` steps of a machine
abbrev pub steps : ℕ → Machine → Machine
steps zero m = m
steps (suc n) m = steps n (step false m)

-- trees below the root, and their errors
abbrev pub Reading : Type 0
Reading = Shape × List Fault

-- the trees of a reading, filled with the items
abbrev pub trees_in : Reading → List Token → AnnotatedForest
trees_in r ts = filled NODE_ROOT r.0 ts

-- the machine that has read all items, with these trees and errors
abbrev pub end_with : List Token → Reading → Machine
end_with ts r = ended_with (trees_in r ts) (end_from 0 ts) r.1

-- each reading of some items has these trees and errors
abbrev pub IsReadAs : List Token → Reading → Type 0
IsReadAs ts right = (f : AnnotatedForest) (faults : List Fault) → tokens_in f ≡ ts → ReadsRoot f faults → (trees_in right ts ≡ f) × (right.1 ≡ faults)

-- a text, and how it is read
pub record Case : Type 0 where
  pub text : List ℕ
  pub right : Reading

-- the items of such a text
abbrev pub items_of : Case → List Token
items_of c = items (placed_from 0 (tokens_of c.text))

-- each reading of the text's items is this one
abbrev pub Holds : Case → Type 0
Holds c = IsReadAs (items_of c) c.right

steps_run : (n : ℕ) (m : Machine) → Runs false m (steps n m)
steps_run zero m = here
steps_run (suc n) m = further (steps_run n (step false m))

-- if the steps end with some trees and errors, each reading of these items has the same
same : (ts : List Token) (f g : AnnotatedForest) (n : ℕ) (es fs : List Fault)
    → Runs false (initial_machine ts) (ended_with f n es) → tokens_in g ≡ ts → ReadsRoot g fs → (f ≡ g) × (es ≡ fs)
same ts f g n es fs r e w =
    let k = end_from 0 (tokens_in g) in
    let h = ended_once ts f n es (ended_with g k fs) r (subst (λ (z : List Token). Runs false (initial_machine z) (ended_with g k fs)) e (reads_runs g fs w))
    refl in
    (sym h.0, sym h.1)

-- the steps give this reading of the text; none of the examples needs more steps than this number
abbrev pub IsMade : Case → Type 0
IsMade c = steps 60 (initial_machine (items_of c)) ≡ end_with (items_of c) c.right

-- if the steps give this reading of a text, it is the only one
pub holds : (c : Case) → IsMade c → Holds c
holds c e f faults h w =
    same (items_of c) (trees_in c.right (items_of c)) f (end_from 0 (items_of c)) c.right.1 faults
    (subst (Runs false (initial_machine (items_of c))) e (steps_run 60 (initial_machine (items_of c)))) h w
