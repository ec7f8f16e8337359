-- What it means that the steps read a forest, or an operand, over some items.
use Rattle.{std.proofs.Common.{◌≡◌, Bool, false, sym, subst, ℕ, ◌≤◌, true, List, ◌∷◌, ◌++◌}, rnix_kinds.specs.declared.kinds.SyntaxKind.SyntaxKind}
use Rattle.rnix_proof_lemmas.specs.Machine.{Machine, step, Runs, Head, Operand, Frame, machine, opened, kind_of, operand_on, rest as here, then as further}
use Rattle.{rnix_grammar.specs.FirstKinds.BeginsAs, rnix_proof_lemmas.proofs.{OpenHeads.is_open, FollowLemmas.FollowedTo, RestAt.rest_at}}
use Rattle.rnix_grammar.specs.{declared.position.Position.Position, Fault.Fault, AnnotatedForest.{Token, AnnotatedForest, ◌⊕◌, tokens_in, end_from}}
use Rattle.{rnix_grammar.specs.{TreeLevels.row_level, Rules.Row}, rnix_proof_uniqueness.proofs.OneAction.is_at}
use Rattle.rnix_grammar.specs.declared.position.Position.TheVariants as p

-- runs compose
pub runs_on : {trivia : Bool} {l m n : Machine} → Runs trivia l m → Runs trivia m n → Runs trivia l n
runs_on here r = r
runs_on (further q) r = further (runs_on q r)

-- a run to a machine is one to an equal machine
pub runs_to : {trivia : Bool} {l m n : Machine} → m ≡ n → Runs trivia l m → Runs trivia l n
runs_to {trivia = trivia} {l = l} e r = subst (λ (z : Machine). Runs trivia l z) e r

-- one step and a run are a run
pub step_to : {trivia : Bool} {l m n : Machine} → step trivia l ≡ m → Runs trivia m n → Runs trivia l n
step_to {trivia = trivia} {n = n} e r = further (subst (λ (z : Machine). Runs trivia z n) (sym e) r)

-- a run from a machine is one from an equal machine
pub runs_from : {l m n : Machine} → l ≡ m → Runs false m n → Runs false l n
runs_from {n = n} e r = subst (λ (z : Machine). Runs false z n) (sym e) r

-- The steps read a row on from a position to another, in any open frame whose node has the kind.
abbrev pub ReadsRow : SyntaxKind → ℕ → ℕ → Position → Position → AnnotatedForest → List Token → AnnotatedForest → List Fault → Type 0
ReadsRow k d n x y b us f es =
    (h : Head) (fs : List Frame) (gs : List Fault) → is_open h ≡ true → kind_of h ≡ k
    → Runs false (machine (opened h x d b ∷ fs) (tokens_in f ++ us) n gs) (machine (opened h y d (b ⊕ f) ∷ fs) us (end_from n (tokens_in f)) (gs ++ es))

-- The steps read a row to some position with this rest of the row.
pub record ReadsTo (k : SyntaxKind) (d n : ℕ) (x : Position) (s : Row) (b : AnnotatedForest) (us : List Token) (f : AnnotatedForest)
    (es : List Fault) : Type 0 where
  pub position : Position
  pub is : rest_at position ≡ s
  pub here : is_at k position ≡ true
  pub row : ReadsRow k d n x position b us f es

-- The steps have read a tree over some items as an operand.
pub record IsOperandRead (level d n : ℕ) (zs : List Token) (x : AnnotatedForest) (us : List Token) (ds : List Fault) (f : Frame) (fs : List Frame)
    (gs : List Fault) : Type 0 where
  pub max_bp : ℕ
  pub followed : FollowedTo max_bp x
  pub runs : Runs false (operand_on false level d f fs (zs ++ us) (zs ++ us) n gs)
      (machine (opened Operand (p.AfterOperand level max_bp) d x ∷ (f ∷ fs)) us (end_from n zs) (gs ++ ds))

-- The steps read a tree as an operand at each level that it fits and may begin at, whatever frame waits for it.
abbrev pub ReadsTree : ℕ → ℕ → List Token → AnnotatedForest → List Token → List Fault → Type 0
ReadsTree d n zs x us ds =
    (level : ℕ) (f : Frame) (fs : List Frame) (gs : List Fault) → level ≤ row_level x → BeginsAs level x (zs ++ us)
    → IsOperandRead level d n zs x us ds f fs gs
