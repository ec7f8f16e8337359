-- Items that begin alike and continue with one of the same kind: what this means for the first ones, and for the next one with another range.
use Rattle.std.proofs.Common.{ℕ, zero, suc, List, [], ◌∷◌, take, drop, Option, Some, ap, sym, ◌∙◌, nat_eq}
use Rattle.{rnix_kinds.specs.declared.kinds.SyntaxKind.SyntaxKind, rnix_grammar.specs.AnnotatedForest.{Token, end_from, touches}}
use Rattle.{rnix_proof_layout.specs.AlikeItems.{may_join, AreAlike}, rnix_proof_layout.proofs.{MovedItems.moved, Touch.last_kind}}
use Rattle.{rnix_proof_prefix.proofs.NewExtents.{beside_same, behind, TouchesAs}, rnix_proof_lookahead.specs.AlikeStarts.{AreNextAlike, BeginAlike, AreNext}}

-- the first `k` items are alike, and so are the next ones
pub parts : (k : ℕ) (prev : Option SyntaxKind) (n m : ℕ) (ts us : List Token) → BeginAlike k prev n m ts us
    → AreAlike prev n m (take k ts) (take k us)
    × AreNextAlike (last_kind prev (take k ts)) (end_from n (take k ts)) (end_from m (take k us)) (drop k ts) (drop k us)
parts zero prev n m ts us h = (tt, h)
parts (suc k) prev n m [] [] h = (tt, tt)
parts (suc k) prev n m [] (u ∷ us) h = absurd h
parts (suc k) prev n m (t ∷ ts) [] h = absurd h
parts (suc k) prev n m (t ∷ ts) (u ∷ us) h = let w = parts k (Some t.kind) t.end u.end ts us h.3 in ((h.0, h.1, h.2, w.0), w.1)

-- with its new range the next item touches the one before exactly if it does in the other list
pub next_touches : (prev : Option SyntaxKind) (n m : ℕ) (ts us : List Token) → AreNextAlike prev n m ts us → TouchesAs (touches n ts) prev m us
next_touches prev n m ts [] h = tt
next_touches prev n m [] (u ∷ us) h = absurd h
next_touches prev n m (t ∷ ts) (u ∷ us) h = λ j. sym (h.1 (ap (may_join prev) h.0 ∙ j))

pub next_on : (prev : Option SyntaxKind) (n m : ℕ) (ts us : List Token) → AreNextAlike prev n m ts us
    → AreNext n ts (moved us (behind (touches n ts) n us))
next_on prev n m [] [] h = tt
next_on prev n m [] (u ∷ us) h = absurd h
next_on prev n m (t ∷ ts) [] h = absurd h
next_on prev n m (t ∷ ts) (u ∷ us) h = (h.0, beside_same (nat_eq t.start n) n)
