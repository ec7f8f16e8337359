-- If each node of a forest begins and ends with items, this still holds when the children of one node are replaced by others that do.
use Rattle.std.proofs.Common.{List, [], ◌∷◌, ◌++◌}
use Rattle.rnix_kinds.specs.declared.kinds.SyntaxKind.{SyntaxKind}
use Rattle.rnix_grammar.specs.AnnotatedForest.{Token, AnnotatedForest, tokens_in}
use Rattle.rnix_proof_reparse.proofs.SwappedNodes.{Swapped, here, past_token, past_branch, past_fault, inside}
use Rattle.rnix_proof_reparse.proofs.PlacedAgain.{StartsWithItem, StopsWithItem, HaveItemEdges, stops_second}

starts_more : (ts us : List Token) → StartsWithItem ts → StartsWithItem (ts ++ us)
starts_more [] us h = absurd h
starts_more (t ∷ ts) us h = h

-- there is a token
abbrev pub AreSome : List Token → Type 0
AreSome [] = ⊥
AreSome (t ∷ ts) = Unit {0}

pub some_first : (ts us : List Token) → AreSome ts → AreSome (ts ++ us)
some_first [] us h = absurd h
some_first (t ∷ ts) us h = tt

pub some_second : (ts us : List Token) → AreSome us → AreSome (ts ++ us)
some_second [] us h = h
some_second (t ∷ ts) us h = tt

starts_some : (ts : List Token) → StartsWithItem ts → AreSome ts
starts_some [] h = absurd h
starts_some (t ∷ ts) h = tt

stops_cons : (t : Token) (ts : List Token) → AreSome ts → StopsWithItem ts → StopsWithItem (t ∷ ts)
stops_cons t [] a h = absurd a
stops_cons t (u ∷ ts) a h = h

stops_both : (ts us : List Token) → StopsWithItem ts → StopsWithItem us → StopsWithItem (ts ++ us)
stops_both [] us h g = g
stops_both (t ∷ []) [] h g = h
stops_both (t ∷ []) (u ∷ us) h g = g
stops_both (t ∷ (v ∷ ts)) us h g = stops_both (v ∷ ts) us h g

pub stops_later : (ts us : List Token) → AreSome us → StopsWithItem us → StopsWithItem (ts ++ us)
stops_later [] us a h = h
stops_later (t ∷ ts) us a h = stops_cons t (ts ++ us) (some_second ts us a) (stops_later ts us a h)

-- the new children begin and end with items
pub record HasItemEdges (e : AnnotatedForest) : Type 0 where
  pub starts : StartsWithItem (tokens_in e)
  pub stops : StopsWithItem (tokens_in e)
  pub nodes : HaveItemEdges e

module _ {k : SyntaxKind} {c e : AnnotatedForest} (new : HasItemEdges e) where
  some_swapped : {f g : AnnotatedForest} → Swapped k c e f g → AreSome (tokens_in g)
  some_swapped (here {f = f}) = some_first (tokens_in e) (tokens_in f) (starts_some (tokens_in e) new.starts)
  some_swapped (past_token s) = tt
  some_swapped (past_branch {d = d} {g = g} s) = some_second (tokens_in d) (tokens_in g) (some_swapped s)
  some_swapped (past_fault {d = d} {g = g} s) = some_second (tokens_in d) (tokens_in g) (some_swapped s)
  some_swapped (inside {h = h} {f = f} s) = some_first (tokens_in h) (tokens_in f) (some_swapped s)

  starts_swapped : {f g : AnnotatedForest} → Swapped k c e f g → HaveItemEdges f → StartsWithItem (tokens_in f) → StartsWithItem (tokens_in g)
  starts_swapped (here {f = f}) h w = starts_more (tokens_in e) (tokens_in f) new.starts
  starts_swapped (past_token s) h w = w
  starts_swapped (past_branch {d = d} {g = g} s) h w = starts_more (tokens_in d) (tokens_in g) h.0
  starts_swapped (past_fault s) h w = absurd h
  starts_swapped (inside {h = y} {f = f} s) h w = starts_more (tokens_in y) (tokens_in f) (starts_swapped s h.2 h.0)

  stops_swapped : {f g : AnnotatedForest} → Swapped k c e f g → HaveItemEdges f → StopsWithItem (tokens_in f) → StopsWithItem (tokens_in g)
  stops_swapped (here {f = f}) h w = stops_both (tokens_in e) (tokens_in f) new.stops (stops_second (tokens_in c) (tokens_in f) w)
  stops_swapped (past_token {t = t} {f = f} {g = g} s) h w =
      stops_cons t (tokens_in g) (some_swapped s) (stops_swapped s h (stops_second (t ∷ []) (tokens_in f) w))
  stops_swapped (past_branch {d = d} {f = f} {g = g} s) h w =
      stops_later (tokens_in d) (tokens_in g) (some_swapped s) (stops_swapped s h.3 (stops_second (tokens_in d) (tokens_in f) w))
  stops_swapped (past_fault s) h w = absurd h
  stops_swapped (inside {d = d} {h = y} {f = f} s) h w =
      stops_both (tokens_in y) (tokens_in f) (stops_swapped s h.2 h.1) (stops_second (tokens_in d) (tokens_in f) w)

  pub edges_swapped : {f g : AnnotatedForest} → Swapped k c e f g → HaveItemEdges f → HaveItemEdges g
  edges_swapped here h = (new.starts, new.stops, new.nodes, h.3)
  edges_swapped (past_token s) h = edges_swapped s h
  edges_swapped (past_branch s) h = (h.0, h.1, h.2, edges_swapped s h.3)
  edges_swapped (past_fault s) h = absurd h
  edges_swapped (inside s) h = (starts_swapped s h.2 h.0, stops_swapped s h.2 h.1, edges_swapped s h.2, h.3)
