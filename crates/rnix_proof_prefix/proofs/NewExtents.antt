-- Items that begin like others are read alike with other ranges: the shared ones with the ranges of the others, the next one touching these or not, as given.
use Rattle.std.proofs.Common.{◌≡◌, ℕ, zero, suc, Bool, true, false, List, [], ◌∷◌, ◌++◌, take, drop, Option, Some, None, refl, ap, sym, ◌∙◌, subst, arith, nat_eq}
use Rattle.{std.proofs.{Common.append-nil, lemmas.Bool.Decides.nat_tests}, rnix_kinds.specs.declared.kinds.SyntaxKind.{SyntaxKind, TheVariants.NODE_ROOT}}
use Rattle.{rnix_green.specs.Range.Extent, rnix_grammar.specs.{Fault.Fault, AnnotatedForest.{Token, AnnotatedForest, blank, tokens_in, forget, end_from, touches}}}
use Rattle.rnix_grammar.specs.{Reads.ReadsRoot, declared.rules.Part.TheVariants.TextEnd, Rules.{done, ◌·◌, row}}
use Rattle.{rnix_proof_lemmas.proofs.ReachableRows.known_row, rnix_proof_layout.specs.AlikeItems.{may_join, AreAlike, AreSameFaults}}
use Rattle.rnix_proof_layout.proofs.{MovedItems.{at, moved, moved_trees, tokens_moved, forget_moved}, Touch.{Touching, last_kind}}
use Rattle.rnix_proof_layout.proofs.{JoinedRows.row_joins, MovedReadings.{moves, IsMoved}}

-- where an item begins that touches the end of another, or not: there, or one byte later
abbrev pub beside : Bool → ℕ → ℕ
beside true n = n
beside false n = suc n

-- the ranges of items after one that ends at `n`: the first touches it or not, as given, and the others touch as before
abbrev pub behind : Bool → ℕ → List Token → List Extent
behind w n [] = []
behind w n (u ∷ us) = record { start = beside w n; end = beside w n } ∷ behind (touches u.end us) (beside w n) us

-- the first `k` items get the ranges of others, and the rest follow them
abbrev pub extents : ℕ → Bool → ℕ → List Token → List Token → List Extent
extents zero w n ts us = behind w n us
extents (suc k) w n [] us = []
extents (suc k) w n (t ∷ ts) [] = []
extents (suc k) w n (t ∷ ts) (u ∷ us) = record { start = t.start; end = t.end } ∷ extents k w t.end ts us

pub beside_same : (w : Bool) (n : ℕ) → w ≡ nat_eq (beside w n) n
beside_same true n = grind (arith, nat_tests)
beside_same false n = grind (arith, nat_tests)

-- the next item touches what ends at `m` as given, if a path may continue there
abbrev pub TouchesAs : Bool → Option SyntaxKind → ℕ → List Token → Type 0
TouchesAs w prev m [] = Unit {0}
TouchesAs w prev m (u ∷ us) = may_join prev u.kind ≡ true → nat_eq u.start m ≡ w

pub own_touch : (prev : Option SyntaxKind) (m : ℕ) (us : List Token) → TouchesAs (touches m us) prev m us
own_touch prev m [] = tt
own_touch prev m (u ∷ us) = λ j. refl

-- with the new ranges, items touch as before
behind_touching : (w : Bool) (prev : Option SyntaxKind) (n m : ℕ) (us : List Token) → TouchesAs w prev m us → Touching prev m n us (behind w n us)
behind_touching w prev n m [] h = tt
behind_touching w prev n m (u ∷ us) h =
    (λ j. h j ∙ beside_same w n, behind_touching (touches u.end us) (Some u.kind) (beside w n) u.end us (own_touch (Some u.kind) u.end us))

touching : (k : ℕ) (w : Bool) (prev : Option SyntaxKind) (n m : ℕ) (ts us : List Token) → AreAlike prev n m (take k ts) (take k us)
    → TouchesAs w (last_kind prev (take k ts)) (end_from m (take k us)) (drop k us) → Touching prev m n us (extents k w n ts us)
touching zero w prev n m ts us h g = behind_touching w prev n m us g
touching (suc k) w prev n m [] [] h g = tt
touching (suc k) w prev n m [] (u ∷ us) h g = absurd h
touching (suc k) w prev n m (t ∷ ts) [] h g = absurd h
touching (suc k) w prev n m (t ∷ ts) (u ∷ us) h g = (
  λ j. sym (h.2 (ap (may_join prev) h.0 ∙ j)),
  subst (λ z. Touching (Some z) u.end t.end us (extents k w t.end ts us)) h.0 (touching k w (Some t.kind) t.end u.end ts us h.3 g),
)

-- an item with its new range is the other item
token_is : (t u : Token) → t.kind ≡ u.kind → t.text ≡ u.text → at u (record { start = t.start; end = t.end } ∷ []) ≡ t
token_is t u e h = λ i. record { kind = sym e i; text = sym h i; start = t.start; end = t.end }

begins : (k : ℕ) (w : Bool) (prev : Option SyntaxKind) (n m : ℕ) (ts us : List Token) → AreAlike prev n m (take k ts) (take k us)
    → moved us (extents k w n ts us) ≡ take k ts ++ moved (drop k us) (behind w (end_from n (take k ts)) (drop k us))
begins zero w prev n m ts us h = refl
begins (suc k) w prev n m [] [] h = refl
begins (suc k) w prev n m [] (u ∷ us) h = absurd h
begins (suc k) w prev n m (t ∷ ts) [] h = absurd h
begins (suc k) w prev n m (t ∷ ts) (u ∷ us) h =
    ap (λ z. z ∷ moved us (extents k w t.end ts us)) (token_is t u h.0 h.1) ∙ ap (λ z. t ∷ z) (begins k w (Some t.kind) t.end u.end ts us h.3)

no_fault : (xs ys : List Token) (es : List Fault) → AreSameFaults xs ys [] es → es ≡ []
no_fault xs ys [] h = refl
no_fault xs ys (e ∷ es) h = absurd h

-- so a reading of these items is one of the other items with theirs after them, and has the same trees
pub record ReadsOn (k : ℕ) (w : Bool) (ts : List Token) (g : AnnotatedForest) (es : List Fault) : Type 0 where
  pub trees : AnnotatedForest
  pub faults : List Fault
  pub reads : ReadsRoot trees faults
  pub all : tokens_in trees ≡ take k ts ++ moved (drop k (tokens_in g)) (behind w (end_from 0 (take k ts)) (drop k (tokens_in g)))
  pub same : forget trees ≡ forget g
  pub none : es ≡ [] → faults ≡ []

pub reads_on : (k : ℕ) (w : Bool) (ts : List Token) (g : AnnotatedForest) (es : List Fault) → ReadsRoot g es
    → AreAlike None 0 0 (take k ts) (take k (tokens_in g))
    → TouchesAs w (last_kind None (take k ts)) (end_from 0 (take k (tokens_in g))) (drop k (tokens_in g)) → ReadsOn k w ts g es
reads_on k w ts g es r alike next =
    let ys : List Token = tokens_in g in
    let qs : List Extent = extents k w 0 ts ys in
    let whole : ys ≡ ys ++ [] = sym (append-nil ys) in
    let there : IsMoved ys qs qs NODE_ROOT 0 0 (row NODE_ROOT) (TextEnd · done) None blank [] g es =
    moves r ys qs (known_row NODE_ROOT) None 0 blank [] qs refl whole refl (row_joins NODE_ROOT None (ys ++ []))
    (subst (λ z. Touching None 0 0 z qs) whole (touching k w None 0 0 ts ys alike next)) in
    record {
      trees = moved_trees g qs;
      faults = there.faults;
      reads = there.reads;
      all = tokens_moved g qs ∙ begins k w None 0 0 ts ys alike;
      same = forget_moved g qs;
      none = λ e. no_fault ys (moved ys qs) there.faults (subst (λ z. AreSameFaults ys (moved ys qs) z there.faults) e there.same);
    }
