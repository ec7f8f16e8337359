-- Items that are alike are read as the same tree, with the same errors.
use Rattle.std.proofs.{Common.{◌≡◌, ℕ, List, [], ◌∷◌, ◌++◌, Option, Some, None, refl, ap, sym, ◌∙◌, subst}, lemmas.List.append-nil}
use Rattle.{rnix_kinds.specs.declared.kinds.SyntaxKind.{SyntaxKind, TheVariants.NODE_ROOT}, rnix_green.specs.Range.Extent, rnix_grammar.specs.Fault.Fault}
use Rattle.rnix_grammar.specs.{AnnotatedForest.{Token, AnnotatedForest, blank, tokens_in, forget}, declared.rules.Part.TheVariants.TextEnd, Rules.{done, ◌·◌}}
use Rattle.{rnix_grammar.specs.{Rules.row, Reads.ReadsRoot}, rnix_proof_lemmas.proofs.ReachableRows.known_row, rnix_proof_layout.specs.AlikeItems.AreAlike}
use Rattle.rnix_proof_layout.{specs.AlikeItems.AreSameFaults, proofs.{MovedItems.{at, moved, moved_trees, tokens_moved, forget_moved}, Touch.Touching}}
use Rattle.rnix_proof_layout.proofs.{JoinedRows.row_joins, MovedReadings.{moves, IsMoved}}

-- the ranges of some items
abbrev extents : List Token → List Extent
extents [] = []
extents (t ∷ ts) = record { start = t.start; end = t.end } ∷ extents ts

-- items that are alike are the same except for their ranges
token_is : (t u : Token) → t.kind ≡ u.kind → t.text ≡ u.text → at t (record { start = u.start; end = u.end } ∷ []) ≡ u
token_is t u e h = λ i. record { kind = e i; text = h i; start = u.start; end = u.end }

moved_is : (prev : Option SyntaxKind) (n m : ℕ) (xs ys : List Token) → AreAlike prev n m xs ys → moved xs (extents ys) ≡ ys
moved_is prev n m [] [] h = refl
moved_is prev n m (t ∷ ts) (u ∷ us) h =
    ap (λ x. x ∷ moved ts (extents us)) (token_is t u h.0 h.1) ∙ ap (λ xs. u ∷ xs) (moved_is (Some t.kind) t.end u.end ts us h.3)
moved_is prev n m [] (u ∷ us) h = absurd h
moved_is prev n m (t ∷ ts) [] h = absurd h

alike_touching : (prev : Option SyntaxKind) (n m : ℕ) (xs ys : List Token) → AreAlike prev n m xs ys → Touching prev n m xs (extents ys)
alike_touching prev n m [] [] h = tt
alike_touching prev n m (t ∷ ts) (u ∷ us) h = (h.2, alike_touching (Some t.kind) t.end u.end ts us h.3)
alike_touching prev n m [] (u ∷ us) h = absurd h
alike_touching prev n m (t ∷ ts) [] h = absurd h

-- the items have only one reading
abbrev pub OneRow : Type 0
OneRow = (f g : AnnotatedForest) (ds es : List Fault) → ReadsRoot f ds → ReadsRoot g es → tokens_in f ≡ tokens_in g → (f ≡ g) × (ds ≡ es)

-- so readings of items that are alike are the same except for ranges
pub alike_readings : (one : OneRow) (f g : AnnotatedForest) (ds es : List Fault) → ReadsRoot f ds → ReadsRoot g es
    → AreAlike None 0 0 (tokens_in f) (tokens_in g)
    → (forget f ≡ forget g) × AreSameFaults (tokens_in f) (tokens_in g) ds es
alike_readings one f g ds es r s alike =
    let xs : List Token = tokens_in f in
    let ys : List Token = tokens_in g in
    let qs : List Extent = extents ys in
    let whole : xs ≡ xs ++ [] = sym (append-nil xs) in
    let other : moved xs qs ≡ ys = moved_is None 0 0 xs ys alike in
    let there : IsMoved xs qs qs NODE_ROOT 0 0 (row NODE_ROOT) (TextEnd · done) None blank [] f ds =
    moves r xs qs (known_row NODE_ROOT) None 0 blank [] qs refl whole refl (row_joins NODE_ROOT None (xs ++ []))
    (subst (λ z. Touching None 0 0 z qs) whole (alike_touching None 0 0 xs ys alike)) in
    let same : (moved_trees f qs ≡ g) × (there.faults ≡ es) = one (moved_trees f qs) g there.faults es there.reads s (tokens_moved f qs ∙ other) in
    (sym (forget_moved f qs) ∙ ap forget same.0, subst (AreSameFaults xs ys ds) same.1 (subst (λ z. AreSameFaults xs z ds there.faults) other there.same))
