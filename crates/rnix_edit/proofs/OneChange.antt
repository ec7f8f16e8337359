-- A text with one change.
use Rattle.std.proofs.Common.{◌≡◌, ℕ, List, [], ◌∷◌, ◌++◌, take, drop, ap, arith}
use Rattle.rnix_text.specs.Changes.{Change, Draft, changed_from, IsAdded}

-- a change that is added to no others is the only one
only_one : (c : Change) (front back old new : List Change) → old ≡ [] → old ≡ front ++ back → new ≡ front ++ c ∷ back → new ≡ c ∷ []
only_one c [] [] old new none parts is = is
only_one c [] (b ∷ back) old new none parts is = grind (arith, none, parts, is)
only_one c (a ∷ front) back old new none parts is = grind (arith, none, parts, is)

-- the text of a draft with only this change is the text with the change
pub only_change : (c : Change) (text made : List ℕ) (old new : Draft) → old ≡ record { text = text; changes = [] } →
    new.text ≡ old.text → IsAdded c old.changes new.changes → made ≡ changed_from 0 new.changes new.text →
    made ≡ take c.start text ++ (c.new ++ drop c.end text)
only_change c text made old new start same added is =
    let alone : new.changes ≡ c ∷ [] = only_one c added.front added.back old.changes new.changes (ap (λ d. d.changes) start) added.old_is added.new_is in
    let kept : old.text ≡ text = ap (λ d. d.text) start in
    let one : changed_from 0 (c ∷ []) text ≡ take c.start text ++ (c.new ++ drop c.end text) =
    ap (λ n. take n text ++ (c.new ++ drop c.end text)) (omega arith) in
    grind (arith, alone, kept, same, one, is)
