-- The elements after a node on its line.
use Rattle.std.proofs.Common.{◌≡◌, ℕ, List, ◌∷◌, drop, Option, Some, None, sym, ap, ◌∙◌}
use Rattle.std.specs.{Iterator.YieldsFirstBy}
use Rattle.rnix_green.specs.{Tree.{Located}, Walk.Spot}
use Rattle.rnix_tree.specs.{Spots.spot_of, declared.element.NodeOrToken.NodeOrToken}
use Rattle.rnix_edit.specs.declared.line.{Part.Part, RestOfLine.RestOfLine}
use Rattle.rnix_edit.specs.Line.{part_of, rest_after, rest_from, token_start, closing_from}

-- removing the first element of a walk
pub first_dropped : (old new : List Spot) (first : Option (NodeOrToken Located Located)) →
    YieldsFirstBy spot_of (λ (s : List Spot). s) old first new → new ≡ drop 1 old
first_dropped old new None none = none.1 ∙ sym (ap (drop 1) none.0)
first_dropped old new (Some element) next = sym (ap (drop 1) next)

-- passing one more element after the node
pub element_passed : (spots more : List Spot) (spot : Spot) (comments end : ℕ) (all : Option RestOfLine) (part : Part) → rest_from spots comments end ≡ all →
    spots ≡ spot ∷ more → part_of spot ≡ part → rest_after spot part (rest_from more) comments end ≡ all
element_passed spots more spot comments end all part so_far next is =
    sym (ap (λ s. rest_from s comments end) next ∙ ap (λ p. rest_after spot p (rest_from more) comments end) is) ∙ so_far

-- passing one more child
pub child_passed : (spots more : List Spot) (spot : Spot) (end closing new all : ℕ) → closing_from spots end closing ≡ all → spots ≡ spot ∷ more →
    new ≡ token_start end spot → closing_from more end new ≡ all
child_passed spots more spot end closing new all so_far next is = ap (closing_from more end) is ∙ sym (ap (λ s. closing_from s end closing) next) ∙ so_far
