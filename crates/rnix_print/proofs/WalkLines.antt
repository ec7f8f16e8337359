-- The lines that a walk prints.
use Rattle.std.proofs.Common.{◌≡◌, ℕ, ◌+◌, ◌*◌, ◌≤◌, false, nat_lt, List, ◌∷◌, ◌++◌, take, refl, ap, sym, ◌∙◌, arith, append_assoc}
use Rattle.{std.{proofs.lemmas.Bool.Decides.nat_tests, specs.Prelude.{decimal, codes, if◌then◌else◌}}, rnix_green.specs.{Tree.Located, Walk.Event}}
use Rattle.rnix_tree.specs.{Spots.{event_of, spot_of, located_of}, declared.element.{NodeOrToken.{NodeOrToken, TheVariants.{Node, Token}}, WalkEvent.WalkEvent}}
use Rattle.{rnix_tree.{specs.{declared.element.WalkEvent.TheVariants.Enter, Lines.indent}, proofs.LineLemmas.indent_front}, rnix_print.specs.OutputLines.margin}
use Rattle.rnix_print.specs.OutputLines.{element_line, walk_lines}

-- the spaces before a line that is at most 100 levels deep
pub margin_spaces : (depth : ℕ) → depth ≤ 100 → take (2 * depth) (indent 100) ≡ margin depth
margin_spaces depth h =
    let low : nat_lt 100 depth ≡ false = grind (arith, nat_tests) in
    indent_front depth 100 h ∙ sym (ap (λ b. if b then decimal depth ++ codes " " else indent depth) low)

-- the spot of an element is that of the element's location
located_is : (e : NodeOrToken Located Located) → (spot_of e).1 ≡ located_of e
located_is (Node e) = refl
located_is (Token e) = refl

-- when an element is entered, its line follows the lines so far
pub entered : (bs all : List ℕ) (depth : ℕ) (remaining rest : List Event) (event : WalkEvent (NodeOrToken Located Located)) (e : NodeOrToken Located Located)
    → bs ++ walk_lines depth remaining ≡ all → remaining ≡ event_of event ∷ rest → event ≡ Enter e
    → (bs ++ element_line depth (located_of e)) ++ walk_lines (depth + 1) rest ≡ all
entered bs all depth remaining rest event e h steps is =
    append_assoc bs (element_line depth (located_of e)) (walk_lines (depth + 1) rest)
    ∙ ap (λ x. bs ++ (element_line depth x ++ walk_lines (depth + 1) rest)) (sym (located_is e))
    ∙ ap (λ x. bs ++ walk_lines depth (event_of x ∷ rest)) (sym is)
    ∙ ap (λ x. bs ++ walk_lines depth x) (sym steps)
    ∙ h
