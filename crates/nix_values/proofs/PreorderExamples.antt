-- Values, and their order.
use Rattle.std.proofs.Common.{◌≡◌, ℕ, List, [], ◌∷◌, Some, None, refl}
use Rattle.std.specs.Prelude.{pos}
use Rattle.nix_values.specs.Contents.{Plain, integer, set, list, Entry}
use Rattle.nix_values.specs.Built.{Built}
use Rattle.nix_values.specs.Preorder.{descendants, preorder}

abbrev inside : ℕ → List ℕ → Plain → Built
inside parent name plain = record { parent = Some parent; name = name; plain = plain }

abbrev outermost : Plain → Built
outermost plain = record { parent = None; name = []; plain = plain }

abbrev at : ℕ → List ℕ → Plain → Entry
at depth name plain = record { depth = depth; name = name; plain = plain }

abbrev number : ℕ → Plain
number n = integer (pos n)

nothing : preorder [] ≡ []
unfolding descendants
nothing = refl

-- { a.b = 1; c = 2; a.d = 3; }: `d` was added after `c`, but is inside `a`
merged : preorder
    (outermost set ∷ inside 0 (97 ∷ []) set ∷ inside 1 (98 ∷ []) (number 1) ∷ inside 0 (99 ∷ []) (number 2) ∷ inside 1 (100 ∷ []) (number 3) ∷ [])
    ≡ at 0 [] set ∷ at 1 (97 ∷ []) set ∷ at 2 (98 ∷ []) (number 1) ∷ at 2 (100 ∷ []) (number 3) ∷ at 1 (99 ∷ []) (number 2) ∷ []
unfolding descendants
merged = refl

-- values that are in order stay as they are: [ 1 [ 2 ] 3 ]
in_order : preorder (outermost list ∷ inside 0 [] (number 1) ∷ inside 0 [] list ∷ inside 2 [] (number 2) ∷ inside 0 [] (number 3) ∷ [])
    ≡ at 0 [] list ∷ at 1 [] (number 1) ∷ at 1 [] list ∷ at 2 [] (number 2) ∷ at 1 [] (number 3) ∷ []
unfolding descendants
in_order = refl

-- several outermost values: what is inside each comes before the next
several : preorder (outermost list ∷ outermost set ∷ inside 0 [] (number 1) ∷ inside 1 (97 ∷ []) (number 2) ∷ [])
    ≡ at 0 [] list ∷ at 1 [] (number 1) ∷ at 0 [] set ∷ at 1 (97 ∷ []) (number 2) ∷ []
unfolding descendants
several = refl

-- a value inside itself or inside a later one is outermost
no_parent : preorder (inside 0 [] list ∷ inside 2 [] (number 1) ∷ inside 0 [] (number 2) ∷ [])
    ≡ at 0 [] list ∷ at 1 [] (number 2) ∷ at 0 [] (number 1) ∷ []
unfolding descendants
no_parent = refl
