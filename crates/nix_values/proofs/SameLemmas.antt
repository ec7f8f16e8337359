-- Lists that are equal element by element.
use Rattle.std.proofs.Common.{◌≡◌, ◌∙◌, ℕ, ◌+◌, ◌<◌, List, [], ◌∷◌, ◌++◌, length, get_or, take, map, ap, sym}
use Rattle.std.proofs.lemmas.List.{map_more}

-- if the first n elements are equal, and so are the next ones, then so are the first n + 1
pub same_more : {X Y : Type 0} (f : X → Y) (xs ys : List X) (n : ℕ) (x y : X) → n < length xs → n < length ys →
    x ≡ get_or xs n x → y ≡ get_or ys n y → map f (take n xs) ≡ map f (take n ys) → f x ≡ f y → map f (take (n + 1) xs) ≡ map f (take (n + 1) ys)
same_more f xs ys n x y there other at other_at so_far same =
    map_more f xs n x there ∙ ap (λ l. l ++ f (get_or xs n x) ∷ []) so_far
    ∙ ap (λ z. map f (take n ys) ++ z ∷ []) (ap f (sym at) ∙ same ∙ ap f other_at) ∙ sym (map_more f ys n y other)
