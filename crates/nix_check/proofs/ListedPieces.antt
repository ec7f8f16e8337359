-- Pieces of output, one after another.
use Rattle.std.proofs.Common.{◌≡◌, ℕ, ◌+◌, ◌<◌, ◌==◌, false, List, [], ◌∷◌, ◌++◌, length, map, take, get_or, append-nil, append_assoc, Option, ap, sym, ◌∙◌, arith, subst, suc}
use Rattle.std.proofs.{KnownBytes.{Appends-nil, Appends-trans}, lemmas.{List.{take_more, map-append, flat_map_more, length-map, length-take-le}, Bool.Decides.nat_tests}}
use Rattle.std.specs.{List.flat_map, Io.KnownBytes.Appends, Prelude.{◌≢◌, codes}}
use Rattle.nix_check.specs.Listed.{Prints, AreListed, none_listed, one_listed, comma, comma_joined}

-- printing no pieces
pub none_printed : {A : Type 0} (Has : ℕ → A → List ℕ → Type 0) (first : ℕ) (old : Option (List ℕ)) → Prints (AreListed Has first []) old old
none_printed Has first old = ([], none_listed, Appends-nil old)

-- printing one more piece
pub one_printed : {A : Type 0} (Has : ℕ → A → List ℕ → Type 0) (first : ℕ) (xs : List A) (i : ℕ) (d : A) (old mid new : Option (List ℕ)) →
    i < length xs → Prints (AreListed Has first (take i xs)) old mid → Prints (Has (first + i) (get_or xs i d)) mid new →
    Prints (AreListed Has first (take (i + 1) xs)) old new
one_printed {A} Has first xs i d old mid new within before own =
    let all : take i xs ++ get_or xs i d ∷ [] ≡ take (i + 1) xs = sym (take_more xs i d within) in
    let count : i ≡ length (take i xs) = sym (length-take-le i xs (omega arith)) in (
      before.0 ++ own.0,
      subst (λ (ys : List A). AreListed Has first ys (before.0 ++ own.0)) all
          (one_listed (take i xs) before.0 (get_or xs i d) own.0 before.1 (subst (λ (n : ℕ). Has (first + n) (get_or xs i d) own.0) count own.1)),
      Appends-trans old mid new before.0 own.0 before.2 own.2,
    )

-- a value after others has a comma before it
some_comma : (n : ℕ) → 0 < n → comma n ≡ codes ","
some_comma n some = grind (arith, nat_tests)

-- the text of one more value, with its comma
pub joined_more : (texts : List (List ℕ)) (text : List ℕ) → comma_joined (texts ++ text ∷ []) ≡ comma_joined texts ++ (comma (length texts) ++ text)
joined_more [] text = append-nil text
joined_more (first ∷ texts) text =
    ap (λ l. first ++ l) (sym (flat_map_more (λ more. codes "," ++ more) [] texts text))
    ∙ sym (append_assoc first (flat_map (λ more. codes "," ++ more) texts) (codes "," ++ text))
    ∙ ap (λ c. (first ++ flat_map (λ more. codes "," ++ more) texts) ++ (c ++ text)) (sym (some_comma (suc (length texts)) (omega arith)))

-- writing one more value, with its comma
pub one_joined : {A : Type 0} (f : A → List ℕ) (xs : List A) (i : ℕ) (d : A) (old mid next new : Option (List ℕ)) → i < length xs →
    Appends old mid (comma_joined (map f (take i xs))) → Appends mid next (comma i) → Appends next new (f (get_or xs i d)) →
    Appends old new (comma_joined (map f (take (i + 1) xs)))
one_joined {A} f xs i d old mid next new within before separated own =
    let x = get_or xs i d in
    let count : length (map f (take i xs)) ≡ i = length-map (take i xs) f ∙ length-take-le i xs (omega arith) in
    let whole : comma_joined (map f (take i xs)) ++ (comma i ++ f x) ≡ comma_joined (map f (take (i + 1) xs)) =
    ap (λ n. comma_joined (map f (take i xs)) ++ (comma n ++ f x)) (sym count) ∙ sym (joined_more (map f (take i xs)) (f x))
    ∙ ap comma_joined (sym (ap (map f) (take_more xs i d within) ∙ map-append f (take i xs) (x ∷ []))) in
    subst (λ (bytes : List ℕ). Appends old new bytes) whole
    (Appends-trans old mid new (comma_joined (map f (take i xs))) (comma i ++ f x) before (Appends-trans mid next new (comma i) (f x) separated own))

-- writing the piece of one more value
pub bytes_more : {A : Type 0} (f : A → List ℕ) (xs : List A) (i : ℕ) (d : A) (old mid new : Option (List ℕ)) → i < length xs →
    Appends old mid (flat_map f (take i xs)) → Appends mid new (f (get_or xs i d)) → Appends old new (flat_map f (take (i + 1) xs))
bytes_more {A} f xs i d old mid new within before own =
    let all : flat_map f (take i xs) ++ f (get_or xs i d) ≡ flat_map f (take (i + 1) xs) =
    flat_map_more f [] (take i xs) (get_or xs i d) ∙ ap (flat_map f) (sym (take_more xs i d within)) in
    subst (λ (bytes : List ℕ). Appends old new bytes) all (Appends-trans old mid new (flat_map f (take i xs)) (f (get_or xs i d)) before own)

-- a value is the first of all if none precedes it in its list and no list precedes that
pub first_of_all : (earlier number : ℕ) → earlier ≡ 0 → (number == 0) ≡ (earlier + number == 0)
first_of_all earlier number none = grind (arith, nat_tests)

pub after_others : (earlier number : ℕ) → earlier ≢ 0 → false ≡ (earlier + number == 0)
after_others earlier number some = grind (arith, nat_tests)
