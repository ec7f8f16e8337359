-- Small tables and data, with what is found in them.
use Rattle.std.proofs.Common.{◌≡◌, ℕ, List, [], ◌∷◌, Some, None, refl}
use Rattle.nix_values.specs.declared.slots.Slot.{Slot}
use Rattle.nix_values.specs.declared.slots.Spot.TheVariants.{Free, Taken, Full}
use Rattle.nix_values.specs.Contents.{Plain, integer, set, list, Entry}
use Rattle.nix_values.specs.HashSlots.{free_slot, spot_from}
use Rattle.nix_values.specs.Built.{Built, attribute_of}
use Rattle.nix_values.specs.RepeatedNames.{entry_keys}
use Rattle.std.specs.Prelude.{pos}

-- ---- slots

abbrev taken : ℕ → ℕ → Slot
taken hash number = record { hash = hash; number = number }

past_another : spot_from 3 0 7 (taken 5 1 ∷ taken 7 2 ∷ free_slot ∷ []) ≡ Taken 1 2
unfolding spot_from
past_another = refl

up_to_free : spot_from 3 0 9 (taken 5 1 ∷ free_slot ∷ taken 9 2 ∷ []) ≡ Free 1
unfolding spot_from
up_to_free = refl

all_taken : spot_from 2 0 9 (taken 5 1 ∷ taken 7 2 ∷ taken 9 3 ∷ []) ≡ Full
unfolding spot_from
all_taken = refl

-- ---- attributes

abbrev inside : ℕ → List ℕ → Plain → Built
inside parent name plain = record { parent = Some parent; name = name; plain = plain }

abbrev whole : Plain → Built
whole plain = record { parent = None; name = []; plain = plain }

-- a set with `a`, with `b` inside it, and with `a` again
abbrev twice : List Built
twice = whole set ∷ inside 0 (97 ∷ []) set ∷ inside 1 (98 ∷ []) (integer (pos 1)) ∷ inside 0 (97 ∷ []) (integer (pos 2)) ∷ []

the_last_one : attribute_of twice 0 (97 ∷ []) ≡ Some 3
the_last_one = refl

of_the_inner_set : attribute_of twice 1 (98 ∷ []) ≡ Some 2
of_the_inner_set = refl

not_of_the_outer_set : attribute_of twice 0 (98 ∷ []) ≡ None
not_of_the_outer_set = refl

-- a value in a list is not an attribute
of_no_list : attribute_of (whole list ∷ inside 0 (97 ∷ []) (integer (pos 1)) ∷ []) 0 (97 ∷ []) ≡ None
of_no_list = refl

-- ---- the attributes of JSON

abbrev at : ℕ → List ℕ → Plain → Entry
at depth name plain = record { depth = depth; name = name; plain = plain }

-- {"a": {"b": 1}, "c": [2], "b": 3}
abbrev json : List Entry
json = at 0 [] set ∷ at 1 (97 ∷ []) set ∷ at 2 (98 ∷ []) (integer (pos 1)) ∷ at 1 (99 ∷ []) list ∷ at 2 [] (integer (pos 2)) ∷ at 1 (98 ∷ [])
    (integer (pos 3)) ∷ []

the_whole : entry_keys json 0 ≡ None
the_whole = refl

of_the_whole : entry_keys json 1 ≡ Some (0, 97 ∷ [])
of_the_whole = refl

of_a : entry_keys json 2 ≡ Some (1, 98 ∷ [])
of_a = refl

of_a_list : entry_keys json 4 ≡ None
of_a_list = refl

behind_others : entry_keys json 5 ≡ Some (0, 98 ∷ [])
behind_others = refl
