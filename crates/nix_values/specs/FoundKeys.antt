-- The attributes among the values of a JSON text.
use Rattle.std.specs.Prelude.{ℕ, Option, slice_get, option_and_then, option_map, string_bytes}
use Rattle.nix_values.specs.declared.json_found.Found.{Found}
use Rattle.nix_values.specs.Keys.{Keys}

-- the offset at which a value, or its name, was found
abbrev pub offset_of : Found → ℕ → Option ℕ
offset_of found number = option_map (λ location. location.offset) (slice_get found.locations.items number)

-- the set and the name of which a value is the attribute
abbrev pub found_keys : Found → Keys
found_keys found number =
    option_and_then
    (λ location. option_and_then (λ item. option_map (λ set. (set, string_bytes item.name)) location.set) (slice_get found.items.items number))
    (slice_get found.locations.items number)
