-- The error of a text that is not JSON, or that repeats a name.
use Rattle.std.specs.Prelude.{◌≡◌, ℕ, ◌+◌, ◌<◌, ◌⊎◌, true, false, List, [], ◌∷◌, ◌++◌, length, take, drop, slice_index, codes, Some}
use Rattle.nix_values.specs.declared.json_error.JsonReason.TheVariants.{Repeated}
use Rattle.nix_values.specs.declared.json_error.JsonError.{JsonError}
use Rattle.nix_values.specs.Contents.{Entry, null}
use Rattle.nix_values.specs.Json.{Token, string, is_space, token_at, Part, value, first_item, more_items, first_member, more_members, member, named, entry, parts_from, IsJson}
use Rattle.nix_values.specs.JsonErrors.{stop_at, json_stop, json_error}
use Rattle.nix_values.specs.RepeatedNames.{last_outside, HasDistinctNames}

-- a token with a length begins at an offset
abbrev pub IsTokenAt : List ℕ → ℕ → Token → ℕ → Type 0
IsTokenAt text at token len = token_at (slice_index text at) (drop (at + 1) text) ≡ Some (token, len)

-- a text is JSON up to an offset, where these parts remain and these values have been read
pub data IsReadTo (text : List ℕ) : ℕ → List Part → List Entry → Type 0 where
  at_start : IsReadTo text 0 (value 0 [] ∷ []) []
  past_space : (at : ℕ) (parts : List Part) (entries : List Entry) → IsReadTo text at parts entries → at < length text →
      is_space (slice_index text at) ≡ true → IsReadTo text (at + 1) parts entries
  past_token : (at len : ℕ) (t : Token) (parts more : List Part) (entries added : List Entry) → IsReadTo text at parts entries → at < length text →
      is_space (slice_index text at) ≡ false → IsTokenAt text at t len → parts_from parts t ≡ Some (more, added) →
      IsReadTo text (at + len) more (entries ++ added)

-- a name in a set begins at an offset: the set is the last value so far with fewer lists and sets around it than the name's value
pub record IsNameAt (text : List ℕ) (offset set : ℕ) (name : List ℕ) : Type 0 where
  pub parts : List Part
  pub entries : List Entry
  pub read : IsReadTo text offset parts entries
  pub len : ℕ
  pub token : IsTokenAt text offset (string name) len
  pub depth : ℕ
  pub more : List Part
  pub member : parts_from parts (string name) ≡ Some (named depth name ∷ more, [])
  pub inside : last_outside entries (length entries) depth ≡ Some set

-- the error of the first name that is repeated in its set: it shows both occurrences
pub record IsRepeated (text : List ℕ) (error : JsonError) : Type 0 where
  pub reason : error.reason ≡ Repeated
  pub first : ℕ
  pub shown : error.first ≡ Some first
  pub before : first < error.offset
  pub set : ℕ
  pub name : List ℕ
  pub one : IsNameAt text first set name
  pub other : IsNameAt text error.offset set name
  pub distinct : HasDistinctNames other.entries

-- the next value, by its name, if the name is known
abbrev pub next_entry : List Part → List Entry
next_entry (value depth name ∷ parts) = entry depth name null
next_entry (named depth name ∷ parts) = entry depth name null
next_entry _ = []

-- bytes that complete the remaining parts: `null` for a value, `"":null}` for a member, and the end of each list and set
abbrev pub completion : List Part → List ℕ
completion [] = []
completion (value depth name ∷ parts) = codes "null" ++ completion parts
completion (first_item depth ∷ parts) = codes "]" ++ completion parts
completion (more_items depth ∷ parts) = codes "]" ++ completion parts
completion (first_member depth ∷ parts) = codes "}" ++ completion parts
completion (more_members depth ∷ parts) = codes "}" ++ completion parts
completion (member depth ∷ parts) = codes "\"\":null}" ++ completion parts
completion (named depth name ∷ parts) = codes ":null" ++ completion parts

-- the error of a text where it stops being JSON; what precedes is the beginning of some JSON text, and no set repeats a name there
pub record IsStopped (text : List ℕ) (error : JsonError) : Type 0 where
  pub error_is : json_error text ≡ Some error
  pub parts : List Part
  pub offset : ℕ
  pub stops : json_stop text ≡ Some (stop_at parts offset (drop offset text))
  pub entries : List Entry
  pub read : IsReadTo text offset parts entries
  pub distinct : HasDistinctNames (entries ++ next_entry parts)
  pub completed : List Entry
  pub begins : IsJson (take offset text ++ 32 ∷ completion parts) completed

-- the error of a text: at the first place where it stops being JSON, or where a set repeats a name
abbrev pub IsJsonError : List ℕ → JsonError → Type 0
IsJsonError text error = IsStopped text error ⊎ IsRepeated text error
