-- The names of a pattern's entries.
use Rattle.std.specs.Prelude.{◌≡◌, ℕ, Bool, true, false, List, [], ◌∷◌, ◌++◌, map, Option, Some, None, if◌then◌else◌}
use Rattle.std.specs.BTreeSet.{contains_by}
use Rattle.std.specs.Cmp.Lexicographic.{slice_cmp}
use Rattle.std.specs.Ordering.{nat_cmp}
use Rattle.std.specs.Str.{bytes_eq}
use Rattle.rnix_green.specs.Range.{Extent, bounds_of}
use Rattle.rnix_grammar.specs.Fault.{Fault, duplicated_args}
use Rattle.rnix_grammar.specs.AnnotatedForest.{Token}
use Rattle.rnix_reader.specs.declared.pattern_names.NameSet.{NameSet}
use Rattle.rnix_reader.specs.declared.pattern_names.Names.{Names}

-- a set has the name
abbrev pub has_name : List ℕ → NameSet → Bool
has_name name s = contains_by (λ x. slice_cmp nat_cmp name x.now) s.names

-- a set has a name, or the name is the one that is added
abbrev pub has_with : List ℕ → List ℕ → NameSet → Bool
has_with other text s = if bytes_eq text other then true else has_name other s

-- the names of open entries, with their ranges
abbrev pub entries_in : Names → List (List ℕ × Extent)
entries_in n = map (λ e. (e.text.now, bounds_of e.range)) n.entries.items

-- a pattern is open, with no names
pub record PatternOpened (n n' : Names) : Type 0 where
  pub set : NameSet
  pub none : (name : List ℕ) → has_name name set ≡ false
  pub sets : n'.sets.items ≡ n.sets.items ++ set ∷ []
  pub entries : entries_in n' ≡ entries_in n
  pub second : n'.second ≡ n.second

-- the innermost pattern is complete
pub record PatternClosed (n n' : Names) : Type 0 where
  pub sets : (below : List NameSet) (s : NameSet) → n.sets.items ≡ below ++ s ∷ [] → n'.sets.items ≡ below
  pub entries : entries_in n' ≡ entries_in n
  pub second : n'.second ≡ n.second

-- an entry is open
pub record EntryOpened (entry : List ℕ × Extent) (n n' : Names) : Type 0 where
  pub sets : n'.sets.items ≡ n.sets.items
  pub entries : entries_in n' ≡ entries_in n ++ entry ∷ []
  pub second : n'.second ≡ n.second

-- the name and the range of a token
abbrev pub entry_at : Token → List ℕ × Extent
entry_at t = (t.text, record { start = t.start; end = t.end })

-- the entry that begins with this token is open
abbrev pub EntryNamed : Token → Names → Names → Type 0
EntryNamed t n n' = EntryOpened (entry_at t) n n'

-- an entry is complete: the pattern has one more name
pub record Entered (text : List ℕ) (below : List NameSet) (s : NameSet) (n' : Names) : Type 0 where
  pub set : NameSet
  pub has : (other : List ℕ) → has_name other set ≡ has_with other text s
  pub sets : n'.sets.items ≡ below ++ set ∷ []

-- an entry is complete, and an error is reported if it repeats a name
pub record EntryClosed (again : Option Fault) (n n' : Names) : Type 0 where
  pub entered : (entries : List (List ℕ × Extent)) (text : List ℕ) (range : Extent) (below : List NameSet) (s : NameSet)
      → entries_in n ≡ entries ++ (text, range) ∷ [] → n.sets.items ≡ below ++ s ∷ []
      → Entered text below s n' × (entries_in n' ≡ entries) × (again ≡ (if has_name text s then Some (duplicated_args range text) else None))
  pub second : n'.second ≡ n.second
