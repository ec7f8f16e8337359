-- What `resolve` finds in a text, and when a text in which one binding has a new name resolves in the same way.
use Rattle.std.specs.Prelude.{◌≡◌, ℕ, ◌+◌, ◌*◌, nat_eq, nat_le, List, length, map, if◌then◌else◌}
use Rattle.std.specs.List.{AllZip, filter}
use Rattle.std.specs.Cow.{cow_str_bytes}
use Rattle.rnix_green.specs.Tree.{Located, extent_of}
use Rattle.nix_scopes.specs.declared.resolution.Binding.{Binding}
use Rattle.nix_scopes.specs.declared.resolution.Reference.{Reference}
use Rattle.nix_scopes.specs.declared.resolution.Resolution.{Resolution}
use Rattle.nix_scopes.specs.declared.renaming.NewName.{NewName}
use Rattle.nix_scopes.specs.Resolved.{bindings_in, resolved_in}
use Rattle.nix_scopes.specs.Bound.{bindings_of, references_of, bound_of, resolved_of, AreFirst}
use Rattle.nix_scopes.specs.Occurrences.{is_number, occurrences_of}

-- what `resolve` finds inside a node
pub record IsResolution (root : Located) (names : Resolution) : Type 0 where
  pub bindings : map bound_of (bindings_of names) ≡ bindings_in root
  pub firsts : AreFirst (bindings_of names)
  pub resolved : map resolved_of (references_of names) ≡ resolved_in root

-- a new name for the binding with a number, the length of its old name, and how many of its occurrences end at or before an offset
pub record Rename : Type 0 where
  pub number : ℕ
  pub name : List ℕ
  pub old : ℕ
  pub ended : ℕ → ℕ

-- the number of these ends that are at or before the offset
abbrev pub ended_by : List ℕ → ℕ → ℕ
ended_by ends offset = length (filter (λ end. nat_le end offset) ends)

-- a new name, from its parts
abbrev pub rename_of : ℕ → ℕ → List ℕ → (ℕ → ℕ) → Rename
rename_of number old name ended = record { number = number; name = name; old = old; ended = ended }

-- the new name of the program
abbrev pub rename_by : NewName → Rename
rename_by new = rename_of new.number new.old new.text.now (ended_by new.ends.items)

-- a new name for the binding with a number, whose old name has this length and whose occurrences are those of the resolution
abbrev pub rename_in : Resolution → ℕ → ℕ → List ℕ → Rename
rename_in names number old name = rename_of number old name (ended_by (map (λ extent. extent.end) (occurrences_of number names)))

-- the offset `from` becomes `to`: each of the `ended` occurrences before it changes its length from `old` to `new`
abbrev pub IsMovedBy : ℕ → ℕ → ℕ → ℕ → ℕ → Type 0
IsMovedBy ended old new from to = to + ended * old ≡ from + ended * new

-- an offset becomes another one in the text with the new name
abbrev pub IsMoved : Rename → ℕ → ℕ → Type 0
IsMoved rename from to = IsMovedBy (rename.ended from) rename.old (length rename.name) from to

-- both ends of a node become those of the other node
abbrev pub IsNodeMoved : Rename → Located → Located → Type 0
IsNodeMoved rename from to = IsMoved rename (extent_of from).start (extent_of to).start × IsMoved rename (extent_of from).end (extent_of to).end

-- the other binding is the same one in the other text; it has the new name if it belongs to the renamed binding
pub record IsBoundAlike (rename : Rename) (binding other : Binding) : Type 0 where
  pub text : cow_str_bytes other.text ≡ (if nat_eq binding.first rename.number then rename.name else cow_str_bytes binding.text)
  pub first : other.first ≡ binding.first
  pub node : IsNodeMoved rename binding.node other.node
  pub scope : IsNodeMoved rename binding.scope other.scope

-- the other reference is the same one in the other text, and refers to the same binding; it has the new name if it refers to the renamed binding
pub record RefersAlike (rename : Rename) (reference other : Reference) : Type 0 where
  pub text : cow_str_bytes other.text ≡ (if is_number rename.number reference.binding then rename.name else cow_str_bytes reference.text)
  pub binding : other.binding ≡ reference.binding
  pub is_inherited : other.is_inherited ≡ reference.is_inherited
  pub is_open : other.is_open ≡ reference.is_open
  pub node : IsNodeMoved rename reference.node other.node

-- another text has the same bindings and references, one for one, at the corresponding offsets
pub record AreAlike (rename : Rename) (names others : Resolution) : Type 0 where
  pub bindings : AllZip (IsBoundAlike rename) (bindings_of names) (bindings_of others)
  pub references : AllZip (RefersAlike rename) (references_of names) (references_of others)
