-- What calls write for the messages of errors.
use Rattle.std.specs.Prelude.{◌≡◌, ◌⊎◌, ◌≤◌, ℕ, ℤ, List, ◌++◌, length, codes, Some, slice_get}
use Rattle.std.specs.List.{flat_map}
use Rattle.rnix_grammar.specs.Fault.{Fault, fault_text}
use Rattle.rnix_c.specs.Answers.{none_such, IsWritten}

-- there is no error with this number, or its message is written
abbrev pub WritesMessage : List Fault → ℕ → ℤ → List ℕ → List ℕ → Type 0
WritesMessage faults number answer old new =
    ((length faults ≤ number) × (answer ≡ none_such) × (new ≡ old))
    ⊎ ((fault : Fault) × (slice_get faults number ≡ Some fault) × IsWritten (fault_text fault) answer old new)

-- the messages of some errors, each followed by a line feed
abbrev pub messages_of : List Fault → List ℕ
messages_of faults = flat_map (λ fault. fault_text fault ++ codes "\n") faults
