-- Entries that end between errors. A token error is one of those in `TokenErrors`.
use Rattle.std.specs.Prelude.{ℕ, ◌&&◌, ◌||◌, nat_lt, Bool, true, false, List, [], ◌∷◌, Option, Some, None, if◌then◌else◌}
use Rattle.rnix_kinds.specs.declared.kinds.SyntaxKind.{SyntaxKind}
use Rattle.rnix_kinds.specs.declared.kinds.SyntaxKind.TheVariants.{NODE_ATTRPATH_VALUE, NODE_INHERIT, TOKEN_SEMICOLON}
use Rattle.rnix_green.specs.Equality.{same_kind}
use Rattle.rnix_green.specs.Tree.{Located, item_of}
use Rattle.rnix_green.specs.Walk.{Spot, elements_of}
use Rattle.rnix_green.specs.Relatives.{parent_of}
use Rattle.rnix_grammar.specs.Fault.{Fault}
use Rattle.nix_diagnostics.specs.Locations.{location_of}
use Rattle.nix_diagnostics.specs.TokenErrors.{is_token_error}
use Rattle.nix_diagnostics.specs.declared.semicolons.Semicolon.{Semicolon}

-- a node of the kind is an entry or an `inherit`
abbrev pub is_entry_kind : SyntaxKind → Bool
is_entry_kind NODE_ATTRPATH_VALUE = true
is_entry_kind NODE_INHERIT = true
is_entry_kind kind = false

-- there is a node, and it is an entry or an `inherit`
abbrev pub is_entry : Option Located → Bool
is_entry None = false
is_entry (Some node) = is_entry_kind (item_of node).kind

-- a token is the `;` of an entry or of an `inherit`
abbrev pub ends_entry : Located → Bool
ends_entry token = same_kind TOKEN_SEMICOLON (item_of token).kind && is_entry (parent_of token)

-- where a node starts, 0 if there is none
abbrev pub start_or_zero : Option Located → ℕ
start_or_zero None = 0
start_or_zero (Some node) = (item_of node).start

-- where the node around a node starts, 0 if there is none
abbrev pub start_around : Option Located → ℕ
start_around None = 0
start_around (Some node) = start_or_zero (parent_of node)

-- the `;` of an entry, with the start of the set or `let` around the entry
abbrev pub semicolon_of : Located → Semicolon
semicolon_of token = record { start = (item_of token).start; set = start_around (parent_of token) }

-- the `;` of entries and `inherit`s among elements, in order
abbrev pub semicolons_in : List Spot → List Semicolon
semicolons_in [] = []
semicolons_in (spot ∷ spots) =
    if spot.0 then semicolons_in spots else (if ends_entry spot.1 then semicolon_of spot.1 ∷ semicolons_in spots else semicolons_in spots)

-- the `;` of entries and `inherit`s in an element
abbrev pub semicolons_of : Located → List Semicolon
semicolons_of e = semicolons_in (elements_of e)

-- these `;`, from the first that does not start before an offset
abbrev pub since : ℕ → List Semicolon → List Semicolon
since offset [] = []
since offset (s ∷ rest) = if nat_lt s.start offset then since offset rest else s ∷ rest

-- before an offset there is the `;` of an entry whose set or `let` starts before another offset
abbrev pub ends_between : ℕ → ℕ → List Semicolon → Bool
ends_between set_before offset [] = false
ends_between set_before offset (s ∷ rest) = nat_lt s.start offset && (nat_lt s.set set_before || ends_between set_before offset rest)

-- the larger of two numbers
abbrev pub larger : ℕ → ℕ → ℕ
larger m n = if nat_lt m n then n else m

-- where the last of some token errors ends, or a given offset if that is larger
abbrev pub reach_from : Located → ℕ → List Fault → ℕ
reach_from root end [] = end
reach_from root end (fault ∷ faults) = reach_from root (if is_token_error fault then larger end (location_of root fault).end else end) faults

-- where the last of the token errors ends, 0 if there is none
abbrev pub reach : Located → List Fault → ℕ
reach root faults = reach_from root 0 faults

-- an error is independent of earlier ones: between them an entry ends, in a set or `let` that starts before their end
abbrev pub is_independent : Located → List Fault → Fault → Bool
is_independent root before fault = ends_between (reach root before) (location_of root fault).start (since (reach root before) (semicolons_of root))
