-- What calls return, and what they write into the arrays.
use Rattle.std.specs.Prelude.{◌≡◌, ◌⊎◌, ◌≤◌, ◌^◌, ℕ, ℤ, pos, negsuc, List, ◌++◌, length, take, drop, IsUtf8}
use Rattle.rnix_kinds.specs.Lexical.Tokens.{tokens_of}
use Rattle.rnix_green.specs.Tree.{Tree}
use Rattle.rnix_grammar.specs.Fault.{Fault}
use Rattle.rnix_grammar.specs.Parsed.{IsParsed}

-- -1: the text is not UTF-8
abbrev pub not_utf8 : ℤ
not_utf8 = negsuc 0

-- -2: memory is refused
abbrev pub no_memory : ℤ
no_memory = negsuc 1

-- -3: there is no such kind, error, diagnostic, string, range or unit of columns
abbrev pub none_such : ℤ
none_such = negsuc 2

-- -4: the text is too long
abbrev pub too_long : ℤ
too_long = negsuc 3

-- -5: the text has errors
abbrev pub has_errors : ℤ
has_errors = negsuc 4

-- -6: the new text would differ in more than its layout, or change if formatted again
abbrev pub different : ℤ
different = negsuc 5

-- the first items, as many as fit into the array, followed by what the rest of the array contained before
abbrev pub filled : {A : Type 0} → List A → List A → List A
filled items room = take (length room) items ++ drop (length items) room

-- the items are written as far as they fit, and their number is returned
abbrev pub IsWritten : {A : Type 0} → List A → ℤ → List A → List A → Type 0
IsWritten items answer old new = (answer ≡ pos (length items)) × (new ≡ filled items old)

-- why a text is not read: it is not UTF-8, or it is UTF-8 and has 2 ^ 32 bytes or more, or memory is refused
abbrev pub IsRefused : List ℕ → ℤ → Type 0
IsRefused text answer =
    ((answer ≡ not_utf8) × ¬ IsUtf8 text)
    ⊎ (((answer ≡ too_long) × IsUtf8 text × (2 ^ 32 ≤ length text)) ⊎ ((answer ≡ no_memory) × IsUtf8 text))

-- the call is refused and the arrays are unchanged, or the statement holds for the tree and the errors of the text
abbrev pub Answers : List ℕ → ℤ → Type 0 → (Tree → List Fault → Type 0) → Type 0
Answers text answer Unchanged Promise =
    (IsRefused text answer × Unchanged)
    ⊎ (IsUtf8 text × ((tree : Tree) × (faults : List Fault) × IsParsed (tokens_of text) tree faults × Promise tree faults))
