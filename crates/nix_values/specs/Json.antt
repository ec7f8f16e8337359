-- JSON (RFC 8259): the tokens of a text, and the values that tokens mean.
use Rattle.std.specs.Prelude.{◌≡◌, ℕ, zero, suc, ◌+◌, ◌-◌, ◌==◌, nat_lt, nat_eq, Bool, true, false, ◌||◌, List, [], ◌∷◌, ◌++◌, codes, Option, Some, None, option_map, option_and_then, if◌then◌else◌}
use Rattle.std.specs.List.{starts_with}
use Rattle.std.specs.Char.{is_ascii_digit}
use Rattle.nix_values.specs.Contents.{Plain, null, boolean, text, list, set, Entry}
use Rattle.nix_values.specs.JsonContent.{content}
use Rattle.nix_values.specs.JsonNumbers.{number_at}
use Rattle.nix_values.specs.declared.json_reader.TheConstants.{MOST_DEPTH}

-- ---- tokens

-- a bracket is `[` or `]`, or for a set `{` or `}`
pub data Token : Type 0 where
  opening : Bool → Token
  closing : Bool → Token
  comma : Token
  colon : Token
  string : List ℕ → Token
  scalar : Plain → Token

abbrev pub is_space : ℕ → Bool
is_space b = b == 32 || (b == 9 || (b == 10 || b == 13))

-- the keyword with which a text begins, and its length
abbrev pub word_at : List ℕ → Option (Token × ℕ)
word_at bytes =
    if starts_with nat_eq bytes (codes "null") then Some (scalar null, 4)
    else (if starts_with nat_eq bytes (codes "true") then Some (scalar (boolean true), 4)
    else (if starts_with nat_eq bytes (codes "false") then Some (scalar (boolean false), 5)
    else None))

-- the string after an opening quote, and the length of the token
abbrev pub string_at : List ℕ → Option (Token × ℕ)
string_at bytes = option_map (λ r. (string r.0, suc r.1)) (content 0 bytes)

-- the number with which a text begins, and its length
abbrev pub scalar_at : List ℕ → Option (Token × ℕ)
scalar_at bytes = option_map (λ r. (scalar r.0, r.1)) (number_at bytes)

-- the token that begins with a byte and continues with others, and its length
unfoldable pub token_at : ℕ → List ℕ → Option (Token × ℕ)
token_at b bs =
    if b == 91 then Some (opening false, 1)
    else (if b == 123 then Some (opening true, 1)
    else (if b == 93 then Some (closing false, 1)
    else (if b == 125 then Some (closing true, 1)
    else (if b == 44 then Some (comma, 1)
    else (if b == 58 then Some (colon, 1)
    else (if b == 34 then string_at bs
    else (if b == 45 || is_ascii_digit b then scalar_at (b ∷ bs)
    else word_at (b ∷ bs))))))))

-- the tokens of a text, after a number of bytes that are skipped
unfoldable pub tokens_behind : ℕ → List ℕ → Option (List Token)
tokens_behind passed [] = Some []
tokens_behind (suc passed) (b ∷ bs) = tokens_behind passed bs
tokens_behind zero (b ∷ bs) =
    if is_space b then tokens_behind zero bs
    else option_and_then (λ r. option_map (λ ts. r.0 ∷ ts) (tokens_behind (r.1 - 1) bs)) (token_at b bs)

-- ---- the grammar

-- what may come next: a value with a name; what follows `[`; an item; what follows `{`; a member; or what follows a member's name. The number is that of the
-- lists and sets around it.
pub data Part : Type 0 where
  value : ℕ → List ℕ → Part
  first_item : ℕ → Part
  more_items : ℕ → Part
  first_member : ℕ → Part
  more_members : ℕ → Part
  member : ℕ → Part
  named : ℕ → List ℕ → Part

-- the parts that follow a token, and the values that it adds
abbrev pub Taken : Type 0
Taken = Option (List Part × List Entry)

-- a value with its depth and name
abbrev pub entry : ℕ → List ℕ → Plain → List Entry
entry depth name plain = record { depth = depth; name = name; plain = plain } ∷ []

-- a value that begins with a token. At most `MOST_DEPTH` lists and sets nest.
abbrev pub value_from : ℕ → List ℕ → Token → Taken
value_from depth name (scalar plain) = Some ([], entry depth name plain)
value_from depth name (string t) = Some ([], entry depth name (text t))
value_from depth name (opening false) = if nat_lt depth MOST_DEPTH then Some (first_item (depth + 1) ∷ [], entry depth name list) else None
value_from depth name (opening true) = if nat_lt depth MOST_DEPTH then Some (first_member (depth + 1) ∷ [], entry depth name set) else None
value_from depth name _ = None

-- the parts that follow a token, and then another part
abbrev pub then_part : Part → Taken → Taken
then_part part taken = option_map (λ r. (r.0 ++ part ∷ [], r.1)) taken

-- a member that begins with a token
abbrev pub member_from : ℕ → Token → Taken
member_from depth (string name) = Some (named depth name ∷ more_members depth ∷ [], [])
member_from depth _ = None

-- a part that begins with a token
abbrev pub part_from : Part → Token → Taken
part_from (value depth name) token = value_from depth name token
part_from (first_item depth) (closing false) = Some ([], [])
part_from (first_item depth) token = then_part (more_items depth) (value_from depth [] token)
part_from (more_items depth) (closing false) = Some ([], [])
part_from (more_items depth) comma = Some (value depth [] ∷ more_items depth ∷ [], [])
part_from (more_items depth) _ = None
part_from (first_member depth) (closing true) = Some ([], [])
part_from (first_member depth) token = member_from depth token
part_from (more_members depth) (closing true) = Some ([], [])
part_from (more_members depth) comma = Some (member depth ∷ [], [])
part_from (more_members depth) _ = None
part_from (member depth) token = member_from depth token
part_from (named depth name) colon = Some (value depth name ∷ [], [])
part_from (named depth name) _ = None

-- several parts, one after another, the first of which begins with a token
abbrev pub parts_from : List Part → Token → Taken
parts_from [] token = None
parts_from (part ∷ parts) token = option_map (λ r. (r.0 ++ parts, r.1)) (part_from part token)

-- no parts remain
abbrev pub none_remaining : List Part → Option (List Entry)
none_remaining [] = Some []
none_remaining (part ∷ parts) = None

-- values followed by those that come later
abbrev pub in_front : List Entry → Option (List Entry) → Option (List Entry)
in_front entries others = option_map (λ more. entries ++ more) others

-- the values that tokens mean, if they form these parts, one after another
unfoldable pub meaning : List Part → List Token → Option (List Entry)
meaning parts [] = none_remaining parts
meaning parts (token ∷ tokens) = option_and_then (λ r. in_front r.1 (meaning r.0 tokens)) (parts_from parts token)

-- the values that a text means, if it forms these parts, one after another
abbrev pub values_of : List Part → List ℕ → Option (List Entry)
values_of parts bytes = option_and_then (meaning parts) (tokens_behind 0 bytes)

-- the values that a text means
abbrev pub json_values : List ℕ → Option (List Entry)
json_values bytes = values_of (value 0 [] ∷ []) bytes

-- a text is JSON and means these values
abbrev pub IsJson : List ℕ → List Entry → Type 0
IsJson bytes entries = json_values bytes ≡ Some entries
