-- How the parts of a string are normalized.
use Rattle.std.specs.Prelude.{◌≡◌, ℕ, suc, ◌-◌, min, Bool, true, false, not, ◌==◌, ◌||◌, if◌then◌else◌, List, [], ◌∷◌, ◌++◌, take, drop, map, length, slice_index, Option, Some, None, option_to_list, String, string_bytes}
use Rattle.std.specs.List.{flat_map, prefix_len, suffix_len, list_any}
use denote.Ref.{Bor}
use Rattle.rnix_base.specs.declared.parts.InterpolPart.{InterpolPart}
use Rattle.rnix_base.specs.declared.parts.InterpolPart.TheVariants.{Literal, Interpolation}
use Rattle.rnix_base.specs.Escapes.{unescaped}
use Rattle.rnix_base.specs.Parts.{part_of}

-- the parts of a string; the text of a literal is a list of bytes
abbrev pub Parts : Type 0 → Type 0
Parts I = List (InterpolPart (List ℕ) I)

-- a part with another text
abbrev pub with_text : {S T I : Type 0} → (S → T) → InterpolPart S I → InterpolPart T I
with_text text = part_of text (λ i. i)

-- the parts of borrowed texts
abbrev pub borrowed : {I : Type 0} → List (InterpolPart (Bor (List ℕ)) I) → Parts I
borrowed = map (with_text (λ text. text.now))

-- the parts of owned texts
abbrev pub owned : {I Z : Type 0} → List (InterpolPart (String Z) I) → Parts I
owned = map (with_text string_bytes)

abbrev pub is_space : ℕ → Bool
is_space b = b == 32

-- a symbol of a string is a byte of a literal, or an interpolation; it knows the number of its part
pub record Symbol : Type 0 where
  pub part : ℕ
  pub byte : Option ℕ

abbrev pub is_byte : ℕ → Option ℕ → Bool
is_byte b None = false
is_byte b (Some c) = c == b

-- a symbol that is a space, and one that ends a line
abbrev pub is_gap : Symbol → Bool
is_gap s = is_byte 32 s.byte

abbrev pub is_feed : Symbol → Bool
is_feed s = is_byte 10 s.byte

-- the parts as one list of symbols, where n parts precede them
unfoldable pub symbols : {I : Type 0} → ℕ → Parts I → List Symbol
symbols n [] = []
symbols n (Literal text ∷ parts) = map (λ b. record { part = n; byte = Some b }) text ++ symbols (suc n) parts
symbols n (Interpolation i ∷ parts) = record { part = n; byte = None } ∷ symbols (suc n) parts

-- a symbol before the first line
abbrev pub before_line : Symbol → List (List Symbol) → List (List Symbol)
before_line s [] = (s ∷ []) ∷ []
before_line s (line ∷ lines) = (s ∷ line) ∷ lines

-- the lines of a list of symbols, which is cut after each line feed
unfoldable pub lines : List Symbol → List (List Symbol)
lines [] = []
lines (s ∷ list) = if is_feed s then (s ∷ []) ∷ lines list else before_line s (lines list)

-- how many spaces a line begins with
abbrev pub indentation : List Symbol → ℕ
indentation = prefix_len is_gap

-- a line has a symbol that is neither a space nor a line feed
abbrev pub has_text : List Symbol → Bool
has_text = list_any (λ s. not (is_gap s || is_feed s))

-- the smallest indentation of a line that has text; 1,000,000 at most, and where no line has text
unfoldable pub least_indentation : List (List Symbol) → ℕ
least_indentation [] = 1000000
least_indentation (line ∷ lines) =
    if has_text line then min (indentation line) (least_indentation lines) else least_indentation lines

-- a line without up to n of the spaces that it begins with
abbrev pub shortened : ℕ → List Symbol → List Symbol
shortened n line = drop (min n (indentation line)) line

-- a list of symbols, each line without the least indentation
abbrev pub unindented : List Symbol → List Symbol
unindented list = flat_map (shortened (least_indentation (lines list))) (lines list)

-- the bytes of a list of symbols that belong to the part of this number
unfoldable pub part_text : ℕ → List Symbol → List ℕ
part_text n [] = []
part_text n (s ∷ list) = (if s.part == n then option_to_list s.byte else []) ++ part_text n list

-- the parts with the texts that a list of symbols has for them, where n parts precede them
unfoldable pub with_texts : {I : Type 0} → List Symbol → ℕ → Parts I → Parts I
with_texts list n [] = []
with_texts list n (Literal text ∷ parts) = Literal (part_text n list) ∷ with_texts list (suc n) parts
with_texts list n (Interpolation i ∷ parts) = Interpolation i ∷ with_texts list (suc n) parts

-- how many spaces a text begins with
abbrev pub spaces : List ℕ → ℕ
spaces = prefix_len is_space

-- a text begins with a line feed, or with spaces and a line feed
abbrev pub opens_blank : List ℕ → Bool
opens_blank text = slice_index text (spaces text) == 10

-- what follows the first line feed of a text, if only spaces precede it
abbrev pub behind_blank : List ℕ → List ℕ
behind_blank text = drop (suc (spaces text)) text

-- a text begins with a line feed, or with spaces and a line feed, and this follows
abbrev pub IsBehindBlank : List ℕ → List ℕ → Type 0
IsBehindBlank text rest = (opens_blank text ≡ true) × (rest ≡ behind_blank text)

-- a literal, or no part where its text is empty
abbrev pub literal_if_some : {I : Type 0} → List ℕ → Parts I
literal_if_some [] = []
literal_if_some (b ∷ text) = Literal (b ∷ text) ∷ []

-- the parts without the spaces and the line feed that the first one begins with
abbrev pub opened : {I : Type 0} → Parts I → Parts I
opened [] = []
opened (Literal text ∷ parts) =
    if opens_blank text then literal_if_some (behind_blank text) ++ parts else Literal text ∷ parts
opened (Interpolation i ∷ parts) = Interpolation i ∷ parts

-- a text without the spaces that it ends with
abbrev pub trimmed : List ℕ → List ℕ
trimmed text = take (length text - suffix_len is_space text) text

-- a text without the spaces after its last line feed, if nothing else is there
abbrev pub without_last_spaces : List ℕ → List ℕ
without_last_spaces text = if slice_index (trimmed text) (length (trimmed text) - 1) == 10 then trimmed text else text

-- the parts; the last, if it is a literal, without the spaces after its last line feed, if nothing else is there
unfoldable pub closed : {I : Type 0} → Parts I → Parts I
closed [] = []
closed (Literal text ∷ []) = Literal (without_last_spaces text) ∷ []
closed (part ∷ parts) = part ∷ closed parts

-- the parts of an indented string, normalized
abbrev pub indented_parts : {I : Type 0} → Parts I → Parts I
indented_parts parts =
    map (with_text (unescaped true)) (closed (with_texts (unindented (symbols 0 (opened parts))) 0 (opened parts)))

-- the parts of a string between `"`, normalized
abbrev pub quoted_parts : {I : Type 0} → Parts I → Parts I
quoted_parts = map (with_text (unescaped false))
