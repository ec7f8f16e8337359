-- What is known of a string's lines while it is read symbol by symbol. `Normal` says what it means; lemmas say that both agree.
use Rattle.std.specs.Prelude.{◌≡◌, ◌<◌, ℕ, ◌+◌, ◌-◌, min, length, Bool, not, ◌==◌, ◌&&◌, if◌then◌else◌, nat_lt, List, [], ◌∷◌, ◌++◌, Option, Some, None}
use Rattle.std.specs.List.{fold}
use Rattle.rnix_base.specs.declared.indent.Indent.{Indent}
use Rattle.rnix_base.specs.declared.parts.InterpolPart.{InterpolPart}
use Rattle.rnix_base.specs.declared.parts.InterpolPart.TheVariants.{Literal, Interpolation}
use Rattle.rnix_base.specs.Normal.{Parts, is_byte}

-- the smallest indentation so far, and how many spaces the line has, as long as it has nothing else, after one more symbol
abbrev pub indent_after : Indent → Option ℕ → Indent
indent_after indent symbol =
    if is_byte 10 symbol then record { least = indent.least; spaces = Some 0 }
    else elim indent.spaces [
      | None ↦ indent
      | Some n ↦ if is_byte 32 symbol
          then record { least = indent.least; spaces = Some (if nat_lt n 1000000 then n + 1 else n) }
          else record { least = min indent.least n; spaces = None }
    ]

-- after the bytes of a text
abbrev pub indent_behind : Indent → List ℕ → Indent
indent_behind = fold (λ indent b. indent_after indent (Some b))

-- after a part
abbrev pub indent_after_part : {I : Type 0} → Indent → InterpolPart (List ℕ) I → Indent
indent_after_part indent (Literal text) = indent_behind indent text
indent_after_part indent (Interpolation i) = indent_after indent None

-- after the symbols of all parts
abbrev pub indent_of : {I : Type 0} → Indent → Parts I → Indent
indent_of = fold indent_after_part

-- before the first symbol
abbrev pub no_indent : Indent
no_indent = record { least = 1000000; spaces = Some 0 }

-- a symbol is one of the `remaining` spaces that the line still loses
abbrev pub is_lost : ℕ → Option ℕ → Bool
is_lost remaining symbol = is_byte 32 symbol && nat_lt 0 remaining

-- how many spaces the line still loses after one more symbol, where each line loses up to `least`
abbrev pub remaining_after : ℕ → ℕ → Option ℕ → ℕ
remaining_after least remaining symbol = if is_lost remaining symbol then remaining - 1 else (if is_byte 10 symbol then least else 0)

-- what the lines of a text do not lose
unfoldable pub kept : ℕ → ℕ → List ℕ → List ℕ
kept least remaining [] = []
kept least remaining (b ∷ text) =
    (if is_lost remaining (Some b) then [] else b ∷ []) ++ kept least (remaining_after least remaining (Some b)) text

-- how many spaces the last line of a text still loses
unfoldable pub remaining_behind : ℕ → ℕ → List ℕ → ℕ
remaining_behind least remaining [] = remaining
remaining_behind least remaining (b ∷ text) = remaining_behind least (remaining_after least remaining (Some b)) text

-- a byte that does not end a line
abbrev pub is_inside_line : ℕ → Bool
is_inside_line b = not (b == 10)

-- a text keeps this line and then what this shorter rest keeps, which still loses `next` spaces
pub record KeepsLine (least remaining : ℕ) (text line rest : List ℕ) (next : ℕ) : Type 0 where
  pub stays : kept least remaining text ≡ line ++ kept least next rest
  pub leaves : remaining_behind least remaining text ≡ remaining_behind least next rest
  pub shorter : length rest < length text
