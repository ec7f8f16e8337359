-- Tokens that Nix reads differently from the tokenizer.
use Rattle.std.specs.Prelude.{◌≡◌, ℕ, ◌==◌, ◌&&◌, ◌||◌, Bool, true, false, not, List, [], ◌∷◌, slice_index, if◌then◌else◌}
use Rattle.std.specs.List.{list_any, list_all}
use Rattle.std.specs.Char.{is_ascii_digit}
use Rattle.rnix_kinds.specs.declared.kinds.SyntaxKind.{SyntaxKind}
use Rattle.rnix_kinds.specs.declared.kinds.SyntaxKind.TheVariants as k
use Rattle.rnix_green.specs.Tree.{Located, item_of, text_at}
use Rattle.rnix_green.specs.Walk.{Spot, elements_of}

-- Nix's white space: space, line feed, tab and carriage return
abbrev pub is_blank : ℕ → Bool
is_blank byte = byte == 32 || (byte == 10 || (byte == 9 || byte == 13))

-- something other than white space follows a carriage return, which is in the text or was read before it
abbrev pub has_text_after_return : Bool → List ℕ → Bool
has_text_after_return returned [] = false
has_text_after_return returned (byte ∷ bytes) = if returned && not (is_blank byte) then true else has_text_after_return (returned || byte == 13) bytes

-- a `#` comment ends at its first carriage return for Nix, which then reads more than white space
abbrev pub ends_early : List ℕ → Bool
ends_early text = slice_index text 0 == 35 && has_text_after_return false text

-- a float begins with `0.` and has no digit after it
abbrev pub lacks_digit : List ℕ → Bool
lacks_digit text = slice_index text 0 == 48 && (slice_index text 1 == 46 && not (is_ascii_digit (slice_index text 2)))

-- Nix reads a token of this kind and text differently
abbrev pub is_misread : SyntaxKind → List ℕ → Bool
is_misread k.TOKEN_WHITESPACE text = not (list_all is_blank text)
is_misread k.TOKEN_COMMENT text = ends_early text
is_misread k.TOKEN_FLOAT text = lacks_digit text
is_misread kind text = false

-- a string is in `"`, not in `''`
abbrev pub is_quoted : List ℕ → Bool
is_quoted source = slice_index source 0 == 34

-- Nix changes a string: it ends the string at the character 0, and reads a carriage return in `"` as a line feed
abbrev pub is_altered : List ℕ → Bool
is_altered source = list_any (λ b. b == 0) source || (is_quoted source && list_any (λ b. b == 13) source)

-- an element is a token that Nix reads differently
abbrev pub is_misread_at : Spot → Bool
is_misread_at spot = not spot.0 && is_misread (item_of spot.1).kind (text_at spot.1)

-- Nix reads no token of an element differently
abbrev pub IsReadAlike : Located → Type 0
IsReadAlike e = list_any is_misread_at (elements_of e) ≡ false
