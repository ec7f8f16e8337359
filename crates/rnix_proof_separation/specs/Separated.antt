-- A text written out again: the tokens of another text, with white space between them where no string and no path is open.
use Rattle.std.specs.Prelude.{◌&&◌, ◌||◌, ◌≡◌, ◌⊎◌, ◌==◌, ◌<◌, ◌++◌, ℕ, Bool, true, false, not, if◌then◌else◌, List, [], ◌∷◌, length, take, drop, slice_index, codes, Option, Some}
use Rattle.std.specs.List.{list_all}
use Rattle.rnix_kinds.specs.declared.kinds.SyntaxKind.{SyntaxKind}
use Rattle.rnix_kinds.specs.declared.kinds.SyntaxKind.TheVariants.{TOKEN_ERROR, TOKEN_WHITESPACE}
use Rattle.rnix_kinds.specs.declared.tokenizer.rule.Cut.{Cut}
use Rattle.rnix_kinds.specs.declared.tokenizer.rule.Mode.{Mode}
use Rattle.rnix_kinds.specs.declared.tokenizer.rule.Mode.TheVariants.{Quoted, Path}
use Rattle.rnix_kinds.specs.Lexical.Texts.{begins, is_blank}
use Rattle.rnix_kinds.specs.declared.tokenizer.text.Class.TheVariants.{Name}
use Rattle.rnix_kinds.specs.Lexical.Classes.{class_test}
use Rattle.rnix_kinds.specs.Lexical.Plain.{plain, begins_word, goes_past_name}
use Rattle.rnix_kinds.specs.Lexical.Tokens.{Lexeme, cut_at, top, without_ended_paths, changed, tokens_of}

abbrev pub is_white_space : SyntaxKind → Bool
is_white_space TOKEN_WHITESPACE = true
is_white_space kind = false

abbrev pub is_error : SyntaxKind → Bool
is_error TOKEN_ERROR = true
is_error kind = false

-- the tokens other than white space
abbrev pub solids : List Lexeme → List Lexeme
solids [] = []
solids (token ∷ tokens) = if is_white_space token.0 then solids tokens else token ∷ solids tokens

-- no token is an error
abbrev pub have_no_error : List Lexeme → Bool
have_no_error tokens = list_all (λ token. not (is_error token.0)) tokens

-- a string or a path is open
abbrev pub is_inside : Option Mode → Bool
is_inside (Some (Quoted multiline)) = true
is_inside (Some (Path start)) = true
is_inside mode = false

-- a byte with which white space after the token may begin: after a comment to the end of its line, only a line feed
abbrev pub ends_token : List ℕ → ℕ → Bool
ends_token token b = if begins (codes "#") token then b == 10 else is_blank b

-- a bracket or a separator, the `{` of a set, and the `$` of `${`
abbrev pub is_bracket : ℕ → Bool
is_bracket b = b == 40 || b == 41 || b == 91 || b == 93 || b == 58 || b == 59 || b == 63 || b == 64 || b == 44 || b == 123 || b == 36

-- a byte that continues no name, and after a name no path and no URI
abbrev pub ends_name : ℕ → Bool
ends_name b = not (class_test Name b) && not (goes_past_name b)

-- a token that a byte may touch outside strings and paths: a bracket or a separator; a name or a keyword, if the byte ends it
abbrev pub may_touch : List ℕ → ℕ → Bool
may_touch token b = is_bracket (slice_index token 0) || (begins_word (slice_index token 0) && list_all (class_test Name) token && ends_name b)

-- no gap is needed: the text ends, or normal rules apply before and after the token and the next byte may touch it
abbrev pub NeedsNoGap : Bool → List ℕ → List ℕ → Type 0
NeedsNoGap normal token rest = (rest ≡ []) ⊎ ((normal && may_touch token (slice_index rest 0)) ≡ true)

-- the gap between a token and the rest of the text: nothing inside strings and paths; elsewhere white space, or nothing where no gap is needed
abbrev pub IsGap : Bool → Bool → List ℕ → List ℕ → List ℕ → Type 0
IsGap true normal token gap rest = gap ≡ []
IsGap false normal token gap rest =
    (list_all is_blank gap ≡ true) × (((gap ≡ []) × NeedsNoGap normal token rest) ⊎ (ends_token token (slice_index gap 0) ≡ true))

-- normal rules apply before and after a token, whatever text comes next
abbrev pub is_normal : List Mode → List Mode → Bool
is_normal before after = not (is_inside (top before)) && not (is_inside (top after))

-- the second text is made of the tokens of the first one, without its white space and with gaps after them; the modes are those that are open before it
pub data AreSeparated : List Mode → List ℕ → List ℕ → Type 0 where
  none : (modes : List Mode) → AreSeparated modes [] []
  space : (modes : List Mode) (text : List ℕ) (n : ℕ) (new : List ℕ) → 0 < length text
      → cut_at (top (without_ended_paths modes text)) text ≡ plain TOKEN_WHITESPACE n
      → AreSeparated (without_ended_paths modes text) (drop n text) new
      → AreSeparated modes text new
  token : (modes : List Mode) (text : List ℕ) (cut : Cut) (gap rest : List ℕ) → 0 < length text
      → cut_at (top (without_ended_paths modes text)) text ≡ cut → is_white_space cut.kind ≡ false
      → IsGap (is_inside (top (without_ended_paths (changed cut.change (without_ended_paths modes text)) (drop cut.len text))))
      (is_normal (without_ended_paths modes text) (changed cut.change (without_ended_paths modes text))) (take cut.len text) gap rest
      → AreSeparated (changed cut.change (without_ended_paths modes text)) (drop cut.len text) rest
      → AreSeparated modes text (take cut.len text ++ (gap ++ rest))

-- the same, with any white space before the first token
pub record IsSeparated (text new : List ℕ) : Type 0 where
  pub gap : List ℕ
  pub rest : List ℕ
  pub whole : new ≡ gap ++ rest
  pub blank : list_all is_blank gap ≡ true
  pub separated : AreSeparated [] text rest

-- the tokens of a text without errors stay the same when they are written with white space between them
abbrev pub AreCutAgain : List ℕ → List ℕ → Type 0
AreCutAgain text new = have_no_error (tokens_of text) ≡ true → IsSeparated text new → solids (tokens_of new) ≡ solids (tokens_of text)
