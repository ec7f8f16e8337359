-- The tokens of a text.
use Rattle.std.specs.Prelude.{codes, ◌⊎◌, Result, Ok, Err, length, ◌≡◌, ◌<◌, ◌≤◌, ◌^◌, ◌+◌, Bool, true, false, ℕ, zero, suc, ◌-◌, if◌then◌else◌, List, [], ◌∷◌, take, drop, Option, Some, None}
use Rattle.std.specs.Borrow.{Bor}
use Rattle.std.specs.List.{flat_map, All}
use Rattle.std.specs.Str.{IsCharBoundary, IsUtf8}
use Rattle.std.specs.declared.alloc.AllocError.{AllocError}
use Rattle.rnix_kinds.specs.declared.kinds.SyntaxKind.{SyntaxKind}
use Rattle.rnix_kinds.specs.declared.kinds.SyntaxKind.TheVariants.{TOKEN_CUR_POS, TOKEN_OR, TOKEN_IDENT, TOKEN_ERROR, TOKEN_STRING_START, TOKEN_INTERPOL_START, TOKEN_PATH_ABS, TOKEN_PATH_HOME, TOKEN_PATH_REL}
use Rattle.rnix_kinds.specs.declared.tokenizer.rule.Cut.{Cut}
use Rattle.rnix_kinds.specs.declared.tokenizer.rule.Mode.{Mode}
use Rattle.rnix_kinds.specs.declared.tokenizer.rule.Mode.TheVariants.{Quoted, Interpolation, Path}
use Rattle.rnix_kinds.specs.declared.tokenizer.rule.Change.{Change}
use Rattle.rnix_kinds.specs.declared.tokenizer.rule.Change.TheVariants.{Stay, Open, Close, Count}
use Rattle.rnix_kinds.specs.SyntaxKind.{is_token}
use Rattle.rnix_kinds.specs.Lexical.Texts.{begins, char_len}
use Rattle.rnix_kinds.specs.Lexical.Plain.{plain, space, comment, uri, word}
use Rattle.rnix_kinds.specs.Lexical.Strings.{string_cut}
use Rattle.rnix_kinds.specs.Lexical.Paths.{slash, home, relative, search_path, path_goes_on, path_cut}
use Rattle.rnix_kinds.specs.Lexical.Numbers.{number}
use Rattle.rnix_kinds.specs.Lexical.Operators.{ellipsis, opener, brace, operator}

-- the first rule that fits, or else the last
abbrev pub first_that_fits : List (Option Cut) → Cut → Cut
first_that_fits [] last = last
first_that_fits (Some cut ∷ rules) last = cut
first_that_fits (None ∷ rules) last = first_that_fits rules last

-- the normal rules, in their order
abbrev pub normal_rules : Option Mode → List ℕ → List (Option Cut)
normal_rules top text =
    space text ∷ comment text ∷ ellipsis text ∷ slash text ∷ home text ∷ relative text ∷ search_path text ∷ uri text
    ∷ word text ∷ number text ∷ opener text ∷ brace top text ∷ operator text ∷ []

-- an error over the first character
abbrev pub one_error : List ℕ → Cut
one_error text = plain TOKEN_ERROR (char_len text)

unfoldable pub normal_cut : Option Mode → List ℕ → Cut
normal_cut top text = first_that_fits (normal_rules top text) (one_error text)

-- the token that begins the text
unfoldable pub cut_at : Option Mode → List ℕ → Cut
cut_at (Some (Quoted multiline)) text = string_cut multiline text
cut_at (Some (Path kind)) text = path_cut kind text
cut_at (Some (Interpolation braces)) text = normal_cut (Some (Interpolation braces)) text
cut_at None text = normal_cut None text

-- the mode on top
abbrev pub top : List Mode → Option Mode
top [] = None
top (mode ∷ modes) = Some mode

-- a path ends where it does not continue
abbrev pub without_ended_paths : List Mode → List ℕ → List Mode
without_ended_paths [] text = []
without_ended_paths (Path kind ∷ modes) text = if path_goes_on text then Path kind ∷ modes else without_ended_paths modes text
without_ended_paths (mode ∷ modes) text = mode ∷ modes

-- the stack after a change
abbrev pub changed : Change → List Mode → List Mode
changed Stay modes = modes
changed (Open mode) modes = mode ∷ modes
changed Close modes = drop 1 modes
changed (Count braces) [] = []
changed (Count braces) (mode ∷ modes) = Interpolation braces ∷ modes

-- the change opens a mode
abbrev pub opens : Change → Bool
opens (Open mode) = true
opens change = false

-- a kind and a text
abbrev pub Lexeme : Type 0
Lexeme = SyntaxKind × List ℕ

-- the tokens of the text after its first `passed` bytes
unfoldable pub tokens_behind : ℕ → List Mode → List ℕ → List Lexeme
tokens_behind passed modes [] = []
tokens_behind (suc passed) modes (b ∷ text) = tokens_behind passed modes text
tokens_behind zero modes (b ∷ text) =
    let open_modes = without_ended_paths modes (b ∷ text) in
    let cut = cut_at (top open_modes) (b ∷ text) in
    (cut.kind, take cut.len (b ∷ text)) ∷ tokens_behind (cut.len - 1) (changed cut.change open_modes) text

-- the tokens of a text under a stack of modes, and of a whole text
abbrev pub tokens_under : List Mode → List ℕ → List Lexeme
tokens_under = tokens_behind 0

abbrev pub tokens_of : List ℕ → List Lexeme
tokens_of = tokens_under []

-- the open braces of the mode
abbrev pub braces_of : Option Mode → ℕ
braces_of (Some (Interpolation n)) = n
braces_of mode = 0

-- every count of braces has room for n more
abbrev pub CountsFit : ℕ → List Mode → Type 0
CountsFit n [] = n < 2 ^ 64
CountsFit n (mode ∷ modes) = (braces_of (Some mode) + n < 2 ^ 64) × CountsFit n modes

-- if the mode on top is a path, the path continues
abbrev pub IsPathGoingOn : Option Mode → List ℕ → Type 0
IsPathGoingOn (Some (Path kind)) text = path_goes_on text ≡ true
IsPathGoingOn mode text = Unit {0}

-- a token that opens a mode wherever it occurs
abbrev pub opens_alone : SyntaxKind → Bool
opens_alone TOKEN_STRING_START = true
opens_alone TOKEN_INTERPOL_START = true
opens_alone kind = false

-- a token that opens a mode where `${` follows
abbrev pub opens_path : SyntaxKind → Bool
opens_path TOKEN_PATH_ABS = true
opens_path TOKEN_PATH_HOME = true
opens_path TOKEN_PATH_REL = true
opens_path kind = false

-- which texts a token of a kind may have: a TOKEN_OR is `or`, a TOKEN_IDENT is not, and no rule returns TOKEN_CUR_POS or the kind of a node
abbrev pub MayBe : SyntaxKind → List ℕ → Type 0
MayBe TOKEN_CUR_POS word = ⊥
MayBe TOKEN_OR word = word ≡ codes "or"
MayBe TOKEN_IDENT word = ¬ (word ≡ codes "or")
MayBe kind word = is_token kind ≡ true

-- the change counts at most one brace more
abbrev pub CountsUp : Option Mode → Change → Type 0
CountsUp top (Count n) = n ≤ braces_of top + 1
CountsUp top (Open mode) = braces_of (Some mode) ≡ 0
CountsUp top change = Unit {0}

-- the change begins a path
abbrev pub IsPathBegun : Change → Type 0
IsPathBegun (Open (Path start)) = Unit {0}
IsPathBegun change = ⊥

-- the token opens a string, an interpolation, or a path that `${` follows
abbrev pub OpensBefore : Cut → List ℕ → Type 0
OpensBefore cut rest = (opens_alone cut.kind ≡ true) ⊎ ((opens_path cut.kind ≡ true) × IsPathBegun cut.change × (begins (codes "${") rest ≡ true))

pub record IsCutOf (top : Option Mode) (text : List ℕ) (cut : Cut) : Type 0 where
  pub some : 0 < cut.len
  pub boundary : IsCharBoundary text cut.len
  pub counted : CountsUp top cut.change
  pub named : MayBe cut.kind (take cut.len text)
  pub opener : opens cut.change ≡ true → OpensBefore cut (drop cut.len text)

-- the tokens, one after another: each begins where the last one ended, under the modes that it left
pub data AreTokens : List Mode → List ℕ → List Lexeme → Type 0 where
  none : (modes : List Mode) → AreTokens modes [] []
  next : (modes : List Mode) (text : List ℕ) (cut : Cut) (tokens : List Lexeme) → 0 < length text
      → cut_at (top (without_ended_paths modes text)) text ≡ cut
      → AreTokens (changed cut.change (without_ended_paths modes text)) (drop cut.len text) tokens
      → AreTokens modes text ((cut.kind, take cut.len text) ∷ tokens)

-- the text of a token
abbrev pub text_of : Lexeme → List ℕ
text_of token = token.1

-- what holds of the tokens of a text, whatever the rules are
pub record AreSound (text : List ℕ) (tokens : List Lexeme) : Type 0 where
  pub joined : flat_map text_of tokens ≡ text
  pub some : All (λ t. 0 < length t.1) tokens
  pub utf8 : All (λ t. IsUtf8 t.1) tokens
  pub named : All (λ t. MayBe t.0 t.1) tokens

-- an interpolation begins the tokens
abbrev pub InterpolatesFirst : List Lexeme → Type 0
InterpolatesFirst [] = ⊥
InterpolatesFirst (token ∷ tokens) = token.0 ≡ TOKEN_INTERPOL_START

-- the first of the tokens opens a mode: a string, an interpolation, or a path before an interpolation
abbrev pub OpensFirst : List Lexeme → Type 0
OpensFirst [] = ⊥
OpensFirst (token ∷ tokens) = (opens_alone token.0 ≡ true) ⊎ ((opens_path token.0 ≡ true) × InterpolatesFirst tokens)

-- the next of the remaining tokens is returned and removed; after a refusal it remains, and it opens a mode
abbrev pub GivesNext : List Lexeme → Option (Result (SyntaxKind × Bor (List ℕ)) AllocError) → List Lexeme → Type 0
GivesNext before None after = (before ≡ []) × (after ≡ [])
GivesNext before (Some (Ok token)) after = before ≡ (token.0, token.1.now) ∷ after
GivesNext before (Some (Err error)) after = (after ≡ before) × OpensFirst before
