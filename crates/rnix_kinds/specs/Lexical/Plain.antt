-- White space, comments and words, and a token that leaves the modes as they are.
use Rattle.std.specs.Prelude.{ℕ, Bool, ◌+◌, ◌&&◌, ◌||◌, ◌==◌, if◌then◌else◌, nat_lt, List, take, drop, length, slice_index, codes, Option, Some, None}
use Rattle.std.specs.List.{prefix_len}
use Rattle.std.specs.Char.{is_ascii_alphabetic}
use Rattle.std.specs.Str.{bytes_eq}
use Rattle.rnix_kinds.specs.declared.kinds.SyntaxKind.{SyntaxKind}
use Rattle.rnix_kinds.specs.declared.kinds.SyntaxKind.TheVariants.{TOKEN_ASSERT, TOKEN_COMMENT, TOKEN_ELSE, TOKEN_ERROR, TOKEN_IDENT, TOKEN_IF, TOKEN_IN, TOKEN_INHERIT, TOKEN_LET, TOKEN_OR, TOKEN_REC, TOKEN_THEN, TOKEN_URI, TOKEN_WHITESPACE, TOKEN_WITH}
use Rattle.rnix_kinds.specs.declared.tokenizer.rule.Cut.{Cut}
use Rattle.rnix_kinds.specs.declared.tokenizer.rule.Change.TheVariants.{Stay}
use Rattle.rnix_kinds.specs.Lexical.Texts.{begins, run_end, before_pair, space_len}
use Rattle.rnix_kinds.specs.declared.tokenizer.text.Class.TheVariants.{Name, Scheme, Line}
use Rattle.rnix_kinds.specs.Lexical.Classes.{class_test, is_uri}

-- a token that leaves the modes as they are
abbrev pub plain : SyntaxKind → ℕ → Cut
plain kind n = record { kind = kind; len = n; change = Stay }

-- a run of white space
abbrev pub space : List ℕ → Option Cut
space text = if nat_lt 0 (space_len text) then Some (plain TOKEN_WHITESPACE (space_len text)) else None

-- from `/*` through the first `*/` after it, or an error if there is none
abbrev pub block_comment : ℕ → List ℕ → Cut
block_comment inside text =
    if inside == length (drop 2 text) then plain TOKEN_ERROR (length text)
    else plain TOKEN_COMMENT (inside + 4)

-- from `#` to the end of the line, or a comment that begins with `/*`
abbrev pub comment : List ℕ → Option Cut
comment text =
    if begins (codes "#") text then Some (plain TOKEN_COMMENT (run_end (class_test Line) 0 text))
    else (if begins (codes "/*") text then Some (block_comment (before_pair 42 47 (drop 2 text)) text)
    else None)

-- a letter, if `:` and a URI character come right after the run of path characters other than `/` and `_` that it begins
abbrev pub uri : List ℕ → Option Cut
uri text =
    let n = prefix_len (class_test Scheme) text in
    if is_ascii_alphabetic (slice_index text 0) && slice_index text n == 58 && is_uri (slice_index text (n + 1))
    then Some (plain TOKEN_URI (run_end is_uri 0 text)) else None

-- the keywords
abbrev pub kind_of_word : List ℕ → SyntaxKind
kind_of_word word =
    if bytes_eq word (codes "assert") then TOKEN_ASSERT
    else (if bytes_eq word (codes "else") then TOKEN_ELSE
    else (if bytes_eq word (codes "if") then TOKEN_IF
    else (if bytes_eq word (codes "in") then TOKEN_IN
    else (if bytes_eq word (codes "inherit") then TOKEN_INHERIT
    else (if bytes_eq word (codes "let") then TOKEN_LET
    else (if bytes_eq word (codes "or") then TOKEN_OR
    else (if bytes_eq word (codes "rec") then TOKEN_REC
    else (if bytes_eq word (codes "then") then TOKEN_THEN
    else (if bytes_eq word (codes "with") then TOKEN_WITH
    else TOKEN_IDENT)))))))))

-- a letter or `_`
abbrev pub begins_word : ℕ → Bool
begins_word b = is_ascii_alphabetic b || b == 95

-- a byte with which a path or a URI may continue after a name: one of `.+/:`
abbrev pub goes_past_name : ℕ → Bool
goes_past_name b = b == 46 || b == 43 || b == 47 || b == 58

-- a letter or `_`, and the longest run of letters, digits, `_`, `-` and `'`
abbrev pub word : List ℕ → Option Cut
word text =
    let n = run_end (class_test Name) 0 text in
    if begins_word (slice_index text 0)
    then Some (plain (kind_of_word (take n text)) n) else None
