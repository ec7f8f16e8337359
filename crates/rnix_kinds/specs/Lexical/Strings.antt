-- The inside of a string.
use Rattle.std.specs.Prelude.{ℕ, zero, suc, ◌+◌, Bool, ◌||◌, ◌==◌, if◌then◌else◌, nat_lt, List, [], ◌∷◌, length, codes}
use Rattle.rnix_kinds.specs.declared.kinds.SyntaxKind.TheVariants.{TOKEN_ERROR, TOKEN_INTERPOL_START, TOKEN_STRING_CONTENT, TOKEN_STRING_END}
use Rattle.rnix_kinds.specs.declared.tokenizer.rule.Cut.{Cut}
use Rattle.rnix_kinds.specs.declared.tokenizer.rule.Change.TheVariants.{Open, Close}
use Rattle.rnix_kinds.specs.declared.tokenizer.rule.Mode.TheVariants.{Interpolation}
use Rattle.rnix_kinds.specs.Lexical.Texts.{begins}
use Rattle.rnix_kinds.specs.Lexical.Plain.{plain}

-- the length of the piece that begins the text; 0 at the closer or `${`
abbrev pub piece_len : Bool → List ℕ → ℕ
piece_len multiline text =
    if begins (codes "${") text then 0
    else (if begins (codes "$$") text then 2
    else (if multiline
    then (if begins (codes "'''") text || begins (codes "''$") text then 3
    else (if begins (codes "''\\") text then 4
    else (if begins (codes "''") text then 0 else 1)))
    else (if begins (codes "\"") text then 0
    else (if begins (codes "\\") text then 2 else 1))))

-- how many bytes the longest sequence of pieces has, where the first `inside` bytes are the rest of one
unfoldable pub content_from : Bool → ℕ → List ℕ → ℕ
content_from multiline inside [] = 0
content_from multiline (suc inside) (b ∷ text) = 1 + content_from multiline inside text
content_from multiline zero (b ∷ text) =
    elim (piece_len multiline (b ∷ text)) [ zero ↦ 0 | suc inside ↦ 1 + content_from multiline inside text ]

abbrev pub content_len : Bool → List ℕ → ℕ
content_len multiline = content_from multiline 0

-- if neither a closer nor `${` comes, all the rest, as an error; otherwise the content before it or, if there is none, the closer or `${`
abbrev pub string_cut : Bool → List ℕ → Cut
string_cut multiline text =
    let n = content_len multiline text in
    if n == length text then plain TOKEN_ERROR n
    else (if nat_lt 0 n then plain TOKEN_STRING_CONTENT n
    else (if begins (codes "${") text then record { kind = TOKEN_INTERPOL_START; len = 2; change = Open (Interpolation 0) }
    else record { kind = TOKEN_STRING_END; len = if multiline then 2 else 1; change = Close }))
