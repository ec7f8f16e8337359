-- Numbers.
use Rattle.std.specs.Prelude.{ℕ, ◌+◌, not, ◌&&◌, ◌||◌, ◌==◌, if◌then◌else◌, List, slice_index, codes, Option, Some, None}
use Rattle.std.specs.Char.{is_ascii_digit}
use Rattle.rnix_kinds.specs.declared.kinds.SyntaxKind.TheVariants.{TOKEN_ERROR, TOKEN_FLOAT, TOKEN_INTEGER}
use Rattle.rnix_kinds.specs.declared.tokenizer.rule.Cut.{Cut}
use Rattle.rnix_kinds.specs.Lexical.Texts.{begins, run_end}
use Rattle.rnix_kinds.specs.Lexical.Plain.{plain}

-- the digits of an exponent, which must be there
abbrev pub exponent_digits : ℕ → List ℕ → Cut
exponent_digits i text =
    let end = run_end is_ascii_digit i text in plain (if end == i then TOKEN_ERROR else TOKEN_FLOAT) end

-- a float whose digits end at the index i, with its exponent if there is one: an `e` or `E` there, a sign or none, and digits
abbrev pub exponent : ℕ → List ℕ → Cut
exponent i text =
    if slice_index text i == 101 || slice_index text i == 69
    then (if slice_index text (i + 1) == 43 || slice_index text (i + 1) == 45 then exponent_digits (i + 2) text
    else exponent_digits (i + 1) text)
    else plain TOKEN_FLOAT i

-- digits from the index after the point on
abbrev pub fraction : ℕ → List ℕ → Cut
fraction i text = exponent (run_end is_ascii_digit i text) text

-- digits, and if `.` follows them, a fraction, unless they begin with `0` and a digit
abbrev pub digits_to : ℕ → List ℕ → Cut
digits_to end text =
    if slice_index text end == 46 && not (slice_index text 0 == 48 && not (slice_index text 1 == 46)) then fraction (end + 1) text
    else plain TOKEN_INTEGER end

abbrev pub number : List ℕ → Option Cut
number text =
    if is_ascii_digit (slice_index text 0) then Some (digits_to (run_end is_ascii_digit 0 text) text)
    else (if begins (codes ".") text && is_ascii_digit (slice_index text 1) then Some (fraction 1 text)
    else None)
