-- The sets of bytes that runs are made of.
use Rattle.std.specs.Prelude.{ℕ, Bool, not, ◌==◌, ◌&&◌, ◌||◌}
use Rattle.std.specs.Char.{is_ascii_alphanumeric, is_ascii_digit}
use Rattle.rnix_kinds.specs.Lexical.Texts.{is_blank}
use Rattle.rnix_kinds.specs.declared.tokenizer.text.Class.{Class}
use Rattle.rnix_kinds.specs.declared.tokenizer.text.Class.TheVariants.{Digit, Name, Path, Step, Scheme, Angle, Uri, Line, Content, Blank, Comment}
use Rattle.rnix_kinds.specs.declared.tokenizer.long.LongClass.{LongClass}
use Rattle.rnix_kinds.specs.declared.tokenizer.long.LongClass.TheVariants as long

-- a path character: a letter, a digit, `/`, `_`, `.`, `+` or `-`
abbrev pub is_path : ℕ → Bool
is_path b = is_ascii_alphanumeric b || b == 47 || b == 95 || b == 46 || b == 43 || b == 45

-- a path character, or one of `%?:@&=$,!~*'`
abbrev pub is_uri : ℕ → Bool
is_uri b =
    is_path b || b == 37 || b == 63 || b == 58 || b == 64 || b == 38 || b == 61 || b == 36 || b == 44 || b == 33
    || b == 126 || b == 42 || b == 39

abbrev pub class_test : Class → ℕ → Bool
class_test Digit = is_ascii_digit
class_test Name = λ b. is_ascii_alphanumeric b || b == 95 || b == 45 || b == 39
class_test Path = is_path
class_test Step = λ b. is_path b && not (b == 47)
class_test Scheme = λ b. is_path b && not (b == 47) && not (b == 95)
class_test Angle = λ b. is_path b || b == 60
class_test Uri = is_uri
class_test Line = λ b. not (b == 10)
class_test Content = λ b. not (b == 34) && not (b == 92) && not (b == 36) && not (b == 39)
class_test Blank = is_blank
class_test Comment = λ b. not (b == 42)

-- the set of bytes whose runs are often long
abbrev pub class_of : LongClass → Class
class_of long.Blank = Blank
class_of long.Line = Line
class_of long.Comment = Comment
class_of long.Content = Content
