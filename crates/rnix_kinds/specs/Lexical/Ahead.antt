-- What a lookahead has found.
use Rattle.std.specs.Prelude.{◌≡◌, ℕ, ◌<◌, ◌-◌, List, length}
use Rattle.std.specs.List.{prefix_len}
use Rattle.rnix_kinds.specs.declared.tokenizer.ahead.Ahead.{Ahead}
use Rattle.rnix_kinds.specs.declared.tokenizer.text.Class.{Class}
use Rattle.rnix_kinds.specs.declared.tokenizer.text.Class.TheVariants.{Step, Scheme, Angle}
use Rattle.rnix_kinds.specs.Lexical.Classes.{class_test}

-- the run at the front ends where so many bytes of the text remain, if these are fewer than the whole text
abbrev pub IsRunEnd : Class → ℕ → List ℕ → Type 0
IsRunEnd class remaining text = remaining < length text → length text - remaining ≡ prefix_len (class_test class) text

pub record IsAhead (runs : Ahead) (text : List ℕ) : Type 0 where
  pub step : IsRunEnd Step runs.step text
  pub scheme : IsRunEnd Scheme runs.scheme text
  pub angle : IsRunEnd Angle runs.angle text
