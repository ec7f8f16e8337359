-- The normalized parts of certain strings.
use Rattle.{std.{proofs.Common.{◌≡◌, List, [], ◌∷◌, ◌++◌, refl, codes}, specs.Prelude.ℕ}, rnix_base.specs.declared.parts.InterpolPart.TheVariants.{Literal, Interpolation}}
use Rattle.rnix_base.specs.{Escapes.values, Normal.{indented_parts, symbols, lines, least_indentation, part_text, with_texts, closed}}

-- only a line feed
first_feed : indented_parts {I = ℕ} (Literal (codes "\n") ∷ []) ≡ ([])
unfolding values symbols lines least_indentation part_text with_texts closed
first_feed = refl

-- only a line of spaces
blank_line : indented_parts {I = ℕ} (Literal (codes "\n  ") ∷ []) ≡ (Literal (codes "") ∷ [])
unfolding values symbols lines least_indentation part_text with_texts closed
blank_line = refl

-- lines lose their indentation
two_lines : indented_parts {I = ℕ} (Literal (codes "\n  hello\n  world") ∷ []) ≡ (Literal (codes "hello\nworld") ∷ [])
unfolding values symbols lines least_indentation part_text with_texts closed
two_lines = refl

-- a space after text stays
last_space : indented_parts {I = ℕ} (Literal (codes "hello ") ∷ []) ≡ (Literal (codes "hello ") ∷ [])
unfolding values symbols lines least_indentation part_text with_texts closed
last_space = refl

-- spaces after the last line feed
last_line : indented_parts {I = ℕ} (Literal (codes "hello\n ") ∷ []) ≡ (Literal (codes "hello\n") ∷ [])
unfolding values symbols lines least_indentation part_text with_texts closed
last_line = refl

-- an empty line does not count
empty_line : indented_parts {I = ℕ} (Literal (codes "\n    a\n\n  b") ∷ []) ≡ (Literal (codes "  a\n\nb") ∷ [])
unfolding values symbols lines least_indentation part_text with_texts closed
empty_line = refl

-- a line of spaces does not count
blank_between : indented_parts {I = ℕ} (Literal (codes "\n    a\n \n    b\n") ∷ []) ≡ (Literal (codes "a\n\nb\n") ∷ [])
unfolding values symbols lines least_indentation part_text with_texts closed
blank_between = refl

-- an interpolation counts as text
interpolation_first : indented_parts {I = ℕ} (Literal (codes "\n  ") ∷ Interpolation 0 ∷ Literal (codes "\n   y") ∷ []) ≡ (Literal (codes "") ∷ Interpolation 0
    ∷ Literal (codes "\n y") ∷ [])
unfolding values symbols lines least_indentation part_text with_texts closed
interpolation_first = refl

-- a first line that is not blank counts
no_first_feed : indented_parts {I = ℕ} (Literal (codes "  a\n    b") ∷ []) ≡ (Literal (codes "a\n  b") ∷ [])
unfolding values symbols lines least_indentation part_text with_texts closed
no_first_feed = refl

-- tabs are text
tabs : indented_parts {I = ℕ} (Literal (codes "\n\ta\n  b") ∷ []) ≡ (Literal (codes "\ta\n  b") ∷ [])
unfolding values symbols lines least_indentation part_text with_texts closed
tabs = refl

-- a line may continue in the next literal
two_literals : indented_parts {I = ℕ} (Literal (codes "\n  ") ∷ Literal (codes "  a\n") ∷ Literal (codes "    b") ∷ []) ≡ (Literal (codes "")
    ∷ Literal (codes "a\n") ∷ Literal (codes "b") ∷ [])
unfolding values symbols lines least_indentation part_text with_texts closed
two_literals = refl

-- an empty literal stays
first_empty : indented_parts {I = ℕ} (Literal (codes "") ∷ Interpolation 0 ∷ []) ≡ (Literal (codes "") ∷ Interpolation 0 ∷ [])
unfolding values symbols lines least_indentation part_text with_texts closed
first_empty = refl

-- a first literal that is dropped
opened_away : indented_parts {I = ℕ} (Literal (codes "  \n") ∷ Interpolation 0 ∷ Literal (codes " ") ∷ []) ≡ (Interpolation 0 ∷ Literal (codes " ") ∷ [])
unfolding values symbols lines least_indentation part_text with_texts closed
opened_away = refl

-- spaces after the last line feed that are not the last line
last_spaces : indented_parts {I = ℕ} (Literal (codes "\n  a\n  b\n  ") ∷ Interpolation 0 ∷ []) ≡ (Literal (codes "a\nb\n") ∷ Interpolation 0 ∷ [])
unfolding values symbols lines least_indentation part_text with_texts closed
last_spaces = refl

-- escapes in lines
escapes : indented_parts {I = ℕ} (Literal (codes "\n  a''\\n''${b}\n  '''") ∷ []) ≡ (Literal (codes "a\n${b}\n''") ∷ [])
unfolding values symbols lines least_indentation part_text with_texts closed
escapes = refl

-- a long text, as it is written
abbrev long_source : List ℕ
long_source =
    codes "\n                        \n                              \n                    This is a multiline string :D\n"
    ++ (codes "                      indented by two\n                    \\'\\'\\'\\'\\\n"
    ++ (codes "                    ''${ interpolation was escaped }\n                    two single quotes: '''\n"
    ++ codes "                    three single quotes: ''''\n                "))

-- and its value
abbrev long_value : List ℕ
long_value =
    codes "    \n          \nThis is a multiline string :D\n  indented by two\n\\'\\'\\'\\'\\\n"
    ++ codes "${ interpolation was escaped }\ntwo single quotes: ''\nthree single quotes: '''\n"

long_text : indented_parts {I = ℕ} (Literal long_source ∷ []) ≡ (Literal long_value ∷ [])
unfolding values symbols lines least_indentation part_text with_texts closed
long_text = refl

-- several parts
several : indented_parts {I = ℕ} (Literal (codes "\n\n    v ") ∷ Interpolation 1 ∷ Literal (codes ", b:\n\n      c\n    ") ∷ Interpolation 2
    ∷ Literal (codes ".\n\n    f\n  ") ∷ []) ≡ (Literal (codes "\nv ") ∷ Interpolation 1 ∷ Literal (codes ", b:\n\n  c\n") ∷ Interpolation 2
    ∷ Literal (codes ".\n\nf\n") ∷ [])
unfolding values symbols lines least_indentation part_text with_texts closed
several = refl
