-- The rest of a line that has text does not affect the indentation.
use Rattle.std.proofs.Common.{◌≡◌, ◌+◌, ◌∙◌, ℕ, suc, List, [], ◌∷◌, Bool, true, false, Some, None, refl, ap, sym, drop, arith}
use Rattle.std.{proofs.lemmas.Bool.Decides.nat_tests, specs.{List.prefix_len, Prelude.{cond, if◌then◌else◌}}}
use Rattle.rnix_base.specs.{declared.indent.Indent.Indent, Normal.is_byte, Indent.{indent_after, indent_behind, is_inside_line}}

-- the state after text on a line
abbrev has_text : ℕ → Indent
has_text least = record { least = least; spaces = None }

-- no byte of the line changes this state
unchanged : (least b : ℕ) → is_inside_line b ≡ true → indent_after (has_text least) (Some b) ≡ has_text least
unchanged least b h =
    let other : is_byte 10 (Some b) ≡ false = grind (arith, nat_tests) in
    ap (λ x. if x then record { least = least; spaces = Some 0 } else has_text least) other

line_passed : (least : ℕ) (bytes : List ℕ) →
    indent_behind (has_text least) bytes ≡ indent_behind (has_text least) (drop (prefix_len is_inside_line bytes) bytes)
line_passed least [] = refl
line_passed least (b ∷ bytes) = step (is_inside_line b) refl (line_passed least bytes)
  where
    step : (inside : Bool) → is_inside_line b ≡ inside →
        indent_behind (has_text least) bytes ≡ indent_behind (has_text least) (drop (prefix_len is_inside_line bytes) bytes)
        → indent_behind (has_text least) (b ∷ bytes)
        ≡ indent_behind (has_text least) (drop (cond (is_inside_line b) (1 + prefix_len is_inside_line bytes) 0) (b ∷ bytes))
    step true e more =
        ap (λ i. indent_behind i bytes) (unchanged least b e) ∙ more
        ∙ ap (λ n. indent_behind (has_text least) (drop n (b ∷ bytes))) (sym (ap (λ x. cond x (1 + prefix_len is_inside_line bytes) 0) e ∙ one))
      where
        one : 1 + prefix_len is_inside_line bytes ≡ suc (prefix_len is_inside_line bytes)
        one = omega arith
    step false e more = sym (ap (λ x. indent_behind (has_text least) (drop (cond x (1 + prefix_len is_inside_line bytes) 0) (b ∷ bytes))) e)

-- so the rest of the line may be skipped
pub passes_line : (indent : Indent) (bytes : List ℕ) → indent.spaces ≡ None
    → indent_behind indent bytes ≡ indent_behind indent (drop (prefix_len is_inside_line bytes) bytes)
passes_line indent bytes e =
    let same : indent ≡ has_text indent.least = ap (λ s. record { least = indent.least; spaces = s }) e in
    ap (λ i. indent_behind i bytes) same ∙ line_passed indent.least bytes
    ∙ ap (λ i. indent_behind i (drop (prefix_len is_inside_line bytes) bytes)) (sym same)
