-- How single bytes change a position.
use Rattle.std.proofs.Common.{◌≡◌, ℕ, suc, ◌+◌, ◌*◌, ◌≤◌, ◌==◌, not, List, [], ◌∷◌, length, fold, Bool, true, false, refl, ap, ◌∙◌, arith}
use Rattle.std.{proofs.lemmas.Bool.{eqb-true, not-true, and_parts, Decides.nat_tests}, specs.Prelude.if◌then◌else◌}
use Rattle.rnix_text.specs.{declared.line_column.{ColumnUnit.{ColumnUnit, TheVariants.{Bytes, Chars, Utf16}}, Position.Position, Mark.Mark}, Positions.newline}
use Rattle.rnix_text.specs.{Positions.{weight, step}, Marks.{is_plain, is_up_to}}

-- a position is at or before another one
pub record IsUpTo (p q : Position) : Type 0 where
  pub line : p.line ≤ q.line
  pub column : p.line ≡ q.line → p.column ≤ q.column

-- the test whether a mark is at or before a position
pub up_to_true : (q : Position) (m : Mark) → is_up_to q m ≡ true → IsUpTo m.position q
up_to_true q m h = record { line = grind (arith, nat_tests); column = λ e. grind (arith, nat_tests) }

pub is_up_to_from : (q : Position) (m : Mark) → IsUpTo m.position q → is_up_to q m ≡ true
is_up_to_from q m h =
    let line = h.line in
    let column = h.column in
    grind (arith, nat_tests)

-- a byte adds at most two columns
pub weight_small : (unit : ColumnUnit) (b : ℕ) → weight unit b ≤ 2
weight_small Bytes b = omega arith
weight_small Chars b = grind (arith, nat_tests)
weight_small Utf16 b = grind (arith, nat_tests)

-- the first byte of a character adds at least one
pub weight_first : (unit : ColumnUnit) (b : ℕ) → (128 ≤ b → 192 ≤ b) → 1 ≤ weight unit b
weight_first Bytes b h = omega arith
weight_first Chars b h = grind (arith, nat_tests)
weight_first Utf16 b h = grind (arith, nat_tests)

-- the position after a byte that adds one column
pub plain_step : (unit : ColumnUnit) (p : Position) (b : ℕ) → is_plain unit b ≡ true → step unit p b ≡ record { line = p.line; column = p.column + 1 }
plain_step unit p b h =
    let parts = and_parts (not (b == newline)) (weight unit b == 1) h in
    ap (λ t. if t then (let q : Position = record { line = p.line + 1; column = 0 } in q) else record { line = p.line; column = p.column + weight unit b })
    (not-true (b == newline) parts.0)
    ∙ ap (λ w. let q : Position = record { line = p.line; column = p.column + w } in q) (eqb-true (weight unit b) 1 parts.1)

-- a byte does not decrease a position
pub step_up : (unit : ColumnUnit) (p : Position) (b : ℕ) → IsUpTo p (step unit p b)
step_up unit p b = newline_cases (b == newline)
  where
    newline_cases : (w : Bool) → IsUpTo p (if w then record { line = p.line + 1; column = 0 } else record { line = p.line; column = p.column + weight unit b })
    newline_cases true = record { line = omega arith; column = λ e. absurd (omega (arith, e)) }
    newline_cases false = record { line = omega arith; column = λ e. omega arith }

pub up_trans : (p q r : Position) → IsUpTo p q → IsUpTo q r → IsUpTo p r
up_trans p q r a b = record {
  line = omega (arith, a.line, b.line);
  column = λ e. omega (arith, a.column (omega (arith, a.line, b.line, e)), b.column (omega (arith, a.line, b.line, e)));
}

pub up_same : (p : Position) → IsUpTo p p
up_same p = record { line = omega arith; column = λ e. omega arith }

-- nor do several bytes
pub fold_up : (unit : ColumnUnit) (bs : List ℕ) (p : Position) → IsUpTo p (fold (step unit) p bs)
fold_up unit [] p = up_same p
fold_up unit (b ∷ bs) p = up_trans p (step unit p b) _ (step_up unit p b) (fold_up unit bs (step unit p b))

-- the first byte of a character increases a position, and so does a newline
pub first_passes : (unit : ColumnUnit) (p : Position) (b : ℕ) → (128 ≤ b → 192 ≤ b) → IsUpTo (step unit p b) p → ⊥
first_passes unit p b h = newline_cases (b == newline)
  where
    newline_cases : (w : Bool) →
        IsUpTo (if w then record { line = p.line + 1; column = 0 } else record { line = p.line; column = p.column + weight unit b }) p → ⊥
    newline_cases true u = omega (arith, u.line)
    newline_cases false u = omega (arith, u.column refl, weight_first unit b h)

-- bytes add at most two columns each
pub column_bound : (unit : ColumnUnit) (bs : List ℕ) (p : Position) → (fold (step unit) p bs).column ≤ p.column + 2 * length bs
column_bound unit [] p = omega arith
column_bound unit (b ∷ bs) p = newline_cases (b == newline) (column_bound unit bs)
  where
    newline_cases : (w : Bool) → ((q : Position) → (fold (step unit) q bs).column ≤ q.column + 2 * length bs)
        → (let q : Position = if w then record { line = p.line + 1; column = 0 } else record {
          line = p.line;
          column = p.column + weight unit b;
        } in (fold (step unit) q bs).column ≤ p.column + 2 * suc (length bs))
    newline_cases true rest = let h = rest record { line = p.line + 1; column = 0 } in omega (arith, h)
    newline_cases false rest = let h = rest record { line = p.line; column = p.column + weight unit b } in omega (arith, h, weight_small unit b)
