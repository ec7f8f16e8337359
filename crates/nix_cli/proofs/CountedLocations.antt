-- Lines and columns that are counted from 1.
use Rattle.std.proofs.Common.{◌≡◌, ℕ, suc, ◌+◌, ◌≤◌, ◌<◌, ◌^◌, ◌==◌, List, [], ◌∷◌, length, take, fold, Bool, true, false, ap, subst, ◌∙◌, arith}
use Rattle.std.{proofs.lemmas.{List.length-take-le}, specs.{Prelude.if◌then◌else◌, Str.IsCharBoundary}}
use Rattle.rnix_text.specs.declared.line_column.{ColumnUnit.TheVariants.Chars, Position.Position}
use Rattle.rnix_text.{specs.Positions.{newline, weight, origin, step, position_at}, proofs.ByteSteps.column_bound}
use Rattle.rnix_text.specs.TextColumns.{Counted}

-- there are at most as many line ends as bytes
line_bound : (bs : List ℕ) (p : Position) → (fold (step Chars) p bs).line ≤ p.line + length bs
line_bound [] p = omega arith
line_bound (b ∷ bs) p = newline_cases (b == newline) (line_bound bs)
  where
    newline_cases : (w : Bool) → ((q : Position) → (fold (step Chars) q bs).line ≤ q.line + length bs)
        → (let q : Position = if w then record { line = p.line + 1; column = 0 } else record {
          line = p.line;
          column = p.column + weight Chars b;
        } in (fold (step Chars) q bs).line ≤ p.line + suc (length bs))
    newline_cases true rest = let h = rest record { line = p.line + 1; column = 0 } in omega (arith, h)
    newline_cases false rest = let h = rest record { line = p.line; column = p.column + weight Chars b } in omega (arith, h)

-- the line and the column of an offset fit in 64 bits, even when they are counted from 1
pub location_fits : (text : List ℕ) (c : Counted) (offset : ℕ) (p : Position) → c ≡ record { text = text; unit = Chars } → IsCharBoundary c.text offset →
    p ≡ position_at c.unit c.text offset → length text < 2 ^ 63 → (p.line + 1 < 2 ^ 64) × (p.column + 1 < 2 ^ 64)
location_fits text c offset p same within at small =
    let is : p ≡ position_at Chars text offset = at ∙ ap (λ i. position_at i.unit i.text offset) same in
    let up_to : offset ≤ length text = subst (λ bs. offset ≤ length bs) (ap (λ i. i.text) same) within.0 in
    let taken : length (take offset text) ≡ offset = length-take-le offset text up_to in
    let line = line_bound (take offset text) origin in
    let column = column_bound Chars (take offset text) origin in (
      omega (arith, ap (λ q. q.line) is, taken, line, up_to, small),
      omega (arith, ap (λ q. q.column) is, taken, column, up_to, small),
    )
