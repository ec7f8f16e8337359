-- The position of an offset, counted from the last mark at or before it.
use Rattle.std.proofs.Common.{◌≡◌, ℕ, zero, suc, ◌+◌, ◌-◌, ◌≤◌, ◌<◌, ◌^◌, inl, inr, length-take-le, List, [], ◌∷◌, length, take, fold, Bool, true, false, refl}
use Rattle.std.{proofs.{Common.{ap, sym, ◌∙◌, subst, arith}, lemmas.Bool.Decides.nat_tests}, specs.{Prelude.if◌then◌else◌, Str.IsCharBoundary}}
use Rattle.rnix_text.specs.{declared.line_column.{ColumnUnit.ColumnUnit, Position.Position, Mark.Mark}, Positions.{origin, step, position_at}, TextColumns.Counted}
use Rattle.rnix_text.specs.{TextColumns.last_mark, Marks.{is_plain, is_before, first_mark, mark_after, marks_after, last_of, position_after}}
use Rattle.rnix_text.proofs.{ByteSteps.{plain_step, column_bound}, MarkLemmas.{last_here, last_alike}}

-- if the mark after a byte is at or before an offset, so is the mark before it
pub before_back : (unit : ColumnUnit) (o : ℕ) (m : Mark) (b : ℕ) → is_before o (mark_after unit m b) ≡ true → is_before o m ≡ true
before_back unit o m b h = grind (arith, nat_tests)

-- the start of a text is at or before each offset
pub first_before : (o : ℕ) → is_before o first_mark ≡ true
first_before o = grind (arith, nat_tests)

before_true : (o : ℕ) (m : Mark) → m.offset ≤ o → is_before o m ≡ true
before_true o m h = grind (arith, nat_tests)

before_false : (o : ℕ) (m : Mark) → o < m.offset → is_before o m ≡ false
before_false o m h = grind (arith, nat_tests)

-- the mark is at or before the offset, and the offset's position is counted from it
pub record Counts (o : ℕ) (p : Position) (m : Mark) : Type 0 where
  pub order : m.offset ≤ o
  pub position : position_after m o ≡ p

at_mark : (o : ℕ) (m : Mark) → m.offset ≡ o → Counts o m.position m
at_mark o m e = record {
  order = omega (arith, e);
  position = ap (λ c. let q : Position = record { line = m.position.line; column = c } in q) (omega (arith, e));
}

-- this holds for the last mark at or before the offset
pub counted : (unit : ColumnUnit) (o : ℕ) (bs : List ℕ) (m : Mark) (n : ℕ) → n ≤ length bs → m.offset + n ≡ o
    → Counts o (fold (step unit) m.position (take n bs)) (last_of (is_before o) m (marks_after unit m bs))
counted unit o [] m zero l e = at_mark o m (omega (arith, e))
counted unit o (b ∷ bs) m zero l e =
    subst (Counts o m.position) (sym (last_here unit (is_before o) (before_back unit o) bs b m (before_false o (mark_after unit m b) (omega (arith, e)))))
    (at_mark o m (omega (arith, e)))
counted unit o [] m (suc n) l e = absurd (omega (arith, l))
counted unit o (b ∷ bs) m (suc n) l e = plain_cases (is_plain unit b) refl (counted unit o bs (mark_after unit m b) n (omega (arith, l)) (omega (arith, e)))
  where
    next : Mark
    next = mark_after unit m b

    rest : List Mark
    rest = marks_after unit next bs

    p : Position
    p = fold (step unit) next.position (take n bs)

    same : is_plain unit b ≡ true → next.offset ≤ o → position_after next o ≡ position_after m o
    same h l =
        ap (λ q. let r : Position = record { line = q.line; column = q.column + (o - (m.offset + 1)) } in r) (plain_step unit m.position b h)
        ∙ ap (λ c. let r : Position = record { line = m.position.line; column = c } in r) (omega (arith, l))

    plain_cases : (w : Bool) → is_plain unit b ≡ w → Counts o p (last_of (is_before o) next rest)
        → Counts o p (last_of (is_before o) m (if w then rest else next ∷ rest))
    plain_cases false h rest_counts =
        subst (Counts o p) (sym (ap (λ w. if w then last_of (is_before o) next rest else m) (before_true o next (omega (arith, e))))) rest_counts
    plain_cases true h rest_counts = elim (last_alike (is_before o) m next rest) [
      | inr one ↦ subst (Counts o p) (sym one) rest_counts
      | inl both ↦ (
          let t = subst (Counts o p) both.1 rest_counts in
          let c : Counts o p m = record { order = omega (arith, e); position = sym (same h t.order) ∙ t.position } in
          subst (Counts o p) (sym both.0) c
          )
    ]

-- the position of an offset of a text, counted from the last of its marks at or before it
pub text_counted : (c : Counted) (o : ℕ) → IsCharBoundary c.text o → Counts o (position_at c.unit c.text o) (last_mark (is_before o) c)
text_counted c o b = counted c.unit o c.text first_mark o b.0 (omega arith)

-- its column is small
pub column_fits : (c : Counted) (o : ℕ) → IsCharBoundary c.text o → length c.text < 2 ^ 63 → (position_at c.unit c.text o).column < 2 ^ 64
column_fits c o b l = omega (arith, b.0, l, column_bound c.unit (take o c.text) origin, length-take-le o c.text b.0)
