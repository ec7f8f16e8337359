-- The offset of a position, counted from the last mark at or before it.
use Rattle.std.proofs.Common.{◌≡◌, ℕ, zero, suc, ◌+◌, ◌-◌, ◌≤◌, ◌<◌, inl, inr, List, [], ◌∷◌, length, take, fold, get_or, Bool, true, false, refl, ap, sym, ◌∙◌}
use Rattle.std.{proofs.{Common.{subst, arith}, lemmas.Bool.false_from_ne_true}, specs.Prelude.if◌then◌else◌}
use Rattle.rnix_text.specs.{declared.line_column.{ColumnUnit.ColumnUnit, Position.Position, Mark.Mark}, Positions.{step, IsAt}, TextColumns.{Counted, last_mark}}
use Rattle.rnix_text.{specs.Marks.{is_plain, is_up_to, first_mark, mark_after, marks_after, last_of}, proofs.ByteSteps.{IsUpTo, up_to_true, is_up_to_from}}
use Rattle.rnix_text.proofs.{ByteSteps.{up_trans, step_up, fold_up, first_passes, plain_step}, MarkLemmas.{last_here, last_alike}}

pub up_to_back : (unit : ColumnUnit) (p : Position) (m : Mark) (b : ℕ) → is_up_to p (mark_after unit m b) ≡ true → is_up_to p m ≡ true
up_to_back unit p m b h =
    is_up_to_from p m (up_trans m.position (step unit m.position b) p (step_up unit m.position b) (up_to_true p (mark_after unit m b) h))

-- the offset of a position is as many bytes after the mark as columns
pub record Leads (o : ℕ) (p : Position) (m : Mark) : Type 0 where
  pub line : m.position.line ≡ p.line
  pub column : m.position.column ≤ p.column
  pub offset : m.offset + (p.column - m.position.column) ≡ o

at_mark : (o : ℕ) (p : Position) (m : Mark) → m.offset ≡ o → m.position ≡ p → Leads o p m
at_mark o p m e f = record {
  line = ap (λ q. q.line) f;
  column = omega (arith, ap (λ q. q.column) f);
  offset = omega (arith, e, ap (λ q. q.column) f);
}

-- this holds for the last mark at or before the position of a character boundary
pub led : (unit : ColumnUnit) (o : ℕ) (p : Position) (bs : List ℕ) (m : Mark) (n : ℕ) → n ≤ length bs
    → (n < length bs → 128 ≤ get_or bs n 0 → 192 ≤ get_or bs n 0)
    → m.offset + n ≡ o → fold (step unit) m.position (take n bs) ≡ p → Leads o p (last_of (is_up_to p) m (marks_after unit m bs))
led unit o p [] m zero l first e f = at_mark o p m (omega (arith, e)) f
led unit o p (b ∷ bs) m zero l first e f =
    let next = mark_after unit m b in
    let past : is_up_to p next ≡ true → ⊥ =
    λ t. first_passes unit m.position b (first (omega arith)) (subst (IsUpTo next.position) (sym f) (up_to_true p next t)) in
    subst (Leads o p) (sym (last_here unit (is_up_to p) (up_to_back unit p) bs b m (false_from_ne_true (is_up_to p next) past)))
    (at_mark o p m (omega (arith, e)) f)
led unit o p [] m (suc n) l first e f = absurd (omega (arith, l))
led unit o p (b ∷ bs) m (suc n) l first e f =
    plain_cases (is_plain unit b) refl (led unit o p bs (mark_after unit m b) n (omega (arith, l)) (λ x. first (omega (arith, x))) (omega (arith, e)) f)
  where
    next : Mark
    next = mark_after unit m b

    rest : List Mark
    rest = marks_after unit next bs

    reached : is_up_to p next ≡ true
    reached = is_up_to_from p next (subst (IsUpTo next.position) f (fold_up unit (take n bs) next.position))

    plain_cases : (w : Bool) → is_plain unit b ≡ w → Leads o p (last_of (is_up_to p) next rest) →
        Leads o p (last_of (is_up_to p) m (if w then rest else next ∷ rest))
    plain_cases false h rest_leads = subst (Leads o p) (sym (ap (λ w. if w then last_of (is_up_to p) next rest else m) reached)) rest_leads
    plain_cases true h rest_leads = elim (last_alike (is_up_to p) m next rest) [
      | inr one ↦ subst (Leads o p) (sym one) rest_leads
      | inl both ↦ (
          let t = subst (Leads o p) both.1 rest_leads in
          let s = plain_step unit m.position b h in
          let line = ap (λ q. q.line) s in
          let column = ap (λ q. q.column) s in
          let c : Leads o p m = record {
            line = sym line ∙ t.line;
            column = omega (arith, column, t.column);
            offset = omega (arith, column, t.column, t.offset);
          } in
          subst (Leads o p) (sym both.0) c
          )
    ]

-- this holds for the last mark of a text at or before a position
pub text_led : (c : Counted) (p : Position) (o : ℕ) → IsAt c.unit c.text p o → Leads o p (last_mark (is_up_to p) c)
text_led c p o h = led c.unit o p c.text first_mark o h.0.0 h.0.1 (omega arith) h.1

-- the start of a text is at or before each position
pub first_up_to : (p : Position) → is_up_to p first_mark ≡ true
first_up_to p = is_up_to_from p first_mark record { line = omega arith; column = λ e. omega arith }
