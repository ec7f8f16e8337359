-- The line before a place, byte by byte.
use Rattle.std.proofs.Common.{◌≡◌, ◌⊎◌, ◌∙◌, ℕ, ◌+◌, ◌-◌, ◌<◌, ◌≤◌, ◌==◌, min, false, List, [], ◌∷◌, ◌++◌, length, take, drop, get_or, sym, ap, subst, inl, inr, arith}
use Rattle.std.specs.Prelude.{if◌then◌else◌}
use Rattle.nix_lints.specs.Ignored.{Lines, next_lines, lines_at}
use Rattle.nix_lints.proofs.IgnoredLemmas.{lines_more, between_more}
use Rattle.nix_dead.specs.declared.place.Place.{Place}
use Rattle.nix_dead.specs.Skipped.{leaves_out, IsAt}

-- no bytes from an offset up to itself
nothing_between : (n start : ℕ) (text : List ℕ) → start ≡ n → take (n - start) (drop start text) ≡ []
nothing_between n start text same = (let none : n - start ≡ 0 = omega (arith, same) in ap (λ m. take m (drop start text)) none)

-- a line feed begins a new line
new_line : (text : List ℕ) (offset : ℕ) (old new : Place) → IsAt text offset old → offset < length text → get_or text offset 0 ≡ 10 →
    new.text.now ≡ old.text.now → new.offset ≡ offset + 1 → new.start ≡ offset + 1 →
    new.is_left_out ≡ leaves_out (take (offset - old.start) (drop old.start text)) → IsAt text (offset + 1) new
new_line text offset old new at within feed text_is offset_is start_is mark =
    let lines : lines_at text (offset + 1) ≡ record { before = (lines_at text offset).current; current = [] } =
    lines_more text offset 0 within ∙ ap (next_lines (lines_at text offset)) feed in
    record {
      text_is = text_is ∙ at.text_is;
      offset_is = offset_is;
      within = omega (arith, within);
      order = omega (arith, start_is);
      current = ap (λ (l : Lines). l.current) lines ∙ sym (nothing_between (offset + 1) new.start text start_is);
      mark = mark ∙ ap leaves_out (sym (ap (λ (l : Lines). l.before) lines ∙ at.current));
    }

-- any other byte goes on with the line
same_line : (text : List ℕ) (offset : ℕ) (old new : Place) → IsAt text offset old → offset < length text → (get_or text offset 0 == 10) ≡ false →
    new.text.now ≡ old.text.now → new.offset ≡ offset + 1 → new.start ≡ old.start → new.is_left_out ≡ old.is_left_out → IsAt text (offset + 1) new
same_line text offset old new at within other text_is offset_is start_is mark =
    let before = lines_at text offset in
    let byte = get_or text offset 0 in
    let lines : lines_at text (offset + 1) ≡ record { before = before.before; current = before.current ++ byte ∷ [] } =
    lines_more text offset 0 within
    ∙ ap (λ b. if b then record { before = before.current; current = [] }
    else record { before = before.before; current = before.current ++ byte ∷ [] }) other in
    record {
      text_is = text_is ∙ at.text_is;
      offset_is = offset_is;
      within = omega (arith, within);
      order = omega (arith, start_is, at.order);
      current = ap (λ (l : Lines). l.current) lines ∙ ap (λ line. line ++ byte ∷ []) at.current
          ∙ between_more text old.start offset 0 at.order within ∙ ap (λ s. take (offset + 1 - s) (drop s text)) (sym start_is);
      mark = mark ∙ at.mark ∙ ap leaves_out (sym (ap (λ (l : Lines). l.before) lines));
    }

-- the same, from what the program knows
pub line_fed : (text : List ℕ) (offset : ℕ) (old new : Place) (line : List ℕ) → IsAt text offset old → old.offset < length old.text.now →
    get_or old.text.now old.offset 0 ≡ 10 → new.text.now ≡ old.text.now → new.offset ≡ old.offset + 1 → new.start ≡ old.offset + 1 →
    line ≡ take (old.offset - old.start) (drop old.start old.text.now) → new.is_left_out ≡ leaves_out line → IsAt text (offset + 1) new
line_fed text offset old new line at within feed text_is offset_is start_is line_is mark =
    new_line text offset old new at (omega (arith, within, at.offset_is, ap length at.text_is))
    (ap (λ n. get_or text n 0) (sym at.offset_is) ∙ ap (λ bytes. get_or bytes old.offset 0) (sym at.text_is) ∙ feed) text_is
    (omega (arith, offset_is, at.offset_is)) (omega (arith, start_is, at.offset_is))
    (mark ∙ ap leaves_out (line_is ∙ ap (λ n. take (n - old.start) (drop old.start old.text.now)) at.offset_is
    ∙ ap (λ bytes. take (offset - old.start) (drop old.start bytes)) at.text_is))

pub line_goes_on : (text : List ℕ) (offset : ℕ) (old new : Place) → IsAt text offset old → old.offset < length old.text.now →
    (get_or old.text.now old.offset 0 == 10) ≡ false → new.text.now ≡ old.text.now → new.offset ≡ old.offset + 1 → new.start ≡ old.start →
    new.is_left_out ≡ old.is_left_out → IsAt text (offset + 1) new
line_goes_on text offset old new at within other text_is offset_is start_is mark =
    same_line text offset old new at (omega (arith, within, at.offset_is, ap length at.text_is))
    (ap (λ n. get_or text n 0 == 10) (sym at.offset_is) ∙ ap (λ bytes. get_or bytes old.offset 0 == 10) (sym at.text_is) ∙ other) text_is
    (omega (arith, offset_is, at.offset_is)) start_is mark

-- a place at the end of a walk
pub walked : (text : List ℕ) (old offset end : ℕ) (start place : Place) → IsAt text old start → IsAt text place.offset place → old ≤ offset →
    end ≡ min offset (length start.text.now) → end ≤ place.offset → (place.offset ≤ end ⊎ (place.offset ≡ old)) → IsAt text (min offset (length text)) place
walked text old offset end start place before at order end_is done far =
    (let same : place.offset ≡ min offset (length text) = elim far [
      | inl within ↦ omega (arith, end_is, done, within, ap length before.text_is)
      | inr stayed ↦ omega (arith, end_is, done, stayed, order, before.within, ap length before.text_is)
    ] in subst (λ (n : ℕ). IsAt text n place) same at)
