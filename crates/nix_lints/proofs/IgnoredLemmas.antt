-- The line before a place, byte by byte.
use Rattle.std.proofs.Common.{◌≡◌, ◌⊎◌, ◌∙◌, ℕ, zero, suc, ◌+◌, ◌-◌, ◌<◌, ◌≤◌, ◌==◌, min, Bool, true, false, List, [], ◌∷◌, ◌++◌, length, map, take, drop, get_or, sym, ap, subst, refl, arith}
use Rattle.std.proofs.lemmas.{List.{take_more, take_all, get_or-map}, Bool.cases_lt, Grind.{fold-append}}
use Rattle.std.proofs.Common.{inl, inr}
use Rattle.std.specs.Prelude.{fold, nat_eq, if◌then◌else◌}
use Rattle.std.specs.List.{starts_with}
use Rattle.nix_diagnostics.specs.declared.code.Code.{Code}
use Rattle.nix_diagnostics.specs.Codes.{all_codes, code_name, code_number}
use Rattle.nix_diagnostics.proofs.CodeNumbers.{numbered, few_codes}
use Rattle.nix_lints.specs.declared.ignored.Place.{Place}
use Rattle.nix_lints.specs.Ignored.{Lines, next_lines, lines_at, has_name, without_blanks, marker, names_of, AreMarks, IsAt}

-- all bytes from an offset on
pub rest_whole : (n : ℕ) (text : List ℕ) → take (length text - n) (drop n text) ≡ drop n text
rest_whole zero text = (let same : length text - 0 ≡ length text = omega arith in ap (λ m. take m text) same) ∙ take_all (length text) text (omega arith)
rest_whole (suc n) [] = take_all (0 - suc n) [] (omega arith)
rest_whole (suc n) (byte ∷ text) =
    (let same : suc (length text) - suc n ≡ length text - n = omega arith in ap (λ m. take m (drop n text)) same) ∙ rest_whole n text

-- the names after the beginning of a comment
pub names_after : (line comment : List ℕ) → comment ≡ without_blanks line → starts_with nat_eq comment marker ≡ true →
    drop (length marker) comment ≡ names_of line
names_after line comment is begins =
    sym (ap (λ b. if b then drop (length marker) comment else []) begins)
    ∙ ap (λ c. if starts_with nat_eq c marker then drop (length marker) c else []) is

-- the marks of all codes
pub all_marked : (names : List ℕ) (marks : List Bool) → marks ≡ map (λ c. has_name names (code_name c)) all_codes → AreMarks names marks
all_marked names marks is code =
    ap (λ ms. get_or ms (code_number code) false) is
    ∙ get_or-map (λ c. has_name names (code_name c)) all_codes (code_number code) code false (few_codes code)
    ∙ ap (λ c. has_name names (code_name c)) (numbered code code)

-- no marks for no names
pub none_marked : (names : List ℕ) (marks : List Bool) → length names ≡ 0 → marks ≡ [] → AreMarks names marks
none_marked [] marks none is code = ap (λ ms. get_or ms (code_number code) false) is
none_marked (byte ∷ names) marks none is code = absurd (omega (arith, none))

-- the lines one byte further
pub lines_more : (text : List ℕ) (offset d : ℕ) → offset < length text →
    lines_at text (offset + 1) ≡ next_lines (lines_at text offset) (get_or text offset d)
lines_more text offset d within =
    ap (fold next_lines record { before = []; current = [] }) (take_more text offset d within)
    ∙ fold-append next_lines record { before = []; current = [] } (take offset text) (get_or text offset d ∷ [])

-- the bytes from one offset up to another, and one more
pub between_more : (text : List ℕ) (start offset d : ℕ) → start ≤ offset → offset < length text →
    take (offset - start) (drop start text) ++ get_or text offset d ∷ [] ≡ take (offset + 1 - start) (drop start text)
between_more text zero offset d order within =
    (let same : offset - 0 ≡ offset = omega arith in ap (λ n. take n text ++ get_or text offset d ∷ []) same)
    ∙ sym (take_more text offset d within)
    ∙ (let more : offset + 1 ≡ offset + 1 - 0 = omega arith in ap (λ n. take n text) more)
between_more [] (suc start) offset d order within = absurd (omega (arith, within))
between_more (byte ∷ text) (suc start) zero d order within = absurd (omega (arith, order))
between_more (byte ∷ text) (suc start) (suc offset) d order within =
    (let same : suc offset - suc start ≡ offset - start = omega arith in ap (λ n. take n (drop start text) ++ get_or text offset d ∷ []) same)
    ∙ between_more text start offset d (omega (arith, order)) (omega (arith, within))
    ∙ (let more : offset + 1 - start ≡ suc offset + 1 - suc start = omega arith in ap (λ n. take n (drop start text)) more)

-- no bytes from an offset up to itself
none_between : (n start : ℕ) (text : List ℕ) → start ≡ n → take (n - start) (drop start text) ≡ []
none_between n start text same = (let none : n - start ≡ 0 = omega (arith, same) in ap (λ m. take m (drop start text)) none)

-- the first bytes, as many as there are
pub take_within : (n : ℕ) (text : List ℕ) → take (min n (length text)) text ≡ take n text
take_within n text = elim (cases_lt n (length text)) [
  | inl less ↦ (let same : min n (length text) ≡ n = omega (arith, less) in ap (λ m. take m text) same)
  | inr more ↦ (let same : min n (length text) ≡ length text = omega (arith, more) in
      ap (λ m. take m text) same ∙ take_all (length text) text (omega arith) ∙ sym (take_all n text more))
]

-- the start of a text
pub at_start : (text : List ℕ) (place : Place) → place.text.now ≡ text → place.offset ≡ 0 → place.start ≡ 0 → place.marks.items ≡ [] → IsAt text 0 place
at_start text place text_is offset_is start_is none = record {
  text_is = text_is;
  offset_is = offset_is;
  within = omega arith;
  order = omega (arith, start_is);
  current = ap (λ s. take (0 - s) (drop s text)) (sym start_is);
  marks = none_marked [] place.marks.items refl none;
}

-- a line feed begins a new line
pub new_line : (text : List ℕ) (offset : ℕ) (old new : Place) → IsAt text offset old → offset < length text → get_or text offset 0 ≡ 10 →
    new.text.now ≡ old.text.now → new.offset ≡ offset + 1 → new.start ≡ offset + 1 →
    AreMarks (names_of (take (offset - old.start) (drop old.start text))) new.marks.items → IsAt text (offset + 1) new
new_line text offset old new at within feed text_is offset_is start_is marks =
    let lines : lines_at text (offset + 1) ≡ record { before = (lines_at text offset).current; current = [] } =
    lines_more text offset 0 within ∙ ap (next_lines (lines_at text offset)) feed in
    record {
      text_is = text_is ∙ at.text_is;
      offset_is = offset_is;
      within = omega (arith, within);
      order = omega (arith, start_is);
      current = ap (λ (l : Lines). l.current) lines ∙ sym (none_between (offset + 1) new.start text start_is);
      marks = subst (λ (line : List ℕ). AreMarks (names_of line) new.marks.items)
          (sym (ap (λ (l : Lines). l.before) lines ∙ at.current)) marks;
    }

-- any other byte goes on with the line
pub same_line : (text : List ℕ) (offset : ℕ) (old new : Place) → IsAt text offset old → offset < length text → (get_or text offset 0 == 10) ≡ false →
    new.text.now ≡ old.text.now → new.offset ≡ offset + 1 → new.start ≡ old.start → new.marks ≡ old.marks → IsAt text (offset + 1) new
same_line text offset old new at within other text_is offset_is start_is marks =
    let before = lines_at text offset in
    let byte = get_or text offset 0 in
    let lines : lines_at text (offset + 1) ≡ record { before = before.before; current = before.current ++ byte ∷ [] } =
    lines_more text offset 0 within
    ∙ ap (λ b. if b then record { before = before.current; current = [] } else record { before = before.before; current = before.current ++ byte ∷ [] }) other in
    record {
      text_is = text_is ∙ at.text_is;
      offset_is = offset_is;
      within = omega (arith, within);
      order = omega (arith, start_is, at.order);
      current = ap (λ (l : Lines). l.current) lines ∙ ap (λ line. line ++ byte ∷ []) at.current
          ∙ between_more text old.start offset 0 at.order within ∙ ap (λ s. take (offset + 1 - s) (drop s text)) (sym start_is);
      marks = λ code. ap (λ ms. get_or ms.items (code_number code) false) marks ∙ at.marks code
          ∙ ap (λ line. has_name (names_of line) (code_name code)) (sym (ap (λ (l : Lines). l.before) lines));
    }

-- the same, from what the program knows
pub line_fed : (text : List ℕ) (offset : ℕ) (old new : Place) (line names : List ℕ) → IsAt text offset old → old.offset < length old.text.now →
    get_or old.text.now old.offset 0 ≡ 10 → new.text.now ≡ old.text.now → new.offset ≡ old.offset + 1 → new.start ≡ old.offset + 1 →
    line ≡ take (old.offset - old.start) (drop old.start old.text.now) → names ≡ names_of line → AreMarks names new.marks.items → IsAt text (offset + 1) new
line_fed text offset old new line names at within feed text_is offset_is start_is line_is names_are marks =
    new_line text offset old new at (omega (arith, within, at.offset_is, ap length at.text_is))
    (ap (λ n. get_or text n 0) (sym at.offset_is) ∙ ap (λ bytes. get_or bytes old.offset 0) (sym at.text_is) ∙ feed) text_is
    (omega (arith, offset_is, at.offset_is)) (omega (arith, start_is, at.offset_is))
    (subst (λ (all : List ℕ). AreMarks all new.marks.items)
    (names_are ∙ ap names_of (line_is ∙ ap (λ n. take (n - old.start) (drop old.start old.text.now)) at.offset_is
    ∙ ap (λ bytes. take (offset - old.start) (drop old.start bytes)) at.text_is)) marks)

pub line_goes_on : (text : List ℕ) (offset : ℕ) (old new : Place) → IsAt text offset old → old.offset < length old.text.now →
    (get_or old.text.now old.offset 0 == 10) ≡ false → new.text.now ≡ old.text.now → new.offset ≡ old.offset + 1 → new.start ≡ old.start →
    new.marks ≡ old.marks → IsAt text (offset + 1) new
line_goes_on text offset old new at within other text_is offset_is start_is marks =
    same_line text offset old new at (omega (arith, within, at.offset_is, ap length at.text_is))
    (ap (λ n. get_or text n 0 == 10) (sym at.offset_is) ∙ ap (λ bytes. get_or bytes old.offset 0 == 10) (sym at.text_is) ∙ other) text_is
    (omega (arith, offset_is, at.offset_is)) start_is marks

-- a place at the end of a walk
pub walked : (text : List ℕ) (old offset end : ℕ) (start place : Place) → IsAt text old start → IsAt text place.offset place → old ≤ offset →
    end ≡ min offset (length start.text.now) → end ≤ place.offset → (place.offset ≤ end ⊎ (place.offset ≡ old)) → IsAt text (min offset (length text)) place
walked text old offset end start place before at order end_is done far =
    (let same : place.offset ≡ min offset (length text) = elim far [
      | inl within ↦ omega (arith, end_is, done, within, ap length before.text_is)
      | inr stayed ↦ omega (arith, end_is, done, stayed, order, before.within, ap length before.text_is)
    ] in subst (λ (n : ℕ). IsAt text n place) same at)
