-- What remains of the lines of a text without their indentation: byte by byte, then line by line.
use Rattle.std.proofs.Common.{◌≡◌, ◌+◌, ◌-◌, ◌<◌, ◌≤◌, ◌++◌, ◌∙◌, ℕ, zero, suc, true, false, ◌==◌, List, [], ◌∷◌, Some, refl, sym, ap, inl, inr, length}
use Rattle.std.proofs.{Common.{get_or, take, drop, arith, length-drop, length-take-le, take-append-drop}, Math.Seq.take-suc, lemmas.Bool.{cases_lt, Decides.nat_tests}}
use Rattle.std.proofs.lemmas.List.{append-nil, append_assoc, nil_from_length, drop_more, get_or-take, get_or-drop}
use Rattle.std.proofs.lemmas.List.Sums.{prefix_len-le-length, prefix_len_passes, prefix_len_stops}
use Rattle.std.{specs.{Prelude.{min, if◌then◌else◌}, List.prefix_len, Str.{IsCharBoundary, IsUtf8}}, proofs.Common.subst}
use Rattle.std.proofs.lemmas.Str.{IsCharBoundary-start, IsCharBoundary-after_ascii}
use Rattle.rnix_base.specs.{Normal.{is_byte, is_space, spaces}, Indent.{is_lost, remaining_after, kept, remaining_behind, is_inside_line, KeepsLine}}

kept_byte : (least remaining b : ℕ) (rest : List ℕ) → kept least remaining (b ∷ rest) ≡ (if is_lost remaining (Some b) then [] else b ∷ [])
    ++ kept least (remaining_after least remaining (Some b)) rest
unfolding kept
kept_byte least remaining b rest = refl

remaining_behind_byte : (least remaining b : ℕ) (rest : List ℕ) → remaining_behind least remaining (b ∷ rest)
    ≡ remaining_behind least (remaining_after least remaining (Some b)) rest
unfolding remaining_behind
remaining_behind_byte least remaining b rest = refl

-- the spaces at the beginning of a text are removed, up to `remaining`
pub lose : (least remaining n : ℕ) (text : List ℕ) → n ≤ remaining → n ≤ length text → ((k : ℕ) → k < n → is_space (get_or text k 0) ≡ true)
    → (kept least remaining text ≡ kept least (remaining - n) (drop n text))
    × (remaining_behind least remaining text ≡ remaining_behind least (remaining - n) (drop n text))
lose least remaining zero text l h space = (let same : remaining ≡ remaining - 0 =
    omega arith in (ap (λ k. kept least k text) same, ap (λ k. remaining_behind least k text) same))
lose least remaining (suc n) [] l h space = absurd (omega arith)
lose least remaining (suc n) (b ∷ text) l h space =
    let first : is_space b ≡ true = space 0 (omega arith) in
    let lost : is_lost remaining (Some b) ≡ true = grind (arith, nat_tests) in
    let after : remaining_after least remaining (Some b) ≡ remaining - 1 =
    ap (λ x. if x then remaining - 1 else (if is_byte 10 (Some b) then least else 0)) lost in
    let more = lose least (remaining - 1) n text (omega arith) (omega arith) (λ k i. space (suc k) (omega arith)) in
    let same : remaining - 1 - n ≡ remaining - suc n = omega arith in (
      kept_byte least remaining b text ∙ ap (λ x. (if x then [] else b ∷ []) ++ kept least (remaining_after least remaining (Some b)) text) lost
          ∙ ap (λ k. kept least k text) after ∙ more.0 ∙ ap (λ k. kept least k (drop n text)) same,
      remaining_behind_byte least remaining b text ∙ ap (λ k. remaining_behind least k text) after ∙ more.1
          ∙ ap (λ k. remaining_behind least k (drop n text)) same,
    )

-- a byte that is not removed stays
stays_byte : (least remaining b next : ℕ) (rest : List ℕ) → is_lost remaining (Some b) ≡ false → (if b == 10 then least else 0) ≡ next
    → (kept least remaining (b ∷ rest) ≡ b ∷ kept least next rest) × (remaining_behind least remaining (b ∷ rest) ≡ remaining_behind least next rest)
stays_byte least remaining b next rest lost e =
    let after : remaining_after least remaining (Some b) ≡ next = ap (λ x. if x then remaining - 1 else (if is_byte 10 (Some b) then least else 0)) lost
    ∙ e in (
      kept_byte least remaining b rest ∙ ap (λ x. (if x then [] else b ∷ []) ++ kept least (remaining_after least remaining (Some b)) rest) lost
          ∙ ap (λ k. b ∷ kept least k rest) after,
      remaining_behind_byte least remaining b rest ∙ ap (λ k. remaining_behind least k rest) after,
    )

-- a line without a line feed stays, if it does not begin with a space to be removed
stays_line : (least remaining : ℕ) (b : ℕ) (line rest : List ℕ) → is_lost remaining (Some b) ≡ false
    → ((k : ℕ) → k < suc (length line) → is_inside_line (get_or (b ∷ line) k 0) ≡ true)
    → (kept least remaining (b ∷ (line ++ rest)) ≡ b ∷ (line ++ kept least 0 rest))
    × (remaining_behind least remaining (b ∷ (line ++ rest)) ≡ remaining_behind least 0 rest)
stays_line least remaining b [] rest lost inside =
    let first : is_inside_line b ≡ true = inside 0 (omega arith) in
    stays_byte least remaining b 0 rest lost (grind (arith, nat_tests))
stays_line least remaining b (d ∷ line) rest lost inside =
    let first : is_inside_line b ≡ true = inside 0 (omega arith) in
    let one = stays_byte least remaining b 0 (d ∷ (line ++ rest)) lost (grind (arith, nat_tests)) in
    let none : is_lost 0 (Some d) ≡ false = grind (arith, nat_tests) in
    let more = stays_line least 0 d line rest none (λ k i. inside (suc k) (omega arith)) in
    (one.0 ∙ ap (λ t. b ∷ t) more.0, one.1 ∙ more.1)

pub kept-nil : (least remaining : ℕ) → kept least remaining [] ≡ []
unfolding kept
kept-nil least remaining = refl

pub remaining_behind-nil : (least remaining : ℕ) → remaining_behind least remaining [] ≡ remaining
unfolding remaining_behind
remaining_behind-nil least remaining = refl

pub grown : {A : Type 0} (whole before after piece rest more : List A) → whole ≡ before ++ rest → rest ≡ piece ++ more → after ≡ before ++ piece
    → whole ≡ after ++ more
grown whole before after piece rest more e f h = e ∙ ap (λ t. before ++ t) f ∙ sym (append_assoc before piece more) ∙ ap (λ t. t ++ more) (sym h)

-- a line with its line feed stays, and the next one loses as much as any
stays_fed : (least remaining : ℕ) (line rest : List ℕ) → (0 < length line → is_lost remaining (Some (get_or line 0 0)) ≡ false)
    → ((k : ℕ) → k < length line → is_inside_line (get_or line k 0) ≡ true)
    → (kept least remaining (line ++ 10 ∷ rest) ≡ (line ++ 10 ∷ []) ++ kept least least rest)
    × (remaining_behind least remaining (line ++ 10 ∷ rest) ≡ remaining_behind least least rest)
stays_fed least remaining [] rest first inside = stays_byte least remaining 10 least rest (grind (arith, nat_tests)) refl
stays_fed least remaining (b ∷ line) rest first inside =
    let all = stays_line least remaining b line (10 ∷ rest) (first (omega arith)) inside in
    let feed = stays_byte least 0 10 least rest refl refl in
    (all.0 ∙ ap (λ t. b ∷ (line ++ t)) feed.0 ∙ sym (append_assoc (b ∷ line) (10 ∷ []) (kept least least rest)), all.1 ∙ feed.1)

-- so does a last line without one
stays_last : (least remaining : ℕ) (line : List ℕ) → 0 < length line → is_lost remaining (Some (get_or line 0 0)) ≡ false
    → ((k : ℕ) → k < length line → is_inside_line (get_or line k 0) ≡ true)
    → (kept least remaining line ≡ line ++ kept least 0 []) × (remaining_behind least remaining line ≡ remaining_behind least 0 [])
stays_last least remaining [] some first inside = absurd (omega arith)
stays_last least remaining (b ∷ line) some first inside =
    let all = stays_line least remaining b line [] first inside in
    (ap (λ t. kept least remaining (b ∷ t)) (sym (append-nil line)) ∙ all.0, ap (λ t. remaining_behind least remaining (b ∷ t)) (sym (append-nil line)) ∙ all.1)

module _ (least remaining lost : ℕ) (text line : List ℕ) (is : lost ≡ min (spaces text) remaining) (behind : line ≡ drop lost text) where
  within : (lost ≤ remaining) × (lost ≤ spaces text)
  within = (omega (arith, is), omega (arith, is))

  fits : lost ≤ length text
  fits = omega (arith, within.1, prefix_len-le-length is_space text)

  -- the spaces are removed
  pub spaces_lost : (kept least remaining text ≡ kept least (remaining - lost) line)
      × (remaining_behind least remaining text ≡ remaining_behind least (remaining - lost) line)
  spaces_lost =
      let all = lose least remaining lost text within.0 fits (λ k l. prefix_len_passes is_space text k 0 (omega (arith, l, within.1))) in
      (all.0 ∙ ap (kept least (remaining - lost)) (sym behind), all.1 ∙ ap (remaining_behind least (remaining - lost)) (sym behind))

  -- what follows them is not removed
  first_stays : 0 < length line → is_lost (remaining - lost) (Some (get_or line 0 0)) ≡ false
  first_stays some =
      let one : get_or line 0 0 ≡ get_or text lost 0 = ap (λ t. get_or t 0 0) behind ∙ get_or-drop lost text 0 0 ∙ ap (λ k. get_or text k 0) (omega arith) in
      elim (cases_lt lost remaining) [
        | inr all ↦ (let none : remaining - lost ≡ 0 = omega arith in grind (arith, nat_tests))
        | inl fewer ↦
            let stops : lost ≡ spaces text = omega (arith, is) in
            let there : spaces text < length text = omega (arith, some, ap length behind, length-drop lost text) in
            let no_space : is_space (get_or line 0 0) ≡ false =
            ap is_space (one ∙ ap (λ k. get_or text k 0) stops) ∙ prefix_len_stops is_space text 0 there in
            grind (arith, nat_tests)
      ]

  module _ (len : ℕ) (run : len ≡ prefix_len is_inside_line line) where
    inside : (k : ℕ) → k < len → is_inside_line (get_or line k 0) ≡ true
    inside k l = prefix_len_passes is_inside_line line k 0 (omega (arith, l, run))

    pub fed_line : (whole rest : List ℕ) → len < length line → whole ≡ take (len + 1) line →
        rest ≡ drop (len + 1) line → KeepsLine least remaining text whole rest least
    fed_line whole rest there e f =
        let body = take len line in
        let size : length body ≡ len = length-take-le len line (omega arith) in
        let stop : is_inside_line (get_or line len 0) ≡ false =
        ap (λ k. is_inside_line (get_or line k 0)) run ∙ prefix_len_stops is_inside_line line 0 (omega (arith, run, there)) in
        let feed : get_or line len 0 ≡ 10 = grind (arith, nat_tests) in
        let cut : line ≡ body ++ 10 ∷ drop (len + 1) line =
        sym (take-append-drop len line) ∙ ap (λ t. body ++ t) (drop_more line len 0 there ∙ ap (λ b. b ∷ drop (len + 1) line) feed) in
        let front : take (len + 1) line ≡ body ++ 10 ∷ [] = (let one : len + 1 ≡ suc len = omega arith in ap (λ n. take n line) one)
        ∙ take-suc line len 0 there ∙ ap (λ b. body ++ b ∷ []) feed in
        let all = stays_fed least (remaining - lost) body (drop (len + 1) line)
        (λ some. ap (λ b. is_lost (remaining - lost) (Some b)) (get_or-take len line 0 0 (omega (arith, some, size))) ∙ first_stays (omega (arith, there)))
        (λ k l. ap is_inside_line (get_or-take len line k 0 (omega (arith, l, size))) ∙ inside k (omega (arith, l, size))) in
        record {
          stays = spaces_lost.0 ∙ ap (kept least (remaining - lost)) cut ∙ all.0 ∙ ap (λ t. t ++ kept least least (drop (len + 1) line)) (sym (e ∙ front))
              ∙ ap (λ t. whole ++ kept least least t) (sym f);
          leaves = spaces_lost.1 ∙ ap (remaining_behind least (remaining - lost)) cut ∙ all.1 ∙ ap (remaining_behind least least) (sym f);
          shorter = omega (arith, ap length f, length-drop (len + 1) line, ap length behind, length-drop lost text, there);
        }

    pub last_line : length line ≤ len → 0 < len → 0 < length text → KeepsLine least remaining text line [] 0
    last_line all some more =
        let whole : 0 < length line = omega (arith, run, prefix_len-le-length is_inside_line line) in
        let h = stays_last least (remaining - lost) line whole (first_stays whole) (λ k l. inside k (omega arith)) in
        record { stays = spaces_lost.0 ∙ h.0; leaves = spaces_lost.1 ∙ h.1; shorter = more }

    pub no_line : length line ≤ len → len ≤ 0 → 0 < length text → KeepsLine least remaining text [] [] (remaining - lost)
    no_line all none more =
        let empty : line ≡ [] = nil_from_length line (omega arith) in
        record {
          stays = spaces_lost.0 ∙ ap (kept least (remaining - lost)) empty;
          leaves = spaces_lost.1 ∙ ap (remaining_behind least (remaining - lost)) empty;
          shorter = more;
        }

-- the spaces end at a character boundary
pub behind_spaces : (text : List ℕ) (lost remaining : ℕ) → IsUtf8 text → lost ≡ min (spaces text) remaining → IsCharBoundary text lost
behind_spaces text zero remaining utf8 is = IsCharBoundary-start text utf8
behind_spaces text (suc k) remaining utf8 is =
    let low : k < spaces text = omega (arith, is) in
    let space : is_space (get_or text k 0) ≡ true = prefix_len_passes is_space text k 0 low in
    let one : k + 1 ≡ suc k = omega arith in
    subst (IsCharBoundary text) one
    (IsCharBoundary-after_ascii text k utf8 (omega (arith, low, prefix_len-le-length is_space text)) (grind (arith, nat_tests)))

-- so does a line feed
pub behind_feed : (line : List ℕ) (len : ℕ) → IsUtf8 line → len ≡ prefix_len is_inside_line line → len < length line → IsCharBoundary line (len + 1)
behind_feed line len utf8 run there =
    let stop : is_inside_line (get_or line len 0) ≡ false =
    ap (λ k. is_inside_line (get_or line k 0)) run ∙ prefix_len_stops is_inside_line line 0 (omega (arith, run, there)) in
    IsCharBoundary-after_ascii line len utf8 there (grind (arith, nat_tests))
