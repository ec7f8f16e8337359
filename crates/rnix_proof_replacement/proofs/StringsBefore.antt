-- A token inside a string is the same before two texts that begin with the same byte.
use Rattle.std.proofs.Common.{◌≡◌, ℕ, ◌<◌, Bool, true, false, ◌==◌, nat_lt, List, ◌++◌, length, get_or, drop, refl}
use Rattle.std.proofs.Common.{sym, ap, ◌∙◌, subst, inl, inr, arith, cond, length-append, eqb-true}
use Rattle.std.proofs.lemmas.{List.drop_at, Bool.{cases_lt, cases_Bool, cond_both, eqb-false, ne_eqb, lt-ltb, ltb-false, Decides.nat_tests}}
use Rattle.std.specs.Prelude.{codes}
use Rattle.rnix_kinds.specs.declared.{kinds.SyntaxKind.TheVariants.{TOKEN_STRING_CONTENT, TOKEN_STRING_END}, tokenizer.rule.{Cut.Cut, Change.TheVariants.Stay}}
use Rattle.rnix_kinds.specs.Lexical.{Texts.begins, Plain.plain, Strings.{piece_len, content_len, string_cut}}
use Rattle.rnix_kinds.proofs.LexicalLemmas.StringsLemmas.{content_len-stops, content_len-le}
use Rattle.rnix_proof_separation.proofs.{Appended.{if_true, if_false, same_byte, next_byte_at}}
use Rattle.rnix_proof_separation.proofs.KeptStrings.{piece_of, content_kept, string_stop, stop_opened, opened, closed}
use Rattle.rnix_proof_replacement.proofs.BeforeBrackets.{is_half, BeginsBracket, byte_same, stop_at}

-- the third byte of a piece matters only if the second is `$` or `'`
third_free : (m : Bool) (a b c d : ℕ) → is_half b ≡ false → piece_of m a b c ≡ piece_of m a b d
third_free true a b c d e = let other : (b == 39) ≡ false = grind (arith, nat_tests) in rw other (grind (arith, nat_tests))
third_free false a b c d e = refl

-- a piece before a bracket does not depend on what follows the bracket
pub piece_before : (o : List ℕ) → BeginsBracket o → (v : List ℕ) → 0 < length v → (m : Bool) (s r : List ℕ)
    → piece_len m ((v ++ o) ++ r) ≡ piece_len m ((v ++ o) ++ s)
piece_before o bracket v some m s r =
    let first = byte_same o bracket v r s 0 (omega arith) in
    let second = byte_same o bracket v r s 1 (omega arith) in
    ap (λ a. piece_of m a (get_or ((v ++ o) ++ r) 1 0) (get_or ((v ++ o) ++ r) 2 0)) first
    ∙ (ap (λ b. piece_of m (get_or ((v ++ o) ++ s) 0 0) b (get_or ((v ++ o) ++ r) 2 0)) second ∙ third)
  where
    third : piece_of m (get_or ((v ++ o) ++ s) 0 0) (get_or ((v ++ o) ++ s) 1 0) (get_or ((v ++ o) ++ r) 2 0)
        ≡ piece_of m (get_or ((v ++ o) ++ s) 0 0) (get_or ((v ++ o) ++ s) 1 0) (get_or ((v ++ o) ++ s) 2 0)
    third =
        elim (cases_lt 2 (length (v ++ o))) [
          | inl inside ↦ ap (piece_of m (get_or ((v ++ o) ++ s) 0 0) (get_or ((v ++ o) ++ s) 1 0)) (same_byte (v ++ o) r s 2 inside)
          | inr past ↦ elim (cases_Bool (is_half (get_or o 0 0))) [
            | inl e ↦ absurd (omega (arith, length-append v o, bracket.whole e))
            | inr e ↦ (let one : 1 ≡ length v = omega (arith, length-append v o, bracket.some) in
                let here : get_or ((v ++ o) ++ s) 1 0 ≡ get_or o 0 0 = ap (λ k. get_or ((v ++ o) ++ s) k 0) one ∙ stop_at o bracket v s in
                third_free m (get_or ((v ++ o) ++ s) 0 0) (get_or ((v ++ o) ++ s) 1 0) _ _ (ap is_half here ∙ e))
          ]
        ]

-- both texts after a token in a string begin with the same byte
pub record GoOnAlike (s r : List ℕ) : Type 0 where
  pub first : get_or r 0 0 ≡ get_or s 0 0
  pub some : 0 < length s
  pub more : 0 < length r

module _ (m : Bool) (t s r : List ℕ) (some : 0 < length t) (alike : GoOnAlike s r) where
  appended : (x : List ℕ) → 0 < length (t ++ x)
  appended x = omega (arith, length-append t x)

  content_same : content_len m (t ++ s) < length (t ++ s) → content_len m (t ++ s) ≡ length t → (piece_len m s ≡ 0 → piece_len m r ≡ 0)
      → string_cut m (t ++ r) ≡ plain TOKEN_STRING_CONTENT (content_len m (t ++ s))
  content_same before len stops =
      let longer = length-append t r in
      let stop : piece_len m s ≡ 0 = ap (piece_len m) (sym (drop_at t s (content_len m (t ++ s)) (sym len))) ∙ content_len-stops m (t ++ s) before in
      let same : content_len m (t ++ r) ≡ length t = content_kept m 0 t s r len alike.some alike.first (stops stop) in
      if_false (content_len m (t ++ r) == length (t ++ r)) _ _ _ (ne_eqb _ _ (λ e. omega (arith, alike.more)))
      (if_true (nat_lt 0 (content_len m (t ++ r))) _ _ _ (lt-ltb 0 _ (omega arith)) (ap (plain TOKEN_STRING_CONTENT) (same ∙ sym len)))

  -- the end of the string is the same before both
  closed_same : length t ≡ cond m 2 1 → piece_len m (t ++ s) ≡ 0 → piece_len m (t ++ r) ≡ 0
  closed_same len stop = by m len stop
    where
      by : (n : Bool) → length t ≡ cond n 2 1 → piece_len n (t ++ s) ≡ 0 → piece_len n (t ++ r) ≡ 0
      by true two e =
          let third : get_or (t ++ r) 2 0 ≡ get_or (t ++ s) 2 0 = next_byte_at t r 2 (sym two) ∙ (alike.first ∙ sym (next_byte_at t s 2 (sym two))) in
          rw (same_byte t r s 0 (omega arith), same_byte t r s 1 (omega arith), third) e
      by false one e =
          let second : get_or (t ++ r) 1 0 ≡ get_or (t ++ s) 1 0 = next_byte_at t r 1 (sym one) ∙ (alike.first ∙ sym (next_byte_at t s 1 (sym one))) in
          rw (same_byte t r s 0 (omega arith), second) e

  dollar_same : begins (codes "${") (t ++ s) ≡ false → begins (codes "${") (t ++ r) ≡ false
  dollar_same e =
      elim (cases_lt 1 (length t)) [
        | inl more ↦ rw (same_byte t r s 0 some, same_byte t r s 1 more) e
        | inr short ↦ (let here : 1 ≡ length t = omega arith in
            let second : get_or (t ++ r) 1 0 ≡ get_or (t ++ s) 1 0 = next_byte_at t r 1 here ∙ (alike.first ∙ sym (next_byte_at t s 1 here)) in
            rw (same_byte t r s 0 some, second) e)
      ]

  abbrev IsSame : Cut → Type 0
  IsSame cut = cut.len ≡ length t → (cut.change ≡ Stay → piece_len m s ≡ 0 → piece_len m r ≡ 0) → string_cut m (t ++ r) ≡ cut

  -- a token inside a string is the same before both, if no piece follows content
  pub string_before : (cut : Cut) → string_cut m (t ++ s) ≡ cut → IsSame cut
  string_before cut is = subst IsSame is
      (cond_both (content_len m (t ++ s) == length (t ++ s)) _ _ IsSame
      (λ e len stops. let all = eqb-true (content_len m (t ++ s)) (length (t ++ s)) e in
      let size : content_len m (t ++ s) ≡ length t = len in
      absurd (omega (arith, length-append t s, alike.some)))
      (λ e. cond_both (nat_lt 0 (content_len m (t ++ s))) _ _ IsSame
      (λ f len stops. let other = eqb-false (content_len m (t ++ s)) (length (t ++ s)) e in
      content_same (omega (arith, content_len-le m (t ++ s))) len (stops refl))
      (λ f. let none : content_len m (t ++ s) ≡ 0 = omega (arith, ltb-false 0 (content_len m (t ++ s)) f) in
      let stop : piece_len m (t ++ s) ≡ 0 =
      ap (λ k. piece_len m (drop k (t ++ s))) (sym none) ∙ content_len-stops m (t ++ s) (omega (arith, appended s)) in
      cond_both (begins (codes "${") (t ++ s)) opened (closed m) IsSame
      (λ g len stops. let kept = stop_opened m t s r (omega arith) g in
      string_stop m (t ++ r) (appended r) kept.0 ∙ if_true (begins (codes "${") (t ++ r)) _ _ _ kept.1 refl)
      (λ g len stops. string_stop m (t ++ r) (appended r) (closed_same (sym len) stop)
      ∙ if_false (begins (codes "${") (t ++ r)) _ _ _ (dollar_same g) refl))))

-- where a string ends, no piece begins
pub end_stop : (m : Bool) (x : List ℕ) → 0 < length x → (string_cut m x).kind ≡ TOKEN_STRING_END → piece_len m x ≡ 0
end_stop m x some =
    cond_both (content_len m x == length x) _ _ (λ (c : Cut). c.kind ≡ TOKEN_STRING_END → piece_len m x ≡ 0) (λ e is. absurd (cc))
    (λ e. cond_both (nat_lt 0 (content_len m x)) _ _ (λ (c : Cut). c.kind ≡ TOKEN_STRING_END → piece_len m x ≡ 0) (λ f is. absurd (cc))
    (λ f is. let none : content_len m x ≡ 0 = omega (arith, ltb-false 0 (content_len m x) f) in
    ap (λ k. piece_len m (drop k x)) (sym none) ∙ content_len-stops m x (omega arith)))
