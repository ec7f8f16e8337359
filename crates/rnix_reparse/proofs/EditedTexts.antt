-- An edit inside a part of a text, and the character boundaries of the parts.
use Rattle.std.proofs.Common.{◌≡◌, ℕ, ◌+◌, ◌-◌, ◌≤◌, ◌<◌, List, ◌++◌, length, get_or, take, drop, refl, ap, sym, ◌∙◌, subst, arith, append_assoc, length-append, length-drop}
use Rattle.std.specs.Str.{IsUtf8, IsCharBoundary}
use Rattle.std.proofs.Math.Seq.{take-add}
use Rattle.std.proofs.lemmas.List.{take-take, drop-drop, drop-take, take-append-drop, drop_at, take_at, get_or-take, get_or-drop, length-take-le}
use Rattle.std.proofs.lemmas.Str.{IsUtf8-take, IsUtf8-drop, IsCharBoundary-start, IsCharBoundary-from_take}
use Rattle.rnix_reparse.specs.EditedRange.{edited}

-- the text before a part, with the beginning of the part, is the text before a position in the part
front : (t : List ℕ) (s e a : ℕ) → s ≤ a → a ≤ e → take s t ++ take (a - s) (take (e - s) (drop s t)) ≡ take a t
front t s e a low high =
    let sum : s + (a - s) ≡ a = omega arith in
    ap (λ x. take s t ++ x) (take-take (a - s) (e - s) (drop s t) (omega arith)) ∙ sym (take-add s (a - s) t) ∙ ap (λ n. take n t) sum

-- the end of the part, with the text after it, is the text after a position in the part
back : (t : List ℕ) (s e b : ℕ) → s ≤ b → b ≤ e → drop (b - s) (take (e - s) (drop s t)) ++ drop e t ≡ drop b t
back t s e b low high =
    let whole : e - s ≡ (b - s) + (e - b) = omega arith in
    let start : s + (b - s) ≡ b = omega arith in
    let end : b + (e - b) ≡ e = omega arith in
    ap (λ n. drop (b - s) (take n (drop s t)) ++ drop e t) whole
    ∙ ap (λ x. x ++ drop e t) (drop-take (b - s) (e - b) (drop s t) ∙ ap (take (e - b)) (drop-drop (b - s) s t ∙ ap (λ n. drop n t) start))
    ∙ ap (λ x. take (e - b) (drop b t) ++ x) (ap (λ n. drop n t) (sym end) ∙ sym (drop-drop (e - b) b t))
    ∙ take-append-drop (e - b) (drop b t)

-- an edit inside a part of a text, with the text around the part, is an edit of the text
pub edited_inside : (t r : List ℕ) (s e a b : ℕ) → s ≤ a → a ≤ b → b ≤ e
    → take s t ++ (edited record { start = a - s; end = b - s } r (take (e - s) (drop s t)) ++ drop e t) ≡ edited record { start = a; end = b } r t
edited_inside t r s e a b low ordered high =
    let part = take (e - s) (drop s t) in
    let x = take (a - s) part in
    let y = drop (b - s) part in
    ap (λ z. take s t ++ z) (append_assoc x (r ++ y) (drop e t) ∙ ap (λ z. x ++ z) (append_assoc r y (drop e t)))
    ∙ sym (append_assoc (take s t) x (r ++ (y ++ drop e t)))
    ∙ ap (λ z. z ++ (r ++ (y ++ drop e t))) (front t s e a low (omega arith))
    ∙ ap (λ z. take a t ++ (r ++ z)) (back t s e b (omega arith) high)

-- a character boundary of a text, inside a part, is one of the part
pub boundary_inside : (t : List ℕ) (s e a : ℕ) → s ≤ a → a ≤ e → e ≤ length t → IsCharBoundary t a → IsCharBoundary (take (e - s) (drop s t)) (a - s)
boundary_inside t s e a low high within h =
    let size : length (take (e - s) (drop s t)) ≡ e - s = length-take-le (e - s) (drop s t) (omega (arith, length-drop s t)) in
    let back : s + (a - s) ≡ a = omega arith in (
      omega arith,
      λ l cont.
          let read : get_or (take (e - s) (drop s t)) (a - s) 0 ≡ get_or t a 0 =
          get_or-take (e - s) (drop s t) (a - s) 0 (omega arith) ∙ get_or-drop s t (a - s) 0 ∙ ap (λ n. get_or t n 0) back in
          subst (λ n. 192 ≤ n) (sym read) (h.1 (omega arith) (subst (λ n. 128 ≤ n) read cont)),
    )

-- the texts before and after a part are UTF-8
pub record AreApart (left right : List ℕ) : Type 0 where
  pub before : IsUtf8 left
  pub after : IsUtf8 right

-- so they are if the text and the part are
pub characters_apart : (before part after : List ℕ) → IsUtf8 (before ++ (part ++ after)) → IsUtf8 part → 0 < length part → AreApart before after
characters_apart before part after whole middle some =
    let t = before ++ (part ++ after) in
    let n = length before in
    let rest : drop n t ≡ part ++ after = drop_at before (part ++ after) n refl in
    let size = length-append before (part ++ after) in
    let size_rest = length-append part after in
    let first : IsCharBoundary t n = (
      omega arith,
      λ l cont.
          let here : n + 0 ≡ n = omega arith in
          let read : get_or t n 0 ≡ get_or part 0 0 =
          ap (λ i. get_or t i 0) (sym here) ∙ sym (get_or-drop n t 0 0) ∙ ap (λ x. get_or x 0 0) rest
          ∙ sym (get_or-take (length part) (part ++ after) 0 0 some) ∙ ap (λ x. get_or x 0 0) (take_at part after (length part) refl) in
          subst (λ i. 192 ≤ i) (sym read) ((IsCharBoundary-start part middle).1 some (subst (λ i. 128 ≤ i) read cont)),
    ) in
    let behind : IsUtf8 (part ++ after) = subst IsUtf8 rest (IsUtf8-drop t n whole first) in
    let cut : IsCharBoundary (part ++ after) (length part) =
    IsCharBoundary-from_take (part ++ after) (length part) behind (omega arith) (subst IsUtf8 (sym (take_at part after (length part) refl)) middle) in
    record {
      before = subst IsUtf8 (take_at before (part ++ after) n refl) (IsUtf8-take t n whole first);
      after = subst IsUtf8 (drop_at part after (length part) refl) (IsUtf8-drop (part ++ after) (length part) behind cut);
    }
