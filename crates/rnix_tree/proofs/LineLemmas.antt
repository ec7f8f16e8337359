-- Lines that are printed one after another.
use Rattle.std.proofs.Common.{◌≡◌, ℕ, zero, suc, ◌+◌, ◌-◌, ◌*◌, ◌≤◌, ◌<◌, List, ◌∷◌, ◌++◌, [], take, drop, set, length, refl, ap, sym, ◌∙◌, codes, subst}
use Rattle.std.proofs.{Common.{Option, arith, ◌^◌, append_assoc}, KnownBytes.Appends-trans, lemmas.List.{drop-set, length-set, length-drop, take_all}}
use Rattle.{std.{proofs.lemmas.Fmt.length-decimal-le, specs.{Prelude.decimal, Io.KnownBytes.Appends}}, rnix_tree.specs.Lines.indent}

-- the indent of a sum is the two indents
pub indent_sum : (m n : ℕ) → indent (m + n) ≡ indent m ++ indent n
indent_sum zero n = let none : zero + n ≡ n = omega arith in ap indent none
indent_sum (suc m) n = let more : suc m + n ≡ suc (m + n) = omega arith in ap indent more ∙ ap (λ x. codes "  " ++ x) (indent_sum m n)

-- the indent of fewer levels is the beginning of that of more
pub indent_front : (n m : ℕ) → n ≤ m → take (2 * n) (indent m) ≡ indent n
indent_front zero m h = refl
indent_front (suc n) zero h = absurd (omega arith)
indent_front (suc n) (suc m) h =
    let two : 2 * suc n ≡ suc (suc (2 * n)) = omega arith in
    ap (λ k. take k (indent (suc m))) two ∙ ap (λ x. codes "  " ++ x) (indent_front n m (omega arith))

-- bytes that are appended after others
pub appends_then : (a b c : Option (List ℕ)) (bs cs ds : List ℕ) → Appends a b bs → Appends b c cs → ds ≡ bs ++ cs → Appends a c ds
appends_then a b c bs cs ds p q e = subst (Appends a c) (sym e) (Appends-trans a b c bs cs p q)

-- setting the byte before some others puts it in front of these
pub in_front : (xs more : List ℕ) (i : ℕ) (b : ℕ) → i < length xs → drop (i + 1) xs ≡ more → drop i (set xs i b) ≡ b ∷ more
in_front xs more i b h e = drop-set xs i b h ∙ ap (λ ys. b ∷ ys) e

-- a number has 20 digits at most
pub decimal_short : (n : ℕ) → n < 2 ^ 64 → length (decimal n) ≤ 20
decimal_short n h = length-decimal-le 20 n (omega arith) (omega arith) h

-- what is written of a range, backwards into 44 bytes, of which the last is the line feed
pub range_bytes : (s e bs ds : List ℕ) (p q : ℕ) → length bs ≡ 44 → length ds ≡ 44 → p + length e ≡ 43 → q + length s ≡ p - 2 → 2 < p → 0 < q
    → drop p bs ≡ e ++ 10 ∷ [] → drop q ds ≡ s ++ drop (p - 2) (set (set bs (p - 1) 46) (p - 2) 46)
    → take (44 - (q - 1)) (drop (q - 1) (set ds (q - 1) 64)) ≡ codes "@" ++ (s ++ codes ".." ++ e) ++ codes "\n"
range_bytes s e bs ds p q lb ld ends starts some first he hs =
    let p1 : p - 1 + 1 ≡ p = omega arith in
    let p2 : p - 2 + 1 ≡ p - 1 = omega arith in
    let q1 : q - 1 + 1 ≡ q = omega arith in
    let dot : drop (p - 1) (set bs (p - 1) 46) ≡ 46 ∷ (e ++ 10 ∷ []) = in_front bs (e ++ 10 ∷ []) (p - 1) 46 (omega arith) (ap (λ k. drop k bs) p1 ∙ he) in
    let dots : drop (p - 2) (set (set bs (p - 1) 46) (p - 2) 46) ≡ 46 ∷ 46 ∷ (e ++ 10 ∷ []) =
    in_front (set bs (p - 1) 46) (46 ∷ (e ++ 10 ∷ [])) (p - 2) 46 (omega (arith, length-set bs (p - 1) 46)) (ap (λ k. drop k (set bs (p - 1) 46)) p2 ∙ dot) in
    take_all (44 - (q - 1)) (drop (q - 1) (set ds (q - 1) 64)) (omega (arith, length-drop (q - 1) (set ds (q - 1) 64), length-set ds (q - 1) 64))
    ∙ in_front ds _ (q - 1) 64 (omega arith) (ap (λ k. drop k ds) q1 ∙ hs)
    ∙ ap (λ x. 64 ∷ (s ++ x)) dots ∙ ap (λ x. 64 ∷ x) (sym (append_assoc (s ++ codes "..") e (10 ∷ []) ∙ append_assoc s (codes "..") (e ++ 10 ∷ [])))
