-- The stack of modes as a list.
use Rattle.std.proofs.{Common.{◌≡◌, ℕ, ◌-◌, ◌<◌, List, [], ◌∷◌, ◌++◌, length, refl, subst, arith, length-append}, Math.{ListN.set, Seq.set-append_seam}}
use Rattle.std.{proofs.lemmas.List.{reverse-append, reverse-reverse, length-reverse}, specs.Prelude.reverse}
use Rattle.rnix_kinds.specs.{declared.tokenizer.rule.{Mode.{Mode, TheVariants.Interpolation}, Change.TheVariants.Count}, Lexical.Tokens.changed}

count_on_top : (b : ℕ) (ns : List Mode) → 0 < length ns → reverse (set (reverse ns) (length (reverse ns) - 1) (Interpolation b)) ≡ changed (Count b) ns
count_on_top b [] h = absurd (omega arith)
count_on_top b (n ∷ ns) h =
    let e : reverse (n ∷ ns) ≡ reverse ns ++ n ∷ [] = reverse-append (n ∷ []) ns in
    let last : length (reverse ns ++ n ∷ []) - 1 ≡ length (reverse ns) = omega (arith, length-append (reverse ns) (n ∷ [])) in
    rw (e, last, set-append_seam (reverse ns) n [] (Interpolation b), reverse-append (reverse ns) (Interpolation b ∷ []), reverse-reverse ns) refl

-- the last element is the mode on top
pub reverse-set_last : (b n : ℕ) (ms : List Mode) → n ≡ length ms → 0 < n → reverse (set ms (n - 1) (Interpolation b)) ≡ changed (Count b) (reverse ms)
reverse-set_last b n ms is h =
    rw is (subst (λ l. reverse (set l (length l - 1) (Interpolation b)) ≡ changed (Count b) (reverse ms)) (reverse-reverse ms)
    (count_on_top b (reverse ms) (omega (arith, length-reverse ms))))
