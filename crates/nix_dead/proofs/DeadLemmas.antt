-- The names of a list in the order of where they begin.
use Rattle.std.proofs.Common.{◌≡◌, ℕ, ◌+◌, ◌<◌, ◌≤◌, ◌∷◌, ◌++◌, [], List, length, get_or, ap, sym, subst, ◌∙◌, append-nil, arith}
use Rattle.std.proofs.Math.Seq.{get_or-append_seam}
use Rattle.std.proofs.lemmas.List.{length-append}
use Rattle.std.specs.List.Sorted.{IsNonDecreasingBy}
use Rattle.nix_lints.specs.declared.unused.UnusedName.{UnusedName}
use Rattle.nix_dead.specs.Dead.{start_of}

module _ (names done rest : List UnusedName) (x : UnusedName) (all : done ++ x ∷ rest ≡ names) where
  -- the next name
  next_is : (d : UnusedName) → get_or names (length done) d ≡ x
  next_is d = ap (λ ns. get_or ns (length done) d) (sym all) ∙ get_or-append_seam done x rest d

  pub next_within : length done < length names
  next_within = omega (arith, ap length all, length-append done (x ∷ rest))

  -- a place that it does not precede
  pub not_before : (place : ℕ) → ((d : UnusedName) → length done < length names → place ≤ start_of (get_or names (length done) d)) → place ≤ start_of x
  not_before place before = subst (λ (n : UnusedName). place ≤ start_of n) (next_is x) (before x next_within)

  -- the name after it does not begin before it
  pub then_next : IsNonDecreasingBy start_of names → (d : UnusedName) → length (done ++ x ∷ []) < length names →
      start_of x ≤ start_of (get_or names (length (done ++ x ∷ [])) d)
  then_next up d within =
      let more : length (done ++ x ∷ []) ≡ length done + 1 = omega (arith, length-append done (x ∷ [])) in
      subst (λ (n : UnusedName). start_of n ≤ start_of (get_or names (length (done ++ x ∷ [])) d)) (next_is d)
      (up (length done) (length (done ++ x ∷ [])) d (omega (arith, more)) within)

-- all names of a list were taken
pub nothing_left : (done rest names : List UnusedName) → length rest ≡ 0 → done ++ rest ≡ names → done ≡ names
nothing_left done [] names none all = sym (append-nil done) ∙ all
nothing_left done (x ∷ rest) names none all = absurd (omega (arith, none))
