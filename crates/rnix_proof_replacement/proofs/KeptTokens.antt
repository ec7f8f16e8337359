-- The tokens before a bracket do not depend on what follows the bracket.
use Rattle.std.proofs.Common.{◌≡◌, ◌⊎◌, ℕ, ◌<◌, Bool, true, List, [], ◌∷◌, ◌++◌, length, get_or, take, drop, IsUtf8, Option, Some, None, refl}
use Rattle.std.proofs.Common.{sym, ap, ◌∙◌, subst, inl, inr, arith, cond, append_assoc, length-append}
use Rattle.std.proofs.lemmas.{List.{take_at, drop_at}, Str.{IsUtf8-drop, IsUtf8-take, IsCharBoundary-before_ascii}, Bool.Decides.nat_tests}
use Rattle.rnix_kinds.specs.declared.tokenizer.rule.{Cut.Cut, Mode.{Mode, TheVariants.{Quoted, Interpolation, Path}}, Change.{TheVariants.Stay}}
use Rattle.rnix_kinds.specs.Lexical.{Strings.piece_len, Paths.path_goes_on, Tokens.{Lexeme, cut_at, normal_cut, top, without_ended_paths, changed}}
use Rattle.rnix_kinds.proofs.LexicalLemmas.{CutLemmas.cut_good, TokensLemmas.IsPathGoingOn-settled}
use Rattle.rnix_proof_separation.proofs.Appended.{same_byte}
use Rattle.rnix_proof_replacement.specs.Replaced.{texts}
use Rattle.rnix_proof_replacement.proofs.BeforeBrackets.{is_stop, BeginsBracket, stop_at}
use Rattle.rnix_proof_replacement.proofs.{PathsBefore.{goes_on_before, path_before}, CutsBefore.normal_before}
use Rattle.rnix_proof_replacement.proofs.StringsBefore.{GoOnAlike, piece_before, string_before}
use Rattle.rnix_proof_replacement.proofs.CutTokens.{AreCut, none, next}

stop_low : (b : ℕ) → is_stop b ≡ true → b < 128
stop_low b e = grind (arith, nat_tests)

-- if two texts continue paths alike, the same paths have ended
pub settled_alike : (modes : List Mode) (x y : List ℕ) → path_goes_on y ≡ path_goes_on x → without_ended_paths modes y ≡ without_ended_paths modes x
settled_alike [] x y e = refl
settled_alike (Interpolation n ∷ modes) x y e = refl
settled_alike (Quoted m ∷ modes) x y e = refl
settled_alike (Path k ∷ modes) x y e =
    ap (λ c. cond c (Path k ∷ modes) (without_ended_paths modes y)) e
    ∙ ap (λ l. cond (path_goes_on x) (Path k ∷ modes) l) (settled_alike modes x y e)

-- there are no tokens, or some text
tokens_or_none : (rest : List ℕ) (modes : List Mode) (tokens : List Lexeme) (after : List Mode) → AreCut rest modes tokens after
    → ((texts tokens ≡ []) × (modes ≡ after)) ⊎ (0 < length (texts tokens))
tokens_or_none rest _ _ _ (none modes) = inl (refl, refl)
tokens_or_none rest _ _ _ (next modes t cut tokens after some len is more) = inr (omega (arith, length-append t (texts tokens)))

module _ (o : List ℕ) (bracket : BeginsBracket o) (s r : List ℕ) where
  -- an open string does not continue with a piece at the bracket
  abbrev pub StopsAlike : List Mode → Type 0
  StopsAlike after = (m : Bool) → top after ≡ Some (Quoted m) → piece_len m (o ++ s) ≡ 0 → piece_len m (o ++ r) ≡ 0

  spread : (t q x : List ℕ) → ((t ++ q) ++ o) ++ x ≡ t ++ (q ++ (o ++ x))
  spread t q x = append_assoc (t ++ q) o x ∙ append_assoc t q (o ++ x)

  some_before : (t q : List ℕ) → 0 < length t → 0 < length (t ++ q)
  some_before t q some = omega (arith, length-append t q)

  prefix_utf8 : (t q : List ℕ) → IsUtf8 (t ++ (q ++ (o ++ s))) → IsUtf8 (t ++ q)
  prefix_utf8 t q utf8 =
      let v = t ++ q in
      let whole : IsUtf8 ((v ++ o) ++ s) = subst IsUtf8 (sym (spread t q s)) utf8 in
      let low : get_or ((v ++ o) ++ s) (length v) 0 < 128 =
      subst (λ b. b < 128) (sym (stop_at o bracket v s)) (stop_low (get_or o 0 0) bracket.stop) in
      let size : length v < length ((v ++ o) ++ s) = omega (arith, length-append (v ++ o) s, length-append v o, bracket.some) in
      let here = IsUtf8-take ((v ++ o) ++ s) (length v) whole (IsCharBoundary-before_ascii ((v ++ o) ++ s) (length v) size low) in
      subst IsUtf8 (ap (take (length v)) (append_assoc v o s) ∙ take_at v (o ++ s) (length v) refl) here

  goes_on_alike : (t q : List ℕ) → 0 < length t → path_goes_on (t ++ (q ++ (o ++ r))) ≡ path_goes_on (t ++ (q ++ (o ++ s)))
  goes_on_alike t q some =
      ap path_goes_on (sym (spread t q r)) ∙ (goes_on_before o bracket (t ++ q) (some_before t q some) s r ∙ ap path_goes_on (spread t q s))

  follows_alike : (q : List ℕ) → GoOnAlike (q ++ (o ++ s)) (q ++ (o ++ r))
  follows_alike q =
      let size = length-append q o in
      record {
        first = ap (λ x. get_or x 0 0) (sym (append_assoc q o r)) ∙ (same_byte (q ++ o) r s 0 (omega (arith, bracket.some))
            ∙ ap (λ x. get_or x 0 0) (append_assoc q o s));
        some = omega (arith, length-append q (o ++ s), length-append o s, bracket.some);
        more = omega (arith, length-append q (o ++ r), length-append o r, bracket.some);
      }

  -- if no piece follows the content of a string, none does before another text
  stops_alike : (m : Bool) (cut : Cut) (modes : List Mode) (tokens : List Lexeme) (after : List Mode) → AreCut (o ++ s) (changed cut.change modes) tokens after
      → StopsAlike after → top modes ≡ Some (Quoted m) → cut.change ≡ Stay → piece_len m (texts tokens ++ (o ++ s)) ≡ 0
      → piece_len m (texts tokens ++ (o ++ r)) ≡ 0
  stops_alike m cut modes tokens after more stops string stays =
      elim (tokens_or_none (o ++ s) (changed cut.change modes) tokens after more) [
        | inl here ↦ (let same : top after ≡ Some (Quoted m) = ap top (sym here.1) ∙ (ap (λ c. top (changed c modes)) stays ∙ string) in
            subst (λ q. piece_len m (q ++ (o ++ s)) ≡ 0 → piece_len m (q ++ (o ++ r)) ≡ 0) (sym here.0) (stops m same))
        | inr some ↦ (λ e. ap (piece_len m) (sym (append_assoc (texts tokens) o r))
            ∙ (piece_before o bracket (texts tokens) some m s r ∙ (ap (piece_len m) (append_assoc (texts tokens) o s) ∙ e)))
      ]

  normal_alike : (mode : Option Mode) (t q : List ℕ) (cut : Cut) → 0 < length t → cut.len ≡ length t → IsUtf8 (t ++ q)
      → normal_cut mode (t ++ (q ++ (o ++ s))) ≡ cut → normal_cut mode (t ++ (q ++ (o ++ r))) ≡ cut
  normal_alike mode t q cut some len utf8 is =
      ap (normal_cut mode) (sym (spread t q r)) ∙ normal_before o bracket (t ++ q) (some_before t q some) s r mode cut utf8
      (omega (arith, length-append t q)) (ap (normal_cut mode) (spread t q s) ∙ is)

  cut_alike : (mode : Option Mode) (t q : List ℕ) (cut : Cut) → 0 < length t → cut.len ≡ length t → IsUtf8 (t ++ q)
      → ((m : Bool) → mode ≡ Some (Quoted m) → cut.change ≡ Stay → piece_len m (q ++ (o ++ s)) ≡ 0 → piece_len m (q ++ (o ++ r)) ≡ 0)
      → cut_at mode (t ++ (q ++ (o ++ s))) ≡ cut → cut_at mode (t ++ (q ++ (o ++ r))) ≡ cut
  unfolding cut_at
  cut_alike None t q cut some len utf8 stops is = normal_alike None t q cut some len utf8 is
  cut_alike (Some (Interpolation n)) t q cut some len utf8 stops is = normal_alike (Some (Interpolation n)) t q cut some len utf8 is
  cut_alike (Some (Quoted m)) t q cut some len utf8 stops is =
      string_before m t (q ++ (o ++ s)) (q ++ (o ++ r)) some (follows_alike q) cut is len (stops m refl)
  cut_alike (Some (Path k)) t q cut some len utf8 stops is =
      ap (cut_at (Some (Path k))) (sym (spread t q r))
      ∙ (path_before o bracket (t ++ q) (some_before t q some) s r k ∙ (ap (cut_at (Some (Path k))) (spread t q s) ∙ is))

  -- the tokens before the bracket are the same before another text
  pub kept : (modes : List Mode) (tokens : List Lexeme) (after : List Mode) → AreCut (o ++ s) modes tokens after → IsUtf8 (texts tokens ++ (o ++ s))
      → StopsAlike after → AreCut (o ++ r) modes tokens after
  kept _ _ _ (none modes) utf8 stops = none modes
  kept _ _ _ (next modes t cut tokens after some len is more) utf8 stops =
      let q = texts tokens in
      let x = t ++ (q ++ (o ++ s)) in
      let y = t ++ (q ++ (o ++ r)) in
      let here : IsUtf8 x = subst IsUtf8 (append_assoc t q (o ++ s)) utf8 in
      let settled = settled_alike modes x y (goes_on_alike t q some) in
      let size : 0 < length x = omega (arith, length-append t (q ++ (o ++ s))) in
      let good = cut_good (top (without_ended_paths modes x)) x here size (IsPathGoingOn-settled modes x) in
      let boundary = subst (λ (c : Cut). IsUtf8 (drop c.len x)) is (IsUtf8-drop x _ here good.boundary) in
      let inner : IsUtf8 (q ++ (o ++ s)) = subst IsUtf8 (drop_at t (q ++ (o ++ s)) cut.len (sym len)) boundary in
      let again = cut_alike (top (without_ended_paths modes x)) t q cut some len (prefix_utf8 t q here)
      (λ m string stays. stops_alike m cut (without_ended_paths modes x) tokens after more stops string stays) is in
      next modes t cut tokens after some len (ap (λ m. cut_at (top m) y) settled ∙ again)
      (subst (λ m. AreCut (o ++ r) (changed cut.change m) tokens after) (sym settled)
      (kept (changed cut.change (without_ended_paths modes x)) tokens after more inner stops))
