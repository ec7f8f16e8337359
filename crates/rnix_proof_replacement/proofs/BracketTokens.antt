-- The cut of an opening bracket does not depend on what follows it. Which modes are open after it, and where a closing bracket begins.
use Rattle.std.proofs.Common.{◌≡◌, ◌⊎◌, ℕ, ◌<◌, Bool, true, false, ◌&&◌, ◌||◌, ◌==◌, nat_lt, List, [], ◌∷◌, ◌++◌, length, get_or, take, Option}
use Rattle.std.proofs.Common.{Some, None, refl, sym, ap, ◌∙◌, subst, inl, inr, arith, cond, length-append, eqb-true}
use Rattle.std.proofs.lemmas.{List.get_or_append_left, Bool.{and_parts, and_left, cond_both, true≢false, both_ways, or_left, or_from, Decides.nat_tests}}
use Rattle.std.specs.Prelude.{codes}
use Rattle.rnix_kinds.specs.declared.kinds.SyntaxKind.{SyntaxKind}
use Rattle.rnix_kinds.specs.declared.kinds.SyntaxKind.TheVariants.{TOKEN_ERROR, TOKEN_INTERPOL_END, TOKEN_INTERPOL_START, TOKEN_L_BRACE, TOKEN_L_BRACK}
use Rattle.rnix_kinds.specs.declared.kinds.SyntaxKind.TheVariants.{TOKEN_L_PAREN}
use Rattle.rnix_kinds.specs.declared.kinds.SyntaxKind.TheVariants.{TOKEN_R_BRACE, TOKEN_R_BRACK, TOKEN_R_PAREN, TOKEN_STRING_END, TOKEN_STRING_START}
use Rattle.rnix_kinds.specs.declared.tokenizer.rule.{Cut.Cut, PathStart.{PathStart, TheVariants.{Root, Relative, Home as FromHome}}}
use Rattle.rnix_kinds.specs.declared.tokenizer.rule.Mode.{Mode, TheVariants.{Quoted, Interpolation, Path}}
use Rattle.rnix_kinds.specs.declared.tokenizer.rule.Change.{Change, TheVariants.{Stay, Open, Close, Count}}
use Rattle.rnix_kinds.specs.Lexical.{Texts.{occurs_at, begins, run_end}, Classes.is_path, Strings.{piece_len, content_len, string_cut}}
use Rattle.rnix_kinds.specs.Lexical.{PathKinds.kind_of_path, Paths.{is_broken, segment, path_goes_on, path_cut}, Tokens.{cut_at, normal_cut, top, changed}}
use Rattle.rnix_kinds.proofs.LexicalLemmas.FirstBytes.{begins_opener, normal-opened}
use Rattle.rnix_proof_separation.specs.Separated.{is_error, is_inside, is_bracket}
use Rattle.rnix_proof_separation.proofs.{Appended.{if_true}, KeptCuts.Fits, KeptComments.opener_kept, KeptOperators.word_kept, Touching.touch_kept}
use Rattle.rnix_proof_separation.proofs.{KeptStrings.{string_stop, stop_opened, opened, closed}, Stacks.normal_at}
use Rattle.rnix_proof_replacement.specs.Replaced.{is_opening, is_closing}
use Rattle.rnix_proof_replacement.proofs.{BeforeBrackets.{is_stop, is_half, BeginsBracket}, StringsBefore.end_stop}
use Rattle.rnix_proof_separation.proofs.KeptStrings.{piece_of}
use Rattle.rnix_proof_replacement.proofs.BracketForms.{IsBraceChange, IsBracketCut, normal_suited}

-- the token is a quote that opens a string
abbrev pub is_quote : SyntaxKind → Bool
is_quote TOKEN_STRING_START = true
is_quote kind = false

opening_solid : (kind : SyntaxKind) → is_opening kind ≡ true → is_error kind ≡ false
opening_solid TOKEN_ERROR e = absurd (true≢false (sym e))
opening_solid kind e = refl

-- an opening bracket begins with a byte that begins brackets, and has a second byte if this is half of one
opening_stop : (kind : SyntaxKind) (b n : ℕ) (change : Change) → is_opening kind ≡ true → IsBracketCut kind b n change
    → (is_stop b ≡ true) × (is_half b ≡ true → 1 < n)
opening_stop TOKEN_STRING_START b n change e is = let f = is.0 in (grind (arith, nat_tests), λ h. grind (arith, nat_tests))
opening_stop TOKEN_INTERPOL_START b n change e is = let f = is.0 in (grind (arith, nat_tests), λ h. grind (arith, nat_tests))
opening_stop TOKEN_L_BRACE b n change e is = let f = is.0 in (grind (arith, nat_tests), λ h. grind (arith, nat_tests))
opening_stop TOKEN_L_BRACK b n change e is = let f = is.0 in (grind (arith, nat_tests), λ h. grind (arith, nat_tests))
opening_stop TOKEN_L_PAREN b n change e is = let f = is.0 in (grind (arith, nat_tests), λ h. grind (arith, nat_tests))
opening_stop kind b n change e is = absurd (true≢false (sym e))

opening_touches : (kind : SyntaxKind) (b n : ℕ) (change : Change) → is_opening kind ≡ true → IsBracketCut kind b n change
    → (is_bracket b ≡ true) ⊎ (begins_opener b ≡ true)
opening_touches TOKEN_STRING_START b n change e is = let f = is.0 in inr (grind (arith, nat_tests))
opening_touches TOKEN_INTERPOL_START b n change e is = let f = is.0 in inl (grind (arith, nat_tests))
opening_touches TOKEN_L_BRACE b n change e is = let f = is.0 in inl (grind (arith, nat_tests))
opening_touches TOKEN_L_BRACK b n change e is = let f = is.0 in inl (grind (arith, nat_tests))
opening_touches TOKEN_L_PAREN b n change e is = let f = is.0 in inl (grind (arith, nat_tests))
opening_touches kind b n change e is = absurd (true≢false (sym e))

brace_outside : (change : Change) (modes : List Mode) → IsBraceChange change → is_inside (top modes) ≡ false → is_inside (top (changed change modes)) ≡ false
brace_outside Stay modes is normal = normal
brace_outside (Count n) [] is normal = refl
brace_outside (Count n) (mode ∷ modes) is normal = refl
brace_outside (Open mode) modes is normal = absurd is
brace_outside Close modes is normal = absurd is

opening_outside : (kind : SyntaxKind) (b n : ℕ) (change : Change) (modes : List Mode) → is_opening kind ≡ true → is_quote kind ≡ false
    → IsBracketCut kind b n change → is_inside (top modes) ≡ false → is_inside (top (changed change modes)) ≡ false
opening_outside TOKEN_STRING_START b n change modes e other is normal = absurd (true≢false other)
opening_outside TOKEN_INTERPOL_START b n change modes e other is normal = ap (λ c. is_inside (top (changed c modes))) is.1
opening_outside TOKEN_L_BRACE b n change modes e other is normal = brace_outside change modes is.1 normal
opening_outside TOKEN_L_BRACK b n change modes e other is normal = ap (λ c. is_inside (top (changed c modes))) is.1 ∙ normal
opening_outside TOKEN_L_PAREN b n change modes e other is normal = ap (λ c. is_inside (top (changed c modes))) is.1 ∙ normal
opening_outside kind b n change modes e other is normal = absurd (true≢false (sym e))

opening_quotes : (kind : SyntaxKind) (b n : ℕ) (change : Change) (modes : List Mode) → is_quote kind ≡ true → IsBracketCut kind b n change
    → top (changed change modes) ≡ Some (Quoted (b == 39))
opening_quotes TOKEN_STRING_START b n change modes e is = ap (λ c. top (changed c modes)) is.1
opening_quotes kind b n change modes e is = absurd (true≢false (sym e))

-- the byte begins a closing bracket
abbrev closing_byte : ℕ → Bool
closing_byte b = b == 34 || b == 39 || b == 41 || b == 93 || b == 125

closing_stop : (b : ℕ) → closing_byte b ≡ true → is_stop b ≡ true
closing_stop b e = grind (arith, nat_tests)

closing_ends : (b : ℕ) → closing_byte b ≡ true → ((b == 36) ≡ false) × (is_path b ≡ false)
closing_ends b e = (grind (arith, nat_tests), grind (arith, nat_tests))

path_ends : (x : List ℕ) → closing_byte (get_or x 0 0) ≡ true → path_goes_on x ≡ false
path_ends x e = let out = closing_ends (get_or x 0 0) e in or_from _ _ (and_left _ _ out.0) out.1

closing_form : (kind : SyntaxKind) (b n : ℕ) (change : Change) → is_closing kind ≡ true → IsBracketCut kind b n change
    → (closing_byte b ≡ true) × (is_half b ≡ false)
closing_form TOKEN_R_BRACE b n change e is = (grind (arith, nat_tests), grind (arith, nat_tests))
closing_form TOKEN_INTERPOL_END b n change e is = (grind (arith, nat_tests), grind (arith, nat_tests))
closing_form TOKEN_R_BRACK b n change e is = (grind (arith, nat_tests), grind (arith, nat_tests))
closing_form TOKEN_R_PAREN b n change e is = (grind (arith, nat_tests), grind (arith, nat_tests))
closing_form TOKEN_STRING_END b n change e is = absurd is
closing_form kind b n change e is = absurd (true≢false (sym e))

closing_quotes : (a b c : ℕ) → piece_of true a b c ≡ 0 → (a == 36 && b == 123) ≡ false → a ≡ 39
closing_quotes a b c e f = grind (arith, nat_tests)

closing_quote : (a b : ℕ) → piece_of false a b 0 ≡ 0 → (a == 36 && b == 123) ≡ false → a ≡ 34
closing_quote a b e f = grind (arith, nat_tests)

-- a path is no bracket
path_kind : (k : PathStart) (broken : Bool)
    → (is_opening (cond broken TOKEN_ERROR (kind_of_path k)) ≡ false) × (is_closing (cond broken TOKEN_ERROR (kind_of_path k)) ≡ false)
path_kind k true = (refl, refl)
path_kind Root false = (refl, refl)
path_kind Relative false = (refl, refl)
path_kind FromHome false = (refl, refl)

segment_unbracket : (k : PathStart) (x : List ℕ) → (is_opening (segment k Stay Close 0 x).kind ≡ false) × (is_closing (segment k Stay Close 0 x).kind ≡ false)
segment_unbracket k x =
    cond_both (occurs_at (codes "${") (run_end is_path 0 x) x) _ _ (λ (c : Cut). (is_opening c.kind ≡ false) × (is_closing c.kind ≡ false))
    (λ e. path_kind k false) (λ e. path_kind k (is_broken (take (run_end is_path 0 x) x)))

path_no_end : (k : PathStart) (x : List ℕ) → is_closing (path_cut k x).kind ≡ false
path_no_end k x = cond_both (begins (codes "${") x) _ _ (λ (c : Cut). is_closing c.kind ≡ false) (λ e. refl) (λ e. (segment_unbracket k x).1)

-- a text is a closing bracket, and no path continues with it
pub record ClosesText (t : List ℕ) : Type 0 where
  pub bracket : BeginsBracket t
  pub ends : (x : List ℕ) → path_goes_on (t ++ x) ≡ false

-- a text is an opening bracket: its cut, and what is open after it, do not depend on what follows
pub record IsOpened (modes : List Mode) (t : List ℕ) (cut : Cut) : Type 0 where
  pub bracket : BeginsBracket t
  pub again : (r : List ℕ) → cut_at (top modes) (t ++ r) ≡ cut
  pub quotes : is_quote cut.kind ≡ true → top (changed cut.change modes) ≡ Some (Quoted (get_or t 0 0 == 39))
  pub outside : is_quote cut.kind ≡ false → is_inside (top (changed cut.change modes)) ≡ false
  pub stop : (m : Bool) → top modes ≡ Some (Quoted m) → (r : List ℕ) → piece_len m (t ++ r) ≡ 0

no_string : (modes : List Mode) → is_inside (top modes) ≡ false → (m : Bool) → top modes ≡ Some (Quoted m) → ⊥
no_string modes normal m e = true≢false (ap is_inside (sym e) ∙ normal)

module _ (t s : List ℕ) (cut : Cut) (some : 0 < length t) (len : cut.len ≡ length t) where
  suited : (mode : Option Mode) → normal_cut mode (t ++ s) ≡ cut → IsBracketCut cut.kind (get_or t 0 0) (length t) cut.change
  suited mode is =
      subst (λ b. IsBracketCut cut.kind b (length t) cut.change) (get_or_append_left t s 0 0 some)
      (subst (λ n. IsBracketCut cut.kind (get_or (t ++ s) 0 0) n cut.change) len
      (subst (λ (c : Cut). IsBracketCut c.kind (get_or (t ++ s) 0 0) c.len c.change) is (normal_suited (t ++ s) mode)))

  normal_opened : (modes : List Mode) → is_inside (top modes) ≡ false → normal_cut (top modes) (t ++ s) ≡ cut → is_opening cut.kind ≡ true
      → IsOpened modes t cut
  normal_opened modes normal is e =
      let b = get_or t 0 0 in
      let suits = suited (top modes) is in
      let stops = opening_stop cut.kind b (length t) cut.change e suits in
      record {
        bracket = record { some = some; stop = stops.0; whole = stops.1 };
        again = λ r. normal_at modes (t ++ r) normal ∙ by r (opening_touches cut.kind b (length t) cut.change e suits);
        quotes = λ q. opening_quotes cut.kind b (length t) cut.change modes q suits;
        outside = λ q. opening_outside cut.kind b (length t) cut.change modes e q suits normal;
        stop = λ m inside r. absurd (no_string modes normal m inside);
      }
    where
      fits : Fits t cut
      fits = (len, opening_solid cut.kind e)

      by : (r : List ℕ) → (is_bracket (get_or t 0 0) ≡ true) ⊎ (begins_opener (get_or t 0 0) ≡ true) → normal_cut (top modes) (t ++ r) ≡ cut
      by r (inl bracket) = touch_kept (top modes) t s some cut is fits r (or_left _ _ bracket)
      by r (inr quote) =
          let first : (x : List ℕ) → get_or (t ++ x) 0 0 ≡ get_or t 0 0 = λ x. get_or_append_left t x 0 0 some in
          let here = normal-opened (top modes) (t ++ s) (get_or t 0 0) (first s) quote ∙ is in
          sym (normal-opened (top modes) (t ++ r) (get_or t 0 0) (first r) quote)
          ∙ (opener_kept t s some r (ap begins_opener (first s) ∙ quote) (subst (Fits t) (sym here) fits) ∙ here)

  -- `${` is a bracket
  dollar_bracket : begins (codes "${") (t ++ s) ≡ true → 1 < length t → BeginsBracket t
  dollar_bracket e two =
      let dollar : get_or t 0 0 ≡ 36 =
      sym (get_or_append_left t s 0 0 some) ∙ eqb-true (get_or (t ++ s) 0 0) 36 (and_parts (get_or (t ++ s) 0 0 == 36) _ e).0 in
      record { some = some; stop = ap is_stop dollar; whole = λ h. two }

  -- inside a string or a path, an opening bracket is `${`
  abbrev IsDollar : Cut → Type 0
  IsDollar c = is_opening c.kind ≡ true → (c ≡ opened) × (begins (codes "${") (t ++ s) ≡ true)

  string_opening : (m : Bool) → IsDollar (string_cut m (t ++ s))
  string_opening m =
      cond_both (content_len m (t ++ s) == length (t ++ s)) _ _ IsDollar (λ e is. absurd (true≢false (sym is)))
      (λ e. cond_both (nat_lt 0 (content_len m (t ++ s))) _ _ IsDollar (λ f is. absurd (true≢false (sym is)))
      (λ f. cond_both (begins (codes "${") (t ++ s)) opened (closed m) IsDollar (λ g is. (refl, g)) (λ g is. absurd (true≢false (sym is)))))

  string_opened : (m : Bool) (modes : List Mode) → string_cut m (t ++ s) ≡ cut → is_opening cut.kind ≡ true → IsOpened (Quoted m ∷ modes) t cut
  unfolding cut_at
  string_opened m modes is e =
      let found = string_opening m (subst (λ (c : Cut). is_opening c.kind ≡ true) (sym is) e) in
      let same : opened ≡ cut = sym found.0 ∙ is in
      let two : 2 ≡ length t = ap (λ (c : Cut). c.len) same ∙ len in
      let stays = λ (r : List ℕ). stop_opened m t s r (omega arith) found.1 in
      subst (IsOpened (Quoted m ∷ modes) t) same
      (record {
        bracket = dollar_bracket found.1 (omega arith);
        again = λ r. string_stop m (t ++ r) (omega (arith, length-append t r)) (stays r).0 ∙ if_true (begins (codes "${") (t ++ r)) _ _ _ (stays r).1 refl;
        quotes = λ q. absurd (true≢false (sym q));
        outside = λ q. refl;
        stop = λ l inside r. subst (λ k. piece_len k (t ++ r) ≡ 0) (same_string m l inside) (stays r).0;
      })
    where
      string_of : Bool → Option Mode → Bool
      string_of d (Some (Quoted k)) = k
      string_of d mode = d

      same_string : (k l : Bool) → Some (Quoted k) ≡ Some (Quoted l) → k ≡ l
      same_string k l f = ap (string_of k) f

  path_opening : (k : PathStart) → IsDollar (path_cut k (t ++ s))
  path_opening k =
      cond_both (begins (codes "${") (t ++ s)) _ _ IsDollar (λ e is. (refl, e)) (λ e is. absurd (both_ways _ (segment_unbracket k (t ++ s)).0 is))

  path_opened : (k : PathStart) (modes : List Mode) → path_cut k (t ++ s) ≡ cut → is_opening cut.kind ≡ true → IsOpened (Path k ∷ modes) t cut
  unfolding cut_at
  path_opened k modes is e =
      let found = path_opening k (subst (λ (c : Cut). is_opening c.kind ≡ true) (sym is) e) in
      let same : opened ≡ cut = sym found.0 ∙ is in
      let two : 2 ≡ length t = ap (λ (c : Cut). c.len) same ∙ len in
      subst (IsOpened (Path k ∷ modes) t) same
      (record {
        bracket = dollar_bracket found.1 (omega arith);
        again = λ r. if_true (begins (codes "${") (t ++ r)) _ _ _ (word_kept t s r (codes "${") (omega arith) found.1) refl;
        quotes = λ q. absurd (true≢false (sym q));
        outside = λ q. refl;
        stop = λ m inside r. absurd (cc);
      })

  -- each opening token is such a bracket, whatever modes are open
  pub opening_token : (modes : List Mode) → cut_at (top modes) (t ++ s) ≡ cut → is_opening cut.kind ≡ true → IsOpened modes t cut
  unfolding cut_at
  opening_token [] is e = normal_opened [] refl is e
  opening_token (Interpolation n ∷ modes) is e = normal_opened (Interpolation n ∷ modes) refl is e
  opening_token (Quoted m ∷ modes) is e = string_opened m modes is e
  opening_token (Path k ∷ modes) is e = path_opened k modes is e

  closed_with : (b n : ℕ) → get_or t 0 0 ≡ b → length t ≡ n → closing_byte b ≡ true → (is_half b ≡ true → 1 < n) → ClosesText t
  closed_with b n first size is whole =
      let here : closing_byte (get_or t 0 0) ≡ true = ap closing_byte first ∙ is in
      record {
        bracket = record {
          some = some;
          stop = closing_stop (get_or t 0 0) here;
          whole = λ h. subst (λ k. 1 < k) (sym size) (whole (ap is_half (sym first) ∙ h));
        };
        ends = λ x. path_ends (t ++ x) (ap closing_byte (get_or_append_left t x 0 0 some) ∙ here);
      }

  normal_closed : (mode : Option Mode) → normal_cut mode (t ++ s) ≡ cut → is_closing cut.kind ≡ true → ClosesText t
  normal_closed mode is e =
      let found = closing_form cut.kind (get_or t 0 0) (length t) cut.change e (suited mode is) in
      closed_with (get_or t 0 0) (length t) refl refl found.0 (λ h. absurd (both_ways _ found.1 h))

  -- inside a string, a closing bracket is the end of the string
  abbrev IsEnd : Bool → Cut → Type 0
  IsEnd m c =
      ((c.kind ≡ TOKEN_STRING_END) → piece_len m (t ++ s) ≡ 0) → is_closing c.kind ≡ true
      → (c ≡ closed m) × (begins (codes "${") (t ++ s) ≡ false) × (piece_len m (t ++ s) ≡ 0)

  string_closing : (m : Bool) → is_closing (string_cut m (t ++ s)).kind ≡ true
      → (string_cut m (t ++ s) ≡ closed m) × (begins (codes "${") (t ++ s) ≡ false) × (piece_len m (t ++ s) ≡ 0)
  string_closing m =
      cond_both (content_len m (t ++ s) == length (t ++ s)) _ _ (IsEnd m) (λ e h is. absurd (true≢false (sym is)))
      (λ e. cond_both (nat_lt 0 (content_len m (t ++ s))) _ _ (IsEnd m) (λ f h is. absurd (true≢false (sym is)))
      (λ f. cond_both (begins (codes "${") (t ++ s)) opened (closed m) (IsEnd m) (λ g h is. absurd (true≢false (sym is))) (λ g h is. (refl, g, h refl))))
      (end_stop m (t ++ s) (omega (arith, length-append t s)))

  string_closed : (m : Bool) → string_cut m (t ++ s) ≡ cut → is_closing cut.kind ≡ true → ClosesText t
  string_closed m is e =
      let found = string_closing m (subst (λ (c : Cut). is_closing c.kind ≡ true) (sym is) e) in
      let size : length t ≡ cond m 2 1 = sym len ∙ ap (λ (c : Cut). c.len) (sym is ∙ found.0) in
      let first : (x : ℕ) → get_or (t ++ s) 0 0 ≡ x → get_or t 0 0 ≡ x = λ x f. sym (get_or_append_left t s 0 0 some) ∙ f in
      by m size found.2 found.1 first
    where
      by : (l : Bool) → length t ≡ cond l 2 1 → piece_len l (t ++ s) ≡ 0 → begins (codes "${") (t ++ s) ≡ false
          → ((x : ℕ) → get_or (t ++ s) 0 0 ≡ x → get_or t 0 0 ≡ x) → ClosesText t
      by true size stop other first =
          closed_with 39 2 (first 39 (closing_quotes (get_or (t ++ s) 0 0) (get_or (t ++ s) 1 0) (get_or (t ++ s) 2 0) stop other)) size refl (λ h. omega arith)
      by false size stop other first =
          closed_with 34 1 (first 34 (closing_quote (get_or (t ++ s) 0 0) (get_or (t ++ s) 1 0) stop other)) size refl (λ h. absurd (true≢false (sym h)))

  -- each closing token is such a bracket, whatever modes are open
  pub closing_token : (modes : List Mode) → cut_at (top modes) (t ++ s) ≡ cut → is_closing cut.kind ≡ true → ClosesText t
  unfolding cut_at
  closing_token [] is e = normal_closed None is e
  closing_token (Interpolation n ∷ modes) is e = normal_closed (Some (Interpolation n)) is e
  closing_token (Quoted m ∷ modes) is e = string_closed m is e
  closing_token (Path k ∷ modes) is e =
      absurd (both_ways _ (path_no_end k (t ++ s)) (subst (λ (c : Cut). is_closing c.kind ≡ true) (sym is) e))

  -- if a string is open, no piece begins at its closing bracket
  pub closing_stops : (modes : List Mode) (m : Bool) → top modes ≡ Some (Quoted m) → cut_at (top modes) (t ++ s) ≡ cut → is_closing cut.kind ≡ true
      → piece_len m (t ++ s) ≡ 0
  unfolding cut_at
  closing_stops modes m inside is e =
      let here : string_cut m (t ++ s) ≡ cut = ap (λ mode. cut_at mode (t ++ s)) (sym inside) ∙ is in
      (string_closing m (subst (λ (c : Cut). is_closing c.kind ≡ true) (sym here) e)).2
