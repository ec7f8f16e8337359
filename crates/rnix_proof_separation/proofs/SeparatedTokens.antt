-- The tokens of a text that are written out with white space between them are tokenized again as the same.
use Rattle.std.proofs.Common.{◌≡◌, ℕ, ◌<◌, ◌≤◌, Bool, true, false, not, ◌&&◌, ◌==◌, ◌⊎◌, List, [], ◌∷◌, ◌++◌, length, get_or, take, drop, IsUtf8, Option, Some}
use Rattle.std.proofs.Common.{None, refl, sym, ap, ◌∙◌, subst, inl, inr, arith, cond, eq-eqb, length-append, length-take-le, take-append-drop}
use Rattle.std.proofs.lemmas.{List.{take_at, drop_at}, Str.IsUtf8-drop, Bool.{cases_Bool, cond_both, true≢false, both_ways, and_parts, and_left, or_left}}
use Rattle.std.{proofs.lemmas.Bool.{or_right, not-true, Decides.nat_tests}, specs.{Prelude.codes, List.prefix_len}}
use Rattle.rnix_kinds.specs.declared.{kinds.SyntaxKind.TheVariants.TOKEN_WHITESPACE, tokenizer.{text.Class.TheVariants.Line, rule.Cut.Cut}}
use Rattle.rnix_kinds.specs.declared.tokenizer.rule.{PathStart.PathStart, Mode.{Mode, TheVariants.{Quoted, Interpolation, Path}}, Change.Change}
use Rattle.rnix_kinds.specs.{declared.tokenizer.rule.Change.TheVariants.{Stay, Open, Close, Count}, Lexical.{Texts.{begins, is_blank}, Classes.class_test}}
use Rattle.rnix_kinds.specs.Lexical.{Classes.is_path, Plain.plain, Strings.piece_len, Paths.{path_goes_on, path_cut}, Tokens.{cut_at, normal_cut, top}}
use Rattle.rnix_kinds.specs.Lexical.Tokens.{without_ended_paths, changed, tokens_under, tokens_of, IsCutOf, IsPathGoingOn}
use Rattle.rnix_kinds.proofs.LexicalLemmas.{CutLemmas.cut_good, TokensLemmas.{tokens_under-nil, tokens_under-cut, tokens_under-settled, IsPathGoingOn-settled}}
use Rattle.{rnix_kinds.proofs.LexicalLemmas.TokensLemmas.settled_stays, rnix_proof_separation.specs.Separated.{is_white_space, is_error, solids, have_no_error}}
use Rattle.rnix_proof_separation.specs.Separated.{is_inside, ends_token, may_touch, NeedsNoGap, is_normal, IsGap, AreSeparated, none, space, token, IsSeparated}
use Rattle.rnix_proof_separation.proofs.{Appended.{apart_edge, is_edge, same_byte, no_run, if_true, if_false}, KeptCuts.{Fits, IsBehind, Keeps}}
use Rattle.rnix_proof_separation.proofs.{KeptNormal.{IsKept, normal_kept}, KeptPaths.{segment_cases, segment_dollar, segment_edge}, KeptStrings.GoesOn}
use Rattle.rnix_proof_separation.proofs.{KeptStrings.{IsStringAgain, string_kept, string_stop, opened, closed, stop_opened, stop_closed}, Touching.touch_kept}
use Rattle.rnix_proof_separation.proofs.{KeptOperators.word_kept, Stacks.{AreNested, nested_changed, nested_settled, normal_settled, inside_settled}}
use Rattle.rnix_proof_separation.proofs.Stacks.{outside_settled, blanks, IsInnerCut, string_inner, path_inner}

-- if a string or a path is open, both texts continue it alike
abbrev Continues : Option Mode → List ℕ → List ℕ → Type 0
Continues (Some (Quoted m)) s r = GoesOn m s r
Continues (Some (Path start)) s r = begins (codes "${") s ≡ true → begins (codes "${") r ≡ true
Continues mode s r = Unit {0}

-- what follows a token: inside a string or a path both texts continue it alike, and outside a given statement holds
record Follows (Outside : Type 0) (modes : List Mode) (s r : List ℕ) : Type 0 where
  inside : is_inside (top modes) ≡ true → Continues (top modes) s r
  outside : is_inside (top modes) ≡ false → Outside

-- white space follows the token, or a byte that may touch it
abbrev IsLoose : Bool → List ℕ → List ℕ → Type 0
IsLoose normal t r = IsBehind t r ⊎ ((normal && may_touch t (get_or r 0 0)) ≡ true)

-- inside strings and paths, no byte may touch a token
touchless : (t r : List ℕ) → IsLoose false t r → IsBehind t r
touchless t r (inl behind) = behind
touchless t r (inr e) = absurd (true≢false (sym e))

goes_on_dollar : (s : List ℕ) → begins (codes "${") s ≡ true → path_goes_on s ≡ true
goes_on_dollar s e = or_left _ _ e

-- a token after which no string is open is the same before what may follow it
quiet_kept : (f : List ℕ → Cut) (o : List Mode) (t s r : List ℕ) (a : Cut) (change : Change) → is_inside (top o) ≡ false → Keeps f t s a change
    → Follows (IsBehind t r) (without_ended_paths (changed change o) s) s r → f (t ++ r) ≡ a
quiet_kept f o t s r a Stay normal keeps follows =
    keeps.same r (follows.outside (ap (λ m. is_inside (top m)) (normal_settled o s normal) ∙ normal))
quiet_kept f [] t s r a (Count n) normal keeps follows = keeps.same r (follows.outside refl)
quiet_kept f (mode ∷ o) t s r a (Count n) normal keeps follows = keeps.same r (follows.outside refl)
quiet_kept f o t s r a (Open (Path start)) normal keeps follows =
    let dollar = keeps.dollar tt in
    let stays = settled_stays (Path start ∷ o) s (goes_on_dollar s dollar) in
    let after = subst (λ (m : List Mode). Follows (IsBehind t r) m s r) stays follows in
    keeps.same r (after.inside refl dollar)
quiet_kept f o t s r a (Open (Quoted m)) normal keeps follows = absurd keeps.quiet
quiet_kept f o t s r a (Open (Interpolation n)) normal keeps follows = absurd keeps.quiet
quiet_kept f o t s r a Close normal keeps follows = absurd keeps.quiet

normal_same : (o : List Mode) (t s r : List ℕ) (cut : Cut) → is_inside (top o) ≡ false → IsKept (normal_cut (top o)) t s cut
    → Follows (IsBehind t r) (without_ended_paths (changed cut.change o) s) s r → normal_cut (top o) (t ++ r) ≡ cut
normal_same o t s r cut normal (inl same) follows = same r
normal_same o t s r cut normal (inr keeps) follows = quiet_kept (normal_cut (top o)) o t s r cut cut.change normal keeps follows

loose_same : (o : List Mode) (t s r : List ℕ) (cut : Cut) → is_inside (top o) ≡ false → IsKept (normal_cut (top o)) t s cut
    → (may_touch t (get_or r 0 0) ≡ true → normal_cut (top o) (t ++ r) ≡ cut) → (normal : Bool)
    → Follows (IsLoose normal t r) (without_ended_paths (changed cut.change o) s) s r → normal_cut (top o) (t ++ r) ≡ cut
loose_same o t s r cut outer kept touch normal after =
    elim (cases_Bool (is_inside (top (without_ended_paths (changed cut.change o) s)))) [
      | inl e ↦ normal_same o t s r cut outer kept (record { inside = after.inside; outside = λ h. absurd (both_ways _ h e) })
      | inr e ↦ by (after.outside e)
    ]
  where
    by : IsLoose normal t r → normal_cut (top o) (t ++ r) ≡ cut
    by (inl behind) = normal_same o t s r cut outer kept (record { inside = after.inside; outside = λ h. behind })
    by (inr h) = touch (and_parts normal (may_touch t (get_or r 0 0)) h).1

path_no_dollar : (b : ℕ) → is_path b ≡ true → (b == 36) ≡ false
path_no_dollar b e = grind (arith, nat_tests)

-- a token inside a path is the same before what may follow it
abbrev IsPathAgain : PathStart → List ℕ → List ℕ → List ℕ → Cut → Type 0
IsPathAgain start t s r cut =
    (cut.change ≡ Stay → begins (codes "${") s ≡ true → begins (codes "${") r ≡ true) → (cut.change ≡ Close → is_edge (get_or r 0 0) ≡ true)
    → (path_cut start (t ++ r) ≡ cut) × (path_goes_on (t ++ r) ≡ true)

path_kept : (start : PathStart) (t s r : List ℕ) → 0 < length t → path_goes_on (t ++ s) ≡ true → Fits t (path_cut start (t ++ s))
    → IsPathAgain start t s r (path_cut start (t ++ s))
path_kept start t s r some going =
    cond_both (begins (codes "${") (t ++ s)) _ _ (λ (c : Cut). Fits t c → IsPathAgain start t s r c)
    (λ e fits on apart. let dollar = word_kept t s r (codes "${") (omega (arith, fits.0)) e in
    (if_true (begins (codes "${") (t ++ r)) _ _ _ dollar refl, goes_on_dollar (t ++ r) dollar))
    (λ e fits. let first : is_path (get_or (t ++ r) 0 0) ≡ true = ap is_path (same_byte t r s 0 some) ∙ (rw e at going) in
    let other = and_left (get_or (t ++ r) 0 0 == 36) _ (path_no_dollar (get_or (t ++ r) 0 0) first) in
    segment_cases t s start Stay Close 0 (omega arith) fits (IsPathAgain start t s r)
    (λ d on apart. (
      if_false (begins (codes "${") (t ++ r)) _ _ _ other (segment_dollar t s start Stay Close 0 (omega arith) fits r (on refl d)),
      or_right _ _ first,
    ))
    (λ d whole on apart. (
      if_false (begins (codes "${") (t ++ r)) _ _ _ other (segment_edge t s start Stay Close 0 (omega arith) fits r (apart refl)),
      or_right _ _ first,
    )))

-- if the innermost mode closes, and no string or path is open below it, none is open then
closed_outside : (change : Change) (mode : Mode) (o : List Mode) (s : List ℕ) → is_inside (top o) ≡ false → change ≡ Close
    → is_inside (top (without_ended_paths (changed change (mode ∷ o)) s)) ≡ false
closed_outside change mode o s normal e =
    ap (λ c. is_inside (top (without_ended_paths (changed c (mode ∷ o)) s))) e ∙ (ap (λ p. is_inside (top p)) (normal_settled o s normal) ∙ normal)

closed_apart : (mode : Mode) (o : List Mode) (t s r : List ℕ) (change : Change) → is_inside (top o) ≡ false
    → Follows (IsLoose false t r) (without_ended_paths (changed change (mode ∷ o)) s) s r → change ≡ Close → is_edge (get_or r 0 0) ≡ true
closed_apart mode o t s r change normal follows e =
    apart_edge r (touchless t r (follows.outside (closed_outside change mode o s normal e))).0

-- a token is the same under the same modes, before what may follow it
step_kept : (o : List Mode) (t s r : List ℕ) (cut : Cut) → AreNested o → IsPathGoingOn (top o) (t ++ s) → 0 < length t → cut_at (top o) (t ++ s) ≡ cut
    → Fits t cut → is_white_space cut.kind ≡ false
    → Follows (IsLoose (is_normal o (changed cut.change o)) t r) (without_ended_paths (changed cut.change o) s) s r
    → (cut_at (top o) (t ++ r) ≡ cut) × (without_ended_paths o (t ++ r) ≡ o)
unfolding cut_at
step_kept [] t s r cut nested going some is fits solid follows = (
  loose_same [] t s r cut refl (normal_kept None t s some cut is fits solid) (touch_kept None t s some cut is fits r)
      (is_normal [] (changed cut.change [])) follows,
  refl,
)
step_kept (Interpolation n ∷ o) t s r cut nested going some is fits solid follows = (
  loose_same (Interpolation n ∷ o) t s r cut refl (normal_kept (Some (Interpolation n)) t s some cut is fits solid)
      (touch_kept (Some (Interpolation n)) t s some cut is fits r) (is_normal (Interpolation n ∷ o) (changed cut.change (Interpolation n ∷ o))) follows,
  refl,
)
step_kept (Quoted m ∷ o) t s r cut nested going some is fits solid follows = (
  subst (IsStringAgain m t s r) is (string_kept m t s r some (subst (Fits t) (sym is) fits))
      (λ e. (subst (λ (c : Change). Follows (IsLoose false t r) (without_ended_paths (changed c (Quoted m ∷ o)) s) s r) e follows).inside refl)
      (closed_apart (Quoted m) o t s r cut.change (nested.0 refl) follows),
  refl,
)
step_kept (Path k ∷ o) t s r cut nested going some is fits solid follows =
    let kept = subst (IsPathAgain k t s r) is (path_kept k t s r some going (subst (Fits t) (sym is) fits))
    (λ e f. let after = subst (λ (c : Change). Follows (IsLoose false t r) (without_ended_paths (changed c (Path k ∷ o)) s) s r) e follows in
    (subst (λ (p : List Mode). Follows (IsLoose false t r) p s r) (settled_stays (Path k ∷ o) s (goes_on_dollar s f)) after).inside refl f)
    (closed_apart (Path k) o t s r cut.change (nested.0 refl) follows) in
    (kept.0, settled_stays (Path k ∷ o) (t ++ r) kept.1)

feed_blank : (b : ℕ) → (b == 10) ≡ true → (is_blank b ≡ true) × (class_test Line b ≡ false)
feed_blank b e = (grind (arith, nat_tests), grind (arith, nat_tests))

-- a byte with which white space after a token may begin is a blank, and after a comment that begins with `#` a line feed
blank_feed : (b : ℕ) (t : List ℕ) → ends_token t b ≡ true → (is_blank b ≡ true) × (get_or t 0 0 ≡ 35 → class_test Line b ≡ false)
blank_feed b t e = by (get_or t 0 0 == 35) refl e
  where
    by : (c : Bool) → (get_or t 0 0 == 35) ≡ c → cond c (b == 10) (is_blank b) ≡ true → (is_blank b ≡ true) × (get_or t 0 0 ≡ 35 → class_test Line b ≡ false)
    by true f g = ((feed_blank b g).0, λ h. (feed_blank b g).1)
    by false f g = (g, λ h. absurd (both_ways _ f (eq-eqb (get_or t 0 0) 35 h)))

gap_first : (gap rest : List ℕ) (t : List ℕ) → ends_token t (get_or gap 0 0) ≡ true → get_or (gap ++ rest) 0 0 ≡ get_or gap 0 0
gap_first [] rest t e = absurd (true≢false (sym (blank_feed 0 t e).0))
gap_first (b ∷ gap) rest t e = refl

no_gap : (normal : Bool) (t gap rest : List ℕ) → gap ≡ [] → NeedsNoGap normal t rest → IsLoose normal t (gap ++ rest)
no_gap normal t gap rest nothing (inl ended) =
    let none : gap ++ rest ≡ [] = ap (λ g. g ++ rest) nothing ∙ ended in
    inl (inl none, λ h. ap (prefix_len (class_test Line)) none)
no_gap normal t gap rest nothing (inr touch) =
    inr (ap (λ g. normal && may_touch t (get_or (g ++ rest) 0 0)) nothing ∙ touch)

gap_behind : (normal : Bool) (t gap rest : List ℕ) → IsGap false normal t gap rest → IsLoose normal t (gap ++ rest)
gap_behind normal t gap rest (blank, inl ends) = no_gap normal t gap rest ends.0 ends.1
gap_behind normal t gap rest (blank, inr first) =
    let feed = blank_feed (get_or gap 0 0) t first in
    let same = gap_first gap rest t first in
    inl (inr (ap is_blank same ∙ feed.0), λ h. no_run (class_test Line) (gap ++ rest) (ap (class_test Line) same ∙ feed.1 h))

-- a token inside a string with which no piece begins
abbrev IsStop : Bool → List ℕ → List ℕ → Cut → Type 0
IsStop m s r cut = cut.len ≤ length s → (cut.change ≡ Close → is_edge (get_or r 0 0) ≡ true) → piece_len m (take cut.len s ++ r) ≡ 0

stop_kept : (m : Bool) (s r : List ℕ) → piece_len m s ≡ 0 → IsStop m s r (cond (begins (codes "${") s) opened (closed m))
stop_kept m s r stop =
    cond_both (begins (codes "${") s) opened (closed m) (IsStop m s r)
    (λ e size apart. (stop_opened m (take 2 s) (drop 2 s) r (omega (arith, length-take-le 2 s size))
    (ap (begins (codes "${")) (take-append-drop 2 s) ∙ e)).0)
    (λ e size apart. (stop_closed m (take (cond m 2 1) s) (drop (cond m 2 1) s) r (length-take-le (cond m 2 1) s size)
    (ap (piece_len m) (take-append-drop (cond m 2 1) s) ∙ stop) (ap (begins (codes "${")) (take-append-drop (cond m 2 1) s) ∙ e) (apart refl)).0)

-- the next token inside a string continues it alike in both texts
next_string : (m : Bool) (o : List Mode) (s new : List ℕ) → AreSeparated (Quoted m ∷ o) s new → IsUtf8 s → is_inside (top o) ≡ false → GoesOn m s new
unfolding cut_at
next_string m o _ _ (none _) utf8 normal = λ stop some. absurd (omega arith)
next_string m o _ _ (space _ s n new some e more) utf8 normal =
    absurd (true≢false (subst IsInnerCut e (string_inner m s)).1)
next_string m o _ _ (token _ s cut gap rest some e solid isgap more) utf8 normal = λ stop more_text.
    let good = subst (IsCutOf (Some (Quoted m)) s) e (cut_good (Some (Quoted m)) s utf8 some tt) in
    let size : cut.len ≤ length s = good.boundary.0 in
    let len = length-take-le cut.len s size in
    let long : 0 < cut.len = good.some in
    let front = same_byte (take cut.len s) (gap ++ rest) (drop cut.len s) 0 (omega arith) in
    let whole = length-append (take cut.len s) (gap ++ rest) in (
      front ∙ ap (λ x. get_or x 0 0) (take-append-drop cut.len s),
      subst (IsStop m s (gap ++ rest)) (sym (string_stop m s some stop) ∙ e) (stop_kept m s (gap ++ rest) stop) size
          (λ f. apart_edge (gap ++ rest) (touchless (take cut.len s) (gap ++ rest) (gap_behind false (take cut.len s) gap rest
          (subst (λ b. IsGap b false (take cut.len s) gap rest) (closed_outside cut.change (Quoted m) o (drop cut.len s) normal f) isgap))).0),
      omega arith,
    )

-- the next token inside a path continues it alike in both texts
next_path : (k : PathStart) (o : List Mode) (s new : List ℕ) → AreSeparated (Path k ∷ o) s new → IsUtf8 s → begins (codes "${") s ≡ true
    → begins (codes "${") new ≡ true
unfolding cut_at
next_path k o _ _ (none _) utf8 dollar = absurd (true≢false (sym dollar))
next_path k o _ _ (space _ s n new some e more) utf8 dollar =
    let stays = settled_stays (Path k ∷ o) s (goes_on_dollar s dollar) in
    let here : path_cut k s ≡ plain TOKEN_WHITESPACE n = ap (λ p. cut_at (top p) s) (sym stays) ∙ e in
    absurd (true≢false (subst IsInnerCut here (path_inner k s)).1)
next_path k o _ _ (token _ s cut gap rest some e solid isgap more) utf8 dollar =
    let stays = settled_stays (Path k ∷ o) s (goes_on_dollar s dollar) in
    let here : path_cut k s ≡ cut = ap (λ p. cut_at (top p) s) (sym stays) ∙ e in
    let good = subst (IsCutOf (Some (Path k)) s) here (cut_good (Some (Path k)) s utf8 some (goes_on_dollar s dollar)) in
    let is : opened ≡ cut = sym (if_true (begins (codes "${") s) _ _ _ dollar refl) ∙ here in
    let two : 2 ≡ cut.len = ap (λ (c : Cut). c.len) is in
    let len = length-take-le cut.len s good.boundary.0 in
    word_kept (take cut.len s) (drop cut.len s) (gap ++ rest) (codes "${") (omega arith) (ap (begins (codes "${")) (take-append-drop cut.len s) ∙ dollar)

continues_normal : (o : List Mode) (s r : List ℕ) → is_inside (top o) ≡ false → Continues (top o) s r
continues_normal [] s r normal = tt
continues_normal (Interpolation n ∷ o) s r normal = tt
continues_normal (Quoted m ∷ o) s r normal = absurd (true≢false normal)
continues_normal (Path k ∷ o) s r normal = absurd (true≢false normal)

-- what is written after a token inside a string or a path continues it alike
continues : (modes : List Mode) (s new : List ℕ) → AreSeparated modes s new → IsUtf8 s → AreNested modes → Continues (top (without_ended_paths modes s)) s new
continues [] s new separated utf8 nested = tt
continues (Interpolation n ∷ modes) s new separated utf8 nested = tt
continues (Quoted m ∷ modes) s new separated utf8 nested = next_string m modes s new separated utf8 (nested.0 refl)
continues (Path k ∷ modes) s new separated utf8 nested =
    elim (path_goes_on s) as (λ b. Continues (top (cond b (Path k ∷ modes) (without_ended_paths modes s))) s new) [
      | true ↦ next_path k modes s new separated utf8
      | false ↦ subst (λ p. Continues (top p) s new) (sym (normal_settled modes s (nested.0 refl))) (continues_normal modes s new (nested.0 refl))
    ]

follows_gap : (normal : Bool) (modes : List Mode) (t s gap rest : List ℕ) → AreSeparated modes s rest → IsUtf8 s → AreNested modes
    → IsGap (is_inside (top (without_ended_paths modes s))) normal t gap rest
    → Follows (IsLoose normal t (gap ++ rest)) (without_ended_paths modes s) s (gap ++ rest)
follows_gap normal modes t s gap rest separated utf8 nested isgap = record {
  inside = λ h. let nothing : gap ≡ [] = subst (λ b. IsGap b normal t gap rest) h isgap in
      subst (λ g. Continues (top (without_ended_paths modes s)) s (g ++ rest)) (sym nothing) (continues modes s rest separated utf8 nested);
  outside = λ h. gap_behind normal t gap rest (subst (λ b. IsGap b normal t gap rest) h isgap);
}

-- without a gap, the tokens after the token are those of the rest
after_nothing : (normal : Bool) (modes : List Mode) (t s gap rest : List ℕ) → (normal ≡ true → is_inside (top modes) ≡ false) → gap ≡ []
    → NeedsNoGap normal t rest → solids (tokens_under modes (gap ++ rest)) ≡ solids (tokens_under (without_ended_paths modes s) rest)
after_nothing normal modes t s gap rest settles nothing (inl ended) =
    ap (λ x. solids (tokens_under modes x)) (ap (λ g. g ++ rest) nothing ∙ ended)
    ∙ (ap solids (tokens_under-nil modes) ∙ (sym (ap solids (tokens_under-nil (without_ended_paths modes s)))
    ∙ ap (λ x. solids (tokens_under (without_ended_paths modes s) x)) (sym ended)))
after_nothing normal modes t s gap rest settles nothing (inr touch) =
    let free = settles (and_parts normal (may_touch t (get_or rest 0 0)) touch).0 in
    ap (λ g. solids (tokens_under modes (g ++ rest))) nothing ∙ ap (λ m. solids (tokens_under m rest)) (sym (normal_settled modes s free))

-- the tokens after the token, apart from white space, are those after the gap
after_gap : (normal : Bool) (modes : List Mode) (t s gap rest : List ℕ) → (normal ≡ true → is_inside (top modes) ≡ false) → AreNested modes → (b : Bool)
    → is_inside (top (without_ended_paths modes s)) ≡ b → IsGap b normal t gap rest
    → solids (tokens_under modes (gap ++ rest)) ≡ solids (tokens_under (without_ended_paths modes s) rest)
after_gap normal modes t s gap rest settles nested true h nothing =
    ap (λ g. solids (tokens_under modes (g ++ rest))) nothing
    ∙ ap (λ m. solids (tokens_under m rest)) (sym (inside_settled modes s nested h))
after_gap normal modes t s gap rest settles nested false h (blank, inl ends) = after_nothing normal modes t s gap rest settles ends.0 ends.1
after_gap normal modes t s [] rest settles nested false h (blank, inr first) = absurd (true≢false (sym (blank_feed 0 t first).0))
after_gap normal modes t s (b ∷ gap) rest settles nested false h (blank, inr first) =
    let settled = outside_settled modes s b (gap ++ rest) nested h (blank_feed b t first).0 in
    ap solids (sym (tokens_under-settled modes (b ∷ (gap ++ rest))))
    ∙ (ap (λ m. solids (tokens_under m (b ∷ (gap ++ rest)))) settled ∙ blanks (without_ended_paths modes s) h (b ∷ gap) rest blank)

space_outside : (o : List Mode) (x : List ℕ) (n : ℕ) → cut_at (top o) x ≡ plain TOKEN_WHITESPACE n → is_inside (top o) ≡ false
unfolding cut_at
space_outside [] x n e = refl
space_outside (Interpolation k ∷ o) x n e = refl
space_outside (Quoted m ∷ o) x n e = absurd (true≢false (subst IsInnerCut e (string_inner m x)).1)
space_outside (Path k ∷ o) x n e = absurd (true≢false (subst IsInnerCut e (path_inner k x)).1)

-- a text that begins with the token has this token, and those of the rest
new_tokens : (o : List Mode) (t r : List ℕ) (cut : Cut) → cut_at (top o) (t ++ r) ≡ cut → without_ended_paths o (t ++ r) ≡ o → length t ≡ cut.len → 0 < cut.len
    → tokens_under o (t ++ r) ≡ (cut.kind, t) ∷ tokens_under (changed cut.change o) r
new_tokens o t r cut is settled len some =
    tokens_under-cut o (t ++ r) cut (omega (arith, length-append t r)) (ap (λ m. cut_at (top m) (t ++ r)) settled ∙ is) some
    ∙ (ap (λ w. (cut.kind, w) ∷ tokens_under (changed cut.change (without_ended_paths o (t ++ r))) (drop cut.len (t ++ r))) (take_at t r cut.len len)
    ∙ (ap (λ m. (cut.kind, t) ∷ tokens_under (changed cut.change m) (drop cut.len (t ++ r))) settled
    ∙ ap (λ x. (cut.kind, t) ∷ tokens_under (changed cut.change o) x) (drop_at t r cut.len len)))

-- the new text has the same tokens, apart from white space
again : (modes : List Mode) (text new : List ℕ) → AreSeparated modes text new → IsUtf8 text → AreNested modes
    → have_no_error (tokens_under modes text) ≡ true → solids (tokens_under (without_ended_paths modes text) new) ≡ solids (tokens_under modes text)
again _ _ _ (none modes) utf8 nested ok = ap solids (tokens_under-nil (without_ended_paths modes [])) ∙ sym (ap solids (tokens_under-nil modes))
again _ _ _ (space modes text n new some e more) utf8 nested ok =
    let o = without_ended_paths modes text in
    let good = subst (IsCutOf (top o) text) e (cut_good (top o) text utf8 some (IsPathGoingOn-settled modes text)) in
    let list = tokens_under-cut modes text (plain TOKEN_WHITESPACE n) some e good.some in
    let others = and_parts true (have_no_error (tokens_under o (drop n text))) (sym (ap have_no_error list) ∙ ok) in
    let normal = space_outside o text n e in
    ap (λ m. solids (tokens_under m new)) (sym (normal_settled o (drop n text) normal))
    ∙ (again o (drop n text) new more (IsUtf8-drop text n utf8 good.boundary) (nested_settled modes text nested) others.1 ∙ sym (ap solids list))
again _ _ _ (token modes text cut gap rest some e solid isgap more) utf8 nested ok =
    let o = without_ended_paths modes text in
    let t = take cut.len text in
    let s = drop cut.len text in
    let after = changed cut.change o in
    let good = subst (IsCutOf (top o) text) e (cut_good (top o) text utf8 some (IsPathGoingOn-settled modes text)) in
    let split : t ++ s ≡ text = take-append-drop cut.len text in
    let len : length t ≡ cut.len = length-take-le cut.len text good.boundary.0 in
    let long : 0 < cut.len = good.some in
    let list = tokens_under-cut modes text cut some e long in
    let parts = and_parts (not (is_error cut.kind)) (have_no_error (tokens_under after s)) (sym (ap have_no_error list) ∙ ok) in
    let outer = nested_settled modes text nested in
    let inner = nested_changed o text cut outer e in
    let rest_utf8 = IsUtf8-drop text cut.len utf8 good.boundary in
    let kept = step_kept o t s (gap ++ rest) cut outer (subst (IsPathGoingOn (top o)) (sym split) (IsPathGoingOn-settled modes text)) (omega arith)
    (ap (cut_at (top o)) split ∙ e) (sym len, not-true _ parts.0) solid (follows_gap (is_normal o after) after t s gap rest more rest_utf8 inner isgap) in
    let made = new_tokens o t (gap ++ rest) cut kept.0 kept.1 len long in
    let behind = after_gap (is_normal o after) after t s gap rest
    (λ h. not-true (is_inside (top after)) (and_parts (not (is_inside (top o))) (not (is_inside (top after))) h).1) inner
    (is_inside (top (without_ended_paths after s))) refl isgap
    ∙ again after s rest more rest_utf8 inner parts.1 in
    ap solids made ∙ (ap (λ ts. cond (is_white_space cut.kind) ts ((cut.kind, t) ∷ ts)) behind ∙ sym (ap solids list))

-- the law `separation`
pub separated_again : (text new : List ℕ) → IsUtf8 text → have_no_error (tokens_of text) ≡ true → IsSeparated text new
    → solids (tokens_of new) ≡ solids (tokens_of text)
separated_again text new utf8 ok separated =
    ap (λ x. solids (tokens_under [] x)) separated.whole
    ∙ (blanks [] refl separated.gap separated.rest separated.blank ∙ again [] text separated.rest separated.separated utf8 tt ok)
