-- Every rule cuts off a nonempty text that ends at a character boundary.
use Rattle.std.proofs.Common.{◌≡◌, ℕ, ◌+◌, ◌<◌, Bool, true, false, not, cond, ◌&&◌, ◌||◌, ◌==◌, nat_lt, List, [], ◌∷◌, length, get_or, take, drop, IsUtf8}
use Rattle.std.proofs.{Common.{Option, Some, None, refl, sym, subst, inl, inr, arith, zero-add, eqb-true, false-eqb}, lemmas.Bool.and_parts}
use Rattle.std.proofs.lemmas.{Bool.Decides.nat_tests, List.Sums.prefix_len_passes, Str.{IsCharBoundary-start, IsCharBoundary-end}}
use Rattle.std.specs.{Prelude.{if◌then◌else◌, codes}, List.{prefix_len, list_all}, Char.{is_ascii_digit, is_ascii_alphabetic}, Str.IsCharBoundary}
use Rattle.rnix_kinds.specs.declared.kinds.SyntaxKind.{SyntaxKind, TheVariants.{TOKEN_PATH_SEARCH, TOKEN_ERROR, TOKEN_FLOAT, TOKEN_STRING_END}}
use Rattle.rnix_kinds.specs.declared.tokenizer.rule.{Cut.Cut, PathStart.{PathStart, TheVariants.{Root as StartSlash, Relative as StartName}}}
use Rattle.rnix_kinds.specs.declared.tokenizer.rule.{PathStart.TheVariants.Home as StartTilde, Mode.{Mode, TheVariants.{Quoted, Interpolation, Path}}}
use Rattle.rnix_kinds.specs.declared.tokenizer.{rule.Change.{Change, TheVariants.{Stay, Open, Close}}, text.Class.{Class, TheVariants.{Digit, Name, Step}}}
use Rattle.rnix_kinds.specs.{declared.tokenizer.text.Class.TheVariants.{Scheme, Angle, Uri, Line}, Lexical.{PathKinds.kind_of_path, Texts.{occurs_at, begins}}}
use Rattle.rnix_kinds.specs.Lexical.{Texts.{run_end, space_len}, Classes.{class_test, is_path, is_uri}, Plain.{plain, space, comment, uri, word}}
use Rattle.rnix_kinds.specs.Lexical.Paths.{is_broken, segment, first_segment, slash, home, relative, goes_on_as_path, search_path, path_goes_on, path_cut}
use Rattle.rnix_kinds.specs.Lexical.{Strings.{piece_len, content_len, string_cut}, Tokens.{CountsUp, opens_alone, opens, IsPathBegun, IsCutOf, IsPathGoingOn}}
use Rattle.rnix_kinds.specs.Lexical.{Tokens.{first_that_fits, normal_rules, normal_cut, cut_at}, Numbers.{number, digits_to, fraction, exponent}}
use Rattle.rnix_kinds.specs.Lexical.{Numbers.exponent_digits, Operators.{ellipsis, opener, brace, operator, operators, first_row}}
use Rattle.rnix_kinds.proofs.LexicalLemmas.{StringsLemmas.{content_len-le, content_len-stops}, WordsLemmas.{IsCharBoundary-space_len, IsCharBoundary-char_len}}
use Rattle.rnix_kinds.proofs.LexicalLemmas.{WordsLemmas.char_len_some, CutParts.{FitsWell, if_fits, if_good, is_free, free_named, free_if, free_path, path_opens}}
use Rattle.rnix_kinds.proofs.LexicalLemmas.CutParts.{interpolation_next, good_named, good_plain, is_plain_byte, byte_end, occurrence_end, run_boundary, run_some}
use Rattle.rnix_kinds.proofs.LexicalLemmas.CutParts.{alphabetic_uri, letter_name, word_named, exponent_mark, exponent_sign, block_good, opening_brace_good}
use Rattle.rnix_kinds.proofs.LexicalLemmas.CutParts.{closing_brace_good, path_some, slash_path, slash_is_path, step_path, positive_from, none_from, or_right}
use Rattle.rnix_kinds.proofs.LexicalLemmas.CutParts.{tilde_good, search_boundary, content_boundary, closer_cut}

module _ (top : Option Mode) (text : List ℕ) (utf8 : IsUtf8 text) (some : 0 < length text) where
  good_begins : (kind : SyntaxKind) (bytes : List ℕ) → is_free kind ≡ true → 0 < length bytes → list_all is_plain_byte bytes ≡ true → begins bytes text ≡ true
      → IsCutOf top text (plain kind (length bytes))
  good_begins kind bytes free some ascii e =
      good_plain top text kind _ free some (subst (IsCharBoundary text) (zero-add (length bytes)) (occurrence_end bytes 0 text utf8 some ascii e))

  first_row_fits : (rows : List (List ℕ × SyntaxKind)) → list_all (λ row. nat_lt 0 (length row.0) && list_all is_plain_byte row.0 && is_free row.1) rows ≡ true
      → FitsWell top text (first_row rows text)
  first_row_fits [] ok = tt
  first_row_fits (row ∷ rows) ok =
      let here = and_parts (nat_lt 0 (length row.0) && list_all is_plain_byte row.0 && is_free row.1) _ ok in
      let free = and_parts (nat_lt 0 (length row.0) && list_all is_plain_byte row.0) _ here.0 in
      let parts = and_parts (nat_lt 0 (length row.0)) _ free.0 in
      let positive : 0 < length row.0 = grind (arith, nat_tests) in
      if_fits top text (begins row.0 text) _ _ (good_begins row.1 row.0 free.1 positive parts.1) (λ e. first_row_fits rows here.1)

  pub operator_fits : FitsWell top text (operator text)
  operator_fits = first_row_fits operators refl

  pub ellipsis_fits : FitsWell top text (ellipsis text)
  ellipsis_fits = if_fits top text (begins (codes "...") text) _ _ (good_begins _ (codes "...") refl (omega arith) refl) (λ e. tt)

  pub space_fits : FitsWell top text (space text)
  space_fits = if_fits top text (nat_lt 0 (space_len text)) _ _ (λ e. good_plain top text _ _ refl (grind (arith, nat_tests))
      (IsCharBoundary-space_len text utf8)) (λ e. tt)

  -- the longest run of a class, if the first byte is in it, is a good cut of a kind that requires nothing of the text
  good_run : (kind : SyntaxKind) (class : Class) → is_free kind ≡ true → class_test class (get_or text 0 0) ≡ true
      → IsCutOf top text (plain kind (run_end (class_test class) 0 text))
  good_run kind class free e =
      good_plain top text kind _ free (omega (arith, run_some (class_test class) text some e)) (run_boundary class 0 text utf8 (IsCharBoundary-start text utf8))

  pub comment_fits : FitsWell top text (comment text)
  comment_fits =
      if_fits top text (begins (codes "#") text) _ _ (λ e. good_run _ Line refl (grind (arith, nat_tests)))
      (λ e. if_fits top text (begins (codes "/*") text) _ _ (λ e. block_good top text utf8 some) (λ e. tt))

  pub uri_fits : FitsWell top text (uri text)
  uri_fits =
      let n = prefix_len (class_test Scheme) text in
      if_fits top text (is_ascii_alphabetic (get_or text 0 0) && get_or text n 0 == 58 && is_uri (get_or text (n + 1) 0)) _ _
      (λ e. good_run _ Uri refl (alphabetic_uri (get_or text 0 0) (and_parts _ _ (and_parts _ _ e).0).0)) (λ e. tt)

  pub word_fits : FitsWell top text (word text)
  word_fits =
      if_fits top text (is_ascii_alphabetic (get_or text 0 0) || get_or text 0 0 == 95) _ _
      (λ e. good_named top text _ _ (omega (arith, run_some (class_test Name) text some (letter_name (get_or text 0 0) e)))
      (run_boundary Name 0 text utf8 (IsCharBoundary-start text utf8)) (word_named (take (run_end (class_test Name) 0 text) text))) (λ e. tt)

  -- numbers, from a position after the first byte on
  exponent_digits_good : (i : ℕ) → 0 < i → IsCharBoundary text i → IsCutOf top text (exponent_digits i text)
  exponent_digits_good i more start = good_plain top text _ _ (free_if (run_end is_ascii_digit i text == i) TOKEN_ERROR TOKEN_FLOAT refl refl) (omega arith)
      (run_boundary Digit i text utf8 start)

  exponent_good : (i : ℕ) → 0 < i → IsCharBoundary text i → IsCutOf top text (exponent i text)
  exponent_good i more start =
      if_good top text (get_or text i 0 == 101 || get_or text i 0 == 69) _ _
      (λ e. let after : IsCharBoundary text (i + 1) = exponent_mark text i utf8 e in
      if_good top text (get_or text (i + 1) 0 == 43 || get_or text (i + 1) 0 == 45) _ _
      (λ s. exponent_digits_good (i + 2) (omega arith) (let two : i + 1 + 1 ≡ i + 2 = omega arith in subst (IsCharBoundary text) two
      (exponent_sign text (i + 1) utf8 s)))
      (λ s. exponent_digits_good (i + 1) (omega arith) after))
      (λ e. good_plain top text _ _ refl more start)

  fraction_good : (i : ℕ) → 0 < i → IsCharBoundary text i → IsCutOf top text (fraction i text)
  fraction_good i more start = exponent_good _ (omega arith) (run_boundary Digit i text utf8 start)

  digits_to_good : (end : ℕ) → 0 < end → IsCharBoundary text end → IsCutOf top text (digits_to end text)
  digits_to_good end more start =
      if_good top text (get_or text end 0 == 46 && not (get_or text 0 0 == 48 && not (get_or text 1 0 == 46))) _ _
      (λ e. fraction_good (end + 1) (omega arith) (byte_end text end 46 utf8 refl (and_parts _ _ e).0))
      (λ e. good_plain top text _ _ refl more start)

  pub number_fits : FitsWell top text (number text)
  number_fits =
      if_fits top text (is_ascii_digit (get_or text 0 0)) _ _
      (λ e. digits_to_good _ (omega (arith, run_some is_ascii_digit text some e)) (run_boundary Digit 0 text utf8 (IsCharBoundary-start text utf8)))
      (λ e. if_fits top text (begins (codes ".") text && is_ascii_digit (get_or text 1 0)) _ _
      (λ e. fraction_good 1 (omega arith) (byte_end text 0 46 utf8 refl (and_parts _ _ e).0))
      (λ e. tt))

  good_change : (kind : SyntaxKind) (bytes : List ℕ) (change : Change) → is_free kind ≡ true → opens_alone kind ≡ true → CountsUp top change → 0 < length bytes
      → list_all is_plain_byte bytes ≡ true → begins bytes text ≡ true → IsCutOf top text (record { kind = kind; len = length bytes; change = change })
  good_change kind bytes change free may counted some ascii e = record {
    some = some;
    boundary = subst (IsCharBoundary text) (zero-add (length bytes)) (occurrence_end bytes 0 text utf8 some ascii e);
    counted = counted;
    named = free_named kind _ free;
    opener = λ _. inl may;
  }

  pub opener_fits : FitsWell top text (opener text)
  opener_fits =
      if_fits top text (begins (codes "${") text) _ _ (good_change _ (codes "${") (Open (Interpolation 0)) refl refl refl (omega arith) refl)
      (λ e. if_fits top text (begins (codes "''") text) _ _ (good_change _ (codes "''") (Open (Quoted true)) refl refl refl (omega arith) refl)
      (λ e. if_fits top text (begins (codes "\"") text) _ _ (good_change _ (codes "\"") (Open (Quoted false)) refl refl refl (omega arith) refl)
      (λ e. tt)))

  pub brace_fits : FitsWell top text (brace top text)
  brace_fits =
      if_fits top text (begins (codes "{") text) _ _ (λ e. opening_brace_good top text (byte_end text 0 123 utf8 refl e))
      (λ e. if_fits top text (begins (codes "}") text) _ _ (λ e. closing_brace_good top text (byte_end text 0 125 utf8 refl e))
      (λ e. tt))

  -- a segment of a path
  segment_good : (start : PathStart) (going ended : Change) (from : ℕ) → CountsUp top going → CountsUp top ended → (opens going ≡ true → IsPathBegun going)
      → (opens ended ≡ true → ⊥) → IsCharBoundary text from → is_path (get_or text from 0) ≡ true → IsCutOf top text (segment start going ended from text)
  segment_good start going ended from go stop starts ends begins_at first =
      let end : IsCharBoundary text (run_end is_path from text) =
      run_boundary (Rattle.rnix_kinds.specs.declared.tokenizer.text.Class.TheVariants.Path) from text utf8 begins_at in
      let more : 0 < prefix_len is_path (drop from text) = path_some text from first in
      if_good top text (occurs_at (codes "${") (run_end is_path from text) text) _ _
      (λ e. record {
        some = omega arith;
        boundary = end;
        counted = go;
        named = free_named (kind_of_path start) _ (free_path start);
        opener = λ opened. inr (path_opens start, starts opened, interpolation_next (run_end is_path from text) text e);
      })
      (λ e. record {
        some = omega arith;
        boundary = end;
        counted = stop;
        named = free_named (if is_broken (take (run_end is_path from text) text) then TOKEN_ERROR else kind_of_path start) _
            (free_if (is_broken (take (run_end is_path from text) text)) TOKEN_ERROR (kind_of_path start) refl (free_path start));
        opener =
            λ e. absurd (ends e);
      })

  first_segment_good : (start : PathStart) (from : ℕ) → IsCharBoundary text from → is_path (get_or text from 0) ≡ true
      → IsCutOf top text (first_segment start from text)
  first_segment_good start from begins_at first = segment_good start (Open (Path start)) Stay from refl tt (λ e. tt) (λ e. cc) begins_at first

  pub slash_fits : FitsWell top text (slash text)
  slash_fits =
      if_fits top text (begins (codes "//") text) _ _ (good_begins _ (codes "//") refl (omega arith) refl)
      (λ e. if_fits top text (begins (codes "/${") text || (begins (codes "/") text && is_path (get_or text 1 0))) _ _
      (λ e. first_segment_good StartSlash 0 (IsCharBoundary-start text utf8)
      (slash_is_path (get_or text 0 0) (get_or text 1 0 == 36) (get_or text 2 0 == 123) (is_path (get_or text 1 0)) e))
      (λ e. if_fits top text (begins (codes "/") text) _ _ (good_begins _ (codes "/") refl (omega arith) refl)
      (λ e. tt)))

  pub home_fits : FitsWell top text (home text)
  home_fits =
      if_fits top text (begins (codes "~/") text) _ _
      (λ e. first_segment_good StartTilde 1 (byte_end text 0 126 utf8 refl (and_parts _ _ e).0) (slash_path (get_or text 1 0) (and_parts _ _ e).1))
      (λ e. if_fits top text (begins (codes "~") text) _ _ (λ e. tilde_good top text utf8 e) (λ e. tt))

  pub relative_fits : FitsWell top text (relative text)
  relative_fits =
      let n = prefix_len (class_test Step) text in
      if_fits top text (nat_lt 0 n && goes_on_as_path n text) _ _
      (λ e. first_segment_good StartName 0 (IsCharBoundary-start text utf8)
      (step_path (get_or text 0 0) (prefix_len_passes (class_test Step) text 0 0 (positive_from n (and_parts _ _ e).0)))) (λ e. tt)

  pub search_fits : FitsWell top text (search_path text)
  search_fits =
      if_fits top text (get_or text 0 0 == 60 && get_or text (prefix_len (class_test Angle) text) 0 == 62) _ _
      (λ e. let first : get_or text 0 0 == 60 ≡ true = (and_parts _ _ e).0 in
      let after = byte_end text 0 60 utf8 refl first in
      if_good top text (run_end is_path 1 text == 1) _ _
      (λ s. good_plain top text _ 1 refl (omega arith) after)
      (λ s. good_plain top text _ _ (free_if (get_or text (run_end is_path 1 text) 0 == 62) TOKEN_PATH_SEARCH TOKEN_ERROR refl refl) (omega arith)
      (search_boundary text utf8 some first (and_parts _ _ e).1)))
      (λ e. tt)

  pub path_good : (kind : PathStart) → path_goes_on text ≡ true → IsCutOf top text (path_cut kind text)
  path_good kind going =
      if_good top text (begins (codes "${") text) _ _ (good_change _ (codes "${") (Open (Interpolation 0)) refl refl refl (omega arith) refl)
      (λ e. segment_good kind Stay Close 0 tt tt (λ e. absurd (cc)) (λ e. cc) (IsCharBoundary-start text utf8) (or_right _ _ e going))

  closer_good : (m : Bool) → content_len m text < length text → nat_lt 0 (content_len m text) ≡ false → begins (codes "${") text ≡ false
      → IsCutOf top text (record { kind = TOKEN_STRING_END; len = cond m 2 1; change = Close })
  closer_good m before s t =
      let none : content_len m text ≡ 0 = none_from (content_len m text) s in
      let stop : piece_len m text ≡ 0 = (let e = content_len-stops m text before in rw none at e) in
      closer_cut m top text utf8 stop t

  pub string_good : (multiline : Bool) → IsCutOf top text (string_cut multiline text)
  string_good m =
      if_good top text (content_len m text == length text) _ _
      (λ e. let all = eqb-true (content_len m text) (length text) e in good_plain top text _ _ refl (omega arith)
      (subst (IsCharBoundary text) (sym all) (IsCharBoundary-end text)))
      (λ e. let before : content_len m text < length text = omega (arith, content_len-le m text, false-eqb _ _ (sym e)) in
      if_good top text (nat_lt 0 (content_len m text)) _ _
      (λ s. good_plain top text _ _ refl (positive_from _ s) (content_boundary m text before))
      (λ s. if_good top text (begins (codes "${") text) _ _ (good_change _ (codes "${") (Open (Interpolation 0)) refl refl refl (omega arith) refl)
      (λ t. closer_good m before s t)))

-- the cut of each rule that applies is good
abbrev AllFit : Option Mode → List ℕ → List (Option Cut) → Type 0
AllFit top text [] = Unit {0}
AllFit top text (rule ∷ rules) = FitsWell top text rule × AllFit top text rules

first_of_good : (top : Option Mode) (text : List ℕ) (rules : List (Option Cut)) (last : Cut) → AllFit top text rules → IsCutOf top text last
    → IsCutOf top text (first_that_fits rules last)
first_of_good top text [] last fit good = good
first_of_good top text (Some cut ∷ rules) last fit good = fit.0
first_of_good top text (None ∷ rules) last fit good = first_of_good top text rules last fit.1 good

module _ (top : Option Mode) (text : List ℕ) (utf8 : IsUtf8 text) (some : 0 < length text) where
  normal_good : IsCutOf top text (normal_cut top text)
  unfolding normal_cut
  normal_good =
      let fit : AllFit top text (normal_rules top text) = (
        space_fits top text utf8 some,
        (
          comment_fits top text utf8 some,
          (
            ellipsis_fits top text utf8 some,
            (
              slash_fits top text utf8 some,
              (
                home_fits top text utf8 some,
                (
                  relative_fits top text utf8 some,
                  (
                    search_fits top text utf8 some,
                    (
                      uri_fits top text utf8 some,
                      (
                        word_fits top text utf8 some,
                        (
                          number_fits top text utf8 some,
                          (opener_fits top text utf8 some, (brace_fits top text utf8 some, (operator_fits top text utf8 some, tt))),
                        ),
                      ),
                    ),
                  ),
                ),
              ),
            ),
          ),
        ),
      ) in
      first_of_good top text (normal_rules top text) _ fit (good_plain top text TOKEN_ERROR _ refl (char_len_some text)
      (IsCharBoundary-char_len text utf8 some))

-- the cut of every token is good
pub cut_good : (top : Option Mode) (text : List ℕ) → IsUtf8 text → 0 < length text → IsPathGoingOn top text → IsCutOf top text (cut_at top text)
unfolding cut_at
cut_good None text utf8 some going = normal_good None text utf8 some
cut_good (Some (Interpolation n)) text utf8 some going = normal_good (Some (Interpolation n)) text utf8 some
cut_good (Some (Quoted m)) text utf8 some going = string_good _ text utf8 some m
cut_good (Some (Path kind)) text utf8 some going = path_good _ text utf8 some kind going
