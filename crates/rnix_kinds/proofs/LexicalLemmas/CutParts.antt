-- Where the parts of a cut end, and what its kind requires of its text.
use Rattle.std.proofs.Common.{◌≡◌, ℕ, zero, suc, ◌+◌, ◌-◌, ◌<◌, Bool, true, false, cond, ◌&&◌, ◌||◌, ◌==◌, nat_lt, List, [], ◌∷◌, length, get_or, take, drop}
use Rattle.std.proofs.Common.{IsUtf8, Option, Some, None, refl, sym, ap, ◌∙◌, subst, inl, inr, arith, add-zero, get_or-drop, length-drop, eqb-true, false-eqb}
use Rattle.std.proofs.lemmas.{Slice.Eq.bytes_eq-Decides, Bool.{cases_lt, and_parts, Decides.nat_tests}, List.Sums.prefix_len_passes, Str.IsUtf8-drop}
use Rattle.std.{proofs.lemmas.Str.{IsCharBoundary-end, IsCharBoundary-before_ascii, IsCharBoundary-after_ascii, IsCharBoundary-from_rest}, specs.Prelude.codes}
use Rattle.std.specs.{List.{prefix_len, list_all}, Char.is_ascii_alphabetic, Str.{IsCharBoundary, bytes_eq}}
use Rattle.rnix_kinds.specs.declared.kinds.SyntaxKind.{SyntaxKind, TheVariants.{TOKEN_ELSE, TOKEN_IF, TOKEN_IN, TOKEN_INHERIT, TOKEN_LET, TOKEN_REC}}
use Rattle.rnix_kinds.specs.declared.kinds.SyntaxKind.TheVariants.{TOKEN_THEN, TOKEN_WITH, TOKEN_CUR_POS, TOKEN_OR, TOKEN_IDENT, TOKEN_ERROR, TOKEN_STRING_END}
use Rattle.rnix_kinds.specs.declared.tokenizer.rule.{Cut.Cut, PathStart.{PathStart, TheVariants.{Root as StartSlash, Relative as StartName}}}
use Rattle.rnix_kinds.specs.declared.tokenizer.rule.{PathStart.TheVariants.Home as StartTilde, Mode.{Mode, TheVariants.{Quoted, Interpolation, Path}}}
use Rattle.rnix_kinds.specs.declared.tokenizer.{rule.Change.TheVariants.Close, text.Class.{Class, TheVariants.{Name, Step, Angle}}}
use Rattle.rnix_kinds.specs.Lexical.{PathKinds.kind_of_path, Texts.{occurs_at, begins, run_end, before_pair, char_len}, Classes.{class_test, is_path, is_uri}}
use Rattle.rnix_kinds.specs.Lexical.{Plain.{plain, block_comment, word, kind_of_word}, Strings.{piece_len, content_len}, Tokens.{MayBe, opens_path, IsCutOf}}
use Rattle.rnix_kinds.{specs.{Lexical.Operators.{opening_brace, closing_brace}, SyntaxKind.is_token}, proofs.LexicalLemmas.StringsLemmas.content_len-stops}
use Rattle.rnix_kinds.proofs.LexicalLemmas.WordsLemmas.{within_from_byte, IsCharBoundary-run, IsCharBoundary-char_len, before_pair-le, before_pair-found}

-- if the rule applies, its cut is good
abbrev pub FitsWell : Option Mode → List ℕ → Option Cut → Type 0
FitsWell top text None = Unit {0}
FitsWell top text (Some cut) = IsCutOf top text cut

pub if_fits : (top : Option Mode) (text : List ℕ) (b : Bool) (x y : Option Cut) → (b ≡ true → FitsWell top text x) → (b ≡ false → FitsWell top text y)
    → FitsWell top text (cond b x y)
if_fits top text true x y holds fails = holds refl
if_fits top text false x y holds fails = fails refl

pub if_good : (top : Option Mode) (text : List ℕ) (b : Bool) (x y : Cut) → (b ≡ true → IsCutOf top text x) → (b ≡ false → IsCutOf top text y)
    → IsCutOf top text (cond b x y)
if_good top text true x y holds fails = holds refl
if_good top text false x y holds fails = fails refl

-- a kind of tokens that requires nothing of the text
abbrev pub is_free : SyntaxKind → Bool
is_free TOKEN_CUR_POS = false
is_free TOKEN_OR = false
is_free TOKEN_IDENT = false
is_free kind = is_token kind

pub free_named : (kind : SyntaxKind) (word : List ℕ) → is_free kind ≡ true → MayBe kind word
free_named TOKEN_CUR_POS word e = absurd (cc)
free_named TOKEN_OR word e = absurd (cc)
free_named TOKEN_IDENT word e = absurd (cc)
free_named kind word e = e

pub free_if : (b : Bool) (k l : SyntaxKind) → is_free k ≡ true → is_free l ≡ true → is_free (cond b k l) ≡ true
free_if true k l e f = e
free_if false k l e f = f

pub free_path : (start : PathStart) → is_free (kind_of_path start) ≡ true
free_path start = elim start as (λ s. is_free (kind_of_path s) ≡ true) [ StartSlash ↦ refl | StartName ↦ refl | StartTilde ↦ refl ]

pub path_opens : (start : PathStart) → opens_path (kind_of_path start) ≡ true
path_opens start = elim start as (λ s. opens_path (kind_of_path s) ≡ true) [ StartSlash ↦ refl | StartName ↦ refl | StartTilde ↦ refl ]

-- `${` at a position begins the rest of the text from there on
pub interpolation_next : (n : ℕ) (text : List ℕ) → occurs_at (codes "${") n text ≡ true → begins (codes "${") (drop n text) ≡ true
interpolation_next n text e =
    let here : get_or (drop n text) 0 0 ≡ get_or text n 0 = get_or-drop n text 0 0 ∙ ap (λ k. get_or text k 0) (add-zero n) in
    let one : n + 1 ≡ suc n = omega arith in
    let next : get_or (drop n text) 1 0 ≡ get_or text (suc n) 0 = get_or-drop n text 1 0 ∙ ap (λ k. get_or text k 0) one in
    rw (here, next) e

named_if : (b : Bool) (k l : SyntaxKind) (word : List ℕ) → (b ≡ true → MayBe k word) → (b ≡ false → MayBe l word) → MayBe (cond b k l) word
named_if true k l word holds fails = holds refl
named_if false k l word holds fails = fails refl

pub good_named : (top : Option Mode) (text : List ℕ) (kind : SyntaxKind) (n : ℕ) → 0 < n → IsCharBoundary text n → MayBe kind (take n text)
    → IsCutOf top text (plain kind n)
good_named top text kind n some boundary named = record { some = some; boundary = boundary; counted = tt; named = named; opener = λ e. absurd (cc) }

pub good_plain : (top : Option Mode) (text : List ℕ) (kind : SyntaxKind) (n : ℕ) → is_free kind ≡ true → 0 < n → IsCharBoundary text n
    → IsCutOf top text (plain kind n)
good_plain top text kind n free some boundary = good_named top text kind n some boundary (free_named kind (take n text) free)

-- an ASCII byte, not 0
abbrev pub is_plain_byte : ℕ → Bool
is_plain_byte b = nat_lt 0 b && nat_lt b 128

pub byte_end : (text : List ℕ) (i b : ℕ) → IsUtf8 text → is_plain_byte b ≡ true → get_or text i 0 == b ≡ true → IsCharBoundary text (i + 1)
byte_end text i b utf8 ascii e =
    let same = eqb-true (get_or text i 0) b e in
    let low : 0 < b = grind (arith, nat_tests) in
    let high : b < 128 = grind (arith, nat_tests) in
    IsCharBoundary-after_ascii text i utf8 (within_from_byte text i (omega arith)) (omega arith)

-- ASCII bytes end at a character boundary
pub occurrence_end : (bytes : List ℕ) (i : ℕ) (text : List ℕ) → IsUtf8 text → 0 < length bytes → list_all is_plain_byte bytes ≡ true
    → occurs_at bytes i text ≡ true → IsCharBoundary text (i + length bytes)
occurrence_end [] i text utf8 some ascii e = absurd (omega arith)
occurrence_end (b ∷ []) i text utf8 some ascii e = byte_end text i b utf8 (and_parts (is_plain_byte b) true ascii).0 e
occurrence_end (b ∷ c ∷ bytes) i text utf8 some ascii e =
    let more = occurrence_end (c ∷ bytes) (suc i) text utf8 (omega arith) (and_parts (is_plain_byte b) _ ascii).1 (and_parts _ _ e).1 in
    let same : suc i + length (c ∷ bytes) ≡ i + length (b ∷ c ∷ bytes) = omega arith in
    subst (IsCharBoundary text) same more

-- a run ends at a character boundary
pub run_boundary : (class : Class) (i : ℕ) (text : List ℕ) → IsUtf8 text → IsCharBoundary text i → IsCharBoundary text (run_end (class_test class) i text)
run_boundary class i text utf8 start =
    IsCharBoundary-from_rest text i _ start.0 (IsCharBoundary-run class (drop i text) (IsUtf8-drop text i utf8 start))

pub run_some : (p : ℕ → Bool) (text : List ℕ) → 0 < length text → p (get_or text 0 0) ≡ true → 0 < prefix_len p text
run_some p [] some e = absurd (omega arith)
run_some p (x ∷ text) some e = rw e (omega arith)

pub alphabetic_uri : (b : ℕ) → is_ascii_alphabetic b ≡ true → is_uri b ≡ true
alphabetic_uri b e = grind (arith, nat_tests)

pub letter_name : (b : ℕ) → (is_ascii_alphabetic b || b == 95) ≡ true → class_test Name b ≡ true
letter_name b e = grind (arith, nat_tests)

differs : (word : List ℕ) → word ≡ codes "or" → bytes_eq word (codes "or") ≡ false → ⊥
differs word same e = let f = rw same at e in cc

-- only the word `or` is a TOKEN_OR
pub word_named : (word : List ℕ) → MayBe (kind_of_word word) word
word_named word =
    named_if (bytes_eq word (codes "assert")) _ _ word (λ e. refl) (λ e.
    named_if (bytes_eq word (codes "else")) TOKEN_ELSE _ word (λ e. refl) (λ e.
    named_if (bytes_eq word (codes "if")) TOKEN_IF _ word (λ e. refl) (λ e.
    named_if (bytes_eq word (codes "in")) TOKEN_IN _ word (λ e. refl) (λ e.
    named_if (bytes_eq word (codes "inherit")) TOKEN_INHERIT _ word (λ e. refl) (λ e.
    named_if (bytes_eq word (codes "let")) TOKEN_LET _ word (λ e. refl) (λ e.
    named_if (bytes_eq word (codes "or")) TOKEN_OR _ word (λ e. (bytes_eq-Decides word (codes "or")).0 e) (λ no_or.
    named_if (bytes_eq word (codes "rec")) TOKEN_REC _ word (λ e. refl) (λ e.
    named_if (bytes_eq word (codes "then")) TOKEN_THEN _ word (λ e. refl) (λ e.
    named_if (bytes_eq word (codes "with")) TOKEN_WITH TOKEN_IDENT word (λ e. refl) (λ e.
    λ same. differs word same no_or))))))))))

pub exponent_mark : (text : List ℕ) (i : ℕ) → IsUtf8 text → (get_or text i 0 == 101 || get_or text i 0 == 69) ≡ true → IsCharBoundary text (i + 1)
exponent_mark text i utf8 e =
    let low : 0 < get_or text i 0 = grind (arith, nat_tests) in
    let high : get_or text i 0 < 128 = grind (arith, nat_tests) in
    IsCharBoundary-after_ascii text i utf8 (within_from_byte text i low) high

pub exponent_sign : (text : List ℕ) (i : ℕ) → IsUtf8 text → (get_or text i 0 == 43 || get_or text i 0 == 45) ≡ true → IsCharBoundary text (i + 1)
exponent_sign text i utf8 e =
    let low : 0 < get_or text i 0 = grind (arith, nat_tests) in
    let high : get_or text i 0 < 128 = grind (arith, nat_tests) in
    IsCharBoundary-after_ascii text i utf8 (within_from_byte text i low) high

-- a comment ends after its `*/`, or with the text
block_boundary : (text : List ℕ) → IsUtf8 text → ¬ (before_pair 42 47 (drop 2 text) ≡ length (drop 2 text))
    → IsCharBoundary text (before_pair 42 47 (drop 2 text) + 4)
block_boundary text utf8 found =
    let n = before_pair 42 47 (drop 2 text) in
    let inside : n < length (drop 2 text) = omega (arith, before_pair-le 42 47 (drop 2 text)) in
    let close : get_or text (n + 3) 0 ≡ 47 =
    (let same : 2 + (n + 1) ≡ n + 3 = omega arith in rw (← same, ← get_or-drop 2 text (n + 1) 0) (before_pair-found 42 47 (drop 2 text) inside)) in
    let end : n + 3 + 1 ≡ n + 4 = omega arith in
    subst (IsCharBoundary text) end (IsCharBoundary-after_ascii text (n + 3) utf8 (within_from_byte text (n + 3) (omega arith)) (omega arith))

pub block_good : (top : Option Mode) (text : List ℕ) → IsUtf8 text → 0 < length text → IsCutOf top text (block_comment (before_pair 42 47 (drop 2 text)) text)
block_good top text utf8 some =
    if_good top text (before_pair 42 47 (drop 2 text) == length (drop 2 text)) _ _
    (λ e. good_plain top text _ _ refl some (IsCharBoundary-end text))
    (λ e. good_plain top text _ _ refl (omega arith) (block_boundary text utf8 (false-eqb _ _ (sym e))))

pub opening_brace_good : (top : Option Mode) (text : List ℕ) → IsCharBoundary text 1 → IsCutOf top text (opening_brace top)
opening_brace_good None text end = good_plain None text _ 1 refl (omega arith) end
opening_brace_good (Some (Interpolation n)) text end =
    record { some = omega arith; boundary = end; counted = omega arith; named = refl; opener = λ e. absurd (cc) }
opening_brace_good (Some (Quoted m)) text end = good_plain _ text _ 1 refl (omega arith) end
opening_brace_good (Some (Path k)) text end = good_plain _ text _ 1 refl (omega arith) end

pub closing_brace_good : (top : Option Mode) (text : List ℕ) → IsCharBoundary text 1 → IsCutOf top text (closing_brace top)
closing_brace_good None text end = good_plain None text _ 1 refl (omega arith) end
closing_brace_good (Some (Interpolation zero)) text end = record { some = omega arith; boundary = end; counted = tt; named = refl; opener = λ e. absurd (cc) }
closing_brace_good (Some (Interpolation (suc n))) text end =
    record { some = omega arith; boundary = end; counted = omega arith; named = refl; opener = λ e. absurd (cc) }
closing_brace_good (Some (Quoted m)) text end = good_plain _ text _ 1 refl (omega arith) end
closing_brace_good (Some (Path k)) text end = good_plain _ text _ 1 refl (omega arith) end

path_not_zero : (b : ℕ) → is_path b ≡ true → 0 < b
path_not_zero b e = grind (arith, nat_tests)

pub path_some : (text : List ℕ) (from : ℕ) → is_path (get_or text from 0) ≡ true → 0 < prefix_len is_path (drop from text)
path_some text from e =
    let there : from < length text = within_from_byte text from (path_not_zero (get_or text from 0) e) in
    let same : get_or (drop from text) 0 0 ≡ get_or text from 0 = rw (get_or-drop from text 0 0, add-zero) in
    run_some is_path (drop from text) (omega (arith, length-drop from text)) (ap is_path same ∙ e)

pub slash_path : (b : ℕ) → b == 47 ≡ true → is_path b ≡ true
slash_path b e = grind (arith, nat_tests)

pub slash_is_path : (b : ℕ) (p q r : Bool) → ((b == 47 && (p && q)) || (b == 47 && r)) ≡ true → is_path b ≡ true
slash_is_path b p q r e = grind (arith, nat_tests)

pub step_path : (b : ℕ) → class_test Step b ≡ true → is_path b ≡ true
step_path b e = (and_parts (is_path b) _ e).0

pub positive_from : (n : ℕ) → nat_lt 0 n ≡ true → 0 < n
positive_from n e = grind (arith, nat_tests)

pub none_from : (n : ℕ) → nat_lt 0 n ≡ false → n ≡ 0
none_from n e = grind (arith, nat_tests)

pub or_right : (a b : Bool) → a ≡ false → (a || b) ≡ true → b ≡ true
or_right true b e h = absurd (cc)
or_right false b e h = h

-- `~` and the next character are a good cut
pub tilde_good : (top : Option Mode) (text : List ℕ) → IsUtf8 text → get_or text 0 0 == 126 ≡ true
    → IsCutOf top text (plain TOKEN_ERROR (cond (length text == 1) 1 (1 + char_len (drop 1 text))))
tilde_good top text utf8 e =
    let after = byte_end text 0 126 utf8 refl e in
    elim (length text == 1) as (λ b. (length text == 1) ≡ b → IsCutOf top text (plain TOKEN_ERROR (cond b 1 (1 + char_len (drop 1 text))))) [
      | true ↦ λ s. good_plain top text _ 1 refl (omega arith) after
      | false ↦ λ s. good_plain top text _ _ refl (omega arith) (IsCharBoundary-from_rest text 1 _ after.0
          (IsCharBoundary-char_len (drop 1 text) (IsUtf8-drop text 1 utf8 after) (omega (arith, length-drop 1 text, after.0, false-eqb _ _ (sym s)))))
    ] refl

angle_ascii : (b : ℕ) → class_test Angle b ≡ true → (0 < b) × (b < 128)
angle_ascii b e = (grind (arith, nat_tests), grind (arith, nat_tests))

angle_end : (b : ℕ) → b == 62 ≡ true → is_path b ≡ true → ⊥
angle_end b e p = grind (arith, nat_tests)

angle_open : (b : ℕ) → b == 60 ≡ true → class_test Angle b ≡ true
angle_open b e = grind (arith, nat_tests)

-- if `>` comes right after the run of path characters and `<` that `<` begins, an ASCII byte other than 0 follows the path characters after that `<`
search_byte : (text : List ℕ) → 0 < length text → get_or text 0 0 == 60 ≡ true → get_or text (prefix_len (class_test Angle) text) 0 == 62 ≡ true
    → (0 < get_or text (run_end is_path 1 text) 0) × (get_or text (run_end is_path 1 text) 0 < 128)
search_byte text some first last =
    let n = prefix_len (class_test Angle) text in
    let end = run_end is_path 1 text in
    let wide = run_some (class_test Angle) text some (angle_open (get_or text 0 0) first) in
    elim (cases_lt end n) [
      | inl short ↦ angle_ascii (get_or text end 0) (prefix_len_passes (class_test Angle) text end 0 short)
      | inr long ↦ elim (cases_lt n end) [
        | inl past ↦ (let index_is : 1 + (n - 1) ≡ n = omega arith in
            absurd (angle_end (get_or text n 0) last (rw (get_or-drop 1 text (n - 1) 0, index_is) at
            (prefix_len_passes is_path (drop 1 text) (n - 1) 0 (omega arith)))))
        | inr not_past ↦ (let same : end ≡ n = omega arith in let is = eqb-true (get_or text n 0) 62 last in rw (same, is) (omega arith, omega arith))
      ]
    ]

pub search_boundary : (text : List ℕ) → IsUtf8 text → 0 < length text → get_or text 0 0 == 60 ≡ true
    → get_or text (prefix_len (class_test Angle) text) 0 == 62 ≡ true → IsCharBoundary text (run_end is_path 1 text + 1)
search_boundary text utf8 some first last =
    let byte = search_byte text some first last in
    IsCharBoundary-after_ascii text _ utf8 (within_from_byte text _ byte.0) byte.1

-- content ends before an ASCII byte
stop_ascii : (m : Bool) (text : List ℕ) → piece_len m text ≡ 0 → get_or text 0 0 < 128
stop_ascii true text e = grind (arith, nat_tests)
stop_ascii false text e = grind (arith, nat_tests)

pub content_boundary : (m : Bool) (text : List ℕ) → content_len m text < length text → IsCharBoundary text (content_len m text)
content_boundary m text before =
    let low = stop_ascii m (drop (content_len m text) text) (content_len-stops m text before) in
    let same : get_or (drop (content_len m text) text) 0 0 ≡ get_or text (content_len m text) 0 = rw (get_or-drop (content_len m text) text 0 0, add-zero) in
    IsCharBoundary-before_ascii text _ before (omega arith)

quote_second : (text : List ℕ) → piece_len true text ≡ 0 → begins (codes "${") text ≡ false → get_or text 1 0 == 39 ≡ true
quote_second text e t = grind (arith, nat_tests)

quote_first : (text : List ℕ) → piece_len false text ≡ 0 → begins (codes "${") text ≡ false → get_or text 0 0 == 34 ≡ true
quote_first text e t = grind (arith, nat_tests)

pub closer_cut : (m : Bool) (top : Option Mode) (text : List ℕ) → IsUtf8 text → piece_len m text ≡ 0 → begins (codes "${") text ≡ false
    → IsCutOf top text (record { kind = TOKEN_STRING_END; len = cond m 2 1; change = Close })
closer_cut true top text utf8 stop t = record {
  some = omega arith;
  boundary = byte_end text 1 39 utf8 refl (quote_second text stop t);
  counted = tt;
  named = refl;
  opener = λ e. absurd (cc);
}
closer_cut false top text utf8 stop t = record {
  some = omega arith;
  boundary = byte_end text 0 34 utf8 refl (quote_first text stop t);
  counted = tt;
  named = refl;
  opener = λ e. absurd (cc);
}
