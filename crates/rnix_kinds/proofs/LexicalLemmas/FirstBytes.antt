-- Which rules may apply, by the first bytes of a text.
use Rattle.std.proofs.Common.{◌≡◌, ℕ, zero, suc, ◌<◌, Bool, true, false, ◌&&◌, ◌||◌, ◌==◌, nat_lt, cond, List, [], ◌∷◌, length, get_or, take, drop, Option}
use Rattle.std.proofs.{Common.{Some, None, refl, sym, ◌∙◌, inl, inr, arith}, lemmas.{Bool.{cases_lt, and_parts, Decides.nat_tests}, List.get_or_past}}
use Rattle.std.{proofs.lemmas.List.Sums.{prefix_len_passes, prefix_len_stops}, specs.{List.prefix_len, Char.{is_whitespace, is_ascii_alphabetic}}}
use Rattle.{std.specs.Char.is_ascii_digit, rnix_kinds.specs.declared.{kinds.SyntaxKind.TheVariants.{TOKEN_COMMENT, TOKEN_WHITESPACE}, tokenizer.rule.Cut.Cut}}
use Rattle.rnix_kinds.specs.{declared.tokenizer.{rule.Mode.Mode, text.Class.TheVariants.{Name, Step, Scheme, Line}}, Lexical.Classes.{class_test, is_path}}
use Rattle.rnix_kinds.specs.Lexical.{Texts.{before_pair, space_len, run_end}, Plain.{plain, block_comment, space, kind_of_word, comment, uri, word}}
use Rattle.rnix_kinds.specs.Lexical.{Plain.{begins_word, goes_past_name}, Paths.{slash, home, relative, search_path, goes_on_as_path}, Numbers.number}
use Rattle.rnix_kinds.specs.Lexical.{Operators.{ellipsis, opener, opening_brace, closing_brace, brace, operator}, Tokens.{first_that_fits, normal_rules}}
use Rattle.rnix_kinds.{specs.Lexical.Tokens.{one_error, normal_cut}, proofs.LexicalLemmas.WordsLemmas.{space_len-stop, space_len-step}}

no_cut : (a b : Bool) (cut : Cut) → b ≡ false → cond (a && b) (Some cut) None ≡ None
no_cut true b cut e = rw e refl
no_cut false b cut e = refl

no_middle : (a b c : Bool) (cut : Cut) → b ≡ false → cond (a && b && c) (Some cut) None ≡ None
no_middle true b c cut e = rw e refl
no_middle false b c cut e = refl

-- if `stop` is not in `q`, and the byte after a run of `q` is neither `stop` nor in `p`, the byte after a run of `p` is not `stop` either
stops_elsewhere : (p q : ℕ → Bool) (text : List ℕ) (stop : ℕ) → q stop ≡ false → p (get_or text (prefix_len q text) 0) ≡ false
    → ¬ (get_or text (prefix_len q text) 0 ≡ stop)
    → ¬ (get_or text (prefix_len p text) 0 ≡ stop)
stops_elsewhere p q text stop out ended other is =
    elim (cases_lt (prefix_len p text) (prefix_len q text)) [
      | inl short ↦ (let e = rw is at (prefix_len_passes q text (prefix_len p text) 0 short) in cc)
      | inr long ↦ elim (cases_lt (prefix_len q text) (prefix_len p text)) [
        | inl past ↦ (let e = prefix_len_passes p text (prefix_len q text) 0 past in cc)
        | inr not_past ↦ (let same : prefix_len p text ≡ prefix_len q text = omega arith in other (rw same at is))
      ]
    ]

-- the byte after a run is not in it
run_ends : (p : ℕ → Bool) (text : List ℕ) → p 0 ≡ false → p (get_or text (prefix_len p text) 0) ≡ false
run_ends p text out =
    elim (cases_lt (prefix_len p text) (length text)) [
      | inl within ↦ prefix_len_stops p text 0 within
      | inr past ↦ rw (get_or_past text (prefix_len p text) 0 past) out
    ]

name_ends : (text : List ℕ) → class_test Name (get_or text (prefix_len (class_test Name) text) 0) ≡ false
name_ends text = run_ends (class_test Name) text refl

step_ends : (b : ℕ) → class_test Name b ≡ false → goes_past_name b ≡ false → (class_test Step b ≡ false) × ¬ (b ≡ 47)
step_ends b e out = (grind (arith, nat_tests), λ f. grind (arith, nat_tests))

scheme_ends : (b : ℕ) → class_test Name b ≡ false → goes_past_name b ≡ false → (class_test Scheme b ≡ false) × ¬ (b ≡ 58)
scheme_ends b e out = (grind (arith, nat_tests), λ f. grind (arith, nat_tests))

differs : (a b : ℕ) → ¬ (a ≡ b) → (a == b) ≡ false
differs a b e = grind (arith, nat_tests)

-- a name that nothing continues begins no path
pub relative-None-named : (text : List ℕ) → goes_past_name (get_or text (prefix_len (class_test Name) text) 0) ≡ false → relative text ≡ None
relative-None-named text out =
    let ended = step_ends _ (name_ends text) out in
    let stop = stops_elsewhere (class_test Step) (class_test Name) text 47 refl ended.0 ended.1 in
    let n = prefix_len (class_test Step) text in
    no_cut (nat_lt 0 n) (goes_on_as_path n text) _ (rw (differs (get_or text n 0) 47 stop) refl)

-- a name that nothing continues begins no URI
pub uri-None-named : (text : List ℕ) → goes_past_name (get_or text (prefix_len (class_test Name) text) 0) ≡ false → uri text ≡ None
uri-None-named text out =
    let ended = scheme_ends _ (name_ends text) out in
    let stop = stops_elsewhere (class_test Scheme) (class_test Name) text 58 refl ended.0 ended.1 in
    no_middle _ _ _ _ (differs _ _ stop)

no_scheme : (b : ℕ) → class_test Step b ≡ false → class_test Scheme b ≡ false
no_scheme b out = grind (arith, nat_tests)

-- a text without `:` after its path characters other than `/` begins no URI
pub uri-None-step : (text : List ℕ) → ¬ (get_or text (prefix_len (class_test Step) text) 0 ≡ 58) → uri text ≡ None
uri-None-step text other =
    let ended = no_scheme (get_or text (prefix_len (class_test Step) text) 0) (run_ends (class_test Step) text refl) in
    no_middle _ _ _ _ (differs _ _ (stops_elsewhere (class_test Scheme) (class_test Step) text 58 refl ended other))

one_step : (text : List ℕ) (n : ℕ) → prefix_len (class_test Step) text ≡ n → is_path (get_or text 1 0) ≡ false → (nat_lt 0 n && goes_on_as_path n text) ≡ false
one_step text zero e out = refl
one_step text (suc zero) e out =
    let no_slash : (get_or text 1 0 == 47) ≡ false = grind (arith, nat_tests) in
    rw no_slash refl
one_step text (suc (suc n)) e out =
    let passes = prefix_len_passes (class_test Step) text 1 0 (omega arith) in
    let path = (and_parts (is_path (get_or text 1 0)) _ passes).0 in
    cc

-- a text whose second byte is no path character begins no relative path
pub relative-None-short : (text : List ℕ) → is_path (get_or text 1 0) ≡ false → relative text ≡ None
relative-None-short text out = rw (one_step text _ refl out) refl

pub ellipsis-None-short : (text : List ℕ) → is_path (get_or text 1 0) ≡ false → ellipsis text ≡ None
ellipsis-None-short text out =
    let no_dot : (get_or text 1 0 == 46) ≡ false = grind (arith, nat_tests) in
    no_cut (get_or text 0 0 == 46) (get_or text 1 0 == 46 && get_or text 2 0 == 46) _ (rw no_dot refl)

-- of three rules, the first two do not apply and the third does
pub third_fits : (a b c : Option Cut) (rest : List (Option Cut)) (last cut : Cut) → a ≡ None → b ≡ None → c ≡ Some cut
    → cut ≡ first_that_fits (a ∷ b ∷ c ∷ rest) last
third_fits a b c rest last cut e f g = rw (e, f, g) refl

pub none_of_three : (a b c : Option Cut) (rest : List (Option Cut)) (last : Cut) → a ≡ None → b ≡ None → c ≡ None
    → first_that_fits rest last ≡ first_that_fits (a ∷ b ∷ c ∷ rest) last
none_of_three a b c rest last e f g = rw (e, f, g) refl

-- rules that do not apply may be left out
data Leaves : List (Option Cut) → List (Option Cut) → Type 0 where
  none : Leaves [] []
  passed : (rule : Option Cut) (rules kept : List (Option Cut)) → rule ≡ None → Leaves rules kept → Leaves (rule ∷ rules) kept
  stays : (rule : Option Cut) (rules kept : List (Option Cut)) → Leaves rules kept → Leaves (rule ∷ rules) (rule ∷ kept)
  ends : (rule : Option Cut) (cut : Cut) (rules : List (Option Cut)) → Some cut ≡ rule → Leaves (rule ∷ rules) (rule ∷ [])

stays_first : (rule : Option Cut) (rules kept : List (Option Cut)) (last : Cut) → first_that_fits rules last ≡ first_that_fits kept last
    → first_that_fits (rule ∷ rules) last ≡ first_that_fits (rule ∷ kept) last
stays_first None rules kept last e = e
stays_first (Some cut) rules kept last e = refl

leaves_first : (rules kept : List (Option Cut)) (last : Cut) → Leaves rules kept → first_that_fits rules last ≡ first_that_fits kept last
leaves_first _ _ last none = refl
leaves_first _ _ last (passed rule rules kept e more) = rw e (leaves_first rules kept last more)
leaves_first _ _ last (stays rule rules kept more) = stays_first rule rules kept last (leaves_first rules kept last more)
leaves_first _ _ last (ends rule cut rules e) = rw (← e) refl

-- a rule does not apply to a text that begins with another byte than its tokens do
module _ (text : List ℕ) (b : ℕ) (is : get_or text 0 0 ≡ b) where
  space_none : b < 128 → is_whitespace b ≡ false → space text ≡ None
  space_none low out = rw (space_len-stop text (rw is low) (rw is out)) refl

  comment_none : (b == 35) ≡ false → (b == 47) ≡ false → comment text ≡ None
  comment_none e f = rw (is, e, f) refl

  ellipsis_none : (b == 46) ≡ false → ellipsis text ≡ None
  ellipsis_none e = rw (is, e) refl

  slash_none : (b == 47) ≡ false → slash text ≡ None
  slash_none e = rw (is, e) refl

  home_none : (b == 126) ≡ false → home text ≡ None
  home_none e = rw (is, e) refl

  search_none : (b == 60) ≡ false → search_path text ≡ None
  search_none e = rw (is, e) refl

  uri_none : is_ascii_alphabetic b ≡ false → uri text ≡ None
  uri_none e = rw (is, e) refl

  word_none : begins_word b ≡ false → word text ≡ None
  word_none e = rw (is, e) refl

  number_none : is_ascii_digit b ≡ false → (b == 46) ≡ false → number text ≡ None
  number_none e f = rw (is, e, f) refl

  opener_none : (b == 34) ≡ false → (b == 36) ≡ false → (b == 39) ≡ false → opener text ≡ None
  opener_none e f g = rw (is, e, f, g) refl

  brace_none : (top : Option Mode) → (b == 123) ≡ false → (b == 125) ≡ false → brace top text ≡ None
  brace_none top e f = rw (is, e, f) refl

space_some : (text : List ℕ) → get_or text 0 0 < 128 → is_whitespace (get_or text 0 0) ≡ true → nat_lt 0 (space_len text) ≡ true
space_some [] low white = absurd (cc)
space_some (b ∷ text) low white = let more = space_len-step b text low white in grind (arith, nat_tests)

no_run : (p : ℕ → Bool) (text : List ℕ) → p (get_or text 0 0) ≡ false → prefix_len p text ≡ 0
no_run p [] out = refl
no_run p (b ∷ text) out = rw out refl

relative_none : (text : List ℕ) (b : ℕ) → get_or text 0 0 ≡ b → class_test Step b ≡ false → relative text ≡ None
relative_none text b is e = rw (no_run (class_test Step) text (rw is e)) refl

normal_from : (top : Option Mode) (text : List ℕ) (kept : List (Option Cut)) → Leaves (normal_rules top text) kept
    → first_that_fits kept (one_error text) ≡ normal_cut top text
unfolding normal_cut
normal_from top text kept leaves = sym (leaves_first (normal_rules top text) kept (one_error text) leaves)

-- a digit, `.`, `+` or `-`
abbrev pub begins_step : ℕ → Bool
begins_step b = is_ascii_digit b || b == 46 || b == 43 || b == 45

-- a quote, a dollar sign or a double quote
abbrev pub begins_opener : ℕ → Bool
begins_opener b = b == 34 || b == 36 || b == 39

-- a control character, a blank, or no character of ASCII
abbrev pub is_invisible : ℕ → Bool
is_invisible b = nat_lt b 33 || nat_lt 126 b

word_low : (b : ℕ) → begins_word b ≡ true → b < 128
word_low b e = grind (arith, nat_tests)

word_visible : (b : ℕ) → begins_word b ≡ true → is_whitespace b ≡ false
word_visible b e = grind (arith, nat_tests)

visible : (b : ℕ) → 32 < b → b < 128 → is_whitespace b ≡ false
visible b low high = grind (arith, nat_tests)

-- the cut of a text, by its first byte
module _ (top : Option Mode) (text : List ℕ) (b : ℕ) (is : get_or text 0 0 ≡ b) where
  pub normal-blank : b < 128 → is_whitespace b ≡ true → plain TOKEN_WHITESPACE (space_len text) ≡ normal_cut top text
  unfolding normal_cut
  normal-blank low white = rw (space_some text (rw is low) (rw is white)) refl

  pub normal-named : begins_word b ≡ true → first_that_fits (relative text ∷ uri text ∷ word text ∷ []) (one_error text) ≡ normal_cut top text
  normal-named e =
      normal_from top text (relative text ∷ uri text ∷ word text ∷ [])
      (passed _ _ _ (space_none text b is (word_low b e) (word_visible b e))
      (passed _ _ _ (comment_none text b is (grind (arith, nat_tests)) (grind (arith, nat_tests)))
      (passed _ _ _ (ellipsis_none text b is (grind (arith, nat_tests)))
      (passed _ _ _ (slash_none text b is (grind (arith, nat_tests)))
      (passed _ _ _ (home_none text b is (grind (arith, nat_tests)))
      (stays (relative text) _ _
      (passed _ _ _ (search_none text b is (grind (arith, nat_tests)))
      (stays (uri text) _ _
      (ends (word text) (plain (kind_of_word (take (run_end (class_test Name) 0 text) text)) (run_end (class_test Name) 0 text)) _ (rw (is, e) refl))))))))))

  pub normal-stepped : 42 < b → b < 58 → ¬ (b ≡ 47) → first_that_fits (ellipsis text ∷ relative text ∷ number text ∷ operator text ∷ [])
      (one_error text) ≡ normal_cut top text
  normal-stepped low high other =
      normal_from top text (ellipsis text ∷ relative text ∷ number text ∷ operator text ∷ [])
      (passed _ _ _ (space_none text b is (omega arith) (visible b (omega arith) (omega arith)))
      (passed _ _ _ (comment_none text b is (grind (arith, nat_tests)) (grind (arith, nat_tests)))
      (stays (ellipsis text) _ _
      (passed _ _ _ (slash_none text b is (grind (arith, nat_tests)))
      (passed _ _ _ (home_none text b is (grind (arith, nat_tests)))
      (stays (relative text) _ _
      (passed _ _ _ (search_none text b is (grind (arith, nat_tests)))
      (passed _ _ _ (uri_none text b is (grind (arith, nat_tests)))
      (passed _ _ _ (word_none text b is (grind (arith, nat_tests)))
      (stays (number text) _ _
      (passed _ _ _ (opener_none text b is (grind (arith, nat_tests)) (grind (arith, nat_tests)) (grind (arith, nat_tests)))
      (passed _ _ _ (brace_none text b is top (grind (arith, nat_tests)) (grind (arith, nat_tests)))
      (stays (operator text) [] [] none)))))))))))))

  pub normal-opened : begins_opener b ≡ true → first_that_fits (opener text ∷ operator text ∷ []) (one_error text) ≡ normal_cut top text
  normal-opened e =
      let low : 32 < b = grind (arith, nat_tests) in
      let high : b < 128 = grind (arith, nat_tests) in
      normal_from top text (opener text ∷ operator text ∷ [])
      (passed _ _ _ (space_none text b is high (visible b low high))
      (passed _ _ _ (comment_none text b is (grind (arith, nat_tests)) (grind (arith, nat_tests)))
      (passed _ _ _ (ellipsis_none text b is (grind (arith, nat_tests)))
      (passed _ _ _ (slash_none text b is (grind (arith, nat_tests)))
      (passed _ _ _ (home_none text b is (grind (arith, nat_tests)))
      (passed _ _ _ (relative_none text b is (grind (arith, nat_tests)))
      (passed _ _ _ (search_none text b is (grind (arith, nat_tests)))
      (passed _ _ _ (uri_none text b is (grind (arith, nat_tests)))
      (passed _ _ _ (word_none text b is (grind (arith, nat_tests)))
      (passed _ _ _ (number_none text b is (grind (arith, nat_tests)) (grind (arith, nat_tests)))
      (stays (opener text) _ _
      (passed _ _ _ (brace_none text b is top (grind (arith, nat_tests)) (grind (arith, nat_tests)))
      (stays (operator text) [] [] none)))))))))))))

  -- after white space, only operators are left for bytes with which no other rule begins
  only_operator : begins_word b ≡ false → begins_step b ≡ false → (b == 34) ≡ false → (b == 36) ≡ false → (b == 39) ≡ false
      → (b == 35) ≡ false → (b == 47) ≡ false → (b == 60) ≡ false → (b == 126) ≡ false → (b == 123) ≡ false → (b == 125) ≡ false
      → Leaves (comment text ∷ ellipsis text ∷ slash text ∷ home text ∷ relative text ∷ search_path text ∷ uri text ∷ word text ∷ number text ∷ opener text
      ∷ brace top text ∷ operator text ∷ []) (operator text ∷ [])
  only_operator not_word not_step double dollar quote hash slashed angle tilde left right =
      passed _ _ _ (comment_none text b is hash slashed)
      (passed _ _ _ (ellipsis_none text b is (grind (arith, nat_tests)))
      (passed _ _ _ (slash_none text b is slashed)
      (passed _ _ _ (home_none text b is tilde)
      (passed _ _ _ (relative_none text b is (grind (arith, nat_tests)))
      (passed _ _ _ (search_none text b is angle)
      (passed _ _ _ (uri_none text b is (grind (arith, nat_tests)))
      (passed _ _ _ (word_none text b is not_word)
      (passed _ _ _ (number_none text b is (grind (arith, nat_tests)) (grind (arith, nat_tests)))
      (passed _ _ _ (opener_none text b is double dollar quote)
      (passed _ _ _ (brace_none text b is top left right)
      (stays (operator text) [] [] none)))))))))))

  pub normal-symbol : 32 < b → b < 127 → begins_word b ≡ false → begins_step b ≡ false → (b == 34) ≡ false → (b == 36) ≡ false → (b == 39) ≡ false
      → (b == 35) ≡ false → (b == 47) ≡ false → (b == 60) ≡ false → (b == 126) ≡ false → (b == 123) ≡ false → (b == 125) ≡ false
      → first_that_fits (operator text ∷ []) (one_error text) ≡ normal_cut top text
  normal-symbol low high not_word not_step double dollar quote hash slashed angle tilde left right =
      normal_from top text (operator text ∷ [])
      (passed _ _ _ (space_none text b is (omega arith) (visible b low (omega arith)))
      (only_operator not_word not_step double dollar quote hash slashed angle tilde left right))

  pub normal-other : is_invisible b ≡ true → first_that_fits (space text ∷ operator text ∷ []) (one_error text) ≡ normal_cut top text
  normal-other e =
      normal_from top text (space text ∷ operator text ∷ [])
      (stays (space text) _ _
      (only_operator (grind (arith, nat_tests)) (grind (arith, nat_tests)) (grind (arith, nat_tests)) (grind (arith, nat_tests)) (grind (arith, nat_tests))
      (grind (arith, nat_tests)) (grind (arith, nat_tests))
      (grind (arith, nat_tests)) (grind (arith, nat_tests)) (grind (arith, nat_tests)) (grind (arith, nat_tests))))

-- the cut of a text, if only one rule begins with its first byte
module _ (top : Option Mode) (text : List ℕ) where
  no_space : (b : ℕ) → get_or text 0 0 ≡ b → 32 < b → b < 128 → space text ≡ None
  no_space b is low high = space_none text b is high (visible b low high)

  pub normal-line_comment : get_or text 0 0 ≡ 35 → plain TOKEN_COMMENT (run_end (class_test Line) 0 text) ≡ normal_cut top text
  unfolding normal_cut
  normal-line_comment is = rw (no_space 35 is (omega arith) (omega arith), is) refl

  pub normal-block_comment : get_or text 0 0 ≡ 47 → get_or text 1 0 ≡ 42 → block_comment (before_pair 42 47 (drop 2 text)) text ≡ normal_cut top text
  unfolding normal_cut
  normal-block_comment is next = rw (no_space 47 is (omega arith) (omega arith), is, next) refl

  pub normal-slash : (cut : Cut) → get_or text 0 0 ≡ 47 → ¬ (get_or text 1 0 ≡ 42) → Some cut ≡ slash text → cut ≡ normal_cut top text
  normal-slash cut is next e =
      let other : comment text ≡ None = rw (is, differs (get_or text 1 0) 42 next) refl in
      rw (← e) refl ∙ normal_from top text (slash text ∷ [])
      (passed _ _ _ (no_space 47 is (omega arith) (omega arith))
      (passed _ _ _ other
      (passed _ _ _ (ellipsis_none text 47 is refl)
      (ends (slash text) cut _ e))))

  pub normal-home : (cut : Cut) → get_or text 0 0 ≡ 126 → Some cut ≡ home text → cut ≡ normal_cut top text
  normal-home cut is e =
      rw (← e) refl ∙ normal_from top text (home text ∷ [])
      (passed _ _ _ (no_space 126 is (omega arith) (omega arith))
      (passed _ _ _ (comment_none text 126 is refl refl)
      (passed _ _ _ (ellipsis_none text 126 is refl)
      (passed _ _ _ (slash_none text 126 is refl)
      (ends (home text) cut _ e)))))

  pub normal-angled : get_or text 0 0 ≡ 60 → first_that_fits (search_path text ∷ operator text ∷ []) (one_error text) ≡ normal_cut top text
  normal-angled is =
      normal_from top text (search_path text ∷ operator text ∷ [])
      (passed _ _ _ (no_space 60 is (omega arith) (omega arith))
      (passed _ _ _ (comment_none text 60 is refl refl)
      (passed _ _ _ (ellipsis_none text 60 is refl)
      (passed _ _ _ (slash_none text 60 is refl)
      (passed _ _ _ (home_none text 60 is refl)
      (passed _ _ _ (relative_none text 60 is refl)
      (stays (search_path text) _ _
      (passed _ _ _ (uri_none text 60 is refl)
      (passed _ _ _ (word_none text 60 is refl)
      (passed _ _ _ (number_none text 60 is refl refl)
      (passed _ _ _ (opener_none text 60 is refl refl refl)
      (passed _ _ _ (brace_none text 60 is top refl refl)
      (stays (operator text) [] [] none)))))))))))))

  pub normal-opening_brace : get_or text 0 0 ≡ 123 → opening_brace top ≡ normal_cut top text
  unfolding normal_cut
  normal-opening_brace is = rw (no_space 123 is (omega arith) (omega arith), relative_none text 123 is refl, is) refl

  pub normal-closing_brace : get_or text 0 0 ≡ 125 → closing_brace top ≡ normal_cut top text
  unfolding normal_cut
  normal-closing_brace is = rw (no_space 125 is (omega arith) (omega arith), relative_none text 125 is refl, is) refl
