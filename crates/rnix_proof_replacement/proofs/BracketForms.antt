-- The first byte, the length and the change of a bracket outside strings and paths.
use Rattle.std.proofs.Common.{◌≡◌, ℕ, zero, suc, ◌+◌, Bool, true, false, not, ◌&&◌, ◌||◌, ◌==◌, nat_lt, List, [], ◌∷◌, length, get_or, take, drop, refl, sym}
use Rattle.std.proofs.Common.{ap}
use Rattle.std.proofs.Common.{Option, Some, None, subst, arith, cond}
use Rattle.std.proofs.lemmas.Bool.{and_parts, Decides.nat_tests, true≢false}
use Rattle.std.specs.{Prelude.codes, List.{prefix_len, list_all}, Char.{is_ascii_digit, is_ascii_alphabetic}, Str.bytes_eq}
use Rattle.rnix_kinds.specs.declared.kinds.SyntaxKind.{SyntaxKind}
use Rattle.rnix_kinds.specs.declared.kinds.SyntaxKind.TheVariants.{TOKEN_ELSE, TOKEN_ERROR, TOKEN_FLOAT, TOKEN_IF, TOKEN_IN, TOKEN_INHERIT, TOKEN_LET, TOKEN_OR}
use Rattle.rnix_kinds.specs.declared.kinds.SyntaxKind.TheVariants.{TOKEN_PATH_SEARCH, TOKEN_REC, TOKEN_THEN, TOKEN_WITH}
use Rattle.rnix_kinds.specs.declared.kinds.SyntaxKind.TheVariants.{TOKEN_INTERPOL_END, TOKEN_INTERPOL_START, TOKEN_L_BRACE, TOKEN_L_BRACK, TOKEN_L_PAREN}
use Rattle.rnix_kinds.specs.declared.kinds.SyntaxKind.TheVariants.{TOKEN_R_BRACE, TOKEN_R_BRACK, TOKEN_R_PAREN, TOKEN_STRING_END, TOKEN_STRING_START}
use Rattle.rnix_kinds.specs.declared.tokenizer.rule.{Cut.Cut, PathStart.{PathStart, TheVariants.{Root, Relative, Home as FromHome}}}
use Rattle.rnix_kinds.specs.declared.tokenizer.rule.Mode.{Mode, TheVariants.{Quoted, Interpolation, Path}}
use Rattle.rnix_kinds.specs.declared.tokenizer.{rule.Change.{Change, TheVariants.{Stay, Open, Count}}, text.Class.TheVariants.{Name, Step, Scheme, Angle}}
use Rattle.rnix_kinds.specs.Lexical.{PathKinds.kind_of_path, Texts.{occurs_at, begins, run_end, before_pair, space_len}, Classes.{class_test, is_path, is_uri}}
use Rattle.rnix_kinds.specs.Lexical.Plain.{space, comment, uri, word, kind_of_word, begins_word}
use Rattle.rnix_kinds.specs.Lexical.Paths.{is_broken, first_segment, slash, home, goes_on_as_path, relative, search_path}
use Rattle.rnix_kinds.specs.Lexical.Numbers.{exponent_digits, exponent, number}
use Rattle.rnix_kinds.specs.Lexical.Operators.{ellipsis, opener, opening_brace, closing_brace, brace, operators, first_row, operator}
use Rattle.{rnix_kinds.specs.Lexical.Tokens.{first_that_fits, normal_cut}, rnix_proof_separation.proofs.KeptOperators.word_first}

-- a change that `{` makes: none, or one more open brace
abbrev pub IsBraceChange : Change → Type 0
IsBraceChange Stay = Unit {0}
IsBraceChange (Count braces) = Unit {0}
IsBraceChange change = ⊥

-- what the first byte `b`, the length `n` and the change of a bracket of the kind are; other kinds may have any
abbrev pub IsBracketCut : SyntaxKind → ℕ → ℕ → Change → Type 0
IsBracketCut TOKEN_STRING_START b n change = ((b == 34 || (b == 39 && nat_lt 1 n)) ≡ true) × (change ≡ Open (Quoted (b == 39)))
IsBracketCut TOKEN_INTERPOL_START b n change = ((b == 36 && nat_lt 1 n) ≡ true) × (change ≡ Open (Interpolation 0))
IsBracketCut TOKEN_L_BRACE b n change = ((b == 123) ≡ true) × IsBraceChange change
IsBracketCut TOKEN_L_BRACK b n change = ((b == 91) ≡ true) × (change ≡ Stay)
IsBracketCut TOKEN_L_PAREN b n change = ((b == 40) ≡ true) × (change ≡ Stay)
IsBracketCut TOKEN_R_BRACE b n change = (b == 125) ≡ true
IsBracketCut TOKEN_INTERPOL_END b n change = (b == 125) ≡ true
IsBracketCut TOKEN_R_BRACK b n change = (b == 93) ≡ true
IsBracketCut TOKEN_R_PAREN b n change = (b == 41) ≡ true
IsBracketCut TOKEN_STRING_END b n change = ⊥
IsBracketCut kind b n change = Unit {0}

-- the byte begins a bracket of the kind that is an operator
abbrev suits_byte : SyntaxKind → ℕ → Bool
suits_byte TOKEN_L_BRACK b = b == 91
suits_byte TOKEN_L_PAREN b = b == 40
suits_byte TOKEN_R_BRACK b = b == 93
suits_byte TOKEN_R_PAREN b = b == 41
suits_byte TOKEN_STRING_START b = false
suits_byte TOKEN_INTERPOL_START b = false
suits_byte TOKEN_L_BRACE b = false
suits_byte TOKEN_R_BRACE b = false
suits_byte TOKEN_INTERPOL_END b = false
suits_byte TOKEN_STRING_END b = false
suits_byte kind b = true

abbrev is_row : List ℕ → SyntaxKind → Bool
is_row w kind = nat_lt 0 (length w) && suits_byte kind (get_or w 0 0)

bracket_row : (kind : SyntaxKind) (b n : ℕ) → suits_byte kind b ≡ true → IsBracketCut kind b n Stay
bracket_row TOKEN_L_BRACK b n e = (e, refl)
bracket_row TOKEN_L_PAREN b n e = (e, refl)
bracket_row TOKEN_R_BRACK b n e = e
bracket_row TOKEN_R_PAREN b n e = e
bracket_row TOKEN_STRING_START b n e = absurd (true≢false (sym e))
bracket_row TOKEN_INTERPOL_START b n e = absurd (true≢false (sym e))
bracket_row TOKEN_L_BRACE b n e = absurd (true≢false (sym e))
bracket_row TOKEN_R_BRACE b n e = absurd (true≢false (sym e))
bracket_row TOKEN_INTERPOL_END b n e = absurd (true≢false (sym e))
bracket_row TOKEN_STRING_END b n e = absurd (true≢false (sym e))
bracket_row kind b n e = tt

module _ (x : List ℕ) where
  abbrev pub IsSuited : Cut → Type 0
  IsSuited cut = IsBracketCut cut.kind (get_or x 0 0) cut.len cut.change

  abbrev IsSuitedRule : Option Cut → Type 0
  IsSuitedRule None = Unit {0}
  IsSuitedRule (Some cut) = IsSuited cut

  if_rule : (b : Bool) (y z : Option Cut) → (b ≡ true → IsSuitedRule y) → (b ≡ false → IsSuitedRule z) → IsSuitedRule (cond b y z)
  if_rule true y z pass fail = pass refl
  if_rule false y z pass fail = fail refl

  if_cut : (b : Bool) (y z : Cut) → IsSuited y → IsSuited z → IsSuited (cond b y z)
  if_cut true y z pass fail = pass
  if_cut false y z pass fail = fail

  if_kind : (b : Bool) (k l : SyntaxKind) (n : ℕ) (change : Change) → IsBracketCut k (get_or x 0 0) n change → IsBracketCut l (get_or x 0 0) n change
      → IsBracketCut (cond b k l) (get_or x 0 0) n change
  if_kind true k l n change pass fail = pass
  if_kind false k l n change pass fail = fail

  path_suited : (start : PathStart) (n : ℕ) (change : Change) → IsBracketCut (kind_of_path start) (get_or x 0 0) n change
  path_suited Root n change = tt
  path_suited Relative n change = tt
  path_suited FromHome n change = tt

  segment_suited : (start : PathStart) (from : ℕ) → IsSuited (first_segment start from x)
  segment_suited start from =
      let end = run_end is_path from x in
      if_cut (occurs_at (codes "${") end x) _ _ (path_suited start end (Open (Path start)))
      (if_kind (is_broken (take end x)) TOKEN_ERROR (kind_of_path start) end Stay tt (path_suited start end Stay))

  word_suited : (w : List ℕ) (n : ℕ) → IsBracketCut (kind_of_word w) (get_or x 0 0) n Stay
  word_suited w n =
      if_kind (bytes_eq w (codes "assert")) _ _ n Stay tt
      (if_kind (bytes_eq w (codes "else")) TOKEN_ELSE _ n Stay tt
      (if_kind (bytes_eq w (codes "if")) TOKEN_IF _ n Stay tt
      (if_kind (bytes_eq w (codes "in")) TOKEN_IN _ n Stay tt
      (if_kind (bytes_eq w (codes "inherit")) TOKEN_INHERIT _ n Stay tt
      (if_kind (bytes_eq w (codes "let")) TOKEN_LET _ n Stay tt
      (if_kind (bytes_eq w (codes "or")) TOKEN_OR _ n Stay tt
      (if_kind (bytes_eq w (codes "rec")) TOKEN_REC _ n Stay tt
      (if_kind (bytes_eq w (codes "then")) TOKEN_THEN _ n Stay tt
      (if_kind (bytes_eq w (codes "with")) TOKEN_WITH _ n Stay tt tt)))))))))

  comment_suited : IsSuitedRule (comment x)
  comment_suited =
      if_rule (begins (codes "#") x) _ _ (λ e. tt) (λ e.
      if_rule (begins (codes "/*") x) _ _ (λ f. if_cut (before_pair 42 47 (drop 2 x) == length (drop 2 x)) _ _ tt tt) (λ f. tt))

  slash_suited : IsSuitedRule (slash x)
  slash_suited =
      if_rule (begins (codes "//") x) _ _ (λ e. tt) (λ e.
      if_rule (begins (codes "/${") x || (begins (codes "/") x && is_path (get_or x 1 0))) _ _ (λ f. segment_suited Root 0) (λ f.
      if_rule (begins (codes "/") x) _ _ (λ g. tt) (λ g. tt)))

  home_suited : IsSuitedRule (home x)
  home_suited =
      if_rule (begins (codes "~/") x) _ _ (λ e. segment_suited FromHome 1) (λ e. if_rule (begins (codes "~") x) _ _ (λ f. tt) (λ f. tt))

  relative_suited : IsSuitedRule (relative x)
  relative_suited =
      if_rule (nat_lt 0 (prefix_len (class_test Step) x) && goes_on_as_path (prefix_len (class_test Step) x) x) _ _ (λ e. segment_suited Relative 0) (λ e. tt)

  search_suited : IsSuitedRule (search_path x)
  search_suited =
      let end = run_end is_path 1 x in
      if_rule (get_or x 0 0 == 60 && get_or x (prefix_len (class_test Angle) x) 0 == 62) _ _
      (λ e. if_cut (end == 1) _ _ tt (if_kind (get_or x end 0 == 62) TOKEN_PATH_SEARCH TOKEN_ERROR (end + 1) Stay tt tt)) (λ e. tt)

  uri_suited : IsSuitedRule (uri x)
  uri_suited =
      let n = prefix_len (class_test Scheme) x in
      if_rule (is_ascii_alphabetic (get_or x 0 0) && get_or x n 0 == 58 && is_uri (get_or x (n + 1) 0)) _ _ (λ e. tt) (λ e. tt)

  names_suited : IsSuitedRule (word x)
  names_suited =
      let n = run_end (class_test Name) 0 x in if_rule (begins_word (get_or x 0 0)) _ _ (λ e. word_suited (take n x) n) (λ e. tt)

  exponent_suited : (i : ℕ) → IsSuited (exponent i x)
  exponent_suited i =
      let digits : (k : ℕ) → IsSuited (exponent_digits k x) =
      λ k. if_kind (run_end is_ascii_digit k x == k) TOKEN_ERROR TOKEN_FLOAT (run_end is_ascii_digit k x) Stay tt tt in
      if_cut (get_or x i 0 == 101 || get_or x i 0 == 69) _ _
      (if_cut (get_or x (i + 1) 0 == 43 || get_or x (i + 1) 0 == 45) _ _ (digits (i + 2)) (digits (i + 1))) tt

  number_suited : IsSuitedRule (number x)
  number_suited =
      let end = run_end is_ascii_digit 0 x in
      if_rule (is_ascii_digit (get_or x 0 0)) _ _
      (λ e. if_cut (get_or x end 0 == 46 && not (get_or x 0 0 == 48 && not (get_or x 1 0 == 46))) _ _
      (exponent_suited (run_end is_ascii_digit (end + 1) x)) tt)
      (λ e. if_rule (begins (codes ".") x && is_ascii_digit (get_or x 1 0)) _ _ (λ f. exponent_suited (run_end is_ascii_digit 1 x)) (λ f. tt))

  string_change : (b : ℕ) (m : Bool) → (b == 39) ≡ m → Open (Quoted m) ≡ Open (Quoted (b == 39))
  string_change b m e = ap (λ q. Open (Quoted q)) (sym e)

  opener_suited : IsSuitedRule (opener x)
  opener_suited =
      if_rule (begins (codes "${") x) _ _ (λ e. (grind (arith, nat_tests), refl)) (λ e.
      if_rule (begins (codes "''") x) _ _ (λ f. (grind (arith, nat_tests), string_change (get_or x 0 0) true (and_parts (get_or x 0 0 == 39) _ f).0)) (λ f.
      if_rule (begins (codes "\"") x) _ _ (λ g. (grind (arith, nat_tests), string_change (get_or x 0 0) false (grind (arith, nat_tests)))) (λ g. tt)))

  opening_suited : (mode : Option Mode) → (get_or x 0 0 == 123) ≡ true → IsSuited (opening_brace mode)
  opening_suited None e = (e, tt)
  opening_suited (Some (Interpolation n)) e = (e, tt)
  opening_suited (Some (Quoted m)) e = (e, tt)
  opening_suited (Some (Path k)) e = (e, tt)

  closing_suited : (mode : Option Mode) → (get_or x 0 0 == 125) ≡ true → IsSuited (closing_brace mode)
  closing_suited None e = e
  closing_suited (Some (Interpolation zero)) e = e
  closing_suited (Some (Interpolation (suc n))) e = e
  closing_suited (Some (Quoted m)) e = e
  closing_suited (Some (Path k)) e = e

  brace_suited : (mode : Option Mode) → IsSuitedRule (brace mode x)
  brace_suited mode =
      if_rule (begins (codes "{") x) _ _ (opening_suited mode) (λ e. if_rule (begins (codes "}") x) _ _ (closing_suited mode) (λ f. tt))

  row_suited : (rows : List (List ℕ × SyntaxKind)) → list_all (λ row. is_row row.0 row.1) rows ≡ true → IsSuitedRule (first_row rows x)
  row_suited [] ok = tt
  row_suited (row ∷ rows) ok =
      let parts = and_parts (is_row row.0 row.1) (list_all (λ other. is_row other.0 other.1) rows) ok in
      let own = and_parts (nat_lt 0 (length row.0)) (suits_byte row.1 (get_or row.0 0 0)) parts.0 in
      if_rule (begins row.0 x) _ _
      (λ e. subst (λ b. IsBracketCut row.1 b (length row.0) Stay) (sym (word_first row.0 x own.0 e))
      (bracket_row row.1 (get_or row.0 0 0) (length row.0) own.1))
      (λ e. row_suited rows parts.1)

  operator_suited : IsSuitedRule (operator x)
  operator_suited = row_suited operators refl

  first_suited : (rule : Option Cut) (rules : List (Option Cut)) (last : Cut) → IsSuitedRule rule → IsSuited (first_that_fits rules last)
      → IsSuited (first_that_fits (rule ∷ rules) last)
  first_suited None rules last here more = more
  first_suited (Some cut) rules last here more = here

  -- a token outside strings and paths has this form
  pub normal_suited : (mode : Option Mode) → IsSuited (normal_cut mode x)
  unfolding normal_cut
  normal_suited mode =
      first_suited (space x) _ _ (if_rule (nat_lt 0 (space_len x)) _ _ (λ e. tt) (λ e. tt))
      (first_suited (comment x) _ _ comment_suited
      (first_suited (ellipsis x) _ _ (if_rule (begins (codes "...") x) _ _ (λ e. tt) (λ e. tt))
      (first_suited (slash x) _ _ slash_suited
      (first_suited (home x) _ _ home_suited
      (first_suited (relative x) _ _ relative_suited
      (first_suited (search_path x) _ _ search_suited
      (first_suited (uri x) _ _ uri_suited
      (first_suited (word x) _ _ names_suited
      (first_suited (number x) _ _ number_suited
      (first_suited (opener x) _ _ opener_suited
      (first_suited (brace mode x) _ _ (brace_suited mode)
      (first_suited (operator x) [] _ operator_suited tt))))))))))))
