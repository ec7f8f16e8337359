-- A token outside strings and paths that is no brace closes nothing, and is the same whatever modes are open.
use Rattle.std.proofs.Common.{◌≡◌, ℕ, zero, suc, ◌+◌, Bool, true, false, not, ◌&&◌, ◌||◌, ◌==◌, nat_lt, List, [], ◌∷◌, length, get_or, take, drop, refl, sym}
use Rattle.std.proofs.Common.{Option, Some, None, subst, cond}
use Rattle.std.proofs.lemmas.Bool.{and_parts}
use Rattle.std.specs.{Prelude.codes, List.{prefix_len, list_all}, Char.{is_ascii_digit, is_ascii_alphabetic}, Str.bytes_eq}
use Rattle.rnix_kinds.specs.declared.kinds.SyntaxKind.{SyntaxKind}
use Rattle.rnix_kinds.specs.declared.kinds.SyntaxKind.TheVariants.{TOKEN_ELSE, TOKEN_ERROR, TOKEN_FLOAT, TOKEN_IF, TOKEN_IN, TOKEN_INHERIT, TOKEN_LET, TOKEN_OR}
use Rattle.rnix_kinds.specs.declared.kinds.SyntaxKind.TheVariants.{TOKEN_PATH_SEARCH, TOKEN_REC, TOKEN_THEN, TOKEN_WITH}
use Rattle.rnix_kinds.specs.declared.tokenizer.rule.{Cut.Cut, PathStart.{PathStart, TheVariants.{Root, Relative, Home as FromHome}}}
use Rattle.rnix_kinds.specs.declared.tokenizer.rule.Mode.{Mode, TheVariants.{Quoted, Interpolation, Path}}
use Rattle.rnix_kinds.specs.declared.tokenizer.rule.Change.{Change, TheVariants.{Stay, Open, Close, Count}}
use Rattle.rnix_kinds.specs.declared.tokenizer.text.Class.TheVariants.{Name, Step, Scheme, Angle}
use Rattle.rnix_kinds.specs.Lexical.{PathKinds.kind_of_path, Texts.{occurs_at, begins, run_end, before_pair, space_len}, Classes.{class_test, is_path, is_uri}}
use Rattle.rnix_kinds.specs.Lexical.Plain.{space, comment, uri, word, kind_of_word, begins_word}
use Rattle.rnix_kinds.specs.Lexical.Paths.{is_broken, first_segment, slash, home, goes_on_as_path, relative, search_path}
use Rattle.rnix_kinds.specs.Lexical.{Numbers.{exponent_digits, exponent, number}, Operators.{ellipsis, opener, brace, operators, first_row, operator}}
use Rattle.rnix_kinds.specs.Lexical.Tokens.{first_that_fits, normal_cut}
use Rattle.rnix_proof_replacement.specs.Replaced.{opens_level, closes_level}

-- the token neither opens a level nor closes one
abbrev pub is_neutral : SyntaxKind → Bool
is_neutral kind = not (opens_level kind) && not (closes_level kind)

-- the token leaves the modes alone, begins a path, or opens a string or an interpolation
abbrev pub IsOnward : Change → SyntaxKind → Type 0
IsOnward Stay kind = is_neutral kind ≡ true
IsOnward (Open (Path start)) kind = is_neutral kind ≡ true
IsOnward (Open (Quoted multiline)) kind = opens_level kind ≡ true
IsOnward (Open (Interpolation zero)) kind = opens_level kind ≡ true
IsOnward (Open (Interpolation (suc braces))) kind = ⊥
IsOnward Close kind = ⊥
IsOnward (Count braces) kind = ⊥

abbrev pub IsOnwardCut : Cut → Type 0
IsOnwardCut cut = IsOnward cut.change cut.kind

abbrev IsOnwardRule : Option Cut → Type 0
IsOnwardRule None = Unit {0}
IsOnwardRule (Some cut) = IsOnwardCut cut

if_rule : (b : Bool) (x y : Option Cut) → IsOnwardRule x → IsOnwardRule y → IsOnwardRule (cond b x y)
if_rule true x y pass fail = pass
if_rule false x y pass fail = fail

pub if_cut : (b : Bool) (x y : Cut) → IsOnwardCut x → IsOnwardCut y → IsOnwardCut (cond b x y)
if_cut true x y pass fail = pass
if_cut false x y pass fail = fail

pub if_kind : (b : Bool) (k l : SyntaxKind) → is_neutral k ≡ true → is_neutral l ≡ true → is_neutral (cond b k l) ≡ true
if_kind true k l pass fail = pass
if_kind false k l pass fail = fail

pub path_neutral : (start : PathStart) → is_neutral (kind_of_path start) ≡ true
path_neutral Root = refl
path_neutral Relative = refl
path_neutral FromHome = refl

word_neutral : (w : List ℕ) → is_neutral (kind_of_word w) ≡ true
word_neutral w =
    if_kind (bytes_eq w (codes "assert")) _ _ refl
    (if_kind (bytes_eq w (codes "else")) TOKEN_ELSE _ refl
    (if_kind (bytes_eq w (codes "if")) TOKEN_IF _ refl
    (if_kind (bytes_eq w (codes "in")) TOKEN_IN _ refl
    (if_kind (bytes_eq w (codes "inherit")) TOKEN_INHERIT _ refl
    (if_kind (bytes_eq w (codes "let")) TOKEN_LET _ refl
    (if_kind (bytes_eq w (codes "or")) TOKEN_OR _ refl
    (if_kind (bytes_eq w (codes "rec")) TOKEN_REC _ refl
    (if_kind (bytes_eq w (codes "then")) TOKEN_THEN _ refl
    (if_kind (bytes_eq w (codes "with")) TOKEN_WITH _ refl refl)))))))))

module _ (x : List ℕ) where
  segment_onward : (start : PathStart) (from : ℕ) → IsOnwardCut (first_segment start from x)
  segment_onward start from =
      if_cut (occurs_at (codes "${") (run_end is_path from x) x) _ _ (path_neutral start)
      (if_kind (is_broken (take (run_end is_path from x) x)) TOKEN_ERROR (kind_of_path start) refl (path_neutral start))

  comment_onward : IsOnwardRule (comment x)
  comment_onward =
      if_rule (begins (codes "#") x) _ _ refl
      (if_rule (begins (codes "/*") x) _ _ (if_cut (before_pair 42 47 (drop 2 x) == length (drop 2 x)) _ _ refl refl) tt)

  slash_onward : IsOnwardRule (slash x)
  slash_onward =
      if_rule (begins (codes "//") x) _ _ refl
      (if_rule (begins (codes "/${") x || (begins (codes "/") x && is_path (get_or x 1 0))) _ _ (segment_onward Root 0)
      (if_rule (begins (codes "/") x) _ _ refl tt))

  home_onward : IsOnwardRule (home x)
  home_onward =
      if_rule (begins (codes "~/") x) _ _ (segment_onward FromHome 1) (if_rule (begins (codes "~") x) _ _ refl tt)

  relative_onward : IsOnwardRule (relative x)
  relative_onward =
      if_rule (nat_lt 0 (prefix_len (class_test Step) x) && goes_on_as_path (prefix_len (class_test Step) x) x) _ _ (segment_onward Relative 0) tt

  search_onward : IsOnwardRule (search_path x)
  search_onward =
      if_rule (get_or x 0 0 == 60 && get_or x (prefix_len (class_test Angle) x) 0 == 62) _ _
      (if_cut (run_end is_path 1 x == 1) _ _ refl (if_kind (get_or x (run_end is_path 1 x) 0 == 62) TOKEN_PATH_SEARCH TOKEN_ERROR refl refl)) tt

  uri_onward : IsOnwardRule (uri x)
  uri_onward =
      let n = prefix_len (class_test Scheme) x in
      if_rule (is_ascii_alphabetic (get_or x 0 0) && get_or x n 0 == 58 && is_uri (get_or x (n + 1) 0)) _ _ refl tt

  word_onward : IsOnwardRule (word x)
  word_onward = if_rule (begins_word (get_or x 0 0)) _ _ (word_neutral (take (run_end (class_test Name) 0 x) x)) tt

  exponent_onward : (i : ℕ) → IsOnwardCut (exponent i x)
  exponent_onward i =
      let digits : (k : ℕ) → IsOnwardCut (exponent_digits k x) = λ k. if_kind (run_end is_ascii_digit k x == k) TOKEN_ERROR TOKEN_FLOAT refl refl in
      if_cut (get_or x i 0 == 101 || get_or x i 0 == 69) _ _
      (if_cut (get_or x (i + 1) 0 == 43 || get_or x (i + 1) 0 == 45) _ _ (digits (i + 2)) (digits (i + 1))) refl

  number_onward : IsOnwardRule (number x)
  number_onward =
      let end = run_end is_ascii_digit 0 x in
      if_rule (is_ascii_digit (get_or x 0 0)) _ _
      (if_cut (get_or x end 0 == 46 && not (get_or x 0 0 == 48 && not (get_or x 1 0 == 46))) _ _
      (exponent_onward (run_end is_ascii_digit (end + 1) x)) refl)
      (if_rule (begins (codes ".") x && is_ascii_digit (get_or x 1 0)) _ _ (exponent_onward (run_end is_ascii_digit 1 x)) tt)

  opener_onward : IsOnwardRule (opener x)
  opener_onward =
      if_rule (begins (codes "${") x) _ _ refl (if_rule (begins (codes "''") x) _ _ refl (if_rule (begins (codes "\"") x) _ _ refl tt))

  row_onward : (rows : List (List ℕ × SyntaxKind)) → list_all (λ row. is_neutral row.1) rows ≡ true → IsOnwardRule (first_row rows x)
  row_onward [] ok = tt
  row_onward (row ∷ rows) ok =
      let parts = and_parts (is_neutral row.1) (list_all (λ other. is_neutral other.1) rows) ok in
      if_rule (begins row.0 x) _ _ parts.0 (row_onward rows parts.1)

  no_brace : (top : Option Mode) → (get_or x 0 0 == 123) ≡ false → (get_or x 0 0 == 125) ≡ false → brace top x ≡ None
  no_brace top left right = rw (left, right) refl

first_onward : (rule : Option Cut) (rules : List (Option Cut)) (last : Cut) → IsOnwardRule rule → IsOnwardCut (first_that_fits rules last)
    → IsOnwardCut (first_that_fits (rule ∷ rules) last)
first_onward None rules last here more = more
first_onward (Some cut) rules last here more = here

-- the cut of a text that does not begin with a brace is such a token, and is the same under all modes
pub normal_onward : (mode : Option Mode) (x : List ℕ) → (get_or x 0 0 == 123) ≡ false → (get_or x 0 0 == 125) ≡ false → IsOnwardCut (normal_cut mode x)
unfolding normal_cut
normal_onward mode x left right =
    first_onward (space x) _ _ (if_rule (nat_lt 0 (space_len x)) _ _ refl tt)
    (first_onward (comment x) _ _ (comment_onward x)
    (first_onward (ellipsis x) _ _ (if_rule (begins (codes "...") x) _ _ refl tt)
    (first_onward (slash x) _ _ (slash_onward x)
    (first_onward (home x) _ _ (home_onward x)
    (first_onward (relative x) _ _ (relative_onward x)
    (first_onward (search_path x) _ _ (search_onward x)
    (first_onward (uri x) _ _ (uri_onward x)
    (first_onward (word x) _ _ (word_onward x)
    (first_onward (number x) _ _ (number_onward x)
    (first_onward (opener x) _ _ (opener_onward x)
    (first_onward (brace mode x) _ _ (subst IsOnwardRule (sym (no_brace x mode left right)) tt)
    (first_onward (operator x) [] _ (row_onward x operators refl) refl))))))))))))

pub normal_free : (mode other : Option Mode) (x : List ℕ) → (get_or x 0 0 == 123) ≡ false → (get_or x 0 0 == 125) ≡ false
    → normal_cut mode x ≡ normal_cut other x
unfolding normal_cut
normal_free mode other x left right = rw (no_brace x mode left right, no_brace x other left right) refl
