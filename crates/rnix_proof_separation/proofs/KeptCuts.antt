-- What a cut requires of the text after it.
use Rattle.std.proofs.Common.{◌≡◌, ℕ, Bool, true, false, ◌==◌, List, ◌∷◌, ◌++◌, length, get_or, Option, Some, None, refl, sym, ap, ◌∙◌, subst, cond, eqb-true}
use Rattle.{std.{proofs.lemmas.Bool.{and_parts, or_left}, specs.{Prelude.codes, List.prefix_len}}, rnix_kinds.specs.declared.kinds.SyntaxKind.SyntaxKind}
use Rattle.rnix_kinds.specs.declared.{kinds.SyntaxKind.TheVariants.TOKEN_ERROR, tokenizer.rule.{Cut.Cut, Mode.TheVariants.Path, Change.Change}}
use Rattle.rnix_kinds.specs.{declared.tokenizer.{rule.Change.TheVariants.{Stay, Open, Count}, text.Class.TheVariants.Line}, Lexical.Texts.begins}
use Rattle.{rnix_kinds.specs.Lexical.{Classes.class_test, Tokens.{first_that_fits, IsPathBegun}}, rnix_proof_separation.specs.Separated.is_error}
use Rattle.rnix_proof_separation.proofs.Appended.{IsApart, apart_edge, is_next}

-- the cut is the token, and no error
abbrev pub Fits : List ℕ → Cut → Type 0
Fits t cut = (cut.len ≡ length t) × (is_error cut.kind ≡ false)

-- the change opens neither a string nor an interpolation, and closes nothing
abbrev pub IsQuiet : Change → Type 0
IsQuiet Stay = Unit {0}
IsQuiet (Count braces) = Unit {0}
IsQuiet (Open (Path start)) = Unit {0}
IsQuiet change = ⊥

-- white space follows, or nothing; after a comment that begins with `#`, a line feed
abbrev pub IsBehind : List ℕ → List ℕ → Type 0
IsBehind t r = IsApart r × (get_or t 0 0 ≡ 35 → prefix_len (class_test Line) r ≡ 0)

-- after a token that begins a path `${` follows, after any other white space or nothing
abbrev pub IsAfter : Change → List ℕ → List ℕ → Type 0
IsAfter (Open (Path start)) t r = begins (codes "${") r ≡ true
IsAfter change t r = IsBehind t r

-- a function returns the same before `s` and before whatever may follow the token; if the token begins a path, `s` begins with `${`
pub record Keeps {A : Type 0} (f : List ℕ → A) (t s : List ℕ) (a : A) (change : Change) : Type 0 where
  pub quiet : IsQuiet change
  pub dollar : IsPathBegun change → begins (codes "${") s ≡ true
  pub same : (r : List ℕ) → IsAfter change t r → f (t ++ r) ≡ a

-- this holds for a cut that is the token
abbrev pub KeepsCut : (List ℕ → Cut) → List ℕ → List ℕ → Cut → Type 0
KeepsCut f t s cut = Fits t cut → Keeps f t s cut cut.change

-- this holds for a rule whose cut is the token
abbrev pub KeepsRule : (List ℕ → Option Cut) → List ℕ → List ℕ → Option Cut → Type 0
KeepsRule f t s None = ⊥
KeepsRule f t s (Some cut) = Fits t cut → Keeps f t s (Some cut) cut.change

-- this holds for a token that leaves the modes alone, if white space may follow it
pub stay_keeps : {A : Type 0} {f : List ℕ → A} {t s : List ℕ} {a : A} {change : Change} → change ≡ Stay → ((r : List ℕ) → IsBehind t r → f (t ++ r) ≡ a)
    → Keeps f t s a change
stay_keeps {f = f} {t = t} {s = s} {a = a} stays same =
    subst (Keeps f t s a) (sym stays) (record { quiet = tt; dollar = λ begun. absurd begun; same = same })

-- this holds for a function that is computed from another
pub keeps_then : {A B : Type 0} {f : List ℕ → A} {g : List ℕ → B} {t s : List ℕ} {a : A} {b : B} {change : Change}
    → Keeps f t s a change → ((r : List ℕ) → IsAfter change t r → f (t ++ r) ≡ a → g (t ++ r) ≡ b) → Keeps g t s b change
keeps_then keeps further = record { quiet = keeps.quiet; dollar = keeps.dollar; same = λ r after. further r after (keeps.same r after) }

pub dollar_first : (r : List ℕ) → begins (codes "${") r ≡ true → get_or r 0 0 ≡ 36
dollar_first r e = eqb-true (get_or r 0 0) 36 (and_parts (get_or r 0 0 == 36) _ e).0

pub dollar_next : (r : List ℕ) → begins (codes "${") r ≡ true → is_next (get_or r 0 0) ≡ true
dollar_next r e = ap is_next (dollar_first r e)

pub behind_next : (t r : List ℕ) → IsBehind t r → is_next (get_or r 0 0) ≡ true
behind_next t r behind = or_left _ _ (apart_edge r behind.0)

pub after_next : (change : Change) (t r : List ℕ) → IsAfter change t r → is_next (get_or r 0 0) ≡ true
after_next (Open (Path start)) t r after = dollar_next r after
after_next _ t r after = behind_next t r after

-- a first rule applies, or the rules after it
pub rule_cases : (b : Bool) (cut : Cut) (rule : Option Cut) (rules : List (Option Cut)) (last : Cut) (P : Cut → Type 0) → (b ≡ true → P cut)
    → (b ≡ false → P (first_that_fits (rule ∷ rules) last)) → P (first_that_fits (cond b (Some cut) rule ∷ rules) last)
rule_cases true cut rule rules last P pass fail = pass refl
rule_cases false cut rule rules last P pass fail = fail refl

pub some_cases : (rule : Option Cut) (rules : List (Option Cut)) (last : Cut) (P : Cut → Type 0) → ((cut : Cut) → rule ≡ Some cut → P cut)
    → (rule ≡ None → P (first_that_fits rules last)) → P (first_that_fits (rule ∷ rules) last)
some_cases (Some cut) rules last P pass fail = pass cut refl
some_cases None rules last P pass fail = fail refl

-- the first rule that applies gives the cut
pub fits_first : (rule : Option Cut) (rules : List (Option Cut)) (last : Cut) {cut : Cut} → rule ≡ Some cut → first_that_fits (rule ∷ rules) last ≡ cut
fits_first rule rules last e = ap (λ o. first_that_fits (o ∷ rules) last) e

pub fits_later : (rule : Option Cut) (rules : List (Option Cut)) (last : Cut) {cut : Cut} → rule ≡ None → first_that_fits rules last ≡ cut
    → first_that_fits (rule ∷ rules) last ≡ cut
fits_later rule rules last e f = ap (λ o. first_that_fits (o ∷ rules) last) e ∙ f

-- if the choice between an error and a kind is no error, it is the kind
pub no_error_if : (b : Bool) (kind : SyntaxKind) → is_error (cond b TOKEN_ERROR kind) ≡ false → b ≡ false
no_error_if true kind e = e
no_error_if false kind e = refl
