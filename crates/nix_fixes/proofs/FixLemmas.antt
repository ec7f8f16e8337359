-- What follows from a fix that was tried.
use Rattle.std.proofs.Common.{◌≡◌, ◌∙◌, ℕ, ◌+◌, ◌<◌, ◌≤◌, false, List, length, map, take, subst, sym, ap, refl, arith, inl, inr, Option, Some, None, IfSome, IfNone, string_bytes}
use Rattle.std.specs.{List.All, Str.IsUtf8}
use Rattle.std.proofs.lemmas.{Bool.cases_lt, List.take_all}
use Rattle.std.proofs.lemmas.Str.{IsUtf8-string_bytes}
use Rattle.rnix_kinds.specs.Lexical.Tokens.{tokens_of}
use Rattle.rnix_grammar.specs.Parsed.{IsParsed}
use Rattle.rnix.specs.ParseResult.{Reading, root_of}
use Rattle.nix_fixes.specs.declared.tried.Tried.{Tried}
use Rattle.nix_diagnostics.specs.Mistakes.{mistake_of, mistakes}
use Rattle.nix_diagnostics.specs.declared.diagnostic.Diagnostic.{Diagnostic}
use Rattle.nix_fixes.specs.declared.all_fixes.Progress.{Progress}
use Rattle.nix_fixes.specs.declared.all_fixes.Found.{Found}
use Rattle.nix_fixes.specs.Fixes.{text_with, HasFewer, HasNoFewer, IsFix}
use Rattle.nix_fixes.specs.AllFixes.{HaveNoFixes, IsFixAt, IsFixedOnce, HasNoMore, IsFixed, unchanged, once_more}
use Rattle.nix_fixes.specs.Tries.{IsTried}
use Rattle.nix_fixes.specs.Rounds.{IsProgress, IsNextFix}

-- a fix that was tried with success is a fix
pub tried_fix : (text : List ℕ) (errors : ℕ) (tried : Tried) → IsTried text errors tried → IsFix text errors tried.fix
tried_fix text errors tried h = record {
  characters = h.characters;
  utf8 = subst IsUtf8 h.made (IsUtf8-string_bytes tried.made);
  fewer = record {
    read = tried.read;
    is_read = subst (λ t. IsParsed (tokens_of t) tried.read.tree tried.read.faults) h.made h.is_read;
    fewer = h.fewer;
  };
}

-- a text with no fewer errors than a number has no fewer than a smaller number
pub no_fewer : (text : List ℕ) (most least : ℕ) → HasNoFewer text most → least ≤ most → HasNoFewer text least
no_fewer text most least h fits = record { read = h.read; is_read = h.is_read; more = omega (arith, h.more, fits) }

-- before the first fix
pub begun : (text : List ℕ) (p : Progress) → string_bytes p.made ≡ text → IsParsed (tokens_of text) p.read.tree p.read.faults → p.fixes ≡ 0 → p.tried ≡ 0 →
    IsProgress text p
begun text p made is_read no_fixes none_tried = record {
  fixed = subst (λ n. IsFixed text n p.tried (string_bytes p.made)) (sym no_fixes)
      (subst (λ n. IsFixed text 0 n (string_bytes p.made)) (sym none_tried) (subst (λ t. IsFixed text 0 0 t) (sym made) unchanged));
  is_read = subst (λ t. IsParsed (tokens_of t) p.read.tree p.read.faults) (sym made) is_read;
  fewer = record { read = p.read; is_read = is_read; more = omega (arith, no_fixes) };
}

-- a text becomes another one by a fix of one of its diagnostics that was tried
pub fixed_once : (text : List ℕ) (read : Reading) (found : List Diagnostic) (number : ℕ) (tried : Tried) → IsParsed (tokens_of text) read.tree read.faults →
    map mistake_of found ≡ mistakes false (root_of read) read.faults → IsTried text (length read.faults) tried → IsFixAt text (length read.faults) found number tried.fix →
    IsFixedOnce text (string_bytes tried.made) number
fixed_once text read found number tried is_read are_shown h first = record {
  errors = length read.faults;
  found = found;
  are = record { read = read; is_read = is_read; count = refl; mistakes_are = are_shown };
  fix = tried.fix;
  first = first;
  fixes = tried_fix text (length read.faults) tried h;
  is = h.made;
}

-- after one more fix
pub advanced : (text : List ℕ) (old new : Progress) (most : ℕ) (next : Found) → IsProgress text old → IsNextFix old most next →
    new.made ≡ next.tried.made → new.read ≡ next.tried.read → new.fixes ≡ old.fixes + 1 → new.tried ≡ old.tried + (next.number + 1) → IsProgress text new
advanced text old new most next h is made read fixes tried =
    let one : IsFixed text (old.fixes + 1) (old.tried + (next.number + 1)) (string_bytes next.tried.made) =
    once_more old.fixes old.tried next.number (string_bytes old.made) (string_bytes next.tried.made) h.fixed is.once in
    let fewer : length new.read.faults + new.fixes ≤ length old.read.faults + old.fixes =
    omega (arith, ap (λ (r : Reading). length r.faults) read, fixes, is.tried.fewer) in
    record {
      fixed = subst (λ m. IsFixed text new.fixes new.tried (string_bytes m)) (sym made)
          (subst (λ n. IsFixed text n new.tried (string_bytes next.tried.made)) (sym fixes)
          (subst (λ n. IsFixed text (old.fixes + 1) n (string_bytes next.tried.made)) (sym tried) one));
      is_read = subst (λ (r : Reading). IsParsed (tokens_of (string_bytes new.made)) r.tree r.faults) (sym read)
          (subst (λ m. IsParsed (tokens_of (string_bytes m)) next.tried.read.tree next.tried.read.faults) (sym made) is.tried.is_read);
      fewer = no_fewer text (length old.read.faults + old.fixes) (length new.read.faults + new.fixes) h.fewer fewer;
    }

-- some elements are all of the first ones up to a limit, if they are all of the first ones up to the smaller of it and the length
pub all_up_to : {A : Type 0} (P : A → Type 0) (xs : List A) (n most : ℕ) → n ≤ length xs → n ≤ most → (n < most → length xs ≤ n) → All P (take n xs) →
    All P (take most xs)
all_up_to P xs n most inside within whole all = elim (cases_lt n most) [
  | inl less ↦
      subst (All P) (take_all n xs (whole less) ∙ sym (take_all most xs (omega (arith, whole less, less)))) all
  | inr more ↦ (let same : n ≡ most = omega (arith, within, more) in subst (λ k. All P (take k xs)) same all)
]

-- what was found among the diagnostics of a text so far is its next fix
pub next_found : (p : Progress) (most errors : ℕ) (text : List ℕ) (found all : List Diagnostic) (next : Option Found) → text ≡ string_bytes p.made →
    errors ≡ length p.read.faults → found ≡ all → IsParsed (tokens_of (string_bytes p.made)) p.read.tree p.read.faults →
    map mistake_of all ≡ mistakes false (root_of p.read) p.read.faults → IfSome next (λ f. f.number < most) → IfSome next (λ f. IsTried text errors f.tried) →
    IfSome next (λ f. IsFixAt text errors found f.number f.tried.fix) → IfSome next (IsNextFix p most)
next_found p most errors text found all None text_is errors_are same is_read are_shown within tried first = tt
next_found p most errors text found all (Some next) text_is errors_are same is_read are_shown within tried first =
    let own : IsTried (string_bytes p.made) (length p.read.faults) next.tried =
    subst (λ n. IsTried (string_bytes p.made) n next.tried) errors_are (subst (λ t. IsTried t errors next.tried) text_is tried) in
    let at : IsFixAt (string_bytes p.made) (length p.read.faults) all next.number next.tried.fix =
    subst (λ ds. IsFixAt (string_bytes p.made) (length p.read.faults) ds next.number next.tried.fix) same
    (subst (λ n. IsFixAt (string_bytes p.made) n found next.number next.tried.fix) errors_are
    (subst (λ t. IsFixAt t errors found next.number next.tried.fix) text_is first)) in
    record { within = within; tried = own; once = fixed_once (string_bytes p.made) p.read all next.number next.tried is_read are_shown own at }

-- if nothing was found, the text has no more fixes
pub none_found : (p : Progress) (most errors : ℕ) (text : List ℕ) (found all : List Diagnostic) (next : Option Found) → text ≡ string_bytes p.made →
    errors ≡ length p.read.faults → found ≡ all → IsParsed (tokens_of (string_bytes p.made)) p.read.tree p.read.faults →
    map mistake_of all ≡ mistakes false (root_of p.read) p.read.faults → IfNone next (HaveNoFixes text errors (take most found)) →
    IfNone next (HasNoMore (string_bytes p.made) (length p.read.faults) most)
none_found p most errors text found all (Some next) text_is errors_are same is_read are_shown none = tt
none_found p most errors text found all None text_is errors_are same is_read are_shown none = record {
  found = all;
  are = record { read = p.read; is_read = is_read; count = refl; mistakes_are = are_shown };
  none = subst (λ ds. HaveNoFixes (string_bytes p.made) (length p.read.faults) (take most ds)) same
      (subst (λ n. HaveNoFixes (string_bytes p.made) n (take most found)) errors_are (subst (λ t. HaveNoFixes t errors (take most found)) text_is none));
}
