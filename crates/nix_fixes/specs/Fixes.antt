-- Replacements of bytes in a text, and fixes: those after which the text has fewer errors.
use Rattle.std.specs.Prelude.{◌≡◌, ℕ, ◌+◌, ◌-◌, ◌<◌, ◌≤◌, nat_le, ◌&&◌, Bool, true, if◌then◌else◌, List, ◌∷◌, ◌++◌, length, take, drop, Option, Some, string_bytes}
use Rattle.std.specs.{List.All, Str.{IsCharBoundary, IsUtf8}}
use Rattle.rnix_kinds.specs.Lexical.Tokens.{tokens_of}
use Rattle.rnix_green.specs.declared.range.TextRange.{TextRange}
use Rattle.rnix_grammar.specs.Parsed.{IsParsed}
use Rattle.rnix.specs.ParseResult.{Reading}
use Rattle.nix_diagnostics.specs.declared.{notes.Note.{Note}, replacement.Replacement.{Replacement}}
use Rattle.nix_fixes.specs.declared.fix.Fix.{Fix}
use Rattle.nix_fixes.specs.declared.tried.TheConstants.{MOST_REMOVED, MOST_ADDED}

-- the bytes of a text from start up to end
abbrev pub bytes_between : ℕ → ℕ → List ℕ → List ℕ
bytes_between start end text = take (end - start) (drop start text)

-- the text with new bytes in place of those from start up to end
abbrev pub spliced : List ℕ → ℕ → ℕ → List ℕ → List ℕ
spliced text start end new = take start text ++ (new ++ drop end text)

-- the new text of a replacement: its first part, a copy of the bytes that it keeps, and its last part
abbrev pub new_text : List ℕ → Replacement → List ℕ
new_text text r = r.before.now ++ (bytes_between r.kept.start r.kept.end text ++ r.after.now)

-- the text with a fix
abbrev pub text_with : List ℕ → Fix → List ℕ
text_with text fix = spliced text fix.range.start fix.range.end (string_bytes fix.text)

-- a range begins and ends between characters of a text
abbrev pub IsOfCharacters : List ℕ → TextRange → Type 0
IsOfCharacters text range = IsCharBoundary text range.start × IsCharBoundary text range.end

-- a text is parsed with this number of errors
pub record IsReadWith (text : List ℕ) (errors : ℕ) : Type 0 where
  pub read : Reading
  pub is_read : IsParsed (tokens_of text) read.tree read.faults
  pub count : length read.faults ≡ errors

-- a text is parsed with fewer errors than a number
pub record HasFewer (text : List ℕ) (errors : ℕ) : Type 0 where
  pub read : Reading
  pub is_read : IsParsed (tokens_of text) read.tree read.faults
  pub fewer : length read.faults < errors

-- a text is parsed with at least this number of errors
pub record HasNoFewer (text : List ℕ) (errors : ℕ) : Type 0 where
  pub read : Reading
  pub is_read : IsParsed (tokens_of text) read.tree read.faults
  pub more : errors ≤ length read.faults

-- a fix replaces characters of a text; the text with it is UTF-8, and has fewer errors than a number
pub record IsFix (text : List ℕ) (errors : ℕ) (fix : Fix) : Type 0 where
  pub characters : IsOfCharacters text fix.range
  pub utf8 : IsUtf8 (text_with text fix)
  pub fewer : HasFewer (text_with text fix) errors

-- the bytes that a replacement keeps are among those that it replaces
abbrev pub keeps_inside : Replacement → Bool
keeps_inside r = nat_le r.range.start r.kept.start && nat_le r.kept.end r.range.end

-- how many bytes a replacement removes: all that it replaces, but for those that it keeps
abbrev pub removed : Replacement → ℕ
removed r = (r.range.end - r.range.start) - (if keeps_inside r then r.kept.end - r.kept.start else 0)

-- a replacement removes and adds few bytes
abbrev pub is_small : Replacement → Bool
is_small r = nat_le (removed r) MOST_REMOVED && nat_le (length r.before.now + length r.after.now) MOST_ADDED

-- a fix is what a replacement proposes that removes and adds few bytes
pub record IsProposed (text : List ℕ) (r : Replacement) (fix : Fix) : Type 0 where
  pub small : is_small r ≡ true
  pub range : fix.range ≡ r.range
  pub new : string_bytes fix.text ≡ new_text text r

-- a replacement does not help: if it is small, and its range and the bytes that it keeps begin and end between characters, the text with it has no fewer
-- errors than a number
abbrev pub DoesNotHelp : List ℕ → ℕ → Replacement → Type 0
DoesNotHelp text errors r =
    is_small r ≡ true → IsOfCharacters text r.kept → IsOfCharacters text r.range → HasNoFewer (spliced text r.range.start r.range.end (new_text text r)) errors

-- no replacement of a note helps
abbrev pub HasNoFix : List ℕ → ℕ → Note → Type 0
HasNoFix text errors note = (r : Replacement) → note.replacement ≡ Some r → DoesNotHelp text errors r

-- no replacement of some notes helps
abbrev pub HaveNoFix : List ℕ → ℕ → List Note → Type 0
HaveNoFix text errors notes = All (HasNoFix text errors) notes

-- a fix is the one that a note proposes
pub record IsOfNote (text : List ℕ) (note : Note) (fix : Fix) : Type 0 where
  pub replacement : Replacement
  pub has : note.replacement ≡ Some replacement
  pub proposed : IsProposed text replacement fix

-- a fix is the one that a note proposes, and no earlier note has a replacement that helps
pub record IsFirstFix (text : List ℕ) (errors : ℕ) (notes : List Note) (fix : Fix) : Type 0 where
  pub before : List Note
  pub note : Note
  pub after : List Note
  pub are : notes ≡ before ++ note ∷ after
  pub none : HaveNoFix text errors before
  pub proposed : IsOfNote text note fix
