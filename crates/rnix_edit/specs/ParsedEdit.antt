-- A text that was parsed again after one change.
use Rattle.std.specs.Prelude.{◌≡◌, ℕ, Bool, true, false, List, [], string_bytes}
use Rattle.rnix_kinds.specs.Lexical.Tokens.{tokens_of}
use Rattle.rnix_grammar.specs.Parsed.{IsParsed}
use Rattle.rnix.specs.ParseResult.{Reading}
use Rattle.rnix_text.specs.Changes.{IsInside, IsBetween}
use Rattle.rnix_text.specs.declared.edit_error.EditError.{EditError}
use Rattle.rnix_text.specs.declared.edit_error.EditError.TheVariants as cause
use Rattle.rnix_edit.specs.Edited.{spliced, IsReadWithErrors}
use Rattle.rnix_edit.specs.EditRanges.{Gap}
use Rattle.rnix_edit.specs.declared.gap.Gap.{Gap as Found}
use Rattle.rnix_edit.specs.declared.edited.Refusal.{Refusal}
use Rattle.rnix_edit.specs.declared.edited.Refusal.TheVariants as refusal
use Rattle.rnix_edit.specs.declared.parsed_edit.ParsedEdit.{ParsedEdit}
use Rattle.rnix_edit.specs.declared.parsed_edit.ParsedEdit.TheVariants as parsed_edit

-- whether an edit was refused for lack of memory
abbrev pub is_memory : EditError → Bool
is_memory cause.Memory = true
is_memory _ = false

-- a text has no errors, and this is its reading
pub record IsReadAs (text : List ℕ) (read : Reading) : Type 0 where
  pub is_read : IsParsed (tokens_of text) read.tree read.faults
  pub none : read.faults ≡ []

-- why the changed text has errors
abbrev pub IsNotParsed : Refusal → List ℕ → ℕ → ℕ → List ℕ → Type 0
IsNotParsed refusal.NotInText text start end new = ¬ (IsInside text start end × IsBetween text start end)
IsNotParsed refusal.HasErrors text start end new = IsReadWithErrors (spliced text start end new)
IsNotParsed refusal.ReadOtherwise text start end new = ⊥
IsNotParsed refusal.NodeReadOtherwise text start end new = ⊥

-- the new text, if there is one, is this text, with its reading
abbrev pub IfRead : List ℕ → ParsedEdit → Type 0
IfRead text (parsed_edit.Read made read) = (string_bytes made ≡ text) × IsReadAs text read
IfRead text (parsed_edit.Refused refusal) = Unit {0}

-- P holds for the refusal, if there is one
abbrev pub IfNotRead : (Refusal → Type 0) → ParsedEdit → Type 0
IfNotRead P (parsed_edit.Read made read) = Unit {0}
IfNotRead P (parsed_edit.Refused refusal) = P refusal

-- the gap that a value of the program represents
abbrev pub gap_of : Found → Gap
gap_of gap = record { start = gap.start; end = gap.end; before = string_bytes gap.before; after = gap.after.now; comments = gap.comments }
