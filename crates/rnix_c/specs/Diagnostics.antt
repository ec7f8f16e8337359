-- What calls write for diagnostics.
use Rattle.std.specs.Prelude.{◌≡◌, ℕ, ℤ, pos, ◌-◌, ◌^◌, false, List, [], ◌∷◌, ◌++◌, length, take, drop, fold, Option, Some, None, string_bytes}
use Rattle.rnix_green.specs.Range.{bounds_of}
use Rattle.rnix_green.specs.declared.range.TextRange.{TextRange}
use Rattle.rnix_green.specs.Tree.{Tree}
use Rattle.rnix_grammar.specs.Fault.{Fault}
use Rattle.nix_diagnostics.specs.Codes.{severity_of, code_number}
use Rattle.nix_diagnostics.specs.Mistakes.{mistakes, AreWorded}
use Rattle.nix_diagnostics.specs.declared.code.Code.{Code}
use Rattle.nix_diagnostics.specs.declared.code.Severity.{Severity}
use Rattle.nix_diagnostics.specs.declared.code.Severity.TheVariants.{Error, Warning}
use Rattle.nix_diagnostics.specs.declared.{diagnostic.Diagnostic.{Diagnostic}, notes.Note.{Note}, replacement.Replacement.{Replacement}}
use Rattle.nix_lints.specs.Items.{Item, AreItems, AreAllWorded}
use Rattle.rnix_c.specs.declared.diagnostics.{RnixDiagnostic.{RnixDiagnostic}, RnixNote.{RnixNote}}
use Rattle.rnix_c.specs.Answers.{filled}
use Rattle.rnix_c.specs.StringCalls.{located}

-- diagnostics and notes as they are written for C, and the concatenated texts
pub record Said : Type 0 where
  pub records : List RnixDiagnostic
  pub notes : List RnixNote
  pub texts : List ℕ

abbrev pub said : List RnixDiagnostic → List RnixNote → List ℕ → Said
said records notes texts = record { records = records; notes = notes; texts = texts }

-- the number of what is absent
abbrev pub no_number : ℕ
no_number = 2 ^ 64 - 1

-- where the range of a note starts and ends, if it has one
abbrev pub start_if : Option TextRange → ℕ
start_if None = no_number
start_if (Some range) = range.start

abbrev pub end_if : Option TextRange → ℕ
end_if None = no_number
end_if (Some range) = range.end

abbrev pub note_start : Note → ℕ
note_start note = start_if note.range

abbrev pub note_end : Note → ℕ
note_end note = end_if note.range

-- where the range starts and ends that a note would replace, if it proposes that
abbrev pub replaced_start_if : Option Replacement → ℕ
replaced_start_if None = no_number
replaced_start_if (Some r) = r.range.start

abbrev pub replaced_end_if : Option Replacement → ℕ
replaced_end_if None = no_number
replaced_end_if (Some r) = r.range.end

abbrev pub replaced_start : Note → ℕ
replaced_start note = replaced_start_if note.replacement

abbrev pub replaced_end : Note → ℕ
replaced_end note = replaced_end_if note.replacement

-- the bytes of a text from start up to end
abbrev pub bytes_between : ℕ → ℕ → List ℕ → List ℕ
bytes_between start end text = take (end - start) (drop start text)

-- with the new text of a replacement, if there is one: its first part, a copy of the bytes that it keeps, and its last part
abbrev pub with_proposed : List ℕ → Option Replacement → List ℕ → List ℕ
with_proposed text None texts = texts
with_proposed text (Some r) texts = texts ++ r.before.now ++ bytes_between r.kept.start r.kept.end text ++ r.after.now

-- with the message of a note
abbrev pub with_message : Note → List ℕ → List ℕ
with_message note texts = texts ++ note.message.now

-- what is written for a note, where these texts precede it
abbrev pub note_written : List ℕ → List ℕ → Note → RnixNote
note_written text texts note = record {
  start = note_start note;
  end = note_end note;
  message_start = length texts;
  message_end = length (with_message note texts);
  replaced_start = replaced_start note;
  replaced_end = replaced_end note;
  text_start = length (with_message note texts);
  text_end = length (with_proposed text note.replacement (with_message note texts));
}

-- with one more note
abbrev pub with_note : List ℕ → Said → Note → Said
with_note text before note =
    said before.records (before.notes ++ note_written text before.texts note ∷ []) (with_proposed text note.replacement (with_message note before.texts))

-- with the message of a diagnostic, and its notes
abbrev pub with_notes : List ℕ → Said → Diagnostic → Said
with_notes text before d = fold (with_note text) (said before.records before.notes (before.texts ++ string_bytes d.message)) d.notes.items

-- the number of a severity
abbrev pub severity_number : Severity → ℕ
severity_number Error = 1
severity_number Warning = 2

-- what is written for a diagnostic, where these texts precede it, and its notes end with this number
abbrev pub record_of : List ℕ → ℕ → Diagnostic → RnixDiagnostic
record_of texts note_end d = record {
  start = (bounds_of d.range).start;
  end = (bounds_of d.range).end;
  message_start = length texts;
  message_end = length (texts ++ string_bytes d.message);
  note_end = note_end;
  code = code_number d.code;
  severity = severity_number (severity_of d.code);
}

-- with one more diagnostic of a text: its range, its message and its notes
abbrev pub with_diagnostic : List ℕ → Said → Diagnostic → Said
with_diagnostic text before d =
    (let made = with_notes text before d in
    said (before.records ++ record_of before.texts (length made.notes) d ∷ []) made.notes made.texts)

-- what is written for some diagnostics of a text
abbrev pub said_of : List ℕ → List Diagnostic → Said
said_of text all = fold (with_diagnostic text) (said [] [] []) all

-- these are the diagnostics of the mistakes of a tree, each with a message
abbrev pub AreSaid : Tree → List Fault → List Diagnostic → Type 0
AreSaid tree faults all = AreWorded (mistakes false (located tree 0) faults) all

-- these are the diagnostics of a tree: of its mistakes, or if there are none, of what the lints find
abbrev pub AreShown : Tree → List Fault → List Diagnostic → Type 0
AreShown tree faults all = (items : List Item) × AreItems false [] (located tree 0) faults items × AreAllWorded items all

-- as much is written as fits into the arrays, together with the numbers of notes and of bytes
pub record WritesSaid (all : Said) (old new : List RnixDiagnostic) (old_notes new_notes : List RnixNote) (note_count : ℕ) (was is : List ℕ) (count : ℕ) :
    Type 0 where
  pub records : new ≡ filled all.records old
  pub notes : new_notes ≡ filled all.notes old_notes
  pub notes_counted : note_count ≡ length all.notes
  pub texts : is ≡ filled all.texts was
  pub bytes_counted : count ≡ length all.texts

-- the diagnostics of a tree are written, and their number is returned
abbrev pub WritesDiagnostics : List ℕ → Tree → List Fault → ℤ → List RnixDiagnostic → List RnixDiagnostic → List RnixNote → List RnixNote → ℕ →
    List ℕ → List ℕ → ℕ → Type 0
WritesDiagnostics text tree faults answer old new old_notes new_notes note_count was is count =
    (all : List Diagnostic) × AreShown tree faults all × (answer ≡ pos (length (said_of text all).records))
    × WritesSaid (said_of text all) old new old_notes new_notes note_count was is count
