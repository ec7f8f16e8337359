-- The output for notes as text.
use Rattle.std.proofs.Common.{◌≡◌, ◌∙◌, ℕ, Bool, List, ◌++◌, Option, sym, ap, subst, refl}
use Rattle.std.proofs.KnownBytes.{Appends-trans}
use Rattle.std.specs.{Prelude.{Some, None, string_bytes, codes}, Io.KnownBytes.Appends}
use Rattle.rnix_green.specs.declared.range.TextRange.{TextRange}
use Rattle.nix_cli.specs.MessageLocations.{location_text}
use Rattle.nix_diagnostics.specs.Codes.{severity_of}
use Rattle.nix_diagnostics.specs.declared.code.Severity.{Severity}
use Rattle.nix_diagnostics.specs.declared.diagnostic.Diagnostic.{Diagnostic}
use Rattle.nix_diagnostics.specs.declared.notes.Note.{Note}
use Rattle.nix_check.proofs.AppendedPieces.{three}
use Rattle.nix_check.specs.{Listed.Prints, AsText.{message_text, severity_text, help_text, IsLocatedText, IsNoteText, HasLocation, AreNoteTexts, IsText}}

-- printing a message at a location, with an excerpt
pub located_printed : (is_colored : Bool) (name text message : List ℕ) (start from : ℕ) (old first second new : Option (List ℕ)) → from ≡ start →
    Appends old first (location_text name text from) → Appends first second (message_text is_colored (codes "36") (codes "note:") message) →
    ((excerpt : List ℕ) × Appends second new excerpt) → Prints (IsLocatedText is_colored name text start message) old new
located_printed is_colored name text message start from old first second new at location words excerpt =
    let note = message_text is_colored (codes "36") (codes "note:") message in (
      location_text name text from ++ note ++ excerpt.0,
      (excerpt.0, ap (λ n. location_text name text n ++ note ++ excerpt.0) at),
      three old first second new (location_text name text from) note excerpt.0 location words excerpt.1,
    )

-- printing a note with a location
pub located_note : (is_colored : Bool) (name text : List ℕ) (note : Note) (range : TextRange) (old new : Option (List ℕ)) → note.range ≡ Some range →
    Prints (IsLocatedText is_colored name text range.start note.message.now) old new → Prints (IsNoteText is_colored name text note) old new
located_note is_colored name text note range old new is printed =
    (printed.0, subst (λ (r : Option TextRange). HasLocation is_colored name text note.message.now r printed.0) (sym is) printed.1, printed.2)

-- printing a note without a location
pub unlocated_note : (is_colored : Bool) (name text : List ℕ) (note : Note) (old new : Option (List ℕ)) → note.range ≡ None →
    Appends old new (help_text is_colored note.message.now) → Prints (IsNoteText is_colored name text note) old new
unlocated_note is_colored name text note old new is written =
    let bytes = help_text is_colored note.message.now in
    (bytes, subst (λ (r : Option TextRange). HasLocation is_colored name text note.message.now r bytes) (sym is) refl, written)

-- printing a diagnostic as text
pub text_printed : (is_colored : Bool) (name text : List ℕ) (d : Diagnostic) (severity : Severity) (message : List ℕ) (start : ℕ)
    (old first second third new : Option (List ℕ)) → severity ≡ severity_of d.code → message ≡ string_bytes d.message → start ≡ d.range.start →
    Appends old first (location_text name text start) → Appends first second (severity_text is_colored severity message) →
    ((excerpt : List ℕ) × Appends second third excerpt) → Prints (AreNoteTexts is_colored name text d.notes.items) third new →
    Prints (IsText is_colored name text d) old new
text_printed is_colored name text d severity message start old first second third new serious is at location words excerpt notes =
    let error = severity_text is_colored severity message in (
      location_text name text start ++ error ++ excerpt.0 ++ notes.0,
      record {
        excerpt = excerpt.0;
        notes = notes.0;
        are_notes = notes.1;
        whole =
            ap (λ n. location_text name text n ++ error ++ excerpt.0 ++ notes.0) at
            ∙ ap (λ s. location_text name text d.range.start ++ severity_text is_colored s message ++ excerpt.0 ++ notes.0) serious
            ∙ ap (λ m. location_text name text d.range.start ++ severity_text is_colored (severity_of d.code) m ++ excerpt.0 ++ notes.0) is;
      },
      Appends-trans old third new (location_text name text start ++ error ++ excerpt.0) notes.0
          (three old first second third (location_text name text start) error excerpt.0 location words excerpt.1) notes.2,
    )
