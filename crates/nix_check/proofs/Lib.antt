pub mod ListedPieces
pub mod PrintedDiagnostics
pub mod NotesAsText
pub mod CheckedFiles
pub mod PrintedExamples
pub mod AppendedPieces
pub mod LintFixLemmas
