pub mod AppliedDiffs
pub mod DiffLemmas
pub mod DiffRows
pub mod HunkLemmas
pub mod PatchedLines
pub mod HeaderLines
