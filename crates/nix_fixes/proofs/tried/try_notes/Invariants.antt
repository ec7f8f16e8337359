use Rattle.std.proofs.Common.{take}
use Rattle.nix_fixes.specs.Fixes.{HaveNoFix}
use Rattle.nix_fixes.proofs.tried.try_notes.Given as goal

-- the notes so far have no fix
abbrev pub invariant-loop-note : goal.invariant-loop-note
invariant-loop-note l = HaveNoFix l.text l.errors (take l.note-index l.notes)
