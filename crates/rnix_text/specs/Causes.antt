-- How the refusal of an edit is printed.
use Rattle.std.specs.Prelude.{ℕ, List, codes}
use Rattle.rnix_text.specs.declared.edit_error.EditError.{EditError}
use Rattle.rnix_text.specs.declared.edit_error.EditError.TheVariants.{OutOfText, InsideCharacter, Overlap, Memory}

-- the text of a refusal
abbrev pub cause_text : EditError → List ℕ
cause_text OutOfText = codes "the range does not lie in the text"
cause_text InsideCharacter = codes "the range begins or ends inside a character"
cause_text Overlap = codes "the range overlaps that of another edit"
cause_text Memory = codes "there is no memory for the edit"
