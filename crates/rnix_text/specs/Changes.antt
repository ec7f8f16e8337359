-- Changes to a text: ranges of bytes in ascending order that do not overlap, each with a new text.
use Rattle.std.specs.Prelude.{◌≡◌, ℕ, ◌-◌, ◌<◌, ◌≤◌, List, [], ◌∷◌, ◌++◌, take, drop, length}
use Rattle.std.specs.List.{All}
use Rattle.std.specs.Str.{IsCharBoundary}
use Rattle.rnix_text.specs.declared.edit_error.EditError.{EditError}
use Rattle.rnix_text.specs.declared.edit_error.EditError.TheVariants.{OutOfText, InsideCharacter, Overlap, Memory}

-- the bytes from start up to end are replaced by new ones
pub record Change : Type 0 where
  pub start : ℕ
  pub end : ℕ
  pub new : List ℕ

-- a range is replaced by a new text
abbrev pub replacing : ℕ → ℕ → List ℕ → Change
replacing start end new = record { start = start; end = end; new = new }

-- a text, and the changes to it
pub record Draft : Type 0 where
  pub text : List ℕ
  pub changes : List Change

-- the text from an offset on, with these changes: the old bytes before each range, the new bytes in its place, and the old bytes after the last range
abbrev pub changed_from : ℕ → List Change → List ℕ → List ℕ
changed_from n [] text = drop n text
changed_from n (c ∷ cs) text = take (c.start - n) (drop n text) ++ (c.new ++ changed_from c.end cs text)

-- the range is inside the text
abbrev pub IsInside : List ℕ → ℕ → ℕ → Type 0
IsInside text start end = (start ≤ end) × (end ≤ length text)

-- the range begins and ends at character boundaries
abbrev pub IsBetween : List ℕ → ℕ → ℕ → Type 0
IsBetween text start end = IsCharBoundary text start × IsCharBoundary text end

-- two ranges overlap: each begins before the other ends
abbrev pub Overlaps : ℕ → ℕ → Change → Type 0
Overlaps start end c = (start < c.end) × (c.start < end)

-- the changes begin at or after an offset, and are in ascending order
abbrev pub AreAscending : ℕ → List Change → Type 0
AreAscending n [] = Unit {0}
AreAscending n (c ∷ cs) = (n ≤ c.start) × (c.start ≤ c.end) × AreAscending c.end cs

-- the changes begin at or after an offset, are in ascending order, and begin and end at character boundaries of the text
abbrev pub AreInOrder : List ℕ → ℕ → List Change → Type 0
AreInOrder text n [] = n ≤ length text
AreInOrder text n (c ∷ cs) = (n ≤ c.start) × (c.start ≤ c.end) × IsBetween text c.start c.end × AreInOrder text c.end cs

-- the change is added in its place: after those that end at or before its start, and before those that begin at or after its end
pub record IsAdded (c : Change) (old new : List Change) : Type 0 where
  pub front : List Change
  pub back : List Change
  pub old_is : old ≡ front ++ back
  pub new_is : new ≡ front ++ c ∷ back
  pub before : All (λ x. x.end ≤ c.start) front
  pub after : All (λ x. (c.start < x.end) × (c.end ≤ x.start)) back

-- one of the changes overlaps the range
pub record HasOverlap (start end : ℕ) (cs : List Change) : Type 0 where
  pub front : List Change
  pub change : Change
  pub back : List Change
  pub is : cs ≡ front ++ change ∷ back
  pub overlaps : Overlaps start end change

-- why a change to the range is refused
abbrev pub IsCause : EditError → Draft → ℕ → ℕ → Type 0
IsCause OutOfText d start end = ¬ IsInside d.text start end
IsCause InsideCharacter d start end = ¬ IsBetween d.text start end
IsCause Overlap d start end = HasOverlap start end d.changes
IsCause Memory d start end = Unit {0}
