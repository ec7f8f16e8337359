-- What a walk prints, as its events come.
use Rattle.std.specs.Prelude.{◌≡◌, ◌<◌, false, ℕ, ◌+◌, ◌-◌, List, [], ◌∷◌, ◌++◌, Option, Some, if◌then◌else◌}
use Rattle.std.specs.Fmt.{◌++?◌}
use Rattle.rnix_green.specs.Walk.{Event}
use Rattle.rnix_tree.specs.Lines.{element_line, text_line}

-- the line that an event prints at a depth: one where an element is entered, none where it is left
abbrev pub event_line : ℕ → Event → List ℕ
event_line depth e = if e.0 then element_line depth e.1.1 else []

-- the depth after an event
abbrev pub depth_after : ℕ → Event → ℕ
depth_after depth e = if e.0 then depth + 1 else depth - 1

-- the lines that the events of a walk print, from a depth on
abbrev pub event_lines : ℕ → List Event → List ℕ
event_lines depth [] = []
event_lines depth (e ∷ es) = event_line depth e ++ event_lines (depth_after depth e) es

-- the line with its text that an event prints
abbrev pub event_text : ℕ → Event → Option (List ℕ)
event_text depth e = if e.0 then text_line depth e.1 else Some []

-- the lines with their texts that the events of a walk print, from a depth on
abbrev pub event_texts : ℕ → List Event → Option (List ℕ)
event_texts depth [] = Some []
event_texts depth (e ∷ es) = event_text depth e ++? event_texts (depth_after depth e) es

-- how many elements the events enter
abbrev pub entered_in : List Event → ℕ
entered_in [] = 0
entered_in (e ∷ es) = (if e.0 then 1 else 0) + entered_in es

-- each element is left at a depth above zero
abbrev pub IsNested : ℕ → List Event → Type 0
IsNested depth [] = Unit {0}
IsNested depth (e ∷ es) = (e.0 ≡ false → 0 < depth) × IsNested (depth_after depth e) es
