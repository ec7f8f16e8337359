-- A machine without trivia.
use Rattle.std.specs.Prelude.{List, [], ◌∷◌}
use Rattle.rnix_grammar.specs.AnnotatedForest.{without_trivia}
use Rattle.rnix_grammar.specs.Layout.{items}
use Rattle.rnix_proof_lemmas.specs.Machine.{Frame, Machine, put, machine}

-- frames whose children have no trivia
abbrev pub without_trivia_frame : Frame → Frame
without_trivia_frame f = put f.position (without_trivia f.children) f

-- a list of such frames
abbrev pub without_trivia_frames : List Frame → List Frame
without_trivia_frames [] = []
without_trivia_frames (f ∷ fs) = without_trivia_frame f ∷ without_trivia_frames fs

-- a machine that has read only the items
abbrev pub without_trivia_machine : Machine → Machine
without_trivia_machine m = machine (without_trivia_frames m.frames) (items m.remaining) m.prev_end m.faults
