-- What the reader holds at each step of the machine.
use Rattle.rnix_grammar.specs.declared.slot_table.TheConstants.{ROOT}
use Rattle.std.specs.Prelude.{◌≡◌, ◌≤◌, ◌+◌, ◌*◌, ℕ, true, List, [], ◌∷◌, ◌++◌, Option, Some, None, length}
use Rattle.rnix_kinds.specs.declared.kinds.SyntaxKind.TheVariants.{NODE_ROOT, NODE_PATTERN, NODE_PAT_ENTRY}
use Rattle.rnix_green.specs.Forest.{empty, node}
use Rattle.rnix_green.specs.Range.{Extent}
use Rattle.rnix_grammar.specs.declared.position.Position.{Position}
use Rattle.rnix_grammar.specs.declared.position.Position.TheVariants as p
use Rattle.rnix_grammar.specs.AnnotatedForest.{Token, AnnotatedForest, tokens_in, without_trivia, forget, extent_of}
use Rattle.rnix_grammar.specs.Layout.{items}
use Rattle.rnix_proof_lemmas.specs.Machine.{Head, Node, SecondBind, Frame, Machine, machine, initial_machine, with_leading}
use Rattle.rnix_proof_steps.specs.StepCount.{ComesIn}
use Rattle.rnix_grammar.specs.Reports.{entry_name, has_entry}
use Rattle.rnix_grammar.specs.Fault.{Fault}
use Rattle.rnix_proof_lemmas.specs.FrameKinds.{IsStackedOn}
use Rattle.rnix_proof_lemmas.specs.Measures.{measure, start_measure}
use Rattle.rnix_reader.specs.declared.mark.Mark.{Mark}
use Rattle.rnix_reader.specs.declared.pattern_names.NameSet.{NameSet}
use Rattle.rnix_reader.specs.declared.pattern_names.Names.{Names}
use Rattle.rnix_reader.specs.Placed.{AreInOrder}
use Rattle.rnix_reader.specs.PatternNames.{has_name, entries_in, entry_at}
use Rattle.rnix_reader.specs.State.{State, items_remaining}
use Rattle.rnix_reader.specs.Erase.{erase}

-- an entry begins with its name, and a second name with a token
abbrev pub IsBegun : Head → AnnotatedForest → Type 0
IsBegun (Node NODE_PAT_ENTRY) children = (t : Token) × (entry_name (without_trivia children) ≡ Some t)
IsBegun SecondBind children = (t : Token) × (us : List Token) × (tokens_in (without_trivia children) ≡ t ∷ us)
IsBegun head children = Unit {0}

-- all frames
abbrev pub AreBegun : List Frame → Type 0
AreBegun [] = Unit {0}
AreBegun (f ∷ fs) = IsBegun f.head f.children × AreBegun fs

-- a second name has the range between two offsets
abbrev pub HasRange : ℕ → ℕ → Head → AnnotatedForest → Type 0
HasRange start end SecondBind children = ((let x : Extent = record { start = start; end = end } in x) ≡ extent_of (tokens_in (without_trivia children)))
    × (start ≤ end)
HasRange start end head children = Unit {0}

-- each frame may be inside the one below, a second name ends where the last item ended, and the tokens are in order
pub record IsWell (f : Frame) (fs : List Frame) (ts : List Token) (n second : ℕ) : Type 0 where
  pub fit : IsStackedOn f.head f.position fs
  pub range : HasRange second n f.head f.children
  pub order : AreInOrder n ts

-- the name of an entry, which may be absent, with its range
abbrev pub named_by : Option Token → List (List ℕ × Extent)
named_by None = []
named_by (Some t) = entry_at t ∷ []

-- the name of an open entry
abbrev pub name_of : Head → AnnotatedForest → Option Token
name_of (Node NODE_PAT_ENTRY) children = entry_name (without_trivia children)
name_of head children = None

-- the names of all open entries, the innermost last
abbrev pub entries_of : List Frame → List (List ℕ × Extent)
entries_of [] = []
entries_of (f ∷ fs) = entries_of fs ++ named_by (name_of f.head f.children)

-- a set has the names of a pattern's entries
abbrev pub IsOf : NameSet → AnnotatedForest → Type 0
IsOf s children = (name : List ℕ) → has_name name s ≡ has_entry name (without_trivia children)

-- the last set is that of a pattern, and a condition holds of those below it
pub record TopSet (sets : List NameSet) (children : AnnotatedForest) (More : List NameSet → Type 0) : Type 0 where
  pub below : List NameSet
  pub set : NameSet
  pub all : sets ≡ below ++ set ∷ []
  pub is : IsOf set children
  pub more : More below

-- the sets of a frame and of those below it, by its head
abbrev pub AreOpenSetsOn : Head → AnnotatedForest → List NameSet → (List NameSet → Type 0) → Type 0
AreOpenSetsOn (Node NODE_PATTERN) children sets More = TopSet sets children More
AreOpenSetsOn head children sets More = More sets

-- the sets of names are those of the open patterns
abbrev pub AreOpenSets : List Frame → List NameSet → Type 0
AreOpenSets [] sets = sets ≡ []
AreOpenSets (f ∷ fs) sets = AreOpenSetsOn f.head f.children sets (AreOpenSets fs)

-- the names that the reader keeps are those of the open patterns and entries
pub record AreNamed (f : Frame) (fs : List Frame) (names : Names) : Type 0 where
  pub begun : AreBegun (f ∷ fs)
  pub sets : AreOpenSets (f ∷ fs) names.sets.items
  pub entries : entries_in names ≡ entries_of (f ∷ fs)

-- the machine has come as far as the reader, in as many steps as the turns that are counted
pub record IsGoing (Counted : ℕ → Type 0) (first : List Token) (s : State) (names : Names) : Type 0 where
  pub steps : ℕ
  pub counted : Counted steps
  pub top : Frame
  pub under : List Frame
  pub remaining : List Token
  pub prev_end : ℕ
  pub faults : List Fault
  pub comes : ComesIn steps (initial_machine first) (machine (top ∷ under) remaining prev_end faults)
  pub state : s ≡ erase (machine (top ∷ under) remaining prev_end faults)
  pub well : IsWell top under remaining prev_end names.second
  pub named : AreNamed top under names

-- some steps lead to where the root alone is open and nothing is left
pub record IsThrough (from : Machine) : Type 0 where
  pub last : Machine
  pub steps : ℕ
  pub comes : ComesIn steps from last
  pub root : Frame
  pub alone : last.frames ≡ root ∷ []
  pub head : root.head ≡ Node NODE_ROOT
  pub position : root.position ≡ p.InRow (ROOT + 1)
  pub nothing : items last.remaining ≡ []

-- a whole text is read, and as many turns are counted: one for each step and one more, at most fifteen for two items and two more, and at most four for
-- each item, seven for each level of nesting, and two more
pub record IsReadTo (Counted : ℕ → Type 0) (ts : List Token) (s : State) : Type 0 where
  pub through : IsThrough (initial_machine ts)
  pub turns : ℕ
  pub counted : Counted turns
  pub each_step : turns ≡ through.steps + 1
  pub few : 2 * turns ≤ 15 * length (items ts) + 4
  pub few_in_levels : turns ≤ 4 * length (items ts) + 3586
  pub trees : s.trees ≡ node NODE_ROOT (forget (with_leading true through.root.children through.last.remaining)) empty
  pub nodes : s.open_nodes ≡ []
  pub faults : s.faults ≡ through.last.faults

-- the positions of what is open, the innermost first
abbrev pub positions_on : List Mark → List Position
positions_on [] = []
positions_on (m ∷ ms) = positions_on ms ++ m.position ∷ []

-- the sum of the measures of these positions
abbrev pub measures : List Position → ℕ
measures [] = 0
measures (x ∷ xs) = measure x + measures xs

-- what is added before an item, except where a node may have begun without one
abbrev pub start_measure_at : List Token → Position → ℕ
start_measure_at [] x = 0
start_measure_at (t ∷ ts) x = start_measure x

-- the same for the innermost position
abbrev pub start_measure_on : List Token → List Position → ℕ
start_measure_on ts [] = 0
start_measure_on ts (x ∷ xs) = start_measure_at ts x

-- how much there is to do with some items at some positions
abbrev pub cost : List Token → List Position → ℕ
cost ts xs = 100 * length ts + measures xs + start_measure_on ts xs

-- how much there is still to do
abbrev pub work : State → ℕ
work s = cost (items_remaining s) (positions_on s.marks)
