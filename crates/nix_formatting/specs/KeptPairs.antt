-- Two walks, step by step, apart from commas and the marks of comments.
use Rattle.std.specs.Prelude.{◌≡◌, List, [], ◌∷◌, Option, Some, None}
use Rattle.rnix_green.specs.Walk.{Event}
use Rattle.rnix_tree.specs.Spots.{event_of}
use Rattle.nix_formatting.specs.WalkSteps.{Step, step_of, steps_of}
use Rattle.nix_formatting.specs.WithoutCommas.{kept_step, kept_steps}
use Rattle.nix_formatting.specs.Pairs.{ProgramEvent}
use Rattle.nix_formatting.specs.declared.walks.Pair.{Pair}
use Rattle.nix_formatting.specs.declared.walks.Pair.TheVariants as pair

-- the kept steps of events
abbrev pub kept_of : List Event → List Step
kept_of events = kept_steps (steps_of events)

-- the next kept step was returned, if there is one
abbrev pub IsNextKept : List Event → Option ProgramEvent → List Event → Type 0
IsNextKept before None after = kept_of before ≡ []
IsNextKept before (Some met) after = kept_of before ≡ kept_step (step_of (event_of met)) ∷ kept_of after

-- two events have the same step, apart from the marks of comments
abbrev pub AreAlike : Event → Event → Type 0
AreAlike old new = kept_step (step_of new) ≡ kept_step (step_of old)

-- the result of comparing two events
abbrev pub AreKeptCompared : Pair → Option ProgramEvent → Option ProgramEvent → Type 0
AreKeptCompared pair.Same (Some old) (Some new) = AreAlike (event_of old) (event_of new)
AreKeptCompared pair.Same old new = ⊥
AreKeptCompared pair.Differ old new = Unit {0}
AreKeptCompared pair.End None None = Unit {0}
AreKeptCompared pair.End old new = ⊥

-- the result of a step of both walks: if the kept steps after it are the same, so are those before it
abbrev pub AreKeptPassed : List Event → List Event → List Event → List Event → Pair → Type 0
AreKeptPassed olds news olds_remaining news_remaining pair.Same = kept_of news_remaining ≡ kept_of olds_remaining → kept_of news ≡ kept_of olds
AreKeptPassed olds news olds_remaining news_remaining pair.Differ = Unit {0}
AreKeptPassed olds news olds_remaining news_remaining pair.End = kept_of news ≡ kept_of olds
