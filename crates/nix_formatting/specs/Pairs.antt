-- Two walks, step by step.
use Rattle.std.specs.Prelude.{◌≡◌, ◌&&◌, ◌||◌, Bool, true, List, [], ◌∷◌, Option, Some, None}
use Rattle.std.specs.Str.{bytes_eq}
use Rattle.rnix_kinds.specs.declared.kinds.SyntaxKind.TheVariants.{TOKEN_STRING_CONTENT}
use Rattle.rnix_green.specs.Equality.{same_kind}
use Rattle.rnix_green.specs.Tree.{Located, item_of, text_at}
use Rattle.rnix_green.specs.Walk.{Event}
use Rattle.rnix_tree.specs.declared.element.NodeOrToken.{NodeOrToken}
use Rattle.rnix_tree.specs.declared.element.WalkEvent.{WalkEvent}
use Rattle.rnix_tree.specs.Spots.{event_of}
use Rattle.nix_formatting.specs.WalkSteps.{Shown, shown_node, step_of, steps_of}
use Rattle.nix_formatting.specs.declared.walks.Pair.{Pair}
use Rattle.nix_formatting.specs.declared.walks.Pair.TheVariants as pair

-- an event of a walk, as a value of the program
abbrev pub ProgramEvent : Type 0
ProgramEvent = WalkEvent (NodeOrToken Located Located)

-- the next step was returned, if there is one
abbrev pub IsNextStep : List Event → Option ProgramEvent → List Event → Type 0
IsNextStep before None after = steps_of before ≡ []
IsNextStep before (Some met) after = steps_of before ≡ step_of (event_of met) ∷ steps_of after

-- two events have the same step
abbrev pub AreSame : Event → Event → Type 0
AreSame old new = step_of new ≡ step_of old

-- whether two elements show the same
abbrev pub same_shown : Shown → Shown → Bool
same_shown old new = bytes_eq old.0 new.0 && bytes_eq old.1 new.1

-- whether two nodes that are entered have the same step
abbrev pub same_nodes : Located → Located → Bool
same_nodes old new = same_kind (item_of old).kind (item_of new).kind && same_shown (shown_node true old) (shown_node true new)

-- the result of comparing what two nodes of the same kind show when they are entered
abbrev pub ShowTheSame : Located → Located → Bool → Type 0
ShowTheSame old new same =
    same_kind (item_of old).kind (item_of new).kind ≡ true → same ≡ same_shown (shown_node true old) (shown_node true new)

-- whether two tokens have the same step
abbrev pub same_tokens : Located → Located → Bool
same_tokens old new =
    same_kind (item_of old).kind (item_of new).kind
    && (same_kind (item_of old).kind TOKEN_STRING_CONTENT || bytes_eq (text_at old) (text_at new))

-- the result of comparing two events
abbrev pub AreCompared : Pair → Option ProgramEvent → Option ProgramEvent → Type 0
AreCompared pair.Same (Some old) (Some new) = AreSame (event_of old) (event_of new)
AreCompared pair.Same old new = ⊥
AreCompared pair.Differ old new = Unit {0}
AreCompared pair.End None None = Unit {0}
AreCompared pair.End old new = ⊥

-- the result of a step of both walks: if the steps after it are the same, so are the steps before it
abbrev pub IsPassed : List Event → List Event → List Event → List Event → Pair → Type 0
IsPassed olds news olds_remaining news_remaining pair.Same = steps_of news_remaining ≡ steps_of olds_remaining → steps_of news ≡ steps_of olds
IsPassed olds news olds_remaining news_remaining pair.Differ = Unit {0}
IsPassed olds news olds_remaining news_remaining pair.End = steps_of news ≡ steps_of olds
