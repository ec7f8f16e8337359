-- A tree as the steps of a walk over it: without white space, and with the values of strings in place of their contents.
use Rattle.std.specs.Prelude.{ℕ, ◌&&◌, ◌||◌, Bool, true, false, not, List, [], ◌∷◌, if◌then◌else◌}
use Rattle.rnix_kinds.specs.declared.kinds.SyntaxKind.{SyntaxKind}
use Rattle.rnix_kinds.specs.declared.kinds.SyntaxKind.TheVariants.{NODE_STRING, TOKEN_STRING_CONTENT, TOKEN_WHITESPACE}
use Rattle.rnix_green.specs.Equality.{same_kind}
use Rattle.rnix_green.specs.Tree.{Tree, Located, item_of, text_at}
use Rattle.rnix_green.specs.Walk.{Event, preorder_of}
use Rattle.nix_formatting.specs.Outline.{text_unless}
use Rattle.nix_formatting.specs.Values.{both_values}

-- what a step shows: a text or a value, and the value in Nix
abbrev pub Shown : Type 0
Shown = List ℕ × List ℕ

-- a step: a node is entered or left, or a token is passed, and something of it is shown
pub record Step : Type 0 where
  pub enters : Bool
  pub is_node : Bool
  pub kind : SyntaxKind
  pub shown : Shown

-- a string shows both values when it is entered; other nodes show nothing
abbrev pub shown_node : Bool → Located → Shown
shown_node true e = if same_kind NODE_STRING (item_of e).kind then both_values e else ([], [])
shown_node false e = ([], [])

-- a token shows its text, except the contents of a string, which show nothing
abbrev pub shown_token : Located → Shown
shown_token e = (text_unless (same_kind (item_of e).kind TOKEN_STRING_CONTENT) (text_at e), [])

-- what an element shows when it is entered or left
abbrev pub shown_at : Event → Shown
shown_at event = if event.1.0 then shown_node event.0 event.1.1 else shown_token event.1.1

-- the step of an event
abbrev pub step_of : Event → Step
step_of event = record { enters = event.0; is_node = event.1.0; kind = (item_of event.1.1).kind; shown = shown_at event }

-- whether an event is a step: a token is passed once, and white space is left out
abbrev pub is_step : Event → Bool
is_step event = event.1.0 || (event.0 && not (same_kind (item_of event.1.1).kind TOKEN_WHITESPACE))

-- a step followed by others, or these alone if the flag is false
abbrev pub step_if : Bool → Step → List Step → List Step
step_if true step steps = step ∷ steps
step_if false step steps = steps

-- the steps of events
abbrev pub steps_of : List Event → List Step
steps_of [] = []
steps_of (event ∷ events) = step_if (is_step event) (step_of event) (steps_of events)

-- the steps of a walk over a tree
abbrev pub steps_in : Tree → List Step
steps_in tree = steps_of (preorder_of record { tree = tree; number = 0 })
