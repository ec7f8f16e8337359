-- A tree as the steps of a walk over it, without white space.
use Rattle.std.specs.Prelude.{◌≡◌, ℕ, ◌-◌, ◌≤◌, ◌==◌, ◌&&◌, Bool, true, false, not, List, [], ◌∷◌, ◌++◌, flat_map, length, map, take, drop, if◌then◌else◌}
use Rattle.std.specs.Bool.{beq}
use Rattle.std.specs.Str.{bytes_eq}
use Rattle.std.specs.List.{All, list_any, list_all}
use Rattle.rnix_kinds.specs.declared.kinds.SyntaxKind.{SyntaxKind}
use Rattle.rnix_kinds.specs.declared.kinds.SyntaxKind.TheVariants as k
use Rattle.rnix_green.specs.Equality.{same_kind}
use Rattle.rnix_green.specs.Tree.{Located, item_of, text_at}
use Rattle.rnix_green.specs.Walk.{Event, preorder_of, elements_of, nodes_in}
use Rattle.rnix_tree.specs.WalksAlike.{shown_of, EndsBefore}
use Rattle.rnix_edit.specs.declared.node_range.NodeRange.{NodeRange}
use Rattle.rnix_edit.specs.declared.steps.Step.{Step as Made}

-- a step: a node is entered or left, which shows no text, or a token is passed
pub record Step : Type 0 where
  pub enters : Bool
  pub kind : SyntaxKind
  pub text : List ℕ

-- the step that a value of the program represents
abbrev pub step_of : Made → Step
step_of step = record { enters = step.enters; kind = step.kind; text = step.text.now }

-- two steps are equal
abbrev pub same_step : Step → Step → Bool
same_step a b = beq a.enters b.enters && (same_kind a.kind b.kind && bytes_eq a.text b.text)

-- the step of entering or leaving a node
abbrev pub node_step : Bool → SyntaxKind → Step
node_step enters kind = record { enters = enters; kind = kind; text = [] }

-- the step of a token
abbrev pub token_step : SyntaxKind → List ℕ → Step
token_step kind text = record { enters = true; kind = kind; text = text }

-- the step of a token of a kind, unless that is white space
abbrev pub token_steps : SyntaxKind → List ℕ → List Step
token_steps kind text = if same_kind kind k.TOKEN_WHITESPACE then [] else token_step kind text ∷ []

-- the step of an event of a walk: none for white space, and none when a token is left
abbrev pub step_at : Event → List Step
step_at event =
    if event.1.0 then node_step event.0 (item_of event.1.1).kind ∷ []
    else (if event.0 then token_steps (item_of event.1.1).kind (text_at event.1.1) else [])

-- the steps of the events of a walk
abbrev pub steps_of : List Event → List Step
steps_of events = flat_map step_at events

-- the steps of a walk over an element
abbrev pub steps_in : Located → List Step
steps_in root = steps_of (preorder_of root)

-- the range of a node: its kind, its start, and its length
abbrev pub node_range_of : Located → NodeRange
node_range_of e = record { kind = (item_of e).kind; start = (item_of e).start; len = (item_of e).end - (item_of e).start }

-- two ranges are equal
abbrev pub same_node_range : NodeRange → NodeRange → Bool
same_node_range a b = same_kind a.kind b.kind && (a.start == b.start && a.len == b.len)

-- whether an element is the node with a range
abbrev pub is_at : NodeRange → Located → Bool
is_at target e = same_node_range (node_range_of e) target

-- whether a node inside an element has the range
abbrev pub has_node : NodeRange → Located → Bool
has_node target root = list_any (is_at target) (nodes_in (elements_of root))

-- whether an event enters the node with a range
abbrev pub enters : NodeRange → Event → Bool
enters target event = event.0 && (event.1.0 && is_at target event.1.1)

-- whether an event leaves the node with a range
abbrev pub leaves : NodeRange → Event → Bool
leaves target event = not event.0 && (event.1.0 && is_at target event.1.1)

-- the events before the node with a range is entered
abbrev pub events_before : NodeRange → List Event → List Event
events_before target [] = []
events_before target (event ∷ events) = if enters target event then [] else event ∷ events_before target events

-- the events after the node with a range is left
abbrev pub events_after : NodeRange → List Event → List Event
events_after target [] = []
events_after target (event ∷ events) = if leaves target event then events else events_after target events

-- the events after the node with a range is entered
abbrev pub events_inside : NodeRange → List Event → List Event
events_inside target [] = []
events_inside target (event ∷ events) = if enters target event then events else events_inside target events

-- whether the node with a range is left
abbrev pub is_exited : NodeRange → List Event → Bool
is_exited target events = list_any (leaves target) events

-- the steps of a walk over an element before the node with a range
abbrev pub steps_before : NodeRange → Located → List Step
steps_before target root = steps_of (events_before target (preorder_of root))

-- the steps of a walk over an element after the node with a range
abbrev pub steps_after : NodeRange → Located → List Step
steps_after target root = steps_of (events_after target (preorder_of root))

-- whether a step passes a comment
abbrev pub is_comment : Step → Bool
is_comment step = same_kind step.kind k.TOKEN_COMMENT

-- whether the first step enters a node or passes a token
abbrev pub enters_first : List Step → Bool
enters_first [] = false
enters_first (step ∷ steps) = step.enters

-- the first steps, as many as given, pass comments
abbrev pub AreComments : ℕ → List Step → Type 0
AreComments count all = (count ≤ length all) × (list_all is_comment (take count all) ≡ true)

-- whether the steps begin with a number of comments; if they do, these steps remain after them
pub record AreCommentsTaken (taken : Bool) (count : ℕ) (all remaining : List Step) : Type 0 where
  pub passed : taken ≡ true → AreComments count all × (remaining ≡ drop count all)
  pub found : AreComments count all → taken ≡ true

-- there are at least two steps, and the first of them enters an element
abbrev pub IsClosing : List Step → Type 0
IsClosing all = (2 ≤ length all) × (enters_first all ≡ true)

-- whether the steps begin so; if they do, these steps remain after the first two
pub record IsClosingTaken (taken : Bool) (all remaining : List Step) : Type 0 where
  pub passed : taken ≡ true → IsClosing all × (remaining ≡ drop 2 all)
  pub found : IsClosing all → taken ≡ true

-- whether steps begin with the given ones; if they do, these steps remain after them
pub record AreTaken (taken : Bool) (first all remaining : List Step) : Type 0 where
  pub passed : taken ≡ true → all ≡ first ++ remaining
  pub found : (rest : List Step) → all ≡ first ++ rest → taken ≡ true

-- both walks have passed events that show the same, if any, of elements that end before the two offsets
pub record ArePassed (before other_before : ℕ) (a b a_remaining b_remaining : List Event) : Type 0 where
  pub passed : List Event
  pub other_passed : List Event
  pub first : a ≡ passed ++ a_remaining
  pub second : b ≡ other_passed ++ b_remaining
  pub alike : map shown_of passed ≡ map shown_of other_passed
  pub ends : All (EndsBefore before) passed
  pub other_ends : All (EndsBefore other_before) other_passed
