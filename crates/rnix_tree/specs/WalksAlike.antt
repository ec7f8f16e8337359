-- What walks show of the elements that they pass.
use Rattle.std.specs.Prelude.{◌≡◌, ℕ, zero, suc, ◌<◌, nat_lt, Bool, true, false, List, [], ◌∷◌, ◌++◌, length, map, Option, Some, None, if◌then◌else◌}
use Rattle.std.specs.List.{All}
use Rattle.rnix_kinds.specs.declared.kinds.SyntaxKind.{SyntaxKind}
use Rattle.rnix_green.specs.Tree.{item_of, text_at}
use Rattle.rnix_green.specs.Walk.{Event}

-- what an event shows: whether its element is entered, whether that is a node, its kind, and the text of a token
pub record Shown : Type 0 where
  pub enters : Bool
  pub is_node : Bool
  pub kind : SyntaxKind
  pub text : List ℕ

-- what an event shows of an element that is known by these
abbrev pub shown_event : Bool → Bool → SyntaxKind → List ℕ → Shown
shown_event enters is_node kind text = record { enters = enters; is_node = is_node; kind = kind; text = if is_node then [] else text }

-- what an event shows
abbrev pub shown_of : Event → Shown
shown_of event = shown_event event.0 event.1.0 (item_of event.1.1).kind (text_at event.1.1)

-- the element of an event ends before an offset
abbrev pub EndsBefore : ℕ → Event → Type 0
EndsBefore offset event = (item_of event.1.1).end < offset

-- the events of the siblings that a walk enters next and that end before an offset, with what is inside them; the depth is the number of elements
-- among them that the walk has entered and not left
abbrev pub siblings_before : ℕ → ℕ → List Event → List Event
siblings_before offset zero [] = []
siblings_before offset (suc d) [] = []
siblings_before offset zero ((true, e) ∷ es) = if nat_lt (item_of e.1).end offset then (true, e) ∷ siblings_before offset 1 es else []
siblings_before offset zero ((false, e) ∷ es) = []
siblings_before offset (suc d) ((true, e) ∷ es) = (true, e) ∷ siblings_before offset (suc (suc d)) es
siblings_before offset (suc d) ((false, e) ∷ es) = (false, e) ∷ siblings_before offset d es

-- a walk begins with events that show the same as others, of elements that end before an offset
pub record BeginsAlike (passed : List Event) (offset : ℕ) (b : List Event) : Type 0 where
  pub other_passed : List Event
  pub remaining : List Event
  pub split : b ≡ other_passed ++ remaining
  pub alike : map shown_of passed ≡ map shown_of other_passed
  pub before : All (EndsBefore offset) other_passed

-- two walks have passed events that show the same: the first one the siblings that it enters next and that end before an offset, and no such siblings are
-- next; the second one elements that end before another offset
pub record HavePassed (offset other_offset : ℕ) (a b a_remaining b_remaining : List Event) : Type 0 where
  pub passed : List Event
  pub other_passed : List Event
  pub first : a ≡ passed ++ a_remaining
  pub second : b ≡ other_passed ++ b_remaining
  pub siblings : passed ≡ siblings_before offset 0 a
  pub some : 0 < length passed
  pub alike : map shown_of passed ≡ map shown_of other_passed
  pub before : All (EndsBefore offset) passed
  pub other_before : All (EndsBefore other_offset) other_passed
  pub done : siblings_before offset 0 a_remaining ≡ []

-- the siblings that a walk enters next and that end before an offset are compared with the next ones of another walk: there are none; or they
-- differ, and both walks stay where they are; or they are alike, and both walks have passed them
abbrev pub PassesAlike : ℕ → ℕ → Option Bool → List Event → List Event → List Event → List Event → Type 0
PassesAlike offset other_offset None a b a_remaining b_remaining = (siblings_before offset 0 a ≡ []) × (a_remaining ≡ a) × (b_remaining ≡ b)
PassesAlike offset other_offset (Some false) a b a_remaining b_remaining =
    (0 < length (siblings_before offset 0 a)) × ¬ (BeginsAlike (siblings_before offset 0 a) other_offset b) × (a_remaining ≡ a) × (b_remaining ≡ b)
PassesAlike offset other_offset (Some true) a b a_remaining b_remaining = HavePassed offset other_offset a b a_remaining b_remaining
