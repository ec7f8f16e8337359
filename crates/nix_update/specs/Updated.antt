-- The result of an update of a text.
use Rattle.std.specs.Prelude.{◌≡◌, ◌⊎◌, ◌≤◌, ℕ, nat_eq, nat_lt, ◌&&◌, ◌||◌, not, Bool, true, false, if◌then◌else◌, List, [], ◌∷◌, ◌++◌, codes, length, drop, flat_map, find, slice_get, Option, Some, None, string_bytes}
use Rattle.rnix_kinds.specs.declared.kinds.SyntaxKind.{SyntaxKind}
use Rattle.rnix_kinds.specs.declared.kinds.SyntaxKind.TheVariants as k
use Rattle.rnix_kinds.specs.Lexical.Tokens.{tokens_of}
use Rattle.rnix_green.specs.Tree.{Tree, Located, item_of, extent_of}
use Rattle.rnix_green.specs.Equality.{same_kind}
use Rattle.rnix_green.specs.Walk.{nodes_in, elements_of, children_of}
use Rattle.rnix_base.specs.Select.{child_of}
use Rattle.rnix_grammar.specs.Parsed.{IsParsed}
use Rattle.rnix.specs.NodeKinds.{is_expr, is_entry}
use Rattle.rnix.specs.ParseResult.{Reading, root_of}
use Rattle.rnix_edit.specs.Edited.{root_in, IsRemoved, IsInsertedAfter, IsInsertedInside}
use Rattle.nix_scopes.specs.declared.resolution.Resolution.{Resolution}
use Rattle.nix_scopes.specs.Alike.{IsResolution}
use Rattle.nix_attributes.specs.Repeated.{repeated_in}
use Rattle.nix_update.specs.declared.meaning.Change.{Change}
use Rattle.nix_update.specs.declared.path_match.PathMatch.TheVariants as matches
use Rattle.nix_update.specs.declared.definitions.Definition.{Definition}
use Rattle.nix_update.specs.declared.steps.PathStep.{PathStep}
use Rattle.nix_update.specs.declared.value.Form.{Form}
use Rattle.nix_update.specs.declared.outcome.Attempt.{Attempt}
use Rattle.nix_update.specs.declared.outcome.Attempt.TheVariants as attempt
use Rattle.nix_update.specs.declared.outcome.Outcome.{Outcome}
use Rattle.nix_update.specs.declared.outcome.Outcome.TheVariants as outcome
use Rattle.nix_update.specs.declared.request.Action.{Action}
use Rattle.nix_update.specs.declared.request.Action.TheVariants as action
use Rattle.nix_update.specs.declared.request.Update.{Update}
use Rattle.nix_update.specs.NewValue.{IsValueOf, IsSetTo}
use Rattle.nix_update.specs.Lists.{list_in_if, IsElementOf, element_with}
use Rattle.nix_update.specs.PathMatches.{is_removable}
use Rattle.nix_update.specs.Path.{IsPath}
use Rattle.nix_update.specs.PathSteps.{ArePathSteps, definitions_in}
use Rattle.nix_update.specs.SameNames.{HaveSameMeaning, HasNoOpenName, no_range}
use Rattle.nix_update.specs.SpecialNames.{HasNoSpecialName}

-- the value of an entry is set
pub record IsValueSet (form : Form) (value text : List ℕ) (root entry : Located) (made : List ℕ) : Type 0 where
  pub node : Located
  pub node_is : child_of is_expr 0 entry ≡ Some node
  pub set_to : IsSetTo form value text root node made

-- the entry that a longer text has and a shorter one lacks
abbrev pub change_of : Located → List ℕ → List ℕ → Change
change_of entry longer shorter = record {
  start = (item_of entry).start;
  end = (item_of entry).end;
  longer = length longer;
  shorter = length shorter;
}

-- without an entry, the names outside it mean the same
pub record IsMeaningKeptWithout (text : List ℕ) (root entry : Located) (made : List ℕ) : Type 0 where
  pub read : Reading
  pub is_read : IsParsed (tokens_of made) read.tree read.faults
  pub names : Resolution
  pub found : IsResolution root names
  pub others : Resolution
  pub others_found : IsResolution (root_of read) others
  pub alike : HaveSameMeaning (change_of entry text made) names others

-- an entry that defines the attribute with these names, or a part of it, is removed; unless this is forced, names mean the same without it, none outside
-- it that may come from a `with` is one of those that lead from the entry's set to the attribute, and no name of the path is special in its set
pub record IsEntryRemoved (is_forced : Bool) (names : List (List ℕ)) (steps : List PathStep) (text : List ℕ) (root : Located) (definition : Definition)
    (made : List ℕ) : Type 0 where
  pub removable : is_removable definition.path_match ≡ true
  pub removed : IsRemoved text root definition.entry made
  pub kept : is_forced ≡ false → IsMeaningKeptWithout text root definition.entry made
  pub unopened : is_forced ≡ false → HasNoOpenName root (extent_of definition.entry) (drop definition.at names)
  pub plain : is_forced ≡ false → HasNoSpecialName names steps

-- whether a node of a kind is a member of a node: an entry of a set, or an element of a list
abbrev pub is_member : SyntaxKind → Bool
is_member kind = is_entry kind || is_expr kind

-- the last member among these nodes, or else another node
abbrev pub last_among : Option Located → List Located → Option Located
last_among found [] = found
last_among found (e ∷ es) = last_among (if is_member (item_of e).kind then Some e else found) es

-- the last entry of a set, or the last element of a list
abbrev pub last_member : Located → Option Located
last_member e = last_among None (nodes_in (children_of e))

-- whether a node has a kind and begins at an offset
abbrev pub is_parent_at : SyntaxKind → ℕ → Located → Bool
is_parent_at kind start e = same_kind (item_of e).kind kind && nat_eq (item_of e).start start

-- the first node of a kind inside a node that begins at an offset
abbrev pub parent_at : SyntaxKind → ℕ → Located → Option Located
parent_at kind start root = find (is_parent_at kind start) (nodes_in (elements_of root))

-- the last member of that node
abbrev pub member_at : Option Located → Option Located
member_at None = None
member_at (Some e) = last_member e

-- with one more entry at the end of a set, or one more element at the end of a list, the names outside it mean the same
pub record IsMeaningKeptWith (text : List ℕ) (root set : Located) (made : List ℕ) : Type 0 where
  pub read : Reading
  pub is_read : IsParsed (tokens_of made) read.tree read.faults
  pub entry : Located
  pub entry_is : member_at (parent_at (item_of set).kind (item_of set).start (root_of read)) ≡ Some entry
  pub names : Resolution
  pub found : IsResolution root names
  pub others : Resolution
  pub others_found : IsResolution (root_of read) others
  pub alike : HaveSameMeaning (change_of entry made text) others names

-- the text of an entry
abbrev pub entry_text : List ℕ → List ℕ → List ℕ
entry_text names new = names ++ (codes " = " ++ (new ++ codes ";"))

-- a set or a list gets a member of a kind after its last one, or if it has none, before its closing bracket
abbrev pub IsMemberInserted : Option Located → List ℕ → Located → Located → SyntaxKind → List ℕ → List ℕ → Type 0
IsMemberInserted None text root e kind new made = IsInsertedInside text root e kind new made
IsMemberInserted (Some last) text root e kind new made = IsInsertedAfter text root last kind new made

-- a set gets an entry with these names, whose value is what a value means
pub record IsEntryAdded (form : Form) (value names text : List ℕ) (root set : Located) (made : List ℕ) : Type 0 where
  pub kind : SyntaxKind
  pub new : List ℕ
  pub is_value : IsValueOf form value kind new
  pub inserted : IsMemberInserted (last_member set) text root set k.NODE_ATTRPATH_VALUE (entry_text names new) made

-- a list gets a new member after its others; names mean the same with it
pub record IsAppended (text : List ℕ) (root list : Located) (kind : SyntaxKind) (new made : List ℕ) : Type 0 where
  pub inserted : IsMemberInserted (last_member list) text root list kind new made
  pub kept : IsMeaningKeptWith text root list made

-- the first element of a list with a text is removed; names mean the same without it
pub record IsElementRemoved (text : List ℕ) (root list : Located) (new made : List ℕ) : Type 0 where
  pub element : Located
  pub first : element_with new list ≡ Some element
  pub removed : IsRemoved text root element made
  pub kept : IsMeaningKeptWithout text root element made

-- a list loses the first element with a text, if that is the action, or else gets a new element
abbrev pub IsListChanged : Action → List ℕ → Located → Located → SyntaxKind → List ℕ → List ℕ → Type 0
IsListChanged action.RemoveItem text root list kind new made = IsElementRemoved text root list new made
IsListChanged _ text root list kind new made = IsAppended text root list kind new made

-- P holds for the list that the value of an entry writes out, and for the kind and the text of the element that a value means
pub record IsListWith (form : Form) (value : List ℕ) (entry : Located) (P : Located → SyntaxKind → List ℕ → Type 0) : Type 0 where
  pub list : Located
  pub list_is : list_in_if (child_of is_expr 0 entry) ≡ Some list
  pub kind : SyntaxKind
  pub new : List ℕ
  pub is_element : IsElementOf form value kind new
  pub holds : P list kind new

-- the list that the value of an entry writes out is changed, given the element that a value means
abbrev pub IsElementChanged : Action → Form → List ℕ → List ℕ → Located → Located → List ℕ → Type 0
IsElementChanged act form value text root entry made = IsListWith form value entry (λ list kind new. IsListChanged act text root list kind new made)

-- the value of an entry is changed by an action: the list that it writes out gets or loses an element, or another value is set
abbrev pub IsValueChanged : Action → Form → List ℕ → List ℕ → Located → Located → List ℕ → Type 0
IsValueChanged action.Append form value text root entry made = IsElementChanged action.Append form value text root entry made
IsValueChanged action.RemoveItem form value text root entry made = IsElementChanged action.RemoveItem form value text root entry made
IsValueChanged _ form value text root entry made = IsValueSet form value text root entry made

-- an entry defines the whole attribute, and its value is changed
pub record IsEntryChanged (update : Update) (text : List ℕ) (root : Located) (definition : Definition) (made : List ℕ) : Type 0 where
  pub exact : definition.path_match ≡ matches.Exact
  pub is_changed : IsValueChanged update.action update.form update.value.now text root definition.entry made

-- the largest number of names of a path that lead to attributes, but at least this number
abbrev pub longest_prefix : ℕ → List PathStep → ℕ
longest_prefix most [] = most
longest_prefix most (w ∷ steps) = longest_prefix (if not w.in_let && nat_lt most w.at then w.at else most) steps

-- whether an expression along the path is a set to which this number of names lead, none of them a name of a `let`
abbrev pub is_insertion_set : ℕ → PathStep → Bool
is_insertion_set most w = not w.in_let && (nat_eq w.at most && same_kind (item_of w.node).kind k.NODE_ATTR_SET)

-- the expression, if it is such a set
abbrev pub insertion_set_if : ℕ → PathStep → List PathStep
insertion_set_if most w = if is_insertion_set most w then w ∷ [] else []

-- the sets along the path to which the largest number of names lead
abbrev pub insertion_sets_in : List PathStep → List PathStep
insertion_sets_in steps = flat_map (insertion_set_if (longest_prefix 0 steps)) steps

-- the names of a path from an index on, as they are written
pub record IsRest (starts path : List ℕ) (at : ℕ) (rest : List ℕ) : Type 0 where
  pub start : ℕ
  pub start_is : slice_get starts at ≡ Some start
  pub rest_is : rest ≡ drop start path

-- a set gets an entry with the remaining names of the path; unless this is forced, names mean the same with it, none that may come from a `with` is one
-- of those of the entry, and no name of the path is special in its set
pub record IsAddedTo (is_forced : Bool) (form : Form) (value path starts : List ℕ) (names : List (List ℕ)) (steps : List PathStep) (target : PathStep)
    (text : List ℕ) (root : Located) (made : List ℕ) : Type 0 where
  pub rest : List ℕ
  pub are_rest : IsRest starts path target.at rest
  pub added : IsEntryAdded form value rest text root target.node made
  pub kept : is_forced ≡ false → IsMeaningKeptWith text root target.node made
  pub unopened : is_forced ≡ false → HasNoOpenName root no_range (drop target.at names)
  pub plain : is_forced ≡ false → HasNoSpecialName names steps

-- this happens to the only set to which the largest number of names lead
pub record IsAdded (is_forced : Bool) (form : Form) (value path starts : List ℕ) (names : List (List ℕ)) (steps : List PathStep) (text : List ℕ)
    (root : Located) (made : List ℕ) : Type 0 where
  pub target : PathStep
  pub only : insertion_sets_in steps ≡ target ∷ []
  pub added : IsAddedTo is_forced form value path starts names steps target text root made

-- the only entry that defines the attribute, among those of sets or of a `let`, defines all of it, and its value is changed
pub record IsOnlyChanged (of_let : Bool) (update : Update) (names : List (List ℕ)) (steps : List PathStep) (text : List ℕ) (root : Located) (made : List ℕ)
    : Type 0 where
  pub definition : Definition
  pub only : definitions_in names of_let steps ≡ definition ∷ []
  pub is_changed : IsEntryChanged update text root definition made

-- the result of an action on the attribute that a single entry defines
abbrev pub IsDefinitionUpdated : Action → Update → List (List ℕ) → List PathStep → List ℕ → Located → Definition → List ℕ → Type 0
IsDefinitionUpdated action.Remove update names steps text root definition made =
    IsEntryRemoved update.is_forced names steps text root definition made
IsDefinitionUpdated _ update names steps text root definition made = IsEntryChanged update text root definition made

-- whether an action changes the value of a name of a `let`, if no attribute has the path
abbrev pub reaches_let : Action → Bool
reaches_let action.Add = false
reaches_let action.Remove = false
reaches_let _ = true

-- P holds for the new text, if there is one
abbrev pub IfMade : (List ℕ → Type 0) → Attempt → Type 0
IfMade P (attempt.Made made) = P (string_bytes made)
IfMade P (attempt.Refused refused) = Unit {0}

-- P holds for the new text, if there is one in which no value of a name of a `let` is changed
abbrev pub IfUpdated : (List ℕ → Type 0) → Outcome → Type 0
IfUpdated P (outcome.Updated made) = P (string_bytes made)
IfUpdated P (outcome.SetInLet made offset) = Unit {0}
IfUpdated P (outcome.Refused refused) = Unit {0}

-- P holds for the new text, if there is one in which the value of a name of a `let` is changed
abbrev pub IfSetInLet : (List ℕ → Type 0) → Outcome → Type 0
IfSetInLet P (outcome.Updated made) = Unit {0}
IfSetInLet P (outcome.SetInLet made offset) = P (string_bytes made)
IfSetInLet P (outcome.Refused refused) = Unit {0}

-- an attempt as an outcome
abbrev pub outcome_of : Attempt → Outcome
outcome_of (attempt.Made made) = outcome.Updated made
outcome_of (attempt.Refused refused) = outcome.Refused refused

-- the result of an update of an attribute that no entry defines: it is added, or the value of a name of a `let` is changed
abbrev pub IsUndefinedUpdated : Update → List (List ℕ) → List ℕ → List ℕ → List PathStep → List ℕ → Located → Outcome → Type 0
IsUndefinedUpdated update names path starts steps text root (outcome.Updated made) =
    (update.action ≡ action.Add)
    × IsAdded update.is_forced update.form update.value.now path starts names steps text root (string_bytes made)
IsUndefinedUpdated update names path starts steps text root (outcome.SetInLet made offset) =
    (reaches_let update.action ≡ true) × IsOnlyChanged true update names steps text root (string_bytes made)
IsUndefinedUpdated update names path starts steps text root (outcome.Refused refused) = Unit {0}

-- a single entry of a set defines the attribute, or a part of it, and is updated
pub record IsSingleUpdated (update : Update) (names : List (List ℕ)) (steps : List PathStep) (text : List ℕ) (root : Located) (made : List ℕ) : Type 0 where
  pub definition : Definition
  pub only : definitions_in names false steps ≡ definition ∷ []
  pub is_updated : IsDefinitionUpdated update.action update names steps text root definition made

-- the result of an update where no entry of a set defines the attribute
abbrev pub IsNoneUpdated : Update → List (List ℕ) → List ℕ → List ℕ → List PathStep → List ℕ → Located → Outcome → Type 0
IsNoneUpdated update names path starts steps text root made =
    (definitions_in names false steps ≡ []) × IsUndefinedUpdated update names path starts steps text root made

-- the result of an update of a text, given the names of its path and the expressions on it
abbrev pub IsOutcome : Update → List (List ℕ) → List ℕ → List ℕ → List PathStep → List ℕ → Located → Outcome → Type 0
IsOutcome update names path starts steps text root (outcome.Updated made) =
    IsSingleUpdated update names steps text root (string_bytes made) ⊎ IsNoneUpdated update names path starts steps text root (outcome.Updated made)
IsOutcome update names path starts steps text root (outcome.SetInLet made offset) =
    IsNoneUpdated update names path starts steps text root (outcome.SetInLet made offset)
IsOutcome update names path starts steps text root (outcome.Refused refused) = Unit {0}

-- P holds for the new text, if there is one
abbrev pub IfNew : (List ℕ → Type 0) → Outcome → Type 0
IfNew P (outcome.Updated made) = P (string_bytes made)
IfNew P (outcome.SetInLet made offset) = P (string_bytes made)
IfNew P (outcome.Refused refused) = Unit {0}

-- a new text has no more names that define an attribute again than the old one, given the root of the old one
pub record HasNoMoreRepeated (root : Located) (made : List ℕ) : Type 0 where
  pub read : Reading
  pub is_read : IsParsed (tokens_of made) read.tree read.faults
  pub fewer : length (repeated_in (root_of read)) ≤ length (repeated_in root)

-- an outcome is that of the update of a text, which is parsed without errors
pub record IsOutcomeOf (update : Update) (text : List ℕ) (made : Outcome) : Type 0 where
  pub names : List (List ℕ)
  pub starts : List ℕ
  pub is_path : IsPath update.path.now names starts
  pub tree : Tree
  pub is_read : IsParsed (tokens_of text) tree []
  pub steps : List PathStep
  pub are_steps : ArePathSteps names (root_in tree) steps
  pub is_outcome : IsOutcome update names update.path.now starts steps text (root_in tree) made
  pub repeated : IfNew (HasNoMoreRepeated (root_in tree)) made
