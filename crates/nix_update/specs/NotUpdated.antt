-- Why a text is not updated.
use Rattle.std.specs.Prelude.{◌≡◌, ◌<◌, ℕ, Bool, true, false, ◌&&◌, is_none, List, [], ◌∷◌, drop, length, slice_get, Option, Some, None}
use Rattle.std.specs.List.{Contains}
use Rattle.std.specs.Str.{IsCharBoundary}
use Rattle.rnix_kinds.specs.declared.kinds.SyntaxKind.{SyntaxKind}
use Rattle.rnix_kinds.specs.declared.kinds.SyntaxKind.TheVariants as k
use Rattle.rnix_kinds.specs.Lexical.Tokens.{tokens_of}
use Rattle.rnix_green.specs.Equality.{same_kind}
use Rattle.rnix_green.specs.Range.{Extent}
use Rattle.rnix_green.specs.Tree.{Located, item_of, extent_of}
use Rattle.rnix_base.specs.Select.{child_of}
use Rattle.rnix_grammar.specs.Parsed.{IsParsed}
use Rattle.rnix.specs.NodeKinds.{is_expr}
use Rattle.rnix.specs.ParseResult.{Reading, root_of}
use Rattle.rnix_edit.specs.declared.edited.Refusal.{Refusal}
use Rattle.rnix_edit.specs.Edited.{IsRemoved, IsNotRemoved, IsNotInsertedAfter, IsNotInsertedInside}
use Rattle.nix_scopes.specs.declared.resolution.Reference.{Reference}
use Rattle.nix_scopes.specs.declared.resolution.Resolution.{Resolution}
use Rattle.nix_scopes.specs.Alike.{IsResolution}
use Rattle.nix_scopes.specs.Bound.{references_of}
use Rattle.nix_update.specs.declared.definitions.Definition.{Definition}
use Rattle.nix_update.specs.declared.outcome.Attempt.{Attempt}
use Rattle.nix_update.specs.declared.outcome.Attempt.TheVariants as attempt
use Rattle.nix_update.specs.declared.outcome.Outcome.{Outcome}
use Rattle.nix_update.specs.declared.outcome.Outcome.TheVariants as outcome
use Rattle.nix_update.specs.declared.outcome.Reason.{Reason}
use Rattle.nix_update.specs.declared.outcome.Reason.TheVariants as reason
use Rattle.nix_update.specs.declared.path_match.PathMatch.{PathMatch}
use Rattle.nix_update.specs.declared.path_match.PathMatch.TheVariants as matches
use Rattle.nix_update.specs.declared.request.Action.{Action}
use Rattle.nix_update.specs.declared.request.Action.TheVariants as action
use Rattle.nix_update.specs.declared.request.Update.{Update}
use Rattle.nix_update.specs.declared.steps.PathStep.{PathStep}
use Rattle.nix_update.specs.declared.value.Form.{Form}
use Rattle.nix_update.specs.declared.value.Form.TheVariants as forms
use Rattle.nix_update.specs.Lists.{list_in_if, element_with}
use Rattle.nix_update.specs.NewValue.{IsValueOf, IsNoValue, IsNotSetTo}
use Rattle.nix_update.specs.PathMatches.{is_removable}
use Rattle.nix_update.specs.PathSteps.{definitions_in}
use Rattle.nix_update.specs.SpecialNames.{HasSpecialName}
use Rattle.nix_update.specs.SameNames.{HaveSameMeaning, is_open_among, no_range}
use Rattle.nix_update.specs.Updated.{change_of, parent_at, member_at, last_member, entry_text, IsMemberInserted, IsListWith, IsEntryAdded, insertion_sets_in, IsRest}

-- whether an expression is a string without interpolations
abbrev pub is_plain_string : Located → Bool
is_plain_string e = same_kind (item_of e).kind k.NODE_STRING && is_none (child_of (same_kind k.NODE_INTERPOL) 0 e)

-- why the value of an entry is not set
pub data IsValueNotSet (form : Form) (value text : List ℕ) (root entry : Located) (why : Reason) : Type 0 where
  missing : why ≡ reason.NotNix → child_of is_expr 0 entry ≡ None → IsValueNotSet form value text root entry why
  other : (node : Located) → why ≡ reason.NotAString → child_of is_expr 0 entry ≡ Some node → form ≡ forms.Text → is_plain_string node ≡ false →
      IsValueNotSet form value text root entry why
  no_value : why ≡ reason.NotAnExpression → IsNoValue form value → IsValueNotSet form value text root entry why
  not_set : (node : Located) (refusal : Refusal) → why ≡ reason.Edit refusal → child_of is_expr 0 entry ≡ Some node →
      IsNotSetTo refusal form value text root node → IsValueNotSet form value text root entry why

-- why an entry does not define all of the attribute: it is an `inherit`, or defines a part of the attribute
abbrev pub IsInexact : PathMatch → Reason → Type 0
IsInexact matches.Inherited why = why ≡ reason.Inherited
IsInexact _ why = why ≡ reason.PartialDefinition

-- a reference in a text that begins outside a range and may come from a `with` has one of these names
pub record HasOpenName (root : Located) (range : Extent) (names : List (List ℕ)) : Type 0 where
  pub found : Resolution
  pub is_found : IsResolution root found
  pub reference : Reference
  pub there : Contains (references_of found) reference
  pub is_open : is_open_among range names reference ≡ true

-- without an entry, some name outside it means something else
pub record IsMeaningChangedWithout (text : List ℕ) (root entry : Located) (made : List ℕ) : Type 0 where
  pub read : Reading
  pub is_read : IsParsed (tokens_of made) read.tree read.faults
  pub names : Resolution
  pub found : IsResolution root names
  pub others : Resolution
  pub others_found : IsResolution (root_of read) others
  pub differs : ¬ HaveSameMeaning (change_of entry text made) names others

-- why a text is refused from which an entry was removed
pub data IsRemovalRefused (names : List (List ℕ)) (steps : List PathStep) (at : ℕ) (text : List ℕ) (root entry : Located) (made : List ℕ) (why : Reason)
    : Type 0 where
  special : why ≡ reason.SpecialName → HasSpecialName names steps → IsRemovalRefused names steps at text root entry made why
  in_with : why ≡ reason.ChangedMeaning → HasOpenName root (extent_of entry) (drop at names) → IsRemovalRefused names steps at text root entry made why
  changed : why ≡ reason.ChangedMeaning → IsMeaningChangedWithout text root entry made → IsRemovalRefused names steps at text root entry made why

-- why the entry that defines the attribute is not removed: it is an `inherit`, or the rest of the text is read otherwise, or refused unless this is forced
pub data IsEntryNotRemoved (is_forced : Bool) (names : List (List ℕ)) (steps : List PathStep) (text : List ℕ) (root : Located) (definition : Definition)
    (why : Reason) : Type 0 where
  inherited : why ≡ reason.Inherited → is_removable definition.path_match ≡ false → IsEntryNotRemoved is_forced names steps text root definition why
  not_removed : (refusal : Refusal) → why ≡ reason.Edit refusal → IsNotRemoved refusal text root definition.entry →
      IsEntryNotRemoved is_forced names steps text root definition why
  not_accepted : (made : List ℕ) → is_forced ≡ false → IsRemoved text root definition.entry made →
      IsRemovalRefused names steps definition.at text root definition.entry made why → IsEntryNotRemoved is_forced names steps text root definition why

-- with one more entry in a set, some name outside the entry means something else; or the set has no entry then
pub record IsMeaningChangedWith (text : List ℕ) (root set : Located) (made : List ℕ) : Type 0 where
  pub read : Reading
  pub is_read : IsParsed (tokens_of made) read.tree read.faults
  pub names : Resolution
  pub found : IsResolution root names
  pub others : Resolution
  pub others_found : IsResolution (root_of read) others
  pub differs : (entry : Located) → member_at (parent_at (item_of set).kind (item_of set).start (root_of read)) ≡ Some entry →
      ¬ HaveSameMeaning (change_of entry made text) others names

-- why a text is refused in which a set has one more entry
pub data IsAdditionRefused (names : List (List ℕ)) (steps : List PathStep) (at : ℕ) (text : List ℕ) (root set : Located) (made : List ℕ) (why : Reason)
    : Type 0 where
  special : why ≡ reason.SpecialName → HasSpecialName names steps → IsAdditionRefused names steps at text root set made why
  in_with : why ≡ reason.ChangedMeaning → HasOpenName root no_range (drop at names) → IsAdditionRefused names steps at text root set made why
  changed : why ≡ reason.ChangedMeaning → IsMeaningChangedWith text root set made → IsAdditionRefused names steps at text root set made why

-- why a set or a list gets no member of a kind after its last one, or if it has none, before its closing bracket
abbrev pub IsMemberNotInserted : Refusal → Option Located → List ℕ → Located → Located → SyntaxKind → List ℕ → Type 0
IsMemberNotInserted refusal None text root e kind new = IsNotInsertedInside refusal text root e kind new
IsMemberNotInserted refusal (Some last) text root e kind new = IsNotInsertedAfter refusal text root last kind new

-- why a set gets no entry with these names, whose value is what a value means
pub record IsEntryNotAdded (refusal : Refusal) (form : Form) (value names text : List ℕ) (root set : Located) : Type 0 where
  pub kind : SyntaxKind
  pub new : List ℕ
  pub is_value : IsValueOf form value kind new
  pub not_inserted : IsMemberNotInserted refusal (last_member set) text root set k.NODE_ATTRPATH_VALUE (entry_text names new)

-- why a set gets no such entry: there is no value, or the new text is read otherwise
pub data IsEntryRefused (form : Form) (value names text : List ℕ) (root set : Located) (why : Reason) : Type 0 where
  no_value : why ≡ reason.NotAnExpression → IsNoValue form value → IsEntryRefused form value names text root set why
  not_added : (refusal : Refusal) → why ≡ reason.Edit refusal → IsEntryNotAdded refusal form value names text root set →
      IsEntryRefused form value names text root set why

-- why a list gets no new member: the new text is read otherwise, or a name means something else in it
pub data IsNotAppended (text : List ℕ) (root list : Located) (kind : SyntaxKind) (new : List ℕ) (why : Reason) : Type 0 where
  not_inserted : (refusal : Refusal) → why ≡ reason.Edit refusal → IsMemberNotInserted refusal (last_member list) text root list kind new →
      IsNotAppended text root list kind new why
  changed : (made : List ℕ) → why ≡ reason.ChangedMeaning → IsMemberInserted (last_member list) text root list kind new made →
      IsMeaningChangedWith text root list made → IsNotAppended text root list kind new why

-- why no element of a list with a text is removed: there is none, or the rest of the text is read otherwise, or a name means something else in it
pub data IsElementNotRemoved (text : List ℕ) (root list : Located) (new : List ℕ) (why : Reason) : Type 0 where
  none : why ≡ reason.NoElement → element_with new list ≡ None → IsElementNotRemoved text root list new why
  not_removed : (element : Located) (refusal : Refusal) → why ≡ reason.Edit refusal → element_with new list ≡ Some element →
      IsNotRemoved refusal text root element → IsElementNotRemoved text root list new why
  changed : (element : Located) (made : List ℕ) → why ≡ reason.ChangedMeaning → element_with new list ≡ Some element →
      IsRemoved text root element made → IsMeaningChangedWithout text root element made → IsElementNotRemoved text root list new why

-- why a list is not changed by an action
abbrev pub IsListNotChanged : Action → List ℕ → Located → Located → SyntaxKind → List ℕ → Reason → Type 0
IsListNotChanged action.RemoveItem text root list kind new why = IsElementNotRemoved text root list new why
IsListNotChanged _ text root list kind new why = IsNotAppended text root list kind new why

-- why the list that the value of an entry writes out is not changed: there is none, or no element that a value means, or the list is not changed
pub data IsElementNotChanged (act : Action) (form : Form) (value text : List ℕ) (root entry : Located) (why : Reason) : Type 0 where
  no_list : why ≡ reason.NotAList → list_in_if (child_of is_expr 0 entry) ≡ None → IsElementNotChanged act form value text root entry why
  no_value : why ≡ reason.NotAnExpression → IsNoValue form value → IsElementNotChanged act form value text root entry why
  not_changed : IsListWith form value entry (λ list kind new. IsListNotChanged act text root list kind new why) →
      IsElementNotChanged act form value text root entry why

-- why the value of an entry is not changed by an action
abbrev pub IsValueNotChanged : Action → Form → List ℕ → List ℕ → Located → Located → Reason → Type 0
IsValueNotChanged action.Append form value text root entry why = IsElementNotChanged action.Append form value text root entry why
IsValueNotChanged action.RemoveItem form value text root entry why = IsElementNotChanged action.RemoveItem form value text root entry why
IsValueNotChanged _ form value text root entry why = IsValueNotSet form value text root entry why

-- why the value of the entry that defines the attribute is not changed: the entry does not define all of the attribute, or its value is not changed
pub data IsEntryNotChanged (update : Update) (text : List ℕ) (root : Located) (definition : Definition) (why : Reason) : Type 0 where
  inexact : ¬ (definition.path_match ≡ matches.Exact) → IsInexact definition.path_match why → IsEntryNotChanged update text root definition why
  exact : definition.path_match ≡ matches.Exact →
      IsValueNotChanged update.action update.form update.value.now text root definition.entry why →
      IsEntryNotChanged update text root definition why

-- the path has no name with an index, or the name begins inside a character
abbrev pub HasNoRest : List ℕ → List ℕ → ℕ → Type 0
HasNoRest starts path at = (start : ℕ) → slice_get starts at ≡ Some start → ¬ IsCharBoundary path start

-- why the attribute is not added to a set: no names of the path are left, or the set gets no entry, or the new text is refused unless this is forced
pub data IsNotAddedTo (is_forced : Bool) (form : Form) (value path starts : List ℕ) (names : List (List ℕ)) (steps : List PathStep) (target : PathStep)
    (text : List ℕ) (root : Located) (why : Reason) : Type 0 where
  no_rest : why ≡ reason.NotAPath → HasNoRest starts path target.at → IsNotAddedTo is_forced form value path starts names steps target text root why
  no_entry : (rest : List ℕ) → IsRest starts path target.at rest → IsEntryRefused form value rest text root target.node why →
      IsNotAddedTo is_forced form value path starts names steps target text root why
  not_accepted : (rest made : List ℕ) → is_forced ≡ false → IsRest starts path target.at rest → IsEntryAdded form value rest text root target.node made →
      IsAdditionRefused names steps target.at text root target.node made why →
      IsNotAddedTo is_forced form value path starts names steps target text root why

-- why an attribute is not added: there is no set to which the largest number of names lead, or there are several, or it is not added to the only one
pub data IsNotAdded (is_forced : Bool) (form : Form) (value path starts : List ℕ) (names : List (List ℕ)) (steps : List PathStep) (text : List ℕ)
    (root : Located) (why : Reason) : Type 0 where
  no_set : why ≡ reason.NoSet → insertion_sets_in steps ≡ [] → IsNotAdded is_forced form value path starts names steps text root why
  several : why ≡ reason.SeveralSets → 1 < length (insertion_sets_in steps) → IsNotAdded is_forced form value path starts names steps text root why
  only : (target : PathStep) → insertion_sets_in steps ≡ target ∷ [] →
      IsNotAddedTo is_forced form value path starts names steps target text root why →
      IsNotAdded is_forced form value path starts names steps text root why

-- why the value of a name of a `let` is not changed: no entry defines it, or several do, or that of the only one is not changed
pub data IsNotChangedInLet (update : Update) (names : List (List ℕ)) (steps : List PathStep) (text : List ℕ) (root : Located) (why : Reason) : Type 0 where
  none : why ≡ reason.NoAttribute → definitions_in names true steps ≡ [] → IsNotChangedInLet update names steps text root why
  several : why ≡ reason.SeveralEntries → 1 < length (definitions_in names true steps) → IsNotChangedInLet update names steps text root why
  only : (definition : Definition) → definitions_in names true steps ≡ definition ∷ [] →
      IsEntryNotChanged update text root definition why → IsNotChangedInLet update names steps text root why

-- why an attribute that no entry defines is not updated
abbrev pub IsUndefinedRefused : Action → Update → List (List ℕ) → List ℕ → List ℕ → List PathStep → List ℕ → Located → Reason → Type 0
IsUndefinedRefused action.Remove update names path starts steps text root why = why ≡ reason.NoAttribute
IsUndefinedRefused action.Add update names path starts steps text root why =
    IsNotAdded update.is_forced update.form update.value.now path starts names steps text root why
IsUndefinedRefused _ update names path starts steps text root why = IsNotChangedInLet update names steps text root why

-- why an attribute that a single entry defines is not updated
abbrev pub IsDefinitionRefused : Action → Update → List (List ℕ) → List PathStep → List ℕ → Located → Definition → Reason → Type 0
IsDefinitionRefused action.Remove update names steps text root definition why = IsEntryNotRemoved update.is_forced names steps text root definition why
IsDefinitionRefused _ update names steps text root definition why = IsEntryNotChanged update text root definition why

-- why an attribute is not updated: no entry of a set defines it, or several do, or the only one is not updated
pub data IsAttributeRefused (update : Update) (names : List (List ℕ)) (path starts : List ℕ) (steps : List PathStep) (text : List ℕ) (root : Located)
    (why : Reason) : Type 0 where
  undefined : definitions_in names false steps ≡ [] → IsUndefinedRefused update.action update names path starts steps text root why →
      IsAttributeRefused update names path starts steps text root why
  several : why ≡ reason.SeveralEntries → 1 < length (definitions_in names false steps) → IsAttributeRefused update names path starts steps text root why
  only : (definition : Definition) → definitions_in names false steps ≡ definition ∷ [] →
      IsDefinitionRefused update.action update names steps text root definition why → IsAttributeRefused update names path starts steps text root why

-- P holds for the reason why there is no new text, if there is none
abbrev pub IfRefused : (Reason → Type 0) → Attempt → Type 0
IfRefused P (attempt.Made made) = Unit {0}
IfRefused P (attempt.Refused refused) = P refused.reason

-- the same, for an outcome
abbrev pub IfNone : (Reason → Type 0) → Outcome → Type 0
IfNone P (outcome.Updated made) = Unit {0}
IfNone P (outcome.SetInLet made offset) = Unit {0}
IfNone P (outcome.Refused refused) = P refused.reason
