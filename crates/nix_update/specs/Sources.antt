-- The source of the value of an attribute.
use Rattle.std.specs.Prelude.{◌≡◌, ◌<◌, ℕ, Bool, true, false, List, [], ◌∷◌, length, Some, None, string_bytes}
use Rattle.rnix_kinds.specs.Lexical.Tokens.{tokens_of}
use Rattle.rnix_green.specs.Tree.{Tree, Located, text_at}
use Rattle.rnix_base.specs.Select.{child_of}
use Rattle.rnix_grammar.specs.Parsed.{IsParsed}
use Rattle.rnix.specs.NodeKinds.{is_expr}
use Rattle.rnix_edit.specs.Edited.{root_in, IsReadWithErrors}
use Rattle.nix_update.specs.declared.definitions.Definition.{Definition}
use Rattle.nix_update.specs.declared.outcome.Reason.{Reason}
use Rattle.nix_update.specs.declared.outcome.Reason.TheVariants as reason
use Rattle.nix_update.specs.declared.outcome.Refused.{Refused}
use Rattle.nix_update.specs.declared.path_match.PathMatch.TheVariants as matches
use Rattle.nix_update.specs.declared.source.Sought.{Sought}
use Rattle.nix_update.specs.declared.source.Sought.TheVariants as sought
use Rattle.nix_update.specs.declared.source.Source.{Source}
use Rattle.nix_update.specs.declared.source.Source.TheVariants as source
use Rattle.nix_update.specs.declared.steps.PathStep.{PathStep}
use Rattle.nix_update.specs.NotUpdated.{IsInexact}
use Rattle.nix_update.specs.Path.{IsPath, IsNoPath}
use Rattle.nix_update.specs.PathSteps.{ArePathSteps, definitions_in}

-- an entry defines the whole attribute, and this is the text of its value
pub record IsEntrySource (definition : Definition) (text : List ℕ) : Type 0 where
  pub exact : definition.path_match ≡ matches.Exact
  pub node : Located
  pub node_is : child_of is_expr 0 definition.entry ≡ Some node
  pub text_is : text ≡ text_at node

-- why an entry has no such value: it does not define all of the attribute, or has no value
pub data IsNoEntrySource (definition : Definition) (why : Reason) : Type 0 where
  inexact : ¬ (definition.path_match ≡ matches.Exact) → IsInexact definition.path_match why → IsNoEntrySource definition why
  missing : why ≡ reason.NotNix → definition.path_match ≡ matches.Exact → child_of is_expr 0 definition.entry ≡ None → IsNoEntrySource definition why

-- the only entry that defines the attribute, among those of sets or of a `let`, defines all of it, and this is the text of its value
pub record IsOnlySource (of_let : Bool) (names : List (List ℕ)) (steps : List PathStep) (text : List ℕ) : Type 0 where
  pub definition : Definition
  pub only : definitions_in names of_let steps ≡ definition ∷ []
  pub is_source : IsEntrySource definition text

-- why these entries have no such value: several define the attribute, or the only one has none
pub data IsNoOnlySource (of_let : Bool) (names : List (List ℕ)) (steps : List PathStep) (why : Reason) : Type 0 where
  several : why ≡ reason.SeveralEntries → 1 < length (definitions_in names of_let steps) → IsNoOnlySource of_let names steps why
  only : (definition : Definition) → definitions_in names of_let steps ≡ definition ∷ [] → IsNoEntrySource definition why →
      IsNoOnlySource of_let names steps why

-- what is found for the only entry that defines the attribute
abbrev pub IsEntrySought : Definition → Sought → Type 0
IsEntrySought definition (sought.Found text offset) = IsEntrySource definition (string_bytes text)
IsEntrySought definition sought.Missing = ⊥
IsEntrySought definition (sought.Refused refused) = IsNoEntrySource definition refused.reason

-- what is found among the entries of sets or of a `let`
abbrev pub IsSought : Bool → List (List ℕ) → List PathStep → Sought → Type 0
IsSought of_let names steps (sought.Found text offset) = IsOnlySource of_let names steps (string_bytes text)
IsSought of_let names steps sought.Missing = definitions_in names of_let steps ≡ []
IsSought of_let names steps (sought.Refused refused) = IsNoOnlySource of_let names steps refused.reason

-- why there is no source along a path: the entries of sets have none, or there are none of these, and those of a `let` have none, or there are none either
pub data IsNoSource (names : List (List ℕ)) (steps : List PathStep) (why : Reason) : Type 0 where
  of_sets : IsNoOnlySource false names steps why → IsNoSource names steps why
  of_let : definitions_in names false steps ≡ [] → IsNoOnlySource true names steps why → IsNoSource names steps why
  none : why ≡ reason.NoAttribute → definitions_in names false steps ≡ [] → definitions_in names true steps ≡ [] → IsNoSource names steps why

-- what is found along a path: the value of an attribute, or if no entry of a set defines it, that of a name of a `let`
abbrev pub IsSourceAlong : List (List ℕ) → List PathStep → Source → Type 0
IsSourceAlong names steps (source.Attribute text) = IsOnlySource false names steps (string_bytes text)
IsSourceAlong names steps (source.NameOfLet text offset) =
    (definitions_in names false steps ≡ []) × IsOnlySource true names steps (string_bytes text)
IsSourceAlong names steps (source.Refused refused) = IsNoSource names steps refused.reason

-- what is found along the path in a text, which is parsed without errors
pub record IsSourceIn (path text : List ℕ) (found : Source) : Type 0 where
  pub names : List (List ℕ)
  pub starts : List ℕ
  pub is_path : IsPath path names starts
  pub tree : Tree
  pub is_read : IsParsed (tokens_of text) tree []
  pub steps : List PathStep
  pub are_steps : ArePathSteps names (root_in tree) steps
  pub is_source : IsSourceAlong names steps found

-- the source of the value of the attribute with a path, or why there is none
pub data IsSourceOf (path text : List ℕ) (found : Source) : Type 0 where
  no_path : (refused : Refused) → found ≡ source.Refused refused → refused.reason ≡ reason.NotAPath → IsNoPath path → IsSourceOf path text found
  no_nix : (refused : Refused) → found ≡ source.Refused refused → refused.reason ≡ reason.NotNix → IsReadWithErrors text → IsSourceOf path text found
  along : IsSourceIn path text found → IsSourceOf path text found
