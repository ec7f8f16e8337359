-- The source of the value of an attribute, given what is found on its path.
use Rattle.std.proofs.Common.{◌≡◌, ℕ, Bool, List, [], ◌∷◌, map, string_bytes, subst}
use Rattle.std.specs.Prelude.{Result, Ok, Err, IfOk}
use Rattle.rnix_kinds.specs.Lexical.Tokens.{tokens_of}
use Rattle.rnix_green.specs.Tree.{Located}
use Rattle.{rnix_grammar.specs.Parsed.IsParsed, rnix.specs.ParseResult.{Reading}, rnix_edit.specs.Edited.root_in}
use Rattle.nix_update.specs.declared.{definitions.Definition.{Definition}, path.Path.{Path}, steps.PathStep.{PathStep}}
use Rattle.nix_update.specs.declared.source.{Sought.{Sought}, Source.{Source}}
use Rattle.nix_update.specs.declared.source.Sought.TheVariants as sought
use Rattle.nix_update.specs.{Path.{IsPath}, PathSteps.{ArePathSteps, definitions_in}}
use Rattle.nix_update.specs.Sources.{IsEntrySought, IsSought, IsNoOnlySource, IsSourceAlong, IsSourceOf}

-- what is found for the only entry that defines the attribute is what is found among the entries
pub only_sought : {E : Type 0} (of_let : Bool) (names : List (List ℕ)) (steps : List PathStep) (definition : Definition) (r : Result Sought E) →
    definitions_in names of_let steps ≡ definition ∷ [] → IfOk r (IsEntrySought definition) → IfOk r (IsSought of_let names steps)
only_sought of_let names steps definition (Ok (sought.Found text offset)) only is = record { definition = definition; only = only; is_source = is }
only_sought of_let names steps definition (Ok sought.Missing) only is = absurd is
only_sought of_let names steps definition (Ok (sought.Refused refused)) only is = IsNoOnlySource.only definition only is
only_sought of_let names steps definition (Err e) only is = tt

-- what is found along the path is what is found in the text
pub whole_source : {E : Type 0} (path text : List ℕ) (found : Path) (read : Reading) (root : Located) (steps : List PathStep) (r : Result Source E) →
    IsPath path (map string_bytes found.names.items) found.starts.items → IsParsed (tokens_of text) read.tree read.faults → read.faults ≡ [] →
    root ≡ root_in read.tree → ArePathSteps (map string_bytes found.names.items) root steps →
    IfOk r (IsSourceAlong (map string_bytes found.names.items) steps) → IfOk r (IsSourceOf path text)
whole_source path text found read root steps (Ok source) is_path is_read none is_root are_steps is = IsSourceOf.along record {
  names = map string_bytes found.names.items;
  starts = found.starts.items;
  is_path = is_path;
  tree = read.tree;
  is_read = subst (λ faults. IsParsed (tokens_of text) read.tree faults) none is_read;
  steps = steps;
  are_steps = subst (λ e. ArePathSteps (map string_bytes found.names.items) e steps) is_root are_steps;
  is_source = is;
}
whole_source path text found read root steps (Err e) is_path is_read none is_root are_steps is = tt
