-- The result of an update of a text, given what is found on its path.
use Rattle.std.proofs.Common.{◌≡◌, ℕ, List, [], map, string_bytes, subst, sym, inl, inr, ◌⊎◌}
use Rattle.std.specs.Prelude.{Result, Ok, Err, IfOk}
use Rattle.rnix_kinds.specs.Lexical.Tokens.{tokens_of}
use Rattle.rnix_green.specs.Tree.{Located}
use Rattle.{rnix_grammar.specs.Parsed.IsParsed, rnix.specs.ParseResult.{Reading}, rnix_edit.specs.Edited.root_in}
use Rattle.nix_update.specs.{declared.{outcome.{Outcome.{Outcome}, Refused.{Refused}}, request.Update.{Update}, steps.PathStep.{PathStep}, path.Path.{Path}}, Path.{IsPath}, PathSteps.{ArePathSteps}}
use Rattle.nix_update.specs.declared.outcome.Reason.{Reason}
use Rattle.nix_update.specs.declared.outcome.Reason.TheVariants as reason
use Rattle.nix_update.specs.Updated.{IfNew, HasNoMoreRepeated, IsOutcome, IsOutcomeOf}
use Rattle.nix_update.specs.NotUpdated.{IfNone, IsAttributeRefused}
use Rattle.nix_update.specs.Results.{HasMoreRepeated, HasNew, IsUpdateRefused, IsRefusedOf, IsRefused, IsUpdated}
use Rattle.nix_update.specs.declared.outcome.Outcome.TheVariants as outcome

module _ (update : Update) (text : List ℕ) (path : Path) (read : Reading) (root : Located) (steps : List PathStep)
    (same : path.text.now ≡ update.path.now) (is_path : IsPath update.path.now (map string_bytes path.names.items) path.starts.items)
    (is_read : IsParsed (tokens_of text) read.tree read.faults) (none : read.faults ≡ []) (is_root : root ≡ root_in read.tree)
    (are_steps : ArePathSteps (map string_bytes path.names.items) root steps) where
  outcome_found : (made : Outcome) → IsOutcome update (map string_bytes path.names.items) path.text.now path.starts.items steps text root made →
      IfNew (HasNoMoreRepeated root) made → IsOutcomeOf update text made
  outcome_found made h fewer = record {
    names = map string_bytes path.names.items;
    starts = path.starts.items;
    is_path = is_path;
    tree = read.tree;
    is_read = subst (λ faults. IsParsed (tokens_of text) read.tree faults) none is_read;
    steps = steps;
    are_steps = subst (λ e. ArePathSteps (map string_bytes path.names.items) e steps) is_root are_steps;
    is_outcome = subst (λ e. IsOutcome update (map string_bytes path.names.items) update.path.now path.starts.items steps text e made) is_root
        (subst (λ p. IsOutcome update (map string_bytes path.names.items) p path.starts.items steps text root made) same h);
    repeated = subst (λ e. IfNew (HasNoMoreRepeated e) made) is_root fewer;
  }

  -- the outcome that was accepted is the one that was found
  accepted : (found made : Outcome) → IsOutcome update (map string_bytes path.names.items) path.text.now path.starts.items steps text root found →
      IfNew (HasNoMoreRepeated root) made → made ≡ found → IsOutcomeOf update text made
  accepted found made h fewer is =
      outcome_found made (subst (IsOutcome update (map string_bytes path.names.items) path.text.now path.starts.items steps text root) (sym is) h) fewer

  refusal_found : (why : Reason) → IsUpdateRefused update (map string_bytes path.names.items) path.text.now path.starts.items steps text root why →
      IsRefusedOf update text why
  refusal_found why h = record {
    names = map string_bytes path.names.items;
    starts = path.starts.items;
    is_path = is_path;
    tree = read.tree;
    is_read = subst (λ faults. IsParsed (tokens_of text) read.tree faults) none is_read;
    steps = steps;
    are_steps = subst (λ e. ArePathSteps (map string_bytes path.names.items) e steps) is_root are_steps;
    is_refused = subst (λ e. IsUpdateRefused update (map string_bytes path.names.items) update.path.now path.starts.items steps text e why) is_root
        (subst (λ p. IsUpdateRefused update (map string_bytes path.names.items) p path.starts.items steps text root why) same h);
  }

  -- the refusal that was found, or that of an outcome that was not accepted
  refused_by : (refused : Refused) (found : Outcome) →
      IsOutcome update (map string_bytes path.names.items) path.text.now path.starts.items steps text root found →
      IfNone (IsAttributeRefused update (map string_bytes path.names.items) path.text.now path.starts.items steps text root) found →
      (outcome.Refused refused ≡ found) ⊎ ((refused.reason ≡ reason.Repeated) × HasNew (HasMoreRepeated root) found) →
      IsRefused update text refused.reason
  refused_by refused found is causes (inl kept) =
      IsRefused.not_updated (refusal_found refused.reason (IsUpdateRefused.attribute
      (subst (IfNone (IsAttributeRefused update (map string_bytes path.names.items) path.text.now path.starts.items steps text root)) (sym kept) causes)))
  refused_by refused found is causes (inr repeated) =
      IsRefused.not_updated (refusal_found refused.reason (IsUpdateRefused.repeated found repeated.0 is repeated.1))

  pub whole_update : {E : Type 0} (r : Result Outcome E) (found : Outcome) →
      IsOutcome update (map string_bytes path.names.items) path.text.now path.starts.items steps text root found →
      IfNone (IsAttributeRefused update (map string_bytes path.names.items) path.text.now path.starts.items steps text root) found →
      IfOk r (λ made. IfNew (λ new. (made ≡ found) × HasNoMoreRepeated root new) made) →
      IfOk r (λ made. IfNone (λ why. (made ≡ found) ⊎ ((why ≡ reason.Repeated) × HasNew (HasMoreRepeated root) found)) made) →
      IfOk r (IsUpdated update text)
  whole_update (Ok (outcome.Updated made)) found is causes h why = accepted found (outcome.Updated made) is h.1 h.0
  whole_update (Ok (outcome.SetInLet made offset)) found is causes h why = accepted found (outcome.SetInLet made offset) is h.1 h.0
  whole_update (Ok (outcome.Refused refused)) found is causes h why = refused_by refused found is causes why
  whole_update (Err e) found is causes h why = tt
