-- What the result of formatting a text says about the text.
use Rattle.std.proofs.Common.{◌≡◌, ℕ, List, [], ◌∷◌, length, refl, inl, inr, subst, arith}
use Rattle.rnix_kinds.specs.Lexical.Tokens.{tokens_of}
use Rattle.rnix_green.specs.Tree.{Tree}
use Rattle.rnix_grammar.specs.{Fault.Fault, Reading.IsReading, Parsed.IsParsed}
use Rattle.rnix_parser.proofs.OneReading.{one_reading}
use Rattle.nix_formatting.specs.{SpaceChange.IsSpaceChange, WalkSteps.steps_in, WithoutCommas.kept_steps, Reindented.IsReformatted, Retokened.IsRetokened}
use Rattle.nix_formatting.proofs.OutlineLemmas.{outlines_same, values_same, nix_values_same}
use Rattle.nix_formatting.proofs.WithoutCommasLemmas.{trees_alike, string_values_alike, nix_values_alike}
use Rattle.nix_formatting.specs.Formatted.{IsWithoutErrors, IsWithErrors}

-- a text cannot both have errors and have none
not_both : (text : List ℕ) → IsWithErrors text → IsWithoutErrors text → ⊥
not_both text faulty faultless =
    faulty.some (one_reading (tokens_of text) faulty.tree faultless.0 faulty.faults [] faulty.read faultless.1).1

-- a text that is parsed without errors has none
pub faultless : (text : List ℕ) (tree : Tree) (faults : List Fault) → IsParsed (tokens_of text) tree faults → faults ≡ [] → IsWithoutErrors text
faultless text tree faults parsed none = (tree, subst (IsReading (tokens_of text) tree) none parsed.reading)

-- a text in which only white space changed is reformatted
pub only_space_changed : (old new : List ℕ) → IsSpaceChange old new → IsReformatted old new
only_space_changed old new h = inl h

-- a text is reformatted if both texts are parsed without errors and walks over their trees have the same steps
pub reindented : (old new : List ℕ) (before after : Tree) (ds es : List Fault) → IsParsed (tokens_of old) before ds → ds ≡ []
    → IsParsed (tokens_of new) after es → es ≡ [] → steps_in after ≡ steps_in before → IsReformatted old new
reindented old new before after ds es old_parsed old_none new_parsed new_none steps = inr record {
  before = before;
  after = after;
  old_read = subst (IsReading (tokens_of old) before) old_none old_parsed.reading;
  new_read = subst (IsReading (tokens_of new) after) new_none new_parsed.reading;
  trees = outlines_same before after steps;
  values = values_same before after steps;
  nix_values = nix_values_same before after steps;
}

-- a text is retokened if both texts are parsed without errors and walks over their trees have the same kept steps
pub retokened : (old new : List ℕ) (before after : Tree) (ds es : List Fault) → IsParsed (tokens_of old) before ds → ds ≡ []
    → IsParsed (tokens_of new) after es → es ≡ [] → kept_steps (steps_in after) ≡ kept_steps (steps_in before) → IsRetokened old new
retokened old new before after ds es old_parsed old_none new_parsed new_none steps = record {
  before = before;
  after = after;
  old_read = subst (IsReading (tokens_of old) before) old_none old_parsed.reading;
  new_read = subst (IsReading (tokens_of new) after) new_none new_parsed.reading;
  trees = trees_alike before after steps;
  values = string_values_alike before after steps;
  nix_values = nix_values_alike before after steps;
}

-- a list of length 0 is empty
pub nil_from_length : {A : Type 0} (xs : List A) → length xs ≡ 0 → xs ≡ []
nil_from_length [] e = refl
nil_from_length (x ∷ xs) e = absurd (omega (arith, e))
