-- Trees whose walks have the same kept steps are the same without commas and the marks of comments, and their strings have the same values.
use Rattle.std.proofs.Common.{◌≡◌, ℕ, Bool, true, false, List, [], ◌∷◌, map, refl, ap, sym, ◌∙◌}
use Rattle.std.specs.Prelude.{◌&&◌, ◌||◌, not}
use Rattle.rnix_kinds.specs.declared.kinds.SyntaxKind.{SyntaxKind}
use Rattle.rnix_kinds.specs.declared.kinds.SyntaxKind.TheVariants.{NODE_STRING, TOKEN_COMMA}
use Rattle.rnix_green.specs.Equality.{same_kind}
use Rattle.rnix_green.specs.Forest.{Forest}
use Rattle.rnix_green.specs.Tree.{Tree, forest_of}
use Rattle.rnix_green.specs.Walk.{preorder_of}
use Rattle.rnix_parser.specs.Significant.{leaf_unless}
use Rattle.nix_formatting.specs.{Outline.outline, WalkSteps.{Step, Shown, step_if, steps_in}}
use Rattle.nix_formatting.specs.Values.{both_values, value_if, values_in, string_values, nix_string_values}
use Rattle.nix_formatting.specs.WithoutCommas.{kept_text, kept_shown, kept_steps, without_commas}
use Rattle.nix_formatting.proofs.OutlineLemmas.{built, rebuilt, step_with, located, rebuilt_tree, first_same, values_shown, values_are}

-- a node that is entered or left, before forests without commas
kept_node : (enters : Bool) (k : SyntaxKind) (u : Shown) (fs : List Forest)
    → built true enters k u (map without_commas fs) ≡ map without_commas (built true enters k u fs)
kept_node false k u fs = refl
kept_node true k u [] = refl
kept_node true k u (c ∷ []) = refl
kept_node true k u (c ∷ (f ∷ fs)) = refl

-- a token, unless it is a comma, before forests without commas
kept_leaf : (is_comma enters : Bool) (k : SyntaxKind) (t v : List ℕ) (ss : List Step) (f : Forest) (fs : List Forest)
    → rebuilt ss ≡ without_commas f ∷ map without_commas fs
    → rebuilt (step_if (not is_comma) (step_with enters false k (t, v)) ss) ≡ leaf_unless is_comma k t (without_commas f) ∷ map without_commas fs
kept_leaf true enters k t v ss f fs h = h
kept_leaf false enters k t v ss f fs h = ap (built false enters k (t, v)) h

kept_nothing : (is_comma enters : Bool) (k : SyntaxKind) (u : Shown) (ss : List Step) → rebuilt ss ≡ []
    → rebuilt (step_if (not is_comma) (step_with enters false k u) ss) ≡ []
kept_nothing true enters k u ss h = h
kept_nothing false enters k u ss h = ap (built false enters k u) h

-- a step before others
kept_before : (is_node enters : Bool) (k : SyntaxKind) (u : Shown) (ss : List Step) (fs : List Forest) → rebuilt ss ≡ map without_commas fs
    → rebuilt (step_if (is_node || not (same_kind k TOKEN_COMMA)) (step_with enters is_node k (kept_shown is_node k u)) ss)
    ≡ map without_commas (built is_node enters k u fs)
kept_before true enters k u ss fs h = ap (built true enters k u) h ∙ kept_node enters k u fs
kept_before false enters k u ss [] h = kept_nothing (same_kind k TOKEN_COMMA) enters k (kept_shown false k u) ss h
kept_before false enters k u ss (f ∷ fs) h = kept_leaf (same_kind k TOKEN_COMMA) enters k (kept_text k u.0) u.1 ss f fs h

-- the kept steps build the forests without commas
kept_rebuilt : (ss : List Step) → rebuilt (kept_steps ss) ≡ map without_commas (rebuilt ss)
kept_rebuilt [] = refl
kept_rebuilt (s ∷ ss) = kept_before s.is_node s.enters s.kind s.shown (kept_steps ss) (rebuilt ss) (kept_rebuilt ss)

kept_tree : (t : Tree) → rebuilt (kept_steps (steps_in t)) ≡ without_commas (outline (forest_of t)) ∷ []
kept_tree t = kept_rebuilt (steps_in t) ∙ ap (map without_commas) (rebuilt_tree t)

-- trees whose walks have the same kept steps are the same without commas and the marks of comments
pub trees_alike : (old new : Tree) → kept_steps (steps_in new) ≡ kept_steps (steps_in old)
    → without_commas (outline (forest_of new)) ≡ without_commas (outline (forest_of old))
trees_alike old new same = first_same (sym (kept_tree new) ∙ ap rebuilt same ∙ kept_tree old)

-- a token shows no value
kept_no_value : (value : Shown → List ℕ) (is_kept enters : Bool) (k : SyntaxKind) (u : Shown) (ss : List Step)
    → values_shown value (step_if is_kept (step_with enters false k u) ss) ≡ values_shown value ss
kept_no_value value false enters k u ss = refl
kept_no_value value true true k u ss = refl
kept_no_value value true false k u ss = refl

no_value : (value : Shown → List ℕ) (enters : Bool) (k : SyntaxKind) (u : List ℕ) (values : List (List ℕ))
    → values ≡ value_if (enters && (false && same_kind NODE_STRING k)) u values
no_value value true k u values = refl
no_value value false k u values = refl

value_before : (value : Shown → List ℕ) (is_node enters : Bool) (k : SyntaxKind) (u : Shown) (ss : List Step) (values : List (List ℕ))
    → values_shown value ss ≡ values
    → values_shown value (step_if (is_node || not (same_kind k TOKEN_COMMA)) (step_with enters is_node k (kept_shown is_node k u)) ss)
    ≡ value_if (enters && (is_node && same_kind NODE_STRING k)) (value u) values
value_before value true enters k u ss values h = ap (value_if (enters && (true && same_kind NODE_STRING k)) (value u)) h
value_before value false enters k u ss values h =
    kept_no_value value (not (same_kind k TOKEN_COMMA)) enters k (kept_shown false k u) ss ∙ h ∙ no_value value enters k (value u) values

-- the kept steps show the same values as all steps
kept_values : (value : Shown → List ℕ) (ss : List Step) → values_shown value (kept_steps ss) ≡ values_shown value ss
kept_values value [] = refl
kept_values value (s ∷ ss) =
    value_before value s.is_node s.enters s.kind s.shown (kept_steps ss) (values_shown value ss) (kept_values value ss)

-- trees whose walks have the same kept steps have strings with the same values
values_alike : (value : Shown → List ℕ) (old new : Tree) → kept_steps (steps_in new) ≡ kept_steps (steps_in old)
    → values_in (λ e. value (both_values e)) (preorder_of (located new 0)) ≡ values_in (λ e. value (both_values e)) (preorder_of (located old 0))
values_alike value old new same =
    sym (kept_values value (steps_in new) ∙ values_are value (preorder_of (located new 0)))
    ∙ ap (values_shown value) same
    ∙ (kept_values value (steps_in old) ∙ values_are value (preorder_of (located old 0)))

pub string_values_alike : (old new : Tree) → kept_steps (steps_in new) ≡ kept_steps (steps_in old) → string_values new ≡ string_values old
string_values_alike old new same = values_alike (λ s. s.0) old new same

pub nix_values_alike : (old new : Tree) → kept_steps (steps_in new) ≡ kept_steps (steps_in old) → nix_string_values new ≡ nix_string_values old
nix_values_alike old new same = values_alike (λ s. s.1) old new same
