-- Writing bindings.
use Rattle.std.proofs.Common.{◌≡◌, ℕ, suc, ◌<◌, List, [], ◌∷◌, length, map, get_or, Some, refl, sym, ap, ◌∙◌, arith}
use Rattle.std.specs.Cow.{cow_str_bytes}
use Rattle.nix_scopes.specs.{Bound.{bound_of, AreFirst}, Scopes.{Bound, number_in}, declared.resolution.Binding.{Binding}}
use Rattle.rnix_c.specs.{declared.names.RnixBinding.{RnixBinding}, Elements.{number_or_none}, NameCalls.{binding_of, binding_among}}

-- what is written for a binding
abbrev pub own_binding : Binding → RnixBinding
own_binding binding = binding_of binding.first (bound_of binding)

-- what is written for bindings that each refer to the first one with its name in its scope
among : (all : List Bound) (bindings : List Binding) → ((k : ℕ) (d : Binding) → k < length bindings
    → number_in all (cow_str_bytes (get_or bindings k d).text) (get_or bindings k d).scope ≡ Some (get_or bindings k d).first)
    → map own_binding bindings ≡ map (binding_among all) (map bound_of bindings)
among all [] known = refl
among all (binding ∷ bindings) known =
    ap (λ first. binding_of (number_or_none first) (bound_of binding) ∷ map own_binding bindings) (sym (known 0 binding (omega arith)))
    ∙ ap (λ rest. binding_among all (bound_of binding) ∷ rest) (among all bindings (λ k d l. known (suc k) d (omega (arith, l))))

-- what is written for bindings that refer to the first ones
pub all_among : (bindings : List Binding) (bounds : List Bound) → AreFirst bindings → map bound_of bindings ≡ bounds →
    map own_binding bindings ≡ map (binding_among bounds) bounds
all_among bindings bounds firsts is =
    among (map bound_of bindings) bindings firsts ∙ ap (λ all. map (binding_among all) all) is
