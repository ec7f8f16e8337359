use Rattle.std.proofs.Common.{rules, ◌≡◌, ◌∙◌, ◌∷◌, ◌++◌, None, Some, map, ap, sym, string_bytes}
use Rattle.rnix_base.specs.Select.{those_of}
use Rattle.rnix.specs.{NodeKinds.is_attr, AttrName.static_name}
use Rattle.nix_update.proofs.PathLemmas.{no_gap}
use Rattle.nix_update.proofs.path.path_in.Goals as goal

pub returns-in_default-clause-none : goal.returns-in_default-clause-none
returns-in_default-clause-none c =
    let rest = map static_name (those_of is_attr c.next.new.self) in
    let first : map static_name (those_of is_attr c.loop-attr.attr-iterator) ≡ None ∷ rest = search rules in
    let before = map Some (map string_bytes c.loop-attr.names.items) in
    λ names is. no_gap before rest names (ap (λ all. before ++ all) (sym first) ∙ c.loop-attr.invariant.names ∙ is)
