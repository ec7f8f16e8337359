use Rattle.std.proofs.Common.{◌≡◌, ◌∙◌, ◌++◌, List, ap, map, subst}
use Rattle.std.proofs.lemmas.List.{append_assoc}
use Rattle.nix_scopes.specs.{Scopes.Resolved, Bound.resolved_of}
use Rattle.nix_lints.specs.{Found.found_of, UnboundNames.unbound_names, NeedlessWith.ArePlaces, UnusedNames.{Resolves, unused_in, unused_found}}
use Rattle.nix_lints.proofs.names.add_at_names.Goals as goal

pub returns-clause-found : goal.returns-clause-found
returns-clause-found c =
    let root = c.args.root.now in
    let are : Resolves root c.in_ok-names.names = record {
      bindings = c.in_ok-names.ensures.bindings;
      firsts = c.in_ok-names.ensures.firsts;
      resolved = c.in_ok-names.ensures.resolved;
    } in
    c.in_ok-add_unused_names.ensures root are
    ∙ ap (λ found. found ++ map unused_found (unused_in root)) (c.in_ok-add_unbound_names.ensures root are)
    ∙ append_assoc (map found_of c.args.found.now.items) (unbound_names root) (map unused_found (unused_in root))

pub returns-clause-places : goal.returns-clause-places
returns-clause-places c =
    subst (λ (names : List Resolved). ArePlaces names c.in_ok-places.places)
    (ap (map resolved_of) c.references.ensures ∙ c.in_ok-names.ensures.resolved) c.in_ok-places.ensures
