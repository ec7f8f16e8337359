use Rattle.std.proofs.Common.{◌≡◌, ◌∙◌, ◌∷◌, [], ◌++◌, ap, subst}
use Rattle.rnix_tree.specs.Spots.{spot_of}
use Rattle.nix_scopes.specs.declared.places.Place.{Place}
use Rattle.nix_scopes.specs.NodePlaces.{place_around}
use Rattle.nix_scopes.proofs.MergedLemmas.{walked_node, walked_token, walked_same}
use Rattle.nix_scopes.proofs.merged.resolve_merged.Goals.{in-Node+in_ok-inside+in_ok-add_references, in_default}
use Rattle.nix_scopes.proofs.merged.resolve_merged.Goals as goal

pub loop-element-preserved : goal.loop-element-preserved
loop-element-preserved c = record {
  next = tt;
  ends = tt;
  walked = elim c.match-element.branch [
    | in-Node+in_ok-inside+in_ok-add_references w ↦
        let root = c.args.root.now in
        let places = c.loop-element.places.items in
        let e = w.in-Node.node in
        let homes = c.in_ok-homes.ensures in
        let around : w.place_around-around.result ≡ place_around places root.number root e =
        w.place_around-around.ensures root homes
        ∙ ap (λ ps. place_around ps c.number-first.result root e) w.deref.ensures.value ∙ ap (λ n. place_around places n root e) c.number-first.ensures in
        walked_same root w.enter_scope.new.bindings.items c.match-element.bindings.items w.add_references.new.references.items
        c.match-element.references.items w.enter_scope.new.maps c.match-element.maps c.push.new.self.items c.next.new.self
        (ap (λ v. v.items) w.bindings-is) (ap (λ v. v.items) w.references-is) w.maps-is
        (walked_node root c.loop-element.bindings.items w.enter_scope.new.bindings.items c.loop-element.references.items
        w.add_references.new.references.items c.loop-element.maps w.enter_scope.new.maps places c.loop-element.element-iterator c.next.new.self e
        c.loop-element.invariant.walked (subst (λ x. c.loop-element.element-iterator ≡ spot_of x ∷ c.next.new.self) w.in-Node.is c.in-Some.ensures.steps)
        w.place_around-around.result w.place_inside-own.result w.in_ok-inside.inside around (ap (λ (p : Place). p.inside) w.place_inside-own.ensures)
        (ap (λ (p : Place). p.outside) w.place_inside-own.ensures) (ap (λ (p : Place). p.is_below_with) w.place_inside-own.ensures)
        (w.in_ok-inside.ensures root homes (c.in_ok-added.ensures homes)) w.in_ok-add_references.ensures c.push.new.self.items
        (c.in_ok-push.ensures.items ∙ ap (λ p. places ++ p ∷ []) w.place-is))
    | in_default w ↦
        walked_same c.args.root.now c.loop-element.bindings.items c.match-element.bindings.items c.loop-element.references.items
        c.match-element.references.items c.loop-element.maps c.match-element.maps c.push.new.self.items c.next.new.self
        (ap (λ v. v.items) w.bindings-is) (ap (λ v. v.items) w.references-is) w.maps-is
        (walked_token c.args.root.now c.loop-element.bindings.items c.loop-element.references.items c.loop-element.maps c.loop-element.places.items
        c.push.new.self.items c.loop-element.element-iterator c.next.new.self w.in_default.field-0 c.loop-element.invariant.walked
        (subst (λ x. c.loop-element.element-iterator ≡ spot_of x ∷ c.next.new.self) w.in_default.is c.in-Some.ensures.steps)
        (c.in_ok-push.ensures.items ∙ ap (λ p. c.loop-element.places.items ++ p ∷ []) w.place-is))
  ];
}
