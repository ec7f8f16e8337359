use Rattle.{std.proofs.Common.{rules, ◌≡◌, ◌∷◌, ◌∙◌, ap, subst}, rnix_tree.specs.Spots.spot_of}
use Rattle.nix_scopes.proofs.ResolvingLemmas.{found_begun, found_token, found_node, found_same}
use Rattle.nix_scopes.proofs.resolving.resolve_lexically.Goals.{in-Node+in_ok-leave_ended+in_ok-enter+in_ok-add_references, in_default}
use Rattle.nix_scopes.proofs.resolving.resolve_lexically.Goals as goal

pub loop-element-init : goal.loop-element-init
loop-element-init c = record {
  next = tt;
  ends = tt;
  found = found_begun c.args.root.now c.new-bindings.result.items c.new-references.result.items c.new-around.result c.inside_count-remaining.result
      c.into_iter-element-iterator.result c.inside_count-remaining.ensures
      (c.into_iter-element-iterator.ensures.into_iter_gives ∙ c.descendants_with_tokens-element-items.ensures.elements) c.new-bindings.ensures.items
      c.new-references.ensures.items c.new-around.ensures.numbers c.new-around.ensures.shadowed c.new-around.ensures.scopes
      c.new-around.ensures.scope_ends c.new-around.ensures.body_ends c.new-around.ensures.set_ends c.new-around.ensures.set_scopes;
}

pub loop-element-preserved : goal.loop-element-preserved
loop-element-preserved c = record {
  next = tt;
  ends = tt;
  found = elim c.match-element.branch [
    | in-Node+in_ok-leave_ended+in_ok-enter+in_ok-add_references w ↦
        found_same c.args.root.now w.enter.new.bindings.items c.match-element.bindings.items w.add_references.new.references.items
        c.match-element.references.items w.enter.new.self c.match-element.around c.saturating_sub-remaining.result c.next.new.self
        (ap (λ v. v.items) w.bindings-is) (ap (λ v. v.items) w.references-is) w.around-is
        (found_node c.args.root.now c.loop-element.bindings.items w.deref.result.now w.enter.new.bindings.items c.loop-element.references.items
        w.add_references.new.references.items c.loop-element.around w.leave_ended.new.self w.enter.new.self c.loop-element.remaining
        c.saturating_sub-remaining.result c.loop-element.element-iterator c.next.new.self w.in-Node.node c.loop-element.invariant.found
        (subst (λ e. c.loop-element.element-iterator ≡ spot_of e ∷ c.next.new.self) w.in-Node.is c.in-Some.ensures.steps)
        c.saturating_sub-remaining.ensures
        (search rules) w.in_ok-leave_ended.ensures w.in_ok-enter.ensures.sees w.in_ok-enter.ensures.bindings w.in_ok-add_references.ensures)
    | in_default w ↦
        found_same c.args.root.now c.loop-element.bindings.items c.match-element.bindings.items c.loop-element.references.items
        c.match-element.references.items c.loop-element.around c.match-element.around c.saturating_sub-remaining.result c.next.new.self
        (ap (λ v. v.items) w.bindings-is) (ap (λ v. v.items) w.references-is) w.around-is
        (found_token c.args.root.now c.loop-element.bindings.items c.loop-element.references.items c.loop-element.around c.loop-element.remaining
        c.saturating_sub-remaining.result c.loop-element.element-iterator c.next.new.self w.in_default.field-0 c.loop-element.invariant.found
        (subst (λ e. c.loop-element.element-iterator ≡ spot_of e ∷ c.next.new.self) w.in_default.is c.in-Some.ensures.steps)
        c.saturating_sub-remaining.ensures)
  ];
}
