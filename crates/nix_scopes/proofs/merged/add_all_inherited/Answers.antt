use Rattle.{std.proofs.Common.{◌≡◌, ◌++◌, ◌∙◌, map, true, None, ap, sym, refl, rules}, rnix_base.specs.Select.those_of, rnix.specs.NodeKinds.is_attr}
use Rattle.{rnix.specs.{AttrName.static_name, Sums.attr_node}, nix_scopes.specs.{Names.{named_if, names_written}, Bound.resolved_of, References.inherited_at}}
use Rattle.nix_scopes.{specs.{References.inherited_from, NodePlaces.referring_at}, proofs.ResolvingLemmas.mapped_next}
use Rattle.nix_scopes.proofs.merged.add_all_inherited.Goals as goal

pub loop-attr-init : goal.loop-attr-init
loop-attr-init c =
    let none : c.from.result ≡ None = search rules in
    let written : those_of is_attr c.into_iter-attr-iterator.result ≡ _ =
    ap (those_of is_attr) c.into_iter-attr-iterator.ensures.into_iter_gives ∙ c.attrs-attr-items.ensures.children in
    let inherited : names_written (those_of is_attr c.into_iter-attr-iterator.result) ≡ inherited_at c.args.inherit.now =
    ap names_written written ∙ sym (ap (λ from. inherited_from from c.args.inherit.now) (sym c.from.ensures ∙ none)) in
    record {
      next = tt;
      ends = tt;
      listing = ap (λ names. map resolved_of c.args.references.now.items
          ++ map (referring_at c.args.maps.now c.args.scope_map c.args.is_below_with true) names) inherited;
    }

pub loop-attr-preserved : goal.loop-attr-preserved
loop-attr-preserved c = record {
  next = tt;
  ends = tt;
  listing = mapped_next (λ e. named_if e (static_name e)) (referring_at c.args.maps.now c.args.scope_map c.args.is_below_with true)
      (map resolved_of c.loop-attr.references.items)
      (map resolved_of c.add_inherited.new.references.items)
      (map resolved_of c.args.references.now.items
      ++ map (referring_at c.args.maps.now c.args.scope_map c.args.is_below_with true) (inherited_at c.args.inherit.now))
      (those_of is_attr c.loop-attr.attr-iterator) (those_of is_attr c.next.new.self) (attr_node c.in-Some.attr) (attr_node c.in-Some.attr)
      c.loop-attr.invariant.listing c.in-Some.ensures.steps refl c.in_ok-add_inherited.ensures;
}
