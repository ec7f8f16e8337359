-- When a tree has the node of a pointer.
use Rattle.std.{proofs.{Common.{◌≡◌, ◌<◌, Bool, length, ap, sym, subst}, lemmas.Bool.Decides.{Decides-eqb, Decides-like, Decides-and}}, specs.Prelude.◌==◌}
use Rattle.{std.specs.{Prelude.◌&&◌, Bool.Decides}, rnix_green.specs.{Equality.{same_kind, same_kind-decides}, Tree.{Tree, Item, items_of, item}}}
use Rattle.rnix_tree.specs.Pointer.{Address, fits, HasNode}

-- a tree has the node of an address exactly if the element with its number fits
pub fits-decides : (t : Tree) (a : Address) (r : Bool) → a.number < length (items_of t) → r ≡ fits (item t a.number) a → Decides r (HasNode t a)
fits-decides t a r there is =
    let i : Item = item t a.number in
    let ends = i.start == a.extent.start && i.end == a.extent.end in
    subst (λ (x : Bool). Decides x (HasNode t a)) (sym is)
    (Decides-like (fits i a)
    (λ e. record {
      is_there = there;
      is_node = e.0;
      is_same = λ j. record { number = a.number; kind = e.1.0 j; extent = record { start = e.1.1.0 j; end = e.1.1.1 j } };
    })
    (λ h. (
      h.is_node,
      (
        ap (λ (x : Address). x.kind) h.is_same,
        (ap (λ (x : Address). x.extent.start) h.is_same, ap (λ (x : Address). x.extent.end) h.is_same),
      ),
    ))
    (Decides-and i.is_node (same_kind i.kind a.kind && ends) (λ e. e, λ e. e)
    (Decides-and (same_kind i.kind a.kind) ends (same_kind-decides i.kind a.kind)
    (Decides-and (i.start == a.extent.start) (i.end == a.extent.end) (Decides-eqb i.start a.extent.start) (Decides-eqb i.end a.extent.end)))))
