use Rattle.{std.{proofs.Common.{◌≡◌, ◌∙◌, sym, subst}, specs.{Cmp.Lexicographic.same_text, String.string_bytes}}, rnix_green.specs.Kept.IsKept}
use Rattle.rnix_green.proofs.EqualTrees.{same_tree, same_parts}
use Rattle.rnix_green.proofs.green.GreenNode.is_same.Goals as goal

pub returns-then-eq : goal.returns-then-eq
returns-then-eq c =
    let t = c.args.self.now in
    let u = c.args.other.now in
    let text = string_bytes c.self.inside.text in
    let other = string_bytes c.other.inside.text in
    let whole : IsKept t c.self.inside.elements.items text = rw c.self.view_is at c.self.invariant in
    let also_whole : IsKept u c.other.inside.elements.items other = rw c.other.view_is at c.other.invariant in
    let kept = subst (λ xs. IsKept t xs text) (sym c.deref.ensures.value) whole in
    let also = subst (λ xs. IsKept u xs other) (sym c.deref-then-eq.ensures.value) also_whole in
    let texts : text ≡ other = same_text text other (sym c.if-eq.true ∙ c.eq.ensures) in (
      λ r. same_tree t u c.deref.result.now c.deref-then-eq.result.now text other kept also (c.same_elements.ensures.0 r) texts,
      λ e. c.same_elements.ensures.1 (same_parts t u c.deref.result.now c.deref-then-eq.result.now text other kept also e).0,
    )
