use Rattle.{std.{proofs.Common.{◌≡◌, ◌∙◌, ◌-◌, ◌+◌, ap, arith}, specs.String.string_bytes}, rnix_green.specs.{Packed.size_in, Kept.{start_at, IsKept}}}
use Rattle.rnix_green.proofs.{SiblingLemmas.next_inside, ElementLemmas.{length_kept, element_read, below_read, read_in_order, item_read}}
use Rattle.rnix_green.proofs.green.GreenNode.element.Goals as goal

pub overflow_add-number-2 : goal.overflow_add-number-2
overflow_add-number-2 c =
    let t = c.args.self.now in
    let g = c.self.inside in
    let kept : IsKept t g.elements.items (string_bytes g.text) = rw c.self.view_is at c.self.invariant in
    let is = element_read t _ _ c.args.number c.index.result.now kept c.requires c.index.ensures in
    let below : c.saturating_sub-below.result ≡ size_in c.index.result.now - 1 = c.saturating_sub-below.ensures ∙ ap (λ s. s - 1) c.size-size.ensures in
    omega (
      arith,
      below,
      below_read t c.args.number c.index.result.now c.requires is,
      next_inside t c.args.number c.requires,
      length_kept t g.elements.items (string_bytes g.text) kept,
      g.elements.small,
      g.elements.ok,
    )

pub returns-clause-is : goal.returns-clause-is
returns-clause-is c =
    let t = c.args.self.now in
    let g = c.self.inside in
    let kept : IsKept t g.elements.items (string_bytes g.text) = rw c.self.view_is at c.self.invariant in
    let is = element_read t _ _ c.args.number c.index.result.now kept c.requires c.index.ensures in
    let below : c.saturating_sub-below.result ≡ size_in c.index.result.now - 1 = c.saturating_sub-below.ensures ∙ ap (λ s. s - 1) c.size-size.ensures in
    let end : c.start_at.result ≡ start_at t (c.args.number + 1 + (size_in c.index.result.now - 1)) =
    c.start_at.ensures ∙ ap (λ b. start_at t (c.args.number + 1 + b)) below in
    rw (end, below, c.kind.ensures, c.size-size.ensures, c.len_or_start.ensures, c.parent_kept.ensures, c.parent.ensures)
    (item_read t c.args.number c.index.result.now c.requires is)

pub returns-clause-ordered : goal.returns-clause-ordered
returns-clause-ordered c =
    let t = c.args.self.now in
    let g = c.self.inside in
    let kept : IsKept t g.elements.items (string_bytes g.text) = rw c.self.view_is at c.self.invariant in
    let is = element_read t _ _ c.args.number c.index.result.now kept c.requires c.index.ensures in
    let below : c.saturating_sub-below.result ≡ size_in c.index.result.now - 1 = c.saturating_sub-below.ensures ∙ ap (λ s. s - 1) c.size-size.ensures in
    let end : c.start_at.result ≡ start_at t (c.args.number + 1 + (size_in c.index.result.now - 1)) =
    c.start_at.ensures ∙ ap (λ b. start_at t (c.args.number + 1 + b)) below in
    rw (end, c.len_or_start.ensures) (read_in_order t c.args.number c.index.result.now c.requires is)

pub returns-clause-inside : goal.returns-clause-inside
returns-clause-inside c =
    let t = c.args.self.now in
    let g = c.self.inside in
    let kept : IsKept t g.elements.items (string_bytes g.text) = rw c.self.view_is at c.self.invariant in
    let is = element_read t _ _ c.args.number c.index.result.now kept c.requires c.index.ensures in
    let below : c.saturating_sub-below.result ≡ size_in c.index.result.now - 1 = c.saturating_sub-below.ensures ∙ ap (λ s. s - 1) c.size-size.ensures in
    omega (arith, below, below_read t c.args.number c.index.result.now c.requires is, next_inside t c.args.number c.requires)

pub returns-clause-next_fits : goal.returns-clause-next_fits
returns-clause-next_fits c =
    let t = c.args.self.now in
    let g = c.self.inside in
    let kept : IsKept t g.elements.items (string_bytes g.text) = rw c.self.view_is at c.self.invariant in
    let is = element_read t _ _ c.args.number c.index.result.now kept c.requires c.index.ensures in
    let below : c.saturating_sub-below.result ≡ size_in c.index.result.now - 1 = c.saturating_sub-below.ensures ∙ ap (λ s. s - 1) c.size-size.ensures in
    omega (
      arith,
      below,
      below_read t c.args.number c.index.result.now c.requires is,
      next_inside t c.args.number c.requires,
      length_kept t g.elements.items (string_bytes g.text) kept,
      kept.few,
    )
