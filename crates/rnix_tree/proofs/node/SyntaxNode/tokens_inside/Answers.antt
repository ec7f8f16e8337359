use Rattle.{std.proofs.Common.{◌≡◌, ◌⊎◌, ap, sym, ◌∙◌, subst, ℕ}, rnix_green.specs.{Range.Extent, Tree.{Located, item_of}, Relatives.IsNodeIn}}
use Rattle.rnix_tree.{specs.Offset.IsTouched, proofs.OffsetLemmas.{one_at_start, one_at_end, both_are_one, two}}
use Rattle.rnix_tree.proofs.node.SyntaxNode.tokens_inside.Goals as goal

pub returns-then-offset-start : goal.returns-then-offset-start
returns-then-offset-start c =
    let t = c.self.inside.green.now in
    let n = c.self.inside.number in
    let node : IsNodeIn t n = record { is_there = c.self.invariant.is_there; is_node = c.self.invariant.is_node } in
    let start = ap (λ (r : Extent). r.start) c.text_range-range.ensures ∙ ap (λ (e : Located). (item_of e).start) (sym c.self.view_is) in
    let r = c.token_before-number.result in
    let one = one_at_start t n c.args.offset node (c.if-offset-start.true ∙ c.start.ensures
    ∙ start) r c.token_before-number.ensures.token c.token_before-number.ensures.only in (
      ap (λ (e : Located). e.tree) c.self.view_is,
      subst (λ e. IsTouched e c.args.offset r) c.self.view_is one.0,
      subst (λ e. (m : ℕ) → IsTouched e c.args.offset m → m ≡ r) c.self.view_is one.1,
    )

pub returns-then-offset-end : goal.returns-then-offset-end
returns-then-offset-end c =
    let t = c.self.inside.green.now in
    let n = c.self.inside.number in
    let node : IsNodeIn t n = record { is_there = c.self.invariant.is_there; is_node = c.self.invariant.is_node } in
    let end = ap (λ (r : Extent). r.end) c.text_range-range.ensures ∙ ap (λ (e : Located). (item_of e).end) (sym c.self.view_is) in
    let r = c.token_before-left.result in
    let one = one_at_end t n c.args.offset node (c.if-offset-end.true ∙ c.end.ensures.value
    ∙ end) r c.token_before-left.ensures.token c.token_before-left.ensures.only in (
      ap (λ (e : Located). e.tree) c.self.view_is,
      subst (λ e. IsTouched e c.args.offset r) c.self.view_is one.0,
      subst (λ e. (m : ℕ) → IsTouched e c.args.offset m → m ≡ r) c.self.view_is one.1,
    )

pub returns-then-left-right : goal.returns-then-left-right
returns-then-left-right c =
    let t = c.self.inside.green.now in
    let n = c.self.inside.number in
    let a = c.token_before-left.result in
    let one = both_are_one t n c.args.offset a c.token_before-right.result c.token_before-left.ensures.token c.token_before-right.ensures.token
    c.token_before-left.ensures.only c.token_before-right.ensures.only c.if-left-right.true in (
      ap (λ (e : Located). e.tree) c.self.view_is,
      subst (λ e. IsTouched e c.args.offset a) c.self.view_is one.0,
      subst (λ e. (m : ℕ) → IsTouched e c.args.offset m → m ≡ a) c.self.view_is one.1,
    )

pub returns-else-left-right : goal.returns-else-left-right
returns-else-left-right c =
    let t = c.self.inside.green.now in
    let n = c.self.inside.number in
    let a = c.token_before-left.result in
    let b = c.token_before-right.result in
    let both = two t n c.args.offset a b c.token_before-left.ensures.token c.token_before-right.ensures.token
    c.token_before-left.ensures.only c.token_before-right.ensures.only c.if-left-right.false in (
      ap (λ (e : Located). e.tree) c.self.view_is,
      ap (λ (e : Located). e.tree) c.self.view_is,
      both.0,
      subst (λ e. IsTouched e c.args.offset a) c.self.view_is both.1,
      subst (λ e. IsTouched e c.args.offset b) c.self.view_is both.2,
      subst (λ e. (m : ℕ) → IsTouched e c.args.offset m → (m ≡ a) ⊎ (m ≡ b)) c.self.view_is both.3,
    )
