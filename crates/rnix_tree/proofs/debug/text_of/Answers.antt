use Rattle.std.{proofs.{Common.{◌≡◌, Some, Ok, IfSome, subst, sym, ap, refl, ◌∙◌}, Output.displays_on_ok_of_eq}, specs.Fmt.formatter_writer}
use Rattle.{std.specs.Fmt.InlineText.{inline_text, IsIntact, AppendsIfIntact}, rnix_green.specs.{Range.bounds_of, Tree.{item_of, extent_of}}}
use Rattle.rnix_tree.{specs.{Lines.{element_text, spot_text, token_text}, Spots.spot_of}, proofs.DumpTextLemmas.inline_text_written}
use Rattle.rnix_tree.proofs.debug.text_of.Goals.{in-Node+in_ok-write_kind_range-in-Node, in-Token+in_ok-write_token-in-Token}
use Rattle.rnix_tree.proofs.debug.text_of.Goals as goal

pub returns : goal.returns
returns c =
    let f = c.new-f.result in
    let intact = subst IsIntact (sym c.new-f.ensures.writer) c.new.ensures.intact in
    let none = ap inline_text c.new-f.ensures.writer ∙ c.new.ensures.text in
    elim c.match-element.branch [
      | in-Node+in_ok-write_kind_range-in-Node w ↦
          subst (λ e. IfSome (spot_text (spot_of e)) (λ bs. inline_text c.into_inner.result ≡ bs)) (sym w.in-Node.is)
          (inline_text_written f w.write_kind_range.new.f (Ok w.in_ok-write_kind_range-in-Node.field-0)
          (Some (element_text (item_of w.in-Node.node).kind (extent_of w.in-Node.node))) c.into_inner.result
          c.new-f.ensures.plain intact none refl
          (displays_on_ok_of_eq AppendsIfIntact _ _ (Ok w.in_ok-write_kind_range-in-Node.field-0) _ _
          (ap Some (ap (λ k. element_text k (bounds_of w.text_range.result)) w.kind.ensures
          ∙ ap (element_text (item_of w.in-Node.node).kind) w.text_range.ensures))
          w.in_ok-write_kind_range-in-Node.ensures) (c.into_inner.ensures ∙ ap formatter_writer w.f-is))
      | in-Token+in_ok-write_token-in-Token w ↦
          subst (λ e. IfSome (spot_text (spot_of e)) (λ bs. inline_text c.into_inner.result ≡ bs)) (sym w.in-Token.is)
          (inline_text_written f w.write_token.new.f (Ok w.in_ok-write_token-in-Token.field-0) (token_text w.in-Token.token) c.into_inner.result
          c.new-f.ensures.plain intact none refl w.in_ok-write_token-in-Token.ensures (c.into_inner.ensures ∙ ap formatter_writer w.f-is))
    ]
