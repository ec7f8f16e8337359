use Rattle.std.{proofs.{Common.{Some, Ok, codes, refl, ap, ◌∙◌}, Output.{displays_on_IsOk_append, displays_on_ok_of_eq}}, specs.Fmt.debug_str}
use Rattle.{rnix_green.specs.{Range.bounds_of, Tree.{item_of, extent_of}}, rnix_tree.specs.Lines.{element_text, shown}}
use Rattle.rnix_tree.proofs.debug.write_token.Goals as goal

pub returns : goal.returns
returns g c =
    let located = ap (λ k. element_text k (bounds_of c.text_range.result)) c.kind.ensures
    ∙ ap (element_text (item_of c.args.token.now).kind) c.text_range.ensures in
    displays_on_IsOk_append _ c.args.f.now _ _ (Ok c.in_ok-write_kind_range.field-0) _
    (Some (element_text (item_of c.args.token.now).kind (extent_of c.args.token.now))) _
    (λ _. refl) (displays_on_ok_of_eq _ _ _ (Ok c.in_ok-write_kind_range.field-0) _ _ (ap Some located) c.in_ok-write_kind_range.ensures)
    (displays_on_IsOk_append _ _ _ _ (Ok c.in_ok-write_str.field-0) _ (Some (codes " ")) _ (λ _. refl) c.in_ok-write_str.ensures.writes
    (displays_on_ok_of_eq _ _ _ c.write_text.result _ _ (ap (λ t. debug_str (shown t)) c.text.ensures) c.write_text.ensures))
