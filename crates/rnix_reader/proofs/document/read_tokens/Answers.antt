use Rattle.{std.proofs.Common.{ap, sym, ◌∙◌}, rnix_green.specs.Draft.TextDraft, rnix_reader.specs.{Placed.texts_in, State.state}}
use Rattle.rnix_reader.proofs.{DocumentLemmas.{opened_root, read_made, rest_marked}, TextRemaining.placed_text}
use Rattle.rnix_reader.proofs.document.read_tokens.Goals as goal

pub invariant_of-p : goal.invariant_of-p
invariant_of-p c = record {
  remaining = ap (λ (x : TextDraft). x.remaining) (c.reserve.ensures ∙ c.in_ok-builder.ensures) ∙ sym c.rest-text.ensures.joined
      ∙ sym (placed_text 0 c.args.tokens)
      ∙ sym (ap texts_in c.in_ok-cursor.ensures);
}

pub read_all-requires-clause-state : goal.read_all-requires-clause-state
read_all-requires-clause-state c =
    opened_root c.in_ok-cursor.cursor c.start_node.new.self.draft c.reserve.new.self.draft c.new-3.result.items c.new-4.result.items c.here-at.result
    (state c.mark.new.self)
    (ap (λ (x : TextDraft). x.draft) (c.reserve.ensures ∙ c.in_ok-builder.ensures))
    (ap (λ (x : TextDraft). x.draft) c.in_ok-start_node.ensures.ok) c.new-3.ensures.items c.new-4.ensures.items c.here-at.ensures.position
    c.in_ok-mark.ensures.state

pub returns : goal.returns
returns c =
    read_made c.args.tokens (state c.mark.new.self).rest (state c.read_all.new.p) c.in_ok-tree.tree
    (rest_marked _ _ _ c.in_ok-mark.ensures.state ∙ c.in_ok-cursor.ensures) c.in_ok-read_all.ensures c.in_ok-tree.ensures
