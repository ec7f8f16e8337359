use Rattle.{std.proofs.Common.{sym, ap, subst, ◌∙◌}, rnix_reader.{specs.Placed.{tokens_cut, AreEnds}, proofs.CursorLemmas.{sound_ends, sound_tokens}}}
use Rattle.rnix_reader.proofs.cursor.Cursor.new.Goals as goal

pub invariant_of-result : goal.invariant_of-result
invariant_of-result c = record {
  ends = subst (AreEnds c.rest-text.result.now 0) (sym c.in_ok-tokens.ensures) (sound_ends c.rest-text.result.now c.args.tokens c.rest-text.ensures);
  item = rw (c.deref.ensures.value) at (c.item_from-next.ensures c.rest-text.result.now);
}

pub returns : goal.returns
returns c = ap (tokens_cut c.rest-text.result.now 0) c.in_ok-tokens.ensures ∙ sound_tokens c.rest-text.result.now c.args.tokens c.rest-text.ensures
