use Rattle.{std.proofs.Common.[], rnix_kinds.{specs.Lexical.Tokens.tokens_of, proofs.LexicalLemmas.Laws.AreSound-tokens_under}, rnix_proof_rows.proofs.PartRows.shaped_rows}
use Rattle.rnix.proofs.{SameTree.{children_stay, child_stays}, AnyParts.{kind_parts, read_parts}}
use Rattle.rnix.proofs.whole.nodes_have_parts.Goals as goal

pub returns : goal.returns
returns c = record {
  read = read_parts (tokens_of c.args.text.now) (AreSound-tokens_under [] c.args.text.now c.utf8.text).named;
  shaped = λ kind n h w is. kind_parts kind n (shaped_rows n.tree h) w is;
  below = children_stay;
  child = child_stays;
}
