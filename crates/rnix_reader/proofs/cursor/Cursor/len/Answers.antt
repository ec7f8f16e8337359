use Rattle.{std.proofs.Common.{ap, arith, length, length-drop}, rnix_reader.{specs.Placed.tokens_cut, proofs.CursorLemmas.length-tokens_cut}}
use Rattle.rnix_reader.proofs.cursor.Cursor.len.Goals as goal

pub returns : goal.returns
returns c =
    let all = tokens_cut c.self.inside.text.now 0 c.self.inside.tokens.items in
    omega (
      arith,
      c.saturating_sub.ensures,
      c.len.ensures,
      c.self.inside.tokens.ok.0,
      length-tokens_cut c.self.inside.text.now 0 c.self.inside.tokens.items,
      length-drop c.self.inside.at all,
      ap length c.self.view_is,
    )
