use Rattle.std.proofs.Common.{◌∙◌}
use Rattle.nix_data.proofs.WrittenLemmas.{data_read}
use Rattle.nix_data.proofs.nix_reader.data_of.Goals as goal

pub returns-in-Ok : goal.returns-in-Ok
returns-in-Ok c =
    data_read c.args.text.now c.in_ok-parse.parse c.syntax.result.now c.data_in.result c.in_ok-parse.ensures
    (c.in-Ok.ensures.root.0, c.syntax.ensures.node ∙ c.in-Ok.ensures.root.1) c.data_in.ensures.alike c.data_in.ensures.data c.data_in.ensures.refused
