use Rattle.nix_formatting.proofs.PlacedTokenLemmas.{space_changed}
use Rattle.nix_formatting.proofs.formatting.read_alike.Goals as goal

pub returns : goal.returns
returns c =
    space_changed c.args.text.now c.args.made.now c.requires.faultless.0 c.has_reading.ensures.0 c.has_reading.ensures.1.0 c.one_list.ensures.whole
    c.one_list-2.ensures.whole c.layout.ensures c.requires.faultless.1 c.has_reading.ensures.1.1 c.requires.same
