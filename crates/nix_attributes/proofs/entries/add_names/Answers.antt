use Rattle.nix_attributes.{specs.DefinedNames.names_at, proofs.{DefinedNamesLemmas.no_entry, RepeatedLemmas.adds_none}}
use Rattle.nix_attributes.proofs.entries.add_names.Goals as goal

pub returns : goal.returns
returns c =
    adds_none c.args.attributes.now (names_at c.args.node)
    (no_entry c.args.node c.clone.result c.clone-2.result c.clone.ensures c.clone-2.ensures c.in_default.ensures.some c.in_default-cast.ensures.some)
