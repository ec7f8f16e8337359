use Rattle.std.proofs.Common.{◌∙◌, sym, reverse}
use Rattle.std.specs.Prelude.{option_map}
use Rattle.rnix_green.specs.Range.{bounds_of}
use Rattle.nix_diagnostics.proofs.UnmatchedLemmas.{passed}
use Rattle.nix_diagnostics.proofs.openings.Openings.read.Goals as goal

pub returns : goal.returns
returns c = λ spots.
    let old = c.args.self.now in
    passed (option_map bounds_of old.extra) (reverse old.opened.items) c.args.token.now c.args.kind spots c.requires
    (sym c.is_bracket.ensures ∙ c.if-is_bracket.false)
