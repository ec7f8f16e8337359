use Rattle.std.proofs.Common.{◌≡◌, drop}
use Rattle.std.specs.List.{list_all}
use Rattle.nix_data.specs.Misread.{is_blank}
use Rattle.nix_data.proofs.misread.foreign.Given as goal

abbrev pub invariant-loop-index : goal.invariant-loop-index
invariant-loop-index l = list_all is_blank (drop l.index l.text) ≡ list_all is_blank l.text
