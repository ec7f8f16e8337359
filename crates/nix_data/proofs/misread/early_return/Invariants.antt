use Rattle.std.proofs.Common.{◌≡◌, drop, false}
use Rattle.std.specs.Prelude.{is_some}
use Rattle.nix_data.specs.Misread.{has_text_after_return}
use Rattle.nix_data.proofs.misread.early_return.Given as goal

abbrev pub invariant-loop-index : goal.invariant-loop-index
invariant-loop-index l = has_text_after_return (is_some l.found) (drop l.index l.text) ≡ has_text_after_return false l.text
