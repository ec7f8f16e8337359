use Rattle.std.proofs.Common.{◌≡◌, vec_len, reverse}
use Rattle.nix_diagnostics.specs.Unmatched.{is_open, open_around}
use Rattle.nix_diagnostics.proofs.openings.close.Given as goal

abbrev pub invariant-loop-innermost : goal.invariant-loop-innermost
invariant-loop-innermost l = record {
  closes : is_open l.kind (reverse l.opened.items) ≡ is_open l.kind (reverse l.initial.opened.items);
  around : open_around l.kind (reverse l.opened.items) ≡ open_around l.kind (reverse l.initial.opened.items);
}

abbrev pub decreases-loop-innermost : goal.decreases-loop-innermost
decreases-loop-innermost l = vec_len l.opened
