use Rattle.std.proofs.Common.{◌≡◌, drop, map}
use Rattle.std.specs.Prelude.{bytes_eq}
use Rattle.std.specs.List.{list_any}
use Rattle.nix_scopes.proofs.globals.is_among.Given as goal

abbrev pub invariant-loop-own : goal.invariant-loop-own
invariant-loop-own l =
    list_any (λ own. bytes_eq own l.name) (map (λ own. own.now) (drop l.own-index l.names))
    ≡ list_any (λ own. bytes_eq own l.name) (map (λ own. own.now) l.names)
