use Rattle.std.proofs.Common.{◌≡◌, drop, map}
use Rattle.std.specs.Prelude.{bytes_eq}
use Rattle.std.specs.List.{list_any}
use Rattle.nix_cli.proofs.arguments.is_among.Given as goal

abbrev pub invariant-loop-own : goal.invariant-loop-own
invariant-loop-own l =
    list_any (λ own. bytes_eq own l.text) (map (λ own. own.now) (drop l.own-index l.texts))
    ≡ list_any (λ own. bytes_eq own l.text) (map (λ own. own.now) l.texts)
