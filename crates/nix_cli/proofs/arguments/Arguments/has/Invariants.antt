use Rattle.std.proofs.Common.{◌≡◌, drop, map}
use Rattle.std.specs.Prelude.{bytes_eq, string_bytes}
use Rattle.std.specs.List.{list_any}
use Rattle.nix_cli.proofs.arguments.Arguments.has.Given as goal

abbrev pub invariant-loop-own : goal.invariant-loop-own
invariant-loop-own l =
    list_any (λ own. bytes_eq own l.flag) (map string_bytes (drop l.own-index l.own-items))
    ≡ list_any (λ own. bytes_eq own l.flag) (map string_bytes l.self.flags.items)
