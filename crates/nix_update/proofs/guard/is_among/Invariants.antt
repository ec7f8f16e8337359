use Rattle.std.proofs.Common.{◌≡◌, drop, map, string_bytes}
use Rattle.std.specs.Prelude.{bytes_eq}
use Rattle.std.specs.List.{list_any}
use Rattle.nix_update.proofs.guard.is_among.Given as goal

abbrev pub invariant-loop-name : goal.invariant-loop-name
invariant-loop-name l =
    list_any (λ name. bytes_eq name l.text) (map string_bytes (drop l.name-index l.names)) ≡ list_any (λ name. bytes_eq name l.text) (map string_bytes l.names)
