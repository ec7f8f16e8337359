use Rattle.std.proofs.Common.{◌≡◌, drop, map}
use Rattle.std.specs.Prelude.{string_bytes}
use Rattle.nix_cli.specs.CommandLine.{nothing, parse_from}
use Rattle.nix_cli.specs.Given.{options_of, parsed_of}
use Rattle.nix_cli.proofs.arguments.parse_arguments.Given as goal

abbrev pub invariant-loop-argument : goal.invariant-loop-argument
invariant-loop-argument l =
    parse_from (options_of l.command) (parsed_of l.given) (map string_bytes (drop l.argument-index l.arguments))
    ≡ parse_from (options_of l.command) nothing (map string_bytes l.arguments)
