use Rattle.std.proofs.Common.{◌≡◌, ◌+◌, drop, ap, arith, rules}
use Rattle.std.proofs.lemmas.Grind.{common_steps, pieces}
use Rattle.std.specs.{List.prefix_len, Char.is_ascii_digit}
use Rattle.nix_values.proofs.JsonNumberLemmas.{digits_ascii}
use Rattle.nix_values.proofs.json_numbers.some_digits.Goals as goal

pub returns-else-end-from-clause-ascii : goal.returns-else-end-from-clause-ascii
returns-else-end-from-clause-ascii c =
    let len : c.digits.result ≡ prefix_len is_ascii_digit (drop c.args.from c.args.text.now) =
    first_of (search rules, grind (arith, common_steps), grind (arith, pieces)) in
    digits_ascii c.args.text.now c.args.from (c.args.from + c.digits.result) c.requires (ap (λ n. c.args.from + n) len)
    (λ e. omega (arith, c.if-end-from.false, e))
