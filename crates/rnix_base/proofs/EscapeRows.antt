-- The values of certain texts inside strings.
use Rattle.{std.proofs.Common.{◌≡◌, true, false, refl, codes}, rnix_base.specs.Escapes.{unescaped, values}}

-- escapes in `"`
quotes : unescaped false (codes "\\\"Hello\\\"") ≡ codes "\"Hello\""
unfolding values
quotes = refl

line_feed : unescaped false (codes "Hello\\n\\\"World\\\" :D") ≡ codes "Hello\n\"World\" :D"
unfolding values
line_feed = refl

-- escapes in `''`
primes : unescaped true (codes "Hello''\\n'''World''' :D") ≡ codes "Hello\n''World'' :D"
unfolding values
primes = refl

plain_quotes : unescaped true (codes "\"Hello\"") ≡ codes "\"Hello\""
unfolding values
plain_quotes = refl

-- a `$` after `''`
dollar : unescaped true (codes "a''${b}'''${c}") ≡ codes "a${b}''${c}"
unfolding values
dollar = refl

-- a text ends where no piece begins
ended_quote : unescaped false (codes "a\\tb\"c") ≡ codes "a\tb"
unfolding values
ended_quote = refl

ended_escape : unescaped false (codes "a\\\\b\\") ≡ codes "a\\b"
unfolding values
ended_escape = refl

ended_primes : unescaped true (codes "a'b''c") ≡ codes "a'b"
unfolding values
ended_primes = refl

ended_long_escape : unescaped true (codes "a''\\xb''\\") ≡ codes "axb"
unfolding values
ended_long_escape = refl
