use Rattle.std.proofs.Common.{subst}
use Rattle.nix_values.specs.JsonReading.{EndsAscii}
use Rattle.nix_values.proofs.JsonNumberLemmas.{ascii_boundary}
use Rattle.nix_values.proofs.json_content.after_escape.Goals as goal

pub split_at-requires : goal.split_at-requires
split_at-requires c =
    ascii_boundary c.args.text.now c.in-Ok.len c.utf8.text (subst (λ t. EndsAscii t c.in-Ok.len) c.as_bytes.ensures.value c.in-Ok.ensures.ascii)
