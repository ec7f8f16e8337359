use Rattle.std.proofs.Common.{◌≡◌, ◌∙◌, get_or, ap, sym}
use Rattle.nix_values.proofs.JsonNumberLemmas.{first_boundary}
use Rattle.nix_values.proofs.float.without_first.Goals as goal

pub split_at-requires : goal.split_at-requires
split_at-requires c =
    let first : get_or c.args.text.now 0 0 ≡ c.args.byte =
    sym (ap (λ l. get_or l 0 0) c.as_bytes.ensures.value) ∙ sym c.byte_at.ensures ∙ c.if-byte_at-byte.true in
    first_boundary c.args.text.now c.args.byte c.utf8.text first c.requires.some c.requires.ascii
