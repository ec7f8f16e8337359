use Rattle.std.proofs.Common.{◌∙◌, ap, sym, subst}
use Rattle.std.specs.{Str.IsCharBoundary, List.prefix_len, Char.is_ascii_digit}
use Rattle.nix_values.proofs.JsonNumberLemmas.{digits_boundary}
use Rattle.nix_values.proofs.float.split_digits.Goals as goal

pub split_at-requires : goal.split_at-requires
split_at-requires c =
    let len = c.digits.ensures.len ∙ ap (prefix_len is_ascii_digit) c.as_bytes.ensures.value in
    subst (IsCharBoundary c.args.text.now) (sym len) (digits_boundary c.args.text.now c.utf8.text)
