use Rattle.std.proofs.Common.{◌∙◌, ap, sym, subst}
use Rattle.std.specs.{Str.IsCharBoundary, List.prefix_len}
use Rattle.nix_values.specs.JsonEscapes.{is_plain}
use Rattle.nix_values.proofs.JsonStringLemmas.{plain_boundary}
use Rattle.nix_values.proofs.json_content.after_plain.Goals as goal

pub split_at-requires : goal.split_at-requires
split_at-requires c =
    let len = c.plain_len.ensures.len ∙ ap (prefix_len is_plain) c.as_bytes.ensures.value in
    subst (IsCharBoundary c.args.text.now) (sym len) (plain_boundary c.args.text.now)
