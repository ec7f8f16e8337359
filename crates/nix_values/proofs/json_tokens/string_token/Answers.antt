use Rattle.std.proofs.Common.{◌<◌, get_or, arith}
use Rattle.std.proofs.lemmas.Str.{IsCharBoundary-after_ascii}
use Rattle.nix_values.proofs.json_tokens.string_token.Goals as goal

pub split_at-requires : goal.split_at-requires
split_at-requires c =
    let low : get_or c.args.text.now c.args.at 0 < 128 = omega (arith, c.requires.quote) in
    IsCharBoundary-after_ascii c.args.text.now c.args.at c.utf8.text c.requires.within low
