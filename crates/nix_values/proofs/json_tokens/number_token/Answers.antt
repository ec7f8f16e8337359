use Rattle.std.proofs.lemmas.Str.{IsCharBoundary-before_ascii}
use Rattle.nix_values.proofs.json_tokens.number_token.Goals as goal

pub split_at-requires : goal.split_at-requires
split_at-requires c = IsCharBoundary-before_ascii c.args.text.now c.args.at c.requires.within c.requires.ascii
