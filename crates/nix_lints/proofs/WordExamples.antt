-- Findings in words, by computation.
use Rattle.std.proofs.Common.{◌≡◌, refl}
use Rattle.std.specs.Prelude.{codes}
use Rattle.nix_lints.specs.Words.{space_message}

-- the messages on a form feed, a no-break space and an ideographic space
form_feed : space_message 12 ≡ codes "Nix does not read U+000C as white space"
form_feed = refl

no_break_space : space_message 160 ≡ codes "Nix does not read U+00A0 as white space"
no_break_space = refl

ideographic_space : space_message 12288 ≡ codes "Nix does not read U+3000 as white space"
ideographic_space = refl
