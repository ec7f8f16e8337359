use Rattle.std.proofs.Common.{rules, ◌≡◌, string_bytes, refl}
use Rattle.rnix_kinds.specs.Lexical.Tokens.{tokens_of}
use Rattle.rnix_grammar.specs.Parsed.{IsParsed}
use Rattle.nix_fixes.proofs.FixLemmas.{begun}
use Rattle.nix_fixes.proofs.all_fixes.start_progress.Goals as goal

pub returns-clause-progress : goal.returns-clause-progress
returns-clause-progress c =
    let text = c.args.text.now in
    let made : string_bytes c.in_ok-made.made ≡ text = search rules in
    let is_read : IsParsed (tokens_of text) c.in_ok-read.read.tree c.in_ok-read.read.faults = search rules in
    begun text record { made = c.in_ok-made.made; read = c.in_ok-read.read; fixes = 0; tried = 0 } made is_read refl refl
