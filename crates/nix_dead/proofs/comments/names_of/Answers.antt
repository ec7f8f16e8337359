use Rattle.std.proofs.Common.{◌∙◌, sym}
use Rattle.nix_lints.proofs.IgnoredLemmas.{rest_whole, names_after}
use Rattle.nix_dead.proofs.comments.names_of.Goals as goal

pub returns-then-starts_with : goal.returns-then-starts_with
returns-then-starts_with c =
    let comment = c.without_blanks-comment.result.now in
    rest_whole 19 comment
    ∙ names_after c.args.line.now comment c.without_blanks-comment.ensures (sym c.starts_with.ensures.value ∙ c.if-starts_with.true)
