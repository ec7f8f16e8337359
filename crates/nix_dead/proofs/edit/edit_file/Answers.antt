use Rattle.std.proofs.Common.{ℕ, List, subst, string_bytes, rules}
use Rattle.nix_dead.specs.EditedFiles.{IsTextEdited, IsFileEdited}
use Rattle.nix_dead.proofs.edit.edit_file.Goals as goal

pub returns-in_ok-flush-in-Some : goal.returns-in_ok-flush-in-Some
returns-in_ok-flush-in-Some g c =
    let mid = g.W.Write.contents c.read_text.new.out in
    let end = g.W.Write.contents c.edit_text.new.out in
    IsFileEdited.read (string_bytes c.in-Some.text) mid end c.in_ok-status-in-Some.status (search rules) c.read_text.ensures.kept
    (subst (λ (text : List ℕ). IsTextEdited c.args.options c.args.file.now text mid end c.in_ok-status-in-Some.status) c.as_str.ensures.value
    c.in_ok-status-in-Some.ensures) c.in_ok-flush-in-Some.ensures.bytes

pub returns-in-None : goal.returns-in-None
returns-in-None g c = IsFileEdited.unread (search rules) c.read_text.ensures.kept
