use Rattle.std.proofs.{Common.{ℕ, List, map, subst}, lemmas.Result.on_ok_weaker}
use Rattle.std.specs.Io.KnownBytes.{Appends}
use Rattle.nix_diagnostics.specs.declared.notes.Note.{Note}
use Rattle.nix_check.{specs.{Listed.comma_joined, AsJson.{message_members, note_object, errors_member}}, proofs.AppendedPieces.seven}
use Rattle.nix_check.proofs.json.write_json.Goals as goal

pub returns : goal.returns
returns g c =
    let text = c.args.source.now.text.now in
    let range = c.args.diagnostic.now.range in
    let third = g.W.Write.contents c.write_all-2.new.self in
    let fourth = g.W.Write.contents c.write_message.new.out in
    let fifth = g.W.Write.contents c.write_errors.new.out in
    let sixth = g.W.Write.contents c.write_notes.new.out in
    on_ok_weaker c.write_all-3.result
    (λ e. seven (g.W.Write.contents c.args.out.now) (g.W.Write.contents c.write_all.new.self) (g.W.Write.contents c.write_json_string.new.out) third fourth
    fifth sixth (g.W.Write.contents c.write_all-3.new.self) _ _ _ _ _ _ _ c.in_ok-write_all.ensures.bytes c.in_ok-write_json_string.ensures
    c.in_ok-write_all-2.ensures.bytes
    (subst (λ (message : List ℕ). Appends third fourth (message_members text range message)) c.as_str.ensures.value c.in_ok-write_message.ensures)
    (subst (λ (errors : ℕ). Appends fourth fifth (errors_member c.args.diagnostic.now.code errors)) c.saturating_sub-errors.ensures
    c.in_ok-write_errors.ensures)
    (subst (λ (notes : List Note). Appends fifth sixth (comma_joined (map (note_object text range) notes))) c.deref.ensures.value
    c.in_ok-write_notes.ensures) e) c.write_all-3.ensures.bytes
