use Rattle.std.proofs.{Common.{ℕ, List, map, subst}, lemmas.Result.on_ok_weaker}
use Rattle.std.specs.Io.KnownBytes.{Appends}
use Rattle.nix_diagnostics.specs.declared.notes.Note.{Note}
use Rattle.nix_check.{specs.{Listed.comma_joined, AsSarif.{message_object, related_location}}, proofs.AppendedPieces.seven}
use Rattle.nix_check.proofs.sarif.write_result.Goals as goal

pub returns : goal.returns
returns g c =
    let source = c.args.source.now in
    let range = c.args.diagnostic.now.range in
    let first = g.W.Write.contents c.write_rule.new.out in
    let second = g.W.Write.contents c.write_message.new.out in
    let fifth = g.W.Write.contents c.write_all-2.new.self in
    let sixth = g.W.Write.contents c.write_all_related.new.out in
    on_ok_weaker c.write_all-3.result
    (λ e. seven (g.W.Write.contents c.args.out.now) first second (g.W.Write.contents c.write_all.new.self) (g.W.Write.contents c.write_location.new.out)
    fifth sixth (g.W.Write.contents c.write_all-3.new.self) _ _ _ _ _ _ _ c.in_ok-write_rule.ensures
    (subst (λ (message : List ℕ). Appends first second (message_object message)) c.as_str.ensures.value c.in_ok-write_message.ensures)
    c.in_ok-write_all.ensures.bytes c.in_ok-write_location.ensures c.in_ok-write_all-2.ensures.bytes
    (subst (λ (notes : List Note). Appends fifth sixth (comma_joined (map (related_location source.name.now source.text.now range) notes)))
    c.deref.ensures.value c.in_ok-write_all_related.ensures) e) c.write_all-3.ensures.bytes
