use Rattle.std.proofs.Common.{rules, ◌≡◌, ℤ, inl, inr, refl, subst, pos, to_z, of_z, w64}
use Rattle.rnix_c.specs.{Answers.{IsRefused}, NameCalls.{WritesNames}, Diagnostics.{WritesDiagnostics}}
use Rattle.rnix_c.proofs.analysis.rnix_analysis.Goals as goal

pub returns-in-Err : goal.returns-in-Err
returns-in-Err c =
    let same : c.in-Err.answer ≡ to_z w64 (of_z w64 c.in-Err.answer) = search rules in
    inl (subst (λ (answer : ℤ). IsRefused c.args.text.now answer) same c.in-Err.ensures.refused, (refl, refl, refl, refl, refl, refl, refl, refl, refl))

pub returns-in-Ok-described : goal.returns-in-Ok-described
returns-in-Ok-described c =
    let read = c.in-Ok.read in
    let names : WritesNames read.tree (to_z w64 (of_z w64 c.write_names.result)) c.args.bindings.now c.write_names.new.bindings c.args.references.now
    c.write_names.new.references c.write_names.new.reference_count = search rules in
    let described : WritesDiagnostics c.args.text.now read.tree read.faults (pos c.len.result) c.args.room.now c.write_said.new.room c.args.notes.now
    c.write_said.new.notes c.write_said.new.note_count c.args.buffer.now c.write_said.new.buffer c.write_said.new.buffer_len = search rules in
    inr (c.in-Ok.ensures.utf8, (read.tree, read.faults, c.in-Ok.ensures.read, (names, described)))
