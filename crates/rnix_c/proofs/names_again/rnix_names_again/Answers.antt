use Rattle.std.proofs.{Common.{rules, ◌≡◌, ℤ, inl, inr, refl, subst, to_z, of_z, w64}}
use Rattle.rnix_c.specs.{Answers.{IsRefused}, NameCalls.{WritesNames}}
use Rattle.rnix_c.proofs.names_again.rnix_names_again.Goals as goal

pub returns-in-Err : goal.returns-in-Err
returns-in-Err c =
    let same : c.in-Err.answer ≡ to_z w64 (of_z w64 c.in-Err.answer) = search rules in
    inl (subst (λ (answer : ℤ). IsRefused c.args.text.now answer) same c.in-Err.ensures.refused, (refl, refl, refl))

pub returns-in-Ok-resolve : goal.returns-in-Ok-resolve
returns-in-Ok-resolve c =
    let read = c.in-Ok.read in
    let names : WritesNames read.tree (to_z w64 (of_z w64 c.write_names.result)) c.args.bindings.now c.write_names.new.bindings c.args.references.now
    c.write_names.new.references c.write_names.new.reference_count = search rules in
    inr (c.in-Ok.ensures.utf8, (read.tree, read.faults, c.in-Ok.ensures.read, names))
