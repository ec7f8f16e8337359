use Rattle.std.proofs.Common.{rules, ◌≤◌, ◌∙◌, length, sym, ap, arith, subst}
use Rattle.std.proofs.lemmas.List.{get_or_read, Edits.length-insert}
use Rattle.std.specs.List.{insert}
use Rattle.rnix_text.proofs.RunLemmas.{put_in_run, same_in_run, filled_with, filled_at}
use Rattle.rnix_text.proofs.runs.add_in.Goals as goal

pub returns-in_err-insert-clause-filled : goal.returns-in_err-insert-clause-filled
returns-in_err-insert-clause-filled c =
    let some = filled_at c.args.runs.now.items c.args.run c.index_mut.result.now c.requires.filled c.requires.is_in.0 in
    filled_with c.insert.new.self c.args.runs.now.items c.args.run c.requires.filled
    (omega (arith, ap length c.in_err-insert.ensures.items, ap (λ r. length r.items) c.index_mut.ensures.value, some))

pub returns-in_err-insert-clause-stays : goal.returns-in_err-insert-clause-stays
returns-in_err-insert-clause-stays c =
    let there = get_or_read c.args.runs.now.items c.args.run c.index_mut.result.now c.requires.is_in.0 c.index_mut.ensures.value c.insert.new.self in
    let same = same_in_run c.insert.new.self c.args.runs.now.items c.args.run c.requires.is_in.0
    (c.in_err-insert.ensures.items ∙ ap (λ r. r.items) there) in search rules

pub returns-clause-filled : goal.returns-clause-filled
returns-clause-filled c =
    let at = subst (λ r. c.args.at ≤ length r.items) (sym c.index_mut.ensures.value) (c.requires.is_in.1 c.index_mut.result.now) in
    filled_with c.insert.new.self c.args.runs.now.items c.args.run c.requires.filled
    (omega (arith, ap length c.in_ok-insert.ensures.items, length-insert c.index_mut.result.now.items c.args.at c.args.edit at))

pub returns-clause-added : goal.returns-clause-added
returns-clause-added c =
    let there = get_or_read c.args.runs.now.items c.args.run c.index_mut.result.now c.requires.is_in.0 c.index_mut.ensures.value c.insert.new.self in
    put_in_run c.insert.new.self c.args.runs.now.items c.args.run c.args.at c.args.edit c.requires.is_in.0 (c.requires.is_in.1 c.insert.new.self)
    (c.in_ok-insert.ensures.items ∙ ap (λ r. insert r.items c.args.at c.args.edit) there)
