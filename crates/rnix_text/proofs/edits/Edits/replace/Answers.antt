use Rattle.{std.proofs.Common.{rules, ◌≤◌, length, map, refl, sym, subst}, rnix_text.specs.{declared.edits.Edit.Edit, Edit.change_of}}
use Rattle.rnix_text.{specs.{Changes.{AreInOrder, IsBetween}, Runs.{edits_of, IsInsertionPoint}}, proofs.ChangeLemmas.{ascending, added_in_order}}
use Rattle.rnix_text.proofs.edits.Edits.replace.Goals as goal

pub insertion_point-requires-clause-ascending : goal.insertion_point-requires-clause-ascending
insertion_point-requires-clause-ascending c =
    let text = c.self.inside.text.now in
    ascending text 0 _ (subst (λ rs. AreInOrder text 0 (map change_of (edits_of rs))) (sym c.deref.ensures.value) c.self.invariant.0)

pub invariant_of-self-2 : goal.invariant_of-self-2
invariant_of-self-2 c =
    let text = c.self.inside.text.now in
    let runs = c.self.inside.runs.items in
    let start = c.args.range.start in
    let end = c.args.range.end in
    let e : Edit = record { start = start; end = end; new = c.in_ok-new.new } in
    let insertion : IsInsertionPoint start end runs c.in-Some.insertion =
    subst (λ rs. IsInsertionPoint start end rs c.in-Some.insertion) c.deref.ensures.value c.in-Some.ensures in
    let order : start ≤ end = search rules in
    let high : end ≤ length text = search rules in
    let between : IsBetween text start end = search rules in
    let added = added_in_order text (change_of e) _ _ c.self.invariant.0 order high between (insertion.added e refl refl) in
    (subst (λ es. AreInOrder text 0 (map change_of es)) (sym c.in_ok-add.ensures.added) added, c.in_ok-add.ensures.filled)
