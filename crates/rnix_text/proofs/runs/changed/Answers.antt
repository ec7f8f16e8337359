use Rattle.std.proofs.{Common.{◌≡◌, ◌++◌, ◌+◌, suc, ◌∙◌, map, drop, string_bytes, ap, sym, subst}, Common.{add-one, drop-cons}, lemmas.Str.IsCharBoundary-start}
use Rattle.rnix_text.{specs.{Edit.change_of, Changes.{AreInOrder, changed_from}, Runs.edits_of}, proofs.ChangeLemmas.{in_order_parts, changed_parts}}
use Rattle.rnix_text.proofs.runs.changed.Goals as goal

pub loop-run-init : goal.loop-run-init
loop-run-init c = record {
  order = c.requires;
  boundary = IsCharBoundary-start c.args.text.now c.utf8.text;
  made = ap (λ z. z ++ changed_from 0 (map change_of (edits_of c.args.runs.now)) c.args.text.now) c.new-made.ensures.bytes;
}

pub loop-run-preserved : goal.loop-run-preserved
loop-run-preserved c =
    let text = c.args.text.now in
    let runs = c.args.runs.now in
    let i = c.loop-run.run-index in
    let run = c.deref.result.now in
    let rest = edits_of (drop (i + 1) runs) in
    let remaining : edits_of (drop i runs) ≡ run ++ rest =
    ap edits_of (drop-cons runs i c.run-item.result c.loop-run-test.true) ∙ ap (λ r. r.items ++ edits_of (drop (suc i) runs)) (sym c.run-item.is)
    ∙ ap (λ r. r ++ edits_of (drop (suc i) runs)) (sym c.deref.ensures.value) ∙ ap (λ k. run ++ edits_of (drop k runs)) (sym (add-one i)) in
    let parts = in_order_parts text c.loop-run.at run rest
    (subst (λ es. AreInOrder text c.loop-run.at (map change_of es)) remaining c.loop-run.invariant.order) in
    record {
      order = subst (λ k. AreInOrder text k (map change_of rest)) (sym c.in_ok-at.ensures.end) parts.1;
      boundary = c.in_ok-at.ensures.boundary;
      made = c.in_ok-at.ensures.made (map change_of rest)
          ∙ ap (λ z. string_bytes c.loop-run.made ++ z) (sym (changed_parts c.loop-run.at run rest text))
          ∙ ap (λ es. string_bytes c.loop-run.made ++ changed_from c.loop-run.at (map change_of es) text) (sym remaining) ∙ c.loop-run.invariant.made;
    }

pub add_changed-requires-clause-order : goal.add_changed-requires-clause-order
add_changed-requires-clause-order c =
    let text = c.args.text.now in
    let runs = c.args.runs.now in
    let i = c.loop-run.run-index in
    let run = c.deref.result.now in
    let rest = edits_of (drop (suc i) runs) in
    let remaining : edits_of (drop i runs) ≡ run ++ rest =
    ap edits_of (drop-cons runs i c.run-item.result c.loop-run-test.true) ∙ ap (λ r. r.items ++ rest) (sym c.run-item.is)
    ∙ ap (λ r. r ++ rest) (sym c.deref.ensures.value) in
    (in_order_parts text c.loop-run.at run rest (subst (λ es. AreInOrder text c.loop-run.at (map change_of es)) remaining c.loop-run.invariant.order)).0
