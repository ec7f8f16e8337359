use Rattle.{std.proofs.{Common.{rules, ◌≡◌, ◌+◌, ◌++◌, ◌∙◌, [], ◌∷◌, true, map, take, ap, sym, subst, arith}, lemmas.List.{get_or-map, length-map, map_more, take-map}}, rnix_green.specs.Range.bounds_of}
use Rattle.nix_rename.specs.Changed.{IsOccurrenceTested}
use Rattle.nix_rename.proofs.ChangedLemmas.{draft_more, unchangeable_found}
use Rattle.nix_rename.proofs.renaming.changed.Goals as goal

pub returns-then-not-branch-clause-unchanged : goal.returns-then-not-branch-clause-unchanged
returns-then-not-branch-clause-unchanged c =
    let occurrences = c.args.occurrences.now in
    let i = c.loop-occurrence.occurrence-index in
    let occurrence = c.occurrence-item.result in
    unchangeable_found c.args.text.now (map bounds_of occurrences) (map bounds_of (take i occurrences)) (bounds_of occurrence) c.args.old.now c.args.new.now i
    c.loop-occurrence.edits
    (sym (take-map bounds_of i occurrences)) (omega (arith, c.loop-occurrence-test.true, length-map occurrences bounds_of))
    (get_or-map bounds_of occurrences i occurrence (bounds_of occurrence) c.loop-occurrence-test.true
    ∙ ap bounds_of (sym c.occurrence-item.is)) c.loop-occurrence.invariant
    (subst (IsOccurrenceTested (bounds_of occurrence) c.args.old.now c.args.new.now c.loop-occurrence.edits c.add_change.new.edits)
    c.if-not-branch.true c.in_ok-add_change.ensures.tested)

pub loop-occurrence-preserved : goal.loop-occurrence-preserved
loop-occurrence-preserved c =
    let occurrences = c.args.occurrences.now in
    let i = c.loop-occurrence.occurrence-index in
    let occurrence = c.occurrence-item.result in
    let more : map bounds_of (take (i + 1) occurrences) ≡ map bounds_of (take i occurrences) ++ bounds_of occurrence ∷ [] =
    search (map_more bounds_of occurrences i occurrence, c.occurrence-item.is, rules) in
    let tested : IsOccurrenceTested (bounds_of occurrence) c.args.old.now c.args.new.now c.loop-occurrence.edits c.add_change.new.edits true =
    subst (IsOccurrenceTested (bounds_of occurrence) c.args.old.now c.args.new.now c.loop-occurrence.edits c.add_change.new.edits)
    c.if-not-branch.false c.in_ok-add_change.ensures.tested in
    draft_more c.args.text.now (map bounds_of (take i occurrences)) (map bounds_of (take (i + 1) occurrences)) (bounds_of occurrence) c.args.old.now
    c.args.new.now
    c.loop-occurrence.edits c.add_change.new.edits c.loop-occurrence.invariant more occurrence.ordered tested.0 c.in_ok-add_change.ensures.text tested.1
