use Rattle.std.proofs.{Common.{rules, ◌<◌, ◌∙◌, length, map, sym, ap, subst, arith}, lemmas.List.get_or_read}
use Rattle.rnix_text.{specs.{Edit.change_of, Changes.AreAscending}, proofs.{RunLemmas.run_ascends, InsertionLemmas.{last_placed, run_placed, run_met, not_last}}}
use Rattle.rnix_text.proofs.runs.insertion_point.Goals as goal

pub returns-then-run-runs : goal.returns-then-run-runs
returns-then-run-runs c =
    last_placed c.args.start c.args.end c.args.runs.now c.runs_by-run.result c.requires.ascending c.requires.filled c.requires.order
    c.runs_by-run.ensures.parted c.if-run-runs.true

pub edits_by-at-requires : goal.edits_by-at-requires
edits_by-at-requires c =
    let r = c.index-runs-run.result in
    let inside : c.runs_by-run.result < length c.args.runs.now = search rules in
    subst (λ xs. AreAscending 0 (map change_of xs)) (ap (λ x. x.items) (sym c.index-runs-run.is) ∙ sym c.as_slice-edits.ensures.value)
    (run_ascends 0 c.args.runs.now c.runs_by-run.result r c.requires.ascending inside)

pub bounds-edits-at : goal.bounds-edits-at
bounds-edits-at c =
    let inside : c.runs_by-run.result < length c.args.runs.now = search rules in
    not_last c.args.start c.args.end c.args.runs.now c.runs_by-run.result c.requires.ascending c.requires.filled c.requires.order
    c.runs_by-run.ensures.parted c.edits_by-at.result c.index-runs-run.result c.as_slice-edits.result.now c.as_slice-edits.ensures.value inside
    c.index-runs-run.is c.edits_by-at.ensures.bound c.edits_by-at.ensures.parted

pub bounds-edits-at-else-run-runs : goal.bounds-edits-at-else-run-runs
bounds-edits-at-else-run-runs c =
    let inside : c.runs_by-run.result < length c.args.runs.now = search rules in
    not_last c.args.start c.args.end c.args.runs.now c.runs_by-run.result c.requires.ascending c.requires.filled c.requires.order
    c.runs_by-run.ensures.parted c.edits_by-at.result c.index-runs-run.result c.as_slice-edits.result.now c.as_slice-edits.ensures.value inside
    c.index-runs-run.is c.edits_by-at.ensures.bound c.edits_by-at.ensures.parted

pub returns-then-edits-at : goal.returns-then-edits-at
returns-then-edits-at c =
    let inside : c.runs_by-run.result < length c.args.runs.now = search rules in
    run_met c.args.start c.args.end c.args.runs.now c.runs_by-run.result c.requires.ascending c.requires.filled c.requires.order
    c.runs_by-run.ensures.parted c.edits_by-at.result c.index-runs-run.result c.as_slice-edits.result.now c.as_slice-edits.ensures.value inside
    c.index-runs-run.is c.edits_by-at.ensures.bound c.edits_by-at.ensures.parted c.index-edits-at.result c.if-edits-at.true

pub returns : goal.returns
returns c =
    let inside : c.runs_by-run.result < length c.args.runs.now = search rules in
    let e = c.index-edits-at.result in
    let read = c.index-edits-at.is in
    let low = c.if-edits-at.false in
    let within =
    not_last c.args.start c.args.end c.args.runs.now c.runs_by-run.result c.requires.ascending c.requires.filled c.requires.order
    c.runs_by-run.ensures.parted c.edits_by-at.result c.index-runs-run.result c.as_slice-edits.result.now c.as_slice-edits.ensures.value inside
    c.index-runs-run.is c.edits_by-at.ensures.bound c.edits_by-at.ensures.parted in
    run_placed c.args.start c.args.end c.args.runs.now c.runs_by-run.result c.requires.ascending c.requires.filled c.requires.order
    c.runs_by-run.ensures.parted c.edits_by-at.result c.index-runs-run.result c.as_slice-edits.result.now c.as_slice-edits.ensures.value inside
    c.index-runs-run.is c.edits_by-at.ensures.bound c.edits_by-at.ensures.parted
    (λ d. omega (arith, ap (λ x. x.start) (get_or_read c.as_slice-edits.result.now c.edits_by-at.result e within read d), ap (λ x. x.start) read, low))
