use Rattle.std.proofs.Common.{◌∙◌, ◌++◌, ◌∷◌, [], rules, ap, sym, subst, map, take, if◌then◌else◌}
use Rattle.rnix_grammar.specs.Fault.{fault_of}
use Rattle.nix_diagnostics.specs.{Known.FitsErrors, Following.firsts_from}
use Rattle.nix_diagnostics.proofs.MistakeLemmas.{first_more, all_judged, count_before, up_to}
use Rattle.nix_diagnostics.proofs.diagnosis.first_numbers.Goals as goal

pub loop-number-preserved : goal.loop-number-preserved
loop-number-preserved c =
    let root = c.args.root.now in
    let errors = c.args.errors.now in
    let all = map fault_of errors in
    let i = c.loop-number.number in
    let e = c.index-errors-number.result in
    let before = map fault_of (take i errors) in
    let follows = c.folds-follows.result in
    let counts = count_before errors i c.loop-number-test.true in
    let more = up_to errors i e c.loop-number-test.true c.index-errors-number.is in
    let judged = c.folds-follows.ensures all before c.loop-number.invariant.known in
    record {
      firsts = c.in_ok-add_first.ensures
          ∙ ap (λ ns. ns ++ (if follows then [] else i ∷ [])) c.loop-number.invariant.firsts
          ∙ ap (λ n. firsts_from root all [] before ++ (if follows then [] else n ∷ [])) counts
          ∙ sym (first_more root all before _ (fault_of e) follows (sym judged.0) more);
      known = subst (λ fs. FitsErrors root all fs c.folds-follows.new.self) (sym more) judged.1;
      earlier = c.error_node-node.ensures.earlier;
    }

pub returns : goal.returns
returns c = c.loop-number.invariant.firsts ∙ all_judged c.args.root.now c.args.errors.now c.loop-number.number (search rules)
