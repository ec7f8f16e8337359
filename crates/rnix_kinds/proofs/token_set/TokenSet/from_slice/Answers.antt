use Rattle.std.{proofs.{Common.{sym, subst, ◌∙◌, ap, arith, take}, lemmas.List.{take_more, take_all}}, specs.{Bool.Decides, List.Contains, FinSet.contains}}
use Rattle.{std.specs.FinSet.union, rnix_kinds.{specs.TokenSet.{KindSet, set_of}, proofs.KindSets.{contains-decides, kinds_of-zero, union-one, set_of_more}}}
use Rattle.rnix_kinds.proofs.token_set.TokenSet.from_slice.Goals as goal

pub loop-kind-init : goal.loop-kind-init
loop-kind-init c = kinds_of-zero

pub loop-kind-preserved : goal.loop-kind-preserved
loop-kind-preserved c =
    c.union-set.ensures
    ∙ (λ i. union (c.loop-kind.invariant i) (c.new.ensures i))
    ∙ union-one (set_of (take c.loop-kind.kind-index c.args.kinds.now)) _
    ∙ sym (set_of_more (take c.loop-kind.kind-index c.args.kinds.now) _)
    ∙ sym (ap set_of (take_more c.args.kinds.now c.loop-kind.kind-index _ c.loop-kind-test.true))

pub returns : goal.returns
returns c =
    let whole = c.loop-kind.invariant ∙ ap set_of (take_all _ c.args.kinds.now (omega arith)) in record {
      set = whole;
      kinds = λ kind. subst (λ (s : KindSet). Decides (contains s kind) (Contains c.args.kinds.now kind)) (sym whole) (contains-decides c.args.kinds.now kind);
    }
