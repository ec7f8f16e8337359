use Rattle.std.proofs.Common.{◌≡◌, ◌∙◌, ◌-◌, ◌<◌, false, None, arith}
use Rattle.nix_data.specs.Added.{added}
use Rattle.nix_data.specs.Places.{place_of, values_read}
use Rattle.nix_data.proofs.RefusalLemmas.{refuses_same}
use Rattle.nix_data.proofs.AddedLemmas.{begun_none, added_at_zero, begun_alone, begun_inside, left_refused, left_none}
use Rattle.nix_data.proofs.nix_reader.Reader.+read.Goals as goal

pub returns-in_default-clause-added : goal.returns-in_default-clause-added
returns-in_default-clause-added t c = λ strict.
    let some : 0 < c.args.levels = omega (arith, c.if-levels-eq0.false) in
    begun_alone c.args.levels (place_of c.args.target) c.args.node.now (values_read c.args.values.now) (values_read c.begin.new.values) some
    (rw c.in_default.is at (c.in_ok-inside.ensures strict))

pub loop-child-init : goal.loop-child-init
loop-child-init t c =
    let some : 0 < c.args.levels = omega (arith, c.if-levels-eq0.false) in
    let all = c.into_iter-child-iterator.ensures.into_iter_gives ∙ c.children-child-items.ensures.children in
    record {
      next = tt;
      ends = tt;
      added = λ strict. begun_inside c.args.levels (place_of c.args.target) (place_of c.in-Some.inside) c.args.node.now
          c.into_iter-child-iterator.result (values_read c.args.values.now) (values_read c.begin.new.values) some all
          (rw c.in-Some.is at (c.in_ok-inside.ensures strict));
    }

pub returns-clause-added : goal.returns-clause-added
returns-clause-added t c = λ strict.
    left_none (added (c.args.levels - 1)) (place_of c.loop-child.inside) c.loop-child.child-iterator (values_read c.loop-child.values)
    (added c.args.levels (place_of c.args.target) c.args.node.now (values_read c.args.values.now)) c.in-None.ensures.steps.0
    (c.loop-child.invariant.added strict)

pub returns-then-levels-eq0-clause-refused : goal.returns-then-levels-eq0-clause-refused
returns-then-levels-eq0-clause-refused t c = λ refused strict.
    added_at_zero c.args.levels (place_of c.args.target) c.args.node.now (values_read c.args.values.now) c.if-levels-eq0.true

pub returns-in_err-inside-clause-refused : goal.returns-in_err-inside-clause-refused
returns-in_err-inside-clause-refused t c =
    refuses_same c.from_residual.result c.in_err-inside.field-0.0 (c.args.self.now.is_lossy ≡ false →
    added c.args.levels (place_of c.args.target) c.args.node.now (values_read c.args.values.now) ≡ None) c.from_residual.ensures.1
    (λ refused strict. begun_none c.args.levels (place_of c.args.target) c.args.node.now (values_read c.args.values.now)
    (c.in_err-inside.ensures refused strict))

pub returns-in_err-read-clause-refused : goal.returns-in_err-read-clause-refused
returns-in_err-read-clause-refused t c =
    refuses_same c.from_residual-in_err-read.result c.in_err-read.field-0.0
    (c.args.self.now.is_lossy ≡ false →
    added c.args.levels (place_of c.args.target) c.args.node.now (values_read c.args.values.now) ≡ None)
    c.from_residual-in_err-read.ensures.1
    (λ refused strict.
    left_refused (added (c.args.levels - 1)) (place_of c.loop-child.inside) (place_of c.for_node.result) c.loop-child.child-iterator
    c.next.new.self c.in-Some-child.child (values_read c.loop-child.values)
    (added c.args.levels (place_of c.args.target) c.args.node.now (values_read c.args.values.now)) c.in-Some-child.ensures.steps c.for_node.ensures.next
    (c.in_err-read.ensures.refused refused strict) (c.loop-child.invariant.added strict))
