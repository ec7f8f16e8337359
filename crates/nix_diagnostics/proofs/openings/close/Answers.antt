use Rattle.std.proofs.Common.{◌∙◌, ap, sym, reverse}
use Rattle.nix_diagnostics.specs.Unmatched.{is_open, open_around}
use Rattle.nix_diagnostics.proofs.UnmatchedLemmas.{is_open_inside, around_inside, is_open_here, around_here}
use Rattle.nix_diagnostics.proofs.openings.close.Goals as goal

pub loop-innermost-preserved : goal.loop-innermost-preserved
loop-innermost-preserved c =
    let kind = c.args.kind in
    let inner = c.in-Some.innermost in
    let rest = c.pop.new.self.items in
    let other = sym c.same_kind.ensures ∙ c.if-same_kind.false in
    record {
      closes = sym (ap (λ xs. is_open kind (reverse xs)) c.in-Some.ensures.items ∙ is_open_inside kind inner rest other) ∙ c.loop-innermost.invariant.closes;
      around = sym (ap (λ xs. open_around kind (reverse xs)) c.in-Some.ensures.items ∙ around_inside kind inner rest other)
          ∙ c.loop-innermost.invariant.around;
    }

pub returns-then-same_kind-clause-closes : goal.returns-then-same_kind-clause-closes
returns-then-same_kind-clause-closes c =
    let kind = c.args.kind in
    sym (is_open_here kind c.in-Some.innermost c.pop.new.self.items (sym c.same_kind.ensures ∙ c.if-same_kind.true))
    ∙ sym (ap (λ xs. is_open kind (reverse xs)) c.in-Some.ensures.items) ∙ c.loop-innermost.invariant.closes

pub returns-then-same_kind-clause-around : goal.returns-then-same_kind-clause-around
returns-then-same_kind-clause-around c =
    let kind = c.args.kind in
    sym (around_here kind c.in-Some.innermost c.pop.new.self.items (sym c.same_kind.ensures ∙ c.if-same_kind.true))
    ∙ sym (ap (λ xs. open_around kind (reverse xs)) c.in-Some.ensures.items) ∙ c.loop-innermost.invariant.around
