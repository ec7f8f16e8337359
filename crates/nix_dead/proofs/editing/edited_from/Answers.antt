use Rattle.std.proofs.Common.{ℕ, List, inl, inr, sym, subst, arith}
use Rattle.std.specs.Prelude.{string_bytes}
use Rattle.rnix.specs.ParseResult.{root_of}
use Rattle.nix_dead.specs.declared.editing.Turn.TheVariants as turn
use Rattle.nix_dead.specs.Editing.{AreTurns}
use Rattle.nix_dead.proofs.EditingLemmas.{same_turn}
use Rattle.nix_dead.proofs.editing.edited_from.Goals as goal

pub loop-count-init : goal.loop-count-init
loop-count-init c = λ well.
    subst (λ (made : List ℕ). AreTurns c.args.text.now c.args.options 0 made c.args.read) (sym c.in_ok-made.ensures.ok) (AreTurns.no_turns c.args.read well)

pub returns-in-Done : goal.returns-in-Done
returns-in-Done c = λ well. record {
  count = c.loop-count.count;
  read = c.loop-count.own;
  turns = c.loop-count.invariant well;
  end = inl (same_turn c.as_str.result.now (string_bytes c.loop-count.made) c.args.options c.syntax.result (root_of c.loop-count.own)
      c.in_ok-take_turn.field-0 turn.Done c.as_str.ensures.value c.syntax.ensures c.in-Done.is c.in_ok-take_turn.ensures);
}

pub returns : goal.returns
returns c = λ well. record {
  count = c.loop-count.count;
  read = c.loop-count.own;
  turns = c.loop-count.invariant well;
  end = inr (omega (arith, c.loop-count-test.false, c.loop-count.auto.count-end));
}

pub returns-in-Refused : goal.returns-in-Refused
returns-in-Refused c = λ well. record {
  count = c.loop-count.count;
  mid = string_bytes c.loop-count.made;
  read = c.loop-count.own;
  turns = c.loop-count.invariant well;
  refused = same_turn c.as_str.result.now (string_bytes c.loop-count.made) c.args.options c.syntax.result (root_of c.loop-count.own)
      c.in_ok-take_turn.field-0 turn.Refused c.as_str.ensures.value c.syntax.ensures c.in-Refused.is c.in_ok-take_turn.ensures;
}

pub loop-count-preserved : goal.loop-count-preserved
loop-count-preserved c = λ well.
    AreTurns.one_turn c.loop-count.count (string_bytes c.loop-count.made) (string_bytes c.in-Changed.new) c.loop-count.own c.in-Changed.read
    (c.loop-count.invariant well)
    (same_turn c.as_str.result.now (string_bytes c.loop-count.made) c.args.options c.syntax.result (root_of c.loop-count.own)
    c.in_ok-take_turn.field-0 (turn.Changed c.in-Changed.new c.in-Changed.read) c.as_str.ensures.value c.syntax.ensures c.in-Changed.is
    c.in_ok-take_turn.ensures)
