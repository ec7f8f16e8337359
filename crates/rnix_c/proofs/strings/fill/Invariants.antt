use Rattle.std.proofs.Common.{◌≡◌, take, drop}
use Rattle.{rnix_base.specs.Normal.{owned}, rnix_c.specs.{Answers.{filled}, StringCalls.{parts_from}}}
use Rattle.rnix_c.proofs.strings.fill.Given as goal

abbrev pub invariant-loop-number : goal.invariant-loop-number
invariant-loop-number l = record {
  rest : drop l.number (parts_from 0 (owned l.parts)) ≡ parts_from l.before (drop l.number (owned l.parts));
  written : l.room ≡ filled (take l.number (parts_from 0 (owned l.parts))) l.initial.room;
}
