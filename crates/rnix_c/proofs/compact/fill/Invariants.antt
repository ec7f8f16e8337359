use Rattle.std.proofs.Common.{◌≡◌, take}
use Rattle.rnix_c.specs.{Answers.{filled}, CompactElements.{ranges_of, links_of}}
use Rattle.rnix_c.proofs.compact.fill.Given as goal

abbrev pub invariant-loop-number : goal.invariant-loop-number
invariant-loop-number l = record {
  ranges : l.ranges ≡ filled (take l.number (ranges_of l.green)) l.initial.ranges;
  links : l.links ≡ filled (take l.number (links_of l.green)) l.initial.links;
}
