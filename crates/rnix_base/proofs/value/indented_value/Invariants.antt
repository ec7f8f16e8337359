use Rattle.{std.{proofs.Common.{◌≡◌, ◌++◌, length}, specs.Vec.Iter.{into_iter_items, into_iter_len}}, rnix_base.specs.Normal.{borrowed, owned}}
use Rattle.rnix_base.proofs.ValuePartLemmas.{value_from}
use Rattle.rnix_base.proofs.value.indented_value.Given as goal

abbrev pub invariant-loop-part : goal.invariant-loop-part
invariant-loop-part g l = record {
  length : into_iter_len l.rest ≡ length (into_iter_items l.rest);
  so_far : value_from l.least l.least (borrowed (into_iter_items l.initial.rest)) ≡ owned l.value.items
      ++ value_from l.least l.remaining (borrowed (into_iter_items l.rest));
}

abbrev pub decreases-loop-part : goal.decreases-loop-part
decreases-loop-part g l = into_iter_len l.rest
