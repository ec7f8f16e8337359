use Rattle.std.proofs.Common.{[], ap, map, sym, subst}
use Rattle.nix_values.specs.Built.{built_of, keys_of}
use Rattle.nix_values.specs.Index.{IsIndex}
use Rattle.nix_values.specs.ValueDepths.{HaveDepths}
use Rattle.nix_values.proofs.BuiltLemmas.{index_empty}
use Rattle.nix_values.proofs.DepthLemmas.{depths_none}
use Rattle.nix_values.proofs.builder.Builder.new.Goals as goal

pub invariant_of-result : goal.invariant_of-result
invariant_of-result c = record {
  index = subst (λ values. IsIndex values c.new-2.result) (sym (ap (map built_of) c.new.ensures.items))
      (index_empty c.new-2.result (c.new-2.ensures (keys_of [])).0 (c.new-2.ensures (keys_of [])).1);
  depths = subst HaveDepths (sym c.new.ensures.items) depths_none;
}
