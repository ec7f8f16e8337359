use Rattle.std.proofs.Common.{◌≡◌, ◌∙◌, ℕ, ◌<◌, ◌≤◌, ◌∷◌, ◌++◌, [], List, length, map, true, sym, ap, subst, arith}
use Rattle.std.specs.Prelude.{is_ok, vec_len, vec_capacity}
use Rattle.std.proofs.lemmas.Bool.{cond-true}
use Rattle.std.proofs.lemmas.List.{map-append}
use Rattle.nix_values.specs.Contents.{plain_of}
use Rattle.nix_values.specs.Built.{Built, built_of}
use Rattle.nix_values.specs.Index.{IsIndex}
use Rattle.nix_values.specs.declared.nodes.Node.{Node}
use Rattle.nix_values.specs.Preorder.{parent_before}
use Rattle.nix_values.specs.ValueDepths.{HaveDepths, depth_under}
use Rattle.nix_values.proofs.DepthLemmas.{depths_added}
use Rattle.nix_values.proofs.builder.Builder.add.Goals as goal

pub invariant_of-self : goal.invariant_of-self
invariant_of-self c = record {
  index = subst (λ ns. IsIndex (map built_of ns) c.args.self.now.attributes) (sym c.reserve.ensures.items) c.args.self.now.index;
  depths = subst HaveDepths (sym c.reserve.ensures.items) c.args.self.now.depths;
}

pub invariant_of-self-in-Break-branch-2 : goal.invariant_of-self-in-Break-branch-2
invariant_of-self-in-Break-branch-2 c = record {
  index = c.in_err-attach.ensures.kept;
  depths = subst HaveDepths (sym c.reserve.ensures.items) c.args.self.now.depths;
}

pub invariant_of-self-2 : goal.invariant_of-self-2
invariant_of-self-2 c =
    let nodes = c.reserve.new.self.items in
    let same : nodes ≡ c.args.self.now.values.nodes.items = c.reserve.ensures.items in
    let room : vec_len c.reserve.new.self < vec_capacity c.reserve.new.self = omega (arith, c.in_ok-reserve.ensures.ok) in
    let fits : is_ok c.push.result ≡ true = c.push.ensures.succeeds room in
    let node : Node = record { parent = c.args.parent; depth = c.depth_inside-depth.result; name = c.args.name; value = c.args.value } in
    let longer : c.push.new.self.items ≡ nodes ++ node ∷ [] = c.push.ensures.items ∙ cond-true (is_ok c.push.result) _ _ fits in
    let b : List ℕ → Built = λ name. record { parent = c.args.parent; name = name; plain = plain_of c.args.value } in
    let items : map built_of c.push.new.self.items ≡ map built_of nodes ++ b c.as_str.result.now ∷ [] =
    ap (map built_of) longer ∙ map-append built_of nodes _ ∙ ap (λ n. map built_of nodes ++ b n ∷ []) (sym c.as_str.ensures.value) in
    record {
      index = subst (λ values. IsIndex values c.attach.new.attributes) (sym items) (c.in_ok-attach.ensures.attached (plain_of c.args.value));
      depths = subst HaveDepths (sym longer)
          (depths_added nodes (subst HaveDepths (sym same) c.args.self.now.depths) node
          (c.depth_inside-depth.ensures.depth ∙ ap (λ ns. depth_under ns (parent_before (length ns) c.args.parent)) (sym same))
          (subst (λ ns. c.depth_inside-depth.result ≤ length ns) (sym same) c.depth_inside-depth.ensures.within));
    }
