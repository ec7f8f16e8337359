use Rattle.std.proofs.Common.{◌≡◌, ◌∙◌, ◌-◌, ◌<◌, suc, None, Some, length, map, get_or, set, replicate, ap, subst, arith}
use Rattle.std.proofs.lemmas.List.{length-map}
use Rattle.nix_values.specs.Built.{built_of}
use Rattle.nix_values.specs.Groups.{groups_of, AreLinkedFrom}
use Rattle.nix_values.proofs.DepthLemmas.{come_later, groups_len}
use Rattle.nix_values.proofs.LinkLemmas.{linked_none, linked_more}
use Rattle.nix_values.proofs.nodes.Nodes.links.Goals as goal

pub loop-number-init : goal.loop-number-init
loop-number-init c =
    let nodes = c.args.self.now.nodes.items in
    let groups = groups_of (map built_of nodes) in
    let len : length groups ≡ length nodes = groups_len 0 (map built_of nodes) ∙ length-map nodes built_of in
    let count : c.len.result ≡ length groups = omega (arith, len, c.len.ensures) in
    let all : length groups ≡ c.len-number.result = omega (arith, len, c.len-number.ensures) in
    subst (λ n. AreLinkedFrom n groups c.in_ok-links.links) all
    (linked_none groups c.in_ok-links.links
    (c.in_ok-links.ensures.first ∙ ap (λ n. replicate (suc n) None) count)
    (c.in_ok-links.ensures.next ∙ ap (λ n. replicate n None) count))

pub loop-number-preserved : goal.loop-number-preserved
loop-number-preserved c =
    let nodes = c.args.self.now.nodes.items in
    let values = map built_of nodes in
    let groups = groups_of values in
    let old = c.loop-number.links in
    let n = c.loop-number.number - 1 in
    let len : length groups ≡ length nodes = groups_len 0 values ∙ length-map nodes built_of in
    let next : c.loop-number.number ≡ suc n = omega (arith, c.loop-number-test.true) in
    let within : n < length groups = omega (arith, len, c.len-number.ensures, c.loop-number.auto.number, c.loop-number-test.true) in
    linked_more groups (come_later values) n within old c.put_first.new.self
    (subst (λ m. AreLinkedFrom m groups old) next c.loop-number.invariant)
    (c.put_first.ensures.first ∙ ap (λ g. set old.first.items g (Some n)) c.group.ensures)
    (c.put_first.ensures.next ∙ ap (λ g. set old.next.items n (get_or old.first.items g None)) c.group.ensures)
