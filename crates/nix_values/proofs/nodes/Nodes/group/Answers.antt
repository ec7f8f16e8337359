use Rattle.std.proofs.Common.{◌≡◌, ◌∙◌, ◌≤◌, Some, None, length, map, slice_get, get_or, sym, ap, add-one, lt-ltb, le-ltb, arith}
use Rattle.std.proofs.lemmas.Bool.{cond-true, cond-false}
use Rattle.std.proofs.lemmas.List.{get_or_past}
use Rattle.std.proofs.lemmas.List.{length-map}
use Rattle.std.specs.Prelude.{nat_lt}
use Rattle.nix_values.specs.Built.{built_of}
use Rattle.nix_values.specs.Preorder.{parent_before}
use Rattle.nix_values.specs.Groups.{group_of, groups_of}
use Rattle.nix_values.proofs.DepthLemmas.{item_found, group_at, groups_len}
use Rattle.nix_values.proofs.nodes.Nodes.group.Goals as goal
use Rattle.nix_values.proofs.nodes.Nodes.group.Goals.{In-Some}

node : (c : In-Some) → slice_get c.args.self.now.nodes.items c.args.number ≡ Some c.in-Some.found.now
node c =
    item_found c.deref.result.now c.args.self.now.nodes.items c.args.number c.in-Some.found.now c.deref.ensures.value c.in-Some.ensures.lookup.3.0
    c.in-Some.ensures.lookup.1

group_is : (c : In-Some) →
    get_or (groups_of (map built_of c.args.self.now.nodes.items)) c.args.number 0 ≡ group_of (parent_before c.args.number c.in-Some.found.now.parent)
group_is c = group_at c.args.self.now.nodes.items c.args.number c.in-Some.found.now (node c)

pub returns-in-Some-parent : goal.returns-in-Some-parent
returns-in-Some-parent c =
    let parent = c.in-Some-parent.parent in
    sym (group_is (goal.at.returns-in-Some-parent c).In-Some
    ∙ ap (λ o. group_of (parent_before c.args.number o)) c.in-Some-parent.is
    ∙ ap group_of (cond-true (nat_lt parent c.args.number) (Some parent) None (lt-ltb parent c.args.number c.if-parent-number.true))
    ∙ sym (add-one parent))

pub returns-in_default : goal.returns-in_default
returns-in_default c =
    let parent = c.in-Some-parent.parent in
    sym (group_is (goal.at.returns-in_default c).In-Some
    ∙ ap (λ o. group_of (parent_before c.args.number o)) c.in-Some-parent.is
    ∙ ap group_of (cond-false (nat_lt parent c.args.number) (Some parent) None (le-ltb parent c.args.number c.if-parent-number.false)))

pub returns-in_default-2 : goal.returns-in_default-2
returns-in_default-2 c =
    sym (group_is (goal.at.returns-in_default-2 c).In-Some ∙ ap (λ o. group_of (parent_before c.args.number o)) c.in_default.is)

pub returns-in-None : goal.returns-in-None
returns-in-None c =
    let nodes = c.args.self.now.nodes.items in
    let past : length nodes ≤ c.args.number = omega (arith, ap length c.deref.ensures.value, c.in-None.ensures.lookup.3) in
    let len : length (groups_of (map built_of nodes)) ≡ length nodes = groups_len 0 (map built_of nodes) ∙ length-map nodes built_of in
    sym (get_or_past (groups_of (map built_of nodes)) c.args.number 0 (omega (arith, len, past)))
