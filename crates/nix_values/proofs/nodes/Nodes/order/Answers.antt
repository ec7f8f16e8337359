use Rattle.std.proofs.Common.{◌≡◌, ◌∙◌, ◌<◌, List, ℕ, [], ◌∷◌, ◌++◌, length, map, get_or, option_to_list, None, sym, ap, ap₂, subst, add-one, append_assoc, arith}
use Rattle.std.proofs.lemmas.List.{length-map}
use Rattle.nix_values.specs.Built.{built_of}
use Rattle.nix_values.specs.Groups.{groups_of, first_from}
use Rattle.nix_values.proofs.DepthLemmas.{come_later, groups_len}
use Rattle.nix_values.proofs.PendingLemmas.{pending, pending_begun, AreWithin, within_more, visited, top_within, IsVisited}
use Rattle.nix_values.proofs.nodes.Nodes.order.Goals as goal
use Rattle.nix_values.proofs.nodes.Nodes.order.Goals.{In_ok-push_some-3}

pub loop-number-init : goal.loop-number-init
loop-number-init c =
    let values = map built_of c.args.self.now.nodes.items in
    let groups = groups_of values in
    let first : c.first_of.result ≡ first_from 0 groups 0 = c.first_of.ensures ∙ c.in_ok-links.ensures.first 0 (omega arith) in
    let stack : c.push_some.new.numbers.items ≡ [] ++ option_to_list (first_from 0 groups 0) =
    c.in_ok-push_some.ensures ∙ ap₂ (λ (xs : List ℕ) o. xs ++ option_to_list o) c.new-pending.ensures.items first in
    record {
      visited = ap₂ (λ (xs ys : List ℕ). xs ++ pending groups ys) c.in_ok-order.ensures.items stack ∙ pending_begun groups (come_later values);
      within = subst (AreWithin groups) (sym stack) (within_more groups [] 0 0 tt);
    }

pub overflow_add-number : goal.overflow_add-number
overflow_add-number c =
    let nodes = c.args.self.now.nodes in
    let values = map built_of nodes.items in
    let groups = groups_of values in
    let stack = c.loop-number.pending.items in
    let len : length groups ≡ length nodes.items = groups_len 0 values ∙ length-map nodes.items built_of in
    let within = top_within groups stack c.pop.new.self.items c.in-Some.number c.in-Some.ensures.items c.loop-number.invariant.within in
    omega (arith, len, within, nodes.ok.0, nodes.ok.1, nodes.small)

visit : (c : In_ok-push_some-3) →
    IsVisited (groups_of (map built_of c.args.self.now.nodes.items)) c.loop-number.pending.items c.in-Some.number c.push_some-in-Some-2.new.numbers.items
visit c =
    let values = map built_of c.args.self.now.nodes.items in
    let links = c.in_ok-links.links in
    let rest = c.pop.new.self.items in
    visited (groups_of values) (come_later values) links c.in_ok-links.ensures c.loop-number.pending.items rest c.push_some-in-Some-2.new.numbers.items
    c.in-Some.number c.in-Some.ensures.items c.loop-number.invariant.within
    (c.in_ok-push_some-3.ensures
    ∙ ap₂ (λ (xs : List ℕ) o. xs ++ option_to_list o)
    (c.in_ok-push_some-2.ensures ∙ ap (λ o. rest ++ option_to_list o) c.next_of.ensures)
    (c.first_of-in-Some.ensures ∙ ap (λ g. get_or links.first.items g None) (add-one c.in-Some.number)))

pub loop-number-preserved : goal.loop-number-preserved
loop-number-preserved c =
    let groups = groups_of (map built_of c.args.self.now.nodes.items) in
    let later = c.push_some-in-Some-2.new.numbers.items in
    let v = visit (goal.at.loop-number-preserved c).In_ok-push_some-3 in
    record {
      visited =
          ap (λ xs. xs ++ pending groups later) c.in_ok-push.ensures.items
          ∙ append_assoc c.loop-number.order.items (c.in-Some.number ∷ []) (pending groups later)
          ∙ ap (λ ns. c.loop-number.order.items ++ ns) (sym v.step)
          ∙ c.loop-number.invariant.visited;
      within = v.within;
    }

pub loop-number-smaller : goal.loop-number-smaller
loop-number-smaller c =
    let groups = groups_of (map built_of c.args.self.now.nodes.items) in
    let v = visit (goal.at.loop-number-smaller c).In_ok-push_some-3 in
    let less : length (pending groups c.push_some-in-Some-2.new.numbers.items) < length (pending groups c.loop-number.pending.items) =
    omega (arith, ap length v.step) in
    less
