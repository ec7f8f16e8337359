use Rattle.std.proofs.Common.{◌≡◌, ◌∙◌, ◌+◌, ◌-◌, ◌<◌, ◌∷◌, map, ap, sym, subst, string_bytes, arith, rules}
use Rattle.rnix_green.specs.Walk.{nodes_in, children_of}
use Rattle.nix_values.specs.Contents.{plain_of, entry_of}
use Rattle.nix_data.specs.Meaning.{unwrapped, IsHead, MeansFirst}
use Rattle.nix_data.proofs.MeaningLemmas.{used_more, means_alone, means_used}
use Rattle.nix_data.proofs.DifferentNames.{names_more, names_all}
use Rattle.nix_data.proofs.meaning.+items_after.Goals as goal

pub returns-then-not-has_parts : goal.returns-then-not-has_parts
returns-then-not-has_parts t c =
    let some : 0 < c.args.levels = omega arith in
    let is_node : IsHead c.args.depth c.args.name.now c.unwrapped-node.result (entry_of c.in-Some.head.now) = search rules in
    let is : IsHead c.args.depth c.args.name.now (unwrapped c.args.expr.now) (entry_of c.in-Some.head.now) =
    subst (λ n. IsHead c.args.depth c.args.name.now n (entry_of c.in-Some.head.now)) c.unwrapped-node.ensures is_node in
    let cut : c.args.items.now ≡ c.in-Some.head.now ∷ c.in-Some.inside.now = search rules in
    means_alone c.args.levels c.args.depth c.args.name.now c.args.expr.now (entry_of c.in-Some.head.now) (map entry_of c.args.items.now)
    (map entry_of c.in-Some.inside.now) some is (sym c.has_parts.ensures ∙ c.if-not-has_parts.true) (ap (map entry_of) cut)

pub loop-child-preserved : goal.loop-child-preserved
loop-child-preserved t c =
    let part = rw c.in-Some-2.is at c.in_ok-part.ensures in
    let found = rw c.in-Some-3.is at c.in_ok-remaining.ensures in
    let node = c.in-Some-2.part.node in
    let means : MeansFirst (c.args.levels - 1) (c.args.depth + 1) (string_bytes c.in-Some-2.part.name) node (map entry_of c.loop-child.rest.now)
    (map entry_of c.in-Some-3.remaining.now) =
    subst (λ n. MeansFirst (c.args.levels - 1) (c.args.depth + 1) n node (map entry_of c.loop-child.rest.now) (map entry_of c.in-Some-3.remaining.now))
    c.as_str-part_name.ensures.value found in
    record {
      next = tt;
      ends = tt;
      used = used_more (c.args.levels - 1) (c.args.depth + 1) (plain_of c.in-Some.head.now.value) (nodes_in (children_of (unwrapped c.args.expr.now)))
          c.loop-child.child-iterator c.next.new.self c.in-Some-child.child c.in-Some-2.part.node (string_bytes c.in-Some-2.part.name)
          (entry_of c.in-Some.head.now) (map entry_of c.args.items.now) (map entry_of c.loop-child.rest.now) (map entry_of c.in-Some-3.remaining.now)
          c.in-Some-child.ensures.steps part
          means c.loop-child.invariant.used;
      names = names_more (plain_of c.in-Some.head.now.value) (nodes_in (children_of (unwrapped c.args.expr.now))) c.loop-child.child-iterator
          c.next.new.self c.in-Some-child.child c.in-Some-2.part.node (string_bytes c.in-Some-2.part.name) c.loop-child.names c.is_new.new.names
          c.in-Some-child.ensures.steps part (search rules) c.loop-child.invariant.names;
    }

pub returns : goal.returns
returns t c =
    let some : 0 < c.args.levels = omega arith in
    let is_node : IsHead c.args.depth c.args.name.now c.unwrapped-node.result (entry_of c.in-Some.head.now) = search rules in
    let is : IsHead c.args.depth c.args.name.now (unwrapped c.args.expr.now) (entry_of c.in-Some.head.now) =
    subst (λ n. IsHead c.args.depth c.args.name.now n (entry_of c.in-Some.head.now)) c.unwrapped-node.ensures is_node in
    means_used c.args.levels c.args.depth c.args.name.now c.args.expr.now (entry_of c.in-Some.head.now) c.loop-child.child-iterator
    (map entry_of c.args.items.now) (map entry_of c.loop-child.rest.now) some is (sym c.has_parts.ensures ∙ c.if-not-has_parts.false)
    c.in-None.ensures.steps.0 c.loop-child.invariant.used
    (names_all (plain_of c.in-Some.head.now.value) (nodes_in (children_of (unwrapped c.args.expr.now))) c.loop-child.child-iterator c.loop-child.names
    c.in-None.ensures.steps.0 c.loop-child.invariant.names)
