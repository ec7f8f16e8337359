use Rattle.std.proofs.Common.{◌≡◌, ◌∙◌, ◌∷◌, ◌-◌, ap, sym, reverse, arith}
use Rattle.nix_update.specs.Lists.{list_among}
use Rattle.nix_update.proofs.SoughtLists.{taken, list_here, list_inside}
use Rattle.nix_update.proofs.lists.list_in.Goals as goal

pub returns-then-is_list : goal.returns-then-is_list
returns-then-is_list c =
    let w = c.in-Some.part in
    let rest = c.pop.new.self.items in
    let next : reverse c.loop-count.parts.items ≡ w ∷ reverse rest = taken c.loop-count.parts.items rest w c.in-Some.ensures.items in
    sym (list_here c.loop-count.count w (reverse rest) (omega (arith, c.loop-count-test.true)) (sym c.is_list.ensures ∙ c.if-is_list.true))
    ∙ sym (ap (list_among c.loop-count.count) next) ∙ c.loop-count.invariant

pub loop-count-preserved : goal.loop-count-preserved
loop-count-preserved c =
    let w = c.in-Some.part in
    let rest = c.pop.new.self.items in
    let next : reverse c.loop-count.parts.items ≡ w ∷ reverse rest = taken c.loop-count.parts.items rest w c.in-Some.ensures.items in
    ap (list_among (c.loop-count.count - 1)) c.in_ok-add_parts.ensures
    ∙ sym (list_inside c.loop-count.count w (reverse rest) (omega (arith, c.loop-count-test.true)) (sym c.is_list.ensures ∙ c.if-is_list.false))
    ∙ sym (ap (list_among c.loop-count.count) next) ∙ c.loop-count.invariant
