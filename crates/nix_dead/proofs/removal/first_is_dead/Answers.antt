use Rattle.std.proofs.Common.{◌∙◌, ap}
use Rattle.rnix_base.specs.Select.{child_of}
use Rattle.rnix.specs.NodeKinds.{is_attr}
use Rattle.nix_dead.specs.Removal.{is_dead, is_dead_if, begins_dead}
use Rattle.nix_dead.proofs.removal.first_is_dead.Goals as goal

pub returns-in-Some-first_child : goal.returns-in-Some-first_child
returns-in-Some-first_child c =
    let dead = c.args.dead.now in
    c.is_dead.ensures ∙ ap (is_dead dead) c.syntax-in-Some-first_child.ensures.node ∙ ap (is_dead_if dead) c.in-Some-first_child.ensures
    ∙ ap (λ e. is_dead_if dead (child_of is_attr 0 e)) c.syntax.ensures.node ∙ ap (begins_dead dead) c.in-Some.ensures
