use Rattle.std.proofs.Common.{◌≡◌, ap, subst, sym}
use Rattle.{rnix_kinds.specs.declared.kinds.SyntaxKind.TheVariants.{NODE_ROOT}, rnix_green.{specs.Relatives.{IsNodeIn}, proofs.SplicedRoots.{root_kind_kept}}}
use Rattle.rnix.specs.ParseResult.{Reading}
use Rattle.rnix.proofs.root.Parse.set_node.Goals as goal

pub invariant_of-self-2 : goal.invariant_of-self-2
invariant_of-self-2 c =
    let same : c.self.inside.green ≡ c.args.self.now.tree = ap (λ (r : Reading). r.tree) c.self.view_is in
    root_kind_kept c.self.inside.green c.args.number c.args.other.now c.set_node.new.self NODE_ROOT
    (subst (λ t. IsNodeIn t c.args.number) (sym same) c.requires.there) c.requires.single c.in_ok-set_node.ensures.ok c.self.invariant c.requires.root
