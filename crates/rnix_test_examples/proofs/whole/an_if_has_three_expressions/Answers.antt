-- The text has no errors, and the node is in its tree.
use Rattle.{std.{proofs.Common.{◌≡◌, [], ap, sym, ◌∙◌, subst}, specs.Prelude.{IfSome, option_map}}, rnix_grammar.specs.Parsed.IsParsed}
use Rattle.rnix.specs.{NodeKinds.is_expr, Sums.expr_node}
use Rattle.rnix_test_examples.proofs.whole.an_if_has_three_expressions.Goals as goal

pub branches-requires : goal.branches-requires
branches-requires g c =
    let child = c.nodes_have_parts.ensures.child c.in-Ok.root is_expr 0 in
    let same = subst (λ z. IfSome z (λ n. n.tree ≡ c.in-Ok.root.tree)) (sym c.expr.ensures ∙ ap (option_map expr_node) c.in-Some-IfElse.is) child in
    let tree = same ∙ ap (λ n. n.tree) c.in-Ok.ensures.root.1 in
    let node = ap (λ x. (expr_node x).tree) c.in-Some-IfElse.field-0-is in
    subst (λ t. IsParsed _ t []) (sym tree ∙ node) (subst (λ es. IsParsed _ c.in_ok-read.read.tree es) c.in-Ok.ensures.root.0 c.in_ok-read.ensures)
