-- The expressions of an `if` are there.
use Rattle.{std.{proofs.Common.{◌≡◌, Option, Some, None, refl, ap, ◌∙◌, subst}, specs.Prelude.{IsSome, is_some, option_map}}, rnix_base.specs.Select.HasKind}
use Rattle.rnix_kinds.specs.declared.kinds.SyntaxKind.TheVariants as k
use Rattle.rnix_test_examples.proofs.whole.branches.Goals as goal

is_given : {A B : Type 0} (f : A → B) (r : Option A) (c : Option B) → option_map f r ≡ c → IsSome c → IsSome r
is_given f (Some x) c e h = refl
is_given f None c e h = ap is_some e ∙ h

pub unwrap-body-requires : goal.unwrap-body-requires
unwrap-body-requires c =
    let kind = subst (HasKind k.NODE_IF_ELSE) c.syntax-whole.ensures.node c.syntax-whole.ensures.kind in
    is_given _ _ _ c.body.ensures (c.nodes_have_parts.ensures.read k.NODE_IF_ELSE c.args.node.now c.requires kind).3

pub unwrap-else_body-requires : goal.unwrap-else_body-requires
unwrap-else_body-requires c =
    let kind = subst (HasKind k.NODE_IF_ELSE) c.syntax-whole.ensures.node c.syntax-whole.ensures.kind in
    is_given _ _ _ c.else_body.ensures (c.nodes_have_parts.ensures.read k.NODE_IF_ELSE c.args.node.now c.requires kind).5
