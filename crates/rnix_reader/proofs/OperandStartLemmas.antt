-- How operands begin.
use Rattle.{std.proofs.Common.{◌≡◌, ℕ, List, Option, None, refl, ap, if◌then◌else◌}, rnix_kinds.specs.declared.kinds.SyntaxKind.SyntaxKind}
use Rattle.{rnix_kinds.specs.declared.kinds.SyntaxKind.TheVariants.TOKEN_IDENT, rnix_grammar.specs.OperandStarts.operand_start_of, rnix_reader.specs.State.{State, eaten}}
use Rattle.rnix_reader.specs.{State.{started_at, ended}, FrameSteps.{leaf_node_made, looks_behind, is_brace}}

-- making a node over a leaf leaves the open nodes as they are
pub leaf_nodes : (k : SyntaxKind) (s s' : State) → s' ≡ leaf_node_made k s → s'.open_nodes ≡ s.open_nodes
unfolding ended started_at eaten
leaf_nodes k s s' e = ap (λ x. x.open_nodes) e

-- items that are not looked at do not matter
pub start_alone : (level : ℕ) (k : SyntaxKind) (text : List ℕ) (a b : Option SyntaxKind)
    → operand_start_of level k text (if looks_behind k then a else None) (if is_brace k then b else None) ≡ operand_start_of level k text a b
start_alone level TOKEN_IDENT text a b = refl
start_alone level _ text a b = cc
