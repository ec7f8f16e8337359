use denote.Enum.Bare.{same_true}
use Rattle.std.proofs.Common.{rules, sym, ◌∙◌}
use Rattle.rnix_kinds.specs.contracts.kinds.SyntaxKind.{the_type}
use Rattle.rnix_reparse.proofs.brackets.is_same_kind.Goals as goal

pub returns : goal.returns
returns c is = same_true the_type (search rules) _ _ (sym c.eq.ensures ∙ is)
