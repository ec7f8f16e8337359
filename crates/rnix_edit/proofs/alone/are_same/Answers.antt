use Rattle.std.proofs.Common.{sym, ◌∙◌}
use Rattle.std.proofs.lemmas.Bool.{false≢true}
use Rattle.rnix_edit.proofs.AloneLemmas.{none_same, no_other, both_there}
use Rattle.rnix_edit.proofs.alone.are_same.Goals as goal

pub returns-in_default : goal.returns-in_default
returns-in_default c =
    (λ no. absurd (false≢true no), λ same. absurd (none_same _ _ (sym c.node_at.ensures ∙ c.in_default.is) same))

pub returns-in_default-node_at : goal.returns-in_default-node_at
returns-in_default-node_at c = (
  λ no. absurd (false≢true no),
  λ same. absurd (no_other _ _ c.in-Some.node (sym c.node_at.ensures ∙ c.in-Some.is)
      (sym c.node_at-2.ensures ∙ c.in_default-node_at.is) same),
)

pub returns : goal.returns
returns c =
    both_there _ _ c.in-Some.node c.in-Some-node_at.own _ (sym c.node_at.ensures ∙ c.in-Some.is) (sym c.node_at-2.ensures ∙ c.in-Some-node_at.is)
    c.is_same_tree.ensures
