use Rattle.std.{proofs.Common.{Option, Some, None, sym, ap, ◌∙◌}, specs.Prelude.{option_map, IfNone}}
use Rattle.{rnix_tree.specs.Spots.{spot_of}, rnix_c.proofs.ElementNumbers.{none_there, token_there, cast_found, cast_missing}}
use Rattle.rnix_c.proofs.strings.string_at.Goals as goal

-- what holds in any case holds if there is no value
anyway : {A P : Type 0} → (r : Option A) → P → IfNone r P
anyway None p = p
anyway (Some x) p = tt

pub returns-in_err-node-clause-missing : goal.returns-in_err-node-clause-missing
returns-in_err-node-clause-missing c =
    anyway c.from_residual.result (none_there c.args.green.now c.args.number (sym c.element_at.ensures ∙ ap (option_map spot_of) c.in_err-node.was))

pub returns-in_default-clause-missing : goal.returns-in_default-clause-missing
returns-in_default-clause-missing c =
    token_there c.args.green.now c.args.number c.in_default.field-0
    (sym c.element_at.ensures ∙ ap (option_map spot_of) c.in_ok-node.was ∙ ap (λ e. Some (spot_of e)) c.in_default.is)

pub returns-clause-found : goal.returns-clause-found
returns-clause-found c =
    cast_found c.args.green.now c.args.number c.in-Node.node c.cast.result
    (sym c.element_at.ensures ∙ ap (option_map spot_of) c.in_ok-node.was ∙ ap (λ e. Some (spot_of e)) c.in-Node.is) c.cast.ensures.some c.cast.ensures.same

pub returns-clause-missing : goal.returns-clause-missing
returns-clause-missing c =
    cast_missing c.args.green.now c.args.number c.in-Node.node c.cast.result
    (sym c.element_at.ensures ∙ ap (option_map spot_of) c.in_ok-node.was ∙ ap (λ e. Some (spot_of e)) c.in-Node.is) c.cast.ensures.some
