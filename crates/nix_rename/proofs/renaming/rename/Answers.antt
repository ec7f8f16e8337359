use Rattle.{std.{proofs.{Common.{◌∙◌, ap, sym, None, Some}, lemmas.Bool.Decides.when_true}, specs.Prelude.option_map}, nix_rename.specs.Renamed.IsName}
use Rattle.nix_rename.{specs.Renamed.IsNoName, proofs.RenamedLemmas.{referent, renamed_from, refused_from}}
use Rattle.nix_rename.proofs.renaming.rename.Goals as goal

pub returns-in_default-binding_at-clause-refused : goal.returns-in_default-binding_at-clause-refused
returns-in_default-binding_at-clause-refused c = (
  c.in_ok-names.names,
  referent c.args.root.now c.in-Some.node c.args.offset c.in_ok-names.names None
      (record { bindings = c.in_ok-names.ensures.bindings; firsts = c.in_ok-names.ensures.firsts; resolved = c.in_ok-names.ensures.resolved })
      c.in-Some.ensures (sym c.binding_at.ensures ∙ ap (option_map (λ binding. binding.now)) c.in_default-binding_at.is),
)

pub returns-clause-renamed : goal.returns-clause-renamed
returns-clause-renamed c =
    renamed_from c.args.text.now c.args.root.now c.args.offset c.args.new.now c.in_ok-names.names c.in-Some-binding_at.binding.now c.named.result
    (when_true (IsName c.args.new.now) (IsNoName c.args.new.now) c.if-not-branch.false c.in_ok-is_name.ensures)
    (sym c.is_special_name.ensures ∙ c.if-is_special_name.false)
    (referent c.args.root.now c.in-Some.node c.args.offset c.in_ok-names.names (Some c.in-Some-binding_at.binding.now)
    (record { bindings = c.in_ok-names.ensures.bindings; firsts = c.in_ok-names.ensures.firsts; resolved = c.in_ok-names.ensures.resolved })
    c.in-Some.ensures (sym c.binding_at.ensures ∙ ap (option_map (λ binding. binding.now)) c.in-Some-binding_at.is)) c.named.ensures.named

pub returns-clause-refused : goal.returns-clause-refused
returns-clause-refused c =
    refused_from c.args.text.now c.args.root.now c.args.offset c.args.new.now c.in_ok-names.names c.in-Some-binding_at.binding.now c.named.result
    (referent c.args.root.now c.in-Some.node c.args.offset c.in_ok-names.names (Some c.in-Some-binding_at.binding.now)
    (record { bindings = c.in_ok-names.ensures.bindings; firsts = c.in_ok-names.ensures.firsts; resolved = c.in_ok-names.ensures.resolved })
    c.in-Some.ensures (sym c.binding_at.ensures ∙ ap (option_map (λ binding. binding.now)) c.in-Some-binding_at.is)) c.named.ensures.refused
