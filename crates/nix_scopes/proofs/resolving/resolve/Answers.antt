use Rattle.std.proofs.Common.{rules, ◌≡◌, ◌∙◌, true, refl, ap, sym}
use Rattle.std.specs.Prelude.{if◌then◌else◌}
use Rattle.nix_scopes.specs.{Bound.references_of, Owners.{may_merge, merged_around}, Merged.{merged_bindings, merged_among}}
use Rattle.nix_scopes.specs.Scopes.{lexical_bindings, around, resolved_among}
use Rattle.nix_scopes.proofs.ResolvingLemmas.{names_resolved}
use Rattle.nix_scopes.proofs.resolving.resolve.Goals as goal

pub returns-then-may_merge-clause-bindings : goal.returns-then-may_merge-clause-bindings
returns-then-may_merge-clause-bindings c =
    let root = c.args.root.now in
    let yes : may_merge root ≡ true = search rules in
    c.in_ok-names.ensures.bindings ∙ sym (ap (λ b. if b then merged_bindings root else lexical_bindings root) yes)

pub returns-then-may_merge-clause-references : goal.returns-then-may_merge-clause-references
returns-then-may_merge-clause-references c =
    let root = c.args.root.now in
    names_resolved root (λ e. merged_among root (merged_bindings root) (merged_around root e) e) (λ e name. refl) (references_of c.in_ok-names.names)
    c.in_ok-names.ensures.resolved

pub returns-clause-references : goal.returns-clause-references
returns-clause-references c =
    let root = c.args.root.now in
    names_resolved root (λ e. resolved_among (lexical_bindings root) (around root e) e) (λ e name. refl) (references_of c.in_ok-names-2.names)
    c.in_ok-names-2.ensures.resolved
