use Rattle.std.proofs.Common.{◌∙◌, ap}
use Rattle.nix_scopes.specs.Bound.{references_of}
use Rattle.nix_dead.specs.KeptReferences.{moved_numbers, are_alike}
use Rattle.nix_dead.proofs.meaning.is_kept.Goals as goal

pub returns : goal.returns
returns c =
    let names = c.args.names.now in
    let removals = c.args.removals.now in
    let others = c.in_ok-others.others in
    record {
      others = others;
      found = record { bindings = c.in_ok-others.ensures.bindings; firsts = c.in_ok-others.ensures.firsts; resolved = c.in_ok-others.ensures.resolved };
      is = c.are_alike.ensures ∙ ap (λ news. are_alike removals c.deref.result.now c.references.result.now news) c.references-2.ensures
          ∙ ap (λ olds. are_alike removals c.deref.result.now olds (references_of others)) c.references.ensures
          ∙ ap (λ numbers. are_alike removals numbers (references_of names) (references_of others)) (c.deref.ensures.value ∙ c.in_ok-numbers.ensures
          ∙ ap (moved_numbers removals 0) c.bindings.ensures);
    }
