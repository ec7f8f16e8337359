use Rattle.{std.{proofs.Common.{map, subst}, specs.Bool.Decides}, nix_scopes.specs.{Occurrences.occurrences_of, Alike.AreAlike}}
use Rattle.nix_scopes.proofs.AlikeLemmas.{same_rename}
use Rattle.nix_scopes.proofs.resolution.Resolution.is_like.Goals as goal

pub returns : goal.returns
returns c =
    subst (λ rename. Decides c.are_alike.result (AreAlike rename c.args.self.now c.args.other.now))
    (same_rename c.args.number c.args.old c.args.name.now (map (λ extent. extent.end) (occurrences_of c.args.number c.args.self.now)) c.in_ok-ends.ends.items
    c.in_ok-ends.ensures.exactly) c.are_alike.ensures
