use Rattle.nix_scopes.proofs.environment.Environment.leave_ended.Goals as goal

pub returns : goal.returns
returns c = λ root n scopes bodies sets h. record {
  has_scopes = c.in_ok-leave_scopes.ensures root n scopes h.has_scopes;
  has_bodies = c.leave_bodies.ensures root bodies h.has_bodies;
  has_sets = c.leave_sets.ensures root sets h.has_sets;
}
