use Rattle.nix_scopes.proofs.environment.Environment.enter.Goals as goal

pub returns-clause-sees : goal.returns-clause-sees
returns-clause-sees c = λ root n scopes bodies sets l count h. record {
  has_scopes = c.in_ok-enter_scope.ensures.sees root n scopes l count h.has_scopes;
  has_bodies = c.in_ok-enter_body.ensures root bodies count h.has_bodies;
  has_sets = c.in_ok-enter_set.ensures root sets count h.has_sets;
}
