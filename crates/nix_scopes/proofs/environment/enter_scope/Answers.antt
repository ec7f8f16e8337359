use Rattle.std.proofs.{Common.{◌+◌, ◌-◌, ◌∷◌, ◌∙◌, ap, sym, subst, arith}, lemmas.Bool.{cond-true, cond-false}}
use Rattle.nix_scopes.{specs.{Binders.is_scope, Resolving.HasScopes}, proofs.{ScopeLemmas.still_seen, EndLemmas.end_added}}
use Rattle.nix_scopes.proofs.environment.enter_scope.Goals as goal

pub returns-in_ok-push-clause-sees : goal.returns-in_ok-push-clause-sees
returns-in_ok-push-clause-sees c = λ root n scopes l count h.
    subst (HasScopes root c.enter.new.bindings.items c.enter.new.self c.push.new.self.items (c.args.node.now.number + 1))
    (sym (cond-true (is_scope c.args.node.now) (c.args.node.now ∷ scopes) scopes (sym c.requires ∙ c.if-binds.true))) (
      c.in_ok-enter.ensures.sees n scopes l h.0,
      end_added root c.args.remaining c.saturating_sub.result c.args.ends.now.items c.push.new.self.items c.args.node.now scopes count
          (c.saturating_sub.ensures ∙ ap (λ k. c.args.remaining - k) c.inside_count.ensures) c.in_ok-push.ensures.items h.1,
    )

pub returns-else-binds-clause-sees : goal.returns-else-binds-clause-sees
returns-else-binds-clause-sees c = λ root n scopes l count h.
    subst (HasScopes root c.args.bindings.now.items c.args.symbols.now c.args.ends.now.items (c.args.node.now.number + 1))
    (sym (cond-false (is_scope c.args.node.now) (c.args.node.now ∷ scopes) scopes (sym c.requires ∙ c.if-binds.false)))
    (still_seen c.args.bindings.now.items c.args.symbols.now n (c.args.node.now.number + 1) scopes (omega (arith, l)) h.0, h.1)
