use Rattle.std.{proofs.{Common.{rules, ◌≡◌, ◌++◌, ◌-◌, [], ◌∷◌, ◌∙◌, true, false, ap, sym, subst}, lemmas.Bool.{cond-true, cond-false}}}
use Rattle.nix_scopes.{specs.{Binders.is_scope, Resolving.{HasSets, is_set}}, proofs.EndLemmas.end_added}
use Rattle.nix_scopes.proofs.environment.enter_set.Goals as goal

pub returns-in_ok-push-2 : goal.returns-in_ok-push-2
returns-in_ok-push-2 c = λ root sets count h.
    let is : is_set c.args.node.now ≡ true = search rules in
    subst (HasSets root c.push.new.self.items c.push-then-eq.new.self.items) (sym (cond-true (is_set c.args.node.now) (c.args.node.now ∷ sets) sets is)) (
      c.in_ok-push-2.ensures.items ∙ ap (λ b. c.args.scopes.now.items ++ b ∷ []) c.requires
          ∙ ap (λ bs. bs ++ is_scope c.args.node.now ∷ []) h.0,
      end_added root c.args.remaining c.saturating_sub.result c.args.ends.now.items c.push.new.self.items c.args.node.now sets count
          (c.saturating_sub.ensures ∙ ap (λ k. c.args.remaining - k) c.inside_count.ensures) c.in_ok-push.ensures.items h.1,
    )

pub returns-else-eq : goal.returns-else-eq
returns-else-eq c = λ root sets count h.
    let is : is_set c.args.node.now ≡ false = search rules in
    subst (HasSets root c.args.ends.now.items c.args.scopes.now.items) (sym (cond-false (is_set c.args.node.now) (c.args.node.now ∷ sets) sets is)) h
