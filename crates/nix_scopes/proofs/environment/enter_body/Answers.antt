use Rattle.{std.proofs.{Common.{◌-◌, ◌∷◌, ◌∙◌, ap, sym}, lemmas.Bool.{cond-true, cond-false}}, nix_scopes.specs.{Scopes.is_with_body, Resolving.counts_after}}
use Rattle.nix_scopes.proofs.EndLemmas.{end_added}
use Rattle.nix_scopes.proofs.environment.enter_body.Goals as goal

pub returns-in_ok-push : goal.returns-in_ok-push
returns-in_ok-push c = λ root bodies count are.
    end_added root c.args.remaining c.saturating_sub.result c.args.ends.now.items c.push.new.self.items c.args.node.now bodies count
    (c.saturating_sub.ensures ∙ ap (λ k. c.args.remaining - k) c.inside_count.ensures) c.in_ok-push.ensures.items are
    ∙ ap (counts_after root) (sym (cond-true (is_with_body c.args.node.now) (c.args.node.now ∷ bodies) bodies
    (sym c.is_with_body.ensures ∙ c.if-is_with_body.true)))

pub returns-else-is_with_body : goal.returns-else-is_with_body
returns-else-is_with_body c = λ root bodies count are.
    are ∙ ap (counts_after root) (sym (cond-false (is_with_body c.args.node.now) (c.args.node.now ∷ bodies) bodies
    (sym c.is_with_body.ensures ∙ c.if-is_with_body.false)))
