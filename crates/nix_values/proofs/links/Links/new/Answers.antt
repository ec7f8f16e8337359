use Rattle.std.proofs.Common.{◌∙◌, ◌++◌, ◌∷◌, [], None, ap, replicate, add-one, rules}
use Rattle.std.proofs.lemmas.List.{replicate_more}
use Rattle.nix_values.proofs.links.Links.new.Goals as goal

pub returns-clause-first : goal.returns-clause-first
returns-clause-first c =
    c.in_ok-push.ensures.items
    ∙ ap (λ xs. xs ++ None ∷ []) (c.in_ok-first.ensures.items_if_clones_equal (search rules))
    ∙ replicate_more c.args.count None
    ∙ ap (λ n. replicate n None) (add-one c.args.count)
