use Rattle.{std.proofs.{Common.{◌≡◌, ◌++◌, ◌∙◌, ◌==◌, true, length, arith, ap, sym, string_bytes}, lemmas.{Bool.Decides.nat_tests, List.{append-nil, nil_from_length}}}, rnix_base.specs.Indent.{kept, remaining_behind}}
use Rattle.rnix_base.proofs.UnindentLemmas.{kept-nil, remaining_behind-nil}
use Rattle.rnix_base.proofs.indent.unindented.Goals as goal

pub returns-clause-kept : goal.returns-clause-kept
returns-clause-kept c =
    let empty : (length c.loop-rest.rest.now == 0) ≡ true = sym c.is_empty.ensures ∙ c.loop-rest-test.false in
    let none = nil_from_length c.loop-rest.rest.now (grind (arith, nat_tests)) in
    sym (c.loop-rest.invariant.1.kept ∙ ap (λ t. string_bytes c.loop-rest.kept ++ kept c.args.least c.loop-rest.remaining t) none
    ∙ ap (λ t. string_bytes c.loop-rest.kept ++ t) (kept-nil _ _) ∙ append-nil _)

pub returns-clause-remaining : goal.returns-clause-remaining
returns-clause-remaining c =
    let empty : (length c.loop-rest.rest.now == 0) ≡ true = sym c.is_empty.ensures ∙ c.loop-rest-test.false in
    let none = nil_from_length c.loop-rest.rest.now (grind (arith, nat_tests)) in
    sym (c.loop-rest.invariant.1.remaining ∙ ap (remaining_behind c.args.least c.loop-rest.remaining) none ∙ remaining_behind-nil _ _)
