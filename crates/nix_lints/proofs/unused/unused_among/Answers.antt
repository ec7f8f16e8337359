use Rattle.std.proofs.Common.{◌≡◌, ◌∙◌, ℕ, List, length, map, subst, ap, rules}
use Rattle.std.proofs.lemmas.Result.{IfOk-weaker}
use Rattle.rnix_green.specs.Tree.{Located}
use Rattle.nix_scopes.specs.Bound.{bindings_of, references_of}
use Rattle.nix_lints.specs.UnusedNames.{AreMarked, Resolves, written_name, unmarked_from, has_marked_pattern_name, unused_in}
use Rattle.nix_lints.proofs.UnusedLemmas.{AreUsedPatterns, unused_exactly}
use Rattle.nix_lints.proofs.unused.unused_among.Goals as goal

pub returns : goal.returns
returns c =
    let names = c.args.names.now in
    let marks = c.in_ok-is_used.is_used.items in
    let are_marked : AreMarked (length (bindings_of names)) (references_of names) marks =
    subst (λ rs. AreMarked (length (bindings_of names)) rs marks) c.references.ensures
    (subst (λ bs. AreMarked (length bs) c.references.result.now marks) c.bindings.ensures c.in_ok-is_used.ensures) in
    let patterns = c.in_ok-patterns.patterns in
    let are_wholes : AreUsedPatterns marks (bindings_of names) patterns = λ start.
    c.in_ok-patterns.ensures start ∙ ap (λ us. has_marked_pattern_name us start 0 c.bindings-2.result.now) c.deref.ensures.value
    ∙ ap (has_marked_pattern_name marks start 0) c.bindings-2.ensures in
    IfOk-weaker c.unmarked.result _ _
    (λ unused listing root are. unused_exactly root names marks patterns unused.items are are_marked are_wholes
    (listing ∙ ap (λ us. unmarked_from us patterns 0 c.bindings-3.result.now) c.deref-2.ensures.value
    ∙ ap (unmarked_from marks patterns 0) c.bindings-3.ensures))
    c.unmarked.ensures
