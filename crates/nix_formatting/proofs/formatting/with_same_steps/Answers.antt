use Rattle.std.{proofs.Common.{rules, ◌≡◌, [], map, true-eqb, ap, sym, ◌∙◌}, specs.Prelude.string_bytes}
use Rattle.rnix_kinds.specs.Lexical.Tokens.{tokens_of}
use Rattle.rnix_green.specs.Walk.{preorder_of}
use Rattle.rnix_grammar.specs.{Fault.fault_of, Parsed.IsParsed}
use Rattle.nix_formatting.specs.{WalkSteps.{steps_of, steps_in}, WithoutCommas.kept_steps, KeptPairs.kept_of}
use Rattle.nix_formatting.proofs.OutcomeLemmas.{nil_from_length, reindented, retokened}
use Rattle.nix_formatting.proofs.formatting.with_same_steps.Goals as goal

pub returns-then-branch : goal.returns-then-branch
returns-then-branch c =
    let again = c.in_ok-again.again in
    let parsed : IsParsed (tokens_of (string_bytes c.args.made)) again.tree again.faults = search rules in
    let empty : c.errors.result.now ≡ [] = nil_from_length _ (true-eqb _ 0 c.if-not-is_empty.ensures) in
    let none : again.faults ≡ [] = sym c.errors.ensures ∙ ap (map fault_of) empty in
    let steps : steps_in again.tree ≡ steps_in c.args.read.now.tree =
    sym (ap (λ r. steps_of (preorder_of r)) c.syntax-2.ensures) ∙ c.in_ok-have_same_steps.ensures c.if-branch.true
    ∙ ap (λ r. steps_of (preorder_of r)) c.syntax.ensures in
    reindented c.args.text.now (string_bytes c.args.made) c.args.read.now.tree again.tree c.args.read.now.faults again.faults
    c.requires.read c.requires.faultless parsed none steps

pub returns-then-branch-2 : goal.returns-then-branch-2
returns-then-branch-2 c =
    let again = c.in_ok-again.again in
    let parsed : IsParsed (tokens_of (string_bytes c.args.made)) again.tree again.faults = search rules in
    let empty : c.errors.result.now ≡ [] = nil_from_length _ (true-eqb _ 0 c.if-not-is_empty.ensures) in
    let none : again.faults ≡ [] = sym c.errors.ensures ∙ ap (map fault_of) empty in
    let steps : kept_steps (steps_in again.tree) ≡ kept_steps (steps_in c.args.read.now.tree) =
    sym (ap (λ r. kept_of (preorder_of r)) c.syntax-4.ensures) ∙ c.in_ok-have_same_kept_steps.ensures c.if-branch-2.true
    ∙ ap (λ r. kept_of (preorder_of r)) c.syntax-3.ensures in
    retokened c.args.text.now (string_bytes c.args.made) c.args.read.now.tree again.tree c.args.read.now.faults again.faults
    c.requires.read c.requires.faultless parsed none steps
