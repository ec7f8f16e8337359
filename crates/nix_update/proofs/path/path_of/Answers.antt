use Rattle.std.proofs.Common.{rules, ◌≡◌, [], map, true-eqb, ap, sym, subst, ◌∙◌}
use Rattle.std.proofs.lemmas.{Bool.false≢true, Slice.Eq.bytes_eq-Decides, List.nil_from_length}
use Rattle.{rnix_kinds.specs.Lexical.Tokens.tokens_of, rnix_grammar.specs.{Fault.fault_of, Parsed.IsParsed}, rnix_base.specs.Select.child_of, rnix.specs.NodeKinds.is_expr}
use Rattle.rnix_green.specs.Tree.{text_at}
use Rattle.nix_update.{specs.Path.{path_inside}, proofs.PathLemmas.{whole_path, no_names, other_text}}
use Rattle.nix_update.proofs.path.path_of.Goals as goal

pub returns-then-eq-clause-is_path : goal.returns-then-eq-clause-is_path
returns-then-eq-clause-is_path c =
    let empty : c.errors.result.now ≡ [] = nil_from_length _ (true-eqb _ 0 c.if-not-is_empty.ensures) in
    let none : c.in_ok-read.read.faults ≡ [] = sym c.errors.ensures ∙ ap (map fault_of) empty in
    whole_path c.args.text.now c.in_ok-read.read c.in-Some.attrpath c.path_in.result
    (subst (λ t. IsParsed (tokens_of t) c.in_ok-read.read.tree c.in_ok-read.read.faults) (c.as_str.ensures.value ∙ c.in_ok-entry.ensures) c.in_ok-read.ensures)
    none (ap (λ root. path_inside (child_of is_expr 0 root)) (sym c.tree.ensures) ∙ sym c.only_path.ensures ∙ c.in-Some.is)
    (search rules) c.path_in.ensures.names c.path_in.ensures.starts

pub returns-then-eq-clause-none : goal.returns-then-eq-clause-none
returns-then-eq-clause-none c =
    no_names c.args.text.now c.in_ok-read.read c.in-Some.attrpath c.path_in.result
    (subst (λ t. IsParsed (tokens_of t) c.in_ok-read.read.tree c.in_ok-read.read.faults) (c.as_str.ensures.value ∙ c.in_ok-entry.ensures) c.in_ok-read.ensures)
    (ap (λ root. path_inside (child_of is_expr 0 root)) (sym c.tree.ensures) ∙ sym c.only_path.ensures ∙ c.in-Some.is) c.path_in.ensures.none

pub returns-in-Some-clause-none : goal.returns-in-Some-clause-none
returns-in-Some-clause-none c =
    let whole : c.text.result.now ≡ text_at c.in-Some.attrpath = search rules in
    let differs : ¬ (text_at c.in-Some.attrpath ≡ c.args.text.now) =
    λ is. false≢true (c.if-eq.ensures ∙ (bytes_eq-Decides c.text.result.now c.args.text.now).1 (whole ∙ is)) in
    other_text c.args.text.now c.in_ok-read.read c.in-Some.attrpath
    (subst (λ t. IsParsed (tokens_of t) c.in_ok-read.read.tree c.in_ok-read.read.faults) (c.as_str.ensures.value ∙ c.in_ok-entry.ensures) c.in_ok-read.ensures)
    (ap (λ root. path_inside (child_of is_expr 0 root)) (sym c.tree.ensures) ∙ sym c.only_path.ensures ∙ c.in-Some.is) differs
