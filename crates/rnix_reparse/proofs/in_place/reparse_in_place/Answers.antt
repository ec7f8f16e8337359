use Rattle.std.proofs.Common.{◌≡◌, [], map, true-eqb, ap, sym, subst, ◌∙◌}
use Rattle.std.specs.Prelude.{IfSome}
use Rattle.std.specs.Str.{IsUtf8}
use Rattle.std.proofs.lemmas.List.{nil_from_length}
use Rattle.rnix_kinds.specs.declared.kinds.SyntaxKind.TheVariants.{NODE_ROOT}
use Rattle.rnix_kinds.specs.Lexical.Tokens.{tokens_of}
use Rattle.rnix_green.specs.Forest.{text_of}
use Rattle.rnix_green.specs.Range.{bounds_of}
use Rattle.rnix_green.specs.Tree.{Tree, forest_of}
use Rattle.rnix_green.proofs.SplicedRoots.{inner_or_root}
use Rattle.rnix_grammar.specs.Fault.{fault_of}
use Rattle.rnix_grammar.specs.Parsed.{IsParsed}
use Rattle.rnix_reparse.specs.EditedRange.{edited}
use Rattle.rnix_reparse.specs.ReparsedNode.{IsReparsedNode}
use Rattle.rnix_reparse.proofs.NewNodes.{reparsed_same, new_root}
use Rattle.rnix_reparse.proofs.OwnTexts.{parsed_text, edited_characters}
use Rattle.rnix_reparse.proofs.in_place.reparse_in_place.Goals as goal

pub reparse_node-requires-clause-parsed : goal.reparse_node-requires-clause-parsed
reparse_node-requires-clause-parsed c =
    let old = c.args.parse.now in
    let empty : c.errors.result.now ≡ [] = nil_from_length _ (true-eqb _ 0 c.if-is_empty.ensures) in
    let none : old.faults ≡ [] = sym c.errors.ensures ∙ ap (map fault_of) empty in
    subst (λ (z : Tree). IsParsed (tokens_of (text_of (forest_of z))) z []) (sym c.green.ensures.tree)
    (subst (λ e. IsParsed (tokens_of (text_of (forest_of old.tree))) old.tree e) none c.requires.parsed)

pub set_node-requires-clause-root : goal.set_node-requires-clause-root
set_node-requires-clause-root c =
    let t = c.args.parse.now.tree in
    let g = c.green.result.now in
    let w = c.green-in-Some.result.now in
    let n = c.in-Some.new.number in
    let u = c.in-Some.new.parse.tree in
    let range = bounds_of c.args.range in
    let replacement = c.args.replacement.now in
    let found : IsReparsedNode g n u range replacement =
    subst (λ o. IfSome o (λ new. IsReparsedNode g new.number new.parse.tree range replacement)) c.in-Some.is c.in_ok-new.ensures in
    let here = reparsed_same g u t w n range replacement found c.green.ensures.tree c.green-in-Some.ensures.tree in
    inner_or_root t n w NODE_ROOT here.single (λ v spliced. new_root t w v n range replacement here spliced)

pub returns-in-Some-clause-new : goal.returns-in-Some-clause-new
returns-in-Some-clause-new c =
    let old = c.args.parse.now in
    let g = c.green.result.now in
    let w = c.green-in-Some.result.now in
    let n = c.in-Some.new.number in
    let u = c.in-Some.new.parse.tree in
    let v = c.set_node.new.self in
    let range = bounds_of c.args.range in
    let replacement = c.args.replacement.now in
    let text = edited range replacement (text_of (forest_of old.tree)) in
    let found : IsReparsedNode g n u range replacement =
    subst (λ o. IfSome o (λ new. IsReparsedNode g new.number new.parse.tree range replacement)) c.in-Some.is c.in_ok-new.ensures in
    let here = reparsed_same g u old.tree w n range replacement found c.green.ensures.tree c.green-in-Some.ensures.tree in
    let empty : c.errors.result.now ≡ [] = nil_from_length _ (true-eqb _ 0 c.if-is_empty.ensures) in
    let none : v.faults ≡ [] = c.in_ok-set_node.ensures.faults ∙ sym c.errors.ensures ∙ ap (map fault_of) empty in
    subst (λ z. IsParsed (tokens_of text) v.tree z) (sym none) (here.parsed v.tree c.in_ok-set_node.ensures.tree)

pub returns-in-Some-clause-again : goal.returns-in-Some-clause-again
returns-in-Some-clause-again c =
    let old = c.args.parse.now in
    let g = c.green.result.now in
    let w = c.green-in-Some.result.now in
    let n = c.in-Some.new.number in
    let u = c.in-Some.new.parse.tree in
    let v = c.set_node.new.self in
    let range = bounds_of c.args.range in
    let replacement = c.args.replacement.now in
    let text = text_of (forest_of old.tree) in
    let found : IsReparsedNode g n u range replacement =
    subst (λ o. IfSome o (λ new. IsReparsedNode g new.number new.parse.tree range replacement)) c.in-Some.is c.in_ok-new.ensures in
    let here = reparsed_same g u old.tree w n range replacement found c.green.ensures.tree c.green-in-Some.ensures.tree in
    let empty : c.errors.result.now ≡ [] = nil_from_length _ (true-eqb _ 0 c.if-is_empty.ensures) in
    let none : v.faults ≡ [] = c.in_ok-set_node.ensures.faults ∙ sym c.errors.ensures ∙ ap (map fault_of) empty in
    let characters = edited_characters range replacement text c.requires.range (subst IsUtf8 c.text-text.ensures c.text-text.utf8) c.utf8.replacement in
    parsed_text (edited range replacement text) v.tree v.faults characters
    (subst (λ z. IsParsed (tokens_of (edited range replacement text)) v.tree z) (sym none) (here.parsed v.tree c.in_ok-set_node.ensures.tree))

pub returns-clause-again : goal.returns-clause-again
returns-clause-again c =
    let parse = c.in_ok-new-2.new in
    parsed_text c.as_str.result.now parse.tree parse.faults c.as_str.utf8 c.in_ok-new-2.ensures
