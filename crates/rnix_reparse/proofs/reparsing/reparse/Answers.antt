use Rattle.std.proofs.Common.{◌≡◌, [], map, true-eqb, refl, ap, sym, subst, ◌∙◌}
use Rattle.std.specs.Prelude.{IfSome}
use Rattle.std.specs.Str.{IsUtf8}
use Rattle.std.proofs.lemmas.List.{nil_from_length}
use Rattle.rnix_kinds.specs.Lexical.Tokens.{tokens_of}
use Rattle.rnix_green.specs.Forest.{text_of}
use Rattle.rnix_green.specs.Range.{bounds_of}
use Rattle.rnix_green.specs.Splice.{IsSpliced}
use Rattle.rnix_green.specs.Tree.{Tree, forest_of}
use Rattle.rnix_grammar.specs.Fault.{fault_of}
use Rattle.rnix_grammar.specs.Parsed.{IsParsed}
use Rattle.rnix_reparse.specs.EditedRange.{edited}
use Rattle.rnix.specs.ParseResult.{Reading}
use Rattle.rnix_reparse.specs.ParsedText.{IsParsedText}
use Rattle.rnix_reparse.specs.ReparsedNode.{IsReparsedNode}
use Rattle.rnix_reparse.proofs.NewNodes.{reparsed_same, new_root}
use Rattle.rnix_reparse.proofs.OwnTexts.{parsed_text, edited_characters}
use Rattle.rnix_reparse.proofs.reparsing.reparse.Goals as goal

pub reparse_node-requires-clause-parsed : goal.reparse_node-requires-clause-parsed
reparse_node-requires-clause-parsed c =
    let old = c.args.old.now in
    let empty : c.errors.result.now ≡ [] = nil_from_length _ (true-eqb _ 0 c.if-is_empty.ensures) in
    let none : old.faults ≡ [] = sym c.errors.ensures ∙ ap (map fault_of) empty in
    subst (λ (z : Tree). IsParsed (tokens_of (text_of (forest_of z))) z []) (sym c.green-green.ensures.tree)
    (subst (λ e. IsParsed (tokens_of (text_of (forest_of old.tree))) old.tree e) none c.requires.parsed)

pub without_errors-requires : goal.without_errors-requires
without_errors-requires c =
    let g = c.green-green.result.now in
    let w = c.green.result.now in
    let n = c.in-Some.new.number in
    let u = c.in-Some.new.parse.tree in
    let range = bounds_of c.args.range in
    let replacement = c.args.replacement.now in
    let found : IsReparsedNode g n u range replacement =
    subst (λ o. IfSome o (λ new. IsReparsedNode g new.number new.parse.tree range replacement)) c.in-Some.is c.in_ok-new.ensures in
    new_root g w c.in_ok-tree.tree n range replacement (reparsed_same g u g w n range replacement found refl c.green.ensures.tree) c.in_ok-tree.ensures

pub returns-in-Some-clause-new : goal.returns-in-Some-clause-new
returns-in-Some-clause-new c =
    let old = c.args.old.now in
    let g = c.green-green.result.now in
    let w = c.green.result.now in
    let n = c.in-Some.new.number in
    let u = c.in-Some.new.parse.tree in
    let v = c.in_ok-tree.tree in
    let range = bounds_of c.args.range in
    let replacement = c.args.replacement.now in
    let text = edited range replacement (text_of (forest_of old.tree)) in
    let found : IsReparsedNode g n u range replacement =
    subst (λ o. IfSome o (λ new. IsReparsedNode g new.number new.parse.tree range replacement)) c.in-Some.is c.in_ok-new.ensures in
    let here = reparsed_same g u old.tree w n range replacement found c.green-green.ensures.tree c.green.ensures.tree in
    let spliced : IsSpliced old.tree n w v = subst (λ z. IsSpliced z n w v) c.green-green.ensures.tree c.in_ok-tree.ensures in
    subst (λ (z : Reading). IsParsed (tokens_of text) z.tree z.faults) (sym c.without_errors.ensures) (here.parsed v spliced)

pub returns-in-Some-clause-again : goal.returns-in-Some-clause-again
returns-in-Some-clause-again c =
    let old = c.args.old.now in
    let g = c.green-green.result.now in
    let w = c.green.result.now in
    let n = c.in-Some.new.number in
    let u = c.in-Some.new.parse.tree in
    let v = c.in_ok-tree.tree in
    let range = bounds_of c.args.range in
    let replacement = c.args.replacement.now in
    let text = text_of (forest_of old.tree) in
    let found : IsReparsedNode g n u range replacement =
    subst (λ o. IfSome o (λ new. IsReparsedNode g new.number new.parse.tree range replacement)) c.in-Some.is c.in_ok-new.ensures in
    let here = reparsed_same g u old.tree w n range replacement found c.green-green.ensures.tree c.green.ensures.tree in
    let spliced : IsSpliced old.tree n w v = subst (λ z. IsSpliced z n w v) c.green-green.ensures.tree c.in_ok-tree.ensures in
    let characters = edited_characters range replacement text c.requires.range (subst IsUtf8 c.text-whole.ensures c.text-whole.utf8) c.utf8.replacement in
    subst IsParsedText (sym c.without_errors.ensures) (parsed_text (edited range replacement text) v [] characters (here.parsed v spliced))

pub returns-clause-again : goal.returns-clause-again
returns-clause-again c =
    let parse = c.in_ok-parse.parse in
    parsed_text c.as_str.result.now parse.tree parse.faults c.as_str.utf8 c.in_ok-parse.ensures
