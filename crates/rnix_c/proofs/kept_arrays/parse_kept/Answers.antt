use Rattle.std.proofs.Common.{sym, ◌∙◌, ap, subst}
use Rattle.{rnix_green.specs.{Forest.{text_of}, Tree.{forest_of}}, rnix.specs.ParseResult.{Reading}, rnix_reparse.{specs.ParsedText.{IsParsedText}, proofs.OwnTexts.{own_text, parsed_text}}}
use Rattle.rnix_c.proofs.kept_arrays.parse_kept.Goals as goal

pub returns-clause-own : goal.returns-clause-own
returns-clause-own c =
    subst (λ (read : Reading). IsParsedText read) (sym c.without_errors.ensures) (parsed_text c.args.text.now _ _ c.utf8.text c.in_ok-green.ensures.read)

pub returns-clause-text : goal.returns-clause-text
returns-clause-text c =
    ap (λ (read : Reading). text_of (forest_of read.tree)) c.without_errors.ensures ∙ own_text c.args.text.now _ _ c.utf8.text c.in_ok-green.ensures.read
