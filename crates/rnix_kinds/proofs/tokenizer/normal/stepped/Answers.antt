use Rattle.{std.proofs.Common.{◌≡◌, ◌∷◌, [], None, sym, ap, ◌∙◌}, rnix_kinds.specs.Lexical.{Classes.is_path, Operators.{ellipsis, operator}, Paths.relative}}
use Rattle.rnix_kinds.{specs.Lexical.{Numbers.number, Tokens.one_error}, proofs.LexicalLemmas.FirstBytes.{relative-None-short, ellipsis-None-short, third_fits}}
use Rattle.rnix_kinds.proofs.{LexicalLemmas.FirstBytes.none_of_three, tokenizer.normal.stepped.Goals.{then-is_in+in_default+in_default-relative, else-is_in}}
use Rattle.rnix_kinds.proofs.tokenizer.normal.stepped.Goals as goal

pub returns-in-Some-number-clause-cut : goal.returns-in-Some-number-clause-cut
returns-in-Some-number-clause-cut c =
    let text = c.args.text.now in
    let none : (ellipsis text ≡ None) × (relative text ≡ None) = elim c.if-is_in.branch [
      | then-is_in+in_default+in_default-relative w ↦ (sym w.ellipsis.ensures ∙ w.in_default.is, sym w.relative.ensures ∙ w.in_default-relative.is)
      | else-is_in w ↦ (let out = sym (ap is_path c.byte_at.ensures) ∙ sym c.is_in.ensures
          ∙ w.if-is_in.false in (ellipsis-None-short text out, relative-None-short text out))
    ] in
    third_fits (ellipsis text) (relative text) (number text) (operator text ∷ []) (one_error text) c.in-Some-number.cut none.0 none.1
    (sym c.number.ensures ∙ c.in-Some-number.is)

pub returns-in-None-clause-cut : goal.returns-in-None-clause-cut
returns-in-None-clause-cut c =
    let text = c.args.text.now in
    let none : (ellipsis text ≡ None) × (relative text ≡ None) = elim c.if-is_in.branch [
      | then-is_in+in_default+in_default-relative w ↦ (sym w.ellipsis.ensures ∙ w.in_default.is, sym w.relative.ensures ∙ w.in_default-relative.is)
      | else-is_in w ↦ (let out = sym (ap is_path c.byte_at.ensures) ∙ sym c.is_in.ensures
          ∙ w.if-is_in.false in (ellipsis-None-short text out, relative-None-short text out))
    ] in
    c.symbol.ensures ∙ none_of_three (ellipsis text) (relative text) (number text) (operator text ∷ []) (one_error text) none.0 none.1
    (sym c.number.ensures ∙ c.in-None.is)
