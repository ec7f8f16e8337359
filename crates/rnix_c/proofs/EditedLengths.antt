-- An edited text, and its length.
use Rattle.std.proofs.Common.{◌≡◌, ℕ, ◌+◌, ◌-◌, ◌<◌, ◌^◌, List, ◌++◌, length, take, drop, IsUtf8, ap, ◌∙◌, arith, length-append, length-drop}
use Rattle.std.proofs.lemmas.List.{length-take-le}
use Rattle.rnix_kinds.specs.Lexical.Tokens.{tokens_of}
use Rattle.rnix_green.specs.{Forest.{text_of}, Range.{Extent}, Tree.{Tree, forest_of}}
use Rattle.rnix_grammar.specs.{Fault.{Fault}, Parsed.{IsParsed}}
use Rattle.rnix_reparse.{specs.{EditedRange.{edited}, EditableRanges.{between, IsEditable}}, proofs.OwnTexts.{own_text}}

-- equal edits of equal texts have equal results
pub same_edited : (range other : Extent) (new new_too text text_too : List ℕ) → range ≡ other → new ≡ new_too → text ≡ text_too →
    edited range new text ≡ edited other new_too text_too
same_edited range other new new_too text text_too r n t =
    ap (λ range. edited range new text) r ∙ ap (λ new. edited other new text) n ∙ ap (edited other new_too) t

-- if a text is short, so is the text of its tree
pub short_text : (text : List ℕ) (tree : Tree) (faults : List Fault) → IsUtf8 text → IsParsed (tokens_of text) tree faults → length text < 2 ^ 32 →
    length (text_of (forest_of tree)) < 2 ^ 32
short_text text tree faults utf8 p short = omega (arith, short, ap (length {A = ℕ}) (own_text text tree faults utf8 p))
