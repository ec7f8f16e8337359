-- The text of a parse, and the characters of an edited text.
use Rattle.std.proofs.Common.{◌≡◌, ℕ, List, [], ◌++◌, take, drop, sym, ◌∙◌, subst, append-nil}
use Rattle.std.specs.Str.{IsUtf8}
use Rattle.std.proofs.lemmas.Str.{IsUtf8-take, IsUtf8-drop, IsUtf8-append}
use Rattle.rnix_kinds.specs.Lexical.Tokens.{tokens_of}
use Rattle.rnix_kinds.proofs.LexicalLemmas.Laws.{AreSound-tokens_under}
use Rattle.rnix_green.specs.Forest.{text_of}
use Rattle.rnix_green.specs.Range.{Extent}
use Rattle.rnix_green.specs.Tree.{Tree, forest_of}
use Rattle.rnix_grammar.specs.Fault.{Fault}
use Rattle.rnix_grammar.specs.Parsed.{IsParsed}
use Rattle.rnix_parser.proofs.OneReading.{reading_text}
use Rattle.rnix_reparse.specs.EditedRange.{edited, IsRangeOf}

-- the text of the tree of a text is that text
pub own_text : (text : List ℕ) (tree : Tree) (faults : List Fault) → IsUtf8 text → IsParsed (tokens_of text) tree faults → text_of (forest_of tree) ≡ text
own_text text tree faults characters h =
    append-nil (text_of tree.children) ∙ reading_text (tokens_of text) tree faults h.reading ∙ (AreSound-tokens_under [] text characters).joined

-- so the tree is the parse of its own text
pub parsed_text : (text : List ℕ) (tree : Tree) (faults : List Fault) → IsUtf8 text → IsParsed (tokens_of text) tree faults
    → IsParsed (tokens_of (text_of (forest_of tree))) tree faults
parsed_text text tree faults characters h = subst (λ t. IsParsed (tokens_of t) tree faults) (sym (own_text text tree faults characters h)) h

-- an edit at character boundaries leaves UTF-8
pub edited_characters : (range : Extent) (new text : List ℕ) → IsRangeOf text range → IsUtf8 text → IsUtf8 new → IsUtf8 (edited range new text)
edited_characters range new text h characters own =
    IsUtf8-append (take range.start text) (new ++ drop range.end text) (IsUtf8-take text range.start characters h.start)
    (IsUtf8-append new (drop range.end text) own (IsUtf8-drop text range.end characters h.end))
