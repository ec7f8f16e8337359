-- The number of elements of a tree is bounded by the bytes of its text.
use Rattle.std.proofs.Common.{◌≡◌, ◌≤◌, ℕ, ◌+◌, ◌*◌, List, [], length, None, IsUtf8, arith}
use Rattle.std.proofs.lemmas.List.{length-map}
use Rattle.{rnix_kinds.{specs.Lexical.Tokens.{tokens_of}, proofs.LexicalLemmas.Laws.{AreSound-tokens_under}}, rnix_parser.proofs.SizedTexts.{sized_by_bytes}}
use Rattle.{rnix_green.specs.{Forest.element_count, Tree.{Tree, forest_of, items_of}}, rnix_green.proofs.PieceLemmas.length-items_from}
use Rattle.{rnix_grammar.specs.{Fault.Fault, Parsed.IsParsed}, rnix_parser.specs.ReadingLaws.{OfRead, elements_in}}
use Rattle.rnix_c.specs.Elements.{element_of, elements_of, AreFew}

-- the bound follows from the law `size`
pub few_elements : (text : List ℕ) (tree : Tree) (faults : List Fault) → OfRead text (λ tree faults. elements_in tree ≤ 3 * length text + 3)
    → IsParsed (tokens_of text) tree faults → AreFew text tree
few_elements text tree faults law p =
    let few : element_count (forest_of tree) ≤ 3 * length text + 3 = law tree faults p.reading in
    let same : length (items_of tree) ≡ element_count (forest_of tree) = length-items_from 0 0 None (forest_of tree) in
    let written : length (elements_of tree) ≡ length (items_of tree) = length-map (items_of tree) element_of in
    omega (arith, few, same, written)

-- this holds for the parse of a text
pub few_parsed : (text : List ℕ) (tree : Tree) (faults : List Fault) → IsUtf8 text → IsParsed (tokens_of text) tree faults → AreFew text tree
few_parsed text tree faults utf8 p =
    few_elements text tree faults (λ tree faults r. sized_by_bytes text tree faults (AreSound-tokens_under [] text utf8) r) p
