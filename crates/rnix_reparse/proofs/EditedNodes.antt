-- An edit between the brackets of a node.
use Rattle.std.proofs.Common.{◌≡◌, ℕ, ◌-◌, ◌≤◌, ◌<◌, List, [], ◌++◌, length, take, drop, None, refl, ap, ◌∙◌, subst, arith, length-drop}
use Rattle.std.specs.Str.{IsUtf8, IsCharBoundary}
use Rattle.std.proofs.lemmas.List.{length-take-le}
use Rattle.rnix_kinds.specs.Lexical.Tokens.{tokens_of}
use Rattle.rnix_green.specs.Forest.{text_of}
use Rattle.rnix_green.specs.Range.{Extent}
use Rattle.rnix_green.specs.Tree.{Tree, items_of, item, forest_of, text_at}
use Rattle.rnix_green.specs.Splice.{IsSpliced}
use Rattle.rnix_green.proofs.InsideLemmas.{elements_in_all}
use Rattle.rnix_green.proofs.StartLemmas.{in_text}
use Rattle.rnix_grammar.specs.Parsed.{IsParsed}
use Rattle.rnix_grammar.specs.Reading.{IsReading}
use Rattle.rnix_reparse.specs.EditedRange.{edited}
use Rattle.rnix_reparse.specs.OwnBrackets.{HasSameBrackets, IsBetween}
use Rattle.rnix_reparse.specs.TreeHeight.{FitsAt}
use Rattle.rnix_reparse.proofs.EditedTexts.{edited_inside, boundary_inside}
use Rattle.rnix_reparse.proofs.SplicedReadings.{parsed_spliced}

-- an element ends within the text
ends_in_text : (t : Tree) (n : ℕ) → n < length (items_of t) → (item t n).end ≤ length (text_of (forest_of t))
ends_in_text t n l = (let h = in_text 0 0 None (forest_of t) n (omega (arith, elements_in_all t)) in omega (arith, h.high))

-- the tree with the new node is the parse of the edited text
pub parsed_edit : (t u v : Tree) (n : ℕ) (range : Extent) (replacement own new : List ℕ) → n < length (items_of t)
    → own ≡ text_at record { tree = t; number = n }
    → new ≡ edited record { start = range.start - (item t n).start; end = range.end - (item t n).start } replacement own
    → IsUtf8 (text_of (forest_of t)) → IsUtf8 own → IsUtf8 new → range.start ≤ range.end → IsBetween t n range
    → IsReading (tokens_of (text_of (forest_of t))) t [] → IsReading (tokens_of new) u [] → HasSameBrackets t n u → FitsAt t n u → IsSpliced t n u v
    → IsParsed (tokens_of (edited range replacement (text_of (forest_of t)))) v []
parsed_edit t u v n range replacement own new l own_is new_is text_utf8 own_utf8 new_utf8 ordered between reading alone same fits spliced =
    let text = text_of (forest_of t) in
    let s = (item t n).start in
    let e = (item t n).end in
    let low : s < range.start = between.start in
    let high : range.end < e = between.end in
    let size : length own ≡ e - s =
    ap length own_is ∙ length-take-le (e - s) (drop s text) (omega (arith, length-drop s text, ends_in_text t n l)) in
    let whole : take s text ++ (new ++ drop e text) ≡ edited range replacement text =
    ap (λ z. take s text ++ (z ++ drop e text))
    (new_is ∙ ap (edited record { start = range.start - s; end = range.end - s } replacement) own_is)
    ∙ edited_inside text replacement s e range.start range.end (omega arith) ordered (omega arith) in
    subst (λ z. IsParsed (tokens_of z) v []) whole
    (parsed_spliced t u v n text own new refl own_is text_utf8 own_utf8 new_utf8 (omega arith) reading alone same fits spliced)
