use Rattle.std.proofs.Common.{◌≡◌, ◌-◌, take, drop, sym, ◌∙◌, subst}
use Rattle.std.specs.{Bool.Decides, Cmp.Lexicographic.bytes_decides}
use Rattle.rnix_green.specs.{Forest.text_of, Tree.forest_of}
use Rattle.rnix_tree.proofs.SiblingsAlike.{whole_text}
use Rattle.rnix_tree.proofs.sibling_range.are_texts_alike.Goals as goal

pub returns : goal.returns
returns c =
    let a = c.args in
    let text = c.as_bytes-text.ensures.value ∙ c.text_at.ensures ∙ whole_text a.green.now in
    let other = c.as_bytes-other.ensures.value ∙ c.text_at-2.ensures ∙ whole_text a.other_green.now in
    let xs = c.as_bytes-text.result.now in
    let ys = c.as_bytes-other.result.now in
    let whole = text_of (forest_of a.other_green.now) in
    subst (λ bs. Decides c.eq.result (take (a.end - a.start) (drop a.start bs) ≡ take (a.other_end - a.other_start) (drop a.other_start whole))) text
    (subst (λ bs. Decides c.eq.result (take (a.end - a.start) (drop a.start xs) ≡ take (a.other_end - a.other_start) (drop a.other_start bs))) other
    (subst (λ b. Decides b (take (a.end - a.start) (drop a.start xs) ≡ take (a.other_end - a.other_start) (drop a.other_start ys))) (sym c.eq.ensures)
    (bytes_decides (take (a.end - a.start) (drop a.start xs)) (take (a.other_end - a.other_start) (drop a.other_start ys)))))
