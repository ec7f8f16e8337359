use Rattle.{std.proofs.Common.{◌≡◌, List, ℕ, Ok, IfSome, subst, sym, refl}, rnix_tree.specs.{Lines.{indent, spot_text}, Spots.spot_of}}
use Rattle.rnix_tree.proofs.DumpTextLemmas.{line_written}
use Rattle.rnix_tree.proofs.debug.write_line.Goals as goal

pub returns : goal.returns
returns g c =
    let text = subst (λ (t : List ℕ). IfSome (spot_text (spot_of c.args.element.now)) (λ bs. t ≡ bs)) (sym c.as_str.ensures.value) c.in_ok-text.ensures in
    line_written g.W.Write.write_str_gives c.args.f.now _ _ _ (Ok c.in_ok-write_repeated.field-0) (Ok c.in_ok-write_str.field-0) c.write_str-2.result
    (indent c.args.depth) c.as_str.result.now (spot_text (spot_of c.args.element.now)) text
    c.in_ok-write_repeated.ensures.styled refl c.in_ok-write_str.ensures.styled refl c.write_str-2.ensures.styled
