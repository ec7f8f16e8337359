use Rattle.std.{proofs.Common.{◌≡◌, ◌-◌, List, ℕ, ◌++◌, Option, take, codes, subst, refl, ap, ◌∙◌, arith}, specs.Fmt.{DisplaysOnOk, debug_str}}
use Rattle.rnix_tree.proofs.DebugLemmas.{start_shown}
use Rattle.rnix_tree.proofs.debug.write_start.Goals as goal

pub returns : goal.returns
returns g c =
    let cut = c.ceil_char_boundary-cut in
    let bare : cut.result - 0 ≡ cut.result = omega arith in
    let front = c.in_ok-write_str.ensures.ok refl c.new-start.ensures.intact in
    let whole = c.in_ok-write_str-2.ensures.ok refl front.0 in
    let is : c.as_str-start.result.now ≡ take cut.result c.args.text.now ++ codes " ..." =
    c.as_str-start.ensures.value ∙ whole.1
    ∙ ap (λ (x : List ℕ). x ++ codes " ...") (front.1 ∙ ap (λ (x : List ℕ). x ++ c.range.result.now) c.new-start.ensures.text ∙ c.range.ensures.value
    ∙ ap (λ n. take n c.args.text.now) bare) in
    start_shown (λ (o : Option (List ℕ)). DisplaysOnOk g.W.Write.write_str_gives c.args.f.now c.write.result o c.write.new.self) c.args.text.now cut.result
    c.utf8.text c.requires
    (cut.ensures.bound (omega (arith, c.requires))) cut.ensures.nearest tt
    (subst (λ (x : List ℕ). DisplaysOnOk g.W.Write.write_str_gives c.args.f.now c.write.result (debug_str x) c.write.new.self) is c.write.ensures.writes)
