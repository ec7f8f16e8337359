use Rattle.std.{proofs.Common.{◌≡◌, ◌∙◌, ◌∷◌, true, false, length, ap, arith}, specs.Prelude.{fold, string_bytes}}
use Rattle.rnix_tree.specs.Spots.{spot_of}
use Rattle.rnix_c.{specs.AllStrings.{found, with_node, with_element}, proofs.NumberedSpots.{others_follow}}
use Rattle.rnix_c.proofs.all_strings.strings_of.Goals.{in-Node+in_ok-add_string, in_default}
use Rattle.rnix_c.proofs.all_strings.strings_of.Goals as goal

pub loop-element-preserved : goal.loop-element-preserved
loop-element-preserved c =
    let before = found c.loop-element.parts.items (string_bytes c.loop-element.text) in
    let after = found c.match-element.parts.items (string_bytes c.match-element.text) in
    record {
      next = tt;
      ends = tt;
      remaining = elim c.match-element.branch [
        | in-Node+in_ok-add_string w ↦
            let cut : c.loop-element.element-iterator ≡ (true, w.in-Node.node) ∷ c.next.new.self = rw w.in-Node.is at c.in-Some.ensures.steps in
            let step : with_node before w.in-Node.node ≡ after = cc (w.in_ok-add_string.ensures, w.parts-is, w.text-is) in
            c.loop-element.invariant.remaining ∙ ap (fold with_element before) cut ∙ ap (λ f. fold with_element f c.next.new.self) step
        | in_default w ↦
            let cut : c.loop-element.element-iterator ≡ (false, w.in_default.field-0) ∷ c.next.new.self = rw w.in_default.is at c.in-Some.ensures.steps in
            let step : before ≡ after = cc (w.parts-is, w.text-is) in
            c.loop-element.invariant.remaining ∙ ap (fold with_element before) cut ∙ ap (λ f. fold with_element f c.next.new.self) step
      ];
      from = others_follow c.args.green.now c.loop-element.number (spot_of c.in-Some.element) c.next.new.self c.loop-element.element-iterator
          c.in-Some.ensures.steps c.loop-element.invariant.from;
      fits = omega (arith, ap length c.in-Some.ensures.steps, c.loop-element.invariant.fits);
    }
