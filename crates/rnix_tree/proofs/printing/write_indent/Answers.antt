use Rattle.std.proofs.{Common.{◌≡◌, ℕ, ◌+◌, ◌-◌, [], ◌++◌, sym, ap, ◌∙◌, refl, arith, append_assoc}, KnownBytes.{Appends-nil, Appends-trans}}
use Rattle.rnix_tree.{specs.Lines.indent, proofs.LineLemmas.{appends_then, indent_sum, indent_front}}
use Rattle.rnix_tree.proofs.printing.write_indent.Goals as goal

pub loop-remaining-init : goal.loop-remaining-init
loop-remaining-init g c = ([], Appends-nil _, refl)

pub loop-remaining-preserved : goal.loop-remaining-preserved
loop-remaining-preserved g c =
    let so_far = c.loop-remaining.invariant in
    let remaining : ℕ = c.loop-remaining.remaining in
    let whole : 32 + (remaining - 32) ≡ remaining = omega (arith, c.loop-remaining-test.true) in (
      so_far.0 ++ indent 32,
      Appends-trans _ _ _ so_far.0 (indent 32) so_far.1 c.in_ok-write_all.ensures.bytes,
      append_assoc so_far.0 (indent 32) (indent (remaining - 32)) ∙ ap (λ x. so_far.0 ++ x) (sym (indent_sum 32 (remaining - 32)) ∙ ap indent whole) ∙ so_far.2,
    )

pub returns : goal.returns
returns g c =
    let so_far = c.loop-remaining.invariant in
    let remaining : ℕ = c.loop-remaining.remaining in
    appends_then _ _ _ so_far.0 _ _ so_far.1 c.in_ok-write_all-2.ensures.bytes
    (sym so_far.2 ∙ ap (λ x. so_far.0 ++ x) (sym (indent_front remaining 32 (omega (arith, c.loop-remaining-test.false)))))
