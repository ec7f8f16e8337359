use Rattle.std.proofs.Common.{◌≡◌, ◌∙◌, neg_ℤ, Some, ap, sym, subst, rules, SFits, w64, to_z, of_z}
use Rattle.std.proofs.lemmas.Int.{to_z-of_z}
use Rattle.rnix_green.specs.Tree.{text_at}
use Rattle.nix_values.specs.Contents.{integer}
use Rattle.nix_data.specs.Scalars.{integer_of}
use Rattle.nix_data.proofs.ScalarsLemmas.{number_read, integer_plain, integer_negated, integer_none}
use Rattle.nix_data.proofs.scalars.integer.Goals as goal

pub returns-in_default : goal.returns-in_default
returns-in_default c = λ refused.
    let none = rw c.in_default.is at (number_read (text_at c.args.number.now) c.value.result c.value.ensures.0) in
    integer_none c.args.is_negative (text_at c.args.number.now) none

pub returns-then-not-is_negative : goal.returns-then-not-is_negative
returns-then-not-is_negative c =
    let fits : SFits w64 c.in-Ok.value = search rules in
    let found = rw c.in-Ok.is at (number_read (text_at c.args.number.now) c.value.result c.value.ensures.0) in
    ap (λ b. integer_of b (text_at c.args.number.now)) c.if-not-is_negative.true
    ∙ integer_plain (text_at c.args.number.now) c.in-Ok.value found fits
    ∙ ap (λ z. Some (integer z)) (sym (to_z-of_z w64 c.in-Ok.value fits))

pub returns-in-Some : goal.returns-in-Some
returns-in-Some c =
    let fits : SFits w64 c.in-Ok.value = search rules in
    let back : to_z w64 (of_z w64 c.in-Ok.value) ≡ c.in-Ok.value = to_z-of_z w64 c.in-Ok.value fits in
    let found = rw c.in-Ok.is at (number_read (text_at c.args.number.now) c.value.result c.value.ensures.0) in
    let negated_fits : SFits w64 (neg_ℤ c.in-Ok.value) = subst (λ z. SFits w64 (neg_ℤ z)) back c.in-Some.ensures.0 in
    let same : c.in-Some.negated ≡ neg_ℤ c.in-Ok.value = c.in-Some.ensures.1 ∙ ap neg_ℤ back in
    let kept : to_z w64 (of_z w64 c.in-Some.negated) ≡ c.in-Some.negated =
    to_z-of_z w64 c.in-Some.negated (subst (λ z. SFits w64 z) (sym same) negated_fits) in
    ap (λ b. integer_of b (text_at c.args.number.now)) c.if-not-is_negative.false
    ∙ integer_negated (text_at c.args.number.now) c.in-Ok.value found negated_fits
    ∙ ap (λ z. Some (integer z)) (sym (kept ∙ same))
