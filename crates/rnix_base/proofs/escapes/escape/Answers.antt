use Rattle.{std.proofs.Common.{◌∙◌, ◌++◌, ap}, rnix_base.proofs.{EscapeLemmas.{is_character, character_escapes, letter_escapes}, escapes.escape.Goals.in-n}}
use Rattle.rnix_base.proofs.escapes.escape.Goals.{in-r, in-t, in_default}
use Rattle.rnix_base.proofs.escapes.escape.Goals as goal

pub returns : goal.returns
returns c =
    let text = c.in_ok-c.ensures.2 in
    elim c.match-c.branch [
      | in-n w ↦ letter_escapes 110 _ _ _ (text ∙ ap (λ t. t ++ c.in_ok-c.rest.now) w.in-n.is) (ap (λ v. v.now) w.value-is)
      | in-r w ↦ letter_escapes 114 _ _ _ (text ∙ ap (λ t. t ++ c.in_ok-c.rest.now) w.in-r.is) (ap (λ v. v.now) w.value-is)
      | in-t w ↦ letter_escapes 116 _ _ _ (text ∙ ap (λ t. t ++ c.in_ok-c.rest.now) w.in-t.is) (ap (λ v. v.now) w.value-is)
      | in_default w ↦ rw w.value-is (character_escapes _ _ _
          (is_character c.in_ok-c.ensures.0 _ c.in_ok-c.ensures.1) text w.in_default.not-n w.in_default.not-r w.in_default.not-t)
    ]
