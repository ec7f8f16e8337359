use Rattle.std.proofs.{lemmas.Str.{chars_past_char, chars-nil}, Common.{◌∙◌, sym, ◌≡◌, ◌++◌, [], ◌∷◌, List, ℕ, false, length, arith, Bool, ◌||◌, true, refl}}
use Rattle.{std.specs.{Prelude.encode_utf8, Char.is_whitespace}, rnix_kinds.specs.Lexical.Texts.begins_space}
use Rattle.rnix_kinds.proofs.tokenizer.text.begins_space.Goals as goal

or-false : (b : Bool) → (b || false) ≡ b
or-false true = refl
or-false false = refl

nil_from_length : (xs : List ℕ) → length xs ≡ 0 → xs ≡ []
nil_from_length [] e = refl
nil_from_length (x ∷ xs) e = absurd (omega arith)

pub returns-in-Some : goal.returns-in-Some
unfolding begins_space
returns-in-Some c =
    let e : c.args.text.now ≡ encode_utf8 c.in-Some.c ++ c.next.new.self.rest.now = sym c.chars.ensures.rest ∙ c.in-Some.ensures.steps.0 in
    rw (chars_past_char _ _ c.in-Some.c c.utf8.text e) (c.is_whitespace.ensures ∙ sym (or-false (is_whitespace c.in-Some.c)))

pub returns-in-None : goal.returns-in-None
unfolding begins_space
returns-in-None c =
    let none : c.args.text.now ≡ [] = sym c.chars.ensures.rest ∙ nil_from_length c.chars.result.rest.now c.in-None.ensures.steps.0.0 in
    rw (none, chars-nil)
