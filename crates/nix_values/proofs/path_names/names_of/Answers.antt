use Rattle.std.proofs.Common.{◌≡◌, ◌∙◌, ◌∷◌, [], map, ap, sym, subst, Option, Some, None}
use Rattle.std.specs.Prelude.{IfOk, option_map, option_and_then, if◌then◌else◌}
use Rattle.std.specs.Str.{chars}
use Rattle.std.proofs.lemmas.List.{nil_from_length}
use Rattle.std.proofs.lemmas.Str.{chars_past_char, IsUtf8-past_char}
use Rattle.nix_values.specs.Each.{each}
use Rattle.nix_values.specs.PathNames.{name_of, progress_of, started, letter_read, finished, path_names}
use Rattle.nix_values.proofs.EachLemmas.{rest_next, rest_refused, rest_none}
use Rattle.nix_values.proofs.path_names.names_of.Goals as goal

pub returns-then-not-branch : goal.returns-then-not-branch
returns-then-not-branch c =
    let before = c.loop-letter.letters.rest.now in
    let after = c.next.new.self.rest.now in
    let first : chars before ≡ c.in-Some.letter ∷ chars after =
    chars_past_char before after c.in-Some.letter c.loop-letter.invariant.utf8 c.in-Some.ensures.steps.0 in
    let none : letter_read c.in-Some.letter (progress_of c.loop-letter.reading) ≡ None =
    c.in_ok-read.ensures ∙ ap (λ b. if b then Some (progress_of c.read.new.self) else None) c.if-not-branch.true in
    sym (ap (option_and_then finished)
    (rest_refused letter_read (chars before) (chars after) c.in-Some.letter (progress_of c.loop-letter.reading)
    (each letter_read (chars c.args.path.now) started) first none c.loop-letter.invariant.rest))

pub loop-letter-preserved : goal.loop-letter-preserved
loop-letter-preserved c =
    let before = c.loop-letter.letters.rest.now in
    let after = c.next.new.self.rest.now in
    let first : chars before ≡ c.in-Some.letter ∷ chars after =
    chars_past_char before after c.in-Some.letter c.loop-letter.invariant.utf8 c.in-Some.ensures.steps.0 in
    let some : letter_read c.in-Some.letter (progress_of c.loop-letter.reading) ≡ Some (progress_of c.read.new.self) =
    c.in_ok-read.ensures ∙ ap (λ b. if b then Some (progress_of c.read.new.self) else None) c.if-not-branch.false in
    record {
      utf8 = IsUtf8-past_char before after c.in-Some.letter c.loop-letter.invariant.utf8 c.in-Some.ensures.steps.0;
      rest = rest_next letter_read (chars before) (chars after) c.in-Some.letter (progress_of c.loop-letter.reading) (progress_of c.read.new.self)
          (each letter_read (chars c.args.path.now) started) first some c.loop-letter.invariant.rest;
    }

pub returns : goal.returns
unfolding chars
returns c =
    let before = c.loop-letter.letters.rest.now in
    let none : chars before ≡ [] = ap chars (nil_from_length before c.in_default.ensures.steps.0.0) in
    let whole = rest_none letter_read (chars before) (progress_of c.loop-letter.reading) (each letter_read (chars c.args.path.now) started) none
    c.loop-letter.invariant.rest in
    subst (λ o. IfOk c.finish.result (λ found. option_map (λ names. map name_of names.items) found ≡ o))
    (sym (ap (option_and_then finished) whole)) c.finish.ensures
