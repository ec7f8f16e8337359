use Rattle.std.proofs.Common.{◌≡◌, ◌∙◌, true, false, sym, refl, ap}
use Rattle.nix_values.specs.JsonReading.{name_of, is_comma_next}
use Rattle.nix_values.specs.Json.{comma}
use Rattle.nix_values.proofs.JsonStateLemmas.{comma_wrong, behind_comma}
use Rattle.nix_values.proofs.JsonReasonLemmas.{plain_stop}
use Rattle.nix_values.proofs.JsonNameLemmas.{keeps_comma}
use Rattle.nix_values.proofs.JsonReadingLemmas.{stopped, takes_comma}
use Rattle.nix_values.proofs.JsonDistinctLemmas.{comma_next}
use Rattle.nix_values.proofs.json_reader.Reading.take_comma.Goals as goal
use Rattle.nix_values.proofs.json_reader.Reading.take_comma.Goals.{then-frame, else-frame}

pub returns-then-not-is_comma_next : goal.returns-then-not-is_comma_next
returns-then-not-is_comma_next c =
    let old = c.args.self.now in
    let next : is_comma_next old.state ≡ false = sym c.is_comma_next.ensures ∙ c.if-not-is_comma_next.true in
    stopped c.unexpected.result old comma c.args.at (comma_wrong old.state old.frames.items (name_of old.name) next c.requires.sound)
    (plain_stop c.unexpected.result old comma c.args.at c.requires.sound refl c.unexpected.ensures)

pub returns : goal.returns
returns c =
    let old = c.args.self.now in
    let is_set = c.in-Some.frame.is_set in
    let next : is_comma_next old.state ≡ true = sym c.is_comma_next.ensures ∙ c.if-not-is_comma_next.false in
    let is : c.if-frame.self ≡ behind_comma is_set = elim c.if-frame.branch [
      | then-frame w ↦ w.self-is ∙ ap behind_comma (sym w.if-frame.true)
      | else-frame w ↦ w.self-is ∙ ap behind_comma (sym w.if-frame.false)
    ] in
    takes_comma old (record old { state = c.if-frame.self }) c.args.at is_set c.requires.sound next c.in-Some.ensures.some is refl refl refl c.requires.placed
    (record {
      distinct = c.requires.distinct.distinct;
      free = comma_next is_set (record old { state = c.if-frame.self }) c.if-frame.self is c.in-Some.ensures.some;
    })
    (keeps_comma old (record old { state = c.if-frame.self }) comma c.args.at is_set refl is c.in-Some.ensures.some)
