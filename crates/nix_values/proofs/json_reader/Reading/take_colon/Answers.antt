use Rattle.std.proofs.Common.{◌≡◌, ◌∙◌, true, false, sym, refl}
use Rattle.nix_values.specs.JsonReading.{name_of, is_colon_next}
use Rattle.nix_values.specs.Json.{colon}
use Rattle.nix_values.proofs.JsonStateLemmas.{colon_wrong}
use Rattle.nix_values.proofs.JsonDistinctLemmas.{colon_free}
use Rattle.nix_values.proofs.JsonReasonLemmas.{plain_stop}
use Rattle.nix_values.proofs.JsonNameLemmas.{keeps_colon}
use Rattle.nix_values.proofs.JsonReadingLemmas.{stopped, takes_colon}
use Rattle.nix_values.proofs.json_reader.Reading.take_colon.Goals as goal

pub returns-then-not-is_colon_next : goal.returns-then-not-is_colon_next
returns-then-not-is_colon_next c =
    let old = c.args.self.now in
    let next : is_colon_next old.state ≡ false = sym c.is_colon_next.ensures ∙ c.if-not-is_colon_next.true in
    stopped c.unexpected.result old colon c.args.at (colon_wrong old.state old.frames.items (name_of old.name) next c.requires.sound)
    (plain_stop c.unexpected.result old colon c.args.at c.requires.sound refl c.unexpected.ensures)

pub returns : goal.returns
returns c =
    let old = c.args.self.now in
    let next : is_colon_next old.state ≡ true = sym c.is_colon_next.ensures ∙ c.if-not-is_colon_next.false in
    takes_colon old _ c.args.at next refl refl refl refl c.requires.placed
    (record { distinct = c.requires.distinct.distinct; free = colon_free old.state old next c.requires.distinct.free })
    (keeps_colon old _ colon c.args.at refl next refl refl refl)
