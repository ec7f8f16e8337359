use Rattle.std.proofs.Common.{◌≡◌, ◌∙◌, true, false, sym, refl}
use Rattle.nix_values.specs.Contents.{plain_of}
use Rattle.nix_values.specs.JsonReading.{name_of, is_value_next}
use Rattle.nix_values.specs.Json.{scalar}
use Rattle.nix_values.proofs.JsonStateLemmas.{scalar_wrong}
use Rattle.nix_values.proofs.JsonDistinctLemmas.{distinct_added, behind_next}
use Rattle.nix_values.proofs.JsonReasonLemmas.{plain_stop}
use Rattle.nix_values.proofs.JsonNameLemmas.{keeps_scalar}
use Rattle.nix_values.proofs.JsonReadingLemmas.{stopped, takes_scalar}
use Rattle.nix_values.proofs.json_reader.Reading.take_scalar.Goals as goal

pub returns-then-not-is_value_next : goal.returns-then-not-is_value_next
returns-then-not-is_value_next c =
    let old = c.args.self.now in
    let next : is_value_next old.state ≡ false = sym c.is_value_next.ensures ∙ c.if-not-is_value_next.true in
    stopped c.unexpected.result old (scalar (plain_of c.args.value)) c.args.at
    (scalar_wrong old.state old.frames.items (name_of old.name) (plain_of c.args.value) next c.requires.sound)
    (plain_stop c.unexpected.result old (scalar (plain_of c.args.value)) c.args.at c.requires.sound refl c.unexpected.ensures)

pub returns : goal.returns
returns c =
    let old = c.args.self.now in
    let next : is_value_next old.state ≡ true = sym c.is_value_next.ensures ∙ c.if-not-is_value_next.false in
    takes_scalar old c.add.new.self _ c.args.at (plain_of c.args.value) c.requires.sound next c.in_ok-_number.ensures.added c.after_value-self.ensures refl refl
    refl c.in_ok-_number.ensures.placed
    (record {
      distinct = distinct_added old c.add.new.self (plain_of c.args.value) c.requires.placed c.requires.distinct next c.in_ok-_number.ensures.added;
      free = behind_next (record c.add.new.self { state = c.after_value-self.result }) c.after_value-self.result c.add.new.self.frames.items
          c.after_value-self.ensures;
    })
    (keeps_scalar old c.add.new.self _ (scalar (plain_of c.args.value)) c.args.at c.add.new.self.frames.items next c.requires.sound
    c.in_ok-_number.ensures.located refl c.after_value-self.ensures)
