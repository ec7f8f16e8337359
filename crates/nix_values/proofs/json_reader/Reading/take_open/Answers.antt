use Rattle.std.proofs.Common.{◌≡◌, ◌∙◌, ◌<◌, length, true, false, sym, refl, subst, arith}
use Rattle.nix_values.specs.declared.json_reader.TheConstants.{MOST_DEPTH}
use Rattle.nix_values.specs.JsonReading.{name_of, is_value_next, opened_plain, IsAdded}
use Rattle.nix_values.specs.Json.{opening}
use Rattle.nix_values.proofs.JsonLocationLemmas.{placed_open}
use Rattle.nix_values.proofs.JsonStateLemmas.{open_wrong}
use Rattle.nix_values.proofs.JsonDistinctLemmas.{distinct_added, opened_next}
use Rattle.nix_values.proofs.JsonReasonLemmas.{open_stop}
use Rattle.nix_values.proofs.JsonNameLemmas.{keeps_open}
use Rattle.nix_values.proofs.JsonReadingLemmas.{stopped, takes_open}
use Rattle.nix_values.proofs.json_reader.Reading.take_open.Goals as goal

pub returns-then-not-is_value_next : goal.returns-then-not-is_value_next
returns-then-not-is_value_next c =
    let old = c.args.self.now in
    let next : is_value_next old.state ≡ false = sym c.is_value_next.ensures ∙ c.if-not-is_value_next.true in
    stopped c.unexpected.result old (opening c.args.is_set) c.args.at
    (open_wrong c.args.is_set old.state old.frames.items (name_of old.name) next c.requires.sound)
    (open_stop c.unexpected.result old c.args.is_set c.args.at c.requires.sound next c.unexpected.ensures)

pub returns : goal.returns
returns c =
    let old = c.args.self.now in
    let next : is_value_next old.state ≡ true = sym c.is_value_next.ensures ∙ c.if-not-is_value_next.false in
    let room : length old.frames.items < MOST_DEPTH = omega (arith, c.len.ensures, c.if-len-ge-MOST_DEPTH.false) in
    takes_open old c.add.new.self _ c.args.at c.args.is_set (record { node = c.in_ok-node.node; is_set = c.args.is_set }) c.requires.sound next room
    (subst (λ p. IsAdded old p c.add.new.self) c.opened_value.ensures c.in_ok-node.ensures.added) refl c.opened-self.ensures
    c.in_ok-push.ensures.items refl refl
    (placed_open old c.add.new.self c.args.is_set (record { node = c.in_ok-node.node; is_set = c.args.is_set }) _ c.in_ok-node.ensures.placed
    (subst (λ p. IsAdded old p c.add.new.self) c.opened_value.ensures c.in_ok-node.ensures.added) refl c.in_ok-node.ensures.number
    c.in_ok-push.ensures.items)
    (record {
      distinct = distinct_added old c.add.new.self (opened_plain c.args.is_set) c.requires.placed c.requires.distinct next
          (subst (λ p. IsAdded old p c.add.new.self) c.opened_value.ensures c.in_ok-node.ensures.added);
      free = opened_next c.args.is_set (record c.add.new.self { frames = c.push.new.self; state = c.opened-self.result }) c.opened-self.result
          c.add.new.self.frames.items (record { node = c.in_ok-node.node; is_set = c.args.is_set }) c.opened-self.ensures refl c.in_ok-push.ensures.items;
    })
    (keeps_open old c.add.new.self _ (opening c.args.is_set) c.args.at c.args.is_set next c.requires.sound c.in_ok-node.ensures.located refl
    c.opened-self.ensures)
