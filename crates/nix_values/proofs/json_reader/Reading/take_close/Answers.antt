use Rattle.std.proofs.Common.{◌≡◌, ◌∙◌, true, false, sym, refl, subst, ap, take, length, ◌-◌, arith, rules}
use Rattle.std.specs.Prelude.{vec_len}
use Rattle.nix_values.specs.JsonReading.{name_of, is_close_next, IsInside}
use Rattle.nix_values.specs.Json.{closing}
use Rattle.nix_values.proofs.JsonLocationLemmas.{placed_closed}
use Rattle.nix_values.proofs.JsonStateLemmas.{close_wrong}
use Rattle.nix_values.proofs.JsonDistinctLemmas.{behind_next}
use Rattle.nix_values.proofs.JsonReasonLemmas.{plain_stop}
use Rattle.nix_values.proofs.JsonNameLemmas.{keeps_close}
use Rattle.nix_values.proofs.JsonReadingLemmas.{stopped, takes_close}
use Rattle.nix_values.proofs.json_reader.Reading.take_close.Goals as goal

pub returns-then-not-is_close_next : goal.returns-then-not-is_close_next
returns-then-not-is_close_next c =
    let old = c.args.self.now in
    let next : is_close_next old.state ≡ false = sym c.is_close_next.ensures ∙ c.if-not-is_close_next.true in
    stopped c.unexpected.result old (closing c.args.is_set) c.args.at
    (close_wrong c.args.is_set old.state old.frames.items (name_of old.name) next c.requires.sound)
    (plain_stop c.unexpected.result old (closing c.args.is_set) c.args.at c.requires.sound refl c.unexpected.ensures)

pub returns : goal.returns
returns c =
    let old = c.args.self.now in
    let next : is_close_next old.state ≡ true = sym c.is_close_next.ensures ∙ c.if-not-is_close_next.false in
    let same : c.in-Some.frame.is_set ≡ c.args.is_set = first_of (cc, search rules, grind arith) in
    let len : vec_len old.frames - 1 ≡ length old.frames.items - 1 = omega arith in
    takes_close old _ c.args.at c.args.is_set c.requires.sound next (subst (λ b. IsInside b old.frames.items) same c.in-Some.ensures.some)
    c.after_value-self.ensures
    (c.pop-closed.ensures.rest ∙ ap (λ n. take n old.frames.items) len) refl refl
    (placed_closed old.found old.attributes old.frames.items _ (vec_len old.frames - 1) c.requires.placed c.pop-closed.ensures.rest)
    (record {
      distinct = c.requires.distinct.distinct;
      free = behind_next
          (record old { frames = c.pop-closed.new.self; state = c.after_value-self.result }) c.after_value-self.result c.pop-closed.new.self.items
          c.after_value-self.ensures;
    })
    (keeps_close old _ (closing c.args.is_set) c.args.at c.pop-closed.new.self.items refl c.after_value-self.ensures)
