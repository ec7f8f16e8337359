use Rattle.std.proofs.Common.{◌≡◌, ◌∙◌, true, false, sym, refl, subst, ap, inr, string_bytes}
use Rattle.nix_values.specs.declared.json_error.JsonReason.TheVariants.{Repeated}
use Rattle.nix_values.specs.JsonReading.{is_name_next, IsTaken, IsNotTaken}
use Rattle.nix_values.proofs.JsonRepeatLemmas.{name_repeats}
use Rattle.nix_values.proofs.JsonDistinctLemmas.{name_free}
use Rattle.nix_values.proofs.JsonNameLemmas.{keeps_name}
use Rattle.nix_values.proofs.JsonReadingLemmas.{takes_name, text_taken}
use Rattle.nix_values.proofs.json_reader.Reading.take_text.Goals as goal

pub returns : goal.returns
returns c =
    let old = c.args.self.now in
    let next : is_name_next old.state ≡ true = sym c.is_name_next.ensures ∙ c.if-not-is_name_next.false in
    takes_name old _ c.args.at _ c.requires.sound next refl refl refl refl c.requires.placed
    (record {
      distinct = c.requires.distinct.distinct;
      free = name_free old (string_bytes c.args.text) c.requires.placed
          (subst (λ name. IsNotTaken old name) c.as_str.ensures.value c.in_default.ensures.free);
    })
    (keeps_name old _ (string_bytes c.args.text) c.args.at c.requires.sound c.requires.placed next refl refl refl (λ text after set past is. (past, is)))

pub returns-then-not-is_name_next : goal.returns-then-not-is_name_next
returns-then-not-is_name_next c =
    let old = c.args.self.now in
    let next : is_name_next old.state ≡ false = sym c.is_name_next.ensures ∙ c.if-not-is_name_next.true in
    text_taken c.take_scalar.result old c.take_scalar.new.self (string_bytes c.args.text) c.args.at next c.requires.sound c.take_scalar.ensures

pub returns-in-Some : goal.returns-in-Some
returns-in-Some c =
    let old = c.args.self.now in
    let next : is_name_next old.state ≡ true = sym c.is_name_next.ensures ∙ c.if-not-is_name_next.false in
    let taken : IsTaken old c.in-Some.number (string_bytes c.args.text) = subst (λ name. IsTaken old c.in-Some.number name) c.as_str.ensures.value
    c.in-Some.ensures.taken in (
      (λ other. absurd (other refl), name_repeats old (string_bytes c.args.text) c.in-Some.number c.requires.sound next c.requires.placed taken),
      inr (record {
        name = string_bytes c.args.text;
        number = c.in-Some.number;
        token_is = refl;
        next = next;
        taken = taken;
        error_is = ap (λ first. record { reason = Repeated; offset = c.args.at; first = first }) c.offset.ensures;
      }),
    )
