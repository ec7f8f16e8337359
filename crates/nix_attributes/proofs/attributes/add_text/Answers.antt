use Rattle.std.proofs.Common.{rules, ◌≡◌, ◌∙◌, ℕ, Some, None, ap, refl, sym}
use Rattle.std.specs.Cow.{cow_str_bytes}
use Rattle.nix_attributes.specs.{Attributes.{attribute_by, first_by}, DefinedNames.site_of, Repeated.repetition}
use Rattle.nix_attributes.proofs.TableLemmas.{first_at, again_added, key_updated, first_added, earlier_found}
use Rattle.nix_attributes.proofs.attributes.add_text.Goals as goal

pub returns-in_ok-add_inner-in-Some-clause-table : goal.returns-in_ok-add_inner-in-Some-clause-table
returns-in_ok-add_inner-in-Some-clause-table c = λ known table.
    let found : first_by c.args.firsts.now (attribute_by c.args.attributes.now c.args.own.owner) (cow_str_bytes c.args.text) ≡ Some c.in-Some.first =
    sym (first_at c.args.firsts.now (c.attribute_of.result, c.args.text) _ _ c.attribute_of.ensures refl) ∙ sym c.get.ensures.value ∙ sym c.copied.ensures
    ∙ c.in-Some.is in
    again_added known c.args.attributes.now c.add_inner.new.attributes c.args.firsts.now (cow_str_bytes c.args.text) c.in-Some.first c.args.own table found
    c.in_ok-add_inner-in-Some.ensures

pub returns-in_ok-add_inner-in-Some-clause-found : goal.returns-in_ok-add_inner-in-Some-clause-found
returns-in_ok-add_inner-in-Some-clause-found c = λ known table.
    let found : first_by c.args.firsts.now (attribute_by c.args.attributes.now c.args.own.owner) (cow_str_bytes c.args.text) ≡ Some c.in-Some.first =
    sym (first_at c.args.firsts.now (c.attribute_of.result, c.args.text) _ _ c.attribute_of.ensures refl) ∙ sym c.get.ensures.value ∙ sym c.copied.ensures
    ∙ c.in-Some.is in
    c.repetition.ensures
    ∙ ap (λ first. repetition first (site_of c.args.own))
    (sym (earlier_found known c.args.attributes.now c.args.firsts.now (cow_str_bytes c.args.text) c.args.own _ table found))

pub returns-in_ok-insert-in-None-clause-table : goal.returns-in_ok-insert-in-None-clause-table
returns-in_ok-insert-in-None-clause-table c = λ known table.
    let absent : first_by c.args.firsts.now (attribute_by c.args.attributes.now c.args.own.owner) (cow_str_bytes c.args.text) ≡ None =
    sym (first_at c.args.firsts.now (c.attribute_of.result, c.args.text) _ _ c.attribute_of.ensures refl) ∙ sym c.get.ensures.value ∙ sym c.copied.ensures
    ∙ c.in-None.is in
    first_added known c.args.attributes.now c.args.firsts.now c.insert.new.self (cow_str_bytes c.args.text) c.args.own table absent
    (key_updated (c.attribute_of.result, c.args.text) _ _ _ _ _ c.attribute_of.ensures refl c.in_ok-insert-in-None.ensures.updates.0)

pub returns-in_ok-insert-in-None-clause-found : goal.returns-in_ok-insert-in-None-clause-found
returns-in_ok-insert-in-None-clause-found c = λ known table.
    let absent : first_by c.args.firsts.now (attribute_by c.args.attributes.now c.args.own.owner) (cow_str_bytes c.args.text) ≡ None =
    sym (first_at c.args.firsts.now (c.attribute_of.result, c.args.text) _ _ c.attribute_of.ensures refl) ∙ sym c.get.ensures.value ∙ sym c.copied.ensures
    ∙ c.in-None.is in
    ap (λ first. repetition first (site_of c.args.own))
    (sym (earlier_found known c.args.attributes.now c.args.firsts.now (cow_str_bytes c.args.text) c.args.own _ table absent))
