use Rattle.std.proofs.Common.{◌≡◌, ◌∙◌, ◌+◌, ◌++◌, ◌∷◌, [], ℕ, length, min, ap, sym, subst, append_assoc, arith}
use Rattle.std.proofs.lemmas.List.Elements.{filter-append}
use Rattle.std.specs.{List.{filter}, Vec.Iter.{into_iter_items, into_iter_len}}
use Rattle.nix_dead.specs.{Dead.start_of, Skipped.{is_reported, IsAt}}
use Rattle.nix_dead.proofs.DeadLemmas.{not_before, then_next, nothing_left}
use Rattle.nix_dead.proofs.dead.reported.Goals as goal

pub loop-name-init : goal.loop-name-init
loop-name-init c = record {
  items = c.into_iter-name-iterator.ensures.into_iter_gives.0;
  len = (let gives = c.into_iter-name-iterator.ensures.into_iter_gives in omega (arith, gives.1, c.args.names.ok.0, ap length gives.0));
  order = c.new-place.ensures.order;
  found = λ up. c.new-reported.ensures.items;
  at = λ up. (0, c.new-place.ensures.start, λ d less. omega arith);
}

pub loop-name-preserved : goal.loop-name-preserved
loop-name-preserved c =
    let text = c.args.text.now in
    let names = c.args.names.items in
    let done = c.loop-name.yielded in
    let own = c.in-Some.name in
    let rest = into_iter_items c.next.new.self in
    let place = c.advance-place.result in
    let test = is_reported text c.args.options in
    let next : into_iter_items c.loop-name.name-iterator ≡ own ∷ rest = c.in-Some.ensures.steps.0 in
    let gone : into_iter_len c.next.new.self + 1 ≡ into_iter_len c.loop-name.name-iterator = c.in-Some.ensures.steps.1 in
    let all : done ++ own ∷ rest ≡ names = ap (λ xs. done ++ xs) (sym next) ∙ c.loop-name.invariant.items in
    let start : c.start_of.result ≡ start_of own = c.start_of.ensures in
    record {
      items = append_assoc done (own ∷ []) rest ∙ all;
      len = omega (arith, gone, c.loop-name.invariant.len, ap length next);
      order = c.advance-place.ensures.order;
      found = λ up.
          let at = c.loop-name.invariant.at up in
          let now = c.advance-place.ensures.lines text at.0 at.1 (omega (arith, start, not_before names done rest own all at.0 at.2)) in
          c.in_ok-add_reported.ensures text (subst (λ (n : ℕ). IsAt text (min n (length text)) place) start now)
          ∙ ap (λ l. l ++ filter test (own ∷ [])) (c.loop-name.invariant.found up) ∙ sym (filter-append test done (own ∷ []));
      at = λ up.
          let at = c.loop-name.invariant.at up in (
            min c.start_of.result (length text),
            c.advance-place.ensures.lines text at.0 at.1 (omega (arith, start, not_before names done rest own all at.0 at.2)),
            λ d less. omega (arith, start, then_next names done rest own all up d less),
          );
    }

pub returns : goal.returns
returns c = λ up.
    let none : into_iter_len c.loop-name.name-iterator ≡ 0 = c.in-None.ensures.steps.0 in
    let all : c.loop-name.yielded ≡ c.args.names.items =
    nothing_left c.loop-name.yielded (into_iter_items c.loop-name.name-iterator) c.args.names.items (sym c.loop-name.invariant.len ∙ none)
    c.loop-name.invariant.items in
    c.loop-name.invariant.found up ∙ ap (filter (is_reported c.args.text.now c.args.options)) all
