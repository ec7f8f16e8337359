use Rattle.std.proofs.Common.{ℕ, ◌≡◌, ◌∙◌, ◌≤◌, ◌++◌, ◌∷◌, [], ap, sym, subst, map, min, length, arith, rules}
use Rattle.std.proofs.lemmas.List.{take_all}
use Rattle.std.specs.{Prelude.string_bytes, List.filter}
use Rattle.nix_lints.specs.{Found.found_of, Ignored.IsAt, Items.is_enabled}
use Rattle.nix_lints.proofs.ReportedLemmas.{filtered_more, start_before, next_start}
use Rattle.nix_lints.proofs.reported.enabled.Goals as goal

pub loop-finding-init : goal.loop-finding-init
loop-finding-init c = record {
  order = c.new-place.ensures.order;
  found = λ up. ap (map found_of) c.new-found.ensures.items;
  at = λ up. (0, c.new-place.ensures.start, λ d less. omega arith);
}

pub loop-finding-preserved : goal.loop-finding-preserved
loop-finding-preserved c =
    let text = c.args.text.now in
    let all = c.args.all.now in
    let i = c.loop-finding.finding-index in
    let own = c.finding-item.result in
    let test = is_enabled text (map string_bytes c.args.disabled.now) in
    let start : c.start.result ≡ own.range.start = search rules in
    record {
      order = c.in_ok-place.ensures.order;
      found = λ up.
          let at = c.loop-finding.invariant.at up in
          let now = c.in_ok-place.ensures.lines text at.0 at.1
          (omega (arith, start, start_before all i at.0 own c.finding-item.is (at.2 own c.loop-finding-test.true))) in
          c.in_ok-add_enabled.ensures text (subst (λ (n : ℕ). IsAt text (min n (length text)) c.in_ok-place.place) start now)
          ∙ ap (λ l. l ++ filter test (found_of own ∷ [])) (c.loop-finding.invariant.found up)
          ∙ sym (filtered_more test found_of all i own c.loop-finding-test.true c.finding-item.is);
      at = λ up.
          let at = c.loop-finding.invariant.at up in (
            min c.start.result (length text),
            c.in_ok-place.ensures.lines text at.0 at.1
                (omega (arith, start, start_before all i at.0 own c.finding-item.is (at.2 own c.loop-finding-test.true))),
            λ d less. omega (arith, start, next_start all i own d c.finding-item.is up less),
          );
    }

pub returns : goal.returns
returns c = λ up.
    c.loop-finding.invariant.found up
    ∙ ap (λ found. filter (is_enabled c.args.text.now (map string_bytes c.args.disabled.now)) (map found_of found))
    (take_all c.loop-finding.finding-index c.args.all.now (omega (arith, c.loop-finding-test.false)))
