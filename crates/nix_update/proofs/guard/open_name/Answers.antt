use Rattle.std.proofs.Common.{◌≡◌, ◌∙◌, false, map, string_bytes, sym, subst, arith}
use Rattle.std.specs.List.{All, Contains}
use Rattle.std.proofs.lemmas.List.{take_all, Elements.All-more}
use Rattle.rnix_green.specs.Range.{bounds_of}
use Rattle.nix_scopes.specs.declared.resolution.Reference.{Reference}
use Rattle.nix_update.specs.SameNames.{is_open_among}
use Rattle.nix_update.proofs.guard.open_name.Goals as goal

pub loop-reference-preserved : goal.loop-reference-preserved
loop-reference-preserved c =
    let other = λ (reference : Reference). is_open_among (bounds_of c.args.range) (map string_bytes c.args.names.now) reference ≡ false in
    All-more other c.references-reference-items.result.now c.loop-reference.reference-index c.reference-item.result c.loop-reference-test.true
    c.loop-reference.invariant (subst other c.reference-item.is (sym c.is_open_among.ensures ∙ c.if-is_open_among.false))

pub returns-then-is_open_among-clause-some : goal.returns-then-is_open_among-clause-some
returns-then-is_open_among-clause-some c =
    let reference = c.reference-item.result in
    record {
      found = c.in_ok-found.found;
      is_found = record {
        bindings = c.in_ok-found.ensures.bindings;
        firsts = c.in_ok-found.ensures.firsts;
        resolved = c.in_ok-found.ensures.resolved;
      };
      reference = reference;
      there = subst (λ references. Contains references reference) c.references-reference-items.ensures
          (c.loop-reference.reference-index, c.loop-reference-test.true, sym c.reference-item.is);
      is_open = sym c.is_open_among.ensures ∙ c.if-is_open_among.true;
    }

pub returns : goal.returns
returns c =
    let other = λ (reference : Reference). is_open_among (bounds_of c.args.range) (map string_bytes c.args.names.now) reference ≡ false in
    let items = c.references-reference-items.result.now in
    record {
      none = record {
        found = c.in_ok-found.found;
        is_found = record {
          bindings = c.in_ok-found.ensures.bindings;
          firsts = c.in_ok-found.ensures.firsts;
          resolved = c.in_ok-found.ensures.resolved;
        };
        none = subst (All other) (take_all c.loop-reference.reference-index items (omega (arith, c.loop-reference-test.false))
            ∙ c.references-reference-items.ensures) c.loop-reference.invariant;
      };
      some = tt;
    }
