use Rattle.std.{proofs.Common.{◌++◌, map}, specs.Prelude.string_bytes}
use Rattle.nix_update.{specs.{PathMatches.path_match, PathSteps.{continued_value, values_in}}, proofs.CollectedLists.listing_more}
use Rattle.nix_update.proofs.steps.add_values.Goals as goal

pub loop-entry-preserved : goal.loop-entry-preserved
loop-entry-preserved c =
    let names = map string_bytes c.args.names.now in
    record {
      next = tt;
      ends = tt;
      listing = listing_more (λ entry. continued_value (path_match names c.args.at entry) c.args.in_let entry) c.loop-entry.steps.items
          c.add_value.new.steps.items (c.args.steps.now.items ++ values_in names c.args.at c.args.in_let c.args.node.now) c.loop-entry.entry-iterator
          c.next.new.self c.in-Some.entry c.loop-entry.invariant.listing c.in-Some.ensures.steps c.in_ok-add_value.ensures;
    }
