use Rattle.std.{proofs.Common.{◌++◌, map}, specs.Prelude.string_bytes}
use Rattle.nix_update.{specs.{PathMatches.path_match, PathSteps.{definition_if, definitions_at}}, proofs.CollectedLists.listing_more}
use Rattle.nix_update.proofs.definitions.add_definitions.Goals as goal

pub loop-entry-preserved : goal.loop-entry-preserved
loop-entry-preserved c =
    let names = map string_bytes c.args.names.now in
    record {
      next = tt;
      ends = tt;
      listing = listing_more (λ entry. definition_if c.args.step.now entry (path_match names c.args.step.now.at entry)) c.loop-entry.definitions.items
          c.add_definition.new.definitions.items (c.args.definitions.now.items ++ definitions_at names c.args.step.now) c.loop-entry.entry-iterator
          c.next.new.self c.in-Some.entry c.loop-entry.invariant.listing c.in-Some.ensures.steps c.in_ok-add_definition.ensures;
    }
