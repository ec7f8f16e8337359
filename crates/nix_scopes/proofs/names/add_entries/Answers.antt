use Rattle.{std.proofs.Common.{◌++◌, map, refl}, nix_scopes.{specs.Binders.{named, entry_names, entries_names}, proofs.WalkLemmas.listing_next}}
use Rattle.nix_scopes.proofs.names.add_entries.Goals as goal

pub loop-entry-preserved : goal.loop-entry-preserved
loop-entry-preserved c = record {
  next = tt;
  ends = tt;
  listing = listing_next entry_names (map named c.loop-entry.names.items) (map named c.add_entry.new.names.items)
      (map named c.args.names.now.items ++ entries_names c.args.scope.now) c.loop-entry.entry-iterator c.next.new.self
      c.in-Some.entry c.in-Some.entry c.loop-entry.invariant.listing c.in-Some.ensures.steps refl c.in_ok-add_entry.ensures;
}
