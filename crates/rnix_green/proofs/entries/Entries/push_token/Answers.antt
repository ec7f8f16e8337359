use Rattle.{std.proofs.Common.{◌∙◌, refl}, rnix_green.{proofs.EntriesLemmas.held-token}}
use Rattle.rnix_green.proofs.entries.Entries.push_token.Goals as goal

pub returns : goal.returns
returns c =
    let e = c.args.self.now in
    held-token c.args.kind e (record { elements = c.push_reserved.new.self; pending = e.pending; starts = c.push_reserved-2.new.self }) c.requires.0 refl
    (rw (c.len-start.ensures ∙ e.elements.ok.0) at c.push_reserved-2.ensures.items) c.args.len (rw c.new.ensures at c.push_reserved.ensures.items)
