use Rattle.{std.proofs.Common.{◌≡◌, ◌-◌, ◌+◌, length, get_or, arith, ◌∙◌, sym}, rnix_green.{proofs.EntriesLemmas.{first_entry_le, held-closed}}}
use Rattle.rnix_green.proofs.entries.Entries.finish_node.Goals as goal

pub overflow_sub-end : goal.overflow_sub-end
overflow_sub-end c =
    let e = c.args.self.now in
    let first : c.start_at-first.result ≡ get_or e.starts.items c.index.result.now.first_child c.len-end.result =
    rw c.deref.ensures.value at c.start_at-first.ensures in
    let end : c.len-end.result ≡ length e.elements.items = c.len-end.ensures ∙ e.elements.ok.0 in
    omega (arith, rw end at first, end, first_entry_le c.requires.held.0 e c.requires.held.1 c.index.result.now.first_child c.requires.held.2)

pub returns-clause-ok : goal.returns-clause-ok
returns-clause-ok c text d h =
    let e = c.args.self.now in
    let o = c.index.result.now in
    let end : c.len-end.result ≡ length e.elements.items = c.len-end.ensures ∙ e.elements.ok.0 in
    let first : c.start_at-first.result ≡ get_or e.starts.items o.first_child (length e.elements.items) =
    rw (c.deref.ensures.value, end) at c.start_at-first.ensures in
    let last : c.len.result - 1 + 1 ≡ length e.pending.items = omega (arith, c.requires.some, c.len.ensures, e.pending.ok.0) in
    let same : c.len-2.result ≡ c.len.result = c.len-2.ensures ∙ sym c.len.ensures in
    held-closed text e (record { elements = c.push.new.self; pending = c.truncate.new.self; starts = c.push_reserved.new.self }) d (c.len.result - 1) o h
    (omega (arith, end, c.in_ok-room.ensures.ok)) last c.index.ensures (rw (c.new.ensures, end, first) at c.in_ok-push.ensures.items)
    (rw same at c.truncate.ensures.items) (rw (c.truncate-2.ensures.items, c.in_ok-reserve.ensures.items, first) at c.push_reserved.ensures.items)
