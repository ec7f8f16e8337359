use Rattle.{std.proofs.Common.arith, rnix_green.proofs.EntriesLemmas.held-added}
use Rattle.rnix_green.proofs.builder.GreenNodeBuilder.token.Goals as goal

pub invariant_of-self-2 : goal.invariant_of-self-2
invariant_of-self-2 c =
    (held-added _ _ _ c.self.inside.entries c.reserve.new.self c.push_token.new.self _ c.self.invariant c.in_ok-reserve.ensures.same
    c.push_token.ensures c.utf8.text (omega (arith, c.len.ensures, c.in_ok-room.ensures.ok)) c.in_ok-push_str.ensures.bytes).0

pub returns-clause-ok : goal.returns-clause-ok
returns-clause-ok c = rw (← c.self.view_is)
    (held-added _ _ _ c.self.inside.entries c.reserve.new.self c.push_token.new.self _ c.self.invariant c.in_ok-reserve.ensures.same
    c.push_token.ensures c.utf8.text (omega (arith, c.len.ensures, c.in_ok-room.ensures.ok)) c.in_ok-push_str.ensures.bytes).1
