use Rattle.{std.{proofs.Common.take, specs.Fmt.{HasWritten, IsPlainFormatter}}, rnix_grammar.specs.Fault.more_kinds_text}
use Rattle.rnix_grammar.proofs.error.write_more_kinds.Given as goal

abbrev pub invariant-loop-kind : goal.invariant-loop-kind
invariant-loop-kind g l =
    IsPlainFormatter l.initial.f → HasWritten g.W.Write.write_str_gives l.initial.f (more_kinds_text (take l.kind-index l.kinds)) l.f
