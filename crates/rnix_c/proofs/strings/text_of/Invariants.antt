use Rattle.std.{proofs.Common.{◌≡◌, take}, specs.{Prelude.{string_bytes}, List.{flat_map}}}
use Rattle.{rnix_base.specs.Normal.{owned}, rnix_c.specs.StringCalls.{literal_text}}
use Rattle.rnix_c.proofs.strings.text_of.Given as goal

abbrev pub invariant-loop-part : goal.invariant-loop-part
invariant-loop-part l = string_bytes l.text ≡ flat_map literal_text (owned (take l.part-index l.parts))
