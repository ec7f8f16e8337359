use Rattle.std.{proofs.Common.{◌≡◌, take}, specs.Prelude.{fold, string_bytes}}
use Rattle.{rnix_base.specs.Normal.{owned}, rnix_c.specs.AllStrings.{found, with_part}}
use Rattle.rnix_c.proofs.all_strings.add_parts.Given as goal

abbrev pub invariant-loop-part : goal.invariant-loop-part
invariant-loop-part l =
    found l.parts.items (string_bytes l.text)
    ≡ fold (with_part l.string) (found l.initial.parts.items (string_bytes l.initial.text)) (owned (take l.part-index l.added))
