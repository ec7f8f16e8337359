use Rattle.std.proofs.Common.{◌≡◌, map, replicate, take}
use Rattle.{rnix_kinds.specs.SyntaxKind.{discriminant_of}, rnix_c.specs.Answers.{filled}}
use Rattle.rnix_c.proofs.errors.wanted_of.Given as goal

abbrev pub invariant-loop-number : goal.invariant-loop-number
invariant-loop-number l = l.wanted ≡ filled (take l.number (map discriminant_of l.kinds)) (replicate 16 255)
