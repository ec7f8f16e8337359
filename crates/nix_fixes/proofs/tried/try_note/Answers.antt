use Rattle.nix_fixes.proofs.NoteLemmas.{of_note, none_of_note}
use Rattle.nix_fixes.proofs.tried.try_note.Goals as goal

pub returns-in-Some-clause-proposed : goal.returns-in-Some-clause-proposed
returns-in-Some-clause-proposed c =
    of_note c.args.text.now c.args.note.now c.in-Some.replacement c.try_replacement.result c.in-Some.is c.try_replacement.ensures.proposed

pub returns-in-Some-clause-none : goal.returns-in-Some-clause-none
returns-in-Some-clause-none c =
    none_of_note c.args.text.now c.args.errors c.args.note.now c.in-Some.replacement c.try_replacement.result c.in-Some.is c.try_replacement.ensures.none
