use Rattle.rnix_parser.proofs.SignificantTrees.{tree_found, tree_nested, tree_strict, tree_exactly}
use Rattle.rnix_parser.proofs.derivation.tree_derivation.Goals as goal

pub returns-clause-found : goal.returns-clause-found
returns-clause-found c = λ tree faults p. tree_found p

pub returns-clause-nested : goal.returns-clause-nested
returns-clause-nested c = λ tree faults p. tree_nested p

pub returns-clause-strict : goal.returns-clause-strict
returns-clause-strict c = λ tree faults p. tree_strict p

pub returns-clause-exactly : goal.returns-clause-exactly
returns-clause-exactly c = λ tree faults p. tree_exactly p
