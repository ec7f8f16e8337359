-- Where an incomplete node is: no item follows it.
use Rattle.std.specs.Prelude.{◌≡◌, false, List, [], ◌++◌}
use Rattle.rnix_grammar.specs.AnnotatedForest.{Token, AnnotatedForest, blank, token, branch, fault, tokens_in}
use Rattle.rnix_grammar.specs.CompleteRows.{is_row}
use Rattle.rnix_grammar.specs.Repaired.{repaired, kinds_of}

-- no item follows a node of the forest that is incomplete once its errors are repaired; the forest precedes some items
abbrev pub AreIncompleteLast : AnnotatedForest → List Token → Type 0
AreIncompleteLast blank rest = Unit {0}
AreIncompleteLast (token k t f) rest = AreIncompleteLast f rest
AreIncompleteLast (branch k c f) rest =
    (is_row k (kinds_of (repaired c)) ≡ false → tokens_in f ++ rest ≡ []) × AreIncompleteLast c (tokens_in f ++ rest) × AreIncompleteLast f rest
AreIncompleteLast (fault n c f) rest = AreIncompleteLast f rest
