-- The items of a run where others are wanted.
use Rattle.std.specs.Prelude.{List, [], ◌∷◌, if◌then◌else◌}
use Rattle.rnix_grammar.specs.declared.expected_set.ExpectedSet.{ExpectedSet}
use Rattle.rnix_grammar.specs.Tables.{is_wanted}
use Rattle.rnix_grammar.specs.AnnotatedForest.{Token}

-- the items of a run
abbrev pub run_of : ExpectedSet → List Token → List Token
run_of until [] = []
run_of until (t ∷ ts) = if is_wanted until t.kind then [] else t ∷ run_of until ts
