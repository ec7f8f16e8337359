-- The errors of a forest.
use Rattle.std.specs.Prelude.{List, [], ◌∷◌, ◌++◌}
use Rattle.rnix_grammar.specs.Fault.{Fault}
use Rattle.rnix_grammar.specs.AnnotatedForest.{AnnotatedForest, blank, token, branch, fault, ◌⊕◌, one_token, one_branch, one_fault, tokens_in}
use Rattle.rnix_grammar.specs.Reports.{report, repeats}

-- the errors of a forest's error nodes and of its repeated entries, in the order in which the nodes close; some trees come before the forest
abbrev pub reports_behind : AnnotatedForest → AnnotatedForest → List Fault
reports_behind b blank = []
reports_behind b (token k t f) = reports_behind (b ⊕ one_token k t) f
reports_behind b (branch k c f) = reports_behind blank c ++ (repeats k b c ++ reports_behind (b ⊕ one_branch k c) f)
reports_behind b (fault n c f) = reports_behind blank c ++ (report n (tokens_in c) ∷ reports_behind (b ⊕ one_fault n c) f)

-- the errors of a forest that no tree precedes
abbrev pub reports : AnnotatedForest → List Fault
reports f = reports_behind blank f
