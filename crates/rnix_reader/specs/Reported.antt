-- The errors that the reader's steps report, and their error nodes.
use Rattle.std.specs.Prelude.{ℕ, List, [], ◌∷◌}
use Rattle.rnix_kinds.specs.declared.kinds.SyntaxKind.TheVariants.{NODE_ERROR}
use Rattle.rnix_grammar.specs.declared.expected_set.ExpectedSet.{ExpectedSet}
use Rattle.rnix_grammar.specs.declared.expected_set.ExpectedSet.TheVariants.{End}
use Rattle.rnix_grammar.specs.Fault.{unexpected_eof_wanted, double_bind, too_deep}
use Rattle.rnix_grammar.specs.Tables.{wanted_kinds}
use Rattle.rnix_grammar.specs.AnnotatedForest.{Token, Stray, Unwanted, Extra}
use Rattle.rnix_grammar.specs.UnwantedRun.{run_of}
use Rattle.rnix_grammar.specs.Reports.{report}
use Rattle.rnix_reader.specs.State.{State, items_remaining, eaten, skipped, started, ended, failed}
use Rattle.rnix_reader.specs.FrameSteps.{leaf_node_made}

-- the items that come next, up to one that stops a run
abbrev pub next_run : ExpectedSet → State → List Token
next_run until s = run_of until (items_remaining s)

-- an error node over the items that come next, up to one that stops a run
abbrev pub error_over : ExpectedSet → State → State
error_over until s = ended (skipped (next_run until (started NODE_ERROR s)) (started NODE_ERROR s))

-- an error node over the items that come next, up to one that stops a run, and its error
abbrev pub unwanted_reported : ExpectedSet → State → State
unwanted_reported until s = failed (report (Unwanted until) (next_run until s)) (error_over until s)

-- an error node over all that is left after the root's expression, and its error
abbrev pub extra_reported : State → State
extra_reported s = failed (report Extra (next_run End s)) (error_over End s)

-- an error node over an item that begins no operand, and its error
abbrev pub stray_reported : Token → State → State
stray_reported t s = failed (report Stray (t ∷ [])) (leaf_node_made NODE_ERROR s)

-- an error node over all that is left, which is nested too deep, and its error
abbrev pub limit_reported : State → State
limit_reported s = failed too_deep (eaten (error_over End s))

-- the text ends where some kinds are wanted
abbrev pub end_reported : ExpectedSet → State → State
end_reported until s = failed (unexpected_eof_wanted (wanted_kinds until)) s

-- the second name of a pattern, which begins at a byte, is complete and is reported
abbrev pub second_reported : ℕ → State → State
second_reported start s = failed (double_bind record { start = start; end = s.prev_end }) (ended s)
