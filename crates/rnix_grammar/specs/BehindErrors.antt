-- What is left of a row after an error node.
use Rattle.std.specs.Prelude.{List, Option, Some, None}
use Rattle.rnix_kinds.specs.declared.kinds.SyntaxKind.{SyntaxKind}
use Rattle.rnix_kinds.specs.declared.kinds.SyntaxKind.TheVariants.{NODE_LITERAL}
use Rattle.rnix_grammar.specs.AnnotatedForest.{Note, Stray, Unwanted, Extra, DoubleBind, TooDeep}
use Rattle.rnix_grammar.specs.Rules.{Row, never, done, after, run_at}

-- what is left of a row after a run of unwanted tokens, if one is allowed
abbrev pub after_run : Option (List SyntaxKind × Row) → Row
after_run None = never
after_run (Some w) = w.1

-- what is left of a row after an error node
abbrev pub after_error : Row → Note → Row
after_error q Stray = after q NODE_LITERAL
after_error q (Unwanted until) = after_run (run_at q)
after_error q Extra = q
after_error q DoubleBind = done
after_error q TooDeep = after q NODE_LITERAL
