-- Where a row continues after an error node.
use Rattle.std.proofs.Common.{◌≡◌, ℕ, List, sym, ap}
use Rattle.rnix_grammar.specs.AnnotatedForest.{Token, Note, Stray, Unwanted, Extra, DoubleBind, TooDeep}
use Rattle.rnix_grammar.specs.{Rules.Row, Reads.IsWrong, BehindErrors.{after_run, after_error}}

-- after an error node the rest of the row is the one that the rule for error nodes gives
pub wrong_goes : (note : Note) (d : ℕ) (q r : Row) (ts us : List Token) → IsWrong note d q r ts us → after_error q note ≡ r
wrong_goes Stray d q r ts us w = w.3
wrong_goes (Unwanted until) d q r ts us w = ap after_run w.2
wrong_goes Extra d q r ts us w = sym w.3
wrong_goes DoubleBind d q r ts us w = absurd w
wrong_goes TooDeep d q r ts us w = w.3
