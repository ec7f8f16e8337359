-- Token errors: all errors except those about repeated arguments and about tokens after the expression.
use Rattle.std.specs.Prelude.{Bool, true, false}
use Rattle.rnix_grammar.specs.Fault.{Fault, extra, duplicated_args}

-- the error is a token error: it is neither a repeated argument nor about tokens after the expression
abbrev pub is_token_error : Fault → Bool
is_token_error (extra range) = false
is_token_error (duplicated_args range name) = false
is_token_error fault = true

-- the error is about a name that a pattern repeats
abbrev pub is_repeated_name : Fault → Bool
is_repeated_name (duplicated_args range name) = true
is_repeated_name fault = false
