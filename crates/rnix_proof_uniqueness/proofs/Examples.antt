-- How some broken texts are read.
use Rattle.{std.{proofs.Common.{[], ◌∷◌}, specs.Prelude.codes}, rnix_kinds.specs.declared.kinds.SyntaxKind.TheVariants.{NODE_IF_ELSE, NODE_PAT_BIND}}
use Rattle.{rnix_kinds.specs.declared.kinds.SyntaxKind.TheVariants.TOKEN_R_BRACK, rnix_grammar.specs.declared.expected_set.ExpectedSet.TheVariants.{RParen, Colon, Then}}
use Rattle.rnix_grammar.specs.{declared.expected_set.ExpectedSet.TheVariants.Else, Fault.{unexpected_eof, double_bind}, AnnotatedForest.DoubleBind}
use Rattle.rnix_proof_uniqueness.proofs.{OnlyReading.{done, item, node, wrong, Case}, ExampleWords.{paren, name, path, select, binary, function, function_of, entry}}
use Rattle.rnix_proof_uniqueness.proofs.ExampleWords.{no_list, unwanteds, extras, within, is_extra, instead, missing}

-- `if[]`: an `if` whose condition is a list, before the end of the text
abbrev pub condition : Case
condition =
    record { text = codes "if[]"; right = (node NODE_IF_ELSE (item (no_list done)) done, missing Then ∷ unexpected_eof ∷ missing Else ∷ unexpected_eof ∷ []) }

-- `a.b)`: a selection with an extra item after it
abbrev pub selection : Case
selection = record { text = codes "a.b)"; right = (select name path (extras 1), is_extra 3 4 ∷ []) }

-- `x: x+b)`: a function whose body is a sum, with an extra item after it
abbrev pub body : Case
body = record { text = codes "x: x+b)"; right = (function (binary name name) (extras 1), is_extra 6 7 ∷ []) }

-- `(a`: a name in parentheses, which are not closed
abbrev pub shallow : Case
shallow = record { text = codes "(a"; right = (paren (name done) done, missing RParen ∷ []) }

-- `{a,b}:a)`: a function of a pattern with two entries, with an extra item after it
abbrev pub formals : Case
formals = record { text = codes "{a,b}:a)"; right = (function_of (item (entry (item (entry (item done))))) (item (name done)) (extras 1), is_extra 7 8 ∷ []) }

-- `a @ { } @ b`: a function of a pattern with a second name
abbrev pub second_name : Case
second_name = record {
  text = codes "a @ { } @ b";
  right = (
    function_of (node NODE_PAT_BIND (name (item done)) (item (item (wrong DoubleBind (item (name done)) done)))) done done,
    double_bind (within 8 11)
        ∷ missing Colon ∷ unexpected_eof ∷ [],
  );
}

-- `[])`: a list with an extra item after it
abbrev pub closed_list : Case
closed_list = record { text = codes "[])"; right = (no_list (extras 1), is_extra 2 3 ∷ []) }

-- `(a]])`: one run of unwanted items before the parenthesis that closes
abbrev pub whole_run : Case
whole_run = record { text = codes "(a]])"; right = (paren (name (unwanteds RParen 2 (item done))) done, instead RParen TOKEN_R_BRACK 2 4 ∷ []) }

-- ` a)`: white space before a name
abbrev pub space_first : Case
space_first = record { text = codes " a)"; right = (name (extras 1), is_extra 2 3 ∷ []) }

-- `a )`: white space before an extra item
abbrev pub space_between : Case
space_between = record { text = codes "a )"; right = (name (extras 1), is_extra 2 3 ∷ []) }

-- `a) `: white space after an extra item
abbrev pub space_last : Case
space_last = record { text = codes "a) "; right = (name (extras 1), is_extra 1 2 ∷ []) }
