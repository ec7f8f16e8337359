-- Errors that follow from earlier ones and errors that do not, on small trees; by computation.
use Rattle.std.proofs.Common.{◌≡◌, ◌++◌, List, [], ◌∷◌, refl}
use Rattle.rnix_kinds.specs.declared.kinds.SyntaxKind.{SyntaxKind}
use Rattle.rnix_kinds.specs.declared.kinds.SyntaxKind.TheVariants as k
use Rattle.rnix_green.specs.{Forest.{Forest, empty, leaf, node}, Tree.Located}
use Rattle.rnix_grammar.specs.Fault.{Fault, unexpected_at, unexpected_eof, duplicated_args, extra}
use Rattle.nix_diagnostics.specs.Following.{firsts}

-- a comment before a forest, with three words and two line feeds
abbrev far : Forest → Forest
far rest = leaf k.TOKEN_COMMENT (10 ∷ 97 ∷ 32 ∷ 97 ∷ 32 ∷ 97 ∷ 10 ∷ []) rest

-- an error node with a token of the kind, before a forest
abbrev wrong : SyntaxKind → Forest → Forest
wrong kind rest = node k.NODE_ERROR (leaf kind (44 ∷ []) empty) rest

-- a text of one forest
abbrev text : Forest → Located
text trees = record { tree = record { kind = k.NODE_ROOT; children = trees }; number = 0 }

-- a node of the kind in brackets, with an error node at 1 and one at 9, far from each other; the first has a token of the second kind
abbrev inside : SyntaxKind → SyntaxKind → SyntaxKind → Located
inside around first last =
    text (node around (leaf k.TOKEN_L_PAREN (40 ∷ []) (wrong first (far (wrong k.TOKEN_COMMA (leaf last (41 ∷ []) empty))))) empty)

-- the errors of these nodes
abbrev errors : List Fault
errors = unexpected_at record { start = 1; end = 2 } ∷ unexpected_at record { start = 9; end = 10 } ∷ []

-- in a list, the second error follows
in_list : firsts (inside k.NODE_LIST k.TOKEN_COMMA k.TOKEN_R_PAREN) errors ≡ 0 ∷ []
in_list = refl

-- in parentheses, it does not
in_parentheses : firsts (inside k.NODE_PAREN k.TOKEN_COMMA k.TOKEN_R_PAREN) errors ≡ 0 ∷ 1 ∷ []
in_parentheses = refl

-- it does if the first error node leaves a bracket open
leaves_open : firsts (inside k.NODE_PAREN k.TOKEN_L_BRACE k.TOKEN_R_PAREN) errors ≡ 0 ∷ []
leaves_open = refl

-- or closes the parenthesis around it
closed_outer : firsts (inside k.NODE_PAREN k.TOKEN_R_PAREN k.TOKEN_R_PAREN) errors ≡ 0 ∷ []
closed_outer = refl

-- but not if it holds the one token that closes nothing
closed_nothing : firsts (inside k.NODE_PAREN k.TOKEN_R_BRACE k.TOKEN_R_PAREN) errors ≡ 0 ∷ 1 ∷ []
closed_nothing = refl

-- in a text that ends too early, errors after what continues to its end follow
too_early : firsts (inside k.NODE_PAREN k.TOKEN_COMMA k.TOKEN_COMMA) (errors ++ unexpected_eof ∷ []) ≡ 0 ∷ []
too_early = refl

-- in a text that ends inside a string, all errors follow from the first, repeated names too
inside_string : firsts (inside k.NODE_PAREN k.TOKEN_COMMA k.TOKEN_STRING_CONTENT) (errors ++ duplicated_args record { start = 3; end = 4 } [] ∷ []) ≡ 0 ∷ []
inside_string = refl

-- elsewhere a repeated name follows from nothing, and tokens after the expression follow from an error about a token
other_errors : firsts (inside k.NODE_LIST k.TOKEN_COMMA k.TOKEN_R_PAREN)
    (extra record { start = 0; end = 1 } ∷ errors ++ (duplicated_args record { start = 3; end = 4 } [] ∷ extra record { start = 10; end = 11 } ∷ []))
    ≡ 0 ∷ 1 ∷ 3 ∷ []
other_errors = refl

-- two entries of a set, each with an error node: at 1 and at 10. The first leaves a bracket open
abbrev entries : Located
entries =
    text (node k.NODE_ATTR_SET (leaf k.TOKEN_L_BRACE (123 ∷ []) (node k.NODE_ATTRPATH_VALUE (wrong k.TOKEN_L_PAREN (leaf k.TOKEN_SEMICOLON (59 ∷ []) empty))
    (far (node k.NODE_ATTRPATH_VALUE (wrong k.TOKEN_COMMA (leaf k.TOKEN_SEMICOLON (59 ∷ []) empty)) (leaf k.TOKEN_R_BRACE (125 ∷ []) empty))))) empty)

-- the first entry ends between them: the parser resynchronizes
back_at_entry : firsts entries (unexpected_at record { start = 1; end = 2 } ∷ unexpected_at record { start = 10; end = 11 } ∷ []) ≡ 0 ∷ 1 ∷ []
back_at_entry = refl
