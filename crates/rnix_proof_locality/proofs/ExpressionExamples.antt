-- The expressions of some trees, by their texts without white space.
use Rattle.{std.{proofs.Common.{◌≡◌, ℕ, List, [], ◌∷◌, map, refl, codes}, specs.Prelude.flat_map}, rnix_kinds.specs.declared.kinds.SyntaxKind.SyntaxKind}
use Rattle.rnix_kinds.specs.declared.kinds.SyntaxKind.TheVariants.{TOKEN_ADD, TOKEN_ASSIGN, TOKEN_DOT, TOKEN_IDENT, TOKEN_INTERPOL_END, TOKEN_INTERPOL_START}
use Rattle.rnix_kinds.specs.declared.kinds.SyntaxKind.TheVariants.{TOKEN_L_BRACE, TOKEN_L_PAREN, TOKEN_R_BRACE, TOKEN_R_PAREN, TOKEN_SEMICOLON, NODE_APPLY}
use Rattle.rnix_kinds.specs.declared.kinds.SyntaxKind.TheVariants.{NODE_ATTR_SET, NODE_ATTRPATH, NODE_ATTRPATH_VALUE, NODE_BIN_OP, NODE_DYNAMIC, NODE_IDENT}
use Rattle.{rnix_kinds.specs.declared.kinds.SyntaxKind.TheVariants.NODE_PAREN, rnix_grammar.specs.AnnotatedForest.{Token, AnnotatedForest, blank, token}}
use Rattle.{rnix_grammar.specs.AnnotatedForest.{branch, one_branch}, rnix_proof_locality.specs.Expressions.{Expression, own_items, expressions}}

-- the texts of the expressions of a tree
abbrev texts : AnnotatedForest → List (List ℕ)
texts f = map (λ (e : Expression). flat_map (λ (t : Token). t.text) (own_items e)) (expressions f)

-- a token in front of a forest, with an empty range, since ranges do not matter here
abbrev word : SyntaxKind → List ℕ → AnnotatedForest → AnnotatedForest
word kind text f = token kind (record { kind = kind; text = text; start = 0; end = 0 }) f

abbrev name : List ℕ → AnnotatedForest → AnnotatedForest
name text f = branch NODE_IDENT (word TOKEN_IDENT text blank) f

-- `a + b`
abbrev sum : AnnotatedForest → AnnotatedForest
sum f = branch NODE_BIN_OP (name (codes "a") (word TOKEN_ADD (codes "+") (name (codes "b") blank))) f

-- `f (a + b) c`: the calls, the parenthesis, the sum and the names
call : texts (one_branch NODE_APPLY (branch NODE_APPLY
    (name (codes "f") (one_branch NODE_PAREN (word TOKEN_L_PAREN (codes "(") (sum (word TOKEN_R_PAREN (codes ")") blank))))) (name (codes "c") blank)))
    ≡ codes "f(a+b)c" ∷ codes "f(a+b)" ∷ codes "f" ∷ codes "(a+b)" ∷ codes "a+b" ∷ codes "a" ∷ codes "b" ∷ codes "c" ∷ []
call = refl

-- `f or`: not the argument
call_or : texts (one_branch NODE_APPLY (name (codes "f") (name (codes "or") blank))) ≡ codes "for" ∷ codes "f" ∷ []
call_or = refl

-- a set with one binding
abbrev set_of : AnnotatedForest → AnnotatedForest → AnnotatedForest
set_of path value = one_branch NODE_ATTR_SET (word TOKEN_L_BRACE (codes "{") (branch NODE_ATTRPATH_VALUE
    (branch NODE_ATTRPATH path (word TOKEN_ASSIGN (codes "=") value)) (word TOKEN_R_BRACE (codes "}") blank)))

abbrev value : List ℕ → AnnotatedForest
value text = name text (word TOKEN_SEMICOLON (codes ";") blank)

-- `{ a = b; }`: the set, the attribute's name and the value
set : texts (set_of (name (codes "a") blank) (value (codes "b"))) ≡ codes "{a=b;}" ∷ codes "a" ∷ codes "b" ∷ []
set = refl

-- `{ or.__curPos = b; }`: neither name
set_or : texts (set_of (name (codes "or") (word TOKEN_DOT (codes ".") (name (codes "__curPos") blank))) (value (codes "b")))
    ≡ codes "{or.__curPos=b;}" ∷ codes "b" ∷ []
set_or = refl

-- `{ ${a + b} = c; }`: the sum, but not `${a + b}`
set_dynamic : texts (set_of (one_branch NODE_DYNAMIC (word TOKEN_INTERPOL_START (codes "${") (sum (word TOKEN_INTERPOL_END (codes "}") blank))))
    (value (codes "c")))
    ≡ codes "{${a+b}=c;}" ∷ codes "a+b" ∷ codes "a" ∷ codes "b" ∷ codes "c" ∷ []
set_dynamic = refl
