-- Where names are allowed, how error nodes are repaired, and how deep trees nest.
use Rattle.{std.proofs.Common.{◌≡◌, ℕ, true, false, List, [], ◌∷◌, map, refl, codes}, rnix_kinds.specs.declared.kinds.SyntaxKind.SyntaxKind}
use Rattle.rnix_kinds.specs.declared.kinds.SyntaxKind.TheVariants.{TOKEN_IDENT, TOKEN_INTEGER, TOKEN_ADD, TOKEN_SUB, TOKEN_MUL, TOKEN_COLON, TOKEN_QUESTION}
use Rattle.rnix_kinds.specs.declared.kinds.SyntaxKind.TheVariants.{TOKEN_DOT, TOKEN_OR, TOKEN_L_BRACE, TOKEN_R_BRACE, TOKEN_L_BRACK, TOKEN_R_BRACK}
use Rattle.rnix_kinds.specs.declared.kinds.SyntaxKind.TheVariants.{TOKEN_L_PAREN, TOKEN_R_PAREN, TOKEN_INTERPOL_START, TOKEN_INTERPOL_END, NODE_APPLY}
use Rattle.rnix_kinds.specs.declared.kinds.SyntaxKind.TheVariants.{NODE_ATTRPATH, NODE_BIN_OP, NODE_CUR_POS, NODE_DYNAMIC, NODE_IDENT, NODE_IDENT_PARAM}
use Rattle.rnix_kinds.specs.declared.kinds.SyntaxKind.TheVariants.{NODE_LAMBDA, NODE_LIST, NODE_LITERAL, NODE_PAREN, NODE_PATTERN, NODE_PAT_ENTRY, NODE_ROOT}
use Rattle.{rnix_kinds.specs.declared.kinds.SyntaxKind.TheVariants.{NODE_SELECT, NODE_UNARY_OP}, rnix_green.specs.Forest.{Forest, empty, leaf, node}}
use Rattle.rnix_grammar.specs.{declared.rules.Part.TheVariants.{Argument, Names, Wanted}, AnnotatedForest.{Token, AnnotatedForest, Stray, Extra, one_token}}
use Rattle.rnix_grammar.specs.{AnnotatedForest.one_fault, Rules.{done, ◌·◌, row}, Repaired.repaired, Nest.nest, AllowedNames.is_named}

-- abbreviations for trees in front of others
abbrev named : List ℕ → Forest → Forest
named text f = node NODE_IDENT (leaf TOKEN_IDENT text empty) f

abbrev one : Forest → Forest
one f = node NODE_LITERAL (leaf TOKEN_INTEGER (codes "1") empty) f

abbrev binary : SyntaxKind → (Forest → Forest) → (Forest → Forest) → Forest → Forest
binary kind a b f = node NODE_BIN_OP (a (leaf kind (codes "x") (b empty))) f

abbrev minus : (Forest → Forest) → Forest → Forest
minus a f = node NODE_UNARY_OP (leaf TOKEN_SUB (codes "-") (a empty)) f

abbrev path : List ℕ → Forest → Forest
path text f = node NODE_ATTRPATH (named text empty) f

abbrev applied : (Forest → Forest) → (Forest → Forest) → Forest → Forest
applied a b f = node NODE_APPLY (a (b empty)) f

abbrev dynamic : (Forest → Forest) → Forest → Forest
dynamic a f = node NODE_ATTRPATH (node NODE_DYNAMIC (leaf TOKEN_INTERPOL_START (codes "${") (a (leaf TOKEN_INTERPOL_END (codes "}") empty))) empty) f

abbrev selected : (Forest → Forest) → Forest → Forest
selected a f = node NODE_SELECT (named (codes "a") (leaf TOKEN_DOT (codes ".") (a empty))) f

abbrev parens : (Forest → Forest) → Forest → Forest
parens a f = node NODE_PAREN (leaf TOKEN_L_PAREN (codes "(") (a (leaf TOKEN_R_PAREN (codes ")") empty))) f

abbrev list : (Forest → Forest) → Forest → Forest
list a f = node NODE_LIST (leaf TOKEN_L_BRACK (codes "[") (a (leaf TOKEN_R_BRACK (codes "]") empty))) f

abbrev lambda : (Forest → Forest) → Forest → Forest
lambda a f = node NODE_LAMBDA (node NODE_IDENT_PARAM (named (codes "a") empty) (leaf TOKEN_COLON (codes ":") (a empty))) f

abbrev patterned : (Forest → Forest) → Forest → Forest
patterned a f = node NODE_LAMBDA (node NODE_PATTERN (a empty) (leaf TOKEN_COLON (codes ":") (named (codes "a") empty))) f

abbrev braces : (Forest → Forest) → Forest → Forest
braces a f = leaf TOKEN_L_BRACE (codes "{") (a (leaf TOKEN_R_BRACE (codes "}") f))

abbrev default_entry : Forest → Forest
default_entry f = node NODE_PAT_ENTRY (named (codes "b") (leaf TOKEN_QUESTION (codes "?") (one empty))) f

-- tokens `or` and `__curPos`, and where they may be names
abbrev or_token : Token
or_token = record { kind = TOKEN_OR; text = codes "or"; start = 0; end = 2 }

abbrev or_leaf : AnnotatedForest
or_leaf = one_token TOKEN_IDENT or_token

abbrev cur_pos_leaf : AnnotatedForest
cur_pos_leaf = one_token TOKEN_IDENT (record { kind = TOKEN_IDENT; text = codes "__curPos"; start = 0; end = 8 })

names :
    (is_named (row NODE_ROOT) NODE_IDENT or_leaf
    ∷ is_named (Argument · done) NODE_IDENT or_leaf
    ∷ is_named (row NODE_ATTRPATH) NODE_IDENT or_leaf
    ∷ is_named (row NODE_IDENT_PARAM) NODE_IDENT or_leaf
    ∷ is_named (Wanted NODE_IDENT · done) NODE_IDENT or_leaf
    ∷ is_named (row NODE_ROOT) NODE_IDENT cur_pos_leaf
    ∷ is_named (row NODE_IDENT_PARAM) NODE_IDENT cur_pos_leaf
    ∷ is_named (Names · done) NODE_IDENT cur_pos_leaf
    ∷ is_named (row NODE_ROOT) NODE_CUR_POS cur_pos_leaf
    ∷ is_named (row NODE_ROOT) NODE_CUR_POS or_leaf
    ∷ [])
    ≡ false ∷ true ∷ true ∷ false ∷ false ∷ false ∷ true ∷ true ∷ true ∷ false ∷ []
names = refl

-- the repair of an error node for a stray item, and of one for extra items
stray_repaired : repaired (one_fault Stray (one_token TOKEN_OR or_token)) ≡ node NODE_LITERAL (leaf TOKEN_INTEGER (codes "0") empty) empty
stray_repaired = refl

extra_repaired : repaired (one_fault Extra (one_token TOKEN_OR or_token)) ≡ empty
extra_repaired = refl

-- how many expressions that count are inside one another
depths : map (λ t. nest NODE_ROOT (t empty))
    (binary TOKEN_ADD one (binary TOKEN_MUL one one)  -- 1 + 1 * 1
    ∷ minus (parens (applied (parens (binary TOKEN_ADD one one)) one))  -- -((1 + 1) 1)
    ∷ lambda (list (λ f. one (parens one f)))  -- a: [1 (1)]
    ∷ selected (dynamic one)  -- a.${1}
    ∷ patterned (braces default_entry)  -- {b ? 1}: a
    ∷ [])
    ≡ 1 ∷ 4 ∷ 4 ∷ 2 ∷ 2 ∷ []
depths = refl
