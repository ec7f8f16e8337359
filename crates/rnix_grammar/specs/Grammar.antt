-- The strict grammar: which trees, without trivia and error nodes, are expressions. A tree is written as its kind and its children.
use Rattle.std.specs.Prelude.{◌≡◌, ◌≤◌, ℕ, Bool, true, false, List, [], ◌∷◌}
use Rattle.rnix_kinds.specs.declared.kinds.SyntaxKind.{SyntaxKind}
use Rattle.rnix_kinds.specs.declared.kinds.SyntaxKind.TheVariants.{TOKEN_ASSERT, TOKEN_ASSIGN, TOKEN_AT, TOKEN_COLON, TOKEN_COMMA, TOKEN_CUR_POS, TOKEN_DOT, TOKEN_ELLIPSIS, TOKEN_ELSE, TOKEN_IDENT, TOKEN_IF, TOKEN_IN, TOKEN_INHERIT, TOKEN_INTERPOL_END, TOKEN_INTERPOL_START, TOKEN_INVERT, TOKEN_L_BRACE, TOKEN_L_BRACK, TOKEN_L_PAREN, TOKEN_LET, TOKEN_OR, TOKEN_PATH_ABS, TOKEN_PATH_HOME, TOKEN_PATH_REL, TOKEN_PATH_SEARCH, TOKEN_QUESTION, TOKEN_R_BRACE, TOKEN_R_BRACK, TOKEN_R_PAREN, TOKEN_REC, TOKEN_SEMICOLON, TOKEN_STRING_CONTENT, TOKEN_STRING_END, TOKEN_STRING_START, TOKEN_SUB, TOKEN_THEN, TOKEN_WITH, NODE_APPLY, NODE_ASSERT, NODE_ATTR_SET, NODE_ATTRPATH, NODE_ATTRPATH_VALUE, NODE_BIN_OP, NODE_CUR_POS, NODE_DYNAMIC, NODE_HAS_ATTR, NODE_IDENT, NODE_IDENT_PARAM, NODE_IF_ELSE, NODE_INHERIT, NODE_INHERIT_FROM, NODE_INTERPOL, NODE_LAMBDA, NODE_LEGACY_LET, NODE_LET_IN, NODE_LIST, NODE_LITERAL, NODE_PAREN, NODE_PAT_BIND, NODE_PAT_ENTRY, NODE_PATTERN, NODE_PATH_ABS, NODE_PATH_HOME, NODE_PATH_REL, NODE_PATH_SEARCH, NODE_SELECT, NODE_STRING, NODE_UNARY_OP, NODE_WITH}
use Rattle.rnix_green.specs.Forest.{Forest, empty, leaf, node}
use Rattle.rnix_grammar.specs.Tables.{is_cur_pos, is_or, is_among}
use Rattle.rnix_grammar.specs.TokenKinds.{is_path_piece}
use Rattle.rnix_grammar.specs.Levels.{expression_level, inversion_level, has_attr_level, negation_level, application_level, selection_level, binding_power, left_of, right_of}
use Rattle.rnix_grammar.specs.NodeClasses.{is_infix, is_plain_literal}

-- a name, followed by other trees
abbrev pub name : List ℕ → Forest → Forest
name t f = node NODE_IDENT (leaf TOKEN_IDENT t empty) f

-- what may follow the `}` of a pattern: nothing, or `@` and a name if no name precedes the pattern
pub data PatternEnd : Bool → Forest → Type 0 where
  pattern_end : {bound : Bool} → PatternEnd bound empty
  bound_behind : {s t : List ℕ} → is_or t ≡ false → PatternEnd false (node NODE_PAT_BIND (leaf TOKEN_AT s (name t empty)) empty)

mutual
  -- an expression that is allowed at a level; all expressions are allowed at the lowest level, only simple ones at the highest
  pub data Strict : ℕ → SyntaxKind → Forest → Type 0 where
    -- what is allowed at a level is allowed at each lower one
    looser : {m n : ℕ} {k : SyntaxKind} {c : Forest} → n ≤ m → Strict m k c → Strict n k c
    -- an atom; `a.b` and `a.b or c`; an atom followed by a lone `or`
    atom : {k : SyntaxKind} {c : Forest} → Atom k c → Strict selection_level k c
    select : {k : SyntaxKind} {a p : Forest} {s : List ℕ} → Atom k a → Attrpath p
        → Strict selection_level NODE_SELECT (node k a (leaf TOKEN_DOT s (node NODE_ATTRPATH p empty)))
    select_or : {j k : SyntaxKind} {a p c : Forest} {s t : List ℕ} → Atom j a → Attrpath p → Strict selection_level k c
        → Strict selection_level NODE_SELECT (node j a (leaf TOKEN_DOT s (node NODE_ATTRPATH p (leaf TOKEN_OR t (node k c empty)))))
    apply_or : {k : SyntaxKind} {a : Forest} {t : List ℕ} → Atom k a → is_or t ≡ true → Strict selection_level NODE_APPLY (node k a (name t empty))
    -- `a b`
    apply : {j k : SyntaxKind} {a b : Forest} → Strict application_level j a → Strict selection_level k b
        → Strict application_level NODE_APPLY (node j a (node k b empty))
    -- `-a`
    negate : {k : SyntaxKind} {a : Forest} {s : List ℕ} → Strict negation_level k a → Strict negation_level NODE_UNARY_OP (leaf TOKEN_SUB s (node k a empty))
    -- `a ? b`
    has_attr : {k : SyntaxKind} {a p : Forest} {s : List ℕ} → Strict has_attr_level k a → Attrpath p
        → Strict has_attr_level NODE_HAS_ATTR (node k a (leaf TOKEN_QUESTION s (node NODE_ATTRPATH p empty)))
    -- a binary operator, by the table of levels
    binary : {o j k : SyntaxKind} {a b : Forest} {s : List ℕ} → is_infix o ≡ true → Strict (left_of o) j a → Strict (right_of o) k b
        → Strict (binding_power o) NODE_BIN_OP (node j a (leaf o s (node k b empty)))
    -- `!a`
    invert : {k : SyntaxKind} {a : Forest} {s : List ℕ} → Strict inversion_level k a
        → Strict inversion_level NODE_UNARY_OP (leaf TOKEN_INVERT s (node k a empty))
    -- functions, `let`, `with`, `assert` and `if`
    lambda : {j k : SyntaxKind} {a b : Forest} {s : List ℕ} → Parameter j a → Strict expression_level k b
        → Strict expression_level NODE_LAMBDA (node j a (leaf TOKEN_COLON s (node k b empty)))
    legacy_let : {f : Forest} {s t u : List ℕ} → Entries f (leaf TOKEN_R_BRACE u empty)
        → Strict expression_level NODE_LEGACY_LET (leaf TOKEN_LET s (leaf TOKEN_L_BRACE t f))
    let_in : {k : SyntaxKind} {f b : Forest} {s t : List ℕ} → Entries f (leaf TOKEN_IN t (node k b empty)) → Strict expression_level k b
        → Strict expression_level NODE_LET_IN (leaf TOKEN_LET s f)
    with_scope : {j k : SyntaxKind} {a b : Forest} {s t : List ℕ} → Strict expression_level j a → Strict expression_level k b
        → Strict expression_level NODE_WITH (leaf TOKEN_WITH s (node j a (leaf TOKEN_SEMICOLON t (node k b empty))))
    assertion : {j k : SyntaxKind} {a b : Forest} {s t : List ℕ} → Strict expression_level j a → Strict expression_level k b
        → Strict expression_level NODE_ASSERT (leaf TOKEN_ASSERT s (node j a (leaf TOKEN_SEMICOLON t (node k b empty))))
    if_else : {i j k : SyntaxKind} {a b c : Forest} {s t u : List ℕ} → Strict expression_level i a → Strict expression_level j b → Strict expression_level k c
        → Strict expression_level NODE_IF_ELSE (leaf TOKEN_IF s (node i a (leaf TOKEN_THEN t (node j b (leaf TOKEN_ELSE u (node k c empty))))))

  -- an expression that `.` and a lone `or` may follow
  pub data Atom : SyntaxKind → Forest → Type 0 where
    paren : {k : SyntaxKind} {c : Forest} {s t : List ℕ} → Strict expression_level k c
        → Atom NODE_PAREN (leaf TOKEN_L_PAREN s (node k c (leaf TOKEN_R_PAREN t empty)))
    set : {f : Forest} {s t : List ℕ} → Entries f (leaf TOKEN_R_BRACE t empty) → Atom NODE_ATTR_SET (leaf TOKEN_L_BRACE s f)
    rec_set : {f : Forest} {s t u : List ℕ} → Entries f (leaf TOKEN_R_BRACE u empty) → Atom NODE_ATTR_SET (leaf TOKEN_REC s (leaf TOKEN_L_BRACE t f))
    list : {f : Forest} {s : List ℕ} → Items f → Atom NODE_LIST (leaf TOKEN_L_BRACK s f)
    string : {f : Forest} {s : List ℕ} → Pieces f → Atom NODE_STRING (leaf TOKEN_STRING_START s f)
    path_abs : {f : Forest} {s : List ℕ} → PathEnd f → Atom NODE_PATH_ABS (leaf TOKEN_PATH_ABS s f)
    path_rel : {f : Forest} {s : List ℕ} → PathEnd f → Atom NODE_PATH_REL (leaf TOKEN_PATH_REL s f)
    path_home : {f : Forest} {s : List ℕ} → PathEnd f → Atom NODE_PATH_HOME (leaf TOKEN_PATH_HOME s f)
    path_search : {s : List ℕ} → Atom NODE_PATH_SEARCH (leaf TOKEN_PATH_SEARCH s empty)
    literal : {j : SyntaxKind} {s : List ℕ} → is_plain_literal j ≡ true → Atom NODE_LITERAL (leaf j s empty)
    -- a name as an expression is neither `or` nor `__curPos`
    named : {s : List ℕ} → is_or s ≡ false → is_cur_pos s ≡ false → Atom NODE_IDENT (leaf TOKEN_IDENT s empty)
    current_position : {s : List ℕ} → is_cur_pos s ≡ true → Atom NODE_CUR_POS (leaf TOKEN_CUR_POS s empty)

  -- the rest of a list: simple expressions, and `]`
  pub data Items : Forest → Type 0 where
    list_end : {s : List ℕ} → Items (leaf TOKEN_R_BRACK s empty)
    item : {k : SyntaxKind} {c f : Forest} → Strict selection_level k c → Items f → Items (node k c f)

  -- the rest of a string: contents and interpolations, and its end
  pub data Pieces : Forest → Type 0 where
    string_end : {s : List ℕ} → Pieces (leaf TOKEN_STRING_END s empty)
    content : {f : Forest} {s : List ℕ} → Pieces f → Pieces (leaf TOKEN_STRING_CONTENT s f)
    interpolated : {c f : Forest} → Interpol c → Pieces f → Pieces (node NODE_INTERPOL c f)

  -- after the first token of a path: nothing, or an interpolation and the rest
  pub data PathEnd : Forest → Type 0 where
    path_end : PathEnd empty
    path_on : {c f : Forest} → Interpol c → PathPieces f → PathEnd (node NODE_INTERPOL c f)

  -- after an interpolation of a path: interpolations and pieces of paths
  pub data PathPieces : Forest → Type 0 where
    pieces_end : PathPieces empty
    piece : {j : SyntaxKind} {f : Forest} {s : List ℕ} → is_path_piece j ≡ true → PathPieces f → PathPieces (leaf j s f)
    piece_on : {c f : Forest} → Interpol c → PathPieces f → PathPieces (node NODE_INTERPOL c f)

  -- `${`, an expression and `}`
  pub data Interpol : Forest → Type 0 where
    interpol : {k : SyntaxKind} {c : Forest} {s t : List ℕ}
        → Strict expression_level k c → Interpol (leaf TOKEN_INTERPOL_START s (node k c (leaf TOKEN_INTERPOL_END t empty)))

  -- an attribute's name: any name, a string, or one expression between `${` and `}`
  pub data Attr : SyntaxKind → Forest → Type 0 where
    named_attr : {s : List ℕ} → Attr NODE_IDENT (leaf TOKEN_IDENT s empty)
    string_attr : {f : Forest} {s : List ℕ} → Pieces f → Attr NODE_STRING (leaf TOKEN_STRING_START s f)
    dynamic_attr : {k : SyntaxKind} {c : Forest} {s t : List ℕ}
        → Strict expression_level k c → Attr NODE_DYNAMIC (leaf TOKEN_INTERPOL_START s (node k c (leaf TOKEN_INTERPOL_END t empty)))

  -- names of attributes with `.` between them
  pub data Attrpath : Forest → Type 0 where
    last_attr : {k : SyntaxKind} {c : Forest} → Attr k c → Attrpath (node k c empty)
    attr_dot : {k : SyntaxKind} {c f : Forest} {s : List ℕ} → Attr k c → Attrpath f → Attrpath (node k c (leaf TOKEN_DOT s f))

  -- the first forest is the entries of a set or a let, followed by the second
  pub data Entries : Forest → Forest → Type 0 where
    entries_end : {g : Forest} → Entries g g
    inheriting : {c f g : Forest} → Inherit c → Entries f g → Entries (node NODE_INHERIT c f) g
    binding : {c f g : Forest} → Binding c → Entries f g → Entries (node NODE_ATTRPATH_VALUE c f) g

  -- `a.b = c;`
  pub data Binding : Forest → Type 0 where
    bind : {k : SyntaxKind} {p c : Forest} {s t : List ℕ} → Attrpath p
        → Strict expression_level k c → Binding (node NODE_ATTRPATH p (leaf TOKEN_ASSIGN s (node k c (leaf TOKEN_SEMICOLON t empty))))

  -- `inherit a b;` or `inherit (c) a b;`
  pub data Inherit : Forest → Type 0 where
    inherit_names : {f : Forest} {s : List ℕ} → Names f → Inherit (leaf TOKEN_INHERIT s f)
    inherit_from : {c f : Forest} {s : List ℕ} → Source c → Names f → Inherit (leaf TOKEN_INHERIT s (node NODE_INHERIT_FROM c f))

  -- `(c)`
  pub data Source : Forest → Type 0 where
    source : {k : SyntaxKind} {c : Forest} {s t : List ℕ} → Strict expression_level k c → Source (leaf TOKEN_L_PAREN s (node k c (leaf TOKEN_R_PAREN t empty)))

  -- names of attributes, and `;`
  pub data Names : Forest → Type 0 where
    names_end : {s : List ℕ} → Names (leaf TOKEN_SEMICOLON s empty)
    inherited : {k : SyntaxKind} {c f : Forest} → Attr k c → Names f → Names (node k c f)

  -- the parameter of a function: a name, or a pattern, which a name and `@` may precede
  pub data Parameter : SyntaxKind → Forest → Type 0 where
    parameter : {t : List ℕ} → is_or t ≡ false → Parameter NODE_IDENT_PARAM (name t empty)
    pattern : {f : Forest} {s : List ℕ} → Formals false [] f → Parameter NODE_PATTERN (leaf TOKEN_L_BRACE s f)
    bound_pattern : {f : Forest} {s t u : List ℕ} → is_or t ≡ false → Formals true [] f
        → Parameter NODE_PATTERN (node NODE_PAT_BIND (name t (leaf TOKEN_AT s empty)) (leaf TOKEN_L_BRACE u f))

  -- the rest of a pattern, by whether a name precedes the pattern and by the names of its entries so far, which no further entry repeats
  pub data Formals : Bool → List (List ℕ) → Forest → Type 0 where
    formals_end : {bound : Bool} {names : List (List ℕ)} {f : Forest} {s : List ℕ} → PatternEnd bound f → Formals bound names (leaf TOKEN_R_BRACE s f)
    ellipsis : {bound : Bool} {names : List (List ℕ)} {f : Forest} {s t : List ℕ} → PatternEnd bound f
        → Formals bound names (leaf TOKEN_ELLIPSIS s (leaf TOKEN_R_BRACE t f))
    last_entry : {bound : Bool} {x : List ℕ} {names : List (List ℕ)} {c f : Forest} {s : List ℕ} → is_among x names ≡ false → Formal x c → PatternEnd bound f
        → Formals bound names (node NODE_PAT_ENTRY c (leaf TOKEN_R_BRACE s f))
    entry_comma : {bound : Bool} {x : List ℕ} {names : List (List ℕ)} {c f : Forest} {s : List ℕ} → is_among x names ≡ false → Formal x c
        → Formals bound (x ∷ names) f
        → Formals bound names (node NODE_PAT_ENTRY c (leaf TOKEN_COMMA s f))

  -- an entry of a pattern: a name, or a name, `?` and an expression
  pub data Formal : List ℕ → Forest → Type 0 where
    entry : {x : List ℕ} → is_or x ≡ false → Formal x (name x empty)
    default_entry : {k : SyntaxKind} {x : List ℕ} {c : Forest} {s : List ℕ} → is_or x ≡ false
        → Strict expression_level k c → Formal x (name x (leaf TOKEN_QUESTION s (node k c empty)))

-- one tree, which is an expression
pub data IsExpression : Forest → Type 0 where
  expression : {k : SyntaxKind} {c : Forest} → Strict expression_level k c → IsExpression (node k c empty)
