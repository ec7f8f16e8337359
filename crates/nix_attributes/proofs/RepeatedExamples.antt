-- Which names of small texts repeat an attribute, by computation.
use Rattle.{std.proofs.Common.{◌≡◌, ℕ, ◌+◌, List, [], ◌∷◌, refl, codes}, rnix_green.specs.Forest.{Forest, empty, leaf}}
use Rattle.{rnix_green.specs.{Forest.{node, join}, Range.Extent, Tree.Located}, nix_attributes.specs.Repeated.{Repetition, repeated_in}}
use Rattle.rnix_base.specs.{Escapes.values, Value.with_line_feeds}
use Rattle.rnix_kinds.specs.declared.kinds.SyntaxKind.TheVariants as k

-- the repetitions of a text that is one expression
abbrev repeated : Forest → List Repetition
repeated f = repeated_in record { tree = record { kind = k.NODE_ROOT; children = f }; number = 0 }

-- the range of one byte
abbrev byte : ℕ → Extent
byte start = record { start = start; end = start + 1 }

-- the name of one byte that begins at an offset, and the name that it repeats
abbrev again : ℕ → ℕ → Repetition
again later first = (byte later, byte first)

-- a name; a name after a dot
abbrev ident : ℕ → Forest → Forest
ident c f = node k.NODE_IDENT (leaf k.TOKEN_IDENT (c ∷ []) empty) f

abbrev dot : ℕ → Forest → Forest
dot c f = leaf k.TOKEN_DOT (codes ".") (ident c f)

abbrev a : Forest
a = ident 97 empty

abbrev a_b : Forest
a_b = ident 97 (dot 98 empty)

-- an entry with a path and a value
abbrev entry : Forest → Forest → Forest → Forest
entry path value f = node k.NODE_ATTRPATH_VALUE
    (node k.NODE_ATTRPATH path (leaf k.TOKEN_ASSIGN (codes "=") (join value (leaf k.TOKEN_SEMICOLON (codes ";") empty)))) f

abbrev number : Forest
number = node k.NODE_LITERAL (leaf k.TOKEN_INTEGER (codes "1") empty) empty

abbrev set : Forest → Forest
set entries = node k.NODE_ATTR_SET (leaf k.TOKEN_L_BRACE (codes "{") (join entries (leaf k.TOKEN_R_BRACE (codes "}") empty))) empty

abbrev in_parens : Forest → Forest
in_parens e = node k.NODE_PAREN (leaf k.TOKEN_L_PAREN (codes "(") (join e (leaf k.TOKEN_R_PAREN (codes ")") empty))) empty

-- {a=1;a=1;}
twice : repeated (set (entry a number (entry a number empty))) ≡ again 5 1 ∷ []
twice = refl

-- {a=1;a=1;a=1;}
thrice : repeated (set (entry a number (entry a number (entry a number empty)))) ≡ again 5 1 ∷ again 9 1 ∷ []
thrice = refl

-- {a.b=1;a.b=1;}
path_twice : repeated (set (entry a_b number (entry a_b number empty))) ≡ again 9 3 ∷ []
path_twice = refl

-- {a.b=1;a.c=1;}
paths : repeated (set (entry a_b number (entry (ident 97 (dot 99 empty)) number empty))) ≡ []
paths = refl

-- {a.b=1;a=1;}
path_and_whole : repeated (set (entry a_b number (entry a number empty))) ≡ again 7 1 ∷ []
path_and_whole = refl

-- {a={b=1;};a.b=1;}
set_and_path : repeated (set (entry a (set (entry (ident 98 empty) number empty)) (entry a_b number empty))) ≡ again 12 4 ∷ []
set_and_path = refl

-- {a=({b=1;});a.c=1;}
set_and_other_path : repeated (set (entry a (in_parens (set (entry (ident 98 empty) number empty))) (entry (ident 97 (dot 99 empty)) number empty))) ≡ []
set_and_other_path = refl

-- {a.b.c=1;a={b.d=1;};}
path_and_set : repeated (set (entry (ident 97 (dot 98 (dot 99 empty))) number (entry a (set (entry (ident 98 (dot 100 empty)) number empty)) empty)))
    ≡ again 12 3 ∷ []
path_and_set = refl

-- {a={b.c=1;};a.b.d=1;}
set_and_longer_path : repeated (set (entry a (set (entry (ident 98 (dot 99 empty)) number empty)) (entry (ident 97 (dot 98 (dot 100 empty))) number empty)))
    ≡ []
set_and_longer_path = refl

-- {inherit a;a=1;}
inherited : repeated (set (node k.NODE_INHERIT (leaf k.TOKEN_INHERIT (codes "inherit") (leaf k.TOKEN_WHITESPACE (codes " ")
    (ident 97 (leaf k.TOKEN_SEMICOLON (codes ";") empty)))) (entry a number empty)))
    ≡ again 11 9 ∷ []
inherited = refl

-- let a=1;a=1;in a
in_let : repeated (node k.NODE_LET_IN (leaf k.TOKEN_LET (codes "let") (leaf k.TOKEN_WHITESPACE (codes " ")
    (entry a number (entry a number (leaf k.TOKEN_IN (codes "in") (leaf k.TOKEN_WHITESPACE (codes " ") (ident 97 empty))))))) empty)
    ≡ again 8 4 ∷ []
in_let = refl

-- `${a}` as a name: {${a}=1;${a}=1;}
abbrev dynamic : Forest
dynamic = node k.NODE_DYNAMIC (leaf k.TOKEN_INTERPOL_START (codes "${") (ident 97 (leaf k.TOKEN_INTERPOL_END (codes "}") empty))) empty

evaluated : repeated (set (entry dynamic number (entry dynamic number empty))) ≡ []
evaluated = refl

-- {a=1;"a"=1;}
quoted : repeated (set (entry a number (entry (node k.NODE_STRING (leaf k.TOKEN_STRING_START (codes "\"") (leaf k.TOKEN_STRING_CONTENT (codes "a")
    (leaf k.TOKEN_STRING_END (codes "\"") empty))) empty) number empty)))
    ≡ (record { start = 5; end = 8 }, record { start = 1; end = 2 }) ∷ []
unfolding values with_line_feeds
quoted = refl
