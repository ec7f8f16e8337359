-- What the names of small texts refer to, by computation.
use Rattle.{std.proofs.Common.{◌≡◌, ℕ, List, [], ◌∷◌, map, Bool, true, false, Option, Some, None, refl, codes}, rnix_green.specs.Forest.{Forest, empty, leaf}}
use Rattle.{rnix_green.specs.{Forest.{node, join}, Tree.Located}, nix_scopes.specs.{Globals.is_global, Resolved.resolved_in}}
use Rattle.rnix_base.specs.{Escapes.values, Value.with_line_feeds}
use Rattle.rnix_kinds.specs.declared.kinds.SyntaxKind.TheVariants as k

-- a root with these children
abbrev text : Forest → Located
text f = record { tree = record { kind = k.NODE_ROOT; children = f }; number = 0 }

-- the bindings to which the names of a text refer, and which of the names are open
abbrev referred : Forest → List (Option ℕ)
referred f = map (λ name. name.binding) (resolved_in (text f))

abbrev open_names : Forest → List Bool
open_names f = map (λ name. name.is_open) (resolved_in (text f))

-- a name; an entry with a value; entries that are inherited
abbrev ident : ℕ → Forest → Forest
ident c f = node k.NODE_IDENT (leaf k.TOKEN_IDENT (c ∷ []) empty) f

abbrev entry : ℕ → Forest → Forest → Forest
entry c value f = node k.NODE_ATTRPATH_VALUE
    (node k.NODE_ATTRPATH (ident c empty) (leaf k.TOKEN_ASSIGN (codes "=") (join value (leaf k.TOKEN_SEMICOLON (codes ";") empty)))) f

abbrev number : Forest
number = node k.NODE_LITERAL (leaf k.TOKEN_INTEGER (codes "1") empty) empty

abbrev let_in : Forest → Forest → Forest
let_in entries body = node k.NODE_LET_IN (leaf k.TOKEN_LET (codes "let") (join entries (leaf k.TOKEN_IN (codes "in") body))) empty

-- let x = 1; in let x = 1; in x
inner_let : referred (let_in (entry 120 number empty) (let_in (entry 120 number empty) (ident 120 empty))) ≡ Some 1 ∷ []
inner_let = refl

-- rec { a = b; b = 1; }
later_entry : referred (node k.NODE_ATTR_SET (leaf k.TOKEN_REC (codes "rec") (leaf k.TOKEN_L_BRACE (codes "{")
    (entry 97 (ident 98 empty) (entry 98 number (leaf k.TOKEN_R_BRACE (codes "}") empty))))) empty)
    ≡ Some 1 ∷ []
later_entry = refl

-- x: let inherit x; in x
inherited : referred (node k.NODE_LAMBDA (node k.NODE_IDENT_PARAM (ident 120 empty) (leaf k.TOKEN_COLON (codes ":")
    (let_in (node k.NODE_INHERIT (leaf k.TOKEN_INHERIT (codes "inherit")
    (leaf k.TOKEN_WHITESPACE (codes " ") (ident 120 (leaf k.TOKEN_SEMICOLON (codes ";") empty)))) empty) (ident 120 empty)))) empty)
    ≡ Some 0 ∷ Some 1 ∷ []
inherited = refl

-- { a ? b, b } @ c: c
pattern : referred (node k.NODE_LAMBDA (node k.NODE_PATTERN (leaf k.TOKEN_L_BRACE (codes "{")
    (node k.NODE_PAT_ENTRY (ident 97 (leaf k.TOKEN_QUESTION (codes "?") (ident 98 empty))) (leaf k.TOKEN_COMMA (codes ",")
    (node k.NODE_PAT_ENTRY (ident 98 empty) (leaf k.TOKEN_R_BRACE (codes "}") (node k.NODE_PAT_BIND (leaf k.TOKEN_AT (codes "@") (ident 99 empty)) empty))))))
    (leaf k.TOKEN_COLON (codes ":") (ident 99 empty))) empty)
    ≡ Some 2 ∷ Some 0 ∷ []
pattern = refl

-- a `with`, before its body
abbrev with_in : Forest → Forest → Forest
with_in namespace body = node k.NODE_WITH (leaf k.TOKEN_WITH (codes "with") (join namespace (leaf k.TOKEN_SEMICOLON (codes ";") body))) empty

-- let x = 1; in with a; [ x b ]
abbrev below_with : Forest
below_with = let_in (entry 120 number empty) (with_in (ident 97 empty) (node k.NODE_LIST (ident 120 (ident 98 empty)) empty))

-- the binding takes precedence over the `with`, and only b is open
bound_first : referred below_with ≡ None ∷ Some 0 ∷ None ∷ []
bound_first = refl

open_last : open_names below_with ≡ false ∷ false ∷ true ∷ []
unfolding is_global
open_last = refl

-- Nix itself binds `map`, and nothing binds `mat`
bound_by_nix : (is_global (codes "map") ≡ true) × (is_global (codes "mat") ≡ false)
unfolding is_global
bound_by_nix = (refl, refl)

-- an entry whose name is a string in `"`
abbrev quoted_entry : List ℕ → Forest → Forest → Forest
quoted_entry text value f = node k.NODE_ATTRPATH_VALUE
    (node k.NODE_ATTRPATH (node k.NODE_STRING (leaf k.TOKEN_STRING_START (codes "\"") (leaf k.TOKEN_STRING_CONTENT text
    (leaf k.TOKEN_STRING_END (codes "\"") empty))) empty) (leaf k.TOKEN_ASSIGN (codes "=") (join value (leaf k.TOKEN_SEMICOLON (codes ";") empty)))) f

-- a: let "\a" = 1; in a
escaped_name : referred (node k.NODE_LAMBDA (node k.NODE_IDENT_PARAM (ident 97 empty) (leaf k.TOKEN_COLON (codes ":")
    (let_in (quoted_entry (codes "\\a") number empty) (ident 97 empty)))) empty)
    ≡ Some 1 ∷ []
unfolding values with_line_feeds
escaped_name = refl
