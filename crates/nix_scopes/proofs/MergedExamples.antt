-- What names refer to where entries add to sets, by computation.
use Rattle.{std.proofs.Common.{◌≡◌, ℕ, List, [], ◌∷◌, map, Option, Some, refl, codes}, rnix_green.specs.Forest.{Forest, empty, leaf}}
use Rattle.{rnix_green.specs.{Forest.{node, join}, Tree.Located}, nix_scopes.specs.Resolved.{bindings_in, resolved_in}}
use Rattle.rnix_kinds.specs.declared.kinds.SyntaxKind.TheVariants as k

-- a root with these children
abbrev text : Forest → Located
text f = record { tree = record { kind = k.NODE_ROOT; children = f }; number = 0 }

-- the names that are bound, and the bindings to which the names of a text refer
abbrev bound : Forest → List (List ℕ)
bound f = map (λ b. b.text) (bindings_in (text f))

abbrev referred : Forest → List (Option ℕ)
referred f = map (λ name. name.binding) (resolved_in (text f))

-- a name; a name after a dot; an entry with a path and a value
abbrev ident : ℕ → Forest → Forest
ident c f = node k.NODE_IDENT (leaf k.TOKEN_IDENT (c ∷ []) empty) f

abbrev dot : ℕ → Forest → Forest
dot c f = leaf k.TOKEN_DOT (codes ".") (ident c f)

abbrev entry : Forest → Forest → Forest → Forest
entry path value f = node k.NODE_ATTRPATH_VALUE
    (node k.NODE_ATTRPATH path (leaf k.TOKEN_ASSIGN (codes "=") (join value (leaf k.TOKEN_SEMICOLON (codes ";") empty)))) f

abbrev number : Forest
number = node k.NODE_LITERAL (leaf k.TOKEN_INTEGER (codes "1") empty) empty

-- a set, and one with `rec`
abbrev set : Forest → Forest
set entries = node k.NODE_ATTR_SET (leaf k.TOKEN_L_BRACE (codes "{") (join entries (leaf k.TOKEN_R_BRACE (codes "}") empty))) empty

abbrev rec_set : Forest → Forest
rec_set entries = node k.NODE_ATTR_SET (leaf k.TOKEN_REC (codes "rec") (leaf k.TOKEN_L_BRACE (codes "{")
    (join entries (leaf k.TOKEN_R_BRACE (codes "}") empty)))) empty

abbrev let_in : Forest → Forest → Forest
let_in entries body = node k.NODE_LET_IN (leaf k.TOKEN_LET (codes "let") (join entries (leaf k.TOKEN_IN (codes "in") body))) empty

-- let b=1;in{m=rec{b=1;};m.c=b;}: the name is that of the `rec`, which binds c too
path_into_rec : referred (let_in (entry (ident 98 empty) number empty)
    (set (entry (ident 109 empty) (rec_set (entry (ident 98 empty) number empty)) (entry (ident 109 (dot 99 empty)) (ident 98 empty) empty))))
    ≡ Some 1 ∷ []
path_into_rec = refl

path_binds : bound (set (entry (ident 109 empty) (rec_set (entry (ident 98 empty) number empty)) (entry (ident 109 (dot 99 empty)) number empty)))
    ≡ codes "b" ∷ codes "c" ∷ []
path_binds = refl

-- let y=1;in{m.x=1;m=rec{y=1;z=y;};}: the set of the path comes first, so that the `rec` counts for nothing
rec_into_path : referred (let_in (entry (ident 121 empty) number empty)
    (set (entry (ident 109 (dot 120 empty)) number (entry (ident 109 empty)
    (rec_set (entry (ident 121 empty) number (entry (ident 122 empty) (ident 121 empty) empty))) empty))))
    ≡ Some 0 ∷ []
rec_into_path = refl

-- let b=1;in{m=rec{b=1;};m={c=b;};}: a second set is inside the first
set_into_rec : referred (let_in (entry (ident 98 empty) number empty)
    (set (entry (ident 109 empty) (rec_set (entry (ident 98 empty) number empty))
    (entry (ident 109 empty) (set (entry (ident 99 empty) (ident 98 empty) empty)) empty))))
    ≡ Some 1 ∷ []
set_into_rec = refl

-- let b=1;in{m=rec{b=1;};m={inherit b;};}: an inherited name is that from outside the first set
inherited_into_rec : referred (let_in (entry (ident 98 empty) number empty)
    (set (entry (ident 109 empty) (rec_set (entry (ident 98 empty) number empty)) (entry (ident 109 empty) (set (node k.NODE_INHERIT
    (leaf k.TOKEN_INHERIT (codes "inherit") (leaf k.TOKEN_WHITESPACE (codes " ") (ident 98 (leaf k.TOKEN_SEMICOLON (codes ";") empty)))) empty)) empty))))
    ≡ Some 0 ∷ []
inherited_into_rec = refl
