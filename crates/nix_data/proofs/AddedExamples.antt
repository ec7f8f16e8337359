-- The values of certain texts, by computation.
use Rattle.std.proofs.Common.{◌≡◌, ℕ, pos, neg_ℤ, true, false, List, [], ◌∷◌, Some, None, refl, codes}
use Rattle.rnix_kinds.specs.declared.kinds.SyntaxKind.TheVariants as k
use Rattle.rnix_green.specs.Forest.{Forest, empty, leaf, node}
use Rattle.rnix_green.specs.Tree.{Located}
use Rattle.nix_values.specs.Contents.{Plain, null, integer, list, set, Entry}
use Rattle.nix_values.specs.Built.{Built}
use Rattle.nix_values.specs.Preorder.{descendants}
use Rattle.nix_data.specs.Scalars.{integer_of}
use Rattle.nix_data.specs.Added.{added, values_of, HasData}

-- the tree of a text with an expression
abbrev pub root : (Forest → Forest) → Located
root expression = record { tree = record { kind = k.NODE_ROOT; children = expression empty }; number = 0 }

-- an identifier, an integer, a negative integer, and an expression in parentheses
abbrev pub ident : List ℕ → Forest → Forest
ident name f = node k.NODE_IDENT (leaf k.TOKEN_IDENT name empty) f

abbrev pub number : List ℕ → Forest → Forest
number digits f = node k.NODE_LITERAL (leaf k.TOKEN_INTEGER digits empty) f

abbrev pub negative : List ℕ → Forest → Forest
negative digits f = node k.NODE_UNARY_OP (leaf k.TOKEN_SUB (codes "-") (number digits empty)) f

abbrev pub in_parens : (Forest → Forest) → Forest → Forest
in_parens inner f = node k.NODE_PAREN (leaf k.TOKEN_L_PAREN (codes "(") (inner (leaf k.TOKEN_R_PAREN (codes ")") empty))) f

-- a list, a set, and an entry of a set
abbrev pub a_list : (Forest → Forest) → Forest → Forest
a_list items f = node k.NODE_LIST (leaf k.TOKEN_L_BRACK (codes "[") (items (leaf k.TOKEN_R_BRACK (codes "]") empty))) f

abbrev pub a_set : (Forest → Forest) → Forest → Forest
a_set entries f = node k.NODE_ATTR_SET (leaf k.TOKEN_L_BRACE (codes "{") (entries (leaf k.TOKEN_R_BRACE (codes "}") empty))) f

abbrev pub entry : Forest → (Forest → Forest) → Forest → Forest
entry path value f = node k.NODE_ATTRPATH_VALUE (node k.NODE_ATTRPATH path
    (leaf k.TOKEN_ASSIGN (codes "=") (value (leaf k.TOKEN_SEMICOLON (codes ";") empty)))) f

abbrev pub one : List ℕ → Forest
one name = ident name empty

abbrev pub two : List ℕ → List ℕ → Forest
two first second = ident first (leaf k.TOKEN_DOT (codes ".") (ident second empty))

abbrev pub three : List ℕ → List ℕ → List ℕ → Forest
three first second third = ident first (leaf k.TOKEN_DOT (codes ".") (two second third))

-- a value in no other value, and one inside another
abbrev pub outer : Plain → Built
outer plain = record { parent = None; name = []; plain = plain }

abbrev pub within : ℕ → List ℕ → Plain → Built
within parent name plain = record { parent = Some parent; name = name; plain = plain }

abbrev pub at : ℕ → List ℕ → Plain → Entry
at depth name plain = record { depth = depth; name = name; plain = plain }

-- {a.b=1;a.c=2;}
merged_paths : values_of (root (a_set (λ f. entry (two (codes "a") (codes "b")) (number (codes "1")) (entry (two (codes "a") (codes "c"))
    (number (codes "2")) f))))
    ≡ Some (outer set ∷ within 0 (codes "a") set ∷ within 1 (codes "b") (integer (pos 1)) ∷ within 1 (codes "c") (integer (pos 2)) ∷ [])
unfolding added
merged_paths = refl

-- {a={b=1;};a.c=2;}: the same values
merged_set : values_of (root (a_set (λ f. entry (one (codes "a")) (a_set (entry (one (codes "b")) (number (codes "1")))) (entry (two (codes "a") (codes "c"))
    (number (codes "2")) f))))
    ≡ Some (outer set ∷ within 0 (codes "a") set ∷ within 1 (codes "b") (integer (pos 1)) ∷ within 1 (codes "c") (integer (pos 2)) ∷ [])
unfolding added
merged_set = refl

-- {a.b=1;c=2;a.d=3;}: in the data, `d` follows `b`
together : HasData (root (a_set (λ f. entry (two (codes "a") (codes "b")) (number (codes "1")) (entry (one (codes "c")) (number (codes "2"))
    (entry (two (codes "a") (codes "d")) (number (codes "3")) f)))))
    (at 0 [] set ∷ at 1 (codes "a") set ∷ at 2 (codes "b") (integer (pos 1)) ∷ at 2 (codes "d") (integer (pos 3)) ∷ at 1 (codes "c") (integer (pos 2)) ∷ [])
unfolding added descendants
together = refl

-- {a=1;a=2;} and {a=1;a.b=2;} have no data
defined_twice : values_of (root (a_set (λ f. entry (one (codes "a")) (number (codes "1")) (entry (one (codes "a")) (number (codes "2")) f)))) ≡ None
unfolding added
defined_twice = refl

no_set : values_of (root (a_set (λ f. entry (one (codes "a")) (number (codes "1")) (entry (two (codes "a") (codes "b")) (number (codes "2")) f)))) ≡ None
unfolding added
no_set = refl

-- {a.b=1;a={c=2;};}: a set after the path adds attributes, as in `merged_set`
set_after_path : values_of (root (a_set (λ f. entry (two (codes "a") (codes "b")) (number (codes "1")) (entry (one (codes "a"))
    (a_set (entry (one (codes "c")) (number (codes "2")))) f))))
    ≡ Some (outer set ∷ within 0 (codes "a") set ∷ within 1 (codes "b") (integer (pos 1)) ∷ within 1 (codes "c") (integer (pos 2)) ∷ [])
unfolding added
set_after_path = refl

-- {a.b.c=1;a={b.d=2;};} and {a.b.c=1;a={b={};};} have no data: the set `b` comes from elsewhere in the text
not_merged : values_of (root (a_set (λ f. entry (three (codes "a") (codes "b") (codes "c")) (number (codes "1")) (entry (one (codes "a"))
    (a_set (entry (two (codes "b") (codes "d")) (number (codes "2")))) f)))) ≡ None
unfolding added
not_merged = refl

not_merged_set : values_of (root (a_set (λ f. entry (three (codes "a") (codes "b") (codes "c")) (number (codes "1")) (entry (one (codes "a"))
    (a_set (entry (one (codes "b")) (a_set (λ g. g)))) f)))) ≡ None
unfolding added
not_merged_set = refl

-- {a={b.d=2;};a.b.c=1;}: a path leads into any set
path_after_set : values_of (root (a_set (λ f. entry (one (codes "a")) (a_set (entry (two (codes "b") (codes "d")) (number (codes "2"))))
    (entry (three (codes "a") (codes "b") (codes "c")) (number (codes "1")) f))))
    ≡ Some (outer set ∷ within 0 (codes "a") set ∷ within 1 (codes "b") set ∷ within 2 (codes "d") (integer (pos 2))
    ∷ within 2 (codes "c") (integer (pos 1)) ∷ [])
unfolding added
path_after_set = refl

-- {a={b.c=1;b.d=2;};}: both paths of a set lead into the set that the first one adds
inside_one_set : values_of (root (a_set (entry (one (codes "a")) (a_set (λ f. entry (two (codes "b") (codes "c")) (number (codes "1"))
    (entry (two (codes "b") (codes "d")) (number (codes "2")) f))))))
    ≡ Some (outer set ∷ within 0 (codes "a") set ∷ within 1 (codes "b") set ∷ within 2 (codes "c") (integer (pos 1))
    ∷ within 2 (codes "d") (integer (pos 2)) ∷ [])
unfolding added
inside_one_set = refl

-- a tree that no text has: two numbers at the root, where only one has a place
two_values : values_of (root (λ f. number (codes "1") (number (codes "2") f))) ≡ None
unfolding added
two_values = refl

-- the greatest integer, the least one that Nix can write, one below it, and a text that is no number
greatest : integer_of false (codes "9223372036854775807") ≡ Some (integer (pos 9223372036854775807))
greatest = refl

least : integer_of true (codes "9223372036854775807") ≡ Some (integer (neg_ℤ (pos 9223372036854775807)))
least = refl

too_small : integer_of true (codes "9223372036854775808") ≡ None
too_small = refl

no_number : integer_of false (codes "1a") ≡ None
no_number = refl

-- {''a''=1;} has no data
indented_name : values_of (root (a_set (entry (node k.NODE_STRING (leaf k.TOKEN_STRING_START (codes "''") (leaf k.TOKEN_STRING_CONTENT (codes "a")
    (leaf k.TOKEN_STRING_END (codes "''") empty))) empty) (number (codes "1"))))) ≡ None
unfolding added
indented_name = refl

-- [null(-12)]
items : values_of (root (a_list (λ f. ident (codes "null") (in_parens (negative (codes "12")) f))))
    ≡ Some (outer list ∷ within 0 [] null ∷ within 0 [] (integer (neg_ℤ (pos 12))) ∷ [])
unfolding added
items = refl

-- [x]: a name is not data
no_name : values_of (root (a_list (ident (codes "x")))) ≡ None
unfolding added
no_name = refl
