-- The binding and the reference of `let x=1;in x` (without spaces) when x is renamed to yy; by computation.
use Rattle.{std.proofs.Common.{◌≡◌, List, ℕ, [], ◌∷◌, length, Option, Some, None, false, refl, ap, arith, codes}, rnix_green.specs.Forest.{Forest, empty, leaf}}
use Rattle.{rnix_green.specs.{Forest.node, Tree.Tree}, nix_scopes.specs.{declared.resolution.{Binding.Binding, Reference.Reference}, Alike.{Rename, ended_by}}}
use Rattle.std.specs.declared.borrow.CowStr.TheVariants.{Borrowed}
use Rattle.nix_scopes.specs.{Alike.{IsBoundAlike, RefersAlike}, Occurrences.{written_number, referred_number}}
use Rattle.rnix_kinds.specs.declared.kinds.SyntaxKind.TheVariants as k

-- a name
abbrev name : List ℕ → Forest
name text = node k.NODE_IDENT (leaf k.TOKEN_IDENT text empty) empty

-- a `let` that binds one name, with a name as its body
abbrev let_in : List ℕ → List ℕ → Tree
let_in bound used =
    record {
      kind = k.NODE_ROOT;
      children = node k.NODE_LET_IN (leaf k.TOKEN_LET (codes "let")
          (node k.NODE_ATTRPATH_VALUE (node k.NODE_ATTRPATH (name bound) (leaf k.TOKEN_ASSIGN (codes "=")
          (node k.NODE_LITERAL (leaf k.TOKEN_INTEGER (codes "1") empty) (leaf k.TOKEN_SEMICOLON (codes ";") empty))))
          (leaf k.TOKEN_IN (codes "in") (name used)))) empty;
    }

-- the binding of the `let`, and the reference in its body
abbrev binding : List ℕ → List ℕ → Binding
binding bound used =
    record {
      text = Borrowed record { ref_ptr = (0, 0); now = bound };
      node = record { tree = let_in bound used; number = 5 };
      scope = record { tree = let_in bound used; number = 1 };
      first = 0;
    }

abbrev reference : List ℕ → List ℕ → Option ℕ → Reference
reference bound used target =
    record {
      text = Borrowed record { ref_ptr = (0, 0); now = used };
      node = record { tree = let_in bound used; number = 12 };
      is_inherited = false;
      binding = target;
      is_open = false;
    }

-- the new name of x, whose occurrences end at 4 and at 10
abbrev rename : Rename
rename = record { number = 0; name = codes "yy"; old = 1; ended = ended_by (4 ∷ 10 ∷ []) }

-- with the new name, the binding and the reference are the same ones
bound : IsBoundAlike rename (binding (codes "x") (codes "x")) (binding (codes "yy") (codes "yy"))
bound = record { text = refl; first = refl; node = (refl, refl); scope = (refl, refl) }

refers : RefersAlike rename (reference (codes "x") (codes "x") (Some 0)) (reference (codes "yy") (codes "yy") (Some 0))
refers = record { text = refl; binding = refl; is_inherited = refl; is_open = refl; node = (refl, refl) }

-- if only the binding gets the new name, the reference is another one, whatever it refers to
left_out : (target : Option ℕ) → ¬ RefersAlike rename (reference (codes "x") (codes "x") (Some 0)) (reference (codes "yy") (codes "x") target)
left_out target same = absurd (omega (arith, ap length same.text))

-- the binding is found where it is written and where it is referred to, and nowhere else
where_written : written_number (record { start = 3; end = 4 }) (binding (codes "x") (codes "x") ∷ []) ≡ Some 0
where_written = refl

where_referred : referred_number (record { start = 9; end = 10 }) (reference (codes "x") (codes "x") (Some 0) ∷ []) ≡ Some 0
where_referred = refl

elsewhere : written_number (record { start = 9; end = 10 }) (binding (codes "x") (codes "x") ∷ []) ≡ None
elsewhere = refl
