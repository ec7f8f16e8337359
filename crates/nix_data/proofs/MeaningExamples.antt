-- What certain expressions mean, by computation.
use Rattle.std.proofs.Common.{◌≡◌, ◌∙◌, ℕ, ◌^◌, pos, neg_ℤ, List, [], ◌∷◌, get_or, true, false, ap, arith, sym, refl, codes}
use Rattle.rnix_kinds.specs.declared.kinds.SyntaxKind.TheVariants as k
use Rattle.rnix_green.specs.Forest.{Forest, empty, leaf, node}
use Rattle.rnix_green.specs.Tree.{Located}
use Rattle.nix_values.specs.Contents.{Plain, null, boolean, integer, float, list, set, Entry}
use Rattle.std.specs.List.{IsDistinct}
use Rattle.nix_values.specs.Floats.{is_held}
use Rattle.nix_data.specs.Meaning.{Means, HasValue, HaveDifferentNames}
use Rattle.nix_data.proofs.UniqueLemmas.{one_meaning}

-- the expression of a text
abbrev expression : Forest → Located
expression f = record { tree = record { kind = k.NODE_ROOT; children = f }; number = 1 }

-- an identifier, a float, and the same with a sign
abbrev ident : List ℕ → Forest → Forest
ident name f = node k.NODE_IDENT (leaf k.TOKEN_IDENT name empty) f

abbrev number : List ℕ → Forest → Forest
number digits f = node k.NODE_LITERAL (leaf k.TOKEN_FLOAT digits empty) f

abbrev negative : List ℕ → Forest → Forest
negative digits f = node k.NODE_UNARY_OP (leaf k.TOKEN_SUB (codes "-") (number digits empty)) f

abbrev in_parens : Forest → Forest → Forest
in_parens inner f = node k.NODE_PAREN (leaf k.TOKEN_L_PAREN (codes "(") inner) f

abbrev entry_of : ℕ → List ℕ → Plain → Entry
entry_of depth name plain = record { depth = depth; name = name; plain = plain }

-- [null(-1.5)]
abbrev a_list : Forest
a_list = node k.NODE_LIST (leaf k.TOKEN_L_BRACK (codes "[") (ident (codes "null")
    (in_parens (negative (codes "1.5") (leaf k.TOKEN_R_PAREN (codes ")") empty)) (leaf k.TOKEN_R_BRACK (codes "]") empty)))) empty

-- {a=true;}
abbrev a_set : Forest
a_set = node k.NODE_ATTR_SET (leaf k.TOKEN_L_BRACE (codes "{") (node k.NODE_ATTRPATH_VALUE (node k.NODE_ATTRPATH (ident (codes "a") empty)
    (leaf k.TOKEN_ASSIGN (codes "=") (ident (codes "true") (leaf k.TOKEN_SEMICOLON (codes ";") empty)))) (leaf k.TOKEN_R_BRACE (codes "}") empty))) empty

list_means : is_held (codes "-1.5") ≡ true →
    Means 2 0 [] (expression a_list) (entry_of 0 [] list ∷ entry_of 1 [] null ∷ entry_of 1 [] (float (codes "-1.5")) ∷ [])
unfolding Means
list_means held = (
  entry_of 0 [] list,
  entry_of 1 [] null ∷ entry_of 1 [] (float (codes "-1.5")) ∷ [],
  (refl, refl, refl),
  (
    entry_of 1 [] null ∷ [],
    entry_of 1 [] (float (codes "-1.5")) ∷ [],
    ([], record { tree = (expression a_list).tree; number = 3 }, (refl, refl), (entry_of 1 [] null, [], (refl, refl, (refl, refl)), refl, refl, tt)),
    (
      entry_of 1 [] (float (codes "-1.5")) ∷ [],
      [],
      (
        [],
        record { tree = (expression a_list).tree; number = 5 },
        (refl, refl),
        (entry_of 1 [] (float (codes "-1.5")), [], (refl, refl, ((refl, refl), refl, held)), refl, refl, tt),
      ),
      refl,
      refl,
    ),
    refl,
  ),
  refl,
  tt,
)

set_means : Means 2 0 [] (expression a_set) (entry_of 0 [] set ∷ entry_of 1 (codes "a") (boolean true) ∷ [])
unfolding Means IsDistinct
set_means = (
  entry_of 0 [] set,
  entry_of 1 (codes "a") (boolean true) ∷ [],
  (refl, refl, (refl, refl)),
  (
    entry_of 1 (codes "a") (boolean true) ∷ [],
    [],
    (
      codes "a",
      record { tree = (expression a_set).tree; number = 8 },
      (refl, refl, refl),
      (entry_of 1 (codes "a") (boolean true), [], (refl, refl, (refl, refl)), refl, refl, tt),
    ),
    refl,
    refl,
  ),
  refl,
  (tt, tt),
)

-- the set means no other name and no other value
other_name : Means 2 0 [] (expression a_set) (entry_of 0 [] set ∷ entry_of 1 (codes "b") (boolean true) ∷ []) → ⊥
other_name h =
    let same : entry_of 0 [] set ∷ entry_of 1 (codes "b") (boolean true) ∷ [] ≡ entry_of 0 [] set ∷ entry_of 1 (codes "a") (boolean true) ∷ [] =
    one_meaning 2 0 [] (expression a_set) _ _ h set_means in
    let letter : ◌≡◌ {A = ℕ} 98 97 = ap (λ (es : List Entry). get_or (get_or es 1 (entry_of 0 [] set)).name 0 0) same in
    omega (arith, letter)

other_value : Means 2 0 [] (expression a_set) (entry_of 0 [] set ∷ entry_of 1 (codes "a") (boolean false) ∷ []) → ⊥
other_value h =
    let same : entry_of 0 [] set ∷ entry_of 1 (codes "a") (boolean false) ∷ [] ≡ entry_of 0 [] set ∷ entry_of 1 (codes "a") (boolean true) ∷ [] =
    one_meaning 2 0 [] (expression a_set) _ _ h set_means in
    let plains : boolean false ≡ boolean true = ap (λ (es : List Entry). (get_or es 1 (entry_of 0 [] set)).plain) same in
    absurd (cc)

-- an integer does not mean a float
no_float : HasValue (expression (node k.NODE_LITERAL (leaf k.TOKEN_INTEGER (codes "1") empty) empty)) (float (codes "1")) → ⊥
no_float h = absurd (cc (h.0.1))

-- a float that Nix cannot hold is not a value, nor is the least integer of 64 bits
no_infinity : (e : Located) (digits : List ℕ) → is_held digits ≡ false → HasValue e (float digits) → ⊥
no_infinity e digits not_held h =
    let clash : false ≡ true = sym not_held ∙ h.2 in
    absurd (cc)

no_least : (e : Located) → HasValue e (integer (neg_ℤ (pos (2 ^ 63)))) → ⊥
no_least e h = omega (arith, h.2)

-- the entry of that set: a single entry has a name of its own, and two equal ones do not
abbrev an_entry : Located
an_entry = record { tree = (expression a_set).tree; number = 3 }

one_name : HaveDifferentNames set (an_entry ∷ [])
unfolding IsDistinct
one_name = (tt, tt)

same_names : HaveDifferentNames set (an_entry ∷ an_entry ∷ []) → ⊥
unfolding IsDistinct
same_names h =
    let clash : true ≡ false = h.0.0 in
    absurd (cc)
