-- The leaves of an expression of the strict grammar are tokens, and none of its trees is an accepted extension.
use Rattle.std.proofs.{Common.{◌≡◌, ℕ, ◌≤◌, Bool, true, false, List, refl, ap, ◌∙◌, arith, ◌&&◌, if◌then◌else◌, nat_le}, lemmas.Bool.and_from}
use Rattle.{std.proofs.lemmas.Bool.Decides.nat_tests, rnix_kinds.specs.declared.kinds.SyntaxKind.{SyntaxKind, TheVariants.{NODE_DYNAMIC, NODE_LAMBDA}}}
use Rattle.rnix_kinds.specs.declared.kinds.SyntaxKind.TheVariants.{NODE_LIST, NODE_PATTERN, NODE_ROOT, NODE_STRING, NODE_ATTRPATH, NODE_PAT_ENTRY}
use Rattle.rnix_kinds.specs.{declared.kinds.SyntaxKind.TheVariants.{NODE_ATTRPATH_VALUE, NODE_INHERIT, NODE_INTERPOL}, SyntaxKind.is_token}
use Rattle.{rnix_kinds.proofs.AllKinds.implied, rnix_green.specs.Forest.{Forest, empty, leaf, node}, rnix_grammar.specs.Extensions.has_no_extension}
use Rattle.rnix_grammar.specs.{Extensions.{holds_no_lambda, is_extension}, Derivation.has_tokens_alone, Levels.{expression_level, left_of, right_of}}
use Rattle.rnix_grammar.specs.{NodeClasses.{is_infix, is_plain_literal}, TokenKinds.is_path_piece}
use Rattle.rnix_grammar.specs.Grammar as G

-- a forest below a node whose leaves are tokens, and none of whose trees is an accepted extension
pub record IsFine (parent : SyntaxKind) (f : Forest) : Type 0 where
  pub tokens : has_tokens_alone f ≡ true
  pub extension : has_no_extension parent f ≡ true

fine_end : {parent : SyntaxKind} → IsFine parent empty
fine_end = record { tokens = refl; extension = refl }

token_first : {parent k : SyntaxKind} {t : List ℕ} {f : Forest} → is_token k ≡ true → IsFine parent f → IsFine parent (leaf k t f)
token_first {f = f} i h = record { tokens = ap (λ w. w && has_tokens_alone f) i ∙ h.tokens; extension = h.extension }

node_first : {parent k : SyntaxKind} {c f : Forest} → (if is_extension parent k c then false else true) ≡ true → IsFine k c → IsFine parent f
    → IsFine parent (node k c f)
node_first n c f = record { tokens = and_from _ _ c.tokens f.tokens; extension = and_from _ _ n (and_from _ _ c.extension f.extension) }

one_token : {parent k : SyntaxKind} {t : List ℕ} → is_token k ≡ true → IsFine parent (leaf k t empty)
one_token i = token_first i fine_end

-- no atom is a lambda, and no expression a dynamic attribute
no_lambda : {c : Forest} → G.Atom NODE_LAMBDA c → ⊥
no_lambda h = elim h [ ]

lambda_level : {n : ℕ} {c : Forest} → G.Strict n NODE_LAMBDA c → n ≤ 0
lambda_level (G.looser l h) = let i = lambda_level h in omega (arith, l, i)
lambda_level (G.atom h) = absurd (no_lambda h)
lambda_level (G.lambda h i) = omega arith

no_dynamic : {c : Forest} → G.Atom NODE_DYNAMIC c → ⊥
no_dynamic h = elim h [ ]

dynamic_level : {n : ℕ} {c : Forest} → G.Strict n NODE_DYNAMIC c → ⊥
dynamic_level (G.looser l h) = dynamic_level h
dynamic_level (G.atom h) = no_dynamic h

operand_extension : (parent k : SyntaxKind) {n : ℕ} {c : Forest} → (if holds_no_lambda parent then nat_le 1 n else true) ≡ true → G.Strict n k c
    → (if is_extension parent k c then false else true) ≡ true
operand_extension parent NODE_LAMBDA {n = n} h s = by (holds_no_lambda parent) (lambda_level s) h
  where
    by : (w : Bool) → n ≤ 0 → (if w then nat_le 1 n else true) ≡ true → (if w then false else true) ≡ true
    by true l h = absurd (grind (arith, nat_tests, l, h))
    by false l h = refl
operand_extension parent NODE_DYNAMIC h s = absurd (dynamic_level s)
operand_extension parent _ h s = refl

operand : {parent k : SyntaxKind} {n : ℕ} {c f : Forest} → (if holds_no_lambda parent then nat_le 1 n else true) ≡ true → G.Strict n k c → IsFine k c
    → IsFine parent f → IsFine parent (node k c f)
operand {parent = parent} {k = k} h s c f = node_first (operand_extension parent k h s) c f

attr_extension : {k : SyntaxKind} {c : Forest} (parent : SyntaxKind) → G.Attr k c → (if is_extension parent k c then false else true) ≡ true
attr_extension parent G.named_attr = refl
attr_extension parent (G.string_attr h) = refl
attr_extension parent (G.dynamic_attr h) = refl

name_first : {parent : SyntaxKind} {t : List ℕ} {f : Forest} → IsFine parent f → IsFine parent (G.name t f)
name_first h = node_first refl (one_token refl) h

between : {parent i j k : SyntaxKind} {c : Forest} {s t : List ℕ} → is_token i ≡ true → is_token j ≡ true → holds_no_lambda parent ≡ false
    → G.Strict expression_level k c → IsFine k c → IsFine parent (leaf i s (node k c (leaf j t empty)))
between i j n h c = token_first i (operand (ap (λ w. if w then nat_le 1 expression_level else true) n) h c (one_token j))

pattern_end_fine : {bound : Bool} {f : Forest} → G.PatternEnd bound f → IsFine NODE_PATTERN f
pattern_end_fine G.pattern_end = fine_end
pattern_end_fine (G.bound_behind o) = node_first refl (token_first refl (name_first fine_end)) fine_end

mutual
  strict_fine : {n : ℕ} {k : SyntaxKind} {c : Forest} → G.Strict n k c → IsFine k c
  strict_fine (G.looser l h) = strict_fine h
  strict_fine (G.atom h) = atom_fine h
  strict_fine (G.select a q) = operand refl (G.atom a) (atom_fine a) (token_first refl (node_first refl (attrpath_fine q) fine_end))
  strict_fine (G.select_or a q h) = operand refl (G.atom a) (atom_fine a)
      (token_first refl (node_first refl (attrpath_fine q) (token_first refl (operand refl h (strict_fine h) fine_end))))
  strict_fine (G.apply_or a o) = operand refl (G.atom a) (atom_fine a) (name_first fine_end)
  strict_fine (G.apply h i) = operand refl h (strict_fine h) (operand refl i (strict_fine i) fine_end)
  strict_fine (G.negate h) = token_first refl (operand refl h (strict_fine h) fine_end)
  strict_fine (G.has_attr h q) = operand refl h (strict_fine h) (token_first refl (node_first refl (attrpath_fine q) fine_end))
  strict_fine (G.binary {o = o} e h i) = operand (implied is_infix (λ j. nat_le 1 (left_of j)) refl o e) h (strict_fine h)
      (token_first (implied is_infix is_token refl o e) (operand (implied is_infix (λ j. nat_le 1 (right_of j)) refl o e) i (strict_fine i) fine_end))
  strict_fine (G.invert h) = token_first refl (operand refl h (strict_fine h) fine_end)
  strict_fine (G.lambda h i) = parameter_fine h (token_first refl (operand refl i (strict_fine i) fine_end))
  strict_fine (G.legacy_let h) = token_first refl (token_first refl (entries_fine h (one_token refl)))
  strict_fine (G.let_in h i) = token_first refl (entries_fine h (token_first refl (operand refl i (strict_fine i) fine_end)))
  strict_fine (G.with_scope h i) = token_first refl (operand refl h (strict_fine h) (token_first refl (operand refl i (strict_fine i) fine_end)))
  strict_fine (G.assertion h i) = token_first refl (operand refl h (strict_fine h) (token_first refl (operand refl i (strict_fine i) fine_end)))
  strict_fine (G.if_else h i j) = token_first refl (operand refl h (strict_fine h)
      (token_first refl (operand refl i (strict_fine i) (token_first refl (operand refl j (strict_fine j) fine_end)))))

  atom_fine : {k : SyntaxKind} {c : Forest} → G.Atom k c → IsFine k c
  atom_fine (G.paren h) = between refl refl refl h (strict_fine h)
  atom_fine (G.set h) = token_first refl (entries_fine h (one_token refl))
  atom_fine (G.rec_set h) = token_first refl (token_first refl (entries_fine h (one_token refl)))
  atom_fine (G.list h) = token_first refl (items_fine h)
  atom_fine (G.string h) = token_first refl (pieces_fine h)
  atom_fine (G.path_abs h) = token_first refl (path_fine h)
  atom_fine (G.path_rel h) = token_first refl (path_fine h)
  atom_fine (G.path_home h) = token_first refl (path_fine h)
  atom_fine G.path_search = one_token refl
  atom_fine (G.literal {j = j} h) = one_token (implied is_plain_literal is_token refl j h)
  atom_fine (G.named o c) = one_token refl
  atom_fine (G.current_position c) = one_token refl

  items_fine : {f : Forest} → G.Items f → IsFine NODE_LIST f
  items_fine G.list_end = one_token refl
  items_fine (G.item h r) = operand refl h (strict_fine h) (items_fine r)

  pieces_fine : {f : Forest} → G.Pieces f → IsFine NODE_STRING f
  pieces_fine G.string_end = one_token refl
  pieces_fine (G.content r) = token_first refl (pieces_fine r)
  pieces_fine (G.interpolated h r) = node_first refl (interpol_fine h) (pieces_fine r)

  path_fine : {parent : SyntaxKind} {f : Forest} → G.PathEnd f → IsFine parent f
  path_fine G.path_end = fine_end
  path_fine (G.path_on h r) = node_first refl (interpol_fine h) (path_pieces_fine r)

  path_pieces_fine : {parent : SyntaxKind} {f : Forest} → G.PathPieces f → IsFine parent f
  path_pieces_fine G.pieces_end = fine_end
  path_pieces_fine (G.piece {j = j} h r) = token_first (implied is_path_piece is_token refl j h) (path_pieces_fine r)
  path_pieces_fine (G.piece_on h r) = node_first refl (interpol_fine h) (path_pieces_fine r)

  interpol_fine : {f : Forest} → G.Interpol f → IsFine NODE_INTERPOL f
  interpol_fine (G.interpol h) = between refl refl refl h (strict_fine h)

  attr_fine : {k : SyntaxKind} {c : Forest} → G.Attr k c → IsFine k c
  attr_fine G.named_attr = one_token refl
  attr_fine (G.string_attr h) = token_first refl (pieces_fine h)
  attr_fine (G.dynamic_attr h) = between refl refl refl h (strict_fine h)

  attrpath_fine : {f : Forest} → G.Attrpath f → IsFine NODE_ATTRPATH f
  attrpath_fine (G.last_attr h) = node_first (attr_extension NODE_ATTRPATH h) (attr_fine h) fine_end
  attrpath_fine (G.attr_dot h r) = node_first (attr_extension NODE_ATTRPATH h) (attr_fine h) (token_first refl (attrpath_fine r))

  entries_fine : {parent : SyntaxKind} {f g : Forest} → G.Entries f g → IsFine parent g → IsFine parent f
  entries_fine G.entries_end w = w
  entries_fine (G.inheriting h r) w = node_first refl (inherit_fine h) (entries_fine r w)
  entries_fine (G.binding h r) w = node_first refl (binding_fine h) (entries_fine r w)

  binding_fine : {f : Forest} → G.Binding f → IsFine NODE_ATTRPATH_VALUE f
  binding_fine (G.bind q h) = node_first refl (attrpath_fine q) (between refl refl refl h (strict_fine h))

  inherit_fine : {f : Forest} → G.Inherit f → IsFine NODE_INHERIT f
  inherit_fine (G.inherit_names h) = token_first refl (names_fine h)
  inherit_fine (G.inherit_from (G.source h) n) = token_first refl (node_first refl (between refl refl refl h (strict_fine h)) (names_fine n))

  names_fine : {f : Forest} → G.Names f → IsFine NODE_INHERIT f
  names_fine G.names_end = one_token refl
  names_fine (G.inherited h r) = node_first (attr_extension NODE_INHERIT h) (attr_fine h) (names_fine r)

  parameter_fine : {k : SyntaxKind} {c f : Forest} → G.Parameter k c → IsFine NODE_LAMBDA f → IsFine NODE_LAMBDA (node k c f)
  parameter_fine (G.parameter o) r = node_first refl (name_first fine_end) r
  parameter_fine (G.pattern h) r = node_first refl (token_first refl (formals_fine h)) r
  parameter_fine (G.bound_pattern o h) r = node_first refl (node_first refl (name_first (one_token refl)) (token_first refl (formals_fine h))) r

  formals_fine : {bound : Bool} {names : List (List ℕ)} {f : Forest} → G.Formals bound names f → IsFine NODE_PATTERN f
  formals_fine (G.formals_end h) = token_first refl (pattern_end_fine h)
  formals_fine (G.ellipsis h) = token_first refl (token_first refl (pattern_end_fine h))
  formals_fine (G.last_entry n h i) = node_first refl (formal_fine h) (token_first refl (pattern_end_fine i))
  formals_fine (G.entry_comma n h i) = node_first refl (formal_fine h) (token_first refl (formals_fine i))

  formal_fine : {x : List ℕ} {c : Forest} → G.Formal x c → IsFine NODE_PAT_ENTRY c
  formal_fine (G.entry o) = name_first fine_end
  formal_fine (G.default_entry o h) = name_first (token_first refl (operand refl h (strict_fine h) fine_end))

-- the leaves of an expression are tokens, and no tree in it is an accepted extension
pub expression_fine : {f : Forest} → G.IsExpression f → IsFine NODE_ROOT f
expression_fine (G.expression h) = operand refl h (strict_fine h) fine_end
