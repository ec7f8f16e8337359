-- Each expression of a strict tree is strict, and nests no deeper than the tree.
use Rattle.std.proofs.Common.{◌≡◌, ℕ, suc, ◌≤◌, ◌+◌, Bool, true, false, List, refl, sym, ◌∙◌, subst, if◌then◌else◌, arith}
use Rattle.rnix_kinds.specs.declared.kinds.SyntaxKind.{SyntaxKind, TheVariants.{TOKEN_IDENT, NODE_ATTRPATH, NODE_ATTRPATH_VALUE, NODE_IDENT, NODE_INHERIT}}
use Rattle.rnix_kinds.specs.declared.kinds.SyntaxKind.TheVariants.{NODE_INTERPOL, NODE_LAMBDA, NODE_LIST, NODE_PAT_ENTRY, NODE_PATTERN, NODE_ROOT, NODE_STRING}
use Rattle.{rnix_green.specs.Forest.{Forest, empty, leaf, node}, rnix_grammar.specs.{Levels.{expression_level, selection_level}, NodeClasses.is_expression}}
use Rattle.{rnix_grammar.specs.{Tables.{is_or, is_cur_pos, depth_limit}, PathPieces.is_path, Nest.nest}, rnix_proof_lemmas.proofs.Basics.true_is_not_false}
use Rattle.{rnix_proof_completeness.proofs.PartReads.{depth_in, room}, rnix_proof_locality.specs.Expressions.is_expression_node}
use Rattle.rnix_grammar.specs.Grammar as G

-- the nodes of a forest begin with tokens
abbrev pub nodes_begin : Forest → Bool
nodes_begin empty = true
nodes_begin (leaf k t f) = nodes_begin f
nodes_begin (node k (leaf j t c) f) = nodes_begin f
nodes_begin (node k c f) = false

-- the interpolations of a path begin with tokens
abbrev pub path_begins : SyntaxKind → Forest → Bool
path_begins k c = if is_path k then nodes_begin c else true

-- an expression of the grammar at some level, which leaves room for one level around it
pub record IsStrict (k : SyntaxKind) (c : Forest) : Type 0 where
  pub level : ℕ
  pub strict : G.Strict level k c
  pub shallow : suc (nest k c) ≤ depth_limit

-- each expression and each path of a forest is strict
abbrev pub AreStrict : Forest → Type 0
AreStrict empty = Unit {0}
AreStrict (leaf k t f) = AreStrict f
AreStrict (node k c f) = (is_expression_node k c ≡ true → IsStrict k c) × (path_begins k c ≡ true) × AreStrict c × AreStrict f

-- a forest below a node of the kind is strict, if it leaves room for one level around it
record Row (p : SyntaxKind) (f : Forest) : Type 0 where
  each : suc (nest p f) ≤ depth_limit → AreStrict f

-- the children of a node of the kind are strict
record Inside (k : SyntaxKind) (c : Forest) : Type 0 where
  each : suc (depth_in k c) ≤ depth_limit → AreStrict c

-- what holds of a strict expression
record Holds (k : SyntaxKind) (c : Forest) : Type 0 where
  kind : is_expression k ≡ true
  begins : path_begins k c ≡ true
  inside : Inside k c

-- if a forest leaves room, so do its first node and the rest
room_inside : (p k : SyntaxKind) (c f : Forest) → suc (nest p (node k c f)) ≤ depth_limit
    → (suc (depth_in k c) ≤ depth_limit) × (suc (nest p f) ≤ depth_limit)
room_inside p k c f h =
    let w = room p k c f 1 (omega (arith, h)) in
    let here : 1 + depth_in k c ≤ depth_limit = w.0 in
    let rest : 1 + nest p f ≤ depth_limit = w.1 in
    (omega (arith, here), omega (arith, rest))

-- an expression is no entry of a pattern, so all its children count
depth_expression : (k : SyntaxKind) (c : Forest) → is_expression k ≡ true → depth_in k c ≡ nest k c
depth_expression NODE_PAT_ENTRY c h = absurd (true_is_not_false (sym h))
depth_expression _ c h = refl

row_end : {p : SyntaxKind} → Row p empty
row_end = record { each = λ h. tt }

token_first : {p k : SyntaxKind} {t : List ℕ} {f : Forest} → Row p f → Row p (leaf k t f)
token_first r = record { each = λ h. r.each h }

-- a node that is neither an expression nor a path
plain : {p k : SyntaxKind} {c f : Forest} → is_expression_node k c ≡ false → path_begins k c ≡ true → Inside k c → Row p f → Row p (node k c f)
plain {p} {k} {c} {f} n b i r = record { each = whole }
  where
    whole : suc (nest p (node k c f)) ≤ depth_limit → AreStrict (node k c f)
    whole h = let w = room_inside p k c f h in (λ e. absurd (true_is_not_false (sym e ∙ n)), b, i.each w.0, r.each w.1)

-- an operand is an expression of the grammar
operand : {p k : SyntaxKind} {n : ℕ} {c f : Forest} → G.Strict n k c → Holds k c → Row p f → Row p (node k c f)
operand {p} {k} {n} {c} {f} s g r = record { each = whole }
  where
    whole : suc (nest p (node k c f)) ≤ depth_limit → AreStrict (node k c f)
    whole h =
        let w = room_inside p k c f h in
        let own : suc (nest k c) ≤ depth_limit = subst (λ d. suc d ≤ depth_limit) (depth_expression k c g.kind) w.0 in
        (λ e. record { level = n; strict = s; shallow = own }, g.begins, g.inside.each w.0, r.each w.1)

-- the children of a node that is no entry of a pattern
inside : {k : SyntaxKind} {c : Forest} → depth_in k c ≡ nest k c → Row k c → Inside k c
inside e r = record { each = λ h. r.each (subst (λ d. suc d ≤ depth_limit) e h) }

held : {k : SyntaxKind} {c : Forest} → is_expression k ≡ true → path_begins k c ≡ true → depth_in k c ≡ nest k c → Row k c → Holds k c
held i b e r = record { kind = i; begins = b; inside = inside e r }

between : {p i j k : SyntaxKind} {n : ℕ} {c : Forest} {s t : List ℕ} → G.Strict n k c → Holds k c → Row p (leaf i s (node k c (leaf j t empty)))
between h g = token_first (operand h g (token_first row_end))

-- a name that is neither `or` nor `__curPos`
neither : (a b : Bool) → (if a then false else (if b then false else true)) ≡ true → (a ≡ false) × (b ≡ false)
neither true b h = absurd (true_is_not_false (sym h))
neither false true h = absurd (true_is_not_false (sym h))
neither false false h = (refl, refl)

named_value : (t : List ℕ) → is_expression_node NODE_IDENT (leaf TOKEN_IDENT t empty) ≡ true → IsStrict NODE_IDENT (leaf TOKEN_IDENT t empty)
named_value t e =
    let w = neither (is_or t) (is_cur_pos t) e in
    let small : 1 ≤ depth_limit = omega arith in
    record { level = selection_level; strict = G.atom (G.named w.0 w.1); shallow = small }

name_first : {p : SyntaxKind} {t : List ℕ} {f : Forest} → Row p f → Row p (G.name t f)
name_first {p} {t} {f} r = record { each = λ h. (λ e. named_value t e, refl, tt, r.each (room_inside p NODE_IDENT (leaf TOKEN_IDENT t empty) f h).1) }

-- the children of an entry of a pattern, after its name
entry_inside : {x : List ℕ} {f : Forest} → Row NODE_PAT_ENTRY f → Inside NODE_PAT_ENTRY (G.name x f)
entry_inside {x} {f} r = record { each = λ h. (λ e. named_value x e, refl, tt, r.each h) }

-- the pieces of a path begin with tokens
pieces_begin : {f : Forest} → G.PathPieces f → nodes_begin f ≡ true
pieces_begin G.pieces_end = refl
pieces_begin (G.piece h r) = pieces_begin r
pieces_begin (G.piece_on (G.interpol h) r) = pieces_begin r

path_end_begins : {f : Forest} → G.PathEnd f → nodes_begin f ≡ true
path_end_begins G.path_end = refl
path_end_begins (G.path_on (G.interpol h) r) = pieces_begin r

pattern_end_row : {bound : Bool} {f : Forest} → G.PatternEnd bound f → Row NODE_PATTERN f
pattern_end_row G.pattern_end = row_end
pattern_end_row (G.bound_behind o) = plain refl refl (inside refl (token_first (name_first row_end))) row_end

mutual
  strict_holds : {n : ℕ} {k : SyntaxKind} {c : Forest} → G.Strict n k c → Holds k c
  strict_holds (G.looser l h) = strict_holds h
  strict_holds (G.atom h) = atom_holds h
  strict_holds (G.select a q) = held refl refl refl
      (operand (G.atom a) (atom_holds a) (token_first (plain refl refl (inside refl (attrpath_row q)) row_end)))
  strict_holds (G.select_or a q h) = held refl refl refl (operand (G.atom a) (atom_holds a)
      (token_first (plain refl refl (inside refl (attrpath_row q)) (token_first (operand h (strict_holds h) row_end)))))
  strict_holds (G.apply_or a o) = held refl refl refl (operand (G.atom a) (atom_holds a) (name_first row_end))
  strict_holds (G.apply h i) = held refl refl refl (operand h (strict_holds h) (operand i (strict_holds i) row_end))
  strict_holds (G.negate h) = held refl refl refl (token_first (operand h (strict_holds h) row_end))
  strict_holds (G.has_attr h q) = held refl refl refl
      (operand h (strict_holds h) (token_first (plain refl refl (inside refl (attrpath_row q)) row_end)))
  strict_holds (G.binary e h i) = held refl refl refl (operand h (strict_holds h) (token_first (operand i (strict_holds i) row_end)))
  strict_holds (G.invert h) = held refl refl refl (token_first (operand h (strict_holds h) row_end))
  strict_holds (G.lambda h i) = held refl refl refl (parameter_row h (token_first (operand i (strict_holds i) row_end)))
  strict_holds (G.legacy_let h) = held refl refl refl (token_first (token_first (entries_row h (token_first row_end))))
  strict_holds (G.let_in h i) = held refl refl refl (token_first (entries_row h (token_first (operand i (strict_holds i) row_end))))
  strict_holds (G.with_scope h i) = held refl refl refl
      (token_first (operand h (strict_holds h) (token_first (operand i (strict_holds i) row_end))))
  strict_holds (G.assertion h i) = held refl refl refl
      (token_first (operand h (strict_holds h) (token_first (operand i (strict_holds i) row_end))))
  strict_holds (G.if_else h i j) = held refl refl refl (token_first (operand h (strict_holds h)
      (token_first (operand i (strict_holds i) (token_first (operand j (strict_holds j) row_end))))))

  atom_holds : {k : SyntaxKind} {c : Forest} → G.Atom k c → Holds k c
  atom_holds (G.paren h) = held refl refl refl (between h (strict_holds h))
  atom_holds (G.set h) = held refl refl refl (token_first (entries_row h (token_first row_end)))
  atom_holds (G.rec_set h) = held refl refl refl (token_first (token_first (entries_row h (token_first row_end))))
  atom_holds (G.list h) = held refl refl refl (token_first (items_row h))
  atom_holds (G.string h) = held refl refl refl (token_first (pieces_row h))
  atom_holds (G.path_abs h) = held refl (path_end_begins h) refl (token_first (path_row h))
  atom_holds (G.path_rel h) = held refl (path_end_begins h) refl (token_first (path_row h))
  atom_holds (G.path_home h) = held refl (path_end_begins h) refl (token_first (path_row h))
  atom_holds G.path_search = held refl refl refl (token_first row_end)
  atom_holds (G.literal h) = held refl refl refl (token_first row_end)
  atom_holds (G.named o c) = held refl refl refl (token_first row_end)
  atom_holds (G.current_position c) = held refl refl refl (token_first row_end)

  items_row : {f : Forest} → G.Items f → Row NODE_LIST f
  items_row G.list_end = token_first row_end
  items_row (G.item h r) = operand h (strict_holds h) (items_row r)

  pieces_row : {f : Forest} → G.Pieces f → Row NODE_STRING f
  pieces_row G.string_end = token_first row_end
  pieces_row (G.content r) = token_first (pieces_row r)
  pieces_row (G.interpolated h r) = plain refl refl (interpol_inside h) (pieces_row r)

  path_row : {p : SyntaxKind} {f : Forest} → G.PathEnd f → Row p f
  path_row G.path_end = row_end
  path_row (G.path_on h r) = plain refl refl (interpol_inside h) (path_pieces_row r)

  path_pieces_row : {p : SyntaxKind} {f : Forest} → G.PathPieces f → Row p f
  path_pieces_row G.pieces_end = row_end
  path_pieces_row (G.piece h r) = token_first (path_pieces_row r)
  path_pieces_row (G.piece_on h r) = plain refl refl (interpol_inside h) (path_pieces_row r)

  interpol_inside : {f : Forest} → G.Interpol f → Inside NODE_INTERPOL f
  interpol_inside (G.interpol h) = inside refl (between h (strict_holds h))

  attr_first : {p k : SyntaxKind} {c f : Forest} → G.Attr k c → Row p f → Row p (node k c f)
  attr_first G.named_attr r = name_first r
  attr_first (G.string_attr h) r = operand (G.atom (G.string h)) (held refl refl refl (token_first (pieces_row h))) r
  attr_first (G.dynamic_attr h) r = plain refl refl (inside refl (between h (strict_holds h))) r

  attrpath_row : {f : Forest} → G.Attrpath f → Row NODE_ATTRPATH f
  attrpath_row (G.last_attr h) = attr_first h row_end
  attrpath_row (G.attr_dot h r) = attr_first h (token_first (attrpath_row r))

  entries_row : {p : SyntaxKind} {f g : Forest} → G.Entries f g → Row p g → Row p f
  entries_row G.entries_end w = w
  entries_row (G.inheriting h r) w = plain refl refl (inherit_inside h) (entries_row r w)
  entries_row (G.binding h r) w = plain refl refl (binding_inside h) (entries_row r w)

  binding_inside : {f : Forest} → G.Binding f → Inside NODE_ATTRPATH_VALUE f
  binding_inside (G.bind q h) = inside refl (plain refl refl (inside refl (attrpath_row q)) (between h (strict_holds h)))

  inherit_inside : {f : Forest} → G.Inherit f → Inside NODE_INHERIT f
  inherit_inside (G.inherit_names h) = inside refl (token_first (names_row h))
  inherit_inside (G.inherit_from (G.source h) n) = inside refl (token_first (plain refl refl (inside refl (between h (strict_holds h))) (names_row n)))

  names_row : {f : Forest} → G.Names f → Row NODE_INHERIT f
  names_row G.names_end = token_first row_end
  names_row (G.inherited h r) = attr_first h (names_row r)

  parameter_row : {k : SyntaxKind} {c f : Forest} → G.Parameter k c → Row NODE_LAMBDA f → Row NODE_LAMBDA (node k c f)
  parameter_row (G.parameter o) r = plain refl refl (inside refl (name_first row_end)) r
  parameter_row (G.pattern h) r = plain refl refl (inside refl (token_first (formals_row h))) r
  parameter_row (G.bound_pattern o h) r =
      plain refl refl (inside refl (plain refl refl (inside refl (name_first (token_first row_end))) (token_first (formals_row h)))) r

  formals_row : {bound : Bool} {names : List (List ℕ)} {f : Forest} → G.Formals bound names f → Row NODE_PATTERN f
  formals_row (G.formals_end h) = token_first (pattern_end_row h)
  formals_row (G.ellipsis h) = token_first (token_first (pattern_end_row h))
  formals_row (G.last_entry n h i) = plain refl refl (formal_inside h) (token_first (pattern_end_row i))
  formals_row (G.entry_comma n h i) = plain refl refl (formal_inside h) (token_first (formals_row i))

  formal_inside : {x : List ℕ} {c : Forest} → G.Formal x c → Inside NODE_PAT_ENTRY c
  formal_inside (G.entry o) = entry_inside row_end
  formal_inside (G.default_entry o h) = entry_inside (token_first (operand h (strict_holds h) row_end))

-- an expression of the grammar has the kind of an expression
pub strict_kind : {n : ℕ} {k : SyntaxKind} {c : Forest} → G.Strict n k c → is_expression k ≡ true
strict_kind s = (strict_holds s).kind

-- the root counts its expression, so this leaves room for one level
root_room : (k : SyntaxKind) (c : Forest) → is_expression k ≡ true → nest NODE_ROOT (node k c empty) ≤ depth_limit → suc (depth_in k c) ≤ depth_limit
root_room k c e h =
    let w : suc 0 + depth_in k c ≤ depth_limit = (room NODE_ROOT k c empty 0 (omega (arith, h))).2 e in
    omega (arith, w)

-- each expression of a tree that nests within the limit is strict
pub root_strict : {t : Forest} → G.IsExpression t → nest NODE_ROOT t ≤ depth_limit → AreStrict t
root_strict (G.expression {k = k} {c = c} s) h =
    let g = strict_holds s in
    let w : suc (depth_in k c) ≤ depth_limit = root_room k c g.kind h in
    let own : suc (nest k c) ≤ depth_limit = subst (λ d. suc d ≤ depth_limit) (depth_expression k c g.kind) w in
    (λ e. record { level = expression_level; strict = s; shallow = own }, g.begins, g.inside.each w, tt)
