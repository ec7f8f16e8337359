-- The repaired children of a node, part by part along the row of its kind.
use Rattle.std.proofs.Common.{◌≡◌, ◌⊎◌, inl, inr, ⊎_elim, ℕ, Bool, true, false, List, [], refl, sym, ◌∙◌, subst, ◌||◌, ◌&&◌, if◌then◌else◌, nat_eq, nat_le}
use Rattle.{rnix_kinds.specs.{declared.kinds.SyntaxKind.SyntaxKind, SyntaxKind.is_token}, rnix_green.specs.Equality.{same_kind, same_kind-decides}}
use Rattle.{rnix_green.specs.Forest.{Forest, empty, leaf, node}, rnix_grammar.specs.{Levels.selection_level, Rules.{Row, never, done, ◌·◌, ◌or◌, only}}}
use Rattle.rnix_grammar.specs.{Rules.{or_else, after, may_end}, TokenKinds.is_path_piece, Extensions.holds_no_lambda, NodeClasses.{is_attr, is_entry, is_expression}}
use Rattle.rnix_grammar.specs.{NodeClasses.fits, Tables.is_or, Grammar.{name, Strict, Attr, Attrpath, last_attr, attr_dot, Binding, Formal, Inherit, Interpol}}
use Rattle.{rnix_grammar.specs.Grammar.{Parameter, Source}, rnix_proof_lemmas.{specs.LeafKinds.is_node, proofs.Basics.{not_if, true_is_not_false}}}
use Rattle.rnix_proof_lemmas.proofs.{EveryKind.{never as no_kind_both}, KindsOfNodes.fits_expression}
use Rattle.rnix_grammar.specs.declared.rules.Part.TheVariants as p
use Rattle.rnix_kinds.specs.declared.kinds.SyntaxKind.TheVariants as K

-- the text of the leaf that a forest begins with
abbrev pub only_text : Forest → List ℕ
only_text (leaf k t f) = t
only_text f = []

-- the name that an entry of a pattern begins with
abbrev pub entry_text : Forest → List ℕ
entry_text (node K.NODE_IDENT c f) = only_text c
entry_text f = []

-- a forest begins with a leaf
abbrev pub begins_with_leaf : Forest → Bool
begins_with_leaf (leaf k t f) = true
begins_with_leaf f = false

-- the name of a pattern, before `@` or after it
pub data IsBind : Forest → Type 0 where
  binds_before : {s t : List ℕ} → is_or t ≡ false → IsBind (name t (leaf K.TOKEN_AT s empty))
  binds_behind : {s t : List ℕ} → is_or t ≡ false → IsBind (leaf K.TOKEN_AT s (name t empty))

-- what a node with these children is in the grammar, if it is an attribute or another part that is no expression
abbrev pub IsPart : SyntaxKind → Forest → Type 0
IsPart K.NODE_IDENT c = Attr K.NODE_IDENT c
IsPart K.NODE_STRING c = Attr K.NODE_STRING c
IsPart K.NODE_DYNAMIC c = Attr K.NODE_DYNAMIC c
IsPart K.NODE_INTERPOL c = Interpol c
IsPart K.NODE_ATTRPATH c = Attrpath c
IsPart K.NODE_ATTRPATH_VALUE c = Binding c
IsPart K.NODE_INHERIT c = Inherit c
IsPart K.NODE_INHERIT_FROM c = Source c
IsPart K.NODE_IDENT_PARAM c = Parameter K.NODE_IDENT_PARAM c
IsPart K.NODE_PATTERN c = Parameter K.NODE_PATTERN c
IsPart K.NODE_PAT_BIND c = IsBind c
IsPart K.NODE_PAT_ENTRY c = Formal (entry_text c) c
IsPart k c = Unit {0}

pub attr_of : (k : SyntaxKind) {c : Forest} → is_attr k ≡ true → IsPart k c → Attr k c
attr_of K.NODE_IDENT h m = m
attr_of K.NODE_STRING h m = m
attr_of K.NODE_DYNAMIC h m = m
attr_of _ h m = absurd (true_is_not_false (sym h))

-- below a node of the first kind an operand is an expression at its level, if this is the lowest or the node may contain no lambda
abbrev pub IsIn : SyntaxKind → ℕ → SyntaxKind → Forest → Type 0
IsIn parent n k c = (nat_le n selection_level && (nat_eq n 0 || holds_no_lambda parent)) ≡ true → Strict n k c

-- an operand that has the kind of an expression is such an operand
abbrev pub Offers : SyntaxKind → ℕ → SyntaxKind → Forest → Type 0
Offers parent n k c = is_expression k ≡ true → IsIn parent n k c

-- the row may end here, or a child of a kind comes next
abbrev pub ends_or : Row → Bool
ends_or (p.EndOr w · r) = true
ends_or r = false

-- a name here may be `or`
abbrev pub names_or : Row → Bool
names_or (p.Attr · r) = true
names_or (p.Names · r) = true
names_or (p.Argument · r) = true
names_or (p.Optional w · r) = names_or r
names_or (r or s) = names_or r
names_or r = false

-- the bound name of a pattern follows `@` where the row may end, and precedes it elsewhere; other names are `or` only where that is allowed
abbrev pub bound : Bool → Bool → SyntaxKind → Forest → Bool
bound ends any K.NODE_PAT_BIND c = if ends then begins_with_leaf c else (if begins_with_leaf c then false else true)
bound ends any K.NODE_IDENT c = if any then true else (if is_or (only_text c) then false else true)
bound ends any k c = true

abbrev pub binds : Row → SyntaxKind → Forest → Bool
binds q k c = bound (ends_or q) (names_or q) k c

-- the pieces of a string, and of a path
abbrev pub is_piece : SyntaxKind → Bool
is_piece K.TOKEN_STRING_CONTENT = true
is_piece K.NODE_INTERPOL = true
is_piece k = false

abbrev pub continues_path : SyntaxKind → Bool
continues_path k = is_path_piece k || same_kind K.NODE_INTERPOL k

-- the forms of the rest of a row: nothing; a child of a kind; an operand; several children; formals
pub data Ends : Forest → Type 0 where
  ends : Ends empty

pub data Leads (w : SyntaxKind) (Q : Forest → Type 0) : Forest → Type 0 where
  leads : {t : List ℕ} {f : Forest} → Q f → Leads w Q (leaf w t f)

pub data Heads (w : SyntaxKind) (q : Row) (Q : Forest → Type 0) : Forest → Type 0 where
  heads : {c f : Forest} → IsPart w c → binds q w c ≡ true → Q f → Heads w q Q (node w c f)

abbrev pub One : Bool → SyntaxKind → Row → (Forest → Type 0) → Forest → Type 0
One true w q Q = Leads w Q
One false w q Q = Heads w q Q

pub data FirstNode (A : SyntaxKind → Forest → Type 0) (Q : Forest → Type 0) : Forest → Type 0 where
  stands : {k : SyntaxKind} {c f : Forest} → A k c → Q f → FirstNode A Q (node k c f)

pub data Several (b : SyntaxKind → Bool) (A : SyntaxKind → Forest → Type 0) (Q : Forest → Type 0) : Forest → Type 0 where
  over : {f : Forest} → Q f → Several b A Q f
  and_leaf : {k : SyntaxKind} {t : List ℕ} {f : Forest} → is_token k ≡ true → b k ≡ true → Several b A Q f → Several b A Q (leaf k t f)
  and_node : {k : SyntaxKind} {c f : Forest} → is_node k ≡ true → b k ≡ true → A k c → IsPart k c → Several b A Q f → Several b A Q (node k c f)

pub data Braces (Q : Forest → Type 0) : Forest → Type 0 where
  closed : {t : List ℕ} {f : Forest} → Q f → Braces Q (leaf K.TOKEN_R_BRACE t f)
  dotted : {s t : List ℕ} {f : Forest} → Q f → Braces Q (leaf K.TOKEN_ELLIPSIS s (leaf K.TOKEN_R_BRACE t f))
  last : {c f : Forest} {t : List ℕ} → Formal (entry_text c) c → Q f → Braces Q (node K.NODE_PAT_ENTRY c (leaf K.TOKEN_R_BRACE t f))
  comma : {c f : Forest} {t : List ℕ} → Formal (entry_text c) c → Braces Q f → Braces Q (node K.NODE_PAT_ENTRY c (leaf K.TOKEN_COMMA t f))

-- the conditions on the next child in a row of a node
abbrev pub Asks : SyntaxKind → Row → SyntaxKind → Forest → Type 0
Asks parent (p.Operand n counted · r) = Offers parent n
Asks parent (p.Many n w · r) = Offers parent n
Asks parent r = λ k c. Unit {0}

abbrev pub Fits : SyntaxKind → Row → SyntaxKind → Forest → Type 0
Fits parent q k c = Asks parent q k c × (binds q k c ≡ true)

-- The children of a node for this rest of its row, part by part, each as the grammar requires. An optional child may be missing.
pub data GrammarRow (parent : SyntaxKind) : Row → Forest → Type 0 where
  ended : {q : Row} → may_end q ≡ true → GrammarRow parent q empty
  leaf_node_made : {q : Row} {k : SyntaxKind} {t : List ℕ} {f : Forest} → is_token k ≡ true → GrammarRow parent (after q k) f → GrammarRow parent q (leaf k t f)
  node_started : {q : Row} {k : SyntaxKind} {c f : Forest} → is_node k ≡ true → IsPart k c → Fits parent q k c → GrammarRow parent (after q k) f
      → GrammarRow parent q (node k c f)
  passed : {w : SyntaxKind} {r : Row} {f : Forest} → GrammarRow parent r f → GrammarRow parent (p.Optional w · r) f

-- a row whose first child is optional
abbrev pub is_optional : Row → Bool
is_optional (p.Optional w · r) = true
is_optional r = false

-- the children from this rest of a row on, by their forms; of operations, calls and selections only what follows the operator, `.` or `?`
abbrev pub View : SyntaxKind → Row → Forest → Type 0
View parent never = λ f. ⊥
View parent ((p.Child w · r) or (p.Child v · s)) = λ f. One (is_token w) w ((p.Child w · r) or (p.Child v · s)) (View parent r) f
    ⊎ One (is_token v) v (p.Child v · s) (View parent s) f
View parent ((p.Child w · r) or ((p.Child v · s) or z)) = λ f. One (is_token w) w ((p.Child w · r) or ((p.Child v · s) or z)) (View parent r) f
    ⊎ View parent ((p.Child v · s) or z) f
View parent (p.Child w · r) = One (is_token w) w (p.Child w · r) (View parent r)
View parent (p.Wanted w · r) = One (is_token w) w (p.Wanted w · r) (View parent r)
View parent (p.Attrpath · r) = Heads K.NODE_ATTRPATH (p.Attrpath · r) (View parent r)
View parent (p.EndOr w · r) = λ f. One (is_token w) w (p.EndOr w · r) (View parent r) f ⊎ Ends f
View parent (p.Optional w · p.Names · r) = λ f. One (is_token w) w (p.Optional w · p.Names · r) (View parent (p.Names · r)) f ⊎ View parent (p.Names · r) f
View parent (p.Operand n counted · r) = FirstNode (IsIn parent n) (View parent r)
View parent (p.Many n w · r) = Several (fits n) (Offers parent n) (One (is_token w) w (p.Many n w · r) (View parent r))
View parent (p.Entries w · r) = Several is_entry (λ k c. Unit {0}) (One (is_token w) w (p.Entries w · r) (View parent r))
View parent (p.Names · p.Wanted w · r) = Several is_attr (λ k c. Unit {0}) (One (is_token w) w (p.Names · p.Wanted w · r) (View parent r))
View parent (p.Pieces · p.Wanted w · r) = Several is_piece (λ k c. Unit {0}) (One (is_token w) w (p.Pieces · p.Wanted w · r) (View parent r))
View parent (p.PathPieces · r) = Several continues_path (λ k c. Unit {0}) Ends
View parent (p.Attr · p.MoreAttrs · r) = Attrpath
View parent (p.Formals · r) = Braces (View parent r)
View parent (p.FormalsAfterComma · r) = Braces (View parent r)
View parent done = Ends
View parent (p.BoundAlready · r) = Ends
View parent (p.TextEnd · r) = Ends
View parent r = λ f. Unit {0}

same_rest : (w v : SyntaxKind) (r s : Row) → p.Optional w · r ≡ p.Optional v · s → r ≡ s
same_rest w v r s h = cc

module _ (parent : SyntaxKind) where
  -- no children fit `never`
  pub lost : {A : Type 0} {f : Forest} → GrammarRow parent never f → A
  lost (ended e) = absurd (true_is_not_false (sym e))
  lost (leaf_node_made i h) = lost h
  lost (node_started i m a h) = lost h

  -- if the row continues only if a test is true, the test is true
  kept : (w : Bool) (r : Row) {f : Forest} → GrammarRow parent (only w r) f → (w ≡ true) × GrammarRow parent r f
  kept true r h = (refl, h)
  kept false r h = lost h

  -- the children after a leaf, and those after a node
  past_leaf : {q : Row} {k : SyntaxKind} {t : List ℕ} {f : Forest} → is_optional q ≡ false → GrammarRow parent q (leaf k t f) → GrammarRow parent (after q k) f
  past_leaf o (leaf_node_made i h) = h
  past_leaf o (passed h) = absurd (true_is_not_false o)

  past_node : {q : Row} {k : SyntaxKind} {c f : Forest} → is_optional q ≡ false → GrammarRow parent q (node k c f) → (is_node k ≡ true)
      × GrammarRow parent (after q k) f
  past_node o (node_started i m a h) = (i, h)
  past_node o (passed h) = absurd (true_is_not_false o)

  over_here : (q : Row) → is_optional q ≡ false → ((k : SyntaxKind) → after q k ≡ never) → {f : Forest} → GrammarRow parent q f → Ends f
  over_here q o d (ended h) = ends
  over_here q o d (leaf_node_made {k = k} {f = f} i h) = lost (subst (λ r. GrammarRow parent r f) (d k) h)
  over_here q o d (node_started {k = k} {f = f} i m a h) = lost (subst (λ r. GrammarRow parent r f) (d k) h)
  over_here _ o d (passed h) = absurd (true_is_not_false o)

  -- the children from `s` on are also children from `q` on, if `q` may end and continue wherever `s` may
  pub alike : (q s : Row) → is_optional s ≡ false → (may_end s ≡ true → may_end q ≡ true)
      → ((k : SyntaxKind) (c : Forest) → Fits parent s k c → Fits parent q k c)
      → ((H : Row → Type 0) (k : SyntaxKind) → ((r : Row) → H never → H r) → H (after s k) → H (after q k)) → {f : Forest} → GrammarRow parent s f
      → GrammarRow parent q f
  alike q s o e a step (ended h) = ended (e h)
  alike q s o e a step (leaf_node_made {k = k} {f = f} i h) = leaf_node_made i (step (λ r. GrammarRow parent r f) k (λ r w. lost w) h)
  alike q s o e a step (node_started {k = k} {c = c} {f = f} i m x h) = node_started i m (a k c x) (step (λ r. GrammarRow parent r f) k (λ r w. lost w) h)
  alike q _ o e a step (passed h) = absurd (true_is_not_false o)

  -- the next child has the kind, and the others are viewed after it
  here_leaf : (w : SyntaxKind) (q r : Row) {V : Forest → Type 0} → ((f : Forest) → GrammarRow parent r f → V f) → (k : SyntaxKind) (t : List ℕ) (f : Forest)
      → is_token k ≡ true → (w ≡ k) × GrammarRow parent r f → One (is_token w) w q V (leaf k t f)
  here_leaf w q r {V} v k t f i x =
      subst (λ j. One (is_token j) j q V (leaf k t f)) (sym x.0) (subst (λ b. One b k q V (leaf k t f)) (sym i) (leads (v f x.1)))

  here_node : (w : SyntaxKind) (q r : Row) {V : Forest → Type 0} → ((f : Forest) → GrammarRow parent r f → V f) → (k : SyntaxKind) (c f : Forest)
      → is_node k ≡ true → IsPart k c → binds q k c ≡ true → (w ≡ k) × GrammarRow parent r f → One (is_token w) w q V (node k c f)
  here_node w q r {V} v k c f i m y x = subst (λ j. One (is_token j) j q V (node k c f)) (sym x.0)
      (subst (λ b. One b k q V (node k c f)) (sym (not_if (is_token k) i)) (heads m y (v f x.1)))

  this_kind : (w k : SyntaxKind) (r : Row) {f : Forest} → GrammarRow parent (only (same_kind w k) r) f → (w ≡ k) × GrammarRow parent r f
  this_kind w k r h = let x = kept (same_kind w k) r h in ((same_kind-decides w k).0 x.0, x.1)

  -- a row that requires a child of the kind begins with it
  child : (w : SyntaxKind) (q r : Row) → is_optional q ≡ false → may_end q ≡ false → ((k : SyntaxKind) → after q k ≡ only (same_kind w k) r)
      → {V : Forest → Type 0} → ((f : Forest) → GrammarRow parent r f → V f) → (f : Forest) → GrammarRow parent q f → One (is_token w) w q V f
  child w q r o e d v _ (ended h) = absurd (true_is_not_false (sym h ∙ e))
  child w q r o e d v _ (leaf_node_made {k = k} {t = t} {f = f} i h) = here_leaf w q r v k t f i (this_kind w k r (subst (λ z. GrammarRow parent z f) (d k) h))
  child w q r o e d v _ (node_started {k = k} {c = c} {f = f} i m x h) =
      here_node w q r v k c f i m x.1 (this_kind w k r (subst (λ z. GrammarRow parent z f) (d k) h))
  child w _ r o e d v f (passed h) = absurd (true_is_not_false o)

  -- a row begins with a child of the kind, or is viewed as another one
  one : (w : SyntaxKind) (q r s : Row) → (is_optional q ≡ true → q ≡ p.Optional w · s) → (may_end q ≡ true → may_end s ≡ true)
      → ((k : SyntaxKind) (c f : Forest) → GrammarRow parent (after s k) f → Fits parent q k c → Fits parent s k c)
      → ((k : SyntaxKind) (f : Forest) → GrammarRow parent (after q k) f → ((w ≡ k) × GrammarRow parent r f) ⊎ GrammarRow parent (after s k) f)
      → {V W : Forest → Type 0}
      → ((f : Forest) → GrammarRow parent r f → V f) → ((f : Forest) → GrammarRow parent s f → W f) → (f : Forest) → GrammarRow parent q f
      → One (is_token w) w q V f ⊎ W f
  one w q r s o e a step v u _ (ended h) = inr (u empty (ended (e h)))
  one w q r s o e a step v u _ (leaf_node_made {k = k} {t = t} {f = f} i h) =
      ⊎_elim (λ x. inl (here_leaf w q r v k t f i x)) (λ y. inr (u (leaf k t f) (leaf_node_made i y))) (step k f h)
  one w q r s o e a step v u _ (node_started {k = k} {c = c} {f = f} i m x h) =
      ⊎_elim (λ y. inl (here_node w q r v k c f i m x.1 y)) (λ y. inr (u (node k c f) (node_started i m (a k c f y x) y))) (step k f h)
  one w _ r s o e a step v u f (passed {w = x} {r = y} h) = inr (u f (subst (λ z. GrammarRow parent z f) (same_rest x w y s (o refl)) h))

  -- the next child has the kind, or not
  either : (w k : SyntaxKind) (r z : Row) {f : Forest} → GrammarRow parent (or_else (only (same_kind w k) r) z) f
      → ((w ≡ k) × GrammarRow parent r f) ⊎ GrammarRow parent z f
  either w k r z {f} h = by (same_kind w k) r refl h
    where
      by : (b : Bool) (r : Row) → same_kind w k ≡ b → GrammarRow parent (or_else (only b r) z) f → ((w ≡ k) × GrammarRow parent r f) ⊎ GrammarRow parent z f
      by true never e h = inr h
      by true r e h = inl ((same_kind-decides w k).0 e, h)
      by false r e h = inr h

  chosen : (w k : SyntaxKind) (r z : Row) {f : Forest} → GrammarRow parent (if same_kind w k then r else z) f
      → ((w ≡ k) × GrammarRow parent r f) ⊎ GrammarRow parent z f
  chosen w k r z {f} h = by (same_kind w k) refl h
    where
      by : (b : Bool) → same_kind w k ≡ b → GrammarRow parent (if b then r else z) f → ((w ≡ k) × GrammarRow parent r f) ⊎ GrammarRow parent z f
      by true e h = inl ((same_kind-decides w k).0 e, h)
      by false e h = inr h

  -- children that pass a test, and then one of a kind
  several : (b : SyntaxKind → Bool) (w : SyntaxKind) (q r : Row) → is_optional q ≡ false → may_end q ≡ false
      → ((k : SyntaxKind) (f : Forest) → GrammarRow parent (after q k) f → ((w ≡ k) × GrammarRow parent r f) ⊎ ((b k ≡ true) × GrammarRow parent q f))
      → {V : Forest → Type 0}
      → ((f : Forest) → GrammarRow parent r f → V f) → (f : Forest) → GrammarRow parent q f → Several b (Asks parent q) (One (is_token w) w q V) f
  several b w q r o e step v empty (ended h) = absurd (true_is_not_false (sym h ∙ e))
  several b w q r o e step v (leaf k t f) (leaf_node_made i h) =
      ⊎_elim (λ x. over (here_leaf w q r v k t f i x)) (λ y. and_leaf i y.0 (several b w q r o e step v f y.1)) (step k f h)
  several b w q r o e step v (node k c f) (node_started i m x h) =
      ⊎_elim (λ y. over (here_node w q r v k c f i m x.1 y)) (λ y. and_node i y.0 x.0 m (several b w q r o e step v f y.1)) (step k f h)
  several b w _ r o e step v f (passed h) = absurd (true_is_not_false o)

  -- the next child is the closing one, or passes the test
  closing : (w k : SyntaxKind) (b : Bool) (q r : Row) {f : Forest} → GrammarRow parent (if same_kind w k then r else only b q) f
      → ((w ≡ k) × GrammarRow parent r f) ⊎ ((b ≡ true) × GrammarRow parent q f)
  closing w k b q r h = ⊎_elim inl (λ x. inr (kept b q x)) (chosen w k r (only b q) h)

  going : (w k : SyntaxKind) (b : Bool) (q r : Row) {f : Forest} → GrammarRow parent (if b then q else only (same_kind w k) r) f
      → ((w ≡ k) × GrammarRow parent r f) ⊎ ((b ≡ true) × GrammarRow parent q f)
  going w k true q r h = inr (refl, h)
  going w k false q r h = inl (this_kind w k r h)

  piece_on : (w k : SyntaxKind) (r : Row) {f : Forest} → GrammarRow parent (after (p.Pieces · p.Wanted w · r) k) f
      → ((w ≡ k) × GrammarRow parent r f) ⊎ ((is_piece k ≡ true) × GrammarRow parent (p.Pieces · p.Wanted w · r) f)
  piece_on w K.TOKEN_STRING_CONTENT r h = inr (refl, h)
  piece_on w K.NODE_INTERPOL r h = inr (refl, h)
  piece_on w k r h = inl (this_kind w k r h)

  -- pieces of a path, up to the end of the row
  pieces : (r : Row) (f : Forest) → GrammarRow parent (p.PathPieces · r) f → Several continues_path (λ k c. Unit {0}) Ends f
  pieces r empty (ended h) = over ends
  pieces r (leaf k t f) (leaf_node_made i h) = let x = kept (continues_path k) (p.PathPieces · r) h in and_leaf i x.0 (pieces r f x.1)
  pieces r (node k c f) (node_started i m a h) = let x = kept (continues_path k) (p.PathPieces · r) h in and_node i x.0 tt m (pieces r f x.1)

  -- a row that requires an operand begins with it
  operand : (n : ℕ) (counted : Bool) (r : Row) {V : Forest → Type 0} → ((f : Forest) → GrammarRow parent r f → V f) → (f : Forest)
      → GrammarRow parent (p.Operand n counted · r) f → FirstNode (IsIn parent n) V f
  operand n counted r v _ (ended h) = absurd (true_is_not_false (sym h))
  operand n counted r v _ (leaf_node_made {k = k} i h) = absurd (no_kind_both is_token is_expression refl k i (fits_expression n k (kept (fits n k) r h).0))
  operand n counted r v _ (node_started {k = k} {f = f} i m a h) = let x = kept (fits n k) r h in stands (a.0 (fits_expression n k x.0)) (v f x.1)

  -- names of attributes with `.` between them
  path : (r : Row) (f : Forest) → GrammarRow parent (p.Attr · p.MoreAttrs · r) f → Attrpath f
  path r empty (ended h) = absurd (true_is_not_false (sym h))
  path r (leaf k t f) (leaf_node_made i h) = absurd (no_kind_both is_token is_attr refl k i (kept (is_attr k) (p.MoreAttrs · r) h).0)
  path r (node k c empty) (node_started i m a h) = last_attr (attr_of k (kept (is_attr k) (p.MoreAttrs · r) h).0 m)
  path r (node k c (leaf j t f)) (node_started i m a h) =
      let x = kept (is_attr k) (p.MoreAttrs · r) h in
      let y = kept (same_kind K.TOKEN_DOT j) (p.Attr · p.MoreAttrs · r) (past_leaf refl x.1) in
      subst (λ i. Attrpath (node k c (leaf i t f))) ((same_kind-decides K.TOKEN_DOT j).0 y.0) (attr_dot (attr_of k x.0 m) (path r f y.1))
  path r (node k c (node j d f)) (node_started i m a h) =
      let x = past_node refl (kept (is_attr k) (p.MoreAttrs · r) h).1 in
      absurd (no_kind_both is_node (same_kind K.TOKEN_DOT) refl j x.0 (kept (same_kind K.TOKEN_DOT j) (p.Attr · p.MoreAttrs · r) x.1).0)

  -- inside the braces of a pattern
  braces : (r : Row) {V : Forest → Type 0} → ((f : Forest) → GrammarRow parent r f → V f)
      → ((f : Forest) → GrammarRow parent (p.Wanted K.TOKEN_R_BRACE · r) f → Leads K.TOKEN_R_BRACE V f)
      → (f : Forest) → GrammarRow parent (p.FormalsAfterComma · r) f → Braces V f
  braces r v u empty (ended h) = absurd (true_is_not_false (sym h))
  braces r v u (leaf K.TOKEN_R_BRACE t f) (leaf_node_made i h) = closed (v f h)
  braces r {V = V} v u (leaf K.TOKEN_ELLIPSIS t f) (leaf_node_made i h) = dotted_row (u f h)
    where
      dotted_row : {g : Forest} → Leads K.TOKEN_R_BRACE V g → Braces V (leaf K.TOKEN_ELLIPSIS t g)
      dotted_row (leads q) = dotted q
  braces r v u (leaf K.NODE_PAT_ENTRY t f) (leaf_node_made i h) = absurd (true_is_not_false (sym i))
  braces r v u (leaf _ t f) (leaf_node_made i h) = lost h
  braces r v u (node K.NODE_PAT_ENTRY c empty) (node_started i m a (ended h)) = absurd (true_is_not_false (sym h))
  braces r v u (node K.NODE_PAT_ENTRY c (leaf K.TOKEN_R_BRACE t f)) (node_started i m a (leaf_node_made j h)) = last m (v f h)
  braces r v u (node K.NODE_PAT_ENTRY c (leaf K.TOKEN_COMMA t f)) (node_started i m a (leaf_node_made j h)) = comma m (braces r v u f h)
  braces r v u (node K.NODE_PAT_ENTRY c (leaf _ t f)) (node_started i m a (leaf_node_made j h)) = lost h
  braces r v u (node K.NODE_PAT_ENTRY c (node K.TOKEN_R_BRACE d f)) (node_started i m a (node_started j n x h)) = absurd (true_is_not_false (sym j))
  braces r v u (node K.NODE_PAT_ENTRY c (node K.TOKEN_COMMA d f)) (node_started i m a (node_started j n x h)) = absurd (true_is_not_false (sym j))
  braces r v u (node K.NODE_PAT_ENTRY c (node _ d f)) (node_started i m a (node_started j n x h)) = lost h
  braces r v u (node K.TOKEN_R_BRACE c f) (node_started i m a h) = absurd (true_is_not_false (sym i))
  braces r v u (node K.TOKEN_ELLIPSIS c f) (node_started i m a h) = absurd (true_is_not_false (sym i))
  braces r v u (node _ c f) (node_started i m a h) = lost h

-- the children of each row have their view
pub view : (parent : SyntaxKind) (r : Row) (f : Forest) → GrammarRow parent r f → View parent r f
view i never f h = lost i h
view i ((p.Child w · r) or (p.Child v · s)) f h = one i w ((p.Child w · r) or (p.Child v · s)) r (p.Child v · s) (λ e. cc) (λ e. cc) (λ k c f h x. x)
    (λ k f h. either i w k r (after (p.Child v · s) k) h) (view i r) (child i v (p.Child v · s) s refl refl (λ k. refl) (view i s)) f h
view i ((p.Child w · r) or ((p.Child v · s) or z)) f h =
    one i w ((p.Child w · r) or ((p.Child v · s) or z)) r ((p.Child v · s) or z) (λ e. cc) (λ e. cc) (λ k c f h x. x)
    (λ k f h. either i w k r (after ((p.Child v · s) or z) k) h) (view i r) (view i ((p.Child v · s) or z)) f h
view i (p.Child w · r) f h = child i w (p.Child w · r) r refl refl (λ k. refl) (view i r) f h
view i (p.Wanted w · r) f h = child i w (p.Wanted w · r) r refl refl (λ k. refl) (view i r) f h
view i (p.Attrpath · r) f h = child i K.NODE_ATTRPATH (p.Attrpath · r) r refl refl (λ k. refl) (view i r) f h
view i (p.EndOr w · r) f h = one i w (p.EndOr w · r) r done (λ e. cc) (λ e. refl) (λ k c f h x. lost i h) (λ k f h. inl (this_kind i w k r h)) (view i r)
    (λ f h. over_here i done refl (λ k. refl) h) f h
view i (p.Optional w · p.Names · r) f h = one i w (p.Optional w · p.Names · r) (p.Names · r) (p.Names · r) (λ e. refl) (λ e. e) (λ k c f h x. x)
    (λ k f h. chosen i w k (p.Names · r) (after (p.Names · r) k) h) (view i (p.Names · r)) (view i (p.Names · r)) f h
view i (p.Operand n counted · r) f h = operand i n counted r (view i r) f h
view i (p.Many n w · r) f h = several i (fits n) w (p.Many n w · r) r refl refl (λ k f h. closing i w k (fits n k) (p.Many n w · r) r h) (view i r) f h
view i (p.Entries w · r) f h = several i is_entry w (p.Entries w · r) r refl refl (λ k f h. closing i w k (is_entry k) (p.Entries w · r) r h) (view i r) f h
view i (p.Names · p.Wanted w · r) f h = several i is_attr w (p.Names · p.Wanted w · r) r refl refl
    (λ k f h. going i w k (is_attr k) (p.Names · p.Wanted w · r) r h) (view i r) f h
view i (p.Pieces · p.Wanted w · r) f h = several i is_piece w (p.Pieces · p.Wanted w · r) r refl refl (λ k f h. piece_on i w k r h) (view i r) f h
view i (p.PathPieces · r) f h = pieces i r f h
view i (p.Attr · p.MoreAttrs · r) f h = path i r f h
view i (p.Formals · r) f h = braces i r (view i r) (child i K.TOKEN_R_BRACE (p.Wanted K.TOKEN_R_BRACE · r) r refl refl (λ k. refl) (view i r)) f
    (alike i (p.FormalsAfterComma · r) (p.Formals · r) refl (λ h. h) (λ k c h. h) (λ H k no h. h) h)
view i (p.FormalsAfterComma · r) f h = braces i r (view i r) (child i K.TOKEN_R_BRACE (p.Wanted K.TOKEN_R_BRACE · r) r refl refl (λ k. refl) (view i r)) f h
view i done f h = over_here i done refl (λ k. refl) h
view i (p.BoundAlready · r) f h = over_here i (p.BoundAlready · r) refl (λ k. refl) h
view i (p.TextEnd · r) f h = over_here i (p.TextEnd · r) refl (λ k. refl) h
view i r f h = tt
