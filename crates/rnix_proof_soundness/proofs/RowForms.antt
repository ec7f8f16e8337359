-- What the repaired children of a node are in the strict grammar, by the parts of its row: each row gives its form.
use Rattle.std.proofs.Common.{◌≡◌, ◌⊎◌, inl, inr, ℕ, suc, Bool, true, false, List, [], ◌∷◌, refl, sym, ◌∙◌, subst, arith, if◌then◌else◌}
use Rattle.{std.proofs.lemmas.Bool.Decides.nat_tests, rnix_kinds.specs.{declared.kinds.SyntaxKind.SyntaxKind, SyntaxKind.is_token}}
use Rattle.{rnix_green.specs.Forest.{Forest, empty, leaf, node}, rnix_grammar.specs.{AnnotatedForest.AnnotatedForest, Tables.{is_among, is_or}}}
use Rattle.rnix_grammar.specs.{Levels.{expression_level, selection_level}, TokenKinds.is_path_piece, Extensions.{is_one, node_count, is_extension}}
use Rattle.rnix_grammar.specs.{Rules.{Row, done, ◌·◌, row}, declared.rules.Part.TheVariants.EndOr}
use Rattle.rnix_grammar.specs.{NodeClasses.{fits, is_atom, is_attr, is_entry, is_expression}, AllowedNames.is_named, TreeLevels.level_of}
use Rattle.rnix_proof_lemmas.proofs.{Basics.{not_if, true_is_not_false}, EveryKind.{not_together, whenever_both, never as no_kind_both}, KindsOfNodes.fits_expression}
use Rattle.rnix_proof_soundness.proofs.RowViews.{begins_with_leaf, entry_text, IsBind, binds_before, binds_behind, IsPart, IsIn, Offers, attr_of, is_piece, continues_path}
use Rattle.rnix_proof_soundness.proofs.RowViews.{Ends, ends, Leads, leads, heads, One, FirstNode, stands, Several, over, and_leaf, and_node}
use Rattle.rnix_proof_soundness.proofs.RowViews.{Braces, closed, dotted, last, comma, View}
use Rattle.rnix_grammar.specs.Grammar as G
use Rattle.rnix_kinds.specs.declared.kinds.SyntaxKind.TheVariants as K

-- no entry of a pattern has one of these names, or the name of an entry before it
abbrev pub are_entries_new : List (List ℕ) → Forest → Bool
are_entries_new names empty = true
are_entries_new names (leaf k t f) = are_entries_new names f
are_entries_new names (node K.NODE_PAT_ENTRY c f) = if is_among (entry_text c) names then false else are_entries_new (entry_text c ∷ names) f
are_entries_new names (node k c f) = are_entries_new names f

-- the highest level of a node in the grammar: that of its row, except that a lambda is at the lowest
abbrev pub tightest : SyntaxKind → AnnotatedForest → ℕ
tightest K.NODE_LAMBDA c = expression_level
tightest k c = level_of k c

-- what `.` may follow in the grammar
abbrev pub is_closed : SyntaxKind → Bool
is_closed K.NODE_LAMBDA = false
is_closed k = is_atom k

-- if the node is a name, it is one that an expression may be
abbrev pub is_value : SyntaxKind → AnnotatedForest → Bool
is_value k c = is_named done k c

-- what a node with these repaired children is in the grammar
pub record IsMade (k : SyntaxKind) (c : AnnotatedForest) (g : Forest) : Type 0 where
  pub atom : is_closed k ≡ true → is_value k c ≡ true → G.Atom k g
  pub strict : is_expression k ≡ true → is_value k c ≡ true → G.Strict (tightest k c) k g
  pub part : (parent : SyntaxKind) → (if is_extension parent k g then false else true) ≡ true → IsPart k g

-- a part of an expression, an atom, and another expression
of_part : {k : SyntaxKind} {c : AnnotatedForest} {g : Forest} → is_expression k ≡ false → is_closed k ≡ false
    → ((parent : SyntaxKind) → (if is_extension parent k g then false else true) ≡ true → IsPart k g) → IsMade k c g
of_part e a m = record { atom = λ h n. absurd (true_is_not_false (sym h ∙ a)); strict = λ h n. absurd (true_is_not_false (sym h ∙ e)); part = m }

of_atom : {k : SyntaxKind} {c : AnnotatedForest} {g : Forest} → tightest k c ≡ selection_level → G.Atom k g → IsPart k g → IsMade k c g
of_atom {k = k} {g = g} l a m = record { atom = λ h n. a; strict = λ h n. subst (λ n. G.Strict n k g) (sym l) (G.atom a); part = λ i h. m }

pub of_strict : {k : SyntaxKind} {c : AnnotatedForest} {g : Forest} → is_closed k ≡ false → G.Strict (tightest k c) k g → IsPart k g → IsMade k c g
of_strict n a m = record { atom = λ h i. absurd (true_is_not_false (sym h ∙ n)); strict = λ e i. a; part = λ i h. m }

-- a name that passes the test against `or` is not `or`
other_name : (t : List ℕ) → (if is_or t then false else true) ≡ true → is_or t ≡ false
other_name t h = not_if (is_or t) h

-- an interpolation as an attribute contains one tree
one_tree : (w : Bool) → (if (if w then false else true) then false else true) ≡ true → w ≡ true
one_tree true h = refl
one_tree false h = h

-- several children
operand_token : {A : Type 0} (n : ℕ) (k : SyntaxKind) → is_token k ≡ true → fits n k ≡ true → A
operand_token n k i h = absurd (no_kind_both is_token is_expression refl k i (fits_expression n k h))

items : {f : Forest} → Several (fits selection_level) (Offers K.NODE_LIST selection_level) (Leads K.TOKEN_R_BRACK Ends) f → G.Items f
items (over (leads ends)) = G.list_end
items (and_leaf {k = k} i b r) = operand_token selection_level k i b
items (and_node {k = k} i b a m r) = G.item (a (fits_expression selection_level k b) refl) (items r)

dynamic : {t : List ℕ} {f : Forest} → Several (fits expression_level) (Offers K.NODE_DYNAMIC expression_level) (Leads K.TOKEN_INTERPOL_END Ends) f
    → is_one (node_count f) ≡ true
    → G.Attr K.NODE_DYNAMIC (leaf K.TOKEN_INTERPOL_START t f)
dynamic (over (leads ends)) o = absurd (true_is_not_false (sym o))
dynamic (and_leaf {k = k} i b r) o = operand_token expression_level k i b
dynamic (and_node {k = k} i b a m (over (leads ends))) o = G.dynamic_attr (a (fits_expression expression_level k b) refl)
dynamic (and_node i b a m (and_leaf {k = k} j d r)) o = operand_token expression_level k j d
dynamic (and_node i b a m (and_node {f = f} j d e n r)) o = absurd (two (node_count f) o)
  where
    two : (n : ℕ) → is_one (suc (suc n)) ≡ true → ⊥
    two n o = grind (arith, nat_tests, o)

pieces : {a : SyntaxKind → Forest → Type 0} {f : Forest} → Several is_piece a (Leads K.TOKEN_STRING_END Ends) f → G.Pieces f
pieces (over (leads ends)) = G.string_end
pieces (and_leaf {k = K.TOKEN_STRING_CONTENT} i b r) = G.content (pieces r)
pieces (and_leaf {k = _} i b r) = absurd (not_together refl i b)
pieces (and_node {k = K.NODE_INTERPOL} i b a m r) = G.interpolated m (pieces r)
pieces (and_node {k = _} i b a m r) = absurd (not_together refl i b)

path_pieces : {a : SyntaxKind → Forest → Type 0} {f : Forest} → Several continues_path a Ends f → G.PathPieces f
path_pieces (over ends) = G.pieces_end
path_pieces (and_leaf {k = k} i b r) = G.piece (whenever_both is_token continues_path is_path_piece refl k i b) (path_pieces r)
path_pieces (and_node {k = K.NODE_INTERPOL} i b a m r) = G.piece_on m (path_pieces r)
path_pieces (and_node {k = _} i b a m r) = absurd (not_together refl i b)

path_end_of : {a : SyntaxKind → Forest → Type 0} {r : Row} {f : Forest} → One false K.NODE_INTERPOL r (Several continues_path a Ends) f ⊎ Ends f → G.PathEnd f
path_end_of (inl (heads m b v)) = G.path_on m (path_pieces v)
path_end_of (inr ends) = G.path_end

names : {a : SyntaxKind → Forest → Type 0} {f : Forest} → Several is_attr a (Leads K.TOKEN_SEMICOLON Ends) f → G.Names f
names (over (leads ends)) = G.names_end
names (and_leaf {k = k} i b r) = absurd (no_kind_both is_token is_attr refl k i b)
names (and_node {k = k} i b a m r) = G.inherited (attr_of k b m) (names r)

gather : {a : SyntaxKind → Forest → Type 0} {w : SyntaxKind} {Q : Forest → Type 0} {f : Forest} {T : Type 0} → Several is_entry a (Leads w Q) f
    → ((t : List ℕ) (g : Forest) → G.Entries f (leaf w t g) → Q g → T) → T
gather (over (leads q)) n = n _ _ G.entries_end q
gather (and_leaf {k = k} i b r) n = absurd (no_kind_both is_token is_entry refl k i b)
gather (and_node {k = K.NODE_INHERIT} i b a m r) n = gather r (λ t h e q. n t h (G.inheriting m e) q)
gather (and_node {k = K.NODE_ATTRPATH_VALUE} i b a m r) n = gather r (λ t h e q. n t h (G.binding m e) q)
gather (and_node {k = _} i b a m r) n = absurd (true_is_not_false (sym b))

ended : {w : SyntaxKind} {t : List ℕ} {f g : Forest} → G.Entries f (leaf w t g) → Ends g → G.Entries f (leaf w t empty)
ended e ends = e

let_of : {s t : List ℕ} {f g : Forest} → G.Entries f (leaf K.TOKEN_IN t g) → FirstNode (IsIn K.NODE_LET_IN expression_level) Ends g
    → G.Strict expression_level K.NODE_LET_IN (leaf K.TOKEN_LET s f)
let_of e (stands d ends) = G.let_in e (d refl)

-- the children of a pattern
new_name : (x : List ℕ) (known : List (List ℕ)) (f : Forest) → (if is_among x known then false else are_entries_new (x ∷ known) f) ≡ true
    → (is_among x known ≡ false) × (are_entries_new (x ∷ known) f ≡ true)
new_name x known f h = by (is_among x known) h
  where
    by : (w : Bool) → (if w then false else are_entries_new (x ∷ known) f) ≡ true → (w ≡ false) × (are_entries_new (x ∷ known) f ≡ true)
    by true e = absurd (true_is_not_false (sym e))
    by false e = (refl, e)

formals : {bound : Bool} {Q : Forest → Type 0} {f : Forest} → ((g : Forest) → Q g → G.PatternEnd bound g) → (known : List (List ℕ)) → Braces Q f
    → are_entries_new known f ≡ true
    → G.Formals bound known f
formals e known (closed q) n = G.formals_end (e _ q)
formals e known (dotted q) n = G.ellipsis (e _ q)
formals e known (last {c = c} {f = f} x q) n = G.last_entry (new_name (entry_text c) known f n).0 x (e f q)
formals e known (comma {c = c} {f = f} x r) n = let w = new_name (entry_text c) known f n in G.entry_comma w.0 x (formals e (entry_text c ∷ known) r w.1)

end_bound : (f : Forest) → Ends f → G.PatternEnd true f
end_bound _ ends = G.pattern_end

bound_end : {c : Forest} → IsBind c → begins_with_leaf c ≡ true → G.PatternEnd false (node K.NODE_PAT_BIND c empty)
bound_end (binds_before o) e = absurd (true_is_not_false (sym e))
bound_end (binds_behind o) e = G.bound_behind o

end_free : (f : Forest) → One false K.NODE_PAT_BIND (EndOr K.NODE_PAT_BIND · done) Ends f ⊎ Ends f → G.PatternEnd false f
end_free _ (inl (heads m b ends)) = bound_end m b
end_free _ (inr ends) = G.pattern_end

bound_first : {c f : Forest} {t : List ℕ} → IsBind c → (if begins_with_leaf c then false else true) ≡ true → G.Formals true [] f
    → G.Parameter K.NODE_PATTERN (node K.NODE_PAT_BIND c (leaf K.TOKEN_L_BRACE t f))
bound_first (binds_before o) e h = G.bound_pattern o h
bound_first (binds_behind o) e h = absurd (true_is_not_false (sym e))

-- the nodes whose level or name depends on their tokens
abbrev pub depends_on_tokens : SyntaxKind → Bool
depends_on_tokens K.NODE_IDENT = true
depends_on_tokens K.NODE_CUR_POS = true
depends_on_tokens K.NODE_SELECT = true
depends_on_tokens K.NODE_HAS_ATTR = true
depends_on_tokens K.NODE_APPLY = true
depends_on_tokens K.NODE_UNARY_OP = true
depends_on_tokens K.NODE_BIN_OP = true
depends_on_tokens k = false

-- the children of each other node are what the grammar requires
pub made : (k : SyntaxKind) (c : AnnotatedForest) (g : Forest) → depends_on_tokens k ≡ false → View k (row k) g
    → (k ≡ K.NODE_PATTERN → are_entries_new [] g ≡ true)
    → IsMade k c g
made K.NODE_STRING c _ e (leads v) n =
    record { atom = λ h i. G.string (pieces v); strict = λ h i. G.atom (G.string (pieces v)); part = λ i h. G.string_attr (pieces v) }
made K.NODE_PAREN c _ e (leads (stands a (leads ends))) n = of_atom refl (G.paren (a refl)) tt
made K.NODE_ATTR_SET c _ e (inl (leads v)) n = of_atom refl (gather v (λ t h e q. G.set (ended e q))) tt
made K.NODE_ATTR_SET c _ e (inr (leads (leads v))) n = of_atom refl (gather v (λ t h e q. G.rec_set (ended e q))) tt
made K.NODE_LIST c _ e (leads v) n = of_atom refl (G.list (items v)) tt
made K.NODE_PATH_ABS c _ e (leads v) n = of_atom refl (G.path_abs (path_end_of v)) tt
made K.NODE_PATH_REL c _ e (leads v) n = of_atom refl (G.path_rel (path_end_of v)) tt
made K.NODE_PATH_HOME c _ e (leads v) n = of_atom refl (G.path_home (path_end_of v)) tt
made K.NODE_PATH_SEARCH c _ e (leads ends) n = of_atom refl G.path_search tt
made K.NODE_LITERAL c _ e (inl (leads ends)) n = of_atom refl (G.literal refl) tt
made K.NODE_LITERAL c _ e (inr (inl (leads ends))) n = of_atom refl (G.literal refl) tt
made K.NODE_LITERAL c _ e (inr (inr (leads ends))) n = of_atom refl (G.literal refl) tt
made K.NODE_DYNAMIC c _ e (leads v) n = of_part refl refl (λ i h. dynamic v (one_tree _ h))
made K.NODE_INTERPOL c _ e (leads (stands a (leads ends))) n = of_part refl refl (λ i h. G.interpol (a refl))
made K.NODE_ATTRPATH c _ e v n = of_part refl refl (λ i h. v)
made K.NODE_ATTRPATH_VALUE c _ e (heads m b (leads (stands a (leads ends)))) n = of_part refl refl (λ i h. G.bind m (a refl))
made K.NODE_INHERIT c _ e (leads (inl (heads m b v))) n = of_part refl refl (λ i h. G.inherit_from m (names v))
made K.NODE_INHERIT c _ e (leads (inr v)) n = of_part refl refl (λ i h. G.inherit_names (names v))
made K.NODE_INHERIT_FROM c _ e (leads (stands a (leads ends))) n = of_part refl refl (λ i h. G.source (a refl))
made K.NODE_IDENT_PARAM c _ e (heads (G.named_attr {s = t}) b ends) n = of_part refl refl (λ i h. G.parameter (other_name t b))
made K.NODE_PATTERN c _ e (inl (leads v)) n = of_part refl refl (λ i h. G.pattern (formals end_free [] v (n refl)))
made K.NODE_PATTERN c _ e (inr (heads m b (leads v))) n = of_part refl refl (λ i h. bound_first m b (formals end_bound [] v (n refl)))
made K.NODE_PAT_BIND c _ e (inl (heads (G.named_attr {s = t}) b (leads ends))) n = of_part refl refl (λ i h. binds_before (other_name t b))
made K.NODE_PAT_BIND c _ e (inr (leads (heads (G.named_attr {s = t}) b ends))) n = of_part refl refl (λ i h. binds_behind (other_name t b))
made K.NODE_PAT_ENTRY c _ e (heads (G.named_attr {s = t}) b (inl (leads (stands a ends)))) n = of_part refl refl
    (λ i h. G.default_entry (other_name t b) (a refl))
made K.NODE_PAT_ENTRY c _ e (heads (G.named_attr {s = t}) b (inr ends)) n = of_part refl refl (λ i h. G.entry (other_name t b))
made K.NODE_LAMBDA c _ e (inl (heads m b (leads (stands a ends)))) n = of_strict refl (G.lambda m (a refl)) tt
made K.NODE_LAMBDA c _ e (inr (heads m b (leads (stands a ends)))) n = of_strict refl (G.lambda m (a refl)) tt
made K.NODE_LEGACY_LET c _ e (leads (leads v)) n = of_strict refl (gather v (λ t h e q. G.legacy_let (ended e q))) tt
made K.NODE_LET_IN c _ e (leads v) n = of_strict refl (gather v (λ t h e q. let_of e q)) tt
made K.NODE_WITH c _ e (leads (stands a (leads (stands b ends)))) n = of_strict refl (G.with_scope (a refl) (b refl)) tt
made K.NODE_ASSERT c _ e (leads (stands a (leads (stands b ends)))) n = of_strict refl (G.assertion (a refl) (b refl)) tt
made K.NODE_IF_ELSE c _ e (leads (stands a (leads (stands b (leads (stands d ends)))))) n = of_strict refl (G.if_else (a refl) (b refl) (d refl)) tt
made K.NODE_ROOT c g e v n = of_part refl refl (λ i h. tt)
made _ c g e v n = absurd (first_of (assumption, cc))
