-- What is known of a forest that is read: its tokens are spelled, its names are where they may be, and its nodes have their forms in the grammar.
use Rattle.std.proofs.Common.{◌≡◌, ⊎_elim, ℕ, ◌≤◌, Bool, true, false, List, Option, Some, None, refl, ap, sym, ◌∙◌, subst, codes, arith, if◌then◌else◌, ◌||◌}
use Rattle.{std.proofs.{Common.{nat_eq, nat_le}, lemmas.Bool.{and_parts, or_cases, Decides.nat_tests}}, rnix_kinds.specs.declared.kinds.SyntaxKind.SyntaxKind}
use Rattle.rnix_kinds.specs.declared.kinds.SyntaxKind.TheVariants.{TOKEN_CUR_POS, TOKEN_IDENT, TOKEN_INTEGER, TOKEN_OR, TOKEN_R_BRACE, NODE_CUR_POS, NODE_IDENT}
use Rattle.rnix_kinds.specs.{declared.kinds.SyntaxKind.TheVariants.{NODE_LAMBDA, NODE_LITERAL, NODE_PAT_BIND, NODE_PAT_ENTRY}, SyntaxKind.is_token}
use Rattle.{rnix_green.specs.{Equality.same_kind, Forest.{Forest, empty, leaf, node}}, rnix_grammar.specs.{NodeClasses.{is_attr, is_expression}, Rules.{Row, never}}}
use Rattle.rnix_grammar.specs.{Rules.{done, ◌·◌, ◌or◌, after, only, may_end, run_at, level_at, IsFollowed}, BehindErrors.{after_run, after_error}}
use Rattle.rnix_grammar.specs.{FirstKinds.IsOperandOf, Levels.selection_level, AnnotatedForest.{Token, Note, Stray, Unwanted, Extra, DoubleBind, TooDeep}}
use Rattle.rnix_grammar.specs.AnnotatedForest.{AnnotatedForest, blank, token, branch, fault, ◌⊕◌, one_token, one_branch, one_fault, leaf_kind, leaf_kind_as}
use Rattle.rnix_grammar.specs.{AllowedNames.{is_name_at, is_named_in, is_plain}, Named.{begins_with_token, is_repeated, is_name_allowed, Lacks}}
use Rattle.rnix_grammar.specs.{Extensions.{holds_no_lambda, is_extension}, Repaired.repaired, Reports.{entry_name, only_token, repeats}, TreeLevels.is_atom_row}
use Rattle.rnix_grammar.specs.{TreeLevels.{is_or_row, level_of}, TokenKinds.is_or, Grammar.{Strict, looser, literal, atom}, declared.rules.Part.Part}
use Rattle.rnix_proof_lemmas.{specs.{LeafKinds.is_node, Spelled.is_spelled}, proofs.{Basics.{not_if, true_is_not_false}, EveryKind.whenever_two}}
use Rattle.{rnix_proof_lemmas.proofs.LevelLemmas.at_most, rnix_proof_soundness.proofs.RowViews.{begins_with_leaf, entry_text, Offers, Asks, binds, names_or}}
use Rattle.rnix_proof_soundness.proofs.{RowViews.{GrammarRow, ended, leaf_node_made, node_started, passed, alike, lost}, RowForms.{tightest, is_value, IsMade}}
use Rattle.rnix_grammar.specs.Tables as tables
use Rattle.rnix_grammar.specs.declared.rules.Part.TheVariants as p

-- a spelled token has the kind of a token, and so has its leaf
spelled_token : (kind : SyntaxKind) (text : List ℕ) → is_spelled kind text ≡ true → is_token kind ≡ true
spelled_token TOKEN_OR text h = refl
spelled_token TOKEN_IDENT text h = refl
spelled_token TOKEN_CUR_POS text h = refl
spelled_token kind text h = h

leaf_token : (parent kind : SyntaxKind) (text : List ℕ) → is_spelled kind text ≡ true → is_token (leaf_kind_as parent kind) ≡ true
leaf_token parent kind text h = whenever_two (λ p k. is_token k) (λ p k. is_token (leaf_kind_as p k)) refl parent kind (spelled_token kind text h)

-- a name is one token, which is `or` exactly if its text is
pub data IsName : AnnotatedForest → Type 0 where
  name : {t : Token} → tables.is_or t.text ≡ is_or t.kind → IsName (token TOKEN_IDENT t blank)

-- the name of an entry
pub record IsEntry (c : AnnotatedForest) : Type 0 where
  pub name : Token
  pub said : entry_name c ≡ Some name
  pub same : entry_text (repaired c) ≡ name.text

-- what is known of the tokens of a node, by its kind
abbrev pub Tokens : SyntaxKind → AnnotatedForest → Type 0
Tokens NODE_IDENT c = IsName c
Tokens NODE_PAT_ENTRY c = IsEntry c
Tokens NODE_PAT_BIND c = begins_with_leaf (repaired c) ≡ begins_with_token c
Tokens k c = Unit {0}

-- where the argument of a call is the name `or`, the function is an atom
abbrev pub Calls : Row → AnnotatedForest → AnnotatedForest → Type 0
Calls (p.Argument · r) b x = is_or_row x ≡ true → is_atom_row b ≡ true
Calls q b x = Unit {0}

-- what is known of a leaf, and of a node, at this rest of a row, after other trees
pub record IsLeaf (parent : SyntaxKind) (q : Row) (b : AnnotatedForest) (k : SyntaxKind) (t : Token) : Type 0 where
  pub kind_is : k ≡ leaf_kind parent t
  pub spelled : is_spelled t.kind t.text ≡ true
  pub followed : IsFollowed q b (Some k)

pub record IsChild (parent : SyntaxKind) (q : Row) (b : AnnotatedForest) (k : SyntaxKind) (c : AnnotatedForest) : Type 0 where
  pub node : is_node k ≡ true
  pub made : IsMade k c (repaired c)
  pub tokens : Tokens k c
  pub next : List Token
  pub operand : IsOperandOf (level_at q (one_branch k c)) (one_branch k c) next
  pub called : Calls q b (one_branch k c)
  pub suited : is_name_allowed q k c ≡ true
  pub extension : (if is_extension parent k (repaired c) then false else true) ≡ true
  pub new : Lacks is_repeated (repeats k b c)

-- where error nodes that are no operands may be
abbrev pub Skips : Note → Row → Type 0
Skips Extra q = q ≡ p.TextEnd · done
Skips DoubleBind q = q ≡ p.BoundAlready · done
Skips note q = Unit {0}

-- what is known of each tree of a forest, at this rest of the row
abbrev pub IsSound : SyntaxKind → Row → AnnotatedForest → AnnotatedForest → Type 0
IsSound parent q b blank = may_end q ≡ true
IsSound parent q b (token k t f) = IsLeaf parent q b k t × IsSound parent (after q k) (b ⊕ one_token k t) f
IsSound parent q b (branch k c f) = IsChild parent q b k c × IsSound parent (after q k) (b ⊕ one_branch k c) f
IsSound parent q b (fault n c f) = Skips n q × IsSound parent (after_error q n) (b ⊕ one_fault n c) f

-- a row with a part next
abbrev is_part : Row → Bool
is_part (x · r) = true
is_part r = false

pub no_part : {A : Type 0} (q : Row) {x : Part} {r : Row} → is_part q ≡ false → q ≡ x · r → A
no_part q n e = absurd (true_is_not_false (sym (ap is_part e) ∙ n))

-- no forest fits `never`
pub nowhere : {A : Type 0} (parent : SyntaxKind) (b f : AnnotatedForest) → IsSound parent never b f → A
nowhere parent b blank h = absurd (true_is_not_false (sym h))
nowhere parent b (token k t f) h = nowhere parent (b ⊕ one_token k t) f h.1
nowhere parent b (branch k c f) h = nowhere parent (b ⊕ one_branch k c) f h.1
nowhere parent b (fault DoubleBind c f) h = no_part never refl h.0
nowhere parent b (fault n c f) h = nowhere parent (b ⊕ one_fault n c) f h.1

-- a leaf of a forest that is read is a token
pub leaf_is_token : {parent : SyntaxKind} {q : Row} {b : AnnotatedForest} {k : SyntaxKind} {t : Token} → IsLeaf parent q b k t → is_token k ≡ true
leaf_is_token {parent = parent} {t = t} h = ap is_token h.kind_is ∙ leaf_token parent t.kind t.text h.spelled

-- the number that replaces an operand
abbrev pub zero : Forest
zero = leaf TOKEN_INTEGER (codes "0") empty

number_in : (parent : SyntaxKind) (n : ℕ) → Offers parent n NODE_LITERAL zero
number_in parent n i h = looser (at_most n selection_level (and_parts (nat_le n selection_level) (nat_eq n 0 || holds_no_lambda parent) h).0)
    (atom (literal refl))

number_asked : (parent : SyntaxKind) (q : Row) → Asks parent q NODE_LITERAL zero
number_asked parent (p.Operand n counted · r) = number_in parent n
number_asked parent (p.Many n w · r) = number_in parent n
number_asked parent _ = tt

-- a name that is allowed at a position is named as required there
allowed_named : (q : Row) (k : SyntaxKind) (c : AnnotatedForest) → is_name_allowed q k c ≡ true → is_named_in q k (only_token c) ≡ true
allowed_named q NODE_PAT_BIND c h = elim (only_token c) as (λ o. is_named_in q NODE_PAT_BIND o ≡ true) [ None ↦ refl | Some t ↦ refl ]
allowed_named q k c h = h

-- a name that must be plain at its position may be an expression
pub named_value : (q : Row) (k : SyntaxKind) (c : AnnotatedForest) → (k ≡ NODE_IDENT → (t : Token) → is_name_at q t ≡ true → is_plain t ≡ true)
    → is_name_allowed q k c ≡ true → is_value k c ≡ true
named_value q k c plain h = by k (only_token c) plain (allowed_named q k c h)
  where
    by : (k : SyntaxKind) (o : Option Token) → (k ≡ NODE_IDENT → (t : Token) → is_name_at q t ≡ true → is_plain t ≡ true) → is_named_in q k o ≡ true
        → is_named_in done k o ≡ true
    by k None plain h = refl
    by NODE_IDENT (Some t) plain h = plain refl t h
    by NODE_CUR_POS (Some t) plain h = h
    by k (Some t) plain h = refl

-- if a tree is no accepted extension, a level that is not above its own is not above its highest level in the grammar
bounded : (parent k : SyntaxKind) (c : AnnotatedForest) (g : Forest) (n : ℕ) → n ≤ level_of k c → (if is_extension parent k g then false else true) ≡ true
    → (nat_eq n 0 || holds_no_lambda parent) ≡ true → n ≤ tightest k c
bounded parent NODE_LAMBDA c g n l m o = ⊎_elim (λ e. grind (arith, nat_tests, e))
    (λ e. absurd (true_is_not_false (sym e ∙ not_if (holds_no_lambda parent) m))) (or_cases (nat_eq n 0) (holds_no_lambda parent) o)
bounded parent _ c g n l m o = l

pub level_operand : {parent k : SyntaxKind} {q : Row} {b c : AnnotatedForest} (n : ℕ) → IsChild parent q b k c → is_expression k ≡ true
    → is_value k c ≡ true → n ≤ level_of k c → (nat_eq n 0 || holds_no_lambda parent) ≡ true → Strict n k (repaired c)
level_operand {parent = parent} {k = k} {c = c} n h e named l o = looser (bounded parent k c (repaired c) n l h.extension o) (h.made.strict e named)

-- a child that is at least as tight as a level is an operand of that level
offered : {parent k : SyntaxKind} {q : Row} {b c : AnnotatedForest} (n : ℕ) → IsChild parent q b k c → is_value k c ≡ true → n ≤ level_of k c
    → Offers parent n k (repaired c)
offered {parent = parent} n h v l i o = level_operand n h i v l (and_parts (nat_le n selection_level) (nat_eq n 0 || holds_no_lambda parent) o).1

asked : (parent : SyntaxKind) (q : Row) (b : AnnotatedForest) (k : SyntaxKind) (c : AnnotatedForest) → IsChild parent q b k c → Asks parent q k (repaired c)
asked parent (p.Operand n counted · r) b k c h = offered n h (named_value (p.Operand n counted · r) k c (λ i t e. e) h.suited) h.operand.0
asked parent (p.Many n w · r) b k c h = offered n h (named_value (p.Many n w · r) k c (λ i t e. e) h.suited) h.operand.0
asked parent _ b k c h = tt

-- the bound name of a pattern is where it may be
bound_at : (q : Row) (c : AnnotatedForest) → begins_with_leaf (repaired c) ≡ begins_with_token c → is_name_allowed q NODE_PAT_BIND c ≡ true
    → binds q NODE_PAT_BIND (repaired c) ≡ true
bound_at (p.EndOr w · r) c e h = e ∙ h
bound_at _ c e h = ap (λ w. if w then false else true) e ∙ h

-- a name is `or` only where it may be
without_or : (w v : Bool) → (if w then false else v) ≡ true → (if w then false else true) ≡ true
without_or true v h = h
without_or false v h = refl

or_there : (q : Row) (t : Token) → is_name_at q t ≡ true → (if names_or q then true else (if is_or t.kind then false else true)) ≡ true
or_there (p.Attr · r) t h = refl
or_there (p.Names · r) t h = refl
or_there (p.Argument · r) t h = refl
or_there (p.Optional w · r) t h = or_there r t h
or_there (p.Child w · r) t h = h
or_there (p.Wanted w · r) t h = h
or_there (r or s) t h = or_there r t h
or_there _ t h = without_or (is_or t.kind) _ h

name_at : (q : Row) {c : AnnotatedForest} → IsName c → is_name_allowed q NODE_IDENT c ≡ true → binds q NODE_IDENT (repaired c) ≡ true
name_at q (name {t = t} e) h = ap (λ w. if names_or q then true else (if w then false else true)) e ∙ or_there q t h

bound_child : (q : Row) (k : SyntaxKind) (c : AnnotatedForest) → Tokens k c → is_name_allowed q k c ≡ true → binds q k (repaired c) ≡ true
bound_child q NODE_PAT_BIND c e h = bound_at q c e h
bound_child q NODE_IDENT c e h = name_at q e h
bound_child q k c e h = refl

-- after a run of unwanted tokens a row continues as before it
only_if : (H : Row → Type 0) (w : Bool) (r s : Row) → ((r : Row) → H never → H r) → H (only w r) → H (if w then r else s)
only_if H true r s none h = h
only_if H false r s none h = none s h

braced : (H : Row → Type 0) (r : Row) (k : SyntaxKind) → ((r : Row) → H never → H r) → H (only (same_kind TOKEN_R_BRACE k) r) → H (after (p.Comma · r) k)
braced H r TOKEN_R_BRACE none h = h
braced H r k none h = none (after (p.Comma · r) k) h

abbrev GoesOn : SyntaxKind → Row → Option (List SyntaxKind × Row) → Forest → Type 0
GoesOn parent q None f = Unit {0}
GoesOn parent q (Some w) f = GrammarRow parent w.1 f → GrammarRow parent q f

same : (A : Type 0) → A → A
same A a = a

goes_on_at : (parent : SyntaxKind) (q : Row) (f : Forest) → GoesOn parent q (run_at q) f
goes_on_at i (p.Optional w · r) f = by (run_at r) (goes_on_at i r f)
  where
    by : (o : Option (List SyntaxKind × Row)) → GoesOn i r o f → GoesOn i (p.Optional w · r) o f
    by None g = tt
    by (Some v) g = λ h. passed (g h)
goes_on_at i (p.Names · r) f = alike i (p.Names · r) (p.Attr · p.Names · r) refl (λ e. cc) (λ k c x. x)
    (λ H k none h. only_if H (is_attr k) (p.Names · r) _ none h)
goes_on_at i (p.Formals · r) f = alike i (p.Formals · r) (p.FormalsAfterComma · r) refl (λ e. cc) (λ k c x. x) (λ H k none h. h)
goes_on_at i (p.Comma · r) f = alike i (p.Comma · r) (p.Wanted TOKEN_R_BRACE · r) refl (λ e. cc) (λ k c x. x) (λ H k none h. braced H r k none h)
goes_on_at i q f = assumption (same (GrammarRow i q f))

grammar_row_run : (parent : SyntaxKind) (q : Row) (f : Forest) (o : Option (List SyntaxKind × Row)) → GoesOn parent q o f → GrammarRow parent (after_run o) f
    → GrammarRow parent q f
grammar_row_run i q f None g h = lost i h
grammar_row_run i q f (Some w) g h = g h

grammar_row_number : (parent : SyntaxKind) (q : Row) {f : Forest} → GrammarRow parent (after q NODE_LITERAL) f → GrammarRow parent q (node NODE_LITERAL zero f)
grammar_row_number parent q h = node_started refl tt (number_asked parent q, refl) h

-- so the repaired children of a forest that is read have their forms in the grammar
pub sound_row : (parent : SyntaxKind) (q : Row) (b f : AnnotatedForest) → IsSound parent q b f → GrammarRow parent q (repaired f)
sound_row i q b blank h = ended h
sound_row i q b (token k t f) h = leaf_node_made (leaf_is_token h.0) (sound_row i (after q k) (b ⊕ one_token k t) f h.1)
sound_row i q b (branch k c f) h = node_started h.0.node (h.0.made.part i h.0.extension) (asked i q b k c h.0, bound_child q k c h.0.tokens h.0.suited)
    (sound_row i (after q k) (b ⊕ one_branch k c) f h.1)
sound_row i q b (fault Stray c f) h = grammar_row_number i q (sound_row i (after q NODE_LITERAL) (b ⊕ one_fault Stray c) f h.1)
sound_row i q b (fault TooDeep c f) h = grammar_row_number i q (sound_row i (after q NODE_LITERAL) (b ⊕ one_fault TooDeep c) f h.1)
sound_row i q b (fault (Unwanted u) c f) h =
    grammar_row_run i q (repaired f) (run_at q) (goes_on_at i q (repaired f)) (sound_row i (after_run (run_at q)) (b ⊕ one_fault (Unwanted u) c) f h.1)
sound_row i q b (fault Extra c f) h = sound_row i q (b ⊕ one_fault Extra c) f h.1
sound_row i q b (fault DoubleBind c f) h = subst (λ z. GrammarRow i z (repaired f)) (sym h.0)
    (alike i (p.BoundAlready · done) done refl (λ e. refl) (λ k c x. x) (λ H k none h. h) (sound_row i done (b ⊕ one_fault DoubleBind c) f h.1))
