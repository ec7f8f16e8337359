-- How the parts of the grammar are read: attributes, names, entries, paths, parameters and formals.
use Rattle.std.{specs.List.list_all, proofs.Common.{◌≡◌, ℕ, Bool, true, false, List, [], ◌∷◌, ◌++◌, Option, Some, None, refl, ap, sym, ◌∙◌, subst, arith}}
use Rattle.std.proofs.Common.{◌≤◌, ◌+◌, ◌&&◌, if◌then◌else◌, append_assoc, nat_eq, nat_le}
use Rattle.rnix_kinds.specs.declared.kinds.SyntaxKind.{SyntaxKind}
use Rattle.rnix_kinds.specs.declared.kinds.SyntaxKind.TheVariants.{TOKEN_AT, TOKEN_COLON, TOKEN_FLOAT, TOKEN_IDENT, TOKEN_IN, TOKEN_INHERIT, TOKEN_INTERPOL_START, TOKEN_L_BRACE, TOKEN_QUESTION, TOKEN_R_BRACE, TOKEN_R_BRACK, TOKEN_SEMICOLON}
use Rattle.rnix_kinds.specs.declared.kinds.SyntaxKind.TheVariants.{NODE_ATTRPATH, NODE_ATTRPATH_VALUE, NODE_CUR_POS, NODE_IDENT, NODE_INHERIT, NODE_INHERIT_FROM, NODE_INTERPOL, NODE_LAMBDA, NODE_LEGACY_LET, NODE_LET_IN, NODE_LIST, NODE_LITERAL, NODE_PAT_BIND, NODE_PAT_ENTRY, NODE_PATTERN, NODE_UNARY_OP}
use Rattle.rnix_kinds.proofs.AllKinds.{all_kinds, implied}
use Rattle.rnix_green.specs.{Equality.same_kind, Forest.{Forest, empty, leaf, node}}
use Rattle.rnix_grammar.specs.declared.rules.Part.TheVariants.{Attr, BoundAlready, EndOr, Entries, Formals, FormalsAfterComma, Many, MoreAttrs, Names, Operand, Optional, PathPieces, Wanted}
use Rattle.rnix_grammar.specs.Grammar as g
use Rattle.rnix_grammar.specs.Reads as read
use Rattle.rnix_grammar.specs.AnnotatedForest.{Token, AnnotatedForest, blank, token, branch, one_token, one_branch, tokens_in, head_kind, end_from, touches}
use Rattle.rnix_grammar.specs.{FirstKinds.IsOperandOf, OperandStarts.{first_kind, first_kind_of_let, first_kind_of_name, second_kind}, Yield.kind_of_token, Tables.{is_or, is_cur_pos, is_among, depth_limit}}
use Rattle.rnix_grammar.specs.{TokenKinds.is_piece_start, Nest.nest, Reports.repeats, PathPieces.{is_path, is_joined, joins, joins_first, ArePaths}}
use Rattle.rnix_grammar.specs.{NodeClasses.{fits, is_attr, is_plain_literal}, TreeLevels.level_of}
use Rattle.rnix_grammar.specs.Rules.{Row, done, ◌·◌, row, after, begins_attr, IsExpected, is_first_expected, IsFollowed}
use Rattle.rnix_proof_lemmas.proofs.{Basics.{true_is_not_false, not_if}, KindsOfNodes.{is_error, keeps_kind}}
use Rattle.rnix_proof_lemmas.proofs.PlainTables.{binds_at_most, is_no_at, is_no_dot}
use Rattle.rnix_proof_completeness.proofs.OverTokens.{Over, over_leaf, over_node, over_nothing, IsRead, token_read, node_read, stands_so, expected_so, Opens, opened_so}
use Rattle.rnix_proof_completeness.proofs.PartReads.{Follow, Before, depth_in, room, Rest, Any, Node, Next, next_any, plain_node, is_part, part_so, anything, finished, item, Placed, node_on, uncounted, Part, part_on}
use Rattle.rnix_proof_completeness.proofs.GoodOperands.{Good, agree, Begun, is_known}
use Rattle.rnix_proof_completeness.proofs.NamesAndBraces.{name_kind, BeginsWith, parameter_begins, Covers, formal_new}
use Rattle.rnix_proof_completeness.proofs.OperatorReadings.{ends, name_node}

-- an expression, from its level, what may follow it, its row, and how it begins
pub good : {k : SyntaxKind} {c : Forest} (l h : ℕ) → agree l h ≡ true → fits l k ≡ true → Node (binds_at_most h) k c
    → ((b : AnnotatedForest) → Over c b → nat_le l (level_of k b) ≡ true)
    → ((b f : AnnotatedForest) (us : List Token) → Over c b → binds_at_most 16 (head_kind us) ≡ true → Begun l (branch k b f) (tokens_in b ++ us)) → Good l k c
good l h a f w t b = record { level = l; max_bp = h; min_bp = omega arith; agrees = a; fit = f; node = w; tight = t; begins = b }

-- how tightly a prefix operation binds
pub unary_level : {i : SyntaxKind} {s : List ℕ} {c : Forest} (l : ℕ)
    → ((x : Token) (f : AnnotatedForest) → nat_le l (level_of NODE_UNARY_OP (token i x f)) ≡ true)
    → (b : AnnotatedForest) → Over (leaf i s c) b → nat_le l (level_of NODE_UNARY_OP b) ≡ true
unary_level l h b (over_leaf {x = x} {f = f} e i o) = h x f

-- the children of a node begin with a token, or with a node
pub part_leaf : {N : Follow} {test : SyntaxKind → Bool} {k i : SyntaxKind} {s : List ℕ} {c : Forest} → test (kind_of_token i s) ≡ true → Node N k (leaf i s c)
    → Part N test k (leaf i s c)
part_leaf {test = test} {i = i} {s = s} {c = c} h w = record { node = w; opens = opens }
  where
    opens : (b : AnnotatedForest) (us : List Token) → Over (leaf i s c) b → Opens test (tokens_in b ++ us)
    opens b us (over_leaf e u o) = ap test e ∙ h

pub part_node : {N M : Follow} {test : SyntaxKind → Bool} {k i : SyntaxKind} {a c : Forest} → Part M test i a → Node N k (node i a c)
    → Part N test k (node i a c)
part_node {test = test} {i = i} {a = a} {c = c} p w = record { node = w; opens = opens }
  where
    opens : (b : AnnotatedForest) (us : List Token) → Over (node i a c) b → Opens test (tokens_in b ++ us)
    opens b us (over_node {b = x} {f = h} o v) = subst (λ ts. Opens test ts) (sym (append_assoc (tokens_in x) (tokens_in h) us))
        (p.opens x (tokens_in h ++ us) o)

-- an attribute is read before any item, and an attribute path before any but `.`
pub record GoodAttr (k : SyntaxKind) (c : Forest) : Type 0 where
  pub attr : is_attr k ≡ true
  pub part : Part anything begins_attr k c

pub record GoodAttrpath (f : Forest) : Type 0 where
  pub rest : Rest NODE_ATTRPATH (Attr · MoreAttrs · done) Any is_no_dot f
  pub part : Part is_no_dot begins_attr NODE_ATTRPATH f

-- the items of a list
pub record GoodItems (f : Forest) : Type 0 where
  pub rest : Rest NODE_LIST (Many 16 TOKEN_R_BRACK · done) Any (binds_at_most 16) f
  pub next : Next (binds_at_most 15) (binds_at_most 16) f

pub attr_new : (k : SyntaxKind) → is_attr k ≡ true → (g b : AnnotatedForest) → repeats k g b ≡ []
attr_new NODE_IDENT h g b = refl
attr_new _ h g b = cc

pub names_after : (k : SyntaxKind) → is_attr k ≡ true
    → after (Optional NODE_INHERIT_FROM · Names · Wanted TOKEN_SEMICOLON · done) k ≡ Names · Wanted TOKEN_SEMICOLON · done
names_after NODE_IDENT h = refl
names_after _ h = cc

-- inherited names are read, after a source or without one
pub record GoodNames (f : Forest) : Type 0 where
  pub source : Rest NODE_INHERIT (Optional NODE_INHERIT_FROM · Names · Wanted TOKEN_SEMICOLON · done) Any anything f
  pub names : Rest NODE_INHERIT (Names · Wanted TOKEN_SEMICOLON · done) Any anything f

-- entries are read at this rest of a row, which is the same after each of them
pub record Gathers (closer : SyntaxKind) (r : Row) : Type 0 where
  pub inherit_stays : after (Entries closer · r) NODE_INHERIT ≡ Entries closer · r
  pub inherit_own : (b : Bool) (x : AnnotatedForest)
      → list_all (λ i. if same_kind TOKEN_INHERIT i then stands_so (Entries closer · r) b i true else true) all_kinds ≡ true
  pub bind_stays : after (Entries closer · r) NODE_ATTRPATH_VALUE ≡ Entries closer · r
  pub bind_own : (b : Bool) (x : AnnotatedForest) → list_all (λ i. if begins_attr i then stands_so (Entries closer · r) b i false else true) all_kinds ≡ true

pub in_braces : {r : Row} → Gathers TOKEN_R_BRACE r
in_braces = record { inherit_stays = refl; inherit_own = λ b x. refl; bind_stays = refl; bind_own = λ b x. refl }

pub in_let : {r : Row} → Gathers TOKEN_IN r
in_let = record { inherit_stays = refl; inherit_own = λ b x. refl; bind_stays = refl; bind_own = λ b x. refl }

-- the next item is not `{`, so `let` begins no old `let`
abbrev pub no_brace : Option SyntaxKind → Bool
no_brace (Some TOKEN_L_BRACE) = false
no_brace o = true

pub let_kind : (o : Option SyntaxKind) → no_brace o ≡ true → first_kind_of_let o ≡ NODE_LET_IN
let_kind (Some TOKEN_L_BRACE) h = absurd (true_is_not_false (sym h))
let_kind None h = refl
let_kind (Some _) h = refl

-- a name that is followed by neither `:` nor `@` is a name or `__curPos`
pub plain_name : (text : List ℕ) (o : Option SyntaxKind) → binds_at_most 16 o ≡ true
    → first_kind_of_name text o ≡ (if is_cur_pos text then NODE_CUR_POS else NODE_IDENT)
plain_name text None h = refl
plain_name text (Some TOKEN_COLON) h = absurd (true_is_not_false (sym h))
plain_name text (Some TOKEN_AT) h = absurd (true_is_not_false (sym h))
plain_name text (Some _) h = refl

-- a single token that is a name begins its node
pub name_begins : (i k : SyntaxKind) (s : List ℕ) → kind_of_token i s ≡ TOKEN_IDENT → (if is_cur_pos s then NODE_CUR_POS else NODE_IDENT) ≡ k
    → (text : List ℕ) (h : AnnotatedForest) (us : List Token)
    → text ≡ s → Over empty h → binds_at_most 16 (head_kind us) ≡ true
    → first_kind 16 (kind_of_token i s) text (head_kind (tokens_in h ++ us)) (second_kind (tokens_in h ++ us)) ≡ k
name_begins i k s e w text h us u over_nothing z =
    ap (λ j. first_kind 16 j text (head_kind us) (second_kind us)) e ∙ plain_name text (head_kind us) z ∙ ap
    (λ t. if is_cur_pos t then NODE_CUR_POS else NODE_IDENT) u ∙ w

pub literal_begins : (i : SyntaxKind) (s text : List ℕ) (second third : Option SyntaxKind) → is_plain_literal i ≡ true
    → first_kind 16 (kind_of_token i s) text second third ≡ NODE_LITERAL
literal_begins TOKEN_FLOAT s text second third h = refl
literal_begins _ s text second third h = cc

pub literal_after : (i : SyntaxKind) → is_plain_literal i ≡ true → after (row NODE_LITERAL) i ≡ done
literal_after TOKEN_FLOAT h = refl
literal_after _ h = cc

-- the rest of a path is read, if its pieces touch
abbrev pub PathReads : Row → (ℕ → AnnotatedForest → List Token → Bool) → Forest → Type 0
PathReads q joined f = (p : SyntaxKind) → is_error p ≡ false → (d n : ℕ) (x b : AnnotatedForest) (us : List Token) → Over f b → ArePaths b us
    → d + nest p f ≤ depth_limit
    → joined n b us ≡ true → binds_at_most 16 (head_kind us) ≡ true → IsRead p d n q x b us

-- a path is read from its first token on
pub path_node : {s : List ℕ} {f : Forest} (k i : SyntaxKind) → is_path k ≡ true → is_error k ≡ false → kind_of_token i s ≡ i
    → after (row k) i ≡ EndOr NODE_INTERPOL · PathPieces · done
    → ((n : ℕ) (ts : List Token) → IsExpected (row k) n ts true) → ((x : AnnotatedForest) (o : Option SyntaxKind) → IsFollowed (row k) x o)
    → depth_in k (leaf i s f) ≡ nest k f
    → PathReads (EndOr NODE_INTERPOL · PathPieces · done) joins_first f → Node (binds_at_most 16) k (leaf i s f)
path_node {s} {f} k i path sound kind_kept behind expected followed depth rest = record { reads = whole }
  where
    whole : (d n : ℕ) (b : AnnotatedForest) (us : List Token) → Over (leaf i s f) b → (if is_path k then is_joined b us else true) ≡ true → ArePaths b us
        → d + depth_in k (leaf i s f) ≤ depth_limit → binds_at_most 16 (head_kind us) ≡ true → IsRead k d n (row k) blank b us
    whole d n b us (over_leaf {x = x} {f = h} e w o) j a m z =
        token_read (sym (keeps_kind k x.kind sound ∙ e ∙ kind_kept)) (expected n (x ∷ (tokens_in h ++ us))) (followed blank (Some i))
        (subst (λ q. IsRead k d x.end q (one_token i x) h us) (sym behind)
        (rest k sound d x.end (one_token i x) h us o a (subst (λ y. d + y ≤ depth_limit) depth m)
        (sym (ap (λ w. if w then joins_first x.end h us else true) path) ∙ j) z))

pub piece_expected : (n : ℕ) (ts : List Token) → touches n ts ≡ true → Opens (same_kind TOKEN_INTERPOL_START) ts → IsExpected (PathPieces · done) n ts true
piece_expected n [] e o = absurd o
piece_expected n (t ∷ ts) e o = ap (λ w. w && is_piece_start t.kind) e ∙ implied (same_kind TOKEN_INTERPOL_START) is_piece_start refl t.kind o

pub no_piece : (n : ℕ) (us : List Token) → joins n blank us ≡ true → IsExpected (PathPieces · done) n us false
no_piece n [] h = refl
no_piece n (t ∷ ts) h = not_if (nat_eq t.start n && is_piece_start t.kind) h

pub no_interpol : (n : ℕ) (us : List Token) → binds_at_most 16 (head_kind us) ≡ true → IsExpected (EndOr NODE_INTERPOL · PathPieces · done) n us false
no_interpol n [] h = refl
no_interpol n (t ∷ ts) h = expected_so (EndOr NODE_INTERPOL · PathPieces · done) n t ts false
    (implied (λ i. binds_at_most 16 (Some i)) (λ i. stands_so (EndOr NODE_INTERPOL · PathPieces · done) (nat_eq t.start n) i false) refl t.kind h)

-- the name of a parameter, of a pattern or of an entry is read
pub name_part : {s : List ℕ} → is_or s ≡ false → Part anything (same_kind TOKEN_IDENT) NODE_IDENT (leaf TOKEN_IDENT s empty)
name_part {s = s} n = part_leaf (ap (λ i. same_kind TOKEN_IDENT i) (name_kind s n)) name_node

-- the parameter of a function is read before `:`
pub record GoodParameter (k : SyntaxKind) (c : Forest) : Type 0 where
  pub known : is_known k ≡ true
  pub goes : after (row NODE_LAMBDA) k ≡ Wanted TOKEN_COLON · Operand 0 true · done
  pub new : (x b : AnnotatedForest) → repeats k x b ≡ []
  pub node : Node is_no_at k c

pub lambda_begins : {k : SyntaxKind} {a t : Forest} {s : List ℕ} → g.Parameter k a → is_known k ≡ true → (b f : AnnotatedForest) (us : List Token)
    → Over (node k a (leaf TOKEN_COLON s t)) b
    → Begun 0 (branch NODE_LAMBDA b f) (tokens_in b ++ us)
lambda_begins {k} w known b f us (over_node {b = x} {f = h} o (over_leaf {x = y} {f = e} u i v)) =
    subst (λ ts. Begun 0 (branch NODE_LAMBDA (branch k x h) f) ts) (sym (append_assoc (tokens_in x) (y ∷ tokens_in e) us))
    (by (tokens_in x ++ (y ∷ (tokens_in e ++ us))) (parameter_begins w x (y ∷ (tokens_in e ++ us)) o (ap Some u)))
  where
    by : (ts : List Token) → BeginsWith k ts → Begun 0 (branch NODE_LAMBDA (branch k x h) f) ts
    by [] w = w
    by (t ∷ ts) w = (w, known)

-- the rest of a pattern's row after its braces
abbrev pub tail_of : Bool → Row
tail_of true = BoundAlready · done
tail_of false = EndOr NODE_PAT_BIND · done

pub pattern_end_rest : {bound : Bool} {G : Before} {f : Forest} → g.PatternEnd bound f → Rest NODE_PATTERN (tail_of bound) G is_no_at f
pattern_end_rest {bound} {G} g.pattern_end = by bound
  where
    by : (w : Bool) → Rest NODE_PATTERN (tail_of w) G is_no_at empty
    by true = ends refl (λ n. refl) (λ b. refl)
    by false = ends refl (λ n. refl) (λ b. refl)
pattern_end_rest (g.bound_behind n) = part_on {test = same_kind TOKEN_AT} refl refl (λ b x. refl) (λ x b. refl)
    (part_leaf refl (plain_node refl (item refl (λ b. refl) (λ x. tt) (part_on refl refl (λ b x. refl) (λ x b. refl)
    (name_part n) next_any finished)))) next_any finished

pub record GoodFormals (bound : Bool) (names : List (List ℕ)) (f : Forest) : Type 0 where
  pub first : Rest NODE_PATTERN (Formals · tail_of bound) (Covers names) is_no_at f
  pub inside : Rest NODE_PATTERN (FormalsAfterComma · tail_of bound) (Covers names) is_no_at f

-- an entry of a pattern is read from its name on
pub entry_node : {s : List ℕ} {e : Forest} → Rest NODE_PAT_ENTRY (EndOr TOKEN_QUESTION · Operand 0 true · done) Any (binds_at_most 0) e
    → Node (binds_at_most 0) NODE_PAT_ENTRY (g.name s e)
entry_node {s} {e} r = record { reads = whole }
  where
    whole : (d n : ℕ) (b : AnnotatedForest) (us : List Token) → Over (g.name s e) b → true ≡ true → ArePaths b us → d + nest NODE_PAT_ENTRY e ≤ depth_limit
        → binds_at_most 0 (head_kind us) ≡ true → IsRead NODE_PAT_ENTRY d n (row NODE_PAT_ENTRY) blank b us
    whole d n b us (over_node {b = x} {f = h} o v) j a m z =
        node_read refl (λ w. absurd (true_is_not_false (sym w))) ((name_node {F = anything}).reads d n x (tokens_in h ++ us) o refl a.1
        (omega (arith, m)) refl) tt tt tt refl
        (r.reads d (end_from n (tokens_in x)) (one_branch NODE_IDENT x) h us v a.2 m tt z)

pub entry_on : {q s : Row} {x : List ℕ} {c t : Forest} (names : List (List ℕ)) → after q NODE_PAT_ENTRY ≡ s → is_part q ≡ true
    → ((b : Bool) (x : AnnotatedForest)
    → list_all (λ i. if same_kind TOKEN_IDENT i then stands_so q b i (is_first_expected q NODE_PAT_ENTRY x) else true) all_kinds ≡ true)
    → is_among x names ≡ false → g.Formal x c → Part (binds_at_most 0) (same_kind TOKEN_IDENT) NODE_PAT_ENTRY c → Next (binds_at_most 0) is_no_at t
    → Rest NODE_PATTERN s (Covers (x ∷ names)) is_no_at t → Rest NODE_PATTERN q (Covers names) is_no_at (node NODE_PAT_ENTRY c t)
entry_on {q} {s} {x} {c} {t} names e i own m w child behind r =
    node_on e (λ d h. uncounted q d (depth_in NODE_PAT_ENTRY c) (part_so q i).0 (room NODE_PATTERN NODE_PAT_ENTRY c t d h).0) placed
    (λ y b o h. (formal_new names y b w o h m).1) child.node behind r
  where
    placed : (n : ℕ) (y b : AnnotatedForest) (vs : List Token) → Over c b → Covers names y → binds_at_most 0 (head_kind vs) ≡ true
        → Placed q n y NODE_PAT_ENTRY b vs
    placed n y b vs o h z = (
      opened_so q n (is_first_expected q NODE_PAT_ENTRY b) (same_kind TOKEN_IDENT) (λ v. own v b) (tokens_in b ++ vs) (child.opens b vs o),
      (part_so q i).2 y (head_kind (tokens_in b ++ vs)),
      subst (λ l. IsOperandOf l (one_branch NODE_PAT_ENTRY b) vs) (sym ((part_so q i).1 (one_branch NODE_PAT_ENTRY b))) tt,
      (formal_new names y b w o h m).0,
    )

pub old_let_kind : {s : List ℕ} {f : Forest} (h : AnnotatedForest) (us : List Token) → Over (leaf TOKEN_L_BRACE s f) h
    → first_kind_of_let (head_kind (tokens_in h ++ us)) ≡ NODE_LEGACY_LET
old_let_kind h us (over_leaf e i o) = ap (λ j. first_kind_of_let (Some j)) e
