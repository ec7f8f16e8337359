-- Functions and old `let`s are read as operands, if smaller forests are.
use Rattle.std.proofs.Common.{◌≡◌, ℕ, true, false, List, [], ◌∷◌, ◌++◌, refl, ap, sym, ◌∙◌, subst, append-nil, ◌⊎◌, inl, inr, append_assoc}
use Rattle.rnix_kinds.{proofs.AllKinds.implied, specs.declared.kinds.SyntaxKind.{SyntaxKind, TheVariants.{TOKEN_L_BRACE, TOKEN_LET, NODE_ERROR}}}
use Rattle.rnix_kinds.specs.declared.kinds.SyntaxKind.TheVariants.{NODE_LEGACY_LET, TOKEN_AT, TOKEN_IDENT, NODE_IDENT, NODE_IDENT_PARAM, NODE_LAMBDA}
use Rattle.{rnix_kinds.specs.declared.kinds.SyntaxKind.TheVariants.{NODE_PATTERN, NODE_PAT_BIND}, rnix_grammar.specs.{Fault.Fault, OperandStarts.{operand_start_for, operand_start_of}}}
use Rattle.rnix_grammar.specs.{OperandStarts.second_kind, AnnotatedForest.{Token, Stray, AnnotatedForest, blank, token, ◌⊕◌, one_token, one_branch, one_fault, row_of}}
use Rattle.rnix_grammar.specs.{AnnotatedForest.{tokens_in, leaf_kind, head_kind, end_from, branch, leaf_kind_as}, Reports.{report, repeats}}
use Rattle.rnix_grammar.specs.declared.{rules.Part.TheVariants.Child, slot_table.TheConstants.{LEGACY_LET, BOUND_PATTERN, LAMBDA, PATTERN}}
use Rattle.rnix_grammar.specs.{declared.{position.Position.Position, operand_start.OperandStart.OperandStart}, Reads.end, Rules.{after, row as row_of_kind, ◌·◌, done}}
use Rattle.rnix_proof_lemmas.specs.{Machine.{Operand, Frame, machine, opened, begun, Node, operand_on, Runs, rest as here}, SlotRows.remaining_at}
use Rattle.rnix_proof_lemmas.{proofs.{EveryKind.{only, only_both}, FollowLemmas.{FollowedTo, atom_is_selection_level}}}
use Rattle.rnix_proof_lemmas.proofs.{FollowLemmas.{followed_atom, followed_keyword}, Basics.true_is_not_false, TokenEnds.end_behind, ReachableRows.is_viable}
use Rattle.rnix_proof_uniqueness.proofs.{StepReads.{runs_to, runs_from, IsOperandRead, ReadsTree, runs_on}, OneAction.{is_inner, is_closed}}
use Rattle.rnix_proof_uniqueness.proofs.ReadingHeights.{Complete, AllRows, KindReads, front_of, complete_done, complete_to, has_no_node_next, item_next, Front}
use Rattle.rnix_proof_uniqueness.proofs.ReadingHeights.{by_leaf, by_stray, by_node, complete_viable, Item, Name, item_alone, item_or_name}
use Rattle.rnix_proof_uniqueness.proofs.{RowTrees.{operand_read, read_on, ReadOn, node_read}, OperandBegins.{begins_with_item, BegunByItem, led_leaf, led_node}}
use Rattle.rnix_proof_uniqueness.proofs.OperandBegins.{begins_led, begins_so, followed_item_begun, BegunBy}
use Rattle.rnix_grammar.specs.declared.position.Position.TheVariants as p
use Rattle.rnix_grammar.specs.declared.operand_start.OperandStart.TheVariants as b

-- the steps read an item that begins no operand, as an error node
pub stray_reads : (t : Token) (d n : ℕ) (us : List Token) → ReadsTree d n (t ∷ []) (one_fault Stray (row_of (t ∷ []))) us (report Stray (t ∷ []) ∷ [])
stray_reads t d n us level F fs gs min_bp begins = record {
  max_bp = 16;
  followed = followed_atom (one_fault Stray (row_of (t ∷ []))) refl refl;
  runs = runs_from (ap (λ z. begun false z level d t F fs (t ∷ us) n gs) (begins_so NODE_ERROR level t us begins).0) here;
}

-- no expression that begins with an item is an entry, a second name or the root
led_inner : (k : SyntaxKind) → begins_with_item k ≡ true → is_inner k ≡ true
led_inner = implied begins_with_item is_inner refl

led_closed : (k : SyntaxKind) → begins_with_item k ≡ true → is_closed k ≡ true
led_closed = implied begins_with_item is_closed refl

-- the steps read an expression that begins with an item, if they read its row after that item
led_item : (m : ℕ) → AllRows m → (k : SyntaxKind) (d n : ℕ) (us : List Token) (t : Token) (f : AnnotatedForest) (es : List Fault) → begins_with_item k ≡ true
    → Complete m k d t.end (after (row_of_kind k) (leaf_kind k t)) (one_token (leaf_kind k t) t) us f es
    → ReadsTree d n (t ∷ tokens_in f) (one_branch k (token (leaf_kind k t) t f)) us es
led_item m rows k d n us t f es h r level F fs gs min_bp begins = by (begins_led k h level t ts (token (leaf_kind k t) t f) begins)
  where
    ts : List Token
    ts = tokens_in f ++ us

    operand : AnnotatedForest → Frame
    operand g = opened Operand (p.AfterOperand level 16) d (one_branch k (token (leaf_kind k t) t g))

    by : BegunByItem k t.kind (operand_start_of level t.kind t.text (head_kind ts) (second_kind ts))
        → IsOperandRead level d n (t ∷ tokens_in f) (one_branch k (token (leaf_kind k t) t f)) us es F fs gs
    by (led_leaf e g a) =
        let v = complete_done r g in
        record {
          max_bp = 16;
          followed = followed_atom (one_branch k (token (leaf_kind k t) t f)) (atom_is_selection_level k (token (leaf_kind k t) t f) a) a;
          runs =
              runs_from (ap (λ z. begun false z level d t F fs (t ∷ ts) n gs) e)
              (runs_to
              (ap (λ z. machine (operand blank ∷ (F ∷ fs)) (tokens_in z ++ us) t.end gs) v.0
              ∙ ap (λ z. machine (operand z ∷ (F ∷ fs)) us (end_from t.end (tokens_in z)) gs) (sym v.0)
              ∙ ap (λ z. machine (operand f ∷ (F ∷ fs)) us (end_from t.end (tokens_in f)) z) (sym (append-nil gs) ∙ ap (λ z. gs ++ z) (sym v.1)))
              here);
        }
    by (led_node z max_bp e g c l) = record {
      max_bp = max_bp;
      followed = subst (λ (v : ℕ). FollowedTo v (one_branch k (token (leaf_kind k t) t f))) l (followed_item_begun k t.kind t f h);
      runs =
          runs_from (ap (λ v. begun false v level d t F fs (t ∷ ts) n gs) e)
          (operand_read (read_on rows (p.InRow z) c (complete_to g refl r)) (led_inner k h) (led_closed k h) (p.AfterOperand level max_bp) d (F ∷ fs) gs);
    }

-- the row of such an expression does not begin with a node
led_no_node : (k : SyntaxKind) → begins_with_item k ≡ true → has_no_node_next (row_of_kind k) ≡ true
led_no_node = implied begins_with_item (λ k. has_no_node_next (row_of_kind k)) refl

-- so the steps read each such expression
pub led_reads : (m : ℕ) → AllRows m → (k : SyntaxKind) → begins_with_item k ≡ true → KindReads m k
led_reads m rows k h d n us c es r =
    let w = item_next (led_no_node k h) r in
    subst (λ (z : AnnotatedForest). ReadsTree d n (tokens_in z) (one_branch k z) us es) (sym w.is)
    (led_item m rows k d n us w.item w.more es h w.rest)

-- an old `let` is read
legacy_item : (m : ℕ) → AllRows m → (d n : ℕ) (us : List Token) (t v : Token) (f : AnnotatedForest) (es : List Fault)
    → Complete m NODE_LEGACY_LET d v.end (remaining_at LEGACY_LET) (token t.kind t (one_token v.kind v)) us f es
    → ReadsTree d n (t ∷ (v ∷ tokens_in f)) (one_branch NODE_LEGACY_LET (token t.kind t (token v.kind v f))) us es
legacy_item m rows d n us t v f es r level F fs gs min_bp begins =
    let ts : List Token = v ∷ (tokens_in f ++ us) in
    let g : AnnotatedForest = token t.kind t (one_token v.kind v) in
    record {
      max_bp = 0;
      followed = followed_keyword (one_branch NODE_LEGACY_LET (g ⊕ f)) refl refl;
      runs =
          runs_from (ap (λ z. begun false z level d t F fs (t ∷ ts) n gs) (begins_so NODE_LEGACY_LET level t ts begins).0)
          (operand_read (read_on rows (p.InRow LEGACY_LET) refl r) refl refl (p.AfterOperand level 0) d (F ∷ fs) gs);
    }

-- the same, from a reading of its row
pub legacy_reads : (m : ℕ) → AllRows m → KindReads m NODE_LEGACY_LET
legacy_reads m rows d n us c es r =
    let w = item_next refl r in
    let v = item_next refl (front_of (ap (after (row_of_kind NODE_LEGACY_LET))
    (only (λ j. is_viable (after (row_of_kind NODE_LEGACY_LET) j)) TOKEN_LET refl w.item.kind w.alive)) w.rest refl) in
    let e : c ≡ token w.item.kind w.item (token v.item.kind v.item v.more) = w.is ∙ ap (λ z. token w.item.kind w.item z) v.is in
    subst (λ (z : AnnotatedForest). ReadsTree d n (tokens_in z) (one_branch NODE_LEGACY_LET z) us es) (sym e)
    (legacy_item m rows d n us w.item v.item v.more es (complete_to
    (ap (after (Child TOKEN_L_BRACE · remaining_at LEGACY_LET))
    (only (λ j. is_viable (after (Child TOKEN_L_BRACE · remaining_at LEGACY_LET) j)) TOKEN_L_BRACE refl v.item.kind v.alive)) refl v.rest))

-- the steps read the rest of a function's row, after its parameter
abbrev Body : SyntaxKind → ℕ → ℕ → AnnotatedForest → List Token → AnnotatedForest → List Fault → Type 0
Body k d n c us f es = ReadOn NODE_LAMBDA d (end_from n (tokens_in c)) (p.InRow LAMBDA) (one_branch k c) us f es

-- the steps read a function of a parameter, if they read the rest of its row
abbrev IsFunction : SyntaxKind → ℕ → ℕ → AnnotatedForest → AnnotatedForest → List Token → List Fault → List Fault → Type 0
IsFunction k d n c f us ds es = Body k d n c us f es → ReadsTree d n (tokens_in c ++ tokens_in f) (one_branch NODE_LAMBDA (branch k c f)) us ((ds ++ []) ++ es)

-- the steps read a function, if they read its beginning and the rest of its row
function_read : (level d n : ℕ) (zs : List Token) (c : AnnotatedForest) (us : List Token) (es : List Fault) (F : Frame) (fs : List Frame) (gs : List Fault)
    (t : Token) (ts : List Token) (how : OperandStart)
    → zs ++ us ≡ t ∷ ts → operand_start_of level t.kind t.text (head_kind ts) (second_kind ts) ≡ how
    → Runs false (begun false how level d t F fs (t ∷ ts) n gs) (machine
    (opened Operand (p.AfterOperand level 16) d (one_branch NODE_LAMBDA c) ∷ (F ∷ fs)) us (end_from n zs) (gs ++ es))
    → IsOperandRead level d n zs (one_branch NODE_LAMBDA c) us es F fs gs
function_read level d n zs c us es F fs gs t ts how e h r = record {
  max_bp = 16;
  followed = followed_atom (one_branch NODE_LAMBDA c) refl refl;
  runs =
      runs_from
      (ap (λ z. operand_on false level d F fs z z n gs) e ∙ ap (λ z. begun false z level d t F fs (t ∷ ts) n gs) h) r;
}

-- the steps read a function of a name
named_item : (t : Token) (f : AnnotatedForest) (d n : ℕ) (us : List Token) (es : List Fault) → leaf_kind NODE_IDENT t ≡ TOKEN_IDENT
    → Body NODE_IDENT_PARAM d n (one_branch NODE_IDENT (one_token (leaf_kind NODE_IDENT t) t)) us f es
    → ReadsTree d n (t ∷ tokens_in f) (one_branch NODE_LAMBDA (branch NODE_IDENT_PARAM (one_branch NODE_IDENT (one_token (leaf_kind NODE_IDENT t) t)) f)) us es
named_item t f d n us es k r level F fs gs min_bp begins =
    let c : AnnotatedForest = one_branch NODE_IDENT (one_token (leaf_kind NODE_IDENT t) t) in
    let ts : List Token = tokens_in f ++ us in
    function_read level d n (t ∷ tokens_in f) (branch NODE_IDENT_PARAM c f) us es F fs gs t ts b.NameLambda refl
    (begins_so NODE_IDENT_PARAM level t ts begins).0
    (operand_read r refl refl (p.AfterOperand level 16) d (F ∷ fs) gs)

-- the parameter of a function is a name
parameter_first : (i : SyntaxKind) → is_viable (after (row_of_kind NODE_IDENT_PARAM) i) ≡ true → i ≡ NODE_IDENT
parameter_first i l = only (λ j. is_viable (after (row_of_kind NODE_IDENT_PARAM) j)) NODE_IDENT refl i l

-- no kind is both a name's node and a name's token
no_name : (k : SyntaxKind) → k ≡ NODE_IDENT → k ≡ TOKEN_IDENT → ⊥
no_name k e h = other (sym e ∙ h)
  where
    other : NODE_IDENT ≡ TOKEN_IDENT → ⊥
    other h = cc

-- the same, from a reading of the parameter's row
named_reads : (m d n : ℕ) (us : List Token) (c f : AnnotatedForest) (ds es : List Fault)
    → Complete m NODE_IDENT_PARAM d n (row_of_kind NODE_IDENT_PARAM) blank (tokens_in f ++ us) c ds
    → IsFunction NODE_IDENT_PARAM d n c f us ds es
named_reads m d n us c f ds es r = by (item_or_name refl (front_of refl r refl))
  where
    by : Item m NODE_IDENT_PARAM d (row_of_kind NODE_IDENT_PARAM) blank (tokens_in f ++ us) c ds ⊎ Name m NODE_IDENT_PARAM d
        (row_of_kind NODE_IDENT_PARAM) blank (tokens_in f ++ us) c ds
        → IsFunction NODE_IDENT_PARAM d n c f us ds es
    by (inl t) =
        subst (λ c. IsFunction NODE_IDENT_PARAM d n c f us ds es) (sym t.is) (λ more level F fs gs min_bp begins.
        absurd (no_name t.item.kind (parameter_first t.item.kind t.alive)
        (begins_so NODE_IDENT_PARAM level t.item ((tokens_in t.more ++ tokens_in f) ++ us) begins).1))
    by (inr t) =
        let u = complete_done t.rest refl in
        subst (λ ds. IsFunction NODE_IDENT_PARAM d n c f us ds es) (sym u.1) (subst (λ c. IsFunction NODE_IDENT_PARAM d n c f us [] es)
        (sym (t.is ∙ ap (λ q. branch NODE_IDENT (one_token (leaf_kind NODE_IDENT t.item) t.item) q) u.0)) (named_item t.item f d n us es t.kind))

-- the steps read a function whose pattern has begun, and the rest of its row
pattern_runs : {x : Position} {g c f : AnnotatedForest} {level d m : ℕ} {F : Frame} {fs : List Frame} {us : List Token} {es ds gs : List Fault}
    → ReadOn NODE_PATTERN d m x g (tokens_in f ++ us) c es
    → ReadOn NODE_LAMBDA d (end_from m (tokens_in c)) (p.InRow LAMBDA) (one_branch NODE_PATTERN (g ⊕ c)) us f ds
    → Runs false (machine (opened (Node NODE_PATTERN) x d g ∷ (opened (Node NODE_LAMBDA) (p.InRow LAMBDA) d blank
    ∷ (opened Operand (p.AfterOperand level 16) d blank ∷ (F ∷ fs))))
    ((tokens_in c ++ tokens_in f) ++ us) m gs)
    (machine (opened Operand (p.AfterOperand level 16) d (one_branch NODE_LAMBDA (branch NODE_PATTERN (g ⊕ c) f)) ∷ (F ∷ fs)) us
    (end_from m (tokens_in c ++ tokens_in f)) (gs ++ ((es ++ []) ++ ds)))
pattern_runs {x} {g} {c} {f} {level} {d} {m} {F} {fs} {us} {es} {ds} {gs} row more =
    let below : Frame = opened Operand (p.AfterOperand level 16) d blank in
    runs_from (cc (append_assoc (tokens_in c) (tokens_in f) us))
    (runs_on (node_read row refl (Node NODE_LAMBDA) (p.InRow LAMBDA) d blank (below ∷ (F ∷ fs)) gs)
    (runs_to (cc (append_assoc gs (es ++ []) ds, end_behind m (tokens_in c) (tokens_in f)))
    (operand_read more refl refl (p.AfterOperand level 16) d (F ∷ fs) (gs ++ (es ++ [])))))

-- a pattern without a bound name before it begins with `{`
brace_kind : (i : SyntaxKind) → is_viable (after (row_of_kind NODE_PATTERN) i) ≡ true → BegunBy i (operand_start_for NODE_PATTERN i) → i ≡ TOKEN_L_BRACE
brace_kind TOKEN_L_BRACE l w = refl
brace_kind _ l w = cc

-- a pattern with a bound name before it begins with that name
name_kind : (i : SyntaxKind) → leaf_kind_as NODE_IDENT i ≡ TOKEN_IDENT → BegunBy i (operand_start_for NODE_PATTERN i) → i ≡ TOKEN_IDENT
name_kind TOKEN_IDENT h w = refl
name_kind _ h w = cc

-- no pattern begins with a token of the bound name's row
no_bind : (i : SyntaxKind) → is_viable (after (row_of_kind NODE_PAT_BIND) i) ≡ true → BegunBy i (operand_start_for NODE_PATTERN i) → ⊥
no_bind TOKEN_AT l w = cc
no_bind _ l w = cc

-- the steps read a function of a pattern that begins with `{`
braced_reads : (m : ℕ) → AllRows m → (d n : ℕ) (t : Token) (us : List Token) (c f : AnnotatedForest) (ds es : List Fault)
    → is_viable (after (row_of_kind NODE_PATTERN) t.kind) ≡ true
    → Complete m NODE_PATTERN d t.end (after (row_of_kind NODE_PATTERN) t.kind) (one_token t.kind t) (tokens_in f ++ us) c ds
    → IsFunction NODE_PATTERN d n (token t.kind t c) f us ds es
braced_reads m rows d n t us c f ds es l r more level F fs gs min_bp begins =
    let ts : List Token = (tokens_in c ++ tokens_in f) ++ us in
    let x : AnnotatedForest = branch NODE_PATTERN (token t.kind t c) f in
    let w = begins_so NODE_PATTERN level t ts begins in
    let k : t.kind ≡ TOKEN_L_BRACE = brace_kind t.kind l w.1 in
    function_read level d n (t ∷ (tokens_in c ++ tokens_in f)) x us ((ds ++ []) ++ es) F fs gs t ts b.PatternLambda refl (w.0
    ∙ ap (operand_start_for NODE_PATTERN) k)
    (pattern_runs (read_on rows (p.InRow PATTERN) refl (complete_to (ap (after (row_of_kind NODE_PATTERN)) k) refl r)) more)

-- a name and `@`
abbrev name_at : Token → Token → AnnotatedForest
name_at t v = branch NODE_IDENT (one_token (leaf_kind NODE_IDENT t) t) (one_token v.kind v)

-- the steps read a function of a pattern that begins with a bound name
bound_item : (t v : Token) (c f : AnnotatedForest) (d n : ℕ) (us : List Token) (ds es : List Fault) → leaf_kind NODE_IDENT t ≡ TOKEN_IDENT
    → ReadOn NODE_PATTERN d v.end (p.InRow BOUND_PATTERN) (one_branch NODE_PAT_BIND (name_at t v)) (tokens_in f ++ us) c ds
    → Body NODE_PATTERN d n (branch NODE_PAT_BIND (name_at t v) c) us f es
    → ReadsTree d n (t ∷ (v ∷ (tokens_in c ++ tokens_in f))) (one_branch NODE_LAMBDA (branch NODE_PATTERN (branch NODE_PAT_BIND (name_at t v) c) f)) us
    ((ds ++ []) ++ es)
bound_item t v c f d n us ds es h r more level F fs gs min_bp begins =
    let ts : List Token = v ∷ ((tokens_in c ++ tokens_in f) ++ us) in
    let x : AnnotatedForest = branch NODE_PATTERN (branch NODE_PAT_BIND (name_at t v) c) f in
    let w = begins_so NODE_PATTERN level t ts begins in
    let k : t.kind ≡ TOKEN_IDENT = name_kind t.kind h w.1 in
    function_read level d n (t ∷ (v ∷ (tokens_in c ++ tokens_in f))) x us ((ds ++ []) ++ es) F fs gs t ts b.BoundLambda refl
    (w.0 ∙ ap (operand_start_for NODE_PATTERN) k) (pattern_runs r more)

-- the same, from a reading of the bound name's row
bound_reads : (m : ℕ) → AllRows m → (d n : ℕ) (us : List Token) (c g f : AnnotatedForest) (bs ds es : List Fault)
    → Complete m NODE_PAT_BIND d n (row_of_kind NODE_PAT_BIND) blank (tokens_in g ++ (tokens_in f ++ us)) c bs
    → Complete m NODE_PATTERN d (end_from n (tokens_in c)) (remaining_at BOUND_PATTERN) (one_branch NODE_PAT_BIND c) (tokens_in f ++ us) g ds
    → IsFunction NODE_PATTERN d n (branch NODE_PAT_BIND c g) f us ((bs ++ []) ++ ds) es
bound_reads m rows d n us c g f bs ds es r r' = by (item_or_name refl (front_of refl r refl))
  where
    vs : List Token
    vs = tokens_in g ++ (tokens_in f ++ us)

    by : Item m NODE_PAT_BIND d (row_of_kind NODE_PAT_BIND) blank vs c bs ⊎ Name m NODE_PAT_BIND d (row_of_kind NODE_PAT_BIND) blank vs c bs
        → IsFunction NODE_PATTERN d n (branch NODE_PAT_BIND c g) f us ((bs ++ []) ++ ds) es
    by (inl t) =
        subst (λ c. IsFunction NODE_PATTERN d n (branch NODE_PAT_BIND c g) f us ((bs ++ []) ++ ds) es) (sym t.is) (λ more level F fs gs min_bp begins.
        absurd (no_bind t.item.kind t.alive (begins_so NODE_PATTERN level t.item
        (((tokens_in t.more ++ tokens_in g) ++ tokens_in f) ++ us) begins).1))
    by (inr t) =
        let v = item_next refl (front_of refl t.rest refl) in
        let u = item_alone v (ap (after (Child TOKEN_AT · done)) (only (λ j. is_viable (after (Child TOKEN_AT · done) j)) TOKEN_AT refl v.item.kind v.alive)) in
        let e : c ≡ name_at t.item v.item = t.is ∙ ap (λ q. branch NODE_IDENT (one_token (leaf_kind NODE_IDENT t.item) t.item) q) u.0 in
        subst (λ bs. IsFunction NODE_PATTERN d n (branch NODE_PAT_BIND c g) f us ((bs ++ []) ++ ds) es) (sym u.1)
        (subst (λ c. Complete m NODE_PATTERN d (end_from n (tokens_in c)) (remaining_at BOUND_PATTERN) (one_branch NODE_PAT_BIND c) (tokens_in f ++ us) g ds
        → IsFunction NODE_PATTERN d n (branch NODE_PAT_BIND c g) f us ds es) (sym e)
        (λ r more. bound_item t.item v.item g f d n us ds es t.kind (read_on rows (p.InRow BOUND_PATTERN) refl r) more) r')

-- the steps read a function of a pattern
pattern_reads : (m : ℕ) → AllRows m → (d n : ℕ) (us : List Token) (c f : AnnotatedForest) (ds es : List Fault)
    → Front m NODE_PATTERN d n (row_of_kind NODE_PATTERN) blank (tokens_in f ++ us) c ds → IsFunction NODE_PATTERN d n c f us ds es
pattern_reads m rows d n us _ f _ es (by_leaf {t = t} {f = g} {es = ds} e w l r) =
    subst (λ (j : SyntaxKind). is_viable (after (row_of_kind NODE_PATTERN) j) ≡ true
    → Complete m NODE_PATTERN d t.end (after (row_of_kind NODE_PATTERN) j) (one_token j t) (tokens_in f ++ us) g ds
    → IsFunction NODE_PATTERN d n (token j t g) f us ds es) (sym e)
    (λ l r. braced_reads m rows d n t us g f ds es l r) l r
pattern_reads m rows d n us _ f _ es (by_stray o w x l r) = absurd (true_is_not_false (sym l))
pattern_reads m rows d n us _ f _ es (by_node {k = i} {c = c} {f = g} {ds = bs} {es = ds} r y w x l r') =
    subst (λ (j : SyntaxKind). Complete m j d n (row_of_kind j) blank (tokens_in g ++ (tokens_in f ++ us)) c bs
    → Complete m NODE_PATTERN d (end_from n (tokens_in c)) (after (row_of_kind NODE_PATTERN) j) (one_branch j c) (tokens_in f ++ us) g ds
    → IsFunction NODE_PATTERN d n (branch j c g) f us ((bs ++ repeats j blank c) ++ ds) es)
    (sym (only_both (λ j. is_viable (after (row_of_kind NODE_PATTERN) j)) (λ j. is_viable (row_of_kind j)) NODE_PAT_BIND refl i l (complete_viable r)))
    (λ r r'. bound_reads m rows d n us c g f bs ds es r r') r r'

-- a function begins with a name as its parameter, or with a pattern
lambda_first : (i : SyntaxKind) → is_viable (after (row_of_kind NODE_LAMBDA) i) ≡ true → (i ≡ NODE_IDENT_PARAM) ⊎ (i ≡ NODE_PATTERN)
lambda_first NODE_IDENT_PARAM h = inl refl
lambda_first NODE_PATTERN h = inr refl
lambda_first _ h = absurd (true_is_not_false (sym h))

-- the steps read a function, from readings of its parameter and of the rest of its row
abbrev Parameter : ℕ → ℕ → ℕ → List Token → AnnotatedForest → AnnotatedForest → List Fault → List Fault → SyntaxKind → Type 0
Parameter m d n us c f ds es k =
    Complete m k d n (row_of_kind k) blank (tokens_in f ++ us) c ds
    → Complete m NODE_LAMBDA d (end_from n (tokens_in c)) (after (row_of_kind NODE_LAMBDA) k) (one_branch k c) us f es
    → ReadsTree d n (tokens_in c ++ tokens_in f) (one_branch NODE_LAMBDA (branch k c f)) us ((ds ++ repeats k blank c) ++ es)

-- a function is read
pub lambda_reads : (m : ℕ) → AllRows m → KindReads m NODE_LAMBDA
lambda_reads m rows d n us _ _ (by_leaf {t = t} {f = f} e w l r) =
    λ level F fs gs min_bp begins. absurd (true_is_not_false (sym (begins_so NODE_LAMBDA level t (tokens_in f ++ us) begins).1.0))
lambda_reads m rows d n us _ _ (by_stray o w x l r) = absurd (true_is_not_false (sym l))
lambda_reads m rows d n us _ _ (by_node {k = i} {c = c} {f = f} {ds = ds} {es = es} r y w x l r') = by (lambda_first i l) r r'
  where
    by : (i ≡ NODE_IDENT_PARAM) ⊎ (i ≡ NODE_PATTERN) → Parameter m d n us c f ds es i
    by (inl h) =
        subst (Parameter m d n us c f ds es) (sym h) (λ r r'. named_reads m d n us c f ds es r (read_on rows (p.InRow LAMBDA) refl r'))
    by (inr h) =
        subst (Parameter m d n us c f ds es) (sym h) (λ r r'. pattern_reads m rows d n us c f ds es (front_of refl r refl)
        (read_on rows (p.InRow LAMBDA) refl r'))
