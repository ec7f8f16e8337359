-- The steps read expressions as operands, if they read the forests and expressions in them.
use Rattle.std.proofs.Common.{◌≡◌, ℕ, ◌≤◌, Bool, true, false, List, [], ◌∷◌, ◌++◌, Some, None, refl, ap, sym, ◌∙◌, subst, append-nil, arith, ◌||◌, ◌&&◌}
use Rattle.{std.proofs.{Common.{if◌then◌else◌, suc}, lemmas.Bool.and_parts}, rnix_kinds.{proofs.AllKinds.implied, specs.declared.kinds.SyntaxKind.SyntaxKind}}
use Rattle.rnix_kinds.specs.declared.kinds.SyntaxKind.TheVariants.{TOKEN_FLOAT, TOKEN_OR, NODE_APPLY, NODE_IDENT, NODE_BIN_OP, NODE_HAS_ATTR, NODE_LAMBDA}
use Rattle.{rnix_kinds.specs.{declared.kinds.SyntaxKind.TheVariants.{NODE_LEGACY_LET, NODE_SELECT}, SyntaxKind.is_fn_arg}, rnix_grammar.specs.Fault.Fault}
use Rattle.rnix_grammar.specs.{Actions.{continue_action}, Levels.binding_power, TokenKinds.is_or, AnnotatedForest.{Token, Stray, AnnotatedForest, blank}}
use Rattle.rnix_grammar.specs.AnnotatedForest.{branch, fault, ◌⊕◌, one_token, one_branch, one_fault, row_of, tokens_in, leaf_kind, head_kind, end_from}
use Rattle.rnix_grammar.specs.{Reports.{report, repeats}, NodeClasses.{is_simple, is_expression, fits}, TreeLevels.{row_level, is_or_row}, Operands.{follows, is_continued}}
use Rattle.rnix_grammar.specs.{declared.{rules.Part.TheVariants.Argument, slot_table.TheConstants.APPLIED}, FirstKinds.{BeginsAs, IsOperandOf}}
use Rattle.{rnix_grammar.{specs.{Rules.{IsExpected, IsFollowed, done, only as row_if, row as row_of_kind, ◌·◌}}}, rnix_proof_lemmas.specs.Machine.Node}
use Rattle.rnix_proof_lemmas.{specs.{Machine.{Operand, Frame, machine, opened, perform, rest as here}}, proofs.KindsOfNodes.unreported}
use Rattle.rnix_proof_lemmas.proofs.{Basics.true_is_not_false, EveryKind.{alike, never, only}, FirstTrees.{IsSingle, first_in, single_calls}}
use Rattle.rnix_proof_lemmas.proofs.{FollowLemmas.{followed_call, followed_selection, follows_token}}
use Rattle.rnix_proof_uniqueness.proofs.{StepReads.{runs_on, runs_to, step_to, IsOperandRead, ReadsTree}, ViableReadings.viable_only, ReadingHeights.Complete}
use Rattle.rnix_proof_uniqueness.proofs.ReadingHeights.{Trees, KindReads, Front, by_leaf, by_stray, by_node, front_of, complete_done, name_item, AllRows, front}
use Rattle.rnix_proof_uniqueness.proofs.{ReadingHeights.is_firm, OperandBegins.{settles, continued}, FunctionRows.{stray_reads, led_reads, legacy_reads}}
use Rattle.rnix_proof_uniqueness.proofs.{FunctionRows.lambda_reads, OperatorRows.{leading, binary_reads, question_reads, selected_reads}}
use Rattle.rnix_grammar.specs.declared.position.Position.TheVariants as p
use Rattle.rnix_grammar.specs.declared.action.Action.TheVariants as a

-- the first item of an argument continues a tree as its argument
passes : (i : SyntaxKind) → is_fn_arg i ≡ true → continue_action i ≡ a.Apply
passes TOKEN_FLOAT h = refl
passes _ h = cc

-- a call is at level 15, but at 16 if the argument is the name `or`
call_level : (x v : AnnotatedForest) (w : Bool) → IsSingle x → is_or_row v ≡ w → row_level (one_branch NODE_APPLY (x ⊕ v)) ≡ (if w then 16 else 15)
call_level x v w one h = ap (λ z. if z then 16 else 15) (single_calls x v one ∙ h)

-- the steps read a call, if they read the function and the argument
called : (zs xs : List Token) (x v : AnnotatedForest) (i : SyntaxKind) (d n : ℕ) (us : List Token) (es ds : List Fault) → IsSingle x
    → head_kind (xs ++ us) ≡ Some i → is_fn_arg i ≡ true → follows i x ≡ true
    → ReadsTree d n zs x (xs ++ us) es → ReadsTree d (end_from n zs) xs v us ds
    → is_or_row v ≡ false → 16 ≤ row_level v → BeginsAs 16 v (xs ++ us) → is_continued 16 v us ≡ false
    → ReadsTree d n (zs ++ xs) (one_branch NODE_APPLY (x ⊕ v)) us (es ++ ds)
called zs xs x v i d n us es ds one next arg follow tree passed plain tight begun over =
    continued zs xs x z i a.Apply 15 d n us es ds follow next (passes i arg) (first_in x v one)
    (omega (arith, level, alike is_fn_arg binding_power (λ j. 15) refl i arg)) (followed_call z level refl) tree
    (λ level other f fs gs.
    let below : List Frame = opened (Node NODE_APPLY) (p.InRow APPLIED) d x ∷ (opened Operand (p.AfterOperand level 15) d blank ∷ (f ∷ fs)) in
    let q : IsOperandRead 16 d (end_from n zs) xs v us ds _ _ gs =
    passed 16 (opened (Node NODE_APPLY) (p.InRow APPLIED) d x) (opened Operand (p.AfterOperand level 15) d blank ∷ (f ∷ fs)) gs tight begun in
    runs_on q.runs
    (step_to (ap (λ w. perform false w (opened Operand (p.AfterOperand 16 q.max_bp) d v) below us (end_from (end_from n zs) xs) (gs ++ ds))
    (settles 16 q.max_bp v us q.followed over)) (step_to refl here)))
  where
    z : AnnotatedForest
    z = one_branch NODE_APPLY (x ⊕ v)

    level : row_level z ≡ 15
    level = call_level x v false one plain

-- the steps read a call whose argument is the name `or`, if they read the function
called_or : (zs : List Token) (x : AnnotatedForest) (t : Token) (d n : ℕ) (us : List Token) (es : List Fault) → IsSingle x → t.kind ≡ TOKEN_OR
    → follows t.kind x ≡ true
    → is_or_row (one_branch NODE_IDENT (one_token (leaf_kind NODE_IDENT t) t)) ≡ true → ReadsTree d n zs x (t ∷ us) es
    → ReadsTree d n (zs ++ (t ∷ [])) (one_branch NODE_APPLY (x ⊕ one_branch NODE_IDENT (one_token (leaf_kind NODE_IDENT t) t))) us (es ++ [])
called_or zs x t d n us es one kind follow named tree =
    let v : AnnotatedForest = one_branch NODE_IDENT (one_token (leaf_kind NODE_IDENT t) t) in
    let z : AnnotatedForest = one_branch NODE_APPLY (x ⊕ v) in
    let level : row_level z ≡ 16 = call_level x v true one named in
    continued zs (t ∷ []) x z t.kind a.ApplyOr 15 d n us es [] follow refl (ap continue_action kind) (first_in x v one)
    (omega (arith, level, ap binding_power kind))
    (followed_selection z level refl) tree
    (λ level other f fs gs. runs_to (ap (λ w. machine (opened Operand (p.AfterOperand level 15) d z ∷ (f ∷ fs)) us t.end w) (sym (append-nil gs))) here)

-- a tree and its argument: the first item is an argument's, and continues the tree
followed : (i : SyntaxKind) (x : AnnotatedForest) → ((is_fn_arg i || is_or i) && follows i x) ≡ true → ((is_fn_arg i || is_or i) ≡ true) × (follows i x ≡ true)
followed i x h = and_parts (is_fn_arg i || is_or i) (follows i x) h

-- if one of two tests passes and the second fails, the first passes
plainly : (v w : Bool) → (v || w) ≡ true → w ≡ false → v ≡ true
plainly true w h o = refl
plainly false w h o = absurd (true_is_not_false (sym h ∙ o))

-- the argument `or` is a name
named_or : (j : SyntaxKind) (e : AnnotatedForest) → is_or_row (one_branch j e) ≡ true → j ≡ NODE_IDENT
named_or NODE_IDENT e h = refl
named_or _ e h = absurd (true_is_not_false (sym h))

-- the argument of a call is not a token
no_called_token : {m d n : ℕ} {us : List Token} (j : SyntaxKind) (t : Token) {f : AnnotatedForest} {fs : List Fault}
    → Front m NODE_APPLY d n (Argument · done) (one_token j t) us f fs → ⊥
no_called_token j t (by_leaf {k = i} e w l q) = follows_token i j t blank (followed i (one_token j t) w).1
no_called_token j t (by_stray {t = v} o w x l q) = follows_token v.kind j t blank (followed v.kind (one_token j t) w).1
no_called_token {n = n} {us = us} j t (by_node {k = i} {c = c} {f = g} r y w x l q) = by (tokens_in c ++ (tokens_in g ++ us)) refl w
  where
    none : (v : Bool) → false ≡ v → IsOperandOf (if v then None else Some 16) (one_branch i c) (tokens_in g ++ us) → tokens_in c ++ (tokens_in g ++ us) ≡ [] → ⊥
    none true y x e = true_is_not_false (sym y)
    none false y x e = subst (BeginsAs 16 (one_branch i c)) (ap (λ z. z ++ (tokens_in g ++ us)) (append-nil (tokens_in c)) ∙ e) x.1

    by : (ts : List Token) → tokens_in c ++ (tokens_in g ++ us) ≡ ts
        → IsFollowed (Argument · done) (one_token j t) (head_kind (tokens_in c ++ (tokens_in g ++ us))) → ⊥
    by [] e w = none (is_or_row (one_branch i c)) (subst (λ z. IsExpected (Argument · done) n z (is_or_row (one_branch i c))) e y) x e
    by (v ∷ vs) e w = follows_token v.kind j t blank (followed v.kind (one_token j t)
        (subst (λ z. IsFollowed (Argument · done) (one_token j t) (head_kind z)) e w)).1

-- the steps read a call, of a tree with an argument
abbrev Called : ℕ → ℕ → List Token → AnnotatedForest → List Token → List Fault → List Token → AnnotatedForest → List Fault → Type 0
Called d n zs x us es xs v ds = ReadsTree d n (zs ++ xs) (one_branch NODE_APPLY (x ⊕ v)) us (es ++ ds)

-- the steps read a call with an argument other than the name `or`
argument : (d n : ℕ) (zs xs : List Token) (x v : AnnotatedForest) (us : List Token) (es ds : List Fault) → IsSingle x → ReadsTree d n zs x (xs ++ us) es
    → IsExpected (Argument · done) (end_from n zs) (xs ++ us) false
    → IsFollowed (Argument · done) x (head_kind (xs ++ us)) → is_or_row v ≡ false → 16 ≤ row_level v → BeginsAs 16 v (xs ++ us)
    → is_continued 16 v us ≡ false → ReadsTree d (end_from n zs) xs v us ds
    → Called d n zs x us es xs v ds
argument d n zs xs x v us es ds one reads o w plain tight begun over tree = by (xs ++ us) refl o w
  where
    by : (ts : List Token) → xs ++ us ≡ ts → IsExpected (Argument · done) (end_from n zs) ts false → IsFollowed (Argument · done) x (head_kind ts)
        → Called d n zs x us es xs v ds
    by [] h o w = absurd (subst (BeginsAs 16 v) h begun)
    by (t ∷ ts) h o w =
        let f = followed t.kind x w in called zs xs x v t.kind d n us es ds one (ap head_kind h)
        (plainly (is_fn_arg t.kind) (is_or t.kind) f.0 o) f.1 reads tree plain tight begun over

-- the same for the argument `or`, from a reading of the name
name_or : (m d n : ℕ) (zs : List Token) (x : AnnotatedForest) (j : SyntaxKind) (c : AnnotatedForest) (us : List Token) (es ds : List Fault) → IsSingle x
    → ReadsTree d n zs x (tokens_in c ++ us) es → Complete m j d (end_from n zs) (row_of_kind j) blank us c ds
    → IsFollowed (Argument · done) x (head_kind (tokens_in c ++ us))
    → is_or_row (one_branch j c) ≡ true
    → Called d n zs x us es (tokens_in c) (one_branch j c) ds
name_or m d n zs x j c us es ds one reads r w h =
    subst (λ (i : SyntaxKind). Complete m i d (end_from n zs) (row_of_kind i) blank us c ds → is_or_row (one_branch i c) ≡ true
    → Called d n zs x us es (tokens_in c) (one_branch i c) ds) (sym (named_or j c h)) by r h
  where
    by : Complete m NODE_IDENT d (end_from n zs) (row_of_kind NODE_IDENT) blank us c ds → is_or_row (one_branch NODE_IDENT c) ≡ true
        → Called d n zs x us es (tokens_in c) (one_branch NODE_IDENT c) ds
    by r h =
        let v = name_item r in
        subst (λ (q : List Fault). Called d n zs x us es (tokens_in c) (one_branch NODE_IDENT c) q) (sym v.3)
        (subst
        (λ (g : AnnotatedForest). ReadsTree d n zs x (tokens_in g ++ us) es → IsFollowed (Argument · done) x (head_kind (tokens_in g ++ us))
        → is_or_row (one_branch NODE_IDENT g) ≡ true
        → Called d n zs x us es (tokens_in g) (one_branch NODE_IDENT g) []) (sym v.1)
        (λ reads w h. called_or zs x v.0 d n us es one (only is_or TOKEN_OR refl v.0.kind h) (followed v.0.kind x w).1 h reads) reads w h)

-- the steps read a call, from a reading of its argument
last_reads : (m d n : ℕ) (zs : List Token) (x : AnnotatedForest) (us : List Token) (f : AnnotatedForest) (es ds : List Fault) → Trees m → IsSingle x
    → ReadsTree d n zs x (tokens_in f ++ us) es → Front m NODE_APPLY d (end_from n zs) (Argument · done) x us f ds → Called d n zs x us es (tokens_in f) f ds
last_reads m d n zs x us _ es _ trees one reads (by_leaf {k = i} e w l r) =
    absurd (never is_simple (λ j. is_fn_arg j || is_or j) refl i (viable_only (is_simple i) done l) (followed i x w).0)
last_reads m d n zs x us _ es _ trees one reads (by_stray {t = t} {f = f} {es = ds} o w q l r) =
    let v = complete_done r refl in
    let g : AnnotatedForest = one_fault Stray (row_of (t ∷ [])) in
    subst (λ (z : List Fault). Called d n zs x us es (t ∷ tokens_in f) (fault Stray (row_of (t ∷ [])) f) (report Stray (t ∷ []) ∷ z)) (sym v.1)
    (subst
    (λ (z : AnnotatedForest). ReadsTree d n zs x (t ∷ (tokens_in z ++ us)) es → IsOperandOf (Some 16) g (tokens_in z ++ us)
    → Called d n zs x us es (t ∷ tokens_in z) (fault Stray (row_of (t ∷ [])) z) (report Stray (t ∷ []) ∷ [])) (sym v.0)
    (λ reads q. argument d n zs (t ∷ []) x g us es (report Stray (t ∷ []) ∷ []) one reads o w refl q.0 q.1 q.2 (stray_reads t d (end_from n zs) us)) reads q)
last_reads m d n zs x us _ es _ trees one reads (by_node {k = j} {c = c} {f = f} {ds = ds} {es = fs} r y w q l r') =
    subst (λ (u : List Fault). Called d n zs x us es (tokens_in c ++ tokens_in f) (branch j c f) u) (sym none)
    (subst
    (λ (g : AnnotatedForest). ReadsTree d n zs x ((tokens_in c ++ tokens_in g) ++ us) es → Complete m j d at (row_of_kind j) blank (tokens_in g ++ us) c ds
    → IsExpected (Argument · done) at (tokens_in c ++ (tokens_in g ++ us)) (is_or_row (one_branch j c))
    → IsFollowed (Argument · done) x (head_kind (tokens_in c ++ (tokens_in g ++ us)))
    → IsOperandOf (if is_or_row (one_branch j c) then None else Some 16) (one_branch j c) (tokens_in g ++ us)
    → Called d n zs x us es (tokens_in c ++ tokens_in g) (branch j c g) ds) (sym end.0)
    (λ reads r y w q. subst (λ (u : List Token). Called d n zs x us es u (one_branch j c) ds) (sym (append-nil (tokens_in c)))
    (by (is_or_row (one_branch j c)) refl (subst (λ (u : List Token). ReadsTree d n zs x (u ++ us) es) (append-nil (tokens_in c)) reads) r y w q))
    reads r y w q)
  where
    simple : is_simple j ≡ true
    simple = viable_only (is_simple j) done l

    fits : is_expression j ≡ true
    fits = implied is_simple is_expression refl j simple

    at : ℕ
    at = end_from n zs

    end : (f ≡ blank) × (fs ≡ [])
    end = complete_done r' (ap (λ v. row_if v done) simple)

    none : (ds ++ repeats j x c) ++ fs ≡ ds
    none = ap (λ v. (ds ++ repeats j x c) ++ v) end.1 ∙ append-nil (ds ++ repeats j x c) ∙ ap (λ v. ds ++ v) (unreported j x c fits) ∙ append-nil ds

    by : (b : Bool) → is_or_row (one_branch j c) ≡ b → ReadsTree d n zs x (tokens_in c ++ us) es → Complete m j d at (row_of_kind j) blank us c ds
        → IsExpected (Argument · done) at (tokens_in c ++ us) b → IsFollowed (Argument · done) x (head_kind (tokens_in c ++ us))
        → IsOperandOf (if b then None else Some 16) (one_branch j c) us → Called d n zs x us es (tokens_in c) (one_branch j c) ds
    by true h reads r y w q = name_or m d n zs x j c us es ds one reads r w h
    by false h reads r y w q =
        argument d n zs (tokens_in c) x (one_branch j c) us es ds one reads y w h q.0
        (subst (λ (u : List Token). BeginsAs 16 (one_branch j c) (u ++ us)) (append-nil (tokens_in c)) q.1) q.2
        (trees j d at us c ds r fits)

-- the steps read a call
pub called_reads : (m : ℕ) → Trees m → KindReads m NODE_APPLY
called_reads m trees d n us c es r =
    leading {q = Argument · done} {test = is_simple} trees (record { goes = λ j. refl; fitting = implied is_simple is_expression refl; deep = λ d. refl })
    (λ j t f fs r. no_called_token j t (front_of refl r refl))
    (λ zs x f es ds one tree r. last_reads m d n zs x us f es ds trees one tree (front_of refl r refl)) r

-- the steps read an expression of each kind
kind_reads : (m : ℕ) → AllRows m → Trees m → (k : SyntaxKind) → fits 0 k ≡ true → KindReads m k
kind_reads m rows trees NODE_APPLY h = called_reads m trees
kind_reads m rows trees NODE_SELECT h = selected_reads m rows trees
kind_reads m rows trees NODE_HAS_ATTR h = question_reads m rows trees
kind_reads m rows trees NODE_BIN_OP h = binary_reads m rows trees
kind_reads m rows trees NODE_LAMBDA h = lambda_reads m rows
kind_reads m rows trees NODE_LEGACY_LET h = legacy_reads m rows
kind_reads m rows trees k h = led_reads m rows k h

-- the row of an expression begins with a child that its node always has
expression_firm : (k : SyntaxKind) → fits 0 k ≡ true → is_firm (row_of_kind k) ≡ true
expression_firm = implied (fits 0) (λ k. is_firm (row_of_kind k)) refl

-- the steps read an expression if they read its parts
pub tree_runs : (m : ℕ) → AllRows m → Trees m → Trees (suc m)
tree_runs m rows trees k d n us c es w h = kind_reads m rows trees k h d n us c es (front m w.part.reads w.part.short (expression_firm k h) w.over)
