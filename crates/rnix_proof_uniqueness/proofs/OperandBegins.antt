-- The action at the first items of an operand, by the kind of its first tree.
use Rattle.std.proofs.{lemmas.Bool.and_parts, Common.{◌≡◌, ◌++◌, subst, append_assoc, arith, ℕ, ◌≤◌, Bool, true, false, List, [], ◌∷◌, Some, refl, ap, sym}}
use Rattle.{std.proofs.Common.{◌∙◌, ◌&&◌, if◌then◌else◌, nat_le, Option}, rnix_kinds.specs.declared.kinds.SyntaxKind.SyntaxKind}
use Rattle.rnix_kinds.specs.declared.kinds.SyntaxKind.TheVariants.{TOKEN_IDENT, TOKEN_INVERT, TOKEN_L_BRACE}
use Rattle.rnix_kinds.specs.declared.kinds.SyntaxKind.TheVariants.{NODE_APPLY, NODE_BIN_OP, NODE_HAS_ATTR, NODE_LAMBDA, NODE_LEGACY_LET}
use Rattle.{rnix_kinds.specs.declared.kinds.SyntaxKind.TheVariants.{NODE_SELECT, NODE_UNARY_OP}, rnix_grammar.specs.Actions.{continue_action, more_action}}
use Rattle.rnix_grammar.specs.{Actions.{may_continue}, Levels.binding_power, AnnotatedForest.{Token, AnnotatedForest, head_kind, end_from, blank}}
use Rattle.rnix_grammar.specs.{AnnotatedForest.{token, branch, one_branch, leaf_kind_as}, Operands.{follows, first_tree, is_continued}}
use Rattle.rnix_grammar.specs.{declared.{action.Action.Action, operand_start.OperandStart.OperandStart}, Fault.Fault, TreeLevels.{row_level, level_of}}
use Rattle.rnix_grammar.specs.{OperandStarts.{first_kind, operand_start_for, operand_start_of, second_kind}, NodeClasses.{is_atom, is_expression}, Rules.{after, done}}
use Rattle.{rnix_grammar.{specs.{Rules.{row as row_of_kind}}}, rnix_grammar.specs.FirstKinds.BeginsAs, rnix_proof_lemmas.specs.Machine.{Operand, Frame, machine}}
use Rattle.rnix_proof_lemmas.{specs.{Machine.{opened, perform, operand_on, Runs, Node}, SlotRows.remaining_at}, proofs.Basics.true_is_not_false}
use Rattle.rnix_proof_lemmas.proofs.{LevelLemmas.{at_most, at_most_true}, FollowLemmas.{FollowedTo, follows_level, atom_is_selection_level, followed_atom}}
use Rattle.rnix_proof_lemmas.proofs.{FollowLemmas.{followed_negated, followed_inverted, followed_keyword}, TokenEnds.end_behind}
use Rattle.rnix_proof_lemmas.proofs.EachBeginning.{each_first_tree, kind_of, kind_of_begin}
use Rattle.rnix_proof_uniqueness.proofs.{StepReads.{runs_on, runs_to, runs_from, step_to, IsOperandRead, ReadsTree}, OneAction.is_at}
use Rattle.rnix_grammar.specs.declared.position.Position.TheVariants as p
use Rattle.rnix_grammar.specs.declared.action.Action.TheVariants as a
use Rattle.rnix_grammar.specs.declared.operand_start.OperandStart.TheVariants as b

-- if an item continues a tree, so does the action, where the operand's level allows it
pub goes : (level max_bp : ℕ) (i : SyntaxKind) (x : AnnotatedForest) → FollowedTo max_bp x → follows i x ≡ true → level ≤ binding_power i
    → more_action level max_bp (Some i) ≡ continue_action i
goes level max_bp i x b f l =
    let w = (b i).1 f in
    ap (λ z. if z then continue_action i else a.EndOperand) (all_three (nat_le 1 (binding_power i)) (nat_le level (binding_power i))
    (nat_le (binding_power i) max_bp)
    (at_most_true 1 (binding_power i) w.0) (at_most_true level (binding_power i) l) (at_most_true (binding_power i) max_bp w.1))
  where
    all_three : (u v w : Bool) → u ≡ true → v ≡ true → w ≡ true → (u && (v && w)) ≡ true
    all_three u v w e f g = ap (λ z. z && (v && w)) e ∙ ap (λ z. z && w) f ∙ g

-- the operand ends if no item continues it
pub settles : (level max_bp : ℕ) (x : AnnotatedForest) (us : List Token) → FollowedTo max_bp x → is_continued level x us ≡ false
    → more_action level max_bp (head_kind us) ≡ a.EndOperand
settles level max_bp x [] b h = refl
settles level max_bp x (t ∷ ts) b h = by (may_continue level max_bp t.kind) refl
  where
    by : (w : Bool) → may_continue level max_bp t.kind ≡ w → (if w then continue_action t.kind else a.EndOperand) ≡ a.EndOperand
    by false e = refl
    by true e =
        let u = and_parts (nat_le 1 (binding_power t.kind)) (nat_le level (binding_power t.kind) && nat_le (binding_power t.kind) max_bp) e in
        let v = and_parts (nat_le level (binding_power t.kind)) (nat_le (binding_power t.kind) max_bp) u.1 in
        let f : follows t.kind x ≡ true = (b t.kind).0 (at_most 1 (binding_power t.kind) u.0) (at_most (binding_power t.kind) max_bp v.1) in
        absurd (true_is_not_false (sym (ap (λ z. z && nat_le level (binding_power t.kind)) f ∙ v.0) ∙ h))

-- an operand begins as another one does whose first tree has the same kind
pub begun_same : (level : ℕ) (x y : AnnotatedForest) (ts : List Token) → first_tree x ≡ first_tree y → BeginsAs level x ts → BeginsAs level y ts
begun_same level x y [] e h = h
begun_same level x y (t ∷ ts) e h = h ∙ e

-- a tree that an item continues is the first tree of another node; the steps read that node if they read the rest of it
pub continued : (zs xs : List Token) (x z : AnnotatedForest) (i : SyntaxKind) (action : Action) (max_bp d n : ℕ) (us : List Token) (es ds : List Fault)
    → follows i x ≡ true
    → head_kind (xs ++ us) ≡ Some i → continue_action i ≡ action → first_tree z ≡ first_tree x → row_level z ≤ binding_power i → FollowedTo max_bp z
    → ReadsTree d n zs x (xs ++ us) es
    → ((level other : ℕ) (f : Frame) (fs : List Frame) (gs : List Fault)
    → Runs false (perform false action (opened Operand (p.AfterOperand level other) d x) (f ∷ fs) (xs ++ us) (end_from n zs) gs)
    (machine (opened Operand (p.AfterOperand level max_bp) d z ∷ (f ∷ fs)) us (end_from (end_from n zs) xs) (gs ++ ds)))
    → ReadsTree d n (zs ++ xs) z us (es ++ ds)
continued zs xs x z i action max_bp d n us es ds goes_so next act same least followed tree rest level f fs gs min_bp begins =
    by (tree level f fs gs (omega (arith, min_bp, least, follows_level i x goes_so))
    (begun_same level z x (zs ++ (xs ++ us)) same (subst (BeginsAs level z) (append_assoc zs xs us) begins)))
  where
    by : IsOperandRead level d n zs x (xs ++ us) es f fs gs → IsOperandRead level d n (zs ++ xs) z us (es ++ ds) f fs gs
    by r = record {
      max_bp = max_bp;
      followed = followed;
      runs =
          runs_from (ap (λ w. operand_on false level d f fs w w n gs) (append_assoc zs xs us))
          (runs_on r.runs
          (step_to
          (ap (λ w. perform false w (opened Operand (p.AfterOperand level r.max_bp) d x) (f ∷ fs) (xs ++ us) (end_from n zs) (gs ++ es))
          (ap (more_action level r.max_bp) next ∙ goes level r.max_bp i x r.followed goes_so (omega (arith, min_bp, least)) ∙ act))
          (runs_to
          (ap (λ w. machine (opened Operand (p.AfterOperand level max_bp) d z ∷ (f ∷ fs)) us (end_from (end_from n zs) xs) w) (append_assoc gs es ds)
          ∙ ap (λ w. machine (opened Operand (p.AfterOperand level max_bp) d z ∷ (f ∷ fs)) us w (gs ++ (es ++ ds))) (sym (end_behind n zs xs)))
          (rest level r.max_bp f fs (gs ++ es)))));
    }

-- the kinds of expressions that begin with one item
abbrev pub begins_with_item : SyntaxKind → Bool
begins_with_item NODE_BIN_OP = false
begins_with_item NODE_HAS_ATTR = false
begins_with_item NODE_APPLY = false
begins_with_item NODE_SELECT = false
begins_with_item NODE_LAMBDA = false
begins_with_item NODE_LEGACY_LET = false
begins_with_item k = is_expression k

-- the highest level after a node that begins with an item of a kind
abbrev max_bp_at : SyntaxKind → SyntaxKind → ℕ
max_bp_at NODE_UNARY_OP TOKEN_INVERT = 8
max_bp_at NODE_UNARY_OP i = 13
max_bp_at k i = if is_atom k then 16 else 0

-- an item of the kind begins an operand so
abbrev pub BegunBy : SyntaxKind → OperandStart → Type 0
BegunBy i (b.Leaf k) = (begins_with_item k ≡ true) × (after (row_of_kind k) (leaf_kind_as k i) ≡ done) × (is_atom k ≡ true)
BegunBy i (b.Node k z max_bp) = (begins_with_item k ≡ true) × (after (row_of_kind k) (leaf_kind_as k i) ≡ remaining_at z) × (is_at k (p.InRow z) ≡ true)
    × (max_bp_at k i ≡ max_bp)
BegunBy i b.NameLambda = i ≡ TOKEN_IDENT
BegunBy i b.BoundLambda = i ≡ TOKEN_IDENT
BegunBy i b.PatternLambda = i ≡ TOKEN_L_BRACE
BegunBy i how = Unit {0}

-- this holds for each beginning in the table
begins_by : (level : ℕ) (i : SyntaxKind) (text : List ℕ) (second third : Option SyntaxKind) → BegunBy i (operand_start_of level i text second third)
begins_by = each_first_tree (λ i second k. BegunBy i (operand_start_for k i)) (λ second. assumption)

-- the kind of the first tree and the first item determine how the reader begins the operand
pub begins_so : (k : SyntaxKind) (level : ℕ) (t : Token) (ts : List Token) → first_kind level t.kind t.text (head_kind ts) (second_kind ts) ≡ k
    → (operand_start_of level t.kind t.text (head_kind ts) (second_kind ts) ≡ operand_start_for k t.kind) × BegunBy t.kind (operand_start_for k t.kind)
begins_so k level t ts e =
    let s = ap (λ j. operand_start_for j t.kind) e in (s, subst (BegunBy t.kind) s (begins_by level t.kind t.text (head_kind ts) (second_kind ts)))

-- how an expression begins with an item: it is the item alone, or a node that continues at a position
pub data BegunByItem (k i : SyntaxKind) (how : OperandStart) : Type 0 where
  led_leaf : how ≡ b.Leaf k → after (row_of_kind k) (leaf_kind_as k i) ≡ done → is_atom k ≡ true → BegunByItem k i how
  led_node : (z max_bp : ℕ) → how ≡ b.Node k z max_bp → after (row_of_kind k) (leaf_kind_as k i) ≡ remaining_at z → is_at k (p.InRow z) ≡ true
      → max_bp_at k i ≡ max_bp → BegunByItem k i how

-- such an expression is its own first tree
first_led : (k : SyntaxKind) (c f : AnnotatedForest) → begins_with_item k ≡ true → first_tree (branch k c f) ≡ k
first_led NODE_BIN_OP c f h = absurd (true_is_not_false (sym h))
first_led _ c f h = cc

-- each expression that begins with an item begins in one of these ways, by the action
led_by : (k i : SyntaxKind) (how : OperandStart) → begins_with_item k ≡ true → kind_of how ≡ k → BegunBy i how → BegunByItem k i how
led_by k i (b.Leaf j) h e w =
    let v = subst (λ (z : SyntaxKind). BegunBy i (b.Leaf z)) e w in led_leaf (ap b.Leaf e) v.1 v.2
led_by k i (b.Node j z max_bp) h e w =
    let v = subst (λ (x : SyntaxKind). BegunBy i (b.Node x z max_bp)) e w in led_node z max_bp (ap (λ x. b.Node x z max_bp) e) v.1 v.2 v.3
led_by k i _ h e w = absurd (true_is_not_false (sym h ∙ ap begins_with_item (sym e)))

-- the same for the items of an operand
pub begins_led : (k : SyntaxKind) → begins_with_item k ≡ true → (level : ℕ) (t : Token) (ts : List Token) (c : AnnotatedForest)
    → first_kind level t.kind t.text (head_kind ts) (second_kind ts) ≡ first_tree (one_branch k c)
    → BegunByItem k t.kind (operand_start_of level t.kind t.text (head_kind ts) (second_kind ts))
begins_led k h level t ts c e =
    let w = begins_so k level t ts (e ∙ first_led k c blank h) in
    subst (BegunByItem k t.kind) (sym w.0) (led_by k t.kind (operand_start_for k t.kind) h (kind_of_begin k t.kind) w.1)

-- the nodes of prefix operators
abbrev is_unary : SyntaxKind → Bool
is_unary NODE_UNARY_OP = true
is_unary k = false

-- an expression that begins with an item and is neither an atom nor a prefix operation is at level 0
keyword_level : (k : SyntaxKind) (c : AnnotatedForest) → begins_with_item k ≡ true → is_atom k ≡ false → is_unary k ≡ false → level_of k c ≡ 0
keyword_level NODE_BIN_OP c h a u = absurd (true_is_not_false (sym h))
keyword_level _ c h a u = cc

-- what may follow such an expression, apart from prefix operations
followed_plain : (k : SyntaxKind) (c : AnnotatedForest) → begins_with_item k ≡ true → is_unary k ≡ false
    → FollowedTo (if is_atom k then 16 else 0) (one_branch k c)
followed_plain k c h u = by (is_atom k) refl
  where
    by : (w : Bool) → is_atom k ≡ w → FollowedTo (if w then 16 else 0) (one_branch k c)
    by true a = followed_atom (one_branch k c) (atom_is_selection_level k c a) a
    by false a = followed_keyword (one_branch k c) (keyword_level k c h a u) a

-- what may follow an expression that begins with an item
pub followed_item_begun : (k i : SyntaxKind) (t : Token) (f : AnnotatedForest) → begins_with_item k ≡ true
    → FollowedTo (max_bp_at k i) (one_branch k (token (leaf_kind_as k i) t f))
followed_item_begun NODE_UNARY_OP TOKEN_INVERT t f h = followed_inverted (one_branch NODE_UNARY_OP (token TOKEN_INVERT t f)) refl refl
followed_item_begun NODE_UNARY_OP i t f h = followed_negated (one_branch NODE_UNARY_OP (token i t f)) refl refl
followed_item_begun k i t f h = followed_plain k (token (leaf_kind_as k i) t f) h refl
