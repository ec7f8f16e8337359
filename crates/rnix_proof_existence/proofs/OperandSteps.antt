-- Each step at an operand preserves what is known of the frames. If the text can be read after the step, it can be read before it.
use Rattle.std.proofs.Common.{◌≡◌, inr, ℕ, ◌≤◌, Bool, true, false, List, [], ◌∷◌, ◌++◌, Some, None, refl, ap, sym, ◌∙◌, subst, append_assoc, append-nil, arith}
use Rattle.std.proofs.{Common.{◌||◌, ◌&&◌, if◌then◌else◌, nat_eq, nat_le}, lemmas.Bool.{and_parts, and_from, Decides.nat_tests}}
use Rattle.rnix_kinds.specs.declared.kinds.SyntaxKind.{SyntaxKind, TheVariants.{TOKEN_DOT, TOKEN_OR, TOKEN_QUESTION, NODE_SELECT, NODE_APPLY, NODE_HAS_ATTR}}
use Rattle.rnix_kinds.{specs.{declared.kinds.SyntaxKind.TheVariants.{NODE_BIN_OP, NODE_IDENT}, SyntaxKind.is_fn_arg}, proofs.AllKinds.implied}
use Rattle.rnix_grammar.specs.declared.{position.Position.Position, action.Action.Action, slot_table.TheConstants.{APPLIED, HAS_ATTR, SELECT}}
use Rattle.rnix_grammar.specs.{declared.rules.Part.TheVariants.{Argument, Binary, Suffix}, Fault.Fault, Levels.{binding_power, right_of, max_bp_of}}
use Rattle.rnix_grammar.specs.{Actions.{continue_action, may_continue, more_action}, TokenKinds.is_or, NodeClasses.{is_infix, fits}, AnnotatedForest.{Token, AnnotatedForest, blank}}
use Rattle.rnix_grammar.specs.{AnnotatedForest.{◌⊕◌, one_branch, leaf_kind, leaf_kind_as, head_kind}, Reports.repeats, Operands.{first_tree, follows}}
use Rattle.rnix_grammar.specs.{Operands.{is_continued}, TreeLevels.{row_level, operator_in, calls_or}, Reads.end, FirstKinds.{BeginsAs, IsOperandOf}}
use Rattle.{rnix_grammar.{specs.{Rules.{IsExpected, IsFollowed, Row, after, done, row as row_of_kind, ◌·◌, only}}}, rnix_proof_lemmas.specs.Machine.Node}
use Rattle.rnix_proof_lemmas.{specs.{Machine.{Operand, Frame, put, opened}, SlotRows.remaining_at}, proofs.Basics.{true_is_not_false, not_if, some_same}}
use Rattle.rnix_proof_lemmas.proofs.{AnnotatedForestLemmas.⊕-assoc, LevelLemmas.{at_most, at_most_true, fits_looser, right_within, within}}
use Rattle.rnix_proof_lemmas.proofs.{FollowLemmas.{FollowedTo, followed_selection, followed_question}, FirstTrees.{a_node, first_in, single_operator}}
use Rattle.rnix_proof_lemmas.proofs.{FirstTrees.single_calls, RowParts.{IsFront, front}, ReadsFrom.{inner_from, leaf_from, name_reads, past_over}}
use Rattle.{rnix_proof_lemmas.proofs.RestAt.rest_at, rnix_proof_existence.proofs.Growing.{MayGrow, seen_kind, atom_seen, grows_by, call_grows, operator_grows}}
use Rattle.rnix_proof_existence.proofs.{OperandTrees.{argument_takes, first_placed, placed, none_repeated}, Frames.{is_in_row_of, is_sound, AtOperand, Below}}
use Rattle.rnix_proof_existence.proofs.{Frames.{One, an_operand, node, operand, opens_on, landed, alone}, OpenFrames.{Outcome, Spans, spanned, spans_two}}
use Rattle.rnix_proof_existence.proofs.OpenFrames.{spans_made, item, a_node as lone_node, IsRead, Grows, RowEnds, Closes, EndsOn, IsPreservedBy, row_fronted}
use Rattle.rnix_proof_existence.proofs.{OpenFrames.{open_ends, operand_ends}, OperandFrames.{OperandStartEnds, operand_begins}}
use Rattle.rnix_grammar.specs.declared.position.Position.TheVariants as p
use Rattle.rnix_grammar.specs.declared.action.Action.TheVariants as a

-- a token of level 15 begins an argument, and is not the name `or`
argument_is : (k : SyntaxKind) → binding_power k ≡ 15 → is_fn_arg k ≡ true
argument_is k h = implied (λ o. nat_eq (binding_power o) 15) is_fn_arg refl k (grind (arith, nat_tests, h))

argument_no_or : (k : SyntaxKind) → binding_power k ≡ 15 → is_or k ≡ false
argument_no_or k h = not_if (is_or k) (implied (λ o. nat_eq (binding_power o) 15) (λ o. if is_or o then false else true) refl k (grind (arith, nat_tests, h)))

-- an operand is not continued by an item that may not continue it between its two levels
not_followed_behind : (min_bp max_bp : ℕ) (x : AnnotatedForest) (ts : List Token) →
    ((j : SyntaxKind) → head_kind ts ≡ Some j → may_continue min_bp max_bp j ≡ false)
    → FollowedTo max_bp x → is_continued min_bp x ts ≡ false
not_followed_behind min_bp max_bp x [] h w = refl
not_followed_behind min_bp max_bp x (t ∷ ts) h w = by (follows t.kind x) (nat_le min_bp (binding_power t.kind)) refl refl
  where
    by : (u v : Bool) → follows t.kind x ≡ u → nat_le min_bp (binding_power t.kind) ≡ v → (u && v) ≡ false
    by false v e f = refl
    by true false e f = refl
    by true true e f =
        let q = (w t.kind).1 e in
        absurd (true_is_not_false (sym (and_from _ _ (at_most_true 1 (binding_power t.kind) q.0)
        (and_from _ _ f (at_most_true (binding_power t.kind) max_bp q.1))) ∙ h t.kind refl))

-- an operand begins as another one does whose first tree is the same
begun_same : (level : ℕ) (x y : AnnotatedForest) (ts : List Token) → first_tree y ≡ first_tree x → BeginsAs level x ts → BeginsAs level y ts
begun_same level x y [] e h = h
begun_same level x y (t ∷ ts) e h = h ∙ sym e

-- the binding power of a token is between two levels
abbrev Between : ℕ → ℕ → SyntaxKind → Type 0
Between min_bp max_bp k = (1 ≤ binding_power k) × (min_bp ≤ binding_power k) × (binding_power k ≤ max_bp)

-- the binding power of a token that may continue an operand is between the operand's levels
between : (min_bp max_bp : ℕ) (k : SyntaxKind) → may_continue min_bp max_bp k ≡ true → Between min_bp max_bp k
between min_bp max_bp k h =
    let x = and_parts _ _ h in let y = within min_bp (binding_power k) max_bp x.1 in (at_most 1 (binding_power k) x.0, y.0, y.1)

-- the action of a token that continues an operand
data FollowsBy : SyntaxKind → Action → Type 0 where
  by_dot : FollowsBy TOKEN_DOT (a.Wrap NODE_SELECT (p.InRow SELECT) 15)
  by_or : FollowsBy TOKEN_OR a.ApplyOr
  by_question : FollowsBy TOKEN_QUESTION (a.Wrap NODE_HAS_ATTR (p.InRow HAS_ATTR) 13)
  by_operator : {k : SyntaxKind} → is_infix k ≡ true → FollowsBy k (a.Wrap NODE_BIN_OP (p.Right (right_of k)) (max_bp_of k))
  by_argument : {k : SyntaxKind} → binding_power k ≡ 15 → FollowsBy k a.Apply

no_binding_power : (k : SyntaxKind) (action : Action) → 1 ≤ 0 → FollowsBy k action
no_binding_power k action h = absurd (omega (arith, h))

-- each token with a binding power has such an action
followed_by : (k : SyntaxKind) → 1 ≤ binding_power k → FollowsBy k (continue_action k)
followed_by TOKEN_DOT h = by_dot
followed_by TOKEN_OR h = by_or
followed_by TOKEN_QUESTION h = by_question
followed_by _ h = first_of (search by_operator, search by_argument, search (no_binding_power, h))

-- an operand that operators between two levels may continue, inside `d` counted positions; the last item read ends at `n`, and `gs` are the errors so far
module _ (whole : Outcome) (min_bp max_bp d : ℕ) (x : AnnotatedForest) (n : ℕ) (gs : List Fault) where
  -- its frame
  abbrev frame : Frame
  frame = opened Operand (p.AfterOperand min_bp max_bp) d x

  -- its frame with another tree, which operators up to another level may continue
  abbrev other_frame : ℕ → AnnotatedForest → Frame
  other_frame other c = opened Operand (p.AfterOperand min_bp other) d c

  -- no item continues the operand, so it is complete
  settles : (fs : List Frame) → AtOperand min_bp max_bp d x fs → (ts : List Token)
      → ((j : SyntaxKind) → head_kind ts ≡ Some j → may_continue min_bp max_bp j ≡ false)
      → IsPreservedBy whole a.EndOperand frame fs ts n gs
  settles [] r ts h = absurd (alone r.below)
  settles (g ∷ fs) r ts h = (
    landed Operand x g fs r.below,
    λ ends. inr (record {
      remaining = ts;
      prev_end = n;
      tree = x;
      inside = [];
      is = refl;
      whole = record {
        least = r.grows.least;
        fit = r.grows.fit;
        no_or = r.grows.no_or;
        not_followed = not_followed_behind min_bp max_bp x ts h r.grows.follow;
      };
      grows = λ l all cs i. subst (IsRead min_bp d l all x ts n) (sym (append-nil cs)) i;
      ends = subst (EndsOn whole fs (put g.position (g.children ⊕ x) g) ts n) (sym (append-nil gs)) ends;
    }),
  )

  -- the operand is the first tree of a node, and the rest of that node's row can be read
  abbrev WrapEnds : ℕ → SyntaxKind → Row → List Frame → List Token → Type 0
  WrapEnds other k q fs ts = RowEnds (Node k) d q x (Closes (Node k) (other_frame other blank) (EndsOn whole fs)) ts n gs

  -- then that node is the operand
  wraps_on : (fs : List Frame) → AtOperand min_bp max_bp d x fs → (other : ℕ) (k : SyntaxKind) (q : Row) (ts : List Token) → IsFront (row_of_kind k)
      → after (row_of_kind k) (seen_kind x) ≡ q
      → ((c : AnnotatedForest) → first_tree (one_branch k c) ≡ first_tree c) → fits min_bp k ≡ true → WrapEnds other k q fs ts → EndsOn whole fs frame ts n gs
  wraps_on [] r other k q ts st g first fit o = absurd (alone r.below)
  wraps_on (j ∷ fs) r other k q ts st g first fit o =
      let hs : List Fault = (gs ++ o.inside) ++ repeats k blank c in
      let e = operand_ends whole j fs (other_frame other (one_branch k c)) o.remaining o.prev_end hs refl o.ends.1 in
      inr (record {
        remaining = e.remaining;
        prev_end = e.prev_end;
        tree = e.tree;
        inside = o.inside ++ e.inside;
        is = refl;
        whole = e.whole;
        grows = λ l all cs i. subst (IsRead min_bp d l all e.tree e.remaining e.prev_end) (append_assoc cs o.inside e.inside)
            (e.grows l all (cs ++ o.inside) (wrapped l all cs i));
        ends =
            subst (EndsOn whole fs (put j.position (j.children ⊕ e.tree) j) e.remaining e.prev_end)
            (ap (λ z. z ++ e.inside) (none_repeated min_bp k blank c (gs ++ o.inside) fit) ∙ append_assoc gs o.inside e.inside) e.ends;
      })
    where
      c : AnnotatedForest
      c = x ⊕ o.rest

      wrapped : Grows min_bp d x ts n (one_branch k c) o.remaining o.prev_end o.inside
      wrapped l all cs i =
          let span : Spans all l o.remaining o.prev_end c = spans_two x o.rest i.span o.span in
          record {
            span = spans_made (Node k) c span;
            begins = begun_same min_bp x (one_branch k c) all (first c ∙ first_in x o.rest r.single) i.begins;
            operand_tree = lone_node (first_placed min_bp st i.operand_tree r.grows.fit o.span.items i.span.item_end g o.reads) span.item_end o.ends.0;
          }

  module _ (fs : List Frame) (r : AtOperand min_bp max_bp d x fs) where
    -- the next item makes the operand the first tree of a node
    wraps : (t : Token) (ts : List Token) (k : SyntaxKind) (q : Row) (z : Position) (other : ℕ) → IsFront (row_of_kind k)
        → after (row_of_kind k) (seen_kind x) ≡ q
        → ((us : List Token) → IsExpected q n us true) → IsFollowed q x (Some (leaf_kind k t)) → after q (leaf_kind k t) ≡ rest_at z
        → ((c : AnnotatedForest) → first_tree (one_branch k c) ≡ first_tree c) → is_sound (Node k) ≡ true → is_in_row_of z k ≡ true
        → ((rest : AnnotatedForest) → MayGrow min_bp other (one_branch k ((x ⊕ item k t) ⊕ rest)))
        → IsPreservedBy whole (a.Wrap k z other) frame fs (t ∷ ts) n gs
    wraps t ts k q z other st g own fo h first sound in_row_of grows = (
      node (opens_on k z d (x ⊕ item k t) (other_frame other blank ∷ fs) sound in_row_of r.shallow (an_operand min_bp other d r.shallow grows r.below)),
      λ ends. wraps_on fs r other k q (t ∷ ts) st g first (grows blank).fit
          (row_fronted (item k t) [] spanned (sym (append-nil gs)) (λ vs s c es e w. leaf_from e (own (t ∷ ts)) fo h w)
          (open_ends whole (other_frame other blank) fs (opened (Node k) z d (x ⊕ item k t)) ts t.end gs refl ends)),
    )

    -- if the operand's levels allow it, an argument may follow it
    is_called : 15 ≤ max_bp → after (row_of_kind NODE_APPLY) (seen_kind x) ≡ Argument · done
    is_called l = ap (λ w. only w (Argument · done)) (fits_looser 15 max_bp (seen_kind x) l r.grows.tight)

    -- an argument follows the operand
    applies : (t : Token) (ts : List Token) → after (row_of_kind NODE_APPLY) (seen_kind x) ≡ Argument · done → min_bp ≤ 15 → is_or t.kind ≡ false
        → is_fn_arg t.kind ≡ true → follows t.kind x ≡ true
        → IsPreservedBy whole a.Apply frame fs (t ∷ ts) n gs
    applies t ts g l nor arg fo =
        let below : Below (One NODE_APPLY x) (under ∷ fs) = an_operand min_bp 15 d r.shallow grows r.below in
        let b = operand_begins whole 16 d (called x) (under ∷ fs) n gs (opens_on NODE_APPLY (p.InRow APPLIED) d x (under ∷ fs) refl refl r.shallow below)
        r.shallow (omega arith) t ts in
        (b.0, λ ends. by (b.1 ends))
      where
        under : Frame
        under = other_frame 15 blank

        called : AnnotatedForest → Frame
        called c = opened (Node NODE_APPLY) (p.InRow APPLIED) d c

        grows : (rest : AnnotatedForest) → MayGrow min_bp 15 (one_branch NODE_APPLY (x ⊕ rest))
        grows rest = call_grows min_bp (x ⊕ rest) (elim (calls_or (x ⊕ rest)) as (λ w. min_bp ≤ (if w then 16 else 15)) [ true ↦ omega (arith, l) | false ↦ l ])

        followed : IsFollowed (Argument · done) x (Some t.kind)
        followed = ap (λ w. (w || is_or t.kind) && follows t.kind x) arg ∙ fo

        by : OperandStartEnds whole 16 d (called x) (under ∷ fs) (t ∷ ts) n gs → EndsOn whole fs frame (t ∷ ts) n gs
        by e =
            wraps_on fs r 15 NODE_APPLY (Argument · done) (t ∷ ts) (front (row_of_kind NODE_APPLY) refl) g (λ c. refl) (grows blank).fit
            (row_fronted e.tree e.inside e.read.span refl
            (λ vs s c es i z. placed argument_takes e.read e.is_complete_operand i nor (λ v. absurd (true_is_not_false (sym v))) followed z)
            (open_ends whole under fs (called (x ⊕ e.tree)) e.remaining e.prev_end (gs ++ e.inside) refl e.ends))

    -- the name `or` follows the operand as an argument
    applies_or : (t : Token) (ts : List Token) → after (row_of_kind NODE_APPLY) (seen_kind x) ≡ Argument · done → min_bp ≤ 16 → t.kind ≡ TOKEN_OR
        → follows TOKEN_OR x ≡ true
        → IsPreservedBy whole a.ApplyOr frame fs (t ∷ ts) n gs
    applies_or t ts g l e fo = (
      operand (record { single = a_node; grows = grows; shallow = r.shallow; below = r.below }),
      λ ends. wraps_on fs r 15 NODE_APPLY (Argument · done) (t ∷ ts) (front (row_of_kind NODE_APPLY) refl) g (λ c. refl) grows.fit (record {
        remaining = ts;
        prev_end = t.end;
        row_state = done;
        rest = name;
        inside = [];
        opened = refl;
        reads =
            inner_from refl refl (name_reads t (ap (λ k. after (row_of_kind NODE_IDENT) (leaf_kind_as NODE_IDENT k)) e)) refl (past_over t.end ts) refl
            (λ v. absurd (true_is_not_false (sym v))) (subst (λ (k : SyntaxKind). IsFollowed (Argument · done) x (Some k)) (sym e) fo)
            (subst (λ (k : SyntaxKind). IsOperandOf (if is_or k then None else Some 16) name ts) (sym e) tt) refl end refl;
        span = spanned;
        ends = (
          past_over t.end ts,
          subst (EndsOn whole fs (other_frame 15 (one_branch NODE_APPLY (x ⊕ name))) ts t.end)
              (sym (append-nil (gs ++ []) ∙ append-nil gs)) ends,
        );
      }),
    )
      where
        name : AnnotatedForest
        name = one_branch NODE_IDENT (item NODE_IDENT t)

        level : row_level (one_branch NODE_APPLY (x ⊕ name)) ≡ 16
        level = ap (λ w. if w then 16 else 15) (single_calls x name r.single ∙ ap is_or e)

        grows : MayGrow min_bp 15 (one_branch NODE_APPLY (x ⊕ name))
        grows = call_grows min_bp (x ⊕ name) (omega (arith, level, l))

    -- an item whose binding power is between the two levels continues the operand's tree
    follows_it : (k j : SyntaxKind) → j ≡ k → Between min_bp max_bp k → follows j x ≡ true
    follows_it k j e w = subst (λ (j : SyntaxKind). follows j x ≡ true) (sym e) ((r.grows.follow k).0 w.0 w.2)

    -- the step of an item that continues the operand preserves what is known
    goes : (k : SyntaxKind) (action : Action) → FollowsBy k action → (t : Token) (ts : List Token) → t.kind ≡ k → Between min_bp max_bp k
        → IsPreservedBy whole action frame fs (t ∷ ts) n gs
    goes k action by_dot t ts e w =
        let node : AnnotatedForest → AnnotatedForest = λ rest. one_branch NODE_SELECT ((x ⊕ item NODE_SELECT t) ⊕ rest) in
        let q : Row = Suffix TOKEN_DOT · remaining_at SELECT in
        wraps t ts NODE_SELECT q (p.InRow SELECT) 15 (front (row_of_kind NODE_SELECT) refl) (ap (λ w. only w q) (atom_seen x (follows_it k k refl w)))
        (λ us. tt)
        (follows_it k t.kind e w)
        (ap (λ j. after q (leaf_kind_as NODE_SELECT j)) e) (λ c. refl) refl refl
        (λ rest. grows_by min_bp 15 (node rest) refl w.1 (omega arith) (followed_selection (node rest) refl refl) refl)
    goes k action by_question t ts e w =
        let node : AnnotatedForest → AnnotatedForest = λ rest. one_branch NODE_HAS_ATTR ((x ⊕ item NODE_HAS_ATTR t) ⊕ rest) in
        let q : Row = Suffix TOKEN_QUESTION · remaining_at HAS_ATTR in
        wraps t ts NODE_HAS_ATTR q (p.InRow HAS_ATTR) 13 (front (row_of_kind NODE_HAS_ATTR) refl)
        (ap (λ w. only w q) (fits_looser 13 max_bp (seen_kind x) w.2 r.grows.tight)) (λ us. tt)
        (follows_it k t.kind e w) (ap (λ j. after q (leaf_kind_as NODE_HAS_ATTR j)) e) (λ c. refl) refl refl
        (λ rest. grows_by min_bp 13 (node rest) refl w.1 (omega arith) (followed_question (node rest) refl refl) refl)
    goes k action (by_operator h) t ts e w =
        wraps t ts NODE_BIN_OP (Binary · done) (p.Right (right_of k)) (max_bp_of k) (front (row_of_kind NODE_BIN_OP) refl)
        (ap (λ w. only w (Binary · done)) (fits_looser 1 max_bp (seen_kind x) (omega (arith, w.2, w.0)) r.grows.tight)) (λ us. tt)
        (follows_it k t.kind e w)
        (ap (λ j. after (Binary · done) (leaf_kind_as NODE_BIN_OP j)) e ∙ ap (λ w. only w (rest_at (p.Right (right_of k)))) h) (λ c. refl) refl
        (ap (λ w. w && true) (at_most_true (right_of k) 16 (right_within k).1))
        (λ rest. operator_grows min_bp k ((x ⊕ item NODE_BIN_OP t) ⊕ rest) h w.1
        (ap binding_power (ap operator_in (⊕-assoc x (item NODE_BIN_OP t) rest) ∙ single_operator x rest (leaf_kind NODE_BIN_OP t) t r.single ∙ e)))
    goes k action by_or t ts e w = applies_or t ts (is_called (omega (arith, w.2))) w.1 e (follows_it k k refl w)
    goes k action (by_argument h) t ts e w =
        applies t ts (is_called (omega (arith, w.2, h))) (omega (arith, w.1, h)) (ap is_or e ∙ argument_no_or k h) (ap is_fn_arg e ∙ argument_is k h)
        (follows_it k t.kind e w)

    -- each step at the operand preserves what is known
    pub operand_step : (ts : List Token) → IsPreservedBy whole (more_action min_bp max_bp (head_kind ts)) frame fs ts n gs
    operand_step [] = settles fs r [] (λ j e. absurd (cc e))
    operand_step (t ∷ ts) = by (may_continue min_bp max_bp t.kind) refl
      where
        by : (w : Bool) → may_continue min_bp max_bp t.kind ≡ w →
            IsPreservedBy whole (if w then continue_action t.kind else a.EndOperand) frame fs (t ∷ ts) n gs
        by true e = let w : Between min_bp max_bp t.kind = between min_bp max_bp t.kind e in goes t.kind (continue_action t.kind)
            (followed_by t.kind w.0) t ts refl w
        by false e = settles fs r (t ∷ ts) (λ j h. subst (λ (k : SyntaxKind). may_continue min_bp max_bp k ≡ false) (some_same t.kind j h) e)
