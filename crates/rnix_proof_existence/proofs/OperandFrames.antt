-- However an operand begins, the step preserves what is known of the frames, and what is read from there on contains the complete operand.
use Rattle.std.proofs.Common.{◌≡◌, ℕ, ◌≤◌, true, false, List, [], ◌∷◌, ◌++◌, Some, refl, ap, sym, ◌∙◌, subst, arith, append_assoc, append-nil}
use Rattle.rnix_kinds.specs.declared.kinds.SyntaxKind.{SyntaxKind, TheVariants.{TOKEN_LET, TOKEN_L_BRACE, TOKEN_IDENT, TOKEN_AT, NODE_IDENT, NODE_IDENT_PARAM}}
use Rattle.rnix_kinds.specs.declared.kinds.SyntaxKind.TheVariants.{NODE_LAMBDA, NODE_LEGACY_LET, NODE_PATTERN, NODE_PAT_BIND}
use Rattle.rnix_grammar.specs.{declared.{operand_start.OperandStart.OperandStart, slot_table.TheConstants.{BOUND_PATTERN, LAMBDA, LEGACY_LET, PATTERN}}, Fault.Fault, OperandStarts.{first_kind, operand_start_of}}
use Rattle.rnix_grammar.specs.{OperandStarts.second_kind, AnnotatedForest.{Token, Stray, AnnotatedForest, blank, token, ◌⊕◌, one_token, one_branch, one_fault}}
use Rattle.rnix_grammar.specs.{AnnotatedForest.{leaf_kind, leaf_kind_as, head_kind}, Reports.{report, repeats}, Tables.depth_limit, Operands.first_tree}
use Rattle.rnix_grammar.specs.{FirstKinds.BeginsAs, Reads.{IsOver, Reads, end}, Rules.{Row, after, done, is_first_expected, row as row_of_kind}}
use Rattle.rnix_proof_lemmas.specs.{Machine.{Machine, Node, Operand, Frame, put, opened, begun, machine, operand_on}, SlotRows.remaining_at}
use Rattle.rnix_proof_lemmas.proofs.{Basics.some_same, FollowLemmas.{atom_is_selection_level, followed_keyword}, FirstTrees.{IsSingle, a_node, an_error}}
use Rattle.rnix_proof_lemmas.proofs.{EachBeginning.{kind_of, kind_of_begin}, RowParts.{IsFront, front}, ReadsFrom.{leaf_from, name_reads, plain_from, past_over}}
use Rattle.rnix_proof_existence.proofs.{Growing.{MayGrow, atom_grows, grows_by}, Frames.{is_in_row_of, is_sound, AtOpen, an_operand, Reading, node, operand}}
use Rattle.rnix_proof_existence.proofs.{Frames.{waits, opens_on}, OperandStartLevels.{BeginsTree, begun_front, own_first, leaf_no_or, begun_grows, begun_tree}}
use Rattle.rnix_proof_existence.proofs.{OperandTrees.none_repeated, OpenFrames.{Outcome, Spans, spanned, spans_two, spans_made, item, a_node as lone_node}}
use Rattle.rnix_proof_existence.proofs.OpenFrames.{an_error as lone_error, IsRead, IsCompleteOperand, RowEnds, Closes, Fronts, EndsOn, EndsAll, row_fronted}
use Rattle.rnix_proof_existence.proofs.OpenFrames.{open_ends, operand_ends, OperandEnds}
use Rattle.rnix_grammar.specs.declared.position.Position.TheVariants as p
use Rattle.rnix_grammar.specs.declared.operand_start.OperandStart.TheVariants as b

-- the children of a node begin with an item that its row accepts first
pub item_first : {d n : ℕ} {q : Row} (k : SyntaxKind) (t : Token) (us : List Token) → IsFront (row_of_kind k) → after (row_of_kind k) (leaf_kind k t) ≡ q
    → Fronts k d n (row_of_kind k) blank (item k t) us t.end q []
item_first {n = n} k t us w g vs s f es v z = leaf_from v (w.expected n (t ∷ us) true) (w.followed blank (Some (leaf_kind k t))) g z

-- the children of a node begin with a node that is no operand
node_first : {d n m : ℕ} {u : Row} {ts us : List Token} {ds : List Fault} (k j : SyntaxKind) (c : AnnotatedForest) → IsFront (row_of_kind k) → Spans ts n us m c
    → Reads j d n (row_of_kind j) u blank us c ds → IsOver u m us
    → Fronts k d n (row_of_kind k) blank (one_branch j c) us m (after (row_of_kind k) j) (ds ++ repeats j blank c)
node_first {n = n} {ts = ts} k j c w v reads o vs s f es i z =
    plain_from w.no_operand i v.items reads v.item_end o (w.expected n ts (is_first_expected (row_of_kind k) j c)) (w.followed blank (head_kind ts)) refl z refl

-- the children of a node begin with a name
pub name_first : {d n : ℕ} (k : SyntaxKind) (t : Token) (us : List Token) → IsFront (row_of_kind k) → t.kind ≡ TOKEN_IDENT
    → Fronts k d n (row_of_kind k) blank (one_branch NODE_IDENT (item NODE_IDENT t)) us t.end (after (row_of_kind k) NODE_IDENT) []
name_first k t us w e =
    node_first k NODE_IDENT (item NODE_IDENT t) w spanned (name_reads t (ap (λ k. after (row_of_kind NODE_IDENT) (leaf_kind_as NODE_IDENT k)) e))
    (past_over t.end us)

-- the first items of an operand determine the kind of its first tree
begins_as : (level : ℕ) (t : Token) (us : List Token) (how : OperandStart) (x : AnnotatedForest)
    → operand_start_of level t.kind t.text (head_kind us) (second_kind us) ≡ how
    → kind_of how ≡ first_tree x → BeginsAs level x (t ∷ us)
begins_as level t us how x e h =
    sym (kind_of_begin (first_kind level t.kind t.text (head_kind us) (second_kind us)) t.kind) ∙ ap kind_of e ∙ h

-- a complete operand of a level can be read, becomes a child of the frame that waits for it, and the rest can be read to the outcome
pub record OperandStartEnds (whole : Outcome) (level d : ℕ) (g : Frame) (fs : List Frame) (ts : List Token) (n : ℕ) (gs : List Fault) : Type 0 where
  pub remaining : List Token
  pub prev_end : ℕ
  pub tree : AnnotatedForest
  pub inside : List Fault
  pub is_complete_operand : IsCompleteOperand level tree remaining
  pub read : IsRead level d n ts tree remaining prev_end inside
  pub ends : EndsOn whole fs (put g.position (g.children ⊕ tree) g) remaining prev_end (gs ++ inside)

-- an operand of a level above a frame that waits for it, inside `d` counted positions; the item before it ends at `n`, with the errors `gs` before it
module _ (whole : Outcome) (level d : ℕ) (g : Frame) (fs : List Frame) (n : ℕ) (gs : List Fault) (r : AtOpen g fs) (s : d ≤ depth_limit) (l : level ≤ 16) where
  -- a machine that has read the operand's beginning: its frames are valid, and if the text can be read after it, so can the operand
  abbrev pub OperandStarts : Machine → List Token → Type 0
  OperandStarts m ts = Reading m.frames × (EndsAll whole m.frames m.remaining m.prev_end m.faults → OperandStartEnds whole level d g fs ts n gs)

  -- the frame of an operand that operators up to a level may continue, and the frame of a function
  abbrev under : ℕ → AnnotatedForest → Frame
  under max_bp x = opened Operand (p.AfterOperand level max_bp) d x

  abbrev lambda : Frame
  lambda = opened (Node NODE_LAMBDA) (p.InRow LAMBDA) d blank

  -- the frames below the operand's first tree
  abbrev below : ℕ → List Frame
  below max_bp = under max_bp blank ∷ (g ∷ fs)

  -- the operand begins with a complete tree
  tree_begins : (max_bp : ℕ) (x : AnnotatedForest) (ts us : List Token) (m : ℕ) (cs hs : List Fault) → IsSingle x → MayGrow level max_bp x
      → IsRead level d n ts x us m cs → hs ≡ gs ++ cs
      → OperandStarts (machine (under max_bp x ∷ (g ∷ fs)) us m hs) ts
  tree_begins max_bp x ts us m cs hs single grows read h = (
    operand (record { single = single; grows = grows; shallow = s; below = waits g fs r }),
    λ ends. by (operand_ends whole g fs (under max_bp x) us m hs refl ends),
  )
    where
      by : OperandEnds (under max_bp x) g (EndsOn whole fs) us m hs → OperandStartEnds whole level d g fs ts n gs
      by o = record {
        remaining = o.remaining;
        prev_end = o.prev_end;
        tree = o.tree;
        inside = cs ++ o.inside;
        is_complete_operand = o.whole;
        read = o.grows n ts cs read;
        ends = subst (EndsOn whole fs (put g.position (g.children ⊕ o.tree) g) o.remaining o.prev_end) (ap (λ z. z ++ o.inside) h
            ∙ append_assoc gs cs o.inside) o.ends;
      }

  -- the operand begins with a node of which some trees are read
  node_begins : (max_bp : ℕ) (k : SyntaxKind) (z : ℕ) (x : AnnotatedForest) (ts us : List Token) (m : ℕ) (zs hs : List Fault) → is_sound (Node k) ≡ true
      → is_in_row_of (p.InRow z) k ≡ true
      → ((rest : AnnotatedForest) → MayGrow level max_bp (one_branch k (x ⊕ rest))) → Spans ts n us m x
      → Fronts k d n (row_of_kind k) blank x us m (remaining_at z) zs
      → ((rest : AnnotatedForest) → BeginsAs level (one_branch k (x ⊕ rest)) ts) → hs ≡ gs ++ zs
      → OperandStarts (machine (opened (Node k) (p.InRow z) d x ∷ below max_bp) us m hs) ts
  node_begins max_bp k z x ts us m zs hs sound in_row_of grows v reads first h = (
    node (opens_on k (p.InRow z) d x (below max_bp) sound in_row_of s (an_operand level max_bp d s grows (waits g fs r))),
    λ ends. by (open_ends whole (under max_bp blank) (g ∷ fs) (opened (Node k) (p.InRow z) d x) us m hs refl ends),
  )
    where
      by : RowEnds (Node k) d (remaining_at z) x (Closes (Node k) (under max_bp blank) (EndsOn whole (g ∷ fs))) us m hs
          → OperandStartEnds whole level d g fs ts n gs
      by o =
          let c : AnnotatedForest = x ⊕ o.rest in
          let span : Spans ts n o.remaining o.prev_end c = spans_two x o.rest v o.span in
          (tree_begins max_bp (one_branch k c) ts o.remaining o.prev_end (zs ++ o.inside) ((hs ++ o.inside) ++ repeats k blank c) a_node (grows o.rest)
          (record {
            span = spans_made (Node k) c span;
            begins = first o.rest;
            operand_tree = lone_node (reads o.remaining o.row_state o.rest o.inside o.span.items o.reads) span.item_end o.ends.0;
          })
          (none_repeated level k blank c (hs ++ o.inside) (grows o.rest).fit ∙ ap (λ z. z ++ o.inside) h ∙ append_assoc gs zs o.inside)).1 o.ends.1

  lambda_grows : (c : AnnotatedForest) → MayGrow level 16 (one_branch NODE_LAMBDA c)
  lambda_grows c = atom_grows level (one_branch NODE_LAMBDA c) refl refl refl l

  -- the operand begins with a function of whose pattern some trees are read
  pattern_begins : (z : ℕ) (x : AnnotatedForest) (ts us : List Token) (m : ℕ) → is_in_row_of (p.InRow z) NODE_PATTERN ≡ true → Spans ts n us m x
      → Fronts NODE_PATTERN d n (row_of_kind NODE_PATTERN) blank x us m (remaining_at z) []
      → ((c rest : AnnotatedForest) → BeginsAs level (one_branch NODE_LAMBDA (one_branch NODE_PATTERN c ⊕ rest)) ts)
      → OperandStarts (machine (opened (Node NODE_PATTERN) (p.InRow z) d x ∷ (lambda ∷ below 16)) us m gs) ts
  pattern_begins z x ts us m in_row_of v reads first = (
    node (opens_on NODE_PATTERN (p.InRow z) d x (lambda ∷ below 16) refl in_row_of s
        (waits lambda (below 16)
        (opens_on NODE_LAMBDA (p.InRow LAMBDA) d blank (below 16) refl refl s (an_operand level 16 d s (λ rest. lambda_grows (blank ⊕ rest)) (waits g fs r))))),
    λ ends. by (row_fronted x [] v (sym (append-nil gs)) reads
        (open_ends whole lambda (below 16) (opened (Node NODE_PATTERN) (p.InRow z) d x) us m gs refl ends)),
  )
    where
      by : RowEnds (Node NODE_PATTERN) d (row_of_kind NODE_PATTERN) blank (Closes (Node NODE_PATTERN) lambda (EndsOn whole (below 16))) ts n gs
          → OperandStartEnds whole level d g fs ts n gs
      by o =
          (node_begins 16 NODE_LAMBDA LAMBDA (one_branch NODE_PATTERN o.rest) ts o.remaining o.prev_end (o.inside ++ []) ((gs ++ o.inside) ++ []) refl refl
          (λ rest. lambda_grows (one_branch NODE_PATTERN o.rest ⊕ rest)) (spans_made (Node NODE_PATTERN) o.rest o.span)
          (node_first NODE_LAMBDA NODE_PATTERN o.rest (front (row_of_kind NODE_LAMBDA) refl) o.span o.reads o.ends.0)
          (first o.rest) (append_assoc gs o.inside [])).1 o.ends.1

  -- the operand begins in one of the ways in the table
  begun_begins : (how : OperandStart) (t : Token) (us : List Token) → operand_start_of level t.kind t.text (head_kind us) (second_kind us) ≡ how
      → BeginsTree how level t.kind (head_kind us) → OperandStarts (begun false how level d t g fs (t ∷ us) n gs) (t ∷ us)
  begun_begins (b.Leaf k) t us e h =
      let c : AnnotatedForest = item k t in
      tree_begins 16 (one_branch k c) (t ∷ us) us t.end [] gs a_node
      (atom_grows level (one_branch k c) h.2 (atom_is_selection_level k c h.2) (leaf_no_or k (leaf_kind k t) t h.3) l)
      (record {
        span = spanned;
        begins = begins_as level t us (b.Leaf k) (one_branch k c) e (sym (own_first k (leaf_kind k t) t blank h.1));
        operand_tree = lone_node (item_first k t us (begun_front k h.1) h.0 us done blank [] refl end) refl (past_over t.end us);
      })
      (sym (append-nil gs))
  begun_begins (b.Node k z max_bp) t us e h =
      let x : AnnotatedForest → AnnotatedForest = λ rest. one_branch k (token (leaf_kind k t) t rest) in
      node_begins max_bp k z (item k t) (t ∷ us) us t.end [] gs h.3 h.4
      (λ rest. subst (λ (v : ℕ). MayGrow level v (x rest)) h.5 (begun_grows k t.kind level t rest h.1 h.2 h.3)) spanned
      (item_first k t us (begun_front k h.1) h.0)
      (λ rest. begins_as level t us (b.Node k z max_bp) (x rest) e (sym (own_first k (leaf_kind k t) t rest h.1))) (sym (append-nil gs))
  begun_begins b.LegacyLet t [] e h = absurd (cc h.1)
  begun_begins b.LegacyLet t (u ∷ us) e h =
      let x : AnnotatedForest = item NODE_LEGACY_LET t ⊕ item NODE_LEGACY_LET u in
      let y : AnnotatedForest → AnnotatedForest = λ rest. one_branch NODE_LEGACY_LET (x ⊕ rest) in
      node_begins 0 NODE_LEGACY_LET LEGACY_LET x (t ∷ (u ∷ us)) us u.end [] gs refl refl
      (λ rest. grows_by level 0 (y rest) refl (omega (arith, h.2)) (omega arith) (followed_keyword (y rest) refl refl) refl) spanned
      (λ remaining s rest ds v z.
      item_first NODE_LEGACY_LET t (u ∷ us) (front (row_of_kind NODE_LEGACY_LET) refl)
      (ap (λ k. after (row_of_kind NODE_LEGACY_LET) (leaf_kind_as NODE_LEGACY_LET k)) h.0)
      remaining s (item NODE_LEGACY_LET u ⊕ rest) ds (ap (λ z. u ∷ z) v)
      (leaf_from v tt tt (ap (λ k. after (after (row_of_kind NODE_LEGACY_LET) TOKEN_LET) (leaf_kind_as NODE_LEGACY_LET k)) (some_same u.kind TOKEN_L_BRACE h.1))
      z))
      (λ rest. begins_as level t (u ∷ us) b.LegacyLet (y rest) e refl) (sym (append-nil gs))
  begun_begins b.NameLambda t us e h =
      let x : AnnotatedForest = one_branch NODE_IDENT_PARAM (one_branch NODE_IDENT (item NODE_IDENT t)) in
      node_begins 16 NODE_LAMBDA LAMBDA x (t ∷ us) us t.end [] gs refl refl (λ rest. lambda_grows (x ⊕ rest)) spanned
      (node_first NODE_LAMBDA NODE_IDENT_PARAM (one_branch NODE_IDENT (item NODE_IDENT t)) (front (row_of_kind NODE_LAMBDA) refl) spanned
      (name_first NODE_IDENT_PARAM t us (front (row_of_kind NODE_IDENT_PARAM) refl) h us done blank [] refl end) (past_over t.end us))
      (λ rest. begins_as level t us b.NameLambda (one_branch NODE_LAMBDA (x ⊕ rest)) e refl) (sym (append-nil gs))
  begun_begins b.BoundLambda t [] e h = absurd (cc h.1)
  begun_begins b.BoundLambda t (u ∷ us) e h =
      let x : AnnotatedForest = one_branch NODE_IDENT (item NODE_IDENT t) ⊕ item NODE_PAT_BIND u in
      pattern_begins BOUND_PATTERN (one_branch NODE_PAT_BIND x) (t ∷ (u ∷ us)) us u.end refl spanned
      (node_first NODE_PATTERN NODE_PAT_BIND x (front (row_of_kind NODE_PATTERN) refl) spanned
      (name_first NODE_PAT_BIND t (u ∷ us) (front (row_of_kind NODE_PAT_BIND) refl) h.0 us done (item NODE_PAT_BIND u) [] refl
      (leaf_from refl tt tt (ap (λ k. after (after (row_of_kind NODE_PAT_BIND) NODE_IDENT) (leaf_kind_as NODE_PAT_BIND k))
      (some_same u.kind TOKEN_AT h.1)) end))
      (past_over u.end us))
      (λ c rest. begins_as level t (u ∷ us) b.BoundLambda (one_branch NODE_LAMBDA (one_branch NODE_PATTERN c ⊕ rest)) e refl)
  begun_begins b.PatternLambda t us e h =
      pattern_begins PATTERN (item NODE_PATTERN t) (t ∷ us) us t.end refl spanned
      (item_first NODE_PATTERN t us (front (row_of_kind NODE_PATTERN) refl) (ap (λ k. after (row_of_kind NODE_PATTERN) (leaf_kind_as NODE_PATTERN k)) h))
      (λ c rest. begins_as level t us b.PatternLambda (one_branch NODE_LAMBDA (one_branch NODE_PATTERN c ⊕ rest)) e refl)
  begun_begins b.Stray t us e h =
      let x : AnnotatedForest = one_fault Stray (one_token t.kind t) in
      tree_begins 16 x (t ∷ us) us t.end (report Stray (t ∷ []) ∷ []) (gs ++ report Stray (t ∷ []) ∷ []) an_error (atom_grows level x refl refl refl l)
      (record { span = spanned; begins = begins_as level t us b.Stray x e refl; operand_tree = lone_error }) refl

  -- the step at an operand's first item preserves what is known
  pub operand_begins : (t : Token) (us : List Token) → OperandStarts (operand_on false level d g fs (t ∷ us) (t ∷ us) n gs) (t ∷ us)
  operand_begins t us =
      begun_begins (operand_start_of level t.kind t.text (head_kind us) (second_kind us)) t us refl
      (begun_tree level t.kind t.text (head_kind us) (second_kind us) l)
