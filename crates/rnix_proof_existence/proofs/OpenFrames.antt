-- What each open frame will contain once the text has been read to its end.
use Rattle.std.proofs.Common.{◌≡◌, ◌⊎◌, inl, inr, ℕ, ◌≤◌, true, false, List, [], ◌∷◌, ◌++◌, refl, ap, sym, ◌∙◌, subst, append_assoc, append-nil}
use Rattle.{rnix_kinds.specs.declared.kinds.SyntaxKind.{SyntaxKind, TheVariants.NODE_ROOT}, rnix_grammar.specs.declared.position.Position.Position}
use Rattle.rnix_grammar.specs.{declared.{action.Action.Action, rules.Part.TheVariants.TextEnd}, Fault.Fault, NodeClasses.fits, TreeLevels.{row_level, is_or_row}}
use Rattle.rnix_grammar.specs.{FirstKinds.BeginsAs, Operands.is_continued, AnnotatedForest.{Token, Stray, AnnotatedForest, blank, ◌⊕◌, one_token, one_branch}}
use Rattle.rnix_grammar.specs.{AnnotatedForest.{one_fault, row_of, tokens_in, leaf_kind, end_from}, Reports.report, Reads.{IsOver, Reads}, Rules.{Row, done}}
use Rattle.{rnix_grammar.{specs.{Rules.{◌·◌, row as row_of_kind}}}, rnix_proof_lemmas.specs.Machine.{Machine, Head, Node, SecondBind, Operand, Frame, put}}
use Rattle.rnix_proof_lemmas.{specs.Machine.{kind_of, made, min_bp_of, perform}, proofs.{Basics.true_is_not_false, AnnotatedForestLemmas.{⊕-assoc, tokens_two}}}
use Rattle.rnix_proof_lemmas.proofs.{AnnotatedForestLemmas.tokens_in-⊕, TokenEnds.end_behind, OpenHeads.is_open, RestAt.rest_at}
use Rattle.rnix_proof_existence.proofs.{Growing.seen_kind, Frames.{Reading, closing}}

-- the items of `ts` up to `us` are those of a forest; the item before them ends at `n`, and the last of them at `m`
pub record Spans (ts : List Token) (n : ℕ) (us : List Token) (m : ℕ) (x : AnnotatedForest) : Type 0 where
  pub items : ts ≡ tokens_in x ++ us
  pub item_end : m ≡ end_from n (tokens_in x)

pub spanned : {us : List Token} {n : ℕ} {x : AnnotatedForest} → Spans (tokens_in x ++ us) n us (end_from n (tokens_in x)) x
spanned = record { items = refl; item_end = refl }

-- two forests over adjacent items, joined
pub spans_two : {ts us vs : List Token} {n m l : ℕ} (x y : AnnotatedForest) → Spans ts n us m x → Spans us m vs l y → Spans ts n vs l (x ⊕ y)
spans_two {vs = vs} {n = n} x y v w = record {
  items = v.items ∙ ap (λ z. tokens_in x ++ z) w.items ∙ sym (tokens_two x y vs);
  item_end = w.item_end ∙ ap (λ z. end_from z (tokens_in y)) v.item_end ∙ sym (end_behind n (tokens_in x) (tokens_in y))
      ∙ ap (end_from n) (sym (tokens_in-⊕ x y));
}

-- a forest may be replaced by one over the same items
spans_same : {ts us : List Token} {n m : ℕ} {x y : AnnotatedForest} → tokens_in x ≡ tokens_in y → Spans ts n us m x → Spans ts n us m y
spans_same {us = us} {n = n} e v = record { items = v.items ∙ ap (λ z. z ++ us) e; item_end = v.item_end ∙ ap (end_from n) e }

-- the tree of a complete frame is over the items of its children
pub spans_made : {ts us : List Token} {n m : ℕ} (h : Head) (c : AnnotatedForest) → Spans ts n us m c → Spans ts n us m (made h c)
spans_made (Node k) c v = spans_same (sym (append-nil (tokens_in c))) v
spans_made SecondBind c v = spans_same (sym (append-nil (tokens_in c))) v
spans_made Operand c v = v

-- an item as a leaf below a node
abbrev pub item : SyntaxKind → Token → AnnotatedForest
item k t = one_token (leaf_kind k t) t

-- One tree that may be an operand, inside `d` counted positions, with its errors; the item before it ends at `n`, and these items follow it.
pub data OperandTree (d n : ℕ) : AnnotatedForest → List Token → List Fault → Type 0 where
  a_node : {m : ℕ} {k : SyntaxKind} {s : Row} {c : AnnotatedForest} {us : List Token} {ds : List Fault}
      → Reads k d n (row_of_kind k) s blank us c ds → m ≡ end_from n (tokens_in c) → IsOver s m us → OperandTree d n (one_branch k c) us ds
  an_error : {t : Token} {us : List Token} → OperandTree d n (one_fault Stray (row_of (t ∷ []))) us (report Stray (t ∷ []) ∷ [])

-- An operand of a level that begins with these items is read as one tree, up to other items, with these errors.
pub record IsRead (level d n : ℕ) (ts : List Token) (x : AnnotatedForest) (us : List Token) (m : ℕ) (ds : List Fault) : Type 0 where
  pub span : Spans ts n us m x
  pub begins : BeginsAs level x ts
  pub operand_tree : OperandTree d n x us ds

-- A tree is a complete operand of a level before some items.
pub record IsCompleteOperand (level : ℕ) (x : AnnotatedForest) (us : List Token) : Type 0 where
  pub least : level ≤ row_level x
  pub fit : fits level (seen_kind x) ≡ true
  pub no_or : is_or_row x ≡ false
  pub not_followed : is_continued level x us ≡ false

-- An operand that is read as `x` up to some items can be read as `y` up to others, with more errors.
abbrev pub Grows : ℕ → ℕ → AnnotatedForest → List Token → ℕ → AnnotatedForest → List Token → ℕ → List Fault → Type 0
Grows level d x ts n y us m ds = (l : ℕ) (all : List Token) (cs : List Fault) → IsRead level d l all x ts n cs → IsRead level d l all y us m (cs ++ ds)

-- a statement about what follows the children of a frame, and one about what follows a tree of a frame
abbrev AfterRow : Type 1
AfterRow = Row → List Token → ℕ → AnnotatedForest → List Fault → Type 0

abbrev AfterFrame : Type 1
AfterFrame = Frame → List Token → ℕ → List Fault → Type 0

-- the rest of a row can be read: `q` is the rest, after the trees `b` and inside `d` counted positions
pub record RowEnds (h : Head) (d : ℕ) (q : Row) (b : AnnotatedForest) (After : AfterRow) (ts : List Token) (n : ℕ) (gs : List Fault) : Type 0 where
  pub remaining : List Token
  pub prev_end : ℕ
  pub row_state : Row
  pub rest : AnnotatedForest
  pub inside : List Fault
  pub opened : is_open h ≡ true
  pub reads : Reads (kind_of h) d n q row_state b remaining rest inside
  pub span : Spans ts n remaining prev_end rest
  pub ends : After row_state remaining prev_end (b ⊕ rest) (gs ++ inside)

-- an operand above a frame can be read to its end, and becomes a tree of that frame
pub record OperandEnds (f g : Frame) (After : AfterFrame) (ts : List Token) (n : ℕ) (gs : List Fault) : Type 0 where
  pub remaining : List Token
  pub prev_end : ℕ
  pub tree : AnnotatedForest
  pub inside : List Fault
  pub is : f.head ≡ Operand
  pub whole : IsCompleteOperand (min_bp_of f.position) tree remaining
  pub grows : Grows (min_bp_of f.position) f.depth f.children ts n tree remaining prev_end inside
  pub ends : After (put g.position (g.children ⊕ tree) g) remaining prev_end (gs ++ inside)

-- a row is complete, and its frame becomes a tree of the frame below
abbrev pub Closes : Head → Frame → AfterFrame → AfterRow
Closes h g After s us m trees gs = IsOver s m us × After (put g.position (g.children ⊕ made h trees) g) us m (gs ++ closing h g.children trees)

-- Trees `x` are read before the rest of a row of kind `k`, inside `d` counted positions. Before them the last item ends at `n`, and the rest of the row is `q`,
-- after the trees `b`. After them the items `us` are left, the last item ends at `m`, and the rest of the row is `r`. They have the errors `ds`.
abbrev pub Fronts : SyntaxKind → ℕ → ℕ → Row → AnnotatedForest → AnnotatedForest → List Token → ℕ → Row → List Fault → Type 0
Fronts k d n q b x us m r ds =
    (vs : List Token) (s : Row) (f : AnnotatedForest) (es : List Fault) → us ≡ tokens_in f ++ vs → Reads k d m r s (b ⊕ x) vs f es
    → Reads k d n q s b vs (x ⊕ f) (ds ++ es)

-- if the rest of a row can be read after some trees, the row can be read with them
pub row_fronted : {h : Head} {d n m : ℕ} {q r : Row} {b : AnnotatedForest} {After : AfterRow} {ts us : List Token} {gs hs : List Fault}
    → (x : AnnotatedForest) (ds : List Fault) → Spans ts n us m x → hs ≡ gs ++ ds → Fronts (kind_of h) d n q b x us m r ds → RowEnds h d r (b ⊕ x) After us m hs
    → RowEnds h d q b After ts n gs
row_fronted {b = b} {After = After} {gs = gs} {hs = hs} x ds v h reads o = record {
  remaining = o.remaining;
  prev_end = o.prev_end;
  row_state = o.row_state;
  rest = x ⊕ o.rest;
  inside = ds ++ o.inside;
  opened = o.opened;
  reads = reads o.remaining o.row_state o.rest o.inside o.span.items o.reads;
  span = spans_two x o.rest v o.span;
  ends =
      subst (λ (z : List Fault). After o.row_state o.remaining o.prev_end (b ⊕ (x ⊕ o.rest)) z) (ap (λ z. z ++ o.inside) h ∙ append_assoc gs ds o.inside)
      (subst (λ (z : AnnotatedForest). After o.row_state o.remaining o.prev_end z (hs ++ o.inside)) (⊕-assoc b x o.rest) o.ends);
}

-- the root's children and all errors, once the whole text is read
abbrev pub Outcome : Type 0
Outcome = AnnotatedForest × List Fault

module _ (whole : Outcome) where
  -- the root's row is complete, and no item is left
  abbrev IsRoot : Head → AfterRow
  IsRoot h s us m trees gs = (h ≡ Node NODE_ROOT) × (s ≡ TextEnd · done) × (us ≡ []) × (trees ≡ whole.0) × (gs ≡ whole.1)

  -- With these frames and items, this end of the last item, and these errors so far, the text is read to that outcome.
  abbrev pub EndsOn : List Frame → AfterFrame
  EndsOn [] f ts n gs = RowEnds f.head f.depth (rest_at f.position) f.children (IsRoot f.head) ts n gs
  EndsOn (g ∷ fs) f ts n gs = RowEnds f.head f.depth (rest_at f.position) f.children (Closes f.head g (EndsOn fs)) ts n gs ⊎ OperandEnds f g (EndsOn fs) ts n gs

  -- the same for all frames
  abbrev pub EndsAll : List Frame → List Token → ℕ → List Fault → Type 0
  EndsAll [] ts n gs = ⊥
  EndsAll (f ∷ fs) ts n gs = EndsOn fs f ts n gs

  -- A step preserves what is known of the frames; if the outcome is reached after the step, it is reached before it.
  abbrev pub IsPreserved : Machine → Frame → List Frame → List Token → ℕ → List Fault → Type 0
  IsPreserved m f fs ts n gs = Reading m.frames × (EndsAll m.frames m.remaining m.prev_end m.faults → EndsOn fs f ts n gs)

  -- the step of an action preserves this
  abbrev pub IsPreservedBy : Action → Frame → List Frame → List Token → ℕ → List Fault → Type 0
  IsPreservedBy action f fs ts n gs = IsPreserved (perform false action f fs ts n gs) f fs ts n gs

  -- if the text can be read to its end with an open frame above another, the rest of its row can
  pub open_ends : (g : Frame) (fs : List Frame) (f : Frame) (ts : List Token) (n : ℕ) (gs : List Fault) → is_open f.head ≡ true → EndsOn (g ∷ fs) f ts n gs
      → RowEnds f.head f.depth (rest_at f.position) f.children (Closes f.head g (EndsOn fs)) ts n gs
  open_ends g fs f ts n gs o (inl e) = e
  open_ends g fs f ts n gs o (inr e) = absurd (true_is_not_false (sym o ∙ ap is_open e.is))

  -- if the text can be read to its end with an operand above a frame, the operand can
  pub operand_ends : (g : Frame) (fs : List Frame) (f : Frame) (ts : List Token) (n : ℕ) (gs : List Fault) → f.head ≡ Operand → EndsOn (g ∷ fs) f ts n gs
      → OperandEnds f g (EndsOn fs) ts n gs
  operand_ends g fs f ts n gs o (inl e) = absurd (true_is_not_false (sym e.opened ∙ ap is_open o))
  operand_ends g fs f ts n gs o (inr e) = e

  -- if the rest of a row can be read after some trees, the frames can be read with these trees
  pub fronted : (fs : List Frame) (f : Frame) (y : Position) (x : AnnotatedForest) (ts us : List Token) (n m : ℕ) (gs ds hs : List Fault)
      → is_open f.head ≡ true
      → Spans ts n us m x → hs ≡ gs ++ ds → Fronts (kind_of f.head) f.depth n (rest_at f.position) f.children x us m (rest_at y) ds
      → EndsOn fs (put y (f.children ⊕ x) f) us m hs → EndsOn fs f ts n gs
  fronted [] f y x ts us n m gs ds hs o v h reads ends = row_fronted x ds v h reads ends
  fronted (g ∷ fs) f y x ts us n m gs ds hs o v h reads ends = inl (row_fronted x ds v h reads (open_ends g fs (put y (f.children ⊕ x) f) us m hs o ends))
