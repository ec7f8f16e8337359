-- How items are read along the rows: at each position of a row the next items decide what follows.
use Rattle.std.specs.Prelude.{◌≡◌, ℕ, suc, ◌<◌, true, false, List, [], ◌∷◌, ◌++◌, Some, length, if◌then◌else◌}
use Rattle.rnix_kinds.specs.declared.kinds.SyntaxKind.{SyntaxKind}
use Rattle.rnix_kinds.specs.declared.kinds.SyntaxKind.TheVariants.{NODE_ROOT, NODE_ERROR, NODE_LITERAL}
use Rattle.rnix_grammar.specs.declared.rules.Part.TheVariants.{BoundAlready, TextEnd}
use Rattle.rnix_grammar.specs.Fault.{Fault}
use Rattle.rnix_grammar.specs.Tables.{wanted_kinds, depth_limit}
use Rattle.rnix_grammar.specs.AnnotatedForest.{Token, Note, Stray, Unwanted, Extra, DoubleBind, TooDeep, AnnotatedForest, blank, token, branch, fault, ◌⊕◌, one_token, one_branch, one_fault, row_of, tokens_in, is_some, leaf_kind, head_kind, end_from}
use Rattle.rnix_grammar.specs.Reports.{report, repeats}
use Rattle.rnix_grammar.specs.UnwantedRun.{run_of}
use Rattle.rnix_grammar.specs.FirstKinds.{IsOperandOf}
use Rattle.rnix_grammar.specs.Rules.{Row, done, ◌·◌, row, second_name, after, may_end, missing, run_at, expects_end, IsExpected, is_first_expected, level_at, counts, IsFollowed}

-- the nesting limit allows an operand at this position, inside d counted positions
abbrev pub IsRoom : Row → ℕ → Type 0
IsRoom q d = counts q ≡ true → d < depth_limit

-- how many counted positions are around a child at this position
abbrev pub deeper : Row → ℕ → ℕ
deeper q d = if counts q then suc d else d

-- a row may end here: it is complete, and the next item is not expected
abbrev pub IsOver : Row → ℕ → List Token → Type 0
IsOver q n us = (may_end q ≡ true) × IsExpected q n us false

-- an error node over the items ts at the position q, inside d counted positions, before the items us; r is what is left of the row after it
abbrev pub IsWrong : Note → ℕ → Row → Row → List Token → List Token → Type 0
IsWrong Stray d q r ts us = (length ts ≡ 1) × IsRoom q d × IsOperandOf (level_at q blank) (one_fault Stray (row_of ts)) us × (after q NODE_LITERAL ≡ r)
IsWrong (Unwanted until) d q r ts us = (is_some ts ≡ true) × (ts ≡ run_of until (ts ++ us)) × (run_at q ≡ Some (wanted_kinds until, r))
IsWrong Extra d q r ts us = (is_some ts ≡ true) × (us ≡ []) × (q ≡ TextEnd · done) × (r ≡ q)
IsWrong DoubleBind d q r ts us = ⊥
IsWrong TooDeep d q r ts us = (us ≡ []) × (counts q ≡ true) × (d ≡ depth_limit) × (after q NODE_LITERAL ≡ r)

-- The children of a node from a position on, without trivia, with their errors. Given are the parent's kind, how many counted positions are around the
-- children, where the item before them ends, what is left of the row before them and after them, the trees before them, and the items after them.
pub data Reads : SyntaxKind → ℕ → ℕ → Row → Row → AnnotatedForest → List Token → AnnotatedForest → List Fault → Type 0 where
  -- no more children
  end : {p : SyntaxKind} {d n : ℕ} {q : Row} {b : AnnotatedForest} {us : List Token} → Reads p d n q q b us blank []
  -- an item
  leaf : {p : SyntaxKind} {d n : ℕ} {q q' : Row} {b : AnnotatedForest} {us : List Token} {t : Token} {f : AnnotatedForest} {es : List Fault}
      → IsExpected q n (t ∷ tokens_in f ++ us) true → IsFollowed q b (Some (leaf_kind p t))
      → Reads p d t.end (after q (leaf_kind p t)) q' (b ⊕ one_token (leaf_kind p t) t) us f es
      → Reads p d n q q' b us (token (leaf_kind p t) t f) es
  -- a node
  inner : {p k : SyntaxKind} {d n : ℕ} {q q' s : Row} {b c f : AnnotatedForest} {us : List Token} {ds es : List Fault}
      → IsRoom q d → Reads k (deeper q d) n (row k) s blank (tokens_in f ++ us) c ds → IsOver s (end_from n (tokens_in c)) (tokens_in f ++ us)
      → IsExpected q n (tokens_in c ++ (tokens_in f ++ us)) (is_first_expected q k c) → IsFollowed q b (head_kind (tokens_in c ++ (tokens_in f ++ us)))
      → IsOperandOf (level_at q (one_branch k c)) (one_branch k c) (tokens_in f ++ us)
      → Reads p d (end_from n (tokens_in c)) (after q k) q' (b ⊕ one_branch k c) us f es
      → Reads p d n q q' b us (branch k c f) ((ds ++ repeats k b c) ++ es)
  -- the text ends, and a part is missing
  missing_part : {p : SyntaxKind} {d n : ℕ} {q r q' : Row} {b f : AnnotatedForest} {us : List Token} {e : Fault} {es : List Fault}
      → us ≡ [] → tokens_in f ≡ [] → missing q ≡ Some (e, r) → (expects_end q ≡ false → IsRoom q d)
      → Reads p d n r q' b us f es
      → Reads p d n q q' b us f (e ∷ es)
  -- items that are wrong here, in an error node
  wrong : {p : SyntaxKind} {d n : ℕ} {q r q' : Row} {b f : AnnotatedForest} {us : List Token} {es : List Fault} (note : Note) (ts : List Token)
      → IsExpected q n (ts ++ (tokens_in f ++ us)) false → IsFollowed q b (head_kind ts) → IsWrong note d q r ts (tokens_in f ++ us)
      → Reads p d (end_from n ts) r q' (b ⊕ one_fault note (row_of ts)) us f es
      → Reads p d n q q' b us (fault note (row_of ts) f) (report note ts ∷ es)
  -- a second name of a pattern
  second : {p : SyntaxKind} {d n : ℕ} {q' s : Row} {b c f : AnnotatedForest} {us : List Token} {ds es : List Fault}
      → Reads NODE_ERROR d n second_name s blank (tokens_in f ++ us) c ds → IsOver s (end_from n (tokens_in c)) (tokens_in f ++ us)
      → Reads p d (end_from n (tokens_in c)) done q' (b ⊕ one_fault DoubleBind c) us f es
      → Reads p d n (BoundAlready · done) q' b us (fault DoubleBind c f) ((ds ++ report DoubleBind (tokens_in c) ∷ []) ++ es)

-- the items of these trees are read as the children of the root, with these errors
abbrev pub ReadsRoot : AnnotatedForest → List Fault → Type 0
ReadsRoot f faults = Reads NODE_ROOT 0 0 (row NODE_ROOT) (TextEnd · done) blank [] f faults
