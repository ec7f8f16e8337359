-- The rules of a reading, for tokens that are equal to those that the rule names.
use Rattle.{std.proofs.Common.{◌≡◌, ℕ, true, false, List, [], ◌∷◌, ◌++◌, Some, ap, sym, ◌∙◌, subst, refl}, rnix_grammar.specs.Reads.{IsWrong, end}}
use Rattle.rnix_kinds.specs.{declared.kinds.SyntaxKind.{SyntaxKind}, declared.kinds.SyntaxKind.TheVariants.{NODE_ERROR, NODE_IDENT}}
use Rattle.rnix_grammar.specs.{declared.rules.Part.TheVariants.{BoundAlready}, AnnotatedForest.{Token, Note, DoubleBind, AnnotatedForest, blank, token, branch}}
use Rattle.rnix_grammar.specs.AnnotatedForest.{fault, ◌⊕◌, one_token, one_branch, one_fault, row_of, tokens_in, leaf_kind, head_kind, end_from}
use Rattle.rnix_grammar.specs.{Fault.{Fault}, Reports.{report, repeats}, FirstKinds.{IsOperandOf}, Rules.{Row, done, ◌·◌, row, second_name, after}}
use Rattle.rnix_grammar.specs.{Rules.{IsExpected, is_first_expected, level_at, IsFollowed}, Reads.{Reads, leaf, inner, wrong, second, IsRoom, deeper, IsOver}}
use Rattle.rnix_proof_lemmas.proofs.RowParts.{HasNoOperand}

-- the rule for an item
pub leaf_from : {p : SyntaxKind} {d n : ℕ} {q r s : Row} {b f : AnnotatedForest} {us vs : List Token} {es : List Fault} {t : Token}
    → vs ≡ tokens_in f ++ us → IsExpected q n (t ∷ vs) true → IsFollowed q b (Some (leaf_kind p t)) → after q (leaf_kind p t) ≡ r
    → Reads p d t.end r s (b ⊕ one_token (leaf_kind p t) t) us f es → Reads p d n q s b us (token (leaf_kind p t) t f) es
leaf_from {p} {d} {n} {q} {r} {s} {b} {f} {us} {vs} {es} {t} v o w g z =
    leaf (subst (λ vs. IsExpected q n (t ∷ vs) true) v o) w (subst (λ r. Reads p d t.end r s (b ⊕ one_token (leaf_kind p t) t) us f es) (sym g) z)

-- the rule for a node
pub inner_from : {p k : SyntaxKind} {d n m : ℕ} {q r s u : Row} {b c f : AnnotatedForest} {us vs ws : List Token} {ds es fs : List Fault}
    → vs ≡ tokens_in f ++ us → ws ≡ tokens_in c ++ vs → Reads k (deeper q d) n (row k) u blank vs c ds → m ≡ end_from n (tokens_in c) → IsOver u m vs
    → IsExpected q n ws (is_first_expected q k c) → IsRoom q d → IsFollowed q b (head_kind ws) → IsOperandOf (level_at q (one_branch k c)) (one_branch k c) vs
    → after q k ≡ r → Reads p d m r s (b ⊕ one_branch k c) us f es → fs ≡ (ds ++ repeats k b c) ++ es → Reads p d n q s b us (branch k c f) fs
inner_from {p} {k} {d} {n} {m} {q} {r} {s} {u} {b} {c} {f} {us} {vs} {ws} {ds} {es} {fs} v w i e o x room y j g z h =
    let items : ws ≡ tokens_in c ++ (tokens_in f ++ us) = w ∙ ap (λ vs. tokens_in c ++ vs) v in
    subst (λ fs. Reads p d n q s b us (branch k c f) fs) (sym h) (inner room (subst (λ vs. Reads k (deeper q d) n (row k) u blank vs c ds) v i)
    (subst (λ vs. IsOver u (end_from n (tokens_in c)) vs) v (subst (λ m. IsOver u m vs) e o))
    (subst (λ ws. IsExpected q n ws (is_first_expected q k c)) items x) (subst (λ ws. IsFollowed q b (head_kind ws)) items y)
    (subst (λ vs. IsOperandOf (level_at q (one_branch k c)) (one_branch k c) vs) v j)
    (subst (λ m. Reads p d m (after q k) s (b ⊕ one_branch k c) us f es) e (subst (λ r. Reads p d m r s (b ⊕ one_branch k c) us f es) (sym g) z)))

-- the rule for a node that is no operand
pub plain_from : {p k : SyntaxKind} {d n m : ℕ} {q r s u : Row} {b c f : AnnotatedForest} {us vs ws : List Token} {ds es fs : List Fault} → HasNoOperand q
    → vs ≡ tokens_in f ++ us → ws ≡ tokens_in c ++ vs → Reads k d n (row k) u blank vs c ds → m ≡ end_from n (tokens_in c) → IsOver u m vs
    → IsExpected q n ws (is_first_expected q k c) → IsFollowed q b (head_kind ws) → after q k ≡ r
    → Reads p d m r s (b ⊕ one_branch k c) us f es → fs ≡ (ds ++ repeats k b c) ++ es → Reads p d n q s b us (branch k c f) fs
plain_from {k = k} {d} {n} {u = u} {c = c} {vs = vs} {ds = ds} i v w z e o x y g h j =
    inner_from v w (subst (λ d. Reads k d n (row k) u blank vs c ds) (sym (i.deep d)) z) e o x (i.room d) y
    (i.operand (one_branch k c) (one_branch k c) vs) g h j

-- the reading of a name's node, whose child is its item
pub name_reads : {d n : ℕ} {us : List Token} (t : Token) → after (row NODE_IDENT) (leaf_kind NODE_IDENT t) ≡ done
    → Reads NODE_IDENT d n (row NODE_IDENT) done blank us (one_token (leaf_kind NODE_IDENT t) t) []
name_reads t g = leaf_from refl tt tt g end

-- a complete row may end anywhere
pub past_over : (m : ℕ) (us : List Token) → IsOver done m us
past_over m [] = (refl, refl)
past_over m (t ∷ us) = (refl, refl)

-- the rule for an error node
pub wrong_from : {p : SyntaxKind} {d n m : ℕ} {q r s : Row} {b f : AnnotatedForest} {us vs : List Token} {es : List Fault} (note : Note) (ts : List Token)
    → vs ≡ tokens_in f ++ us → IsExpected q n (ts ++ vs) false → IsFollowed q b (head_kind ts) → IsWrong note d q r ts vs → m ≡ end_from n ts
    → Reads p d m r s (b ⊕ one_fault note (row_of ts)) us f es → Reads p d n q s b us (fault note (row_of ts) f) (report note ts ∷ es)
wrong_from {p} {d} {n} {m} {q} {r} {s} {b} {f} {us} {vs} {es} note ts v o w i e z =
    wrong note ts (subst (λ vs. IsExpected q n (ts ++ vs) false) v o) w (subst (λ vs. IsWrong note d q r ts vs) v i)
    (subst (λ m. Reads p d m r s (b ⊕ one_fault note (row_of ts)) us f es) e z)

-- the rule for a second name of a pattern
pub second_from : {p : SyntaxKind} {d n m : ℕ} {q r s u : Row} {b c f : AnnotatedForest} {us vs : List Token} {ds es : List Fault}
    → vs ≡ tokens_in f ++ us → Reads NODE_ERROR d n second_name u blank vs c ds → m ≡ end_from n (tokens_in c) → IsOver u m vs
    → q ≡ BoundAlready · done → r ≡ done → Reads p d m r s (b ⊕ one_fault DoubleBind c) us f es
    → Reads p d n q s b us (fault DoubleBind c f) ((ds ++ report DoubleBind (tokens_in c) ∷ []) ++ es)
second_from {p} {d} {n} {m} {q} {r} {s} {u} {b} {c} {f} {us} {vs} {ds} {es} v i e o x y z =
    subst (λ q. Reads p d n q s b us (fault DoubleBind c f) ((ds ++ report DoubleBind (tokens_in c) ∷ []) ++ es)) (sym x)
    (second (subst (λ vs. Reads NODE_ERROR d n second_name u blank vs c ds) v i)
    (subst (λ vs. IsOver u (end_from n (tokens_in c)) vs) v (subst (λ m. IsOver u m vs) e o))
    (subst (λ m. Reads p d m done s (b ⊕ one_fault DoubleBind c) us f es) e (subst (λ r. Reads p d m r s (b ⊕ one_fault DoubleBind c) us f es) y z)))
