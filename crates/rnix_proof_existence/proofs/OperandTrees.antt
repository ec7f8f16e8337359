-- A tree that is an operand, in the row of a node.
use Rattle.std.proofs.Common.{◌≡◌, ℕ, Bool, true, false, List, [], ◌∷◌, ◌++◌, Option, Some, None, refl, ap, sym, ◌∙◌, subst, append-nil, if◌then◌else◌}
use Rattle.{rnix_kinds.specs.declared.kinds.SyntaxKind.{SyntaxKind, TheVariants.NODE_LITERAL}, rnix_grammar.specs.declared.rules.Part.TheVariants.Argument}
use Rattle.rnix_grammar.specs.{Fault.Fault, AnnotatedForest.{Token, Stray, AnnotatedForest, blank, ◌⊕◌, one_branch, one_fault, row_of, tokens_in, head_kind}}
use Rattle.rnix_grammar.specs.{AnnotatedForest.end_from, NodeClasses.fits, Reports.repeats, TreeLevels.is_or_row, FirstKinds.{BeginsAs, IsOperandOf}, Reads.IsOver}
use Rattle.rnix_grammar.specs.{Reads.{IsRoom, Reads, deeper}, Rules.{IsExpected, IsFollowed, Row, after, done, ◌·◌, only, level_at, is_first_expected}}
use Rattle.{rnix_grammar.specs.Rules.row as row_of_kind, rnix_proof_lemmas.proofs.{KindsOfNodes.{fits_expression, unreported}, RowParts.{IsFront, is_remaining, left_level}}}
use Rattle.rnix_proof_lemmas.proofs.{RowParts.{remaining_first_expected, operand_goes, operand_not_expected}, ReadsFrom.{inner_from, plain_from, wrong_from}}
use Rattle.rnix_proof_existence.proofs.{Growing.seen_kind, OpenFrames.{OperandTree, a_node, an_error, IsRead, IsCompleteOperand}}

-- a tree ends where its children end
alone_end : (m n : ℕ) (c : AnnotatedForest) → m ≡ end_from n (tokens_in (one_branch NODE_LITERAL c)) → m ≡ end_from n (tokens_in c)
alone_end m n c e = e ∙ ap (end_from n) (append-nil (tokens_in c))

-- an operand reports no repeated name
pub none_repeated : (level : ℕ) (k : SyntaxKind) (b c : AnnotatedForest) (ds : List Fault) → fits level k ≡ true → ds ++ repeats k b c ≡ ds
none_repeated level k b c ds h = ap (λ z. ds ++ z) (unreported k b c (fits_expression level k h)) ∙ append-nil ds

-- the row of a node may begin with an operand
pub first_placed : {d n m : ℕ} {x f : AnnotatedForest} {vs us : List Token} {ds es : List Fault} {k : SyntaxKind} {q r : Row} (level : ℕ)
    → IsFront (row_of_kind k)
    → OperandTree d n x vs ds → fits level (seen_kind x) ≡ true → vs ≡ tokens_in f ++ us → m ≡ end_from n (tokens_in x)
    → after (row_of_kind k) (seen_kind x) ≡ q
    → Reads k d m q r x us f es → Reads k d n (row_of_kind k) r blank us (x ⊕ f) (ds ++ es)
first_placed {n = n} {m = m} {vs = vs} {es = es} {k = i} level w (a_node {k = k} {s = s} {c = c} {ds = ds} y e o) h v u g z =
    plain_from w.no_operand v refl y u' (subst (λ (j : ℕ). IsOver s j vs) (e ∙ sym u') o)
    (w.expected n (tokens_in c ++ vs) (is_first_expected (row_of_kind i) k c))
    (w.followed blank (head_kind (tokens_in c ++ vs))) g z (ap (λ y. y ++ es) (sym (none_repeated level k blank c ds h)))
  where
    u' : m ≡ end_from n (tokens_in c)
    u' = alone_end m n c u
first_placed {d = d} {n = n} {vs = vs} level w (an_error {t = t}) h v u g z =
    wrong_from Stray (t ∷ []) v (w.expected n (t ∷ vs) false) (w.followed blank (Some t.kind))
    (refl, w.no_operand.room d, w.no_operand.operand blank (one_fault Stray (row_of (t ∷ []))) vs, g) u z

-- a row accepts an operand of a level next, and `r` is the rest after it
pub record Takes (q : Row) (level : ℕ) (r : Row) : Type 0 where
  pub leveled : (x : AnnotatedForest) → is_or_row x ≡ false → level_at q x ≡ Some level
  pub expected : (k : SyntaxKind) (c : AnnotatedForest) → is_or_row (one_branch k c) ≡ false → is_first_expected q k c ≡ false
  pub goes : (k : SyntaxKind) → fits level k ≡ true → after q k ≡ r

-- this holds if the rest of a row requires an operand
pub left_takes : (q : Row) (level : ℕ) (r : Row) → is_remaining q ≡ true → level_at q blank ≡ Some level → after q NODE_LITERAL ≡ r → Takes q level r
left_takes q level r i l g = record {
  leveled = λ x h. left_level q i x ∙ l;
  expected = λ k c h. remaining_first_expected q i k c ∙ operand_not_expected q level k i l;
  goes = λ k h. operand_goes q level k i l h ∙ g;
}

-- this holds after a function that is called
pub argument_takes : Takes (Argument · done) 16 done
argument_takes = record { leveled = λ x h. ap (λ w. if w then None else Some 16) h; expected = λ k c h. h; goes = λ k h. ap (λ w. only w done) h }

-- an operand is read before the rest of a row
pub placed : {d n m level : ℕ} {b x f : AnnotatedForest} {us vs ws : List Token} {ds es : List Fault} {k : SyntaxKind} {q r s : Row} → Takes q level s
    → IsRead level (deeper q d) n ws x vs m ds → IsCompleteOperand level x vs → vs ≡ tokens_in f ++ us → IsExpected q n ws false → IsRoom q d
    → IsFollowed q b (head_kind ws)
    → Reads k d m s r (b ⊕ x) us f es → Reads k d n q r b us (x ⊕ f) (ds ++ es)
placed {d} {n} {m} {level} {b} {x} {f} {us} {vs} {ws} {ds} {es} {k} {q} {r} {s} a read whole v ow room fo z =
    by read.operand_tree whole.fit whole.no_or (
      whole.least,
      subst (BeginsAs level x) read.span.items read.begins,
      whole.not_followed,
    ) read.span.items read.span.item_end z
  where
    by : {x : AnnotatedForest} {ds : List Fault} → OperandTree (deeper q d) n x vs ds → fits level (seen_kind x) ≡ true → is_or_row x ≡ false
        → IsOperandOf (Some level) x vs
        → ws ≡ tokens_in x ++ vs → m ≡ end_from n (tokens_in x) → Reads k d m s r (b ⊕ x) us f es → Reads k d n q r b us (x ⊕ f) (ds ++ es)
    by (a_node {k = j} {s = s} {c = c} {ds = ds} w e o) h nor op i u z =
        let u' : m ≡ end_from n (tokens_in c) = alone_end m n c u in
        inner_from v (i ∙ ap (λ y. y ++ vs) (append-nil (tokens_in c))) w u' (subst (λ (j : ℕ). IsOver s j vs) (e ∙ sym u') o)
        (subst (λ (y : Bool). IsExpected q n ws y) (sym (a.expected j c nor)) ow) room fo
        (subst (λ (y : Option ℕ). IsOperandOf y (one_branch j c) vs) (sym (a.leveled (one_branch j c) nor)) op) (a.goes j h) z
        (ap (λ y. y ++ es) (sym (none_repeated level j b c ds h)))
    by (an_error {t = t}) h nor op i u z =
        wrong_from Stray (t ∷ []) v (subst (λ (y : List Token). IsExpected q n y false) i ow) (subst (λ (y : List Token). IsFollowed q b (head_kind y)) i fo)
        (refl, room, subst (λ (y : Option ℕ). IsOperandOf y (one_fault Stray (row_of (t ∷ []))) vs) (sym (a.leveled blank refl)) op, a.goes NODE_LITERAL h) u z
