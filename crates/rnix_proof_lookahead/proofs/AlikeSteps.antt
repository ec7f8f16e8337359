-- Two lists of items that begin with the same items and continue with one of the same kind are read by the same steps, until that item is read.
use Rattle.std.proofs.Common.{◌≡◌, ◌⊎◌, inl, inr, ℕ, suc, ◌+◌, ◌<◌, Bool, true, false, List, [], ◌∷◌, ◌++◌, length, Option, Some, refl, ap, sym, ◌∙◌, subst}
use Rattle.std.proofs.Common.{nat_le, arith}
use Rattle.rnix_kinds.specs.declared.kinds.SyntaxKind.{SyntaxKind, TheVariants.{TOKEN_L_BRACE, NODE_APPLY}}
use Rattle.rnix_kinds.specs.declared.kinds.SyntaxKind.TheVariants.{NODE_IDENT, NODE_PAT_BIND, NODE_LEGACY_LET}
use Rattle.rnix_green.specs.{Forest.{Forest, empty, node, join}, ForestCode.join_empty}
use Rattle.rnix_grammar.specs.declared.{slot_table.TheConstants.APPLIED, action.Action.Action, operand_start.OperandStart.OperandStart}
use Rattle.rnix_grammar.specs.{Fault.Fault, Tables.depth_limit, OperandStarts.{is_pattern, operand_start_of, second_kind}, Layout.tail_of}
use Rattle.rnix_grammar.specs.AnnotatedForest.{Token, blank, ◌⊕◌, one_branch, forget, head_kind, end_from}
use Rattle.rnix_proof_lemmas.specs.Machine.{Node, Operand, Frame, Machine, put, opened, leaf, min_bp_of}
use Rattle.rnix_proof_lemmas.specs.{Machine.{begun, operand_on, reading, perform}, Allowed.Allowed}
use Rattle.rnix_proof_prefix.proofs.{Late.AreFrom, LateSteps.stray_from, BraceSteps.{braces, IsBeforeThird}, SharedSteps.{choices, third_counts, pattern_counts}, Ordered.from_end}
use Rattle.rnix_proof_lookahead.specs.Completed.{leaf_count, completed}
use Rattle.rnix_proof_lookahead.proofs.{KeptSteps.{trees_in, IsKept, begun_kept, perform_kept}, Leads.{Leads, taken_leads, split_leads, spanned_leads}}
use Rattle.rnix_proof_lookahead.proofs.{OpenedBraces.{with_brace, opened_leads}, SpannedErrors.AreLateAlike}
use Rattle.rnix_proof_lookahead.proofs.LateErrors.{IsLateStep, begun_late, perform_late}
use Rattle.rnix_proof_lookahead.proofs.PartedReadings.{Goes, shared, parted, all_goes, limited_goes, run_goes}
use Rattle.rnix_grammar.specs.declared.position.Position.TheVariants as p
use Rattle.rnix_grammar.specs.declared.action.Action.TheVariants as a
use Rattle.rnix_grammar.specs.declared.operand_start.OperandStart.TheVariants as b

-- a list without its first item is no longer than the list
tail_short : (us : List Token) → length (tail_of us) < suc (length us)
tail_short [] = omega arith
tail_short (u ∷ us) = omega arith

-- an item with which an operand begins is consumed, so fewer items are left
begun_short : (how : OperandStart) (level d : ℕ) (t v : Token) (f : Frame) (fs : List Frame) (us : List Token) (n : ℕ) (es : List Fault)
    → length (begun false how level d t f fs (v ∷ us) n es).remaining < suc (length us)
begun_short b.LegacyLet level d t v f fs us n es = tail_short us
begun_short b.BoundLambda level d t v f fs us n es = tail_short us
begun_short _ level d t v f fs us n es = omega arith

module _ (k e : ℕ) (x y : Token) (xs ys : List Token) (kinds : x.kind ≡ y.kind) where
  -- two machines are read alike, or part
  abbrev Parts : Machine → Machine → Type 0
  Parts = Goes k e x y xs ys kinds

  -- both machines have read one of the other items, so they part
  both_goes : (old : Forest) (now there : Machine) → leaf_count old ≡ k → IsKept old (x ∷ xs) now → IsKept old (y ∷ ys) there
      → length now.remaining < suc (length xs) → length there.remaining < suc (length ys) → (es : List Fault)
      → (AreFrom e (x ∷ xs) → IsLateStep e es now) → (AreFrom e (y ∷ ys) → IsLateStep e es there) → Parts now there
  both_goes old now there c v w l m es f g = inr (record {
    trees = completed k old;
    first = taken_leads k old (x ∷ xs) now c v l;
    second = taken_leads k old (y ∷ ys) there c w m;
    errors = λ o z.
        let now_late : IsLateStep e es now = f (from_end e [] (x ∷ xs) o) in
        let there_late : IsLateStep e es there = g (from_end e [] (y ∷ ys) z) in
        record { faults = now_late.faults ∙ sym there_late.faults; first = now_late.remaining; second = there_late.remaining };
  })

  -- an operand that begins with the first of the other items is read alike, or both machines part
  operand_next : (level d : ℕ) (f : Frame) (fs : List Frame) (n : ℕ) (es : List Fault) → leaf_count (trees_in (f ∷ fs)) ≡ k
      → Parts (operand_on false level d f fs (x ∷ xs) (x ∷ xs) n es) (operand_on false level d f fs (y ∷ ys) (y ∷ ys) n es)
  operand_next level d f fs n es c =
      let how : OperandStart = operand_start_of level x.kind x.text (head_kind xs) (second_kind xs) in
      let other : OperandStart = operand_start_of level y.kind y.text (head_kind ys) (second_kind ys) in
      both_goes (trees_in (f ∷ fs)) (begun false how level d x f fs (x ∷ xs) n es) (begun false other level d y f fs (y ∷ ys) n es) c
      (begun_kept how level d x f fs (x ∷ xs) n es) (begun_kept other level d y f fs (y ∷ ys) n es)
      (begun_short how level d x x f fs xs n es) (begun_short other level d y y f fs ys n es) es
      (λ o. begun_late e how level d x f fs xs n es o.1 (stray_from e how x o.0))
      (λ o. begun_late e other level d y f fs ys n es o.1 (stray_from e other y o.0))

  -- an operand that begins with a shared item, in a given way, is read alike
  begun_shared : (how : OperandStart) (level d : ℕ) (t u : Token) (f : Frame) (fs : List Frame) (q : List Token) (n : ℕ) (es : List Fault)
      → end_from u.end q ≡ e
      → Parts (begun false how level d t f fs (t ∷ (u ∷ (q ++ x ∷ xs))) n es) (begun false how level d t f fs (t ∷ (u ∷ (q ++ y ∷ ys))) n es)
  begun_shared b.LegacyLet level d t u f fs q n es h = shared k e x y xs ys kinds (begun false b.LegacyLet level d t f fs (t ∷ (u ∷ q)) n es) h
  begun_shared how level d t u f fs q n es h = shared k e x y xs ys kinds (begun false how level d t f fs (t ∷ (u ∷ q)) n es) h

  -- the last shared item begins an operand
  module _ (level d : ℕ) (t : Token) (f : Frame) (fs : List Frame) (n : ℕ) (es : List Fault)
      (c : leaf_count (trees_in (f ∷ fs)) + 1 ≡ k) (h : t.end ≡ e) where
    abbrev old : Forest
    old = trees_in (f ∷ fs)

    abbrev first_on : OperandStart → Machine
    first_on how = begun false how level d t f fs (t ∷ (x ∷ xs)) n es

    abbrev second_on : OperandStart → Machine
    second_on how = begun false how level d t f fs (t ∷ (y ∷ ys)) n es

    -- in the same way in both lists
    begun_last : (how : OperandStart) → Parts (first_on how) (second_on how)
    begun_last b.LegacyLet =
        let one : Forest = forget (leaf false NODE_LEGACY_LET (t ∷ [])) in
        let leads : (v : Token) (us : List Token) → Leads k (completed k (join old one)) (begun false b.LegacyLet level d t f fs (t ∷ (v ∷ us)) n es)
        = λ v us. split_leads k old one (forget (leaf false NODE_LEGACY_LET (v ∷ us))) (begun false b.LegacyLet level d t f fs (t ∷ (v ∷ us)) n es)
        (ap (λ z. join z (forget (leaf false NODE_LEGACY_LET (t ∷ []) ⊕ leaf false NODE_LEGACY_LET (v ∷ us)))) (join_empty old)) (omega (arith, c))
        (omega arith) in
        parted k e x y xs ys kinds (completed k (join old one)) (first_on b.LegacyLet) (second_on b.LegacyLet) (leads x xs) (leads y ys) refl
        (λ o. o.1) (λ o. o.1)
    begun_last b.BoundLambda =
        let one : Forest = forget (one_branch NODE_IDENT (leaf false NODE_IDENT (t ∷ []))) in
        let leads : (v : Token) (us : List Token) → Leads k (completed k (join old one)) (begun false b.BoundLambda level d t f fs (t ∷ (v ∷ us)) n es)
        = λ v us. spanned_leads k old one (forget (leaf false NODE_PAT_BIND (v ∷ us))) NODE_PAT_BIND
        (begun false b.BoundLambda level d t f fs (t ∷ (v ∷ us)) n es)
        (ap (λ z. join z (node NODE_PAT_BIND (join one (forget (leaf false NODE_PAT_BIND (v ∷ us)))) empty)) (join_empty (join old empty) ∙ join_empty old))
        (omega (arith, c)) (omega arith) in
        parted k e x y xs ys kinds (completed k (join old one)) (first_on b.BoundLambda) (second_on b.BoundLambda) (leads x xs) (leads y ys) refl
        (λ o. o.1) (λ o. o.1)
    begun_last how = shared k e x y xs ys kinds (begun false how level d t f fs (t ∷ []) n es) h

    -- if `{` opens a pattern in one list and a set in the other, the errors before the end of the shared items are the same
    braces_late : (v w : Bool) → AreFrom e (x ∷ xs) → AreFrom e (y ∷ ys) → AreLateAlike e (first_on (braces v)) (second_on (braces w))
    braces_late true true o z = record { faults = refl; first = o; second = z }
    braces_late true false o z = record { faults = refl; first = o; second = z }
    braces_late false true o z = record { faults = refl; first = o; second = z }
    braces_late false false o z = record { faults = refl; first = o; second = z }

    brace_last : (third other : Option SyntaxKind) → IsBeforeThird x.kind ⊎ (is_pattern (Some x.kind) third ≡ is_pattern (Some x.kind) other)
        → Parts (first_on (braces (is_pattern (Some x.kind) third))) (second_on (braces (is_pattern (Some x.kind) other)))
    brace_last third other (inl i) = inr (record {
      trees = completed k (with_brace k level d t f fs xs n es c);
      first = opened_leads k level d t f fs xs n es c (is_pattern (Some x.kind) third) x i;
      second = opened_leads k level d t f fs ys n es c (is_pattern (Some x.kind) other) y (subst IsBeforeThird kinds i);
      errors = λ o z.
          braces_late (is_pattern (Some x.kind) third) (is_pattern (Some x.kind) other) (from_end e [] (x ∷ xs) o) (from_end e [] (y ∷ ys) z);
    })
    brace_last third other (inr same) =
        subst (λ z. Parts (first_on (braces (is_pattern (Some x.kind) third))) (second_on (braces z))) same
        (begun_last (braces (is_pattern (Some x.kind) third)))

    pair_last : (third other : Option SyntaxKind)
        → (t.kind ≡ TOKEN_L_BRACE) ⊎ (operand_start_of level t.kind t.text (Some x.kind) third ≡ operand_start_of level t.kind t.text (Some x.kind) other)
        → Parts (first_on (operand_start_of level t.kind t.text (Some x.kind) third)) (second_on (operand_start_of level t.kind t.text (Some x.kind) other))
    pair_last third other (inl i) =
        subst (λ z. Parts (first_on (operand_start_of level z t.text (Some x.kind) third)) (second_on (operand_start_of level z t.text (Some x.kind) other)))
        (sym i)
        (brace_last third other (pattern_counts x.kind third other))
    pair_last third other (inr same) =
        subst (λ z. Parts (first_on (operand_start_of level t.kind t.text (Some x.kind) third)) (second_on z)) same
        (begun_last (operand_start_of level t.kind t.text (Some x.kind) third))

    last_goes : Parts (first_on (operand_start_of level t.kind t.text (Some x.kind) (head_kind xs)))
        (second_on (operand_start_of level t.kind t.text (Some y.kind) (head_kind ys)))
    last_goes =
        subst (λ z. Parts (first_on (operand_start_of level t.kind t.text (Some x.kind) (head_kind xs)))
        (second_on (operand_start_of level t.kind t.text (Some z) (head_kind ys)))) kinds
        (pair_last (head_kind xs) (head_kind ys) (third_counts level t.kind t.text (Some x.kind) (head_kind xs) (head_kind ys)))

  -- an operand of a level is read alike, or both machines part
  operand_goes : (level d : ℕ) (f : Frame) (fs : List Frame) (q : List Token) (n : ℕ) (es : List Fault)
      → leaf_count (trees_in (f ∷ fs)) + length q ≡ k → end_from n q ≡ e
      → Parts (operand_on false level d f fs (q ++ x ∷ xs) (q ++ x ∷ xs) n es) (operand_on false level d f fs (q ++ y ∷ ys) (q ++ y ∷ ys) n es)
  operand_goes level d f fs [] n es c h = operand_next level d f fs n es (omega (arith, c))
  operand_goes level d f fs (t ∷ []) n es c h = last_goes level d t f fs n es c h
  operand_goes level d f fs (t ∷ (u ∷ [])) n es c h =
      subst (λ z. Parts (begun false (operand_start_of level t.kind t.text (Some u.kind) (Some x.kind)) level d t f fs (t ∷ (u ∷ (x ∷ xs))) n es)
      (begun false (operand_start_of level t.kind t.text (Some u.kind) (Some z)) level d t f fs (t ∷ (u ∷ (y ∷ ys))) n es)) kinds
      (begun_shared (operand_start_of level t.kind t.text (Some u.kind) (Some x.kind)) level d t u f fs [] n es h)
  operand_goes level d f fs (t ∷ (u ∷ (v ∷ q))) n es c h =
      begun_shared (operand_start_of level t.kind t.text (Some u.kind) (Some v.kind)) level d t u f fs (v ∷ q) n es h

  -- the same for an operand that is counted or not
  reading_goes : (level : ℕ) (counted : Bool) (f : Frame) (fs : List Frame) (q : List Token) (n : ℕ) (es : List Fault)
      → leaf_count (trees_in (f ∷ fs)) + length q ≡ k → end_from n q ≡ e
      → Parts (reading false level counted f fs (q ++ x ∷ xs) n es) (reading false level counted f fs (q ++ y ∷ ys) n es)
  reading_goes level true f fs q n es c h =
      choices Parts (nat_le depth_limit f.depth) (limited_goes k e x y xs ys kinds f fs q n es c) (operand_goes level (suc f.depth) f fs q n es c h)
  reading_goes level false f fs q n es c h = operand_goes level f.depth f fs q n es c h

  -- the step of an action is the same for both lists, or both machines part
  pub perform_goes : (action : Action) (f : Frame) (fs : List Frame) (q : List Token) (n : ℕ) (es : List Fault)
      → leaf_count (trees_in (f ∷ fs)) + length q ≡ k → end_from n q ≡ e → Allowed f.position (head_kind (q ++ x ∷ xs)) action
      → Parts (perform false action f fs (q ++ x ∷ xs) n es) (perform false action f fs (q ++ y ∷ ys) n es)
  perform_goes action f fs q n es c h al = by action fs q c h al
    where
      one : (us : List Token) → length us < suc (length us)
      one us = omega arith

      -- if an action reads the first of the other items, both machines part
      reads : (action : Action) (fs : List Frame) → leaf_count (trees_in (f ∷ fs)) + 0 ≡ k → Allowed f.position (Some x.kind) action
          → length (perform false action f fs (x ∷ xs) n es).remaining < suc (length xs)
          → length (perform false action f fs (y ∷ ys) n es).remaining < suc (length ys)
          → Parts (perform false action f fs (x ∷ xs) n es) (perform false action f fs (y ∷ ys) n es)
      reads action fs c al l m =
          both_goes (trees_in (f ∷ fs)) (perform false action f fs (x ∷ xs) n es) (perform false action f fs (y ∷ ys) n es) (omega (arith, c))
          (perform_kept action f fs (x ∷ xs) n es) (perform_kept action f fs (y ∷ ys) n es) l m es (λ o. perform_late e action f fs (x ∷ xs) n es al o)
          (λ o. perform_late e action f fs (y ∷ ys) n es (subst (λ z. Allowed f.position (Some z) action) kinds al) o)

      by : (action : Action) (fs : List Frame) (q : List Token) → leaf_count (trees_in (f ∷ fs)) + length q ≡ k → end_from n q ≡ e
          → Allowed f.position (head_kind (q ++ x ∷ xs)) action
          → Parts (perform false action f fs (q ++ x ∷ xs) n es) (perform false action f fs (q ++ y ∷ ys) n es)
      by a.Extra fs q c h al = all_goes k e x y xs ys kinds f fs q n es c h
      by (a.Run until after) fs q c h al = run_goes k e x y xs ys kinds until after f fs q n es c h
      by (a.Read level counted after) fs q c h al = reading_goes level counted (put (p.InRow after) f.children f) fs q n es c h
      by a.Apply fs q c h al =
          reading_goes 16 false (opened (Node NODE_APPLY) (p.InRow APPLIED) f.depth f.children)
          (opened Operand (p.AfterOperand (min_bp_of f.position) 15) f.depth blank ∷ fs) q n es
          (ap (λ z. leaf_count (join z (forget f.children)) + length q) (join_empty (trees_in fs)) ∙ c) h
      by (a.Take after) fs [] c h al = reads (a.Take after) fs c al (one xs) (one ys)
      by (a.Leaf i after) fs [] c h al = reads (a.Leaf i after) fs c al (one xs) (one ys)
      by (a.Open i inside after) fs [] c h al = reads (a.Open i inside after) fs c al (one xs) (one ys)
      by (a.Entry after) fs [] c h al = reads (a.Entry after) fs c al (one xs) (one ys)
      by (a.DoubleBind after) fs [] c h al = reads (a.DoubleBind after) fs c al (one xs) (one ys)
      by (a.Wrap i inside high) fs [] c h al = reads (a.Wrap i inside high) fs c al (one xs) (one ys)
      by a.ApplyOr fs [] c h al = reads a.ApplyOr fs c al (one xs) (one ys)
      by action [] q c h al = shared k e x y xs ys kinds (perform false action f [] q n es) h
      by action (g ∷ fs) q c h al = shared k e x y xs ys kinds (perform false action f (g ∷ fs) q n es) h
