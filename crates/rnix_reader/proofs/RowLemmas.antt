-- What is known of a forest stays true when it grows.
use Rattle.std.proofs.Common.{◌≡◌, ◌≤◌, ℕ, Bool, true, false, List, [], ◌∷◌, ◌++◌, Some, refl, ap, sym, ◌∙◌, arith, if◌then◌else◌}
use Rattle.{std.{proofs.lemmas.Cmp.nat_list_eq_equiv, specs.Str.bytes_eq}, rnix_kinds.specs.declared.kinds.SyntaxKind.{SyntaxKind, TheVariants.NODE_IDENT}}
use Rattle.{rnix_kinds.specs.declared.kinds.SyntaxKind.TheVariants.{NODE_PATTERN, NODE_PAT_ENTRY}, rnix_green.specs.Range.Extent}
use Rattle.rnix_grammar.specs.AnnotatedForest.{Token, Note, AnnotatedForest, blank, token, branch, fault, ◌⊕◌, one_branch, one_fault, tokens_in, without_trivia}
use Rattle.rnix_grammar.specs.{AnnotatedForest.{end_from, extent_of}, Layout.{items, trivia_before}, Reports.{entry_name, is_same_name, has_entry}}
use Rattle.rnix_proof_lemmas.proofs.Basics.{true_is_not_false}
use Rattle.rnix_proof_lemmas.specs.FrameKinds.{frame_kind_of_head}
use Rattle.rnix_proof_lemmas.specs.Machine.{Head, Node, SecondBind, Operand, leaf, leaf_in}
use Rattle.rnix_proof_lemmas.proofs.{AnnotatedForestLemmas.tokens_in-⊕, WithoutTriviaLemmas.leaf_without_trivia, LayoutLemmas.without_trivia-⊕}
use Rattle.{rnix_proof_lemmas.proofs.{LayoutLemmas.without_trivia-trivia, TokenEnds.end_behind}, rnix_reader.specs.{declared.pattern_names.NameSet.NameSet, PatternNames.has_name}}
use Rattle.rnix_reader.{specs.Holds.{IsBegun, HasRange, name_of, AreOpenSetsOn}, proofs.FrameKindLemmas.is_pattern}

-- a forest has no entry of a pattern
abbrev pub HasNoEntry : AnnotatedForest → Type 0
HasNoEntry g = (name : List ℕ) → has_entry name (without_trivia g) ≡ false

has_entry-⊕ : (name : List ℕ) (f g : AnnotatedForest) → has_entry name g ≡ false → has_entry name (f ⊕ g) ≡ has_entry name f
has_entry-⊕ name blank g h = h
has_entry-⊕ name (token k t f) g h = has_entry-⊕ name f g h
has_entry-⊕ name (branch NODE_PAT_ENTRY c f) g h = ap (λ x. if is_same_name name (entry_name c) then true else x) (has_entry-⊕ name f g h)
has_entry-⊕ name (branch k c f) g h = has_entry-⊕ name f g h
has_entry-⊕ name (fault n c f) g h = has_entry-⊕ name f g h

-- trivia contain no entry
pub no_entry_trivia : (ts : List Token) → HasNoEntry (trivia_before ts)
no_entry_trivia ts name = ap (has_entry name) (without_trivia-trivia ts)

-- an error node contains no entry
pub no_entry_fault : (n : Note) (c : AnnotatedForest) → HasNoEntry (one_fault n c)
no_entry_fault n c name = refl

-- a leaf contains no entry
pub no_entry_leaf : (k : SyntaxKind) (ts : List Token) → HasNoEntry (leaf true k ts)
no_entry_leaf k ts name = ap (has_entry name) (leaf_without_trivia k ts) ∙ by (items ts)
  where
    by : (xs : List Token) → has_entry name (leaf_in k xs) ≡ false
    by [] = refl
    by (x ∷ xs) = refl

-- a disjunction does not depend on its order
one_more : (a b c : Bool) → (if a then true else (if b then true else c)) ≡ (if b then true else (if a then true else c))
one_more true true c = refl
one_more true false c = refl
one_more false true c = refl
one_more false false c = refl

-- one more entry adds its name
pub has_entry-more : (name : List ℕ) (f c : AnnotatedForest) → has_entry name
    (f ⊕ one_branch NODE_PAT_ENTRY c) ≡ (if is_same_name name (entry_name c) then true else has_entry name f)
has_entry-more name blank c = refl
has_entry-more name (token k t f) c = has_entry-more name f c
has_entry-more name (branch NODE_PAT_ENTRY d f) c =
    ap (λ x. if is_same_name name (entry_name d) then true else x) (has_entry-more name f c)
    ∙ one_more (is_same_name name (entry_name d)) (is_same_name name (entry_name c)) (has_entry name f)
has_entry-more name (branch k d f) c = has_entry-more name f c
has_entry-more name (fault n d f) c = has_entry-more name f c

-- an entry with more trees keeps its name
entry_name-⊕ : (f g : AnnotatedForest) (t : Token) → entry_name f ≡ Some t → entry_name (f ⊕ g) ≡ Some t
entry_name-⊕ blank g t e = absurd (cc)
entry_name-⊕ (token k u f) g t e = absurd (cc)
entry_name-⊕ (branch NODE_IDENT c f) g t e = e
entry_name-⊕ (branch k c f) g t e = absurd (cc)
entry_name-⊕ (fault n c f) g t e = absurd (cc)

tokens_more : (f g : AnnotatedForest) → tokens_in (without_trivia (f ⊕ g)) ≡ tokens_in (without_trivia f) ++ tokens_in (without_trivia g)
tokens_more f g = ap tokens_in (without_trivia-⊕ f g) ∙ tokens_in-⊕ (without_trivia f) (without_trivia g)

-- a frame that has begun with its name or token stays so when it grows
pub begun_more : (h : Head) (f g : AnnotatedForest) → IsBegun h f → IsBegun h (f ⊕ g)
begun_more (Node NODE_PAT_ENTRY) f g w = (w.0, ap entry_name (without_trivia-⊕ f g) ∙ entry_name-⊕ (without_trivia f) (without_trivia g) w.0 w.1)
begun_more (Node k) f g w = tt
begun_more SecondBind f g w = (w.0, w.1 ++ tokens_in (without_trivia g), tokens_more f g ∙ ap (λ x. x ++ tokens_in (without_trivia g)) w.2)
begun_more Operand f g w = tt

-- an entry keeps its name when it grows
pub name_more : (h : Head) (f g : AnnotatedForest) → IsBegun h f → name_of h (f ⊕ g) ≡ name_of h f
name_more (Node NODE_PAT_ENTRY) f g w = ap entry_name (without_trivia-⊕ f g) ∙ entry_name-⊕ (without_trivia f) (without_trivia g) w.0 w.1 ∙ sym w.1
name_more (Node k) f g w = refl
name_more SecondBind f g w = refl
name_more Operand f g w = refl

-- a forest that grows without entries has the same names
pub known_more : (h : Head) (f g : AnnotatedForest) (sets : List NameSet) (More : List NameSet → Type 0)
    → (is_pattern (frame_kind_of_head h) ≡ true → HasNoEntry g)
    → AreOpenSetsOn h f sets More → AreOpenSetsOn h (f ⊕ g) sets More
known_more (Node NODE_PATTERN) f g sets More q w = record {
  below = w.below;
  set = w.set;
  all = w.all;
  is = λ name. w.is name ∙ sym (ap (has_entry name) (without_trivia-⊕ f g) ∙ has_entry-⊕ name (without_trivia f) (without_trivia g) (q refl name));
  more = w.more;
}
known_more (Node k) f g sets More q w = w
known_more SecondBind f g sets More q w = w
known_more Operand f g sets More q w = w

-- a pattern with one more entry has its name too
pub known_entry : (h : Head) (f c : AnnotatedForest) (t : Token) (below : List NameSet) (s : NameSet) (sets : List NameSet) (More : List NameSet → Type 0)
    → is_pattern (frame_kind_of_head h) ≡ true → entry_name (without_trivia c) ≡ Some t → sets ≡ below ++ s ∷ [] → More below
    → ((other : List ℕ) → has_name other s ≡ (if bytes_eq t.text other then true else has_entry other (without_trivia f)))
    → AreOpenSetsOn h (f ⊕ one_branch NODE_PAT_ENTRY c) sets More
known_entry (Node NODE_PATTERN) f c t below s sets More q e a m is = record {
  below = below;
  set = s;
  all = a;
  is = λ name. is name
      ∙ ap (λ x. if x then true else has_entry name (without_trivia f)) (nat_list_eq_equiv.symm t.text name)
      ∙ ap (λ x. if is_same_name name x then true else has_entry name (without_trivia f)) (sym e)
      ∙ sym (ap (has_entry name) (without_trivia-⊕ f (one_branch NODE_PAT_ENTRY c)) ∙ has_entry-more name (without_trivia f) (without_trivia c));
  more = m;
}
known_entry (Node k) f c t below s sets More q e a m is = absurd (true_is_not_false (sym q))
known_entry SecondBind f c t below s sets More q e a m is = absurd (true_is_not_false (sym q))
known_entry Operand f c t below s sets More q e a m is = absurd (true_is_not_false (sym q))

-- a second name keeps its start when it grows, and ends where the items end
pub range_more : (n m k : ℕ) (h : Head) (f g : AnnotatedForest) (us : List Token) → IsBegun h f → HasRange n m h f → tokens_in (without_trivia g) ≡ us
    → k ≡ end_from m us → m ≤ k → HasRange n k h (f ⊕ g)
range_more n m k (Node j) f g us w e i r l = tt
range_more n m k SecondBind f g us w e i r l =
    let old : (let x : Extent = record { start = n; end = m } in x) ≡ extent_of (w.0 ∷ w.1) = e.0 ∙ ap extent_of w.2 in
    let new : tokens_in (without_trivia (f ⊕ g)) ≡ w.0 ∷ (w.1 ++ us) =
    tokens_more f g ∙ ap (λ x. x ++ tokens_in (without_trivia g)) w.2 ∙ ap (λ x. w.0 ∷ (w.1 ++ x)) i in
    let end : k ≡ end_from w.0.end (w.1 ++ us) = r ∙ ap (λ x. end_from x.end us) old ∙ sym (end_behind w.0.end w.1 us) in (
      ap (λ x. let y : Extent = record { start = x.start; end = k } in y) old ∙ ap (λ x. let y : Extent = record { start = w.0.start; end = x } in y) end
          ∙ sym (ap extent_of new),
      omega (arith, e.1, l),
    )
range_more n m k Operand f g us w e i r l = tt
