-- The errors of a forest belong, one by one, to its error nodes and to its entries that repeat a name, as these close.
use Rattle.std.proofs.Common.{◌≡◌, ℕ, ◌+◌, Bool, true, false, List, [], ◌∷◌, length, Option, Some, None, refl, ap, sym, ◌∙◌, arith, subst, if◌then◌else◌}
use Rattle.{std.proofs.Common.{bytes_eq, ◌||◌}, rnix_kinds.specs.declared.kinds.SyntaxKind.{SyntaxKind, TheVariants.{NODE_ERROR, NODE_PAT_ENTRY}}}
use Rattle.{rnix_kinds.specs.SyntaxKind.is_trivia, rnix_green.specs.{Forest.{text_of, element_count}, Tree.{Tree, Item, item}}}
use Rattle.rnix_grammar.specs.{Fault.duplicated_args, AnnotatedForest.{Token, Note, AnnotatedForest, blank, token, branch, fault, ◌⊕◌, one_token, one_branch}}
use Rattle.rnix_grammar.specs.AnnotatedForest.{one_fault, tokens_in, forget, without_trivia, token_if, HaveLeafKinds, extent_of as extent_in}
use Rattle.rnix_grammar.specs.{Reports.{entry_name, is_same_name, has_entry, repeated_if, repeats}, Shape.{reports_within, name_if, with_name}, Tables.is_among}
use Rattle.rnix_grammar.specs.Ranges.{is_error_node, IsEntryName, is_among_if, is_at_fault, at_fault_from, AreErrorsOf}
use Rattle.rnix_proof_lemmas.proofs.{LayoutLemmas.without_trivia-⊕, EntryNames.{name_of_items, has_branch, has-⊕, if_not}}
use Rattle.rnix_proof_rows.proofs.{TreeShapes.{Lists, without_trivia_name, repeats_named, text_in as name_of}, PlacedTokens.{ArePlaced, text_in, placed_first}}
use Rattle.rnix_proof_rows.proofs.{PlacedTokens.{placed_rest, forget-length}, RowsIn.{IsRowIn, row_first, row_inside, row_behind_leaf, row_behind_node}}
use Rattle.rnix_proof_rows.proofs.ErrorElements.{errors-++, IsSound, IsRowOf, report_error, row_name, none_some}

-- a disjunction of two tests does not depend on their order
swapped : (x y : Bool) → (if x then true else (if y then true else false)) ≡ (if y then true else x)
swapped true true = refl
swapped _ _ = refl

-- the names before a forest, with that of one more node, are the names before the next one
lists_node : (names : List (List ℕ)) (b : AnnotatedForest) (k : SyntaxKind) (c : AnnotatedForest) → Lists names b
    → Lists (with_name (name_of (name_of_items k c)) names) (b ⊕ one_branch k c)
lists_node names b k c h = λ name. has-⊕ name b (one_branch k c) ∙ ap (λ x. if has_entry name b then true else x) (has_branch name k c blank)
    ∙ by_name name (name_of_items k c)
  where
    by_name : (name : List ℕ) (o : Option Token)
        → (if has_entry name b then true else (if is_same_name name o then true else false)) ≡ is_among name (with_name (name_of o) names)
    by_name name None = if_not (has_entry name b) ∙ h name
    by_name name (Some x) = swapped (has_entry name b) (bytes_eq name x.text) ∙ ap (λ z. if bytes_eq name x.text then true else z) (h name)

-- the same with trivia
lists_branch : (names : List (List ℕ)) (b : AnnotatedForest) (k : SyntaxKind) (c : AnnotatedForest) → HaveLeafKinds k c → Lists names (without_trivia b)
    → Lists (with_name (name_if k (forget c)) names) (without_trivia (b ⊕ one_branch k c))
lists_branch names b k c o h =
    subst (λ z. Lists (with_name z names) (without_trivia (b ⊕ one_branch k c))) (without_trivia_name k c o)
    (subst (Lists (with_name (name_of (name_of_items k (without_trivia c))) names)) (sym (without_trivia-⊕ b (one_branch k c)))
    (lists_node names (without_trivia b) k (without_trivia c) h))

-- a leaf adds no name
lists_token : (names : List (List ℕ)) (b : AnnotatedForest) (k : SyntaxKind) (x : Token) → Lists names (without_trivia b)
    → Lists names (without_trivia (b ⊕ one_token k x))
lists_token names b k x h = λ name. ap (has_entry name) (without_trivia-⊕ b (one_token k x))
    ∙ has-⊕ name (without_trivia b) (token_if (is_trivia x.kind) k x blank) ∙ by name (is_trivia x.kind)
  where
    by : (name : List ℕ) (i : Bool) → (if has_entry name (without_trivia b) then true else has_entry name (token_if i k x blank)) ≡ is_among name names
    by name true = if_not (has_entry name (without_trivia b)) ∙ h name
    by name false = if_not (has_entry name (without_trivia b)) ∙ h name

-- an error node adds no name
lists_fault : (names : List (List ℕ)) (b : AnnotatedForest) (n : Note) (c : AnnotatedForest) → Lists names (without_trivia b)
    → Lists names (without_trivia (b ⊕ one_fault n c))
lists_fault names b n c h = λ name. ap (has_entry name) (without_trivia-⊕ b (one_fault n c)) ∙ has-⊕ name (without_trivia b) (one_fault n (without_trivia c))
    ∙ if_not (has_entry name (without_trivia b)) ∙ h name

-- a node with an entry's name is an entry
named_entry : (k : SyntaxKind) (c : AnnotatedForest) (x : Token) → name_of_items k c ≡ Some x → (k ≡ NODE_PAT_ENTRY) × (entry_name c ≡ Some x)
named_entry NODE_PAT_ENTRY c x h = (refl, h)
named_entry _ c x h = none_some x h

-- an entry is reported exactly if its name is one of those before it
entry_error : (t : Tree) (n : ℕ) (names : List (List ℕ)) (b : AnnotatedForest) (o : Option Token) → Lists names b
    → ((x : Token) → o ≡ Some x → IsEntryName t n (extent_in (x ∷ [])) x.text)
    → AreErrorsOf t (repeated_if o b) (if is_among_if (name_of o) names then n ∷ [] else [])
entry_error t n names b None l h = tt
entry_error t n names b (Some x) l h =
    subst (λ z. AreErrorsOf t (if has_entry x.text b then duplicated_args (extent_in (x ∷ [])) x.text ∷ [] else []) (if z then n ∷ [] else [])) (l x.text)
    (elim (has_entry x.text b) as (λ z. AreErrorsOf t (if z then duplicated_args (extent_in (x ∷ [])) x.text ∷ [] else []) (if z then n ∷ [] else [])) [
      | true ↦
          (h x refl, tt)
      | false ↦ tt
    ])

-- a node is reported exactly if it repeats a name
node_error : (t : Tree) (n : ℕ) (names : List (List ℕ)) (b : AnnotatedForest) (k : SyntaxKind) (c : AnnotatedForest) → is_error_node k ≡ false
    → HaveLeafKinds k c → Lists names b
    → ((x : Token) → k ≡ NODE_PAT_ENTRY → entry_name (without_trivia c) ≡ Some x → IsEntryName t n (extent_in (x ∷ [])) x.text)
    → AreErrorsOf t (repeats k b (without_trivia c)) (if is_at_fault k (forget c) names then n ∷ [] else [])
node_error t n names b k c e o l h =
    let same : is_among_if (name_of (name_of_items k (without_trivia c))) names ≡ is_at_fault k (forget c) names =
    ap (λ z. is_among_if z names) (without_trivia_name k c o) ∙ sym (ap (λ z. z || is_among_if (name_if k (forget c)) names) e) in
    subst (λ z. AreErrorsOf t (repeats k b (without_trivia c)) (if z then n ∷ [] else [])) same
    (subst (λ z. AreErrorsOf t z (if is_among_if (name_of (name_of_items k (without_trivia c))) names then n ∷ [] else []))
    (sym (repeats_named k b (without_trivia c)))
    (entry_error t n names b (name_of_items k (without_trivia c)) l (λ x g. (let w = named_entry k (without_trivia c) x g in h x w.0 w.1))))

-- the errors of a forest are those of its elements at fault
pub row_errors : (t : Tree) (q : SyntaxKind) (n s p : ℕ) (b : AnnotatedForest) (names : List (List ℕ)) (f : AnnotatedForest)
    → IsRowIn t n s (Some p) (forget f) → IsRowOf t p q → IsSound q s f → Lists names (without_trivia b)
    → AreErrorsOf t (reports_within b f) (at_fault_from n names (forget f))
row_errors t q n s p b names blank h u a l = tt
row_errors t q n s p b names (token k x f) h u a l =
    row_errors t q (n + 1) (s + length x.text) p (b ⊕ one_token k x) names f (row_behind_leaf t n s (Some p) k x.text (forget f) h) u
    (record { placed = a.placed.2; leaf_kind = a.leaf_kind.1; bare = a.bare; marked = a.marked; formed = a.formed }) (lists_token names b k x l)
row_errors t q n s p b names (branch k c f) h u a l =
    let first : item t n ≡ _ = row_first t n s (Some p) (forget (branch k c f)) h (omega arith) in
    let size : s + length (text_in (tokens_in c)) ≡ s + length (text_of (forget c)) = omega (arith, forget-length c) in
    let inside : IsRowIn t (n + 1) s (Some n) (forget c) = row_inside t n s (Some p) k (forget c) (forget f) h in
    let under : IsRowOf t n k = record { kind_is = ap (λ (i : Item). i.kind) first; root = λ e. absurd (a.formed.0 e) } in
    let placed : ArePlaced s (tokens_in c) = placed_first s (tokens_in c) (tokens_in f) a.placed in
    errors-++ t (reports_within blank c) _ (at_fault_from (n + 1) [] (forget c)) _
    (row_errors t k (n + 1) s n blank [] c inside under
    (record { placed = placed; leaf_kind = a.leaf_kind.0; bare = a.bare.1; marked = a.marked.1; formed = a.formed.1 }) (λ name. refl))
    (errors-++ t (repeats k (without_trivia b) (without_trivia c)) _ (if is_at_fault k (forget c) names then n ∷ [] else []) _
    (node_error t n names (without_trivia b) k c a.marked.0 a.leaf_kind.0 l
    (λ x e g. row_name t n s c x (ap (λ (i : Item). i.kind) first ∙ e) inside placed a.bare.1 (a.bare.0.1 e) g))
    (row_errors t q (n + 1 + element_count (forget c)) (s + length (text_of (forget c))) p (b ⊕ one_branch k c) (with_name (name_if k (forget c)) names) f
    (row_behind_node t n s (Some p) k (forget c) (forget f) h) u
    (record {
      placed = placed_rest s (s + length (text_of (forget c))) (tokens_in c) (tokens_in f) size a.placed;
      leaf_kind = a.leaf_kind.1;
      bare = a.bare.2;
      marked = a.marked.2;
      formed = a.formed.2;
    })
    (lists_branch names b k c a.leaf_kind.0 l)))
row_errors t q n s p b names (fault m c f) h u a l =
    let first : item t n ≡ _ = row_first t n s (Some p) (forget (fault m c f)) h (omega arith) in
    let size : s + length (text_in (tokens_in c)) ≡ s + length (text_of (forget c)) = omega (arith, forget-length c) in
    let inside : IsRowIn t (n + 1) s (Some n) (forget c) = row_inside t n s (Some p) NODE_ERROR (forget c) (forget f) h in
    let under : IsRowOf t n NODE_ERROR = record { kind_is = ap (λ (i : Item). i.kind) first; root = λ e. absurd (cc) } in
    let sound : IsSound NODE_ERROR s c = record {
      placed = placed_first s (tokens_in c) (tokens_in f) a.placed;
      leaf_kind = a.leaf_kind.0;
      bare = a.bare.0;
      marked = a.marked.1;
      formed = a.formed.1;
    } in
    errors-++ t (reports_within blank c) _ (at_fault_from (n + 1) [] (forget c)) _
    (row_errors t NODE_ERROR (n + 1) s n blank [] c inside under sound (λ name. refl)) (
      report_error t q p n s m c f a.marked.0 a.formed.0 u first inside sound,
      row_errors t q (n + 1 + element_count (forget c)) (s + length (text_of (forget c))) p (b ⊕ one_fault m c) names f
          (row_behind_node t n s (Some p) NODE_ERROR (forget c) (forget f) h) u
          (record {
            placed = placed_rest s (s + length (text_of (forget c))) (tokens_in c) (tokens_in f) size a.placed;
            leaf_kind = a.leaf_kind.1;
            bare = a.bare.1;
            marked = a.marked.2;
            formed = a.formed.2;
          })
          (lists_fault names b m c l),
    )
