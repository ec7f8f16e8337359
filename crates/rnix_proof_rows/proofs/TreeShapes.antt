-- The shape of a complete tree with its trivia. A tree reports what its items report, if no error node begins or ends with trivia.
use Rattle.std.proofs.Common.{◌≡◌, ◌↔◌, ℕ, Bool, true, false, List, [], ◌∷◌, ◌++◌, Option, Some, None, refl, ap, sym, ◌∙◌, subst, if◌then◌else◌, ◌&&◌, bytes_eq}
use Rattle.rnix_kinds.specs.declared.kinds.SyntaxKind.{SyntaxKind, TheVariants.{NODE_ROOT, NODE_ERROR, NODE_IDENT, NODE_PAT_BIND, NODE_PAT_ENTRY}}
use Rattle.{rnix_kinds.specs.SyntaxKind.is_trivia, rnix_green.specs.Forest.Forest, rnix_grammar.specs.{Fault.{Fault, duplicated_args}, AnnotatedForest.Token}}
use Rattle.rnix_grammar.specs.AnnotatedForest.{AnnotatedForest, blank, token, branch, fault, ◌⊕◌, one_token, one_branch, one_fault, forget, without_trivia}
use Rattle.rnix_grammar.specs.{AnnotatedForest.{token_if, leaf_kind, HaveLeafKinds, tokens_in, extent_of}, Reports.{repeated_if, entry_name, only_token}}
use Rattle.rnix_grammar.specs.{Reports.{is_same_name, has_entry, repeats}, Rules.may_end, CompleteRows.is_row, Reads.ReadsRoot, Named.begins_with_token}
use Rattle.rnix_grammar.specs.{Repaired.kinds_of, Trim.{AreNodesTrimmed, AreFaultsTrimmed}, Shape.{item_kinds, begins_with_leaf, is_bind_formed}}
use Rattle.rnix_grammar.specs.Shape.{are_binds_formed, AreRows, IsShaped, leaf_text, text_if, name_in, name_if, with_name, entry_names, AreNew, AreUnrepeated}
use Rattle.{rnix_grammar.specs.{Shape.{IsUnrepeated, reports_within}, Tables.is_among}, rnix_proof_lemmas.proofs.{ViableRows.nowhere, Basics.true_is_not_false}}
use Rattle.rnix_proof_lemmas.proofs.{Basics.{none_remaining, none_right}, EntryNames.{name_of_items, has_branch, either_assoc, has-⊕, if_not}}
use Rattle.rnix_proof_lemmas.proofs.{AnnotatedForestLemmas.⊕-blank, LayoutLemmas.without_trivia-⊕, ReportLemmas.{without_trivia_tokens, same_report}}
use Rattle.{rnix_proof_lemmas.specs.RowReports.reports_behind, rnix_proof_rows.proofs.{WithTriviaEdges.remapped_is_trivia, ReadsShapes.is_item_bind_formed}}
use Rattle.rnix_proof_rows.proofs.ReadsShapes.{are_item_binds_formed, AreErrorFreeRows, IsErrorFree, root_rows}

-- a leaf is trivia exactly if its token is
leaf_trivia : (p k : SyntaxKind) (t : Token) → k ≡ leaf_kind p t → is_trivia t.kind ≡ is_trivia k
leaf_trivia p k t e = sym (ap is_trivia e ∙ remapped_is_trivia p t.kind)

-- a function of a forest without trivia, by its first leaf: it passes over trivia and uses an item
by_leaf : {A : Type 0} (x : Bool) (k : SyntaxKind) (t : Token) (f : AnnotatedForest) (h : AnnotatedForest → A) (a b : A) → h f ≡ a → h (token k t f) ≡ b
    → h (token_if x k t f) ≡ (if x then a else b)
by_leaf true k t f h a b e g = e
by_leaf false k t f h a b e g = g

-- the kinds of a forest without trivia are those of its trees that are no trivia
pub without_trivia_kinds : (p : SyntaxKind) (f : AnnotatedForest) → HaveLeafKinds p f → kinds_of (forget (without_trivia f)) ≡ item_kinds (forget f)
without_trivia_kinds p blank h = refl
without_trivia_kinds p (token k t f) h =
    by_leaf (is_trivia t.kind) k t (without_trivia f) (λ x. kinds_of (forget x)) (item_kinds (forget f)) (k ∷ item_kinds (forget f))
    (without_trivia_kinds p f h.1) (ap (λ z. k ∷ z) (without_trivia_kinds p f h.1))
    ∙ ap (λ x. if x then item_kinds (forget f) else k ∷ item_kinds (forget f)) (leaf_trivia p k t h.0)
without_trivia_kinds p (branch k c f) h = ap (λ z. k ∷ z) (without_trivia_kinds p f h.1)
without_trivia_kinds p (fault n c f) h = ap (λ z. NODE_ERROR ∷ z) (without_trivia_kinds p f h.1)

-- a forest without trivia begins with a token exactly if the first of its trees that are no trivia is a leaf
without_trivia_begins : (p : SyntaxKind) (f : AnnotatedForest) → HaveLeafKinds p f → begins_with_token (without_trivia f) ≡ begins_with_leaf (forget f)
without_trivia_begins p (token k t f) h =
    by_leaf (is_trivia t.kind) k t (without_trivia f) begins_with_token (begins_with_leaf (forget f)) true (without_trivia_begins p f h.1) refl
    ∙ ap (λ x. if x then begins_with_leaf (forget f) else true) (leaf_trivia p k t h.0)
without_trivia_begins p _ h = cc

-- a bound name has its form with trivia exactly if it has it without
without_trivia_bind : (first : Bool) (k : SyntaxKind) (c : AnnotatedForest) → HaveLeafKinds k c
    → is_item_bind_formed first k (without_trivia c) ≡ is_bind_formed first k (forget c)
without_trivia_bind true NODE_PAT_BIND c h = ap (λ x. if x then false else true) (without_trivia_begins NODE_PAT_BIND c h)
without_trivia_bind false NODE_PAT_BIND c h = without_trivia_begins NODE_PAT_BIND c h
without_trivia_bind true _ c h = refl
without_trivia_bind false _ c h = refl

-- an error node is no bound name
error_bind : (first : Bool) (c : Forest) (b : Bool) → (is_bind_formed first NODE_ERROR c && b) ≡ b
error_bind true c b = refl
error_bind false c b = refl

-- this holds for the bound names of a forest
without_trivia_binds : (p : SyntaxKind) (first : Bool) (f : AnnotatedForest) → HaveLeafKinds p f
    → are_item_binds_formed first (without_trivia f) ≡ are_binds_formed first (forget f)
without_trivia_binds p first blank h = refl
without_trivia_binds p first (token k t f) h =
    by_leaf (is_trivia t.kind) k t (without_trivia f) (are_item_binds_formed first) (are_binds_formed first (forget f)) (are_binds_formed false (forget f))
    (without_trivia_binds p first f h.1) (without_trivia_binds p false f h.1)
    ∙ ap (λ x. if x then are_binds_formed first (forget f) else are_binds_formed false (forget f)) (leaf_trivia p k t h.0)
without_trivia_binds p first (branch k c f) h =
    ap (λ x. x && are_item_binds_formed false (without_trivia f)) (without_trivia_bind first k c h.0)
    ∙ ap (λ x. is_bind_formed first k (forget c) && x) (without_trivia_binds p false f h.1)
without_trivia_binds p first (fault n c f) h = without_trivia_binds p false f h.1 ∙ sym (error_bind first (forget c) (are_binds_formed false (forget f)))

-- an error node has no row
no_error_row : (ks : List SyntaxKind) → is_row NODE_ERROR ks ≡ true → ⊥
no_error_row [] h = true_is_not_false (sym h)
no_error_row (k ∷ ks) h = true_is_not_false (sym h ∙ ap may_end (nowhere ks))

-- the children of each node are a row with trivia exactly if they are without
are_rows : (p : SyntaxKind) (f : AnnotatedForest) → HaveLeafKinds p f → AreErrorFreeRows (without_trivia f) ↔ AreRows (forget f)
are_rows p blank h = (λ r. tt, λ r. tt)
are_rows p (token k t f) h =
    elim (is_trivia t.kind) as (λ x. AreErrorFreeRows (token_if x k t (without_trivia f))
    ↔ AreRows (forget f)) [ true ↦ are_rows p f h.1 | false ↦ are_rows p f h.1 ]
are_rows p (branch k c f) h =
    let kinds = ap (is_row k) (without_trivia_kinds k c h.0) in
    let binds = without_trivia_binds k true c h.0 in
    let inside = are_rows k c h.0 in
    let later = are_rows p f h.1 in
    (λ r. (sym kinds ∙ r.0, sym binds ∙ r.1, inside.0 r.2, later.0 r.3), λ r. (kinds ∙ r.0, binds ∙ r.1, inside.1 r.2, later.1 r.3))
are_rows p (fault n c f) h = (λ r. absurd r, λ r. absurd (no_error_row (item_kinds (forget c)) r.0))

-- the text of a token, if there is one
abbrev pub text_in : Option Token → Option (List ℕ)
text_in None = None
text_in (Some t) = Some t.text

-- the text of a name is the same with trivia and without
without_trivia_text : (p : SyntaxKind) (c : AnnotatedForest) → HaveLeafKinds p c → text_in (only_token (without_trivia c)) ≡ leaf_text (forget c)
without_trivia_text p (token k t f) h =
    by_leaf (is_trivia t.kind) k t (without_trivia f) (λ x. text_in (only_token x)) (leaf_text (forget f)) (Some t.text) (without_trivia_text p f h.1) refl
    ∙ ap (λ x. if x then leaf_text (forget f) else Some t.text) (leaf_trivia p k t h.0)
without_trivia_text p _ h = cc

-- so is the text of a node that may be a name
without_trivia_ident : (k : SyntaxKind) (c f : AnnotatedForest) → HaveLeafKinds k c
    → text_in (entry_name (branch k (without_trivia c) f)) ≡ text_if k (forget c)
without_trivia_ident NODE_IDENT c f h = without_trivia_text NODE_IDENT c h
without_trivia_ident _ c f h = refl

-- so is the name with which an entry begins
without_trivia_entry : (p : SyntaxKind) (c : AnnotatedForest) → HaveLeafKinds p c → text_in (entry_name (without_trivia c)) ≡ name_in (forget c)
without_trivia_entry p (token k t f) h =
    by_leaf (is_trivia t.kind) k t (without_trivia f) (λ x. text_in (entry_name x)) (name_in (forget f)) None (without_trivia_entry p f h.1) refl
    ∙ ap (λ x. if x then name_in (forget f) else None) (leaf_trivia p k t h.0)
without_trivia_entry p (branch k c f) h = without_trivia_ident k c (without_trivia f) h.0
without_trivia_entry p _ h = assumption

-- so is the name of a node that may be an entry
pub without_trivia_name : (k : SyntaxKind) (c : AnnotatedForest) → HaveLeafKinds k c → text_in (name_of_items k (without_trivia c)) ≡ name_if k (forget c)
without_trivia_name NODE_PAT_ENTRY c h = without_trivia_entry NODE_PAT_ENTRY c h
without_trivia_name _ c h = refl

-- an entry is reported by its name
pub repeats_named : (k : SyntaxKind) (b c : AnnotatedForest) → repeats k b c ≡ repeated_if (name_of_items k c) b
repeats_named NODE_PAT_ENTRY b c = refl
repeats_named _ b c = refl

-- a name is in two joined lists exactly if it is in one of them
among-++ : (name : List ℕ) (xs ys : List (List ℕ)) → is_among name (xs ++ ys) ≡ (if is_among name xs then true else is_among name ys)
among-++ name [] ys = refl
among-++ name (x ∷ xs) ys =
    ap (λ z. if bytes_eq name x then true else z) (among-++ name xs ys) ∙ either_assoc (bytes_eq name x) (is_among name xs) (is_among name ys)

-- a list is that of the names of the entries in a forest
abbrev pub Lists : List (List ℕ) → AnnotatedForest → Type 0
Lists names b = (name : List ℕ) → has_entry name b ≡ is_among name names

-- a leaf adds no name
lists_token : (names : List (List ℕ)) (b : AnnotatedForest) (k : SyntaxKind) (t : Token) → Lists names b → Lists names (b ⊕ one_token k t)
lists_token names b k t h = λ name. has-⊕ name b (one_token k t) ∙ if_not (has_entry name b) ∙ h name

-- a list of names with another one, if there is one
abbrev pub added : List (List ℕ) → Option (List ℕ) → List (List ℕ)
added names None = names
added names (Some name) = names ++ (name ∷ [])

-- a node adds its name, if it has one
lists_branch : (names : List (List ℕ)) (b : AnnotatedForest) (k : SyntaxKind) (c : AnnotatedForest) → Lists names b
    → Lists (added names (text_in (name_of_items k c))) (b ⊕ one_branch k c)
lists_branch names b k c h = λ name.
    has-⊕ name b (one_branch k c) ∙ ap (λ x. if has_entry name b then true else x) (has_branch name k c blank) ∙ by_name name (name_of_items k c)
  where
    by_name : (name : List ℕ) (o : Option Token)
        → (if has_entry name b then true else (if is_same_name name o then true else false)) ≡ is_among name (added names (text_in o))
    by_name name None = if_not (has_entry name b) ∙ h name
    by_name name (Some t) = ap (λ x. if x then true else (if bytes_eq name t.text then true else false)) (h name) ∙ sym (among-++ name names (t.text ∷ []))

-- a name, if there is one, is not in a list
abbrev pub IsNew : List (List ℕ) → Option (List ℕ) → Type 0
IsNew names None = Unit {0}
IsNew names (Some name) = is_among name names ≡ false

-- all names are new if the first one is and those after it are
new_all : (before : List (List ℕ)) (o : Option (List ℕ)) (names : List (List ℕ))
    → AreNew before (with_name o names) ↔ (IsNew before o × AreNew (added before o) names)
new_all before None names = (λ h. (tt, h), λ h. h.1)
new_all before (Some name) names = (λ h. (h.0, h.1), λ h. (h.0, h.1))

-- a name is reported exactly if it is not new
new_repeated : (names : List (List ℕ)) (b : AnnotatedForest) (o : Option Token) → Lists names b → (repeated_if o b ≡ []) ↔ IsNew names (text_in o)
new_repeated names b None h = (λ e. tt, λ e. refl)
new_repeated names b (Some t) h = subst (λ x. ((if x then duplicated_args (extent_of (t ∷ [])) t.text ∷ [] else []) ≡ []) ↔ (is_among t.text names ≡ false))
    (sym (h t.text)) (by (is_among t.text names))
  where
    by : (x : Bool) → ((if x then duplicated_args (extent_of (t ∷ [])) t.text ∷ [] else []) ≡ []) ↔ (x ≡ false)
    by true = (λ e. cc, λ e. cc)
    by false = (λ e. refl, λ e. refl)

-- two joined lists are empty exactly if each is
none_all : (es fs : List Fault) → (es ++ fs ≡ []) ↔ ((es ≡ []) × (fs ≡ []))
none_all es fs = (λ h. (none_remaining es fs h, none_right es fs h), λ h. ap (λ x. x ++ fs) h.0 ∙ h.1)

-- the names of a forest's entries are not among those before it, and none is repeated
abbrev IsNewRow : List (List ℕ) → Forest → Type 0
IsNewRow names f = AreNew names (entry_names f) × AreUnrepeated f

-- if the children of every node are a row, nothing is reported exactly if no name is repeated
silent : (p : SyntaxKind) (g b : AnnotatedForest) (names : List (List ℕ)) → HaveLeafKinds p g → Lists names b → AreErrorFreeRows (without_trivia g)
    → (reports_behind b (without_trivia g) ≡ []) ↔ IsNewRow names (forget g)
silent p blank b names h l r = (λ e. (tt, tt), λ w. refl)
silent p (token k t f) b names h l r =
    elim (is_trivia t.kind) as
    (λ x. AreErrorFreeRows (token_if x k t (without_trivia f)) → (reports_behind b (token_if x k t (without_trivia f)) ≡ []) ↔ IsNewRow names (forget f))
    [ true ↦ silent p f b names h.1 l | false ↦ silent p f (b ⊕ one_token k t) names h.1 (lists_token names b k t l) ] r
silent p (branch k c f) b names h l r =
    let d : AnnotatedForest = without_trivia c in
    let o : Option (List ℕ) = text_in (name_of_items k d) in
    let inside : (reports_behind blank d ≡ []) ↔ IsNewRow [] (forget c) = silent k c blank [] h.0 (λ name. refl) r.2 in
    let later : (reports_behind (b ⊕ one_branch k d) (without_trivia f) ≡ []) ↔ IsNewRow (added names o) (forget f) =
    silent p f (b ⊕ one_branch k d) (added names o) h.1 (lists_branch names b k d l) r.3 in
    let here : (repeated_if (name_of_items k d) b ≡ []) ↔ IsNew names o = new_repeated names b (name_of_items k d) l in
    let all : AreNew names (with_name (name_if k (forget c)) (entry_names (forget f))) ↔ (IsNew names o × AreNew (added names o) (entry_names (forget f))) =
    subst (λ (x : Option (List ℕ)). AreNew names (with_name x (entry_names (forget f))) ↔ (IsNew names o × AreNew (added names o) (entry_names (forget f))))
    (without_trivia_name k c h.0)
    (new_all names o (entry_names (forget f))) in
    let first = none_all (reports_behind blank d) (repeats k b d ++ reports_behind (b ⊕ one_branch k d) (without_trivia f)) in
    let second = none_all (repeats k b d) (reports_behind (b ⊕ one_branch k d) (without_trivia f)) in (
      λ e.
          (let more = second.0 (first.0 e).1 in
          let below : IsNewRow [] (forget c) = inside.0 (first.0 e).0 in
          let rest : IsNewRow (added names o) (forget f) = later.0 more.1 in
          (all.1 (here.0 (sym (repeats_named k b d) ∙ more.0), rest.0), (below.0, below.1, rest.1))),
      λ w.
          (let news = all.0 w.0 in
          let parts : AreUnrepeated (forget (branch k c f)) = w.1 in
          first.1 (inside.1 (parts.0, parts.1), second.1 (repeats_named k b d ∙ here.1 news.0, later.1 (news.1, parts.2)))),
    )
silent p (fault n c f) b names h l r = absurd r

-- a text has no errors exactly if its tree has its shape and no name of a pattern is repeated
pub root_shaped : (f g : AnnotatedForest) (es : List Fault) → ReadsRoot f es → without_trivia g ≡ f → HaveLeafKinds NODE_ROOT g
    → (es ≡ [] → AreNodesTrimmed (forget g))
    → (es ≡ []) ↔ (IsShaped (record { kind = NODE_ROOT; children = forget g }) × IsUnrepeated (record { kind = NODE_ROOT; children = forget g }))
root_shaped f g es s e h t = (there, back)
  where
    there : es ≡ [] → IsShaped (record { kind = NODE_ROOT; children = forget g }) × IsUnrepeated (record { kind = NODE_ROOT; children = forget g })
    there n =
        let w : IsErrorFree (without_trivia g) = subst IsErrorFree (sym e) ((root_rows s).0 n) in
        let new = (silent NODE_ROOT g blank [] h (λ name. refl) w.nodes).0 w.silent in
        (((ap (is_row NODE_ROOT) (sym (without_trivia_kinds NODE_ROOT g h)) ∙ w.root, (are_rows NODE_ROOT g h).0 w.nodes, t n)), (new.0, new.1, tt))

    back : IsShaped (record { kind = NODE_ROOT; children = forget g }) × IsUnrepeated (record { kind = NODE_ROOT; children = forget g }) → es ≡ []
    back w =
        let shape : IsShaped (record { kind = NODE_ROOT; children = forget g }) = w.0 in
        let new : IsUnrepeated (record { kind = NODE_ROOT; children = forget g }) = w.1 in
        let rows : AreErrorFreeRows (without_trivia g) = (are_rows NODE_ROOT g h).1 shape.1 in
        let bare : IsErrorFree (without_trivia g) = record {
          root = ap (is_row NODE_ROOT) (without_trivia_kinds NODE_ROOT g h) ∙ shape.0;
          nodes = rows;
          silent = (silent NODE_ROOT g blank [] h (λ name. refl) rows).1 (new.0, new.1);
        } in
        (root_rows s).1 (subst IsErrorFree e bare)

-- a leaf reports nothing
leaf_reports : (x : Bool) (k : SyntaxKind) (t : Token) (b f : AnnotatedForest)
    → reports_behind b (token_if x k t f) ≡ reports_behind (b ⊕ token_if x k t blank) f
leaf_reports true k t b f = ap (λ z. reports_behind z f) (sym (⊕-blank b))
leaf_reports false k t b f = refl

-- a forest reports what its items report
pub without_trivia_reports : (b g : AnnotatedForest) → AreFaultsTrimmed g → reports_behind (without_trivia b) (without_trivia g) ≡ reports_within b g
without_trivia_reports b blank h = refl
without_trivia_reports b (token k t f) h =
    leaf_reports (is_trivia t.kind) k t (without_trivia b) (without_trivia f)
    ∙ ap (λ z. reports_behind z (without_trivia f)) (sym (without_trivia-⊕ b (one_token k t))) ∙ without_trivia_reports (b ⊕ one_token k t) f h
without_trivia_reports b (branch k c f) h =
    rw (without_trivia_reports blank c h.0, sym (without_trivia-⊕ b (one_branch k c)), without_trivia_reports (b ⊕ one_branch k c) f h.1) refl
without_trivia_reports b (fault n c f) h =
    rw (
      without_trivia_reports blank c h.2,
      without_trivia_tokens c,
      same_report n (tokens_in c) h.0 h.1,
      sym (without_trivia-⊕ b (one_fault n c)),
      without_trivia_reports (b ⊕ one_fault n c) f h.3,
    ) refl
