-- Each error of an error node or of a repeated entry is that of its element: it has the element's range, and the element has the error's form.
use Rattle.std.proofs.Common.{◌≡◌, ℕ, zero, suc, ◌+◌, ◌-◌, ◌<◌, true, List, [], ◌∷◌, ◌++◌, length, Some, refl, ap, sym, ◌∙◌, arith, Bool, false, None, subst}
use Rattle.std.proofs.Common.{Option, append-nil}
use Rattle.rnix_kinds.specs.{declared.kinds.SyntaxKind.{SyntaxKind, TheVariants.{NODE_ERROR, NODE_IDENT, NODE_PAT_ENTRY, NODE_ROOT}}, SyntaxKind.is_trivia}
use Rattle.rnix_green.proofs.{InsideLemmas.{IsBelow, below_parent}, NestLemmas.at}
use Rattle.rnix_grammar.specs.declared.expected_set.ExpectedSet.{ExpectedSet, TheVariants.RParen}
use Rattle.rnix_grammar.specs.{Rules.is_one_of, Tables.{operand_kinds, wanted_kinds}, Ranges.{HasOtherTokens, IsOfErrorNode}}
use Rattle.rnix_proof_rows.proofs.ErrorForms.{AreOthers, IsFormed, AreFormed}
use Rattle.{rnix_green.specs.{Forest.{text_of, node, element_count}, Tree.{Tree, Item, item, extent_of}}, rnix_grammar.specs.{Fault.{Fault, unwanted}, AnnotatedForest.{Note, Stray}}}
use Rattle.rnix_grammar.specs.AnnotatedForest.{Unwanted, Extra, DoubleBind, TooDeep, AnnotatedForest, token, fault, tokens_in, forget, is_some, HaveLeafKinds}
use Rattle.rnix_grammar.specs.{AnnotatedForest.{extent_of as extent_in, Token, blank, branch, without_trivia, token_if}, Reports.{first_kind, report}}
use Rattle.rnix_grammar.specs.{Reports.{only_token, entry_name}, Named.begins_with_token, Trim.{AreNamesSingleTokens, is_single_token, begins_with_node}, Ranges.BeginsWith}
use Rattle.{rnix_grammar.specs.Ranges.{IsErrorOf, AreErrorsOf, IsEntryName}, rnix_proof_lemmas.proofs.Basics.{true_is_not_false, some_same}}
use Rattle.rnix_proof_rows.proofs.{ReadsFilled.{HasTokens, HaveFaultTokens}, PlacedTokens.{ArePlaced, between, row_extent, placed_first}, RowsIn.{IsRowIn, row_first}}
use Rattle.rnix_proof_rows.proofs.RowsIn.{row_text}

-- if two lists of errors are those of two lists of elements, so are both joined
pub errors-++ : (t : Tree) (es fs : List Fault) (ms ns : List ℕ) → AreErrorsOf t es ms → AreErrorsOf t fs ns → AreErrorsOf t (es ++ fs) (ms ++ ns)
errors-++ t [] fs [] ns h k = k
errors-++ t [] fs (m ∷ ms) ns h k = absurd h
errors-++ t (e ∷ es) fs [] ns h k = absurd h
errors-++ t (e ∷ es) fs (m ∷ ms) ns h k = (h.0, errors-++ t es fs ms ns h.1 k)

-- what is known of a forest in a tree: its tokens are placed, its leaves and names are as required, and its error nodes have tokens and their forms
pub record IsSound (q : SyntaxKind) (s : ℕ) (f : AnnotatedForest) : Type 0 where
  pub placed : ArePlaced s (tokens_in f)
  pub leaf_kind : HaveLeafKinds q f
  pub bare : AreNamesSingleTokens f
  pub marked : HaveFaultTokens f
  pub formed : AreFormed q f

-- the node `p`, of which a forest is a part, has the kind `q`, and no node but the first is a root
pub record IsRowOf (t : Tree) (p : ℕ) (q : SyntaxKind) : Type 0 where
  pub kind_is : (item t p).kind ≡ q
  pub root : q ≡ NODE_ROOT → p ≡ 0

-- an error node that begins with a token begins with it in the tree
first_token : (t : Tree) (m s : ℕ) (c : AnnotatedForest) → IsRowIn t (m + 1) s (Some m) (forget c) → HaveLeafKinds NODE_ERROR c → begins_with_token c ≡ true
    → BeginsWith t m (first_kind (tokens_in c))
first_token t m s (token k x f) h o b =
    let first : item t (m + 1) ≡ _ = row_first t (m + 1) s (Some m) (forget (token k x f)) h (omega arith) in
    record {
      token = record { is_there = omega (arith, h.there); is_token = ap (λ (i : Item). i.is_node) first };
      parent = ap (λ (i : Item). i.parent) first;
      kind_is = ap (λ (i : Item). i.kind) first ∙ o.0;
    }
first_token t m s _ h o b = absurd (true_is_not_false (sym b))

-- each element of a forest of tokens of no wanted kind is such a token
other_at : (kinds : List SyntaxKind) (n s : ℕ) (p : Option ℕ) (c : AnnotatedForest) (i : ℕ) → i < element_count (forget c) → AreOthers kinds c
    → ((at n s p (forget c) i).is_node ≡ false) × (is_one_of kinds (at n s p (forget c) i).kind ≡ false)
other_at kinds n s p blank i l h = absurd (omega arith)
other_at kinds n s p (token k x f) zero l h = (refl, h.0)
other_at kinds n s p (token k x f) (suc i) l h = other_at kinds (n + 1) (s + length x.text) p f i (omega arith) h.1
other_at kinds n s p _ i l h = absurd h

-- so is each child of their node
other_tokens : (t : Tree) (m s : ℕ) (kinds : List SyntaxKind) (c : AnnotatedForest) → IsRowIn t (m + 1) s (Some m) (forget c)
    → (item t m).below ≡ element_count (forget c) → AreOthers kinds c → HasOtherTokens t m kinds
other_tokens t m s kinds c h b o = λ n child.
    let inside : IsBelow t m n = below_parent t n m child.is_there child.parent in
    let number : m + 1 + (n - (m + 1)) ≡ n = omega (arith, inside) in
    let less : n - (m + 1) < element_count (forget c) = omega (arith, inside, b) in
    let here : item t n ≡ at (m + 1) s (Some m) (forget c) (n - (m + 1)) = sym (ap (item t) number) ∙ h.items (n - (m + 1)) less in
    let other = other_at kinds (m + 1) s (Some m) c (n - (m + 1)) less o in (
      record { is_there = child.is_there; is_token = ap (λ (i : Item). i.is_node) here ∙ other.0 },
      ap (λ (i : Item). is_one_of kinds i.kind) here ∙ other.1,
    )

-- a forest of such tokens has as many elements as tokens
tokens_counted : (kinds : List SyntaxKind) (c : AnnotatedForest) → AreOthers kinds c → element_count (forget c) ≡ length (tokens_in c)
tokens_counted kinds blank h = refl
tokens_counted kinds (token k x f) h = let more = tokens_counted kinds f h.1 in omega (arith, more)
tokens_counted kinds _ h = absurd h

-- no run is up to exactly the kinds that begin an operand
no_operand : (until : ExpectedSet) → wanted_kinds until ≡ operand_kinds → ⊥
no_operand RParen e = cc
no_operand _ e = cc

-- the error of an error node is that of the node's element
pub report_error : (t : Tree) (q : SyntaxKind) (p m s : ℕ) (n : Note) (c f : AnnotatedForest) → HasTokens n c → IsFormed n q c → IsRowOf t p q
    → item t m ≡ at m s (Some p) (forget (fault n c f)) 0
    → IsRowIn t (m + 1) s (Some m) (forget c) → IsSound NODE_ERROR s c → IsErrorOf t (report n (tokens_in c)) m
report_error t q p m s n c f some form under first h w = by n some form
  where
    kind : (item t m).kind ≡ NODE_ERROR
    kind = ap (λ (i : Item). i.kind) first

    parent : (item t m).parent ≡ Some p
    parent = ap (λ (i : Item). i.parent) first

    below : (item t m).below ≡ element_count (forget c)
    below = ap (λ (i : Item). i.below) first

    same : (u v w x : ℕ) → u ≡ w → v ≡ x → between w x ≡ between u v
    same u v w x e g = cc

    begins_some : (c : AnnotatedForest) → begins_with_token c ≡ true → is_some (tokens_in c) ≡ true
    begins_some (token k x f) h = refl
    begins_some _ h = absurd (true_is_not_false (sym h))

    position : is_some (tokens_in c) ≡ true → extent_in (tokens_in c) ≡ extent_of record { tree = t; number = m }
    position some = row_extent s c some w.placed
        ∙ same (item t m).start (item t m).end s (s + length (text_of (forget c))) (ap (λ (i : Item). i.start) first) (ap (λ (i : Item). i.end) first)

    unwanted_error : (kinds : List SyntaxKind) → begins_with_token c ≡ true → AreOthers kinds c → (kinds ≡ operand_kinds → length (tokens_in c) ≡ 1)
        → IsOfErrorNode t (unwanted (first_kind (tokens_in c)) (extent_in (tokens_in c)) kinds) m
    unwanted_error kinds some form one = record {
      kind_is = kind;
      range_is = position (begins_some c some);
      form = (first_token t m s c h w.leaf_kind some, other_tokens t m s kinds c h below form, λ e. below ∙ tokens_counted kinds c form ∙ one e);
    }

    by : (n : Note) → HasTokens n c → IsFormed n q c → IsErrorOf t (report n (tokens_in c)) m
    by TooDeep some form = record { kind_is = kind; range_is = tt; form = tt }
    by Stray some form = unwanted_error operand_kinds some form.0 (λ e. form.1)
    by (Unwanted until) some form = unwanted_error (wanted_kinds until) some form (λ e. absurd (no_operand until e))
    by Extra some form = record { kind_is = kind; range_is = position some; form = parent ∙ ap Some (under.root form) }
    by DoubleBind some form = record {
      kind_is = kind;
      range_is = position some;
      form = record { parent = p; is_parent = parent; kind_is = under.kind_is ∙ form };
    }

-- no token is not some token
pub none_some : {A : Type 0} (x : Token) → None ≡ Some x → A
none_some x h = absurd (cc)

-- the name with which a forest begins is that of a name's node
name_node : (k : SyntaxKind) (c f : AnnotatedForest) (x : Token) → entry_name (branch k c f) ≡ Some x → (k ≡ NODE_IDENT) × (only_token c ≡ Some x)
name_node NODE_IDENT c f x h = (refl, h)
name_node _ c f x h = none_some x h

-- a forest is this token alone
pub data IsName (x : Token) : AnnotatedForest → Type 0 where
  name : (j : SyntaxKind) → IsName x (token j x blank)

single_token_if : (b : Bool) (j : SyntaxKind) (y x : Token) → only_token (token_if b j y blank) ≡ Some x → y ≡ x
single_token_if true j y x h = none_some x h
single_token_if false j y x h = some_same y x h

single_token_name : (c : AnnotatedForest) (x : Token) → is_single_token c ≡ true → only_token (without_trivia c) ≡ Some x → IsName x c
single_token_name blank x b h = none_some x h
single_token_name (token j y blank) x b h = subst (λ z. IsName x (token j z blank)) (sym (single_token_if (is_trivia y.kind) j y x h)) (name j)
single_token_name _ x b h = absurd (true_is_not_false (sym b))

-- a name at the beginning of an entry has the range of its node
name_here : (t : Tree) (e s : ℕ) (x : Token) (d f : AnnotatedForest) → (item t e).kind ≡ NODE_PAT_ENTRY
    → IsRowIn t (e + 1) s (Some e) (forget (branch NODE_IDENT d f)) → ArePlaced s (tokens_in d)
    → IsName x d → IsEntryName t e (extent_in (x ∷ [])) x.text
name_here t e s x _ f k h a (name j) =
    let n : ℕ = e + 1 in
    let first : item t n ≡ _ = row_first t n s (Some e) (forget (branch NODE_IDENT (token j x blank) f)) h (omega arith) in
    let size : length (x.text ++ []) ≡ length x.text = ap length (append-nil x.text) in
    let start : x.start ≡ (item t n).start = a.0 ∙ sym (ap (λ (i : Item). i.start) first) in
    let end : x.end ≡ (item t n).end = a.1 ∙ ap (λ z. s + z) (sym size) ∙ sym (ap (λ (i : Item). i.end) first) in
    record {
      entry_is = k;
      node = record { is_there = omega (arith, h.there); is_node = ap (λ (i : Item). i.is_node) first };
      parent = ap (λ (i : Item). i.parent) first;
      node_is = ap (λ (i : Item). i.kind) first;
      range_is = ap (λ z. between z x.end) start ∙ ap (λ z. between (item t n).start z) end;
      name_is = sym (append-nil x.text) ∙ sym (row_text t n s (Some e) NODE_IDENT (forget (token j x blank)) (forget f) h);
    }

-- the name with which the children of an entry begin has the range of its node
pub row_name : (t : Tree) (e s : ℕ) (c : AnnotatedForest) (x : Token) → (item t e).kind ≡ NODE_PAT_ENTRY → IsRowIn t (e + 1) s (Some e) (forget c)
    → ArePlaced s (tokens_in c)
    → AreNamesSingleTokens c → begins_with_node c ≡ true → entry_name (without_trivia c) ≡ Some x → IsEntryName t e (extent_in (x ∷ [])) x.text
row_name t e s (branch j d f) x k h a r b g =
    let w = name_node j (without_trivia d) (without_trivia f) x g in
    name_here t e s x d f k (subst (λ z. IsRowIn t (e + 1) s (Some e) (node z (forget d) (forget f))) w.0 h) (placed_first s (tokens_in d) (tokens_in f) a)
    (single_token_name d x (r.0.0 w.0) w.1)
row_name t e s _ x k h a r b g = absurd (true_is_not_false (sym b))
