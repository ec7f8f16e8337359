-- The rest of a row, part by part: what is read there, and what may come next.
use Rattle.std.{specs.List.list_all, proofs.Common.{◌≡◌, ℕ, suc, Bool, true, false, List, [], ◌∷◌, ◌++◌, Option, Some, None, refl, ap, sym, ◌∙◌, subst, arith}}
use Rattle.{std.proofs.Common.{◌≤◌, ◌+◌, max, if◌then◌else◌, nat_eq}, rnix_kinds.specs.declared.kinds.SyntaxKind.{SyntaxKind, TheVariants.NODE_PAT_ENTRY}}
use Rattle.{rnix_kinds.proofs.AllKinds.{all_kinds, implied}, rnix_green.specs.Forest.{Forest, empty, leaf, node}, rnix_grammar.specs.AnnotatedForest.Token}
use Rattle.rnix_grammar.specs.AnnotatedForest.{AnnotatedForest, blank, ◌⊕◌, one_token, one_branch, tokens_in, head_kind, end_from, leaf_kind_as}
use Rattle.rnix_grammar.specs.{FirstKinds.IsOperandOf, PathPieces.{is_path, is_joined, ArePaths}, Yield.kind_of_token, Reports.repeats, Nest.{nest, nests}}
use Rattle.rnix_grammar.specs.{Nest.counts_no_child, Tables.depth_limit, Rules.{Row, done, ◌·◌, row, after, may_end, IsExpected, is_first_expected, level_at}}
use Rattle.{rnix_grammar.specs.{Rules.{counts, IsFollowed}, Reads.{IsRoom, deeper}}, rnix_proof_lemmas.proofs.Basics.{true_is_not_false, choice}}
use Rattle.rnix_proof_completeness.proofs.OverTokens.{Over, over_nothing, over_leaf, over_node, IsRead, token_read, node_read, stands_so, expected_so, Opens}
use Rattle.rnix_proof_completeness.proofs.OverTokens.{opened_so}
use Rattle.rnix_grammar.specs.declared.rules.Part.TheVariants as p
use Rattle.rnix_grammar.specs.Reads as read

-- how deep the children of a node nest; the name with which an entry of a pattern begins does not count
abbrev pub depth_in : SyntaxKind → Forest → ℕ
depth_in NODE_PAT_ENTRY (node k c e) = nest NODE_PAT_ENTRY e
depth_in k c = nest k c

nest_is : (p k : SyntaxKind) (c t : Forest) → nest p (node k c t) ≡ max (if nests p k then suc (depth_in k c) else depth_in k c) (nest p t)
nest_is p NODE_PAT_ENTRY (node j d e) t =
    ap (λ w. max (if w then suc (nest NODE_PAT_ENTRY e) else nest NODE_PAT_ENTRY e) (nest p t)) (sym (choice (λ w. w ≡ false) (counts_no_child p) refl refl))
nest_is p NODE_PAT_ENTRY _ t = refl
nest_is p _ c t = refl

spread : (w : Bool) (d m n o l : ℕ) → o ≡ max (if w then suc m else m) n → d + o ≤ l → (d + m ≤ l) × (d + n ≤ l) × (w ≡ true → suc d + m ≤ l)
spread true d m n o l e h = (omega (arith, e, h), omega (arith, e, h), λ x. omega (arith, e, h))
spread false d m n o l e h = (omega (arith, e, h), omega (arith, e, h), λ x. absurd (true_is_not_false (sym x)))

-- if a forest is within the limit, so are the children of its first node, which may count, and the rest
pub room : (p k : SyntaxKind) (c t : Forest) (d : ℕ) → d + nest p (node k c t) ≤ depth_limit
    → (d + depth_in k c ≤ depth_limit) × (d + nest p t ≤ depth_limit) × (nests p k ≡ true → suc d + depth_in k c ≤ depth_limit)
room p k c t d h = spread (nests p k) d (depth_in k c) (nest p t) (nest p (node k c t)) depth_limit (nest_is p k c t) h

-- a test of the next item, and what is known of the trees before
abbrev pub Follow : Type 0
Follow = Option SyntaxKind → Bool

abbrev pub Before : Type 1
Before = AnnotatedForest → Type 0

-- The rest of a row below a node of the kind is read without errors, if the trees before it and the item after it are as required.
pub record Rest (p : SyntaxKind) (q : Row) (G : Before) (F : Follow) (t : Forest) : Type 0 where
  pub reads : (d n : ℕ) (g f : AnnotatedForest) (us : List Token) → Over t f → ArePaths f us → d + nest p t ≤ depth_limit → G g → F (head_kind us) ≡ true
      → IsRead p d n q g f us

-- any trees may come before
abbrev pub Any : Before
Any g = Unit {0}

-- the row of a node of the kind is read without errors, before an item that passes the test
pub record Node (F : Follow) (k : SyntaxKind) (c : Forest) : Type 0 where
  pub reads : (d n : ℕ) (b : AnnotatedForest) (us : List Token) → Over c b → (if is_path k then is_joined b us else true) ≡ true → ArePaths b us
      → d + depth_in k c ≤ depth_limit → F (head_kind us) ≡ true → IsRead k d n (row k) blank b us

pub node_of : {G : Before} {F : Follow} {k : SyntaxKind} {c : Forest} → depth_in k c ≡ nest k c → G blank → Rest k (row k) G F c → Node F k c
node_of {F = F} {k = k} {c = c} e z r = record { reads = whole }
  where
    whole : (d n : ℕ) (b : AnnotatedForest) (us : List Token) → Over c b → (if is_path k then is_joined b us else true) ≡ true → ArePaths b us
        → d + depth_in k c ≤ depth_limit → F (head_kind us) ≡ true → IsRead k d n (row k) blank b us
    whole d n b us o j a m h = r.reads d n blank b us o a (subst (λ i. d + i ≤ depth_limit) e m) z h

pub plain_node : {F : Follow} {k : SyntaxKind} {c : Forest} → depth_in k c ≡ nest k c → Rest k (row k) Any F c → Node F k c
plain_node e r = node_of {G = Any} e tt r

-- the first item of the rest passes a test, if the item after the rest passes another
pub record Next (N F : Follow) (t : Forest) : Type 0 where
  pub next : (f : AnnotatedForest) (us : List Token) → Over t f → F (head_kind us) ≡ true → N (head_kind (tokens_in f ++ us)) ≡ true

pub next_more : {N M F : Follow} {t : Forest} → ((o : Option SyntaxKind) → N o ≡ true → M o ≡ true) → Next N F t → Next M F t
next_more h w = record { next = λ f us o z. h (head_kind (tokens_in f ++ us)) (w.next f us o z) }

pub next_leaf : {N F : Follow} {k : SyntaxKind} {s : List ℕ} {t : Forest} → N (Some (kind_of_token k s)) ≡ true → Next N F (leaf k s t)
next_leaf {N} {F} {k} {s} {t} h = record { next = first }
  where
    first : (f : AnnotatedForest) (us : List Token) → Over (leaf k s t) f → F (head_kind us) ≡ true → N (head_kind (tokens_in f ++ us)) ≡ true
    first f us (over_leaf e i o) z = ap (λ i. N (Some i)) e ∙ h

pub next_end : {N F : Follow} → ((o : Option SyntaxKind) → F o ≡ true → N o ≡ true) → Next N F empty
next_end {N} {F} h = record { next = last }
  where
    last : (f : AnnotatedForest) (us : List Token) → Over empty f → F (head_kind us) ≡ true → N (head_kind (tokens_in f ++ us)) ≡ true
    last f us over_nothing z = h (head_kind us) z

-- one test of the next item implies another, by computation over all kinds
pub follows_by : (F N : Follow) → (if F None then N None else true) ≡ true → list_all (λ i. if F (Some i) then N (Some i) else true) all_kinds ≡ true
    → (o : Option SyntaxKind) → F o ≡ true → N o ≡ true
follows_by F N h g None e = sym (ap (λ w. if w then N None else true) e) ∙ h
follows_by F N h g (Some i) e = implied (λ j. F (Some j)) (λ j. N (Some j)) g i e

-- the next item may be anything
abbrev pub anything : Follow
anything o = true

pub next_any : {F : Follow} {t : Forest} → Next anything F t
next_any = record { next = λ f us o z. refl }

-- a row ends where it may
pub finish : {p : SyntaxKind} {q : Row} {G : Before} {F : Follow} → may_end q ≡ true
    → ((n : ℕ) (us : List Token) → F (head_kind us) ≡ true → IsExpected q n us false) → Rest p q G F empty
finish {p} {q} {G} {F} e h = record { reads = last }
  where
    last : (d n : ℕ) (g f : AnnotatedForest) (us : List Token) → Over empty f → ArePaths f us → d + nest p empty ≤ depth_limit → G g → F (head_kind us) ≡ true
        → IsRead p d n q g f us
    last d n g f us over_nothing a m c z = (q, read.end, (e, h n us z))

-- a complete row ends
pub finished : {p : SyntaxKind} {G : Before} {F : Follow} → Rest p done G F empty
finished {F = F} = finish refl over
  where
    over : (n : ℕ) (us : List Token) → F (head_kind us) ≡ true → IsExpected done n us false
    over n [] z = refl
    over n (t ∷ ts) z = refl

-- a token is read, and then the rest; the row may require something of the trees before the token
pub leaf_on : {p : SyntaxKind} {q : Row} {G H : Before} {F : Follow} {k : SyntaxKind} {s : List ℕ} {t : Forest}
    → k ≡ leaf_kind_as p (kind_of_token k s) → ((b : Bool) → stands_so q b (kind_of_token k s) true ≡ true)
    → ((g : AnnotatedForest) → G g → IsFollowed q g (Some k))
    → ((g : AnnotatedForest) (x : Token) → G g → H (g ⊕ one_token k x)) → Rest p (after q k) H F t → Rest p q G F (leaf k s t)
leaf_on {p} {q} {G} {H} {F} {k} {s} {t} kind_kept own followed before r = record { reads = first }
  where
    first : (d n : ℕ) (g f : AnnotatedForest) (us : List Token) → Over (leaf k s t) f → ArePaths f us → d + nest p (leaf k s t) ≤ depth_limit → G g
        → F (head_kind us) ≡ true → IsRead p d n q g f us
    first d n g f us (over_leaf {x = x} {f = h} e i o) a m c z = token_read (kind_kept ∙ ap (λ j. leaf_kind_as p j) (sym e))
        (expected_so q n x (tokens_in h ++ us) true (ap (λ j. stands_so q (nat_eq x.start n) j true) e ∙ own (nat_eq x.start n)))
        (followed g c) (r.reads d x.end (g ⊕ one_token k x) h us o a m (before g x c) z)

pub item : {p : SyntaxKind} {q : Row} {G : Before} {F : Follow} {k : SyntaxKind} {s : List ℕ} {t : Forest}
    → k ≡ leaf_kind_as p (kind_of_token k s) → ((b : Bool) → stands_so q b (kind_of_token k s) true ≡ true) → ((g : AnnotatedForest) → IsFollowed q g (Some k))
    → Rest p (after q k) Any F t → Rest p q G F (leaf k s t)
item kind_kept own followed r = leaf_on kind_kept own (λ g c. followed g) (λ g x c. tt) r

-- what a row requires of a node at its position, before some items
abbrev pub Placed : Row → ℕ → AnnotatedForest → SyntaxKind → AnnotatedForest → List Token → Type 0
Placed q n g k b vs = IsExpected q n (tokens_in b ++ vs) (is_first_expected q k b) × IsFollowed q g (head_kind (tokens_in b ++ vs))
    × IsOperandOf (level_at q (one_branch k b)) (one_branch k b) vs × (repeats k g b ≡ [])

-- a node is read, and then the rest
pub node_on : {p : SyntaxKind} {q s : Row} {G H : Before} {N F : Follow} {k : SyntaxKind} {c t : Forest} → after q k ≡ s
    → ((d : ℕ) → d + nest p (node k c t) ≤ depth_limit → IsRoom q d × (deeper q d + depth_in k c ≤ depth_limit))
    → ((n : ℕ) (g b : AnnotatedForest) (vs : List Token) → Over c b → G g → N (head_kind vs) ≡ true → Placed q n g k b vs)
    → ((g b : AnnotatedForest) → Over c b → G g → H (g ⊕ one_branch k b)) → Node N k c → Next N F t → Rest p s H F t → Rest p q G F (node k c t)
node_on {p} {q} {s} {G} {H} {N} {F} {k} {c} {t} e fits placed before inside behind r = record { reads = first }
  where
    first : (d n : ℕ) (g f : AnnotatedForest) (us : List Token) → Over (node k c t) f → ArePaths f us → d + nest p (node k c t) ≤ depth_limit → G g
        → F (head_kind us) ≡ true → IsRead p d n q g f us
    first d n g f us (over_node {b = b} {f = h} o v) a m w z =
        let x = fits d m in
        let y : N (head_kind (tokens_in h ++ us)) ≡ true = behind.next h us v z in
        let i : Placed q n g k b (tokens_in h ++ us) = placed n g b (tokens_in h ++ us) o w y in
        node_read e x.0 (inside.reads (deeper q d) n b (tokens_in h ++ us) o a.0 a.1 x.1 y) i.0 i.1 i.2 i.3
        (r.reads d (end_from n (tokens_in b)) (g ⊕ one_branch k b) h us v a.2 (room p k c t d m).1 (before g b o w) z)

-- the rows whose first part requires no level of its tree and nothing of the tree before it
abbrev pub is_part : Row → Bool
is_part (p.Suffix kind · r) = false
is_part (p.Binary · r) = false
is_part (p.Argument · r) = false
is_part (p.Operand n counted · r) = false
is_part (p.Many n closer · r) = false
is_part r = true

-- what follows for such parts
pub part_so : (q : Row) → is_part q ≡ true → (counts q ≡ false) × ((x : AnnotatedForest) → level_at q x ≡ None) ×
    ((g : AnnotatedForest) (i : Option SyntaxKind) → IsFollowed q g i)
part_so (p.Suffix kind · r) h = absurd (true_is_not_false (sym h))
part_so (p.Binary · r) h = absurd (true_is_not_false (sym h))
part_so (p.Argument · r) h = absurd (true_is_not_false (sym h))
part_so (p.Operand n counted · r) h = absurd (true_is_not_false (sym h))
part_so (p.Many n closer · r) h = absurd (true_is_not_false (sym h))
part_so q h = (refl, λ x. refl, λ g i. tt)

-- a position that does not count is within the limit
pub uncounted : (q : Row) (d m : ℕ) → counts q ≡ false → d + m ≤ depth_limit → IsRoom q d × (deeper q d + m ≤ depth_limit)
uncounted q d m e h = (λ x. absurd (true_is_not_false (sym x ∙ e)), subst (λ w. (if w then suc d else d) + m ≤ depth_limit) (sym e) h)

-- a node of the kind is read, and begins with a token whose kind passes a test
pub record Part (N : Follow) (test : SyntaxKind → Bool) (k : SyntaxKind) (c : Forest) : Type 0 where
  pub node : Node N k c
  pub opens : (b : AnnotatedForest) (us : List Token) → Over c b → Opens test (tokens_in b ++ us)

-- such a node is read where the row expects such a token, or does not
pub part_on : {p : SyntaxKind} {q s : Row} {G : Before} {N F : Follow} {test : SyntaxKind → Bool} {k : SyntaxKind} {c t : Forest} → after q k ≡ s
    → is_part q ≡ true → ((b : Bool) (x : AnnotatedForest) → list_all
    (λ i. if test i then stands_so q b i (is_first_expected q k x) else true) all_kinds ≡ true)
    → ((g b : AnnotatedForest) → repeats k g b ≡ []) → Part N test k c → Next N F t → Rest p s Any F t → Rest p q G F (node k c t)
part_on {p} {q} {s} {G} {N} {F} {test} {k} {c} {t} e h own new child behind r = node_on e fits placed (λ g b o w. tt) child.node behind r
  where
    fits : (d : ℕ) → d + nest p (node k c t) ≤ depth_limit → IsRoom q d × (deeper q d + depth_in k c ≤ depth_limit)
    fits d m = uncounted q d (depth_in k c) (part_so q h).0 (room p k c t d m).0

    placed : (n : ℕ) (g b : AnnotatedForest) (vs : List Token) → Over c b → G g → N (head_kind vs) ≡ true → Placed q n g k b vs
    placed n g b vs o w z = (
      opened_so q n (is_first_expected q k b) test (λ x. own x b) (tokens_in b ++ vs) (child.opens b vs o),
      (part_so q h).2 g (head_kind (tokens_in b ++ vs)),
      subst (λ l. IsOperandOf l (one_branch k b) vs) (sym ((part_so q h).1 (one_branch k b))) tt,
      new g b,
    )
