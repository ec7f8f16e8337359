-- Two trees that differ in the children of one node, without their trivia. The parts of a bracketed node.
use Rattle.std.proofs.Common.{◌≡◌, ℕ, suc, Bool, true, false, List, [], ◌∷◌, refl, ap, sym, ◌∙◌, subst, if◌then◌else◌}
use Rattle.rnix_kinds.specs.declared.kinds.SyntaxKind.{SyntaxKind}
use Rattle.rnix_kinds.specs.declared.kinds.SyntaxKind.TheVariants.{NODE_ERROR}
use Rattle.rnix_kinds.specs.SyntaxKind.{is_trivia}
use Rattle.rnix_green.specs.Forest.{Forest, empty, leaf, node, join}
use Rattle.rnix_grammar.specs.Nest.{nests}
use Rattle.rnix_grammar.specs.AnnotatedForest.{Token, AnnotatedForest, blank, token, branch, fault}
use Rattle.rnix_grammar.specs.AnnotatedForest.{◌⊕◌, one_token, tokens_in, forget, leaf_kind_as, without_trivia}
use Rattle.rnix_grammar.specs.AnnotatedForest.{token_if, HaveLeafKinds}
use Rattle.rnix_grammar.specs.Layout.{items}
use Rattle.rnix_grammar.specs.Trim.{BeginsWithItem, EndsWithItem, token_kinds}
use Rattle.rnix_proof_lemmas.proofs.LayoutLemmas.{without_trivia-⊕}
use Rattle.rnix_proof_lemmas.proofs.ReportLemmas.{without_trivia_tokens}
use Rattle.rnix_proof_rows.proofs.ReadsShapes.{AreErrorFreeRows}
use Rattle.rnix_proof_rows.proofs.ReadsFilled.{AreFilled, rows_filled}
use Rattle.rnix_proof_rows.proofs.AttachTriviaLemmas.{HasTree}
use Rattle.rnix_proof_rows.proofs.WithTriviaEdges.{AreEdged, remapped_is_trivia}
use Rattle.rnix_parser.specs.Significant.{leaf_unless, significant}
use Rattle.rnix_proof_reparse.specs.Bracketed.{IsBracketed, set, recursive_set, legacy_let, list, paren, string}
use Rattle.rnix_proof_reparse.specs.LevelsAround.{between}
use Rattle.rnix_proof_reparse.proofs.SwappedNodes.{Swapped, here, past_token, past_branch, past_fault, inside}
use Rattle.rnix_proof_reparse.proofs.ReplacedReadings.{levels}
use Rattle.rnix_proof_reparse.proofs.BracketedNodes.{bracketed}
use Rattle.rnix_proof_reparse.proofs.PlacedAgain.{StartsWithItem, StopsWithItem, HaveItemEdges}
use Rattle.rnix_proof_reparse.proofs.SwappedEdges.{AreSome, some_first}
use Rattle.rnix_proof_reparse.proofs.FoundNodes.{kinds_of_nodes, parts_of_leaves, no_leaf, no_empty, no_end, no_node}

-- such trees with the same token before them, which may be trivia
abbrev swapped_if : {k : SyntaxKind} {c e f g : AnnotatedForest} (j : SyntaxKind) (t : Token) (w : Bool) → Swapped k c e f g
    → Swapped k c e (token_if w j t f) (token_if w j t g)
swapped_if j t true s = s
swapped_if j t false s = past_token s

levels_if : {k : SyntaxKind} {c e f g : AnnotatedForest} (p j : SyntaxKind) (t : Token) (w : Bool) (s : Swapped k c e f g)
    → levels p (swapped_if j t w s) ≡ levels p s
levels_if p j t true s = refl
levels_if p j t false s = refl

-- such trees without their trivia
abbrev pub bare_swapped : {k : SyntaxKind} {c e f g : AnnotatedForest} → Swapped k c e f g
    → Swapped k (without_trivia c) (without_trivia e) (without_trivia f) (without_trivia g)
bare_swapped here = here
bare_swapped (past_token {j = j} {t = t} s) = swapped_if j t (is_trivia t.kind) (bare_swapped s)
bare_swapped (past_branch s) = past_branch (bare_swapped s)
bare_swapped (past_fault s) = past_fault (bare_swapped s)
bare_swapped (inside s) = inside (bare_swapped s)

pub bare_levels : {k : SyntaxKind} {c e f g : AnnotatedForest} (p : SyntaxKind) (s : Swapped k c e f g) → levels p (bare_swapped s) ≡ levels p s
bare_levels p here = refl
bare_levels p (past_token {j = j} {t = t} s) = levels_if p j t (is_trivia t.kind) (bare_swapped s) ∙ bare_levels p s
bare_levels p (past_branch s) = bare_levels p s
bare_levels p (past_fault s) = bare_levels p s
bare_levels p (inside {j = j} s) = ap (λ z. if nests p j then suc z else z) (bare_levels j s)

-- brackets are no trivia, and their leaves have their own kinds
pub bracket_kinds : {k l r : SyntaxKind} → IsBracketed k l r → (is_trivia l ≡ false) × (is_trivia r ≡ false)
bracket_kinds set = (refl, refl)
bracket_kinds recursive_set = (refl, refl)
bracket_kinds legacy_let = (refl, refl)
bracket_kinds list = (refl, refl)
bracket_kinds paren = (refl, refl)
bracket_kinds string = (refl, refl)

pub kind_alone : {k l r : SyntaxKind} → IsBracketed k l r → (j : SyntaxKind) → leaf_kind_as k j ≡ j
kind_alone set j = refl
kind_alone recursive_set j = refl
kind_alone legacy_let j = refl
kind_alone list j = refl
kind_alone paren j = refl
kind_alone string j = refl

-- the children of a bracketed node without trivia are its brackets and what is between them, without trivia
pub bare_bracketed : (l r : SyntaxKind) (t u : Token) (x : AnnotatedForest) → is_trivia t.kind ≡ false → is_trivia u.kind ≡ false
    → without_trivia (bracketed l t x r u) ≡ bracketed l t (without_trivia x) r u
bare_bracketed l r t u x e h =
    ap (λ w. token_if w l t (without_trivia (x ⊕ one_token r u))) e
    ∙ ap (token l t) (without_trivia-⊕ x (one_token r u) ∙ ap (λ w. without_trivia x ⊕ token_if w r u blank) h)

-- the children of a bracketed node, as annotated: its brackets and what is between them
pub record IsBetween (l : SyntaxKind) (s : List ℕ) (d : Forest) (r : SyntaxKind) (t : List ℕ) (a : AnnotatedForest) : Type 0 where
  pub opening : Token
  pub closing : Token
  pub inner : AnnotatedForest
  pub is : a ≡ bracketed l opening inner r closing
  pub first : opening.text ≡ s
  pub last : closing.text ≡ t
  pub forest : forget inner ≡ d

record IsLast (d : Forest) (r : SyntaxKind) (t : List ℕ) (a : AnnotatedForest) : Type 0 where
  closing : Token
  inner : AnnotatedForest
  is : a ≡ inner ⊕ one_token r closing
  last : closing.text ≡ t
  forest : forget inner ≡ d

no_more : (a : AnnotatedForest) → forget a ≡ empty → a ≡ blank
no_more blank e = refl
no_more (token k t f) e = no_end (sym e)
no_more (branch k c f) e = no_empty (sym e)
no_more (fault n c f) e = no_empty (sym e)

last_parts : (d : Forest) (r : SyntaxKind) (t : List ℕ) (a : AnnotatedForest) → forget a ≡ join d (leaf r t empty) → HaveItemEdges a → IsLast d r t a
last_parts empty r t blank e h = no_end e
last_parts empty r t (branch j y g) e h = no_node e
last_parts empty r t (fault n y g) e h = absurd h
last_parts empty r t (token j x g) e h =
    let w = parts_of_leaves e in
    record { closing = x; inner = blank; is = ap (λ z. token z x g) w.0 ∙ ap (token r x) (no_more g w.2); last = w.1; forest = refl }
last_parts (leaf i s d) r t blank e h = no_end e
last_parts (leaf i s d) r t (branch j y g) e h = no_node e
last_parts (leaf i s d) r t (fault n y g) e h = absurd h
last_parts (leaf i s d) r t (token j x g) e h =
    let w = parts_of_leaves e in
    let m = last_parts d r t g w.2 h in
    record {
      closing = m.closing;
      inner = token j x m.inner;
      is = ap (token j x) m.is;
      last = m.last;
      forest = ap (λ z. leaf z x.text (forget m.inner)) w.0 ∙ ap (λ z. leaf i z (forget m.inner)) w.1 ∙ ap (leaf i s) m.forest;
    }
last_parts (node i c d) r t blank e h = no_empty e
last_parts (node i c d) r t (token j x g) e h = no_leaf e
last_parts (node i c d) r t (fault n y g) e h = absurd h
last_parts (node i c d) r t (branch j y g) e h =
    let w = kinds_of_nodes e in
    let m = last_parts d r t g w.2 h.3 in
    record {
      closing = m.closing;
      inner = branch j y m.inner;
      is = ap (branch j y) m.is;
      last = m.last;
      forest = ap (λ z. node z (forget y) (forget m.inner)) w.0 ∙ ap (λ z. node i z (forget m.inner)) w.1 ∙ ap (node i c) m.forest;
    }

pub between_parts : (l : SyntaxKind) (s : List ℕ) (d : Forest) (r : SyntaxKind) (t : List ℕ) (a : AnnotatedForest) → forget a ≡ between l s d r t
    → HaveItemEdges a → IsBetween l s d r t a
between_parts l s d r t blank e h = no_end e
between_parts l s d r t (branch j y g) e h = no_node e
between_parts l s d r t (fault n y g) e h = absurd h
between_parts l s d r t (token j x g) e h =
    let w = parts_of_leaves e in
    let m = last_parts d r t g w.2 h in
    record {
      opening = x;
      closing = m.closing;
      inner = m.inner;
      is = ap (λ z. token z x g) w.0 ∙ ap (token l x) m.is;
      first = w.1;
      last = m.last;
      forest = m.forest;
    }

-- an annotated forest is one node of the kind
pub record IsOneNode (k : SyntaxKind) (c : Forest) (a : AnnotatedForest) : Type 0 where
  pub children : AnnotatedForest
  pub is : a ≡ branch k children blank
  pub forest : forget children ≡ c

pub one_node : (k : SyntaxKind) (c : Forest) (a : AnnotatedForest) → forget a ≡ node k c empty → HaveItemEdges a → IsOneNode k c a
one_node k c blank e h = no_empty e
one_node k c (token j t g) e h = no_leaf e
one_node k c (fault n y g) e h = absurd h
one_node k c (branch j y g) e h =
    let w = kinds_of_nodes e in
    record { children = y; is = ap (λ z. branch z y g) w.0 ∙ ap (branch k y) (no_more g w.2); forest = w.1 }

-- a node that is read without errors begins and ends with items, so it has some
filled_some : (f : AnnotatedForest) → HasTree f → AreFilled f → AreSome (tokens_in f)
filled_some blank t h = absurd t
filled_some (token k x f) t h = tt
filled_some (branch k c f) t h = some_first (tokens_in c) (tokens_in f) (filled_some c h.0 h.1)
filled_some (fault n c f) t h = some_first (tokens_in c) (tokens_in f) (filled_some c h.1 h.2)

items_some : (ts : List Token) → AreSome (items ts) → AreSome ts
items_some [] h = h
items_some (t ∷ ts) h = tt

starts_with : (ts : List Token) → AreSome ts → BeginsWithItem (token_kinds ts) → StartsWithItem ts
starts_with [] a h = absurd a
starts_with (t ∷ ts) a h = h

stops_with : (ts : List Token) → EndsWithItem (token_kinds ts) → StopsWithItem ts
stops_with [] h = tt
stops_with (t ∷ []) h = h
stops_with (t ∷ (u ∷ ts)) h = stops_with (u ∷ ts) h

rows_if : (w : Bool) (k : SyntaxKind) (t : Token) (f : AnnotatedForest) → AreErrorFreeRows (token_if w k t f) → AreErrorFreeRows f
rows_if true k t f h = h
rows_if false k t f h = h

pub item_edges : (a : AnnotatedForest) → AreEdged a → AreErrorFreeRows (without_trivia a) → HaveItemEdges a
item_edges blank e h = tt
item_edges (token k t f) e h = item_edges f e (rows_if (is_trivia t.kind) k t (without_trivia f) h)
item_edges (fault n c f) e h = absurd h
item_edges (branch k c f) e h =
    let filled = rows_filled (branch k (without_trivia c) (without_trivia f)) h in
    let some : AreSome (tokens_in c) =
    items_some (tokens_in c) (subst AreSome (without_trivia_tokens c) (filled_some (without_trivia c) filled.0 filled.1)) in
    (starts_with (tokens_in c) some e.0.0, stops_with (tokens_in c) e.0.1, item_edges c e.1 h.2, item_edges f e.2 h.3)

-- the trees of a forest without trivia are its trees without trivia
forget_if : (w : Bool) (k : SyntaxKind) (t : Token) (f : AnnotatedForest) → forget (token_if w k t f) ≡ leaf_unless w k t.text (forget f)
forget_if true k t f = refl
forget_if false k t f = refl

pub bare_forest : (p : SyntaxKind) (f : AnnotatedForest) → HaveLeafKinds p f → significant (forget f) ≡ forget (without_trivia f)
bare_forest p blank h = refl
bare_forest p (token k t f) h =
    ap (λ w. leaf_unless w k t.text (significant (forget f))) (ap is_trivia h.0 ∙ remapped_is_trivia p t.kind)
    ∙ ap (leaf_unless (is_trivia t.kind) k t.text) (bare_forest p f h.1) ∙ sym (forget_if (is_trivia t.kind) k t (without_trivia f))
bare_forest p (branch k c f) h =
    ap (λ z. node k z (significant (forget f))) (bare_forest k c h.0) ∙ ap (node k (forget (without_trivia c))) (bare_forest p f h.1)
bare_forest p (fault n c f) h =
    ap (λ z. node NODE_ERROR z (significant (forget f))) (bare_forest NODE_ERROR c h.0)
    ∙ ap (node NODE_ERROR (forget (without_trivia c))) (bare_forest p f h.1)
