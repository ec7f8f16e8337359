-- The children of each element of a tree are a row of its kind.
use Rattle.std.proofs.{Common.{◌≡◌, ℕ, ◌+◌, true, false, List, refl, ap, sym, ◌∙◌, subst, if◌then◌else◌, ◌==◌, nat_lt}, lemmas.Bool.and_parts}
use Rattle.rnix_kinds.specs.{declared.kinds.SyntaxKind.{SyntaxKind, TheVariants.{NODE_ERROR, NODE_ROOT}}, SyntaxKind.is_token, Lexical.Tokens.Lexeme}
use Rattle.{rnix_kinds.proofs.AllKinds.implied, rnix_green.specs.{Forest.{Forest, empty, leaf, node, element_count}, Tree.{Tree, forest_of, part_of}}}
use Rattle.rnix_grammar.specs.{Fault.Fault, AnnotatedForest.{AnnotatedForest, blank, token, branch, fault, forget, tokens_in, HaveLeafKinds}}
use Rattle.rnix_grammar.specs.{CompleteRows.is_row, Shape.{item_kinds, AreRows, IsShaped}, Derivation.has_tokens_alone, Parsed.IsParsed}
use Rattle.rnix_proof_lemmas.{specs.Spelled.AreSpelled, proofs.{Basics.{choice, not_if}, EntryNames.both_true, SpelledLemmas.{AreRuled, spelled_from}}}
use Rattle.rnix_proof_lemmas.proofs.{SpelledLemmas.{spelled_first, spelled_rest}, RowKinds.has_row, ViableRows.complete_has_row}
use Rattle.rnix_proof_rows.proofs.ReadsLeafKinds.{remapped_is_token, spelled_token}

-- the children of each node are a row of its kind
abbrev pub HasRows : Forest → Type 0
HasRows empty = Unit {0}
HasRows (leaf k t f) = HasRows f
HasRows (node k c f) = (is_row k (item_kinds c) ≡ true) × HasRows c × HasRows f

rows_alone : (f : Forest) → AreRows f → HasRows f
rows_alone empty h = tt
rows_alone (leaf k t f) h = rows_alone f h
rows_alone (node k c f) h = (h.0, rows_alone c h.2, rows_alone f h.3)

-- this holds in a tree whose nodes have their shapes
pub shaped_rows : (t : Tree) → IsShaped t → HasRows (forest_of t)
shaped_rows t h = (h.0, rows_alone t.children h.1, tt)

-- this holds in the part of each element
pub rows_part : (m n : ℕ) (f : Forest) → HasRows f → HasRows (part_of m n f)
rows_part m n empty h = tt
rows_part m n (leaf k t f) h = choice HasRows (m == n) tt (rows_part m (n + 1) f h)
rows_part m n (node k c f) h =
    choice HasRows (m == n) (h.0, h.1, tt) (choice HasRows (nat_lt m (n + 1 + element_count c)) (rows_part m (n + 1) c h.1)
    (rows_part m (n + 1 + element_count c) f h.2))

-- each leaf has the kind of a token
abbrev pub HasTokens : Forest → Type 0
HasTokens f = has_tokens_alone f ≡ true

-- this holds in the part of each element
pub tokens_part : (m n : ℕ) (f : Forest) → HasTokens f → HasTokens (part_of m n f)
tokens_part m n empty h = refl
tokens_part m n (leaf k t f) h =
    let both = and_parts (is_token k) (has_tokens_alone f) h in
    choice HasTokens (m == n) (both_true (is_token k) true both.0 refl) (tokens_part m (n + 1) f both.1)
tokens_part m n (node k c f) h =
    let both = and_parts (has_tokens_alone c) (has_tokens_alone f) h in
    choice HasTokens (m == n) (both_true (has_tokens_alone c) true both.0 refl)
    (choice HasTokens (nat_lt m (n + 1 + element_count c)) (tokens_part m (n + 1) c both.0) (tokens_part m (n + 1 + element_count c) f both.1))

-- this holds in each forest that is read
forgotten_tokens : (p : SyntaxKind) (f : AnnotatedForest) → HaveLeafKinds p f → AreSpelled (tokens_in f) → HasTokens (forget f)
forgotten_tokens p blank t h = refl
forgotten_tokens p (token k x f) t h =
    both_true (is_token k) (has_tokens_alone (forget f)) (ap is_token t.0 ∙ remapped_is_token p x.kind (spelled_token x.kind x.text h.0))
    (forgotten_tokens p f t.1 h.1)
forgotten_tokens p (branch k c f) t h =
    both_true (has_tokens_alone (forget c)) (has_tokens_alone (forget f)) (forgotten_tokens k c t.0 (spelled_first (tokens_in c) (tokens_in f) h))
    (forgotten_tokens p f t.1 (spelled_rest (tokens_in c) (tokens_in f) h))
forgotten_tokens p (fault n c f) t h =
    both_true (has_tokens_alone (forget c)) (has_tokens_alone (forget f)) (forgotten_tokens NODE_ERROR c t.0 (spelled_first (tokens_in c) (tokens_in f) h))
    (forgotten_tokens p f t.1 (spelled_rest (tokens_in c) (tokens_in f) h))

-- this holds in a tree that was read from the tokens of a text
pub parsed_tokens : (tokens : List Lexeme) (tree : Tree) (faults : List Fault) → AreRuled tokens → IsParsed tokens tree faults → HasTokens (forest_of tree)
parsed_tokens tokens tree faults ruled h =
    ap (λ (t : Tree). has_tokens_alone (forest_of t)) h.reading.tree_is
    ∙ both_true (has_tokens_alone (forget h.reading.annotated)) true
    (forgotten_tokens NODE_ROOT h.reading.annotated h.leaf_kind (subst AreSpelled (sym h.reading.leaves) (spelled_from 0 tokens ruled))) refl

-- a kind that has rows is that of a node
pub row_of_node : (k : SyntaxKind) (ks : List SyntaxKind) → is_row k ks ≡ true → is_token k ≡ false
row_of_node k ks h = not_if (is_token k) (implied has_row (λ k. if is_token k then false else true) refl k (complete_has_row k ks h))
