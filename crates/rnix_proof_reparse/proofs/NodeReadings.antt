-- The reading of a node inside a tree that is read without errors, and the reading of a text that is one node.
use Rattle.std.proofs.Common.{◌≡◌, ℕ, zero, suc, Bool, true, false, List, [], ◌∷◌, ◌++◌, map, refl, ap, sym, ◌∙◌, subst, append-nil, if◌then◌else◌}
use Rattle.rnix_kinds.specs.declared.kinds.SyntaxKind.{SyntaxKind}
use Rattle.rnix_kinds.specs.SyntaxKind.{is_trivia}
use Rattle.rnix_kinds.proofs.AllKinds.{implied}
use Rattle.rnix_grammar.specs.AnnotatedForest.{Token, lexeme_of, AnnotatedForest, blank, branch, ◌⊕◌, one_token, one_branch, tokens_in}
use Rattle.rnix_grammar.specs.FirstKinds.{BeginsAs, IsOperandOf}
use Rattle.rnix_grammar.specs.Fault.{Fault}
use Rattle.rnix_grammar.specs.Layout.{items, item_if}
use Rattle.rnix_grammar.specs.Operands.{first_tree}
use Rattle.rnix_grammar.specs.Reads.{Reads, ReadsRoot, deeper, end, leaf, inner, missing_part, wrong, second}
use Rattle.rnix_grammar.specs.Reports.{repeats}
use Rattle.rnix_grammar.specs.Rules.{Row, row, may_end, level_at}
use Rattle.rnix_proof_lemmas.proofs.AnnotatedForestLemmas.{tokens_two}
use Rattle.rnix_proof_lemmas.proofs.Basics.{not_nil, not_if, none_remaining, none_right}
use Rattle.rnix_proof_lemmas.proofs.ReachableRows.{IsKnown}
use Rattle.rnix_proof_lemmas.proofs.ViableRows.{end_viable}
use Rattle.rnix_proof_replacement.specs.Replaced.{opens_level, closes_level, one_less, are_balanced}
use Rattle.rnix_proof_reparse.specs.Bracketed.{IsBracketed, set, recursive_set, legacy_let, list, paren, string}
use Rattle.rnix_proof_reparse.proofs.SwappedNodes.{Swapped, here, past_token, past_branch, inside}
use Rattle.rnix_proof_reparse.proofs.SeenItems.{start_kind}
use Rattle.rnix_proof_reparse.proofs.CarriedReadings.{no_second}
use Rattle.rnix_proof_reparse.proofs.BracketedNodes.{bracketed, BeginsItself}
use Rattle.rnix_proof_reparse.proofs.BalancedItems.{is_within, balanced_inside}

-- the node is read without errors at some place
pub record IsNodeAt (k : SyntaxKind) (x : AnnotatedForest) : Type 0 where
  pub depth : ℕ
  pub prev : ℕ
  pub rest : Row
  pub next : List Token
  pub reads : Reads k depth prev (row k) rest blank next x []
  pub ended : may_end rest ≡ true

pub node_at : {k : SyntaxKind} {c e : AnnotatedForest} {p : SyntaxKind} {d n : ℕ} {q q' : Row} {b f g : AnnotatedForest} {us : List Token} {es : List Fault}
    → Reads p d n q q' b us f es → es ≡ [] → Swapped k c e f g → IsNodeAt k c
node_at end z s = elim s [ ]
node_at (missing_part u t o y h) z s = absurd (not_nil z)
node_at (wrong note ts x o y h) z s = absurd (not_nil z)
node_at (second {c = x} {ds = ds} {es = es} hr over h) z s = no_second ds (tokens_in x) es z
node_at (leaf x o h) z (past_token s) = node_at h z s
node_at {k} {c} {d = d} {n = n} {q = q} {b = b} {us = us} (inner {s = t} {f = f} {ds = ds} {es = es} room hr over i o op h) z here =
    record {
      depth = deeper q d;
      prev = n;
      rest = t;
      next = tokens_in f ++ us;
      reads = subst (λ (v : List Fault). Reads k (deeper q d) n (row k) t blank (tokens_in f ++ us) c v)
          (none_remaining ds (repeats k b c) (none_remaining (ds ++ repeats k b c) es z)) hr;
      ended = over.0;
    }
node_at {b = b} (inner {k = j} {c = x} {ds = ds} {es = es} room hr over i o op h) z (inside s) =
    node_at hr (none_remaining ds (repeats j b x) (none_remaining (ds ++ repeats j b x) es z)) s
node_at {b = b} (inner {k = j} {c = x} {ds = ds} {es = es} room hr over i o op h) z (past_branch s) = node_at h (none_right (ds ++ repeats j b x) es z) s

-- the node is the whole expression of a text
pub record IsAlone (k : SyntaxKind) (x : AnnotatedForest) : Type 0 where
  pub depth : ℕ
  pub rest : Row
  pub reads : Reads k depth 0 (row k) rest blank [] x []
  pub ended : may_end rest ≡ true
  pub begins : BeginsAs 0 (one_branch k x) ((tokens_in x ++ []) ++ [])

-- the node is the only one of a forest
record IsOnly (k : SyntaxKind) (x : AnnotatedForest) (q : Row) (d n : ℕ) (us : List Token) : Type 0 where
  rest : Row
  reads : Reads k (deeper q d) n (row k) rest blank us x []
  ended : may_end rest ≡ true
  operand : IsOperandOf (level_at q (one_branch k x)) (one_branch k x) us

only_node : {p k : SyntaxKind} {d n : ℕ} {q q' : Row} {b x : AnnotatedForest} {us : List Token} {es : List Fault} → Reads p d n q q' b us (branch k x blank) es
    → es ≡ [] → IsOnly k x q d n us
only_node (missing_part u t o y h) z = absurd (not_nil z)
only_node {k = k} {d = d} {n = n} {q = q} {b = b} {x = x} {us = us} (inner {s = t} {ds = ds} {es = es} room hr over i o op h) z = record {
  rest = t;
  reads = subst (λ (v : List Fault). Reads k (deeper q d) n (row k) t blank us x v) (none_remaining ds (repeats k b x) (none_remaining (ds
      ++ repeats k b x) es z)) hr;
  ended = over.0;
  operand = op;
}

pub alone : {k : SyntaxKind} {x : AnnotatedForest} {es : List Fault} → ReadsRoot (branch k x blank) es → es ≡ [] → IsAlone k x
alone h z =
    let o = only_node h z in
    record { depth = 1; rest = o.rest; reads = o.reads; ended = o.ended; begins = o.operand.1 }

-- a bracketed node is its own first tree
kind_first : {k l r : SyntaxKind} → IsBracketed k l r → (x : AnnotatedForest) → first_tree (one_branch k x) ≡ k
kind_first set x = refl
kind_first recursive_set x = refl
kind_first legacy_let x = refl
kind_first list x = refl
kind_first paren x = refl
kind_first string x = refl

pub begins_alone : {k l r : SyntaxKind} (w : IsBracketed k l r) (t u : Token) (x : AnnotatedForest) → IsAlone k (bracketed l t x r u)
    → BeginsItself k l t x r u
begins_alone {k} {l} {r} w t u x a =
    ap (λ ts. start_kind 0 (t ∷ ts)) (sym (tokens_two x (one_token r u) [])
    ∙ sym (ap (λ z. z ++ []) (append-nil (tokens_in (x ⊕ one_token r u)))))
    ∙ a.begins ∙ kind_first w (bracketed l t x r u)

-- trivia open and close nothing
trivia_opens : (k : SyntaxKind) → is_trivia k ≡ true → opens_level k ≡ false
trivia_opens k e = not_if (opens_level k) (implied is_trivia (λ k. if opens_level k then false else true) refl k e)

trivia_closes : (k : SyntaxKind) → is_trivia k ≡ true → closes_level k ≡ false
trivia_closes k e = not_if (closes_level k) (implied is_trivia (λ k. if closes_level k then false else true) refl k e)

less_same : (n : ℕ) (f g : ℕ → Bool) → ((m : ℕ) → f m ≡ g m) → one_less n f ≡ one_less n g
less_same zero f g h = refl
less_same (suc n) f g h = h n

choice_same : (a b : Bool) (n : ℕ) (f g : ℕ → Bool) → ((m : ℕ) → f m ≡ g m)
    → (if a then f (suc n) else (if b then one_less n f else f n)) ≡ (if a then g (suc n) else (if b then one_less n g else g n))
choice_same true b n f g h = h (suc n)
choice_same false true n f g h = less_same n f g h
choice_same false false n f g h = h n

items_balanced : (ts : List Token) (n : ℕ) → are_balanced (map lexeme_of ts) n ≡ are_balanced (map lexeme_of (items ts)) n
items_balanced [] n = refl
items_balanced (t ∷ ts) n = by (is_trivia t.kind) refl (items_balanced ts)
  where
    by : (w : Bool) → is_trivia t.kind ≡ w → ((m : ℕ) → are_balanced (map lexeme_of ts) m ≡ are_balanced (map lexeme_of (items ts)) m)
        → are_balanced (lexeme_of t ∷ map lexeme_of ts) n ≡ are_balanced (map lexeme_of (items (t ∷ ts))) n
    by true e ih =
        ap (λ a. if a then are_balanced (map lexeme_of ts) (suc n) else (if closes_level t.kind then one_less n (are_balanced (map lexeme_of ts))
        else are_balanced (map lexeme_of ts) n)) (trivia_opens t.kind e)
        ∙ ap (λ a. if a then one_less n (are_balanced (map lexeme_of ts)) else are_balanced (map lexeme_of ts) n) (trivia_closes t.kind e)
        ∙ ih n ∙ ap (λ a. are_balanced (map lexeme_of (item_if a t (items ts))) n) (sym e)
    by false e ih =
        choice_same (opens_level t.kind) (closes_level t.kind) n (are_balanced (map lexeme_of ts)) (are_balanced (map lexeme_of (items ts))) ih
        ∙ ap (λ a. are_balanced (map lexeme_of (item_if a t (items ts))) n) (sym e)

-- the tokens between the brackets are balanced
pub balanced_between : {k : SyntaxKind} (x : AnnotatedForest) (r : SyntaxKind) (u : Token) {d n : ℕ} {q s : Row} {b : AnnotatedForest} {us : List Token}
    → Reads k d n q s b us (x ⊕ one_token r u) [] → IsKnown k q → is_within k q ≡ true → may_end s ≡ true → (ts : List Token) → items ts ≡ tokens_in x
    → are_balanced (map lexeme_of ts) 0 ≡ true
balanced_between x r u {s = s} h known within e ts same =
    items_balanced ts 0 ∙ ap (λ z. are_balanced (map lexeme_of z) 0) same
    ∙ sym (ap (λ z. are_balanced z 0) (append-nil (map lexeme_of (tokens_in x)))) ∙ balanced_inside x r u h refl known (end_viable s e) within 0 []
