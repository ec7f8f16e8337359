-- The bounds along a row at the end of the text, for the last child that has tokens and those before it.
use Rattle.std.proofs.Common.{◌≡◌, ◌≤◌, ◌<◌, ℕ, suc, ◌+◌, Bool, true, false, ◌&&◌, List, Some, if◌then◌else◌, nat_le, refl, ap, sym, ◌∙◌}
use Rattle.{std.proofs.lemmas.Bool.{and_from, and_parts, lt-leb}, rnix_kinds.specs.declared.kinds.SyntaxKind.{SyntaxKind, TheVariants.NODE_LITERAL}}
use Rattle.{rnix_kinds.proofs.AllKinds.implied, rnix_grammar.specs.{declared.rules.Part.TheVariants.{BoundAlready, TextEnd}, Tables.depth_limit, Rules.Row}}
use Rattle.{rnix_grammar.specs.Rules.{done, ◌·◌, row, second_name, after, run_at, counts}, rnix_proof_lemmas.proofs.Basics.true_is_not_false}
use Rattle.rnix_proof_lemmas.proofs.{RowKinds.has_row, ReachableRows.{IsKnown, is_viable, every_known}}
use Rattle.{rnix_proof_rows.proofs.RowsWithoutAttrpath.{begins_with_child, is_same, same_true}, rnix_proof_size.proofs.Bounds.{surplus, spare, excess, is_full}}
use Rattle.rnix_proof_size.proofs.NodeBounds.{at_most, is_false, both_answers, each_child, each_node, behind}

-- the second test, unless the first is true
abbrev unless : Bool → Bool → Bool
unless v w = if v then true else w

was : (v w : Bool) → unless v w ≡ true → v ≡ false → w ≡ true
was true w h e = absurd (true_is_not_false e)
was false w h e = h

-- one item with `n` nodes is within the bounds along a row, as the last one and before others
pub record Goes (w : Bool) (n : ℕ) (q r : Row) : Type 0 where
  pub none : begins_with_child r ≡ false → n + spare w r ≤ excess w q
  pub some : n + excess w r ≤ 2 + excess w q

abbrev goes : Bool → ℕ → Row → Row → Bool
goes w n q r = unless (begins_with_child r) (nat_le (n + spare w r) (excess w q)) && nat_le (n + excess w r) (2 + excess w q)

goes_so : (w : Bool) (n : ℕ) (q r : Row) → goes w n q r ≡ true → Goes w n q r
goes_so w n q r h =
    let both = and_parts (unless (begins_with_child r) (nat_le (n + spare w r) (excess w q))) (nat_le (n + excess w r) (2 + excess w q)) h in
    record { none = λ e. at_most _ _ (was (begins_with_child r) _ both.0 e); some = at_most _ _ both.1 }

-- a leaf is within the bounds
abbrev leaf_passes : Row → SyntaxKind → Bool
leaf_passes q k = goes false 0 q (after q k) && goes true 0 q (after q k)

pub leaf_goes : {i : SyntaxKind} (w : Bool) (q : Row) (k : SyntaxKind) → IsKnown i q → is_viable (after q k) ≡ true → Goes w 0 q (after q k)
leaf_goes {i} w q k n l =
    goes_so w 0 q (after q k) (both_answers (λ w. goes w 0 q (after q k))
    (implied (λ k. is_viable (after q k)) (leaf_passes q) (every_known (each_child leaf_passes) (λ i. refl) refl i q n) k l) w)

-- a run is within the bounds
abbrev run_passes : Row → Row → Bool
run_passes q r = goes false 1 q r && goes true 1 q r

pub run_goes : {i : SyntaxKind} {q r : Row} {ks : List SyntaxKind} (w : Bool) → run_at q ≡ Some (ks, r) → IsKnown i q → Goes w 1 q r
run_goes {i} {q} {r} w m n =
    goes_so w 1 q r (both_answers (λ w. goes w 1 q r)
    (sym (ap (behind (run_passes q)) m) ∙ every_known (λ i q. behind (run_passes q) (run_at q)) (λ i. refl) refl i q n) w)

-- an operand may be read, whether or not more counted ones may be
abbrev pub has_room : Bool → Bool → Bool
has_room w counted = is_false (w && counted)

-- a stray item is within the bounds
abbrev stray_passes : Bool → SyntaxKind → Row → Bool
stray_passes w i q = if is_viable (after q NODE_LITERAL) && has_room w (counts q) then goes w 1 q (after q NODE_LITERAL) else true

pub stray_goes : {i : SyntaxKind} (w : Bool) (q : Row) → IsKnown i q → is_viable (after q NODE_LITERAL) ≡ true → has_room w (counts q) ≡ true
    → Goes w 1 q (after q NODE_LITERAL)
stray_goes {i} w q n l h =
    goes_so w 1 q (after q NODE_LITERAL) (sym (ap (λ z. if z then goes w 1 q (after q NODE_LITERAL) else true) (and_from _ _ l h))
    ∙ both_answers (λ w. stray_passes w i q) (every_known (λ i q. stray_passes false i q && stray_passes true i q) (λ i. refl) refl i q n) w)

-- what is nested too deep is within the bounds
abbrev deep_passes : SyntaxKind → Row → Bool
deep_passes i q = if counts q then nat_le (suc (spare true (after q NODE_LITERAL))) (excess true q) else true

pub deep_goes : {i : SyntaxKind} (q : Row) → IsKnown i q → counts q ≡ true → suc (spare true (after q NODE_LITERAL)) ≤ excess true q
deep_goes {i} q n c =
    at_most _ _ (sym (ap (λ w. if w then nat_le (suc (spare true (after q NODE_LITERAL))) (excess true q) else true) c)
    ∙ every_known deep_passes (λ i. refl) refl i q n)

-- items after the root's expression, and a second name, are within the bounds
pub extra_goes : (w : Bool) → Goes w 1 (TextEnd · done) (TextEnd · done)
extra_goes true = goes_so true 1 (TextEnd · done) (TextEnd · done) refl
extra_goes false = goes_so false 1 (TextEnd · done) (TextEnd · done) refl

pub second_goes : (w : Bool) → suc (excess w second_name) ≤ excess w (BoundAlready · done)
second_goes true = at_most _ _ refl
second_goes false = at_most _ _ refl

-- a counted node allows counted operands inside it; any other node does exactly if they are allowed beside it
abbrev pub fits_inside : Bool → Bool → Bool → Bool
fits_inside true v w = is_false w
fits_inside false v w = is_same v w

-- a node is within the bounds along a row, as the last one and before others
pub record NodeGoes (v w : Bool) (q : Row) (k : SyntaxKind) : Type 0 where
  pub none : begins_with_child (after q k) ≡ false → suc (excess v (row k) + spare w (after q k)) ≤ excess w q
  pub some : suc (excess w (after q k)) ≤ excess w q + surplus (row k)

abbrev last_passes : Bool → Bool → Row → SyntaxKind → Bool
last_passes v w q k = unless (begins_with_child (after q k)) (nat_le (suc (excess v (row k) + spare w (after q k))) (excess w q))

abbrev node_passes : Bool → Bool → Row → SyntaxKind → Bool
node_passes v w q k =
    if fits_inside (counts q) v w then last_passes v w q k && nat_le (suc (excess w (after q k))) (excess w q + surplus (row k)) else true

abbrev node_passes_all : Row → SyntaxKind → Bool
node_passes_all q k = (node_passes false false q k && node_passes false true q k) && (node_passes true false q k && node_passes true true q k)

pub node_goes : {i : SyntaxKind} (v w : Bool) (q : Row) (k : SyntaxKind) → IsKnown i q → is_viable (after q k) ≡ true → has_row k ≡ true
    → fits_inside (counts q) v w ≡ true → NodeGoes v w q k
node_goes {i} v w q k n l h s =
    let all : node_passes v w q k ≡ true =
    both_answers (λ w. node_passes v w q k) (both_answers (λ v. node_passes v false q k && node_passes v true q k)
    (implied (λ k. is_viable (after q k) && has_row k) (node_passes_all q)
    (every_known (each_node node_passes_all) (λ i. refl) refl i q n) k (and_from _ _ l h)) v)
    w in
    let both = and_parts (last_passes v w q k) (nat_le (suc (excess w (after q k))) (excess w q + surplus (row k)))
    (sym (ap (λ z. if z then last_passes v w q k && nat_le (suc (excess w (after q k))) (excess w q + surplus (row k)) else true) s) ∙ all) in
    record { none = λ e. at_most _ _ (was (begins_with_child (after q k)) _ both.0 e); some = at_most _ _ both.1 }

-- below the limit, a counted operand is allowed
open_depths : (d : ℕ) → d < depth_limit → is_full d ≡ false
open_depths d h = lt-leb depth_limit d h

pub room_inside : (counted : Bool) (d : ℕ) → (counted ≡ true → d < depth_limit)
    → fits_inside counted (is_full (if counted then suc d else d)) (is_full d) ≡ true
room_inside true d h = ap is_false (open_depths d (h refl))
room_inside false d h = same_true (is_full d) (is_full d) refl

pub room_here : (counted : Bool) (d : ℕ) → (counted ≡ true → d < depth_limit) → has_room (is_full d) counted ≡ true
room_here true d h = ap (λ w. has_room w true) (open_depths d (h refl))
room_here false d h = no_room (is_full d)
  where
    no_room : (w : Bool) → has_room w false ≡ true
    no_room true = refl
    no_room false = refl
