-- More trees, or a node around the last ones, change nothing of what the leaves before complete.
use Rattle.std.proofs.{Common.{◌≡◌, ℕ, zero, suc, ◌+◌, ◌-◌, ◌≤◌, ◌<◌, Bool, true, false, refl, ap, arith, nat_le}, lemmas.Bool.Decides.nat_tests}
use Rattle.{rnix_kinds.specs.declared.kinds.SyntaxKind.SyntaxKind, rnix_green.specs.Forest.{Forest, empty, leaf, node, join}}
use Rattle.rnix_proof_lookahead.specs.Completed.{leaf_count, node_or, completed}

-- two joined forests have the leaves of both
pub leaf_count-join : (f g : Forest) → leaf_count (join f g) ≡ leaf_count f + leaf_count g
leaf_count-join empty g = omega arith
leaf_count-join (leaf k t f) g = omega (arith, leaf_count-join f g)
leaf_count-join (node k c f) g = omega (arith, leaf_count-join f g)

-- a forest that ends with a node has the leaves before it and in it
pub node_count : (p c : Forest) (i : SyntaxKind) → leaf_count (join p (node i c empty)) ≡ leaf_count p + leaf_count c
node_count p c i = omega (arith, leaf_count-join p (node i c empty))

-- a test of order decides it
within : (a b : ℕ) → nat_le a b ≡ true → a ≤ b
within a b e = grind (arith, nat_tests, e)

beyond : (a b : ℕ) → b < a → nat_le a b ≡ false
beyond a b l = grind (arith, nat_tests, l)

-- more trees after a forest do not change what its leaves complete
pub completed_more : (k : ℕ) (f g : Forest) → k ≤ leaf_count f → completed k (join f g) ≡ completed k f
completed_more zero f g h = refl
completed_more (suc k) empty g h = absurd (omega (arith, h))
completed_more (suc k) (leaf i t f) g h = ap (leaf i t) (completed_more k f g (omega (arith, h)))
completed_more (suc k) (node i c f) g h =
    ap (λ z. node_or (nat_le (leaf_count c) (suc k)) i c z (completed (suc k) c)) (completed_more (suc k - leaf_count c) f g (omega (arith, h)))

-- what a node is when it is complete matters only if it is complete
node_same : (w : Bool) (i : SyntaxKind) (c x y z : Forest) → (w ≡ true → x ≡ y) → node_or w i c x z ≡ node_or w i c y z
node_same true i c x y z h = ap (λ v. node i c v) (h refl)
node_same false i c x y z h = refl

pub completed_node : (k : ℕ) (p r : Forest) (i : SyntaxKind) → k < leaf_count p + leaf_count r
    → completed k (join p (node i r empty)) ≡ completed k (join p r)
completed_node zero p r i h = refl
completed_node (suc k) empty r i h =
    ap (λ w. node_or w i r (completed (suc k - leaf_count r) empty) (completed (suc k) r)) (beyond (leaf_count r) (suc k) (omega (arith, h)))
completed_node (suc k) (leaf j t p) r i h = ap (leaf j t) (completed_node k p r i (omega (arith, h)))
completed_node (suc k) (node j c p) r i h =
    node_same (nat_le (leaf_count c) (suc k)) j c (completed (suc k - leaf_count c) (join p (node i r empty))) (completed (suc k - leaf_count c) (join p r))
    (completed (suc k) c) (λ e. completed_node (suc k - leaf_count c) p r i (omega (arith, within (leaf_count c) (suc k) e, h)))
