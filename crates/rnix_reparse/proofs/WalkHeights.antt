-- The greatest depth that a walk over a forest reaches is the forest's height.
use Rattle.std.proofs.Common.{◌≡◌, ℕ, ◌+◌, ◌-◌, ◌≤◌, suc, max, List, [], ◌∷◌, ◌++◌, map, false, ap, sym, ◌∙◌, arith, append_assoc, append-nil, if◌then◌else◌}
use Rattle.std.proofs.lemmas.List.{map-append}
use Rattle.rnix_green.specs.Forest.{Forest, empty, leaf, node, element_count}
use Rattle.rnix_green.specs.Tree.{Tree, Located, part_at}
use Rattle.rnix_green.specs.Walk.{Event, steps_from, event_at, preorder_of}
use Rattle.rnix_reparse.specs.TreeHeight.{height}

-- the greatest depth that events reach from a depth on, and at least the given one
abbrev pub highest : ℕ → ℕ → List Event → ℕ
highest d m [] = m
highest d m (event ∷ events) = if event.0 then highest (d + 1) (max m (d + 1)) events else highest (d - 1) m events

-- the greatest depth over an element with none inside it
leaf_height : (d m h : ℕ) → d ≤ m → max (max m (d + 1)) (d + h) ≡ max m (d + max 1 h)
leaf_height d m h l = omega arith

-- the greatest depth over an element with others inside it
node_height : (d m c h : ℕ) → d ≤ m → max (max (max m (d + 1)) (d + 1 + c)) (d + h) ≡ max m (d + max (suc c) h)
node_height d m c h l = omega arith

-- the greatest depth over a forest
walk_height : (t : Tree) (n : ℕ) (f : Forest) (d m : ℕ) (more : List Event) → d ≤ m
    → highest d m (map (event_at t) (steps_from n f) ++ more) ≡ highest d (max m (d + height f)) more
walk_height t n empty d m more l = (let same : m ≡ max m (d + 0) = omega arith in ap (λ x. highest d x more) same)
walk_height t n (leaf k u f) d m more l =
    let back : d + 1 - 1 ≡ d = omega arith in
    let rest = map (event_at t) (steps_from (n + 1) f) ++ more in
    ap (λ x. highest x (max m (d + 1)) rest) back
    ∙ walk_height t (n + 1) f d (max m (d + 1)) more (omega arith)
    ∙ ap (λ x. highest d x more) (leaf_height d m (height f) l)
walk_height t n (node k c f) d m more l =
    let back : d + 1 - 1 ≡ d = omega arith in
    let inner = map (event_at t) (steps_from (n + 1) c) in
    let outer = map (event_at t) (steps_from (n + 1 + element_count c) f) in
    let top = max m (d + 1) in
    ap (λ x. highest (d + 1) top (x ++ more)) (map-append (event_at t) (steps_from (n + 1) c) ((false, n) ∷ steps_from (n + 1 + element_count c) f))
    ∙ ap (highest (d + 1) top) (append_assoc inner (event_at t (false, n) ∷ outer) more)
    ∙ walk_height t (n + 1) c (d + 1) top (event_at t (false, n) ∷ (outer ++ more)) (omega arith)
    ∙ ap (λ x. highest x (max top (d + 1 + height c)) (outer ++ more)) back
    ∙ walk_height t (n + 1 + element_count c) f d (max top (d + 1 + height c)) more (omega arith)
    ∙ ap (λ x. highest d x more) (node_height d m (height c) (height f) l)

-- the greatest depth over an element
pub preorder_height : (e : Located) → highest 0 0 (preorder_of e) ≡ height (part_at e)
preorder_height e =
    let events = map (event_at e.tree) (steps_from e.number (part_at e)) in
    let same : max 0 (0 + height (part_at e)) ≡ height (part_at e) = omega arith in
    ap (highest 0 0) (sym (append-nil events)) ∙ walk_height e.tree e.number (part_at e) 0 0 [] (omega arith) ∙ same
