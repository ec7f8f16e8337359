-- The stored elements of a context with another node in it.
use Rattle.std.proofs.Common.{◌≡◌, ℕ, suc, ◌+◌, ◌-◌, ◌≤◌, ◌<◌, List, [], ◌∷◌, ◌++◌, length, map, Option, Some, refl, ap, sym, ◌∙◌, arith}
use Rattle.std.proofs.{Common.{append_assoc, length-append}, lemmas.List.{map-append, length-map}}
use Rattle.{std.specs.Prelude.if◌then◌else◌, rnix_kinds.specs.declared.kinds.SyntaxKind.SyntaxKind}
use Rattle.rnix_green.specs.declared.packed.{Packed.{Packed}, Shift.{Shift}}
use Rattle.rnix_green.specs.Forest.{Forest, empty, leaf, node, text_of, element_count}
use Rattle.rnix_green.specs.Tree.{items_from}
use Rattle.rnix_green.specs.Packed.{limit, word_of, packed, size_in}
use Rattle.rnix_green.specs.Kept.{parent_or_root, kept_of, kept_from}
use Rattle.rnix_green.specs.Context.{Context, here, behind_leaf, behind_node, inside, filled, text_before, elements_before}
use Rattle.rnix_green.specs.SplicedElements.{with_size, resized_at, resized, shifted_number, shifted}
use Rattle.rnix_green.proofs.NumberTests.{is_below, is_not_below}
use Rattle.rnix_green.proofs.PackedLemmas.{packed_again}
use Rattle.rnix_green.proofs.PieceLemmas.{length-items_from}
use Rattle.rnix_green.proofs.ContextLemmas.{parent_around, count_filled, length_filled, count_around}

-- the stored elements of a node, of those inside it, and of the trees after it
pub kept_node : (n s : ℕ) (p : Option ℕ) (k : SyntaxKind) (c f : Forest) →
    kept_from n s p (node k c f)
    ≡ packed k s (parent_or_root p) (suc (element_count c))
    ∷ (kept_from (n + 1) s (Some n) c ++ kept_from (n + 1 + element_count c) (s + length (text_of c)) p f)
kept_node n s p k c f =
    ap (λ z. packed k s (parent_or_root p) (suc (element_count c)) ∷ z)
    (map-append kept_of (items_from (n + 1) s (Some n) c) (items_from (n + 1 + element_count c) (s + length (text_of c)) p f))

-- as many elements are stored as there are
pub length-kept_from : (n s : ℕ) (p : Option ℕ) (f : Forest) → length (kept_from n s p f) ≡ element_count f
length-kept_from n s p f = length-map (items_from n s p f) kept_of ∙ length-items_from n s p f

-- the stored elements before the node of a context, in a forest whose first element has the number `i`, the start `s` and the parent `p`
abbrev pub kept_before : ℕ → ℕ → Option ℕ → Context → SyntaxKind → Forest → List Packed
kept_before i s p (here f) k c = []
kept_before i s p (behind_leaf j t x) k c = packed j s (parent_or_root p) 0 ∷ kept_before (i + 1) (s + length t) p x k c
kept_before i s p (behind_node j d x) k c =
    packed j s (parent_or_root p) (suc (element_count d))
    ∷ (kept_from (i + 1) s (Some i) d ++ kept_before (i + 1 + element_count d) (s + length (text_of d)) p x k c)
kept_before i s p (inside j x f) k c = packed j s (parent_or_root p) (suc (element_count (filled x k c))) ∷ kept_before (i + 1) s (Some i) x k c

-- the stored elements after the node
abbrev pub kept_behind : ℕ → ℕ → Option ℕ → Context → SyntaxKind → Forest → List Packed
kept_behind i s p (here f) k c = kept_from (i + 1 + element_count c) (s + length (text_of c)) p f
kept_behind i s p (behind_leaf j t x) k c = kept_behind (i + 1) (s + length t) p x k c
kept_behind i s p (behind_node j d x) k c = kept_behind (i + 1 + element_count d) (s + length (text_of d)) p x k c
kept_behind i s p (inside j x f) k c =
    kept_behind (i + 1) s (Some i) x k c
    ++ kept_from (i + 1 + element_count (filled x k c)) (s + length (text_of (filled x k c))) p f

-- there are as many as elements before the node
pub length-kept_before : (i s : ℕ) (p : Option ℕ) (x : Context) (k : SyntaxKind) (c : Forest) → length (kept_before i s p x k c) ≡ elements_before x
length-kept_before i s p (here f) k c = refl
length-kept_before i s p (behind_leaf j t x) k c = ap suc (length-kept_before (i + 1) (s + length t) p x k c)
length-kept_before i s p (behind_node j d x) k c =
    omega (
      arith,
      length-append (kept_from (i + 1) s (Some i) d) (kept_before (i + 1 + element_count d) (s + length (text_of d)) p x k c),
      length-kept_from (i + 1) s (Some i) d,
      length-kept_before (i + 1 + element_count d) (s + length (text_of d)) p x k c,
    )
length-kept_before i s p (inside j x f) k c = ap suc (length-kept_before (i + 1) s (Some i) x k c)

-- the stored elements of a context with a node are those before the node, the node's, and those after it
pub kept_filled : (i s : ℕ) (p : Option ℕ) (x : Context) (k : SyntaxKind) (c : Forest) (n o : ℕ) → n ≡ i + elements_before x → o ≡ s + length (text_before x)
    → kept_from i s p (filled x k c)
    ≡ kept_before i s p x k c
    ++ (packed k o (parent_or_root (parent_around i p x)) (suc (element_count c)) ∷ (kept_from (n + 1) o (Some n) c ++ kept_behind i s p x k c))
kept_filled i s p (here f) k c n o e g =
    let number : i ≡ n = omega arith in
    let start : s ≡ o = omega arith in
    kept_node i s p k c f
    ∙ (λ q. packed k (start q) (parent_or_root p) (suc (element_count c))
    ∷ (kept_from (number q + 1) (start q) (Some (number q)) c ++ kept_from (i + 1 + element_count c) (s + length (text_of c)) p f))
kept_filled i s p (behind_leaf j t x) k c n o e g =
    ap (λ z. packed j s (parent_or_root p) 0 ∷ z)
    (kept_filled (i + 1) (s + length t) p x k c n o (omega arith) (omega (arith, length-append t (text_before x))))
kept_filled i s p (behind_node j d x) k c n o e g =
    let own = kept_from (i + 1) s (Some i) d in
    let first = packed j s (parent_or_root p) (suc (element_count d)) in
    kept_node i s p j d (filled x k c)
    ∙ ap (λ z. first ∷ (own ++ z))
    (kept_filled (i + 1 + element_count d) (s + length (text_of d)) p x k c n o (omega arith) (omega (arith, length-append (text_of d) (text_before x))))
    ∙ ap (λ z. first ∷ z) (sym (append_assoc own _ _))
kept_filled i s p (inside j x f) k c n o e g =
    let first = packed j s (parent_or_root p) (suc (element_count (filled x k c))) in
    let before = kept_before (i + 1) s (Some i) x k c in
    let it = packed k o (parent_or_root (parent_around (i + 1) (Some i) x)) (suc (element_count c)) in
    let own = kept_from (n + 1) o (Some n) c in
    let behind = kept_behind (i + 1) s (Some i) x k c in
    let after = kept_from (i + 1 + element_count (filled x k c)) (s + length (text_of (filled x k c))) p f in
    kept_node i s p j (filled x k c) f
    ∙ ap (λ z. first ∷ (z ++ after)) (kept_filled (i + 1) s (Some i) x k c n o (omega arith) g)
    ∙ ap (λ z. first ∷ z) (append_assoc before (it ∷ (own ++ behind)) after)
    ∙ ap (λ z. first ∷ (before ++ (it ∷ z))) (append_assoc own behind after)

-- a parent before the shift keeps its number
pub stays_number : (w : Shift) (p : ℕ) → p < w.number → shifted_number w p ≡ p
stays_number w p l = ap (λ b. if b then p else p + w.new_number - w.number) (is_below p w.number l)

-- a parent after it moves with the elements
pub moves_number : (w : Shift) (n m : ℕ) → w.number ≤ n → m + w.number ≡ n + w.new_number → shifted_number w n ≡ m
moves_number w n m l e =
    let moved : n + w.new_number - w.number ≡ m = omega arith in
    ap (λ b. if b then n else n + w.new_number - w.number) (is_not_below n w.number l) ∙ moved

-- a shifted element
shifted_one : (w : Shift) (k : SyntaxKind) (s o p q z : ℕ) → w.start ≤ s → o + w.start ≡ s + w.new_start → shifted_number w p ≡ q → s < limit → p < limit
    → z < limit
    → shifted w (packed k s p z) ≡ packed k o q z
shifted_one w k s o p q z l e g ls lp lz =
    let start : word_of s + w.new_start - w.start ≡ o = omega (arith, packed_again s ls) in
    let parent : shifted_number w (word_of p) ≡ q = ap (shifted_number w) (packed_again p lp) ∙ g in
    let size : word_of z ≡ z = packed_again z lz in
    λ i. packed k (start i) (parent i) (size i)

-- a shifted forest
pub shifted_forest : (w : Shift) (n m s o : ℕ) (p q : Option ℕ) (f : Forest) → w.number ≤ n → m + w.number ≡ n + w.new_number → w.start ≤ s
    → o + w.start ≡ s + w.new_start
    → shifted_number w (parent_or_root p) ≡ parent_or_root q
    → parent_or_root p < limit
    → n + element_count f < limit
    → s + length (text_of f) < limit
    → map (shifted w) (kept_from n s p f) ≡ kept_from m o q f
shifted_forest w n m s o p q empty ln en ls es e lp few short = refl
shifted_forest w n m s o p q (leaf k t f) ln en ls es e lp few short =
    let size = length-append t (text_of f) in
    let one = shifted_one w k s o (parent_or_root p) (parent_or_root q) 0 ls es e (omega (arith, size)) lp (omega arith) in
    let more =
    shifted_forest w (n + 1) (m + 1) (s + length t) (o + length t) p q f (omega arith) (omega arith) (omega arith) (omega arith) e lp (omega arith)
    (omega (arith, size)) in
    λ i. one i ∷ more i
shifted_forest w n m s o p q (node k c f) ln en ls es e lp few short =
    let size = length-append (text_of c) (text_of f) in
    let one =
    shifted_one w k s o (parent_or_root p) (parent_or_root q) (suc (element_count c)) ls es e (omega (arith, size)) lp (omega arith) in
    let own =
    shifted_forest w (n + 1) (m + 1) s o (Some n) (Some m) c (omega arith) (omega arith) ls es (moves_number w n m ln en) (omega arith) (omega arith)
    (omega (arith, size)) in
    let more =
    shifted_forest w (n + 1 + element_count c) (m + 1 + element_count c) (s + length (text_of c)) (o + length (text_of c)) p q f (omega arith) (omega arith)
    (omega arith) (omega arith) e lp (omega arith) (omega (arith, size)) in
    ap (map (shifted w)) (kept_node n s p k c f)
    ∙ ap (λ z. shifted w (packed k s (parent_or_root p) (suc (element_count c))) ∷ z)
    (map-append (shifted w) (kept_from (n + 1) s (Some n) c) (kept_from (n + 1 + element_count c) (s + length (text_of c)) p f))
    ∙ (λ i. one i ∷ (own i ++ more i))
    ∙ sym (kept_node m o q k c f)

-- the elements after a node with another size and text are shifted
pub shifted_behind : (w : Shift) (i s : ℕ) (p : Option ℕ) (x : Context) (k j : SyntaxKind) (c d : Forest) →
    w.number ≡ i + elements_before x + suc (element_count c) → w.new_number ≡ i + elements_before x + suc (element_count d) →
    w.start ≡ s + length (text_before x) + length (text_of c) → w.new_start ≡ s + length (text_before x) + length (text_of d) →
    parent_or_root p < w.number → i + element_count (filled x k c) < limit → s + length (text_of (filled x k c)) < limit →
    map (shifted w) (kept_behind i s p x k c) ≡ kept_behind i s p x j d
shifted_behind w i s p (here f) k j c d en em es eo lp few short =
    shifted_forest w (i + 1 + element_count c) (i + 1 + element_count d) (s + length (text_of c)) (s + length (text_of d)) p p f (omega arith) (omega arith)
    (omega arith) (omega arith) (stays_number w (parent_or_root p) lp) (omega arith) (omega arith) (omega (arith, length-append (text_of c) (text_of f)))
shifted_behind w i s p (behind_leaf a t x) k j c d en em es eo lp few short =
    let before = length-append t (text_before x) in
    shifted_behind w (i + 1) (s + length t) p x k j c d (omega arith) (omega arith) (omega (arith, before)) (omega (arith, before)) lp (omega arith)
    (omega (arith, length-append t (text_of (filled x k c))))
shifted_behind w i s p (behind_node a b x) k j c d en em es eo lp few short =
    let before = length-append (text_of b) (text_before x) in
    shifted_behind w (i + 1 + element_count b) (s + length (text_of b)) p x k j c d (omega arith) (omega arith) (omega (arith, before))
    (omega (arith, before)) lp (omega arith) (omega (arith, length-append (text_of b) (text_of (filled x k c))))
shifted_behind w i s p (inside a x f) k j c d en em es eo lp few short =
    let size = length-append (text_of (filled x k c)) (text_of f) in
    let many = count_around x k c in
    let own =
    shifted_behind w (i + 1) s (Some i) x k j c d (omega arith) (omega arith) es eo (omega arith) (omega arith) (omega (arith, size)) in
    let more =
    shifted_forest w (i + 1 + element_count (filled x k c)) (i + 1 + element_count (filled x j d)) (s + length (text_of (filled x k c)))
    (s + length (text_of (filled x j d))) p p f (omega (arith, many)) (omega (arith, count_filled x k j c d)) (omega (arith, length_filled x k c))
    (omega (arith, length_filled x k c, length_filled x j d)) (stays_number w (parent_or_root p) lp) (omega (arith, many)) (omega arith)
    (omega (arith, size)) in
    map-append (shifted w) (kept_behind (i + 1) s (Some i) x k c)
    (kept_from (i + 1 + element_count (filled x k c)) (s + length (text_of (filled x k c))) p f)
    ∙ (λ z. own z ++ more z)

-- an element that ends before the node keeps its size
stays_at : (m n old new : ℕ) (e : Packed) → m + size_in e ≤ n → resized_at m n old new e ≡ e
stays_at m n old new e l = ap (λ b. if b then with_size old new e else e) (is_not_below n (m + size_in e) l)

-- a forest before the node keeps its sizes
resized_forest : (n old new m o s : ℕ) (p : Option ℕ) (f : Forest) (rest : List Packed) → o ≡ m + element_count f → o ≤ n → element_count f < limit
    → resized m n old new (kept_from m s p f ++ rest) ≡ kept_from m s p f ++ resized o n old new rest
resized_forest n old new m o s p empty rest e l few = (let same : m ≡ o = omega arith in ap (λ z. resized z n old new rest) same)
resized_forest n old new m o s p (leaf k t f) rest e l few =
    let one = stays_at m n old new (packed k s (parent_or_root p) 0) (omega (arith, packed_again 0 (omega arith))) in
    let more = resized_forest n old new (m + 1) o (s + length t) p f rest (omega arith) l (omega arith) in
    λ i. one i ∷ more i
resized_forest n old new m o s p (node k c f) rest e l few =
    let first = packed k s (parent_or_root p) (suc (element_count c)) in
    let xs = kept_from (m + 1) s (Some m) c in
    let ys = kept_from (m + 1 + element_count c) (s + length (text_of c)) p f in
    let one = stays_at m n old new first (omega (arith, packed_again (suc (element_count c)) (omega arith))) in
    let own = resized_forest n old new (m + 1) (m + 1 + element_count c) s (Some m) c (ys ++ rest) refl (omega arith) (omega arith) in
    let more = resized_forest n old new (m + 1 + element_count c) o (s + length (text_of c)) p f rest (omega arith) l (omega arith) in
    ap (λ z. resized m n old new (z ++ rest)) (kept_node m s p k c f)
    ∙ ap (λ z. resized_at m n old new first ∷ resized (m + 1) n old new z) (append_assoc xs ys rest)
    ∙ (λ i. one i ∷ own i)
    ∙ ap (λ z. first ∷ (xs ++ z)) more
    ∙ ap (λ z. first ∷ z) (sym (append_assoc xs ys (resized o n old new rest)))
    ∙ ap (λ z. z ++ resized o n old new rest) (sym (kept_node m s p k c f))

-- a node around it has more or fewer elements
resized_one : (m n old new : ℕ) (k : SyntaxKind) (s p y z : ℕ) → n < m + y → y + new ≡ z + old → s < limit → p < limit → y < limit
    → resized_at m n old new (packed k s p y) ≡ packed k s p z
resized_one m n old new k s p y z l e ls lp ly =
    let start : word_of s ≡ s = packed_again s ls in
    let parent : word_of p ≡ p = packed_again p lp in
    let size : word_of y + new - old ≡ z = omega (arith, packed_again y ly) in
    let it = packed k s p y in
    ap (λ b. if b then with_size old new it else it) (is_below n (m + word_of y) (omega (arith, packed_again y ly)))
    ∙ (λ i. packed k (start i) (parent i) (size i))

-- the elements before a node with another size
pub resized_before : (n i s : ℕ) (p : Option ℕ) (x : Context) (k j : SyntaxKind) (c d : Forest) → n ≡ i + elements_before x → parent_or_root p < limit
    → i + element_count (filled x k c) < limit
    → s + length (text_of (filled x k c)) < limit
    → resized i n (suc (element_count c)) (suc (element_count d)) (kept_before i s p x k c) ≡ kept_before i s p x j d
resized_before n i s p (here f) k j c d e lp few short = refl
resized_before n i s p (behind_leaf a t x) k j c d e lp few short =
    let one = stays_at i n (suc (element_count c)) (suc (element_count d)) (packed a s (parent_or_root p) 0) (omega (arith, packed_again 0 (omega arith))) in
    let more =
    resized_before n (i + 1) (s + length t) p x k j c d (omega arith) lp (omega arith) (omega (arith, length-append t (text_of (filled x k c)))) in
    λ q. one q ∷ more q
resized_before n i s p (behind_node a b x) k j c d e lp few short =
    let old = suc (element_count c) in
    let new = suc (element_count d) in
    let first = packed a s (parent_or_root p) (suc (element_count b)) in
    let one = stays_at i n old new first (omega (arith, packed_again (suc (element_count b)) (omega arith))) in
    let own =
    resized_forest n old new (i + 1) (i + 1 + element_count b) s (Some i) b (kept_before (i + 1 + element_count b) (s + length (text_of b)) p x k c) refl
    (omega arith) (omega arith) in
    let more =
    resized_before n (i + 1 + element_count b) (s + length (text_of b)) p x k j c d (omega arith) lp (omega arith)
    (omega (arith, length-append (text_of b) (text_of (filled x k c)))) in
    (λ q. one q ∷ own q) ∙ ap (λ z. first ∷ (kept_from (i + 1) s (Some i) b ++ z)) more
resized_before n i s p (inside a x f) k j c d e lp few short =
    let size = length-append (text_of (filled x k c)) (text_of f) in
    let one =
    resized_one i n (suc (element_count c)) (suc (element_count d)) a s (parent_or_root p) (suc (element_count (filled x k c)))
    (suc (element_count (filled x j d))) (omega (arith, count_around x k c)) (omega (arith, count_filled x k j c d)) (omega arith) lp (omega arith) in
    let more = resized_before n (i + 1) s (Some i) x k j c d (omega arith) (omega arith) (omega arith) (omega (arith, size)) in
    λ q. one q ∷ more q
