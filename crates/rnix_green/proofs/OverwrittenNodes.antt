-- A node that replaces one with as many elements, in terms of stored elements.
use Rattle.std.proofs.Common.{◌≡◌, ℕ, suc, ◌+◌, ◌-◌, ◌≤◌, ◌<◌, nat_lt, Bool, true, false, List, [], ◌∷◌, ◌++◌, length, map, take, drop, get_or, refl, ap, sym}
use Rattle.std.proofs.{Common.{◌∙◌, arith, append_assoc, length-append, add-one}, Math.Nat.mod-mod, Math.Seq.{drop-cons, paste}, Math.ListN.set}
use Rattle.std.proofs.lemmas.List.{take_at, drop_at, take_all, drop_all, take-map, drop-map, take_more_set, drop-set-lt, append-nil, length-take-le, length-map}
use Rattle.std.proofs.lemmas.List.{get_or-map, Edits.{paste_more, paste_all}}
use Rattle.std.specs.Prelude.{if◌then◌else◌, ◌^◌}
use Rattle.rnix_kinds.specs.declared.kinds.SyntaxKind.{SyntaxKind}
use Rattle.rnix_green.specs.declared.packed.{Packed.{Packed}, Shift.{Shift}}
use Rattle.rnix_green.specs.Tree.{Item}
use Rattle.rnix_green.specs.Packed.{word_of, packed, size_in}
use Rattle.rnix_green.specs.Kept.{parent_or_root, size_of, kept_of}
use Rattle.rnix_green.specs.SplicedElements.{with_size, resized_at, resized, shifted_number, shifted, shift_inside, shift_behind, spliced, AreStored, restarted}

-- a stored number is stored again as it is
word_again : (n : ℕ) → word_of (word_of n) ≡ word_of n
word_again n = mod-mod n (2 ^ 32)

-- a choice between two equal values is that value
either_way : {A : Type 0} (b : Bool) (x y z : A) → x ≡ z → y ≡ z → (if b then x else y) ≡ z
either_way true x y z h k = h
either_way false x y z h k = k

-- with as many elements inside, an element keeps its size
same_size : (m n c : ℕ) (i : Item) → resized_at m n c c (kept_of i) ≡ kept_of i
same_size m n c i =
    let e = kept_of i in
    let count : word_of (size_of i) + c - c ≡ word_of (size_of i) = omega arith in
    let size : word_of (word_of (size_of i) + c - c) ≡ word_of (size_of i) = ap word_of count ∙ word_again (size_of i) in
    let same : with_size c c e ≡ e =
    λ q. record { len_or_start = word_again i.start q; parent = word_again (parent_or_root i.parent) q; size = size q; kind = i.kind } in
    either_way (nat_lt n (m + size_in e)) (with_size c c e) e e same refl

-- and so do the elements before the node
same_sizes : (m n c : ℕ) (is : List Item) → resized m n c c (map kept_of is) ≡ map kept_of is
same_sizes m n c [] = refl
same_sizes m n c (i ∷ is) = (let one = same_size m n c i in let more = same_sizes (m + 1) n c is in λ q. one q ∷ more q)

-- a parent keeps its number
same_number : (w : Shift) (p : ℕ) → w.new_number ≡ w.number → shifted_number w p ≡ p
same_number w p e = either_way (nat_lt p w.number) p (p + w.new_number - w.number) p refl (omega arith)

-- a shift that keeps numbers only moves starts
restarted_one : (w : Shift) (i : Item) → w.new_number ≡ w.number → shifted w (kept_of i) ≡ restarted w.start w.new_start (kept_of i)
restarted_one w i e =
    let p = parent_or_root i.parent in
    let parent : word_of (shifted_number w (word_of p)) ≡ word_of p = ap word_of (same_number w (word_of p) e) ∙ word_again p in
    λ q. record { len_or_start = word_of (word_of i.start + w.new_start - w.start); parent = parent q; size = word_again (size_of i) q; kind = i.kind }

restarted_all : (w : Shift) (is : List Item) → w.new_number ≡ w.number → map (shifted w) (map kept_of is) ≡ map (restarted w.start w.new_start) (map kept_of is)
restarted_all w [] e = refl
restarted_all w (i ∷ is) e = (let one = restarted_one w i e in let more = restarted_all w is e in λ q. one q ∷ more q)

-- an element that starts where it did is as it was
unmoved_one : (start new_start : ℕ) (i : Item) → start ≡ new_start → restarted start new_start (kept_of i) ≡ kept_of i
unmoved_one start new_start i e =
    let offset : word_of i.start + new_start - start ≡ word_of i.start = omega arith in
    let same : word_of (word_of i.start + new_start - start) ≡ word_of i.start = ap word_of offset ∙ word_again i.start in
    λ q. record { len_or_start = same q; parent = word_of (parent_or_root i.parent); size = word_of (size_of i); kind = i.kind }

unmoved_all : (start new_start : ℕ) (is : List Item) → start ≡ new_start → map (restarted start new_start) (map kept_of is) ≡ map kept_of is
unmoved_all start new_start [] e = refl
unmoved_all start new_start (i ∷ is) e =
    (let one = unmoved_one start new_start i e in let more = unmoved_all start new_start is e in λ q. one q ∷ more q)

-- if the text keeps its length, the elements after the node stay as they are
pub unmoved : (es : List Packed) (m start new_start : ℕ) → AreStored es → start ≡ new_start → drop m es ≡ map (restarted start new_start) (drop m es)
unmoved es m start new_start h e =
    let last : drop m es ≡ map kept_of (drop m h.items) = ap (drop m) h.are ∙ drop-map kept_of m h.items in
    last ∙ sym (unmoved_all start new_start (drop m h.items) e) ∙ ap (map (restarted start new_start)) (sym last)

-- with as many elements, only the node's own elements and the starts after it change
pub overwritten : (es : List Packed) (n : ℕ) (i : Item) (k : SyntaxKind) (own : List Packed) (len : ℕ) → AreStored es → length own ≡ i.below
    → take n es
    ++ (packed k i.start (parent_or_root i.parent) (suc (length own))
    ∷ (map (shifted (shift_inside n i.start)) own ++ map (restarted i.end (i.start + len)) (drop (n + suc i.below) es)))
    ≡ spliced es n i k own len
overwritten es n i k own len h count =
    let w = shift_behind n i (suc (length own)) len in
    let m = n + suc i.below in
    let first : take n es ≡ map kept_of (take n h.items) = ap (take n) h.are ∙ take-map kept_of n h.items in
    let front : resized 0 n (suc i.below) (suc (length own)) (take n es) ≡ take n es =
    (λ q. resized 0 n (suc i.below) (suc (count q)) (first q)) ∙ same_sizes 0 n (suc i.below) (take n h.items) ∙ sym first in
    let last : drop m es ≡ map kept_of (drop m h.items) = ap (drop m) h.are ∙ drop-map kept_of m h.items in
    let back : map (shifted w) (drop m es) ≡ map (restarted i.end (i.start + len)) (drop m es) =
    ap (map (shifted w)) last ∙ restarted_all w (drop m h.items) (ap (λ c. n + suc c) count) ∙ ap (map (restarted i.end (i.start + len))) (sym last) in
    sym (λ q. front q
    ++ (packed k i.start (parent_or_root i.parent) (suc (length own)) ∷ (map (shifted (shift_inside n i.start)) own ++ back q)))

-- the elements after a written node, at another offset
pub moved_behind : (f : Packed → Packed) (before own rest : List Packed) (e : Packed) (m : ℕ) → length before + suc (length own) ≡ m
    → take m (before ++ (e ∷ (own ++ rest))) ++ map f (drop m (before ++ (e ∷ (own ++ rest)))) ≡ before ++ (e ∷ (own ++ map f rest))
moved_behind f before own rest e m h =
    let front = before ++ (e ∷ own) in
    let size : length front ≡ m = length-append before (e ∷ own) ∙ h in
    let parts : before ++ (e ∷ (own ++ rest)) ≡ front ++ rest = sym (append_assoc before (e ∷ own) rest) in
    ap (λ z. take m z ++ map f (drop m z)) parts
    ∙ (λ q. take_at front rest m size q ++ map f (drop_at front rest m size q))
    ∙ append_assoc before (e ∷ own) (map f rest)

-- with as many elements, and if the starts after the node move, these are the elements with the new node
pub spliced_moved : (es written : List Packed) (n m : ℕ) (i : Item) (k : SyntaxKind) (own : List Packed) (len : ℕ) → AreStored es → length own ≡ i.below
    → n + suc i.below ≤ length es
    → m ≡ n + suc i.below
    → written ≡ take n es ++ (packed k i.start (parent_or_root i.parent) (suc (length own))
    ∷ (map (shifted (shift_inside n i.start)) own ++ drop (n + suc (length own)) es))
    → take m written ++ map (restarted i.end (i.start + len)) (drop m written) ≡ spliced es n i k own len
spliced_moved es written n m i k own len stored count within behind is =
    let e = packed k i.start (parent_or_root i.parent) (suc (length own)) in
    let inside = map (shifted (shift_inside n i.start)) own in
    let f = restarted i.end (i.start + len) in
    let size : length (take n es) + suc (length inside) ≡ m =
    omega (arith, length-take-le n es (omega arith), length-map own (shifted (shift_inside n i.start))) in
    ap (λ z. take m z ++ map f (drop m z)) is
    ∙ moved_behind f (take n es) inside (drop (n + suc (length own)) es) e m size
    ∙ (λ q. take n es ++ (e ∷ (inside ++ map f (drop (n + suc (count q)) es))))
    ∙ overwritten es n i k own len stored count

-- and so they are if the text keeps its length, and the starts do not move
pub spliced_unmoved : (es written : List Packed) (n : ℕ) (i : Item) (k : SyntaxKind) (own : List Packed) (len : ℕ) → AreStored es → length own ≡ i.below
    → i.start + len ≡ i.end
    → written ≡ take n es ++ (packed k i.start (parent_or_root i.parent) (suc (length own))
    ∷ (map (shifted (shift_inside n i.start)) own ++ drop (n + suc (length own)) es))
    → written ≡ spliced es n i k own len
spliced_unmoved es written n i k own len stored count same is =
    let e = packed k i.start (parent_or_root i.parent) (suc (length own)) in
    let inside = map (shifted (shift_inside n i.start)) own in
    is
    ∙ (λ q. take n es ++ (e ∷ (inside ++ drop (n + suc (count q)) es)))
    ∙ ap (λ z. take n es ++ (e ∷ (inside ++ z))) (unmoved es (n + suc i.below) i.end (i.start + len) stored (sym same))
    ∙ overwritten es n i k own len stored count

-- one more element, in a loop over the elements from a number on
pub one_more : (f : Packed → Packed) (es : List Packed) (i : ℕ) (d e : Packed) → i < length es → e ≡ f (get_or es i d)
    → take (i + 1) (set es i e) ++ map f (drop (i + 1) (set es i e)) ≡ take i es ++ map f (drop i es)
one_more f es i d e h read =
    let this : drop i es ≡ get_or es i d ∷ drop (i + 1) es = rw add-one (drop-cons es i d h) in
    (λ q. take_more_set es i e h q ++ map f (drop-set-lt (i + 1) es i e (omega arith) q))
    ∙ append_assoc (take i es) (e ∷ []) (map f (drop (i + 1) es))
    ∙ ap (λ z. take i es ++ (z ∷ map f (drop (i + 1) es))) read
    ∙ ap (λ z. take i es ++ map f z) (sym this)

-- the loop's end
pub no_more : (f : Packed → Packed) (es : List Packed) (i : ℕ) → length es ≤ i → take i es ++ map f (drop i es) ≡ es
no_more f es i h = (λ q. take_all i es h q ++ map f (drop_all i es h q)) ∙ append-nil es

-- one more element, in a loop that writes elements over others from the number n on
pub one_pasted : (f : Packed → Packed) (es own : List Packed) (n i : ℕ) (d e : Packed) → n + length own ≤ length es → i < length own
    → e ≡ f (get_or own i d)
    → set (paste es n (map f own) i) (n + i) e ≡ paste es n (map f own) (i + 1)
one_pasted f es own n i d e within h read =
    ap (set (paste es n (map f own) i) (n + i)) (read ∙ sym (get_or-map f own i d e h))
    ∙ paste_more es n (map f own) i e (omega arith) (omega (arith, length-map own f))

-- that loop's end
pub all_pasted : (f : Packed → Packed) (es own : List Packed) (n i : ℕ) → i ≡ length own
    → paste es n (map f own) i ≡ take n es ++ (map f own ++ drop (n + length own) es)
all_pasted f es own n i h =
    paste_all es n (map f own) i (omega (arith, length-map own f)) ∙ ap (λ k. take n es ++ (map f own ++ drop (n + k) es)) h
