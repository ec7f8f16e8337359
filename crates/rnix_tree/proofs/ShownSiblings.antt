-- What the events of a walk over a forest show. It depends on the forest alone.
use Rattle.std.proofs.Common.{◌≡◌, ℕ, suc, ◌+◌, ◌-◌, ◌<◌, nat_lt, List, [], ◌∷◌, ◌++◌, length, map, take, drop, Bool, true, false, Option, Some, refl, ap, sym}
use Rattle.std.proofs.{Common.{◌∙◌, subst, arith, inl, inr, append_assoc, length-append}, lemmas.{Bool.cases_lt, List.{map-append, take_at, drop_at}}}
use Rattle.std.{proofs.lemmas.{Bool.false≢true, List.Elements.{All-nil, All-cons, All-head, All-tail, All-append}}, specs.{Prelude.if◌then◌else◌, List.All}}
use Rattle.rnix_kinds.specs.declared.kinds.SyntaxKind.{SyntaxKind}
use Rattle.rnix_green.specs.Forest.{Forest, empty, leaf, node, text_of, element_count}
use Rattle.rnix_green.specs.{Tree.{Tree, Item, item, text_at, forest_of}, Walk.{Event, event_at, steps_from}}
use Rattle.rnix_green.proofs.{NumberTests.{is_below}}
use Rattle.rnix_tree.specs.WalksAlike.{Shown, shown_event, shown_of, EndsBefore, siblings_before}
use Rattle.rnix_tree.proofs.{ListLemmas.cons_same, SiblingForests.{IsForest, after_leaf, after_node, inside_node, first_leaf, first_node}, SameSiblings.BeginsWith}

-- what a walk over a forest shows
abbrev pub shown_from : Forest → List Shown
shown_from empty = []
shown_from (leaf k u f) = shown_event true false k u ∷ shown_event false false k u ∷ shown_from f
shown_from (node k c f) = shown_event true true k [] ∷ (shown_from c ++ shown_event false true k [] ∷ shown_from f)

-- the text of a leaf in a tree is the leaf's text
text_of_leaf : (t : Tree) (n s : ℕ) (p : Option ℕ) (k : SyntaxKind) (u : List ℕ) (f : Forest) → IsForest t n s p (leaf k u f)
    → text_at record { tree = t; number = n } ≡ u
text_of_leaf t n s p k u f h =
    let own = first_leaf t n s p k u f h in
    let long : s + length u - s ≡ length u = omega arith in
    ap (λ (i : Item). take (i.end - i.start) (drop i.start (text_of (forest_of t)))) own
    ∙ ap (λ x. take x (drop s (text_of (forest_of t)))) long
    ∙ ap (λ x. take (length u) (drop s x)) h.text
    ∙ ap (take (length u)) (drop_at h.before ((u ++ text_of f) ++ h.after) s h.starts)
    ∙ ap (take (length u)) (append_assoc u (text_of f) h.after)
    ∙ take_at u (text_of f ++ h.after) (length u) refl

-- what an event shows of a leaf, and of a node
shown_leaf : (t : Tree) (n s : ℕ) (p : Option ℕ) (k : SyntaxKind) (u : List ℕ) (f : Forest) → IsForest t n s p (leaf k u f)
    → (enters : Bool) → shown_of (event_at t (enters, n)) ≡ shown_event enters false k u
shown_leaf t n s p k u f h enters =
    let own = first_leaf t n s p k u f h in
    ap (λ (i : Item). shown_event enters i.is_node i.kind (text_at record { tree = t; number = n })) own
    ∙ ap (shown_event enters false k) (text_of_leaf t n s p k u f h)

shown_node : (t : Tree) (n s : ℕ) (p : Option ℕ) (k : SyntaxKind) (c f : Forest) → IsForest t n s p (node k c f)
    → (enters : Bool) → shown_of (event_at t (enters, n)) ≡ shown_event enters true k []
shown_node t n s p k c f h enters =
    let own = first_node t n s p k c f h in
    ap (λ (i : Item). shown_event enters i.is_node i.kind (text_at record { tree = t; number = n })) own

-- a walk over a forest in a tree shows what the forest contains
pub shows : (t : Tree) (n s : ℕ) (p : Option ℕ) (f : Forest) → IsForest t n s p f → map shown_of (map (event_at t) (steps_from n f)) ≡ shown_from f
shows t n s p empty h = refl
shows t n s p (leaf k u f) h =
    cons_same (shown_leaf t n s p k u f h true)
    (cons_same (shown_leaf t n s p k u f h false) (shows t (n + 1) (s + length u) p f (after_leaf t n s p k u f h)))
shows t n s p (node k c f) h =
    let inner = steps_from (n + 1) c in
    let outer = (false, n) ∷ steps_from (n + 1 + element_count c) f in
    cons_same (shown_node t n s p k c f h true)
    (ap (map shown_of) (map-append (event_at t) inner outer) ∙ map-append shown_of (map (event_at t) inner) (map (event_at t) outer)
    ∙ ap (λ xs. xs ++ map shown_of (map (event_at t) outer)) (shows t (n + 1) s (Some n) c (inside_node t n s p k c f h))
    ∙ ap (λ xs. shown_from c ++ xs) (cons_same (shown_node t n s p k c f h false)
    (shows t (n + 1 + element_count c) (s + length (text_of c)) p f (after_node t n s p k c f h))))

-- if a forest ends before an offset, all its elements do
pub all_before : (t : Tree) (n s : ℕ) (p : Option ℕ) (f : Forest) (offset : ℕ) → IsForest t n s p f → s + length (text_of f) < offset
    → All (EndsBefore offset) (map (event_at t) (steps_from n f))
all_before t n s p empty offset h l = All-nil (EndsBefore offset)
all_before t n s p (leaf k u f) offset h l =
    let end = ap (λ (i : Item). i.end) (first_leaf t n s p k u f h) in
    let own : (item t n).end < offset = omega (arith, end, l, length-append u (text_of f)) in
    let outer = map (event_at t) (steps_from (n + 1) f) in
    All-cons (EndsBefore offset) (event_at t (true, n)) (event_at t (false, n) ∷ outer) own (All-cons (EndsBefore offset) (event_at t (false, n)) outer own
    (all_before t (n + 1) (s + length u) p f offset (after_leaf t n s p k u f h) (omega (arith, l, length-append u (text_of f)))))
all_before t n s p (node k c f) offset h l =
    let end = ap (λ (i : Item). i.end) (first_node t n s p k c f h) in
    let long = length-append (text_of c) (text_of f) in
    let own : (item t n).end < offset = omega (arith, end, l, long) in
    let inner = steps_from (n + 1) c in
    let rest = steps_from (n + 1 + element_count c) f in
    let outer = (false, n) ∷ rest in
    All-cons (EndsBefore offset) (event_at t (true, n)) (map (event_at t) (inner ++ outer)) own
    (subst (All (EndsBefore offset)) (sym (map-append (event_at t) inner outer))
    (All-append (EndsBefore offset) (map (event_at t) inner) (map (event_at t) outer)
    (all_before t (n + 1) s (Some n) c offset (inside_node t n s p k c f h) (omega (arith, l, long)))
    (All-cons (EndsBefore offset) (event_at t (false, n)) (map (event_at t) rest) own
    (all_before t (n + 1 + element_count c) (s + length (text_of c)) p f offset (after_node t n s p k c f h) (omega (arith, l, long))))))

-- the elements inside an open one are passed with it
passed_inside : (t : Tree) (n : ℕ) (f : Forest) (offset d : ℕ) (rest : List Event) → siblings_before offset (suc d) (map (event_at t) (steps_from n f) ++ rest)
    ≡ map (event_at t) (steps_from n f) ++ siblings_before offset (suc d) rest
passed_inside t n empty offset d rest = refl
passed_inside t n (leaf k u f) offset d rest = cons_same refl (cons_same refl (passed_inside t (n + 1) f offset d rest))
passed_inside t n (node k c f) offset d rest =
    let inner = map (event_at t) (steps_from (n + 1) c) in
    let last = event_at t (false, n) in
    let outer = map (event_at t) (steps_from (n + 1 + element_count c) f) in
    let both = map-append (event_at t) (steps_from (n + 1) c) ((false, n) ∷ steps_from (n + 1 + element_count c) f) in
    cons_same refl
    (ap (λ xs. siblings_before offset (suc (suc d)) (xs ++ rest)) both
    ∙ ap (siblings_before offset (suc (suc d))) (append_assoc inner (last ∷ outer) rest)
    ∙ passed_inside t (n + 1) c offset (suc d) (last ∷ (outer ++ rest))
    ∙ ap (λ xs. inner ++ (last ∷ xs)) (passed_inside t (n + 1 + element_count c) f offset d rest)
    ∙ sym (append_assoc inner (last ∷ outer) (siblings_before offset (suc d) rest))
    ∙ ap (λ xs. xs ++ siblings_before offset (suc d) rest) (sym both))

-- the trees of a forest that ends before an offset are passed
pub siblings_passed : (t : Tree) (n s : ℕ) (p : Option ℕ) (f : Forest) (offset : ℕ) (rest : List Event) → IsForest t n s p f → s + length (text_of f) < offset
    → siblings_before offset 0 (map (event_at t) (steps_from n f) ++ rest) ≡ map (event_at t) (steps_from n f) ++ siblings_before offset 0 rest
siblings_passed t n s p empty offset rest h l = refl
siblings_passed t n s p (leaf k u f) offset rest h l =
    let end = ap (λ (i : Item). i.end) (first_leaf t n s p k u f h) in
    let own : nat_lt (item t n).end offset ≡ true = is_below _ _ (omega (arith, end, l, length-append u (text_of f))) in
    let outer = map (event_at t) (steps_from (n + 1) f) in
    ap (λ b. if b then event_at t (true, n) ∷ event_at t (false, n) ∷ siblings_before offset 0 (outer ++ rest) else []) own
    ∙ cons_same refl (cons_same refl (siblings_passed t (n + 1) (s + length u) p f offset rest (after_leaf t n s p k u f h)
    (omega (arith, l, length-append u (text_of f)))))
siblings_passed t n s p (node k c f) offset rest h l =
    let end = ap (λ (i : Item). i.end) (first_node t n s p k c f h) in
    let long = length-append (text_of c) (text_of f) in
    let own : nat_lt (item t n).end offset ≡ true = is_below _ _ (omega (arith, end, l, long)) in
    let inner = map (event_at t) (steps_from (n + 1) c) in
    let last = event_at t (false, n) in
    let outer = map (event_at t) (steps_from (n + 1 + element_count c) f) in
    let both = map-append (event_at t) (steps_from (n + 1) c) ((false, n) ∷ steps_from (n + 1 + element_count c) f) in
    ap (λ b. if b then event_at t (true, n) ∷ siblings_before offset 1
    (map (event_at t) (steps_from (n + 1) c ++ (false, n) ∷ steps_from (n + 1 + element_count c) f) ++ rest) else []) own
    ∙ cons_same refl
    (ap (λ xs. siblings_before offset 1 (xs ++ rest)) both
    ∙ ap (siblings_before offset 1) (append_assoc inner (last ∷ outer) rest)
    ∙ passed_inside t (n + 1) c offset 0 (last ∷ (outer ++ rest))
    ∙ ap (λ xs. inner ++ (last ∷ xs)) (siblings_passed t (n + 1 + element_count c) (s + length (text_of c)) p f offset rest (after_node t n s p k c f h)
    (omega (arith, l, long)))
    ∙ sym (append_assoc inner (last ∷ outer) (siblings_before offset 0 rest))
    ∙ ap (λ xs. xs ++ siblings_before offset 0 rest) (sym both))

-- a forest without elements has no text
pub no_text : (f : Forest) → element_count f ≡ 0 → text_of f ≡ []
no_text empty e = refl
no_text (leaf k u f) e = absurd (omega (arith, e))
no_text (node k c f) e = absurd (omega (arith, e))

-- what holds of all events holds of those after the first ones
after_front : {offset : ℕ} (xs ys : List Event) → All (EndsBefore offset) (xs ++ ys) → All (EndsBefore offset) ys
after_front [] ys all = all
after_front {offset = offset} (x ∷ xs) ys all = after_front xs ys (All-tail (EndsBefore offset) x (xs ++ ys) all)

-- if all elements of a forest end before an offset, the forest does
pub ends_before : (t : Tree) (n s : ℕ) (p : Option ℕ) (f : Forest) (offset : ℕ) → IsForest t n s p f → 0 < element_count f
    → All (EndsBefore offset) (map (event_at t) (steps_from n f)) → s + length (text_of f) < offset
ends_before t n s p empty offset h some all = absurd (omega (arith, some))
ends_before t n s p (leaf k u f) offset h some all =
    let outer = map (event_at t) (steps_from (n + 1) f) in
    let rest = All-tail (EndsBefore offset) (event_at t (false, n)) outer
    (All-tail (EndsBefore offset) (event_at t (true, n)) (event_at t (false, n) ∷ outer) all) in
    let end = ap (λ (i : Item). i.end) (first_leaf t n s p k u f h) in
    let own : (item t n).end < offset = All-head (EndsBefore offset) (event_at t (true, n)) (event_at t (false, n) ∷ outer) all in
    elim (cases_lt 0 (element_count f)) [
      | inl more ↦
          omega (arith, length-append u (text_of f), ends_before t (n + 1) (s + length u) p f offset (after_leaf t n s p k u f h) more rest)
      | inr none ↦
          let last : element_count f ≡ 0 = omega (arith, none) in
          omega (arith, end, own, length-append u (text_of f), ap length (no_text f last))
    ]
ends_before t n s p (node k c f) offset h some all =
    let inner = map (event_at t) (steps_from (n + 1) c) in
    let outer = map (event_at t) (steps_from (n + 1 + element_count c) f) in
    let steps = steps_from (n + 1) c ++ (false, n) ∷ steps_from (n + 1 + element_count c) f in
    let both = map-append (event_at t) (steps_from (n + 1) c) ((false, n) ∷ steps_from (n + 1 + element_count c) f) in
    let rest = All-tail (EndsBefore offset) (event_at t (false, n)) outer
    (after_front inner (event_at t (false, n) ∷ outer)
    (subst (All (EndsBefore offset)) both (All-tail (EndsBefore offset) (event_at t (true, n)) (map (event_at t) steps) all))) in
    let end = ap (λ (i : Item). i.end) (first_node t n s p k c f h) in
    let own : (item t n).end < offset = All-head (EndsBefore offset) (event_at t (true, n)) (map (event_at t) steps) all in
    elim (cases_lt 0 (element_count f)) [
      | inl more ↦
          omega (
            arith,
            length-append (text_of c) (text_of f),
            ends_before t (n + 1 + element_count c) (s + length (text_of c)) p f offset (after_node t n s p k c f h) more rest,
          )
      | inr none ↦
          let last : element_count f ≡ 0 = omega (arith, none) in
          omega (arith, end, own, length-append (text_of c) (text_of f), ap length (no_text f last))
    ]

-- a walk leaves an element next, or ends
abbrev pub IsStop : List Shown → Type 0
IsStop [] = Unit {0}
IsStop (x ∷ xs) = x.enters ≡ false

apart : (x y : Shown) (xs ys : List Shown) → x ∷ xs ≡ y ∷ ys → x.enters ≡ true → y.enters ≡ false → ⊥
apart x y xs ys e f g = (let heads : x ≡ y = cc in absurd (false≢true (sym g ∙ ap (λ (z : Shown). z.enters) (sym heads) ∙ f)))

-- an event of a leaf does not show the same as one of a node
mixed : (k l : SyntaxKind) (u : List ℕ) (xs ys : List Shown) → shown_event true false k u ∷ xs ≡ shown_event true true l [] ∷ ys → ⊥
mixed k l u xs ys e =
    let heads : shown_event true false k u ≡ shown_event true true l [] = cc in
    absurd (false≢true (ap (λ (z : Shown). z.is_node) heads))

-- what a walk shows until it leaves an element determines the forest
record IsSameSiblings (f g : Forest) (x y : List Shown) : Type 0 where
  pub siblings : f ≡ g
  pub rest : x ≡ y

same_siblings : (f g : Forest) (a b : Shown) (x y : List Shown) → a.enters ≡ false → b.enters ≡ false → shown_from f ++ a ∷ x ≡ shown_from g ++ b ∷ y
    → IsSameSiblings f g x y
same_siblings empty empty a b x y l m e = record { siblings = refl; rest = cc }
same_siblings empty (leaf k u g) a b x y l m e = absurd (apart _ a _ x (sym e) refl l)
same_siblings empty (node k d g) a b x y l m e = absurd (apart _ a _ x (sym e) refl l)
same_siblings (leaf k u f) empty a b x y l m e = absurd (apart _ b _ y e refl m)
same_siblings (node k c f) empty a b x y l m e = absurd (apart _ b _ y e refl m)
same_siblings (leaf k u f) (node k' d g) a b x y l m e = absurd (mixed k k' u _ _ e)
same_siblings (node k c f) (leaf k' w g) a b x y l m e = absurd (mixed k' k w _ _ (sym e))
same_siblings (leaf k u f) (leaf k' w g) a b x y l m e =
    let heads : shown_event true false k u ≡ shown_event true false k' w = cc in
    let r = same_siblings f g a b x y l m cc in
    record {
      siblings =
          ap (λ z. leaf z u f) (ap (λ (z : Shown). z.kind) heads) ∙ ap (λ z. leaf k' z f) (ap (λ (z : Shown). z.text) heads) ∙ ap (leaf k' w) r.siblings;
      rest = r.rest;
    }
same_siblings (node k c f) (node k' d g) a b x y l m e =
    let heads : shown_event true true k [] ≡ shown_event true true k' [] = cc in
    let leave = shown_event false true k [] in
    let leave' = shown_event false true k' [] in
    let tails : (shown_from c ++ leave ∷ shown_from f) ++ a ∷ x ≡ (shown_from d ++ leave' ∷ shown_from g) ++ b ∷ y = cc in
    let inner = same_siblings c d leave leave' (shown_from f ++ a ∷ x) (shown_from g ++ b ∷ y) refl refl
    (sym (append_assoc (shown_from c) (leave ∷ shown_from f) (a ∷ x)) ∙ tails ∙ append_assoc (shown_from d) (leave' ∷ shown_from g) (b ∷ y)) in
    let r = same_siblings f g a b x y l m inner.rest in
    record {
      siblings = ap (λ z. node z c f) (ap (λ (z : Shown). z.kind) heads) ∙ ap (λ z. node k' z f) inner.siblings ∙ ap (node k' d) r.siblings;
      rest = r.rest;
    }

-- a walk that begins with what is shown of a forest is over a forest that begins with it
pub begins_with : (f g : Forest) (x y : List Shown) → IsStop y → shown_from f ++ x ≡ shown_from g ++ y → BeginsWith f g
begins_with empty g x y stop e = record { rest = g; is = refl }
begins_with (leaf k u f) empty x [] stop e = absurd (cc)
begins_with (leaf k u f) empty x (b ∷ y) stop e = absurd (apart _ b _ y e refl stop)
begins_with (node k c f) empty x [] stop e = absurd (cc)
begins_with (node k c f) empty x (b ∷ y) stop e = absurd (apart _ b _ y e refl stop)
begins_with (leaf k u f) (node k' d g) x y stop e = absurd (mixed k k' u _ _ e)
begins_with (node k c f) (leaf k' w g) x y stop e = absurd (mixed k' k w _ _ (sym e))
begins_with (leaf k u f) (leaf k' w g) x y stop e =
    let heads : shown_event true false k u ≡ shown_event true false k' w = cc in
    let r = begins_with f g x y stop cc in
    record {
      rest = r.rest;
      is =
          ap (λ z. leaf z w g) (sym (ap (λ (z : Shown). z.kind) heads)) ∙ ap (λ z. leaf k z g) (sym (ap (λ (z : Shown). z.text) heads))
          ∙ ap (leaf k u) r.is;
    }
begins_with (node k c f) (node k' d g) x y stop e =
    let heads : shown_event true true k [] ≡ shown_event true true k' [] = cc in
    let leave = shown_event false true k [] in
    let leave' = shown_event false true k' [] in
    let tails : (shown_from c ++ leave ∷ shown_from f) ++ x ≡ (shown_from d ++ leave' ∷ shown_from g) ++ y = cc in
    let inner = same_siblings c d leave leave' (shown_from f ++ x) (shown_from g ++ y) refl refl
    (sym (append_assoc (shown_from c) (leave ∷ shown_from f) x) ∙ tails ∙ append_assoc (shown_from d) (leave' ∷ shown_from g) y) in
    let r = begins_with f g x y stop inner.rest in
    record {
      rest = r.rest;
      is = ap (λ z. node z d g) (sym (ap (λ (z : Shown). z.kind) heads)) ∙ ap (λ z. node k z g) (sym inner.siblings) ∙ ap (node k c) r.is;
    }
