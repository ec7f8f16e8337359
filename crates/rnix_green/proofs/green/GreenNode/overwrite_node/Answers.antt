use Rattle.std.proofs.{Common.{◌≡◌, ◌∙◌, ◌+◌, ◌-◌, ◌<◌, ℕ, suc, None, List, length, take, drop, refl, ap, sym, subst, arith}, lemmas.List.{take_rest, with_items_is}}
use Rattle.std.specs.{Prelude.string_bytes, Vec.with_items}
use Rattle.rnix_kinds.specs.declared.kinds.SyntaxKind.{SyntaxKind}
use Rattle.rnix_green.specs.{declared.packed.Packed.Packed, Forest.text_of, Tree.{Tree, Item, items_of, item, forest_of}, Packed.limit, Splice.HasOnlyChild}
use Rattle.rnix_green.specs.{Kept.{tree_from, IsKept}, SplicedElements.{spliced, AreStored}}
use Rattle.rnix_green.proofs.{InsideLemmas.elements_in_all, ElementLemmas.length_kept, StartLemmas.in_text, SpliceLemmas.{new_tree, new_spliced}}
use Rattle.rnix_green.proofs.green.GreenNode.overwrite_node.Goals as goal

-- the elements of a tree are stored ones
stored : (t : Tree) (es : List Packed) (text : List ℕ) → IsKept t es text → AreStored es
stored t es text kept = record { items = items_of t; are = kept.elements }

-- there is room for as many elements
room_left : (t o : Tree) (n : ℕ) (es fs : List Packed) (text other : List ℕ) → IsKept t es text → IsKept o fs other → HasOnlyChild o
    → (item t n).below ≡ (item o 1).below
    → length es - suc (item t n).below + (length fs - 1) < limit
room_left t o n es fs text other kept also only same = omega (arith, kept.few, also.few, only.alone, length_kept o fs other also, same)

-- the written elements, in terms of the stored ones and the item
elements_are : (t : Tree) (n : ℕ) (es old new fs : List Packed) (i : Item) (k : SyntaxKind) (len : ℕ) → old ≡ es → i ≡ item t n
    → new ≡ spliced old n i k (take (length fs - 2) (drop 2 fs)) len
    → new ≡ spliced es n (item t n) k (drop 2 fs) len
elements_are t n es old new fs i k len same is e =
    e ∙ (λ q. spliced (same q) n (is q) k (take (length fs - 2) (drop 2 fs)) len) ∙ ap (λ x. spliced es n (item t n) k x len) (take_rest fs 2)

pub set_elements-requires-clause-stored : goal.set_elements-requires-clause-stored
set_elements-requires-clause-stored c =
    let t = c.args.self.now in
    let g = c.self.inside in
    let kept : IsKept t g.elements.items (string_bytes g.text) = rw c.self.view_is at c.self.invariant in
    subst AreStored (sym c.deref_mut.ensures.value) (stored t g.elements.items (string_bytes g.text) kept)

pub set_elements-requires-clause-short : goal.set_elements-requires-clause-short
set_elements-requires-clause-short c =
    let t = c.args.self.now in
    let is = c.element-old.ensures.is in
    let within = in_text 0 0 None (forest_of t) c.args.number (omega (arith, c.requires.there.is_there, elements_in_all t)) in
    omega (
      arith,
      within.high,
      ap (λ i. i.start) is,
      ap (λ i. i.end) is,
      c.element-old.ensures.ordered,
      c.in_ok-text.ensures.short,
    )

pub invariant_of-self : goal.invariant_of-self
invariant_of-self c =
    let t = c.args.self.now in
    let o = c.args.other.now in
    let n = c.args.number in
    let g = c.self.inside in
    let fs = c.parts.result.0.now in
    let other = c.parts.result.1.now in
    let new = c.set_elements.new.elements in
    let kind = c.element-kind.result.kind in
    let kept : IsKept t g.elements.items (string_bytes g.text) = rw c.self.view_is at c.self.invariant in
    let own = subst (IsKept t g.elements.items) kept.text_is kept in
    let count : length new ≡ g.elements.len = omega (arith, c.set_elements.auto.elements, ap length c.deref_mut.ensures.value, g.elements.ok.0) in
    let elements = elements_are t n g.elements.items c.deref_mut.result.now new fs _ kind (length other) c.deref_mut.ensures.value
    c.element-old.ensures.is c.set_elements.ensures in
    new_tree t o n g.elements.items fs _ (text_of (forest_of t)) other _ kind (item t n).start (item t n).end own c.parts.ensures c.requires.single
    (ap (λ i. i.kind) c.element-kind.ensures.is) refl refl (with_items_is g.elements new count ∙ elements) c.in_ok-text.ensures.text
    (room_left t o n g.elements.items fs (string_bytes g.text) other kept c.parts.ensures c.requires.single c.requires.same_count)
    c.in_ok-text.ensures.short c.requires.there

pub returns-clause-ok : goal.returns-clause-ok
returns-clause-ok c =
    let t = c.args.self.now in
    let o = c.args.other.now in
    let n = c.args.number in
    let g = c.self.inside in
    let fs = c.parts.result.0.now in
    let other = c.parts.result.1.now in
    let new = c.set_elements.new.elements in
    let kind = c.element-kind.result.kind in
    let kept : IsKept t g.elements.items (string_bytes g.text) = rw c.self.view_is at c.self.invariant in
    let own = subst (IsKept t g.elements.items) kept.text_is kept in
    let count : length new ≡ g.elements.len = omega (arith, c.set_elements.auto.elements, ap length c.deref_mut.ensures.value, g.elements.ok.0) in
    let elements = elements_are t n g.elements.items c.deref_mut.result.now new fs _ kind (length other) c.deref_mut.ensures.value
    c.element-old.ensures.is c.set_elements.ensures in
    let made = (with_items g.elements new).items in
    new_spliced t o n g.elements.items fs made (text_of (forest_of t)) other (string_bytes c.in_ok-text.text) kind (item t n).start (item t n).end own
    c.parts.ensures c.requires.single (ap (λ i. i.kind) c.element-kind.ensures.is) refl refl (with_items_is g.elements new count ∙ elements)
    c.in_ok-text.ensures.text
    (room_left t o n g.elements.items fs (string_bytes g.text) other kept c.parts.ensures c.requires.single c.requires.same_count)
    c.in_ok-text.ensures.short (tree_from made (string_bytes c.in_ok-text.text)) refl
