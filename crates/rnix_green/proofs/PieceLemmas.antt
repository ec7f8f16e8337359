-- The place of an element's text in the text of its tree.
use Rattle.std.proofs.Common.{◌≡◌, ℕ, zero, suc, ◌+◌, ◌-◌, ◌≤◌, ◌<◌, List, [], ◌++◌, length, get_or, Option, Some, None, refl, ap, sym, ◌∙◌, subst, arith}
use Rattle.std.proofs.{Common.{length-append, append_assoc, inl, inr}, lemmas.{Bool.cases_lt, List.{get_or_append_left, get_or-append_right}}}
use Rattle.{std.{proofs.lemmas.Str.{IsUtf8-append, IsUtf8-nil, IsCharBoundary-at_seam}, specs.Str.{IsUtf8, IsCharBoundary}}, rnix_green.specs.Forest.Forest}
use Rattle.rnix_green.specs.{Forest.{empty, leaf, node, text_of, element_count, HasText}, Tree.{Tree, Item, items_from, items_of, forest_of, no_item, item}}

-- there are as many items as elements
pub length-items_from : (n s : ℕ) (p : Option ℕ) (f : Forest) → length (items_from n s p f) ≡ element_count f
length-items_from n s p empty = refl
length-items_from n s p (leaf k t f) = ap suc (length-items_from (n + 1) (s + length t) p f)
length-items_from n s p (node k c f) =
    let inner = length-items_from (n + 1) s (Some n) c in
    let outer = length-items_from (n + 1 + element_count c) (s + length (text_of c)) p f in
    omega (arith, inner, outer, length-append (items_from (n + 1) s (Some n) c) (items_from (n + 1 + element_count c) (s + length (text_of c)) p f))

-- if the leaves of a forest are UTF-8, so is its text
pub text_of-IsUtf8 : (f : Forest) → HasText f → IsUtf8 (text_of f)
text_of-IsUtf8 empty h = IsUtf8-nil
text_of-IsUtf8 (leaf k t f) h = IsUtf8-append t (text_of f) h.0 (text_of-IsUtf8 f h.1)
text_of-IsUtf8 (node k c f) h = IsUtf8-append (text_of c) (text_of f) (text_of-IsUtf8 c h.0) (text_of-IsUtf8 f h.1)

-- the text splits into the text before an element, the element's, and the text after it; it starts at offset `s`
pub record Piece (s : ℕ) (text : List ℕ) (i : Item) : Type 0 where
  pub before : List ℕ
  pub inside : List ℕ
  pub after : List ℕ
  pub parts : text ≡ before ++ (inside ++ after)
  pub starts : i.start ≡ s + length before
  pub ends : i.end ≡ i.start + length inside
  pub before_text : IsUtf8 before
  pub inside_text : IsUtf8 inside
  pub after_text : IsUtf8 after

piece_before : (s : ℕ) (t rest : List ℕ) (i : Item) → IsUtf8 rest → Piece s t i → Piece s (t ++ rest) i
piece_before s t rest i u p = record {
  before = p.before;
  inside = p.inside;
  after = p.after ++ rest;
  parts = rw p.parts (append_assoc p.before (p.inside ++ p.after) rest ∙ ap (λ x. p.before ++ x) (append_assoc p.inside p.after rest));
  starts = p.starts;
  ends = p.ends;
  before_text = p.before_text;
  inside_text = p.inside_text;
  after_text = IsUtf8-append p.after rest p.after_text u;
}

piece_after : (s : ℕ) (t rest : List ℕ) (i : Item) → IsUtf8 t → Piece (s + length t) rest i → Piece s (t ++ rest) i
piece_after s t rest i u p = record {
  before = t ++ p.before;
  inside = p.inside;
  after = p.after;
  parts = rw p.parts (sym (append_assoc t p.before (p.inside ++ p.after)));
  starts = omega (arith, p.starts, length-append t p.before);
  ends = p.ends;
  before_text = IsUtf8-append t p.before u p.before_text;
  inside_text = p.inside_text;
  after_text = p.after_text;
}

-- this holds for each element of a forest
pub piece_of : (n s : ℕ) (p : Option ℕ) (f : Forest) (m : ℕ) → HasText f → m < element_count f → Piece s (text_of f) (get_or (items_from n s p f) m no_item)
piece_of n s p empty m h l = absurd (omega arith)
piece_of n s p (leaf k t f) zero h l = record {
  before = [];
  inside = t;
  after = text_of f;
  parts = refl;
  starts = omega arith;
  ends = refl;
  before_text = IsUtf8-nil;
  inside_text = h.0;
  after_text = text_of-IsUtf8 f h.1;
}
piece_of n s p (leaf k t f) (suc m) h l =
    piece_after s t (text_of f) _ h.0 (piece_of (n + 1) (s + length t) p f m h.1 (omega arith))
piece_of n s p (node k c f) zero h l = record {
  before = [];
  inside = text_of c;
  after = text_of f;
  parts = refl;
  starts = omega arith;
  ends = refl;
  before_text = IsUtf8-nil;
  inside_text = text_of-IsUtf8 c h.0;
  after_text = text_of-IsUtf8 f h.1;
}
piece_of n s p (node k c f) (suc m) h l =
    let xs = items_from (n + 1) s (Some n) c in
    let ys = items_from (n + 1 + element_count c) (s + length (text_of c)) p f in
    let count : length xs ≡ element_count c = length-items_from (n + 1) s (Some n) c in
    let P : Item → Type 0 = λ i. Piece s (text_of c ++ text_of f) i in
    elim (cases_lt m (element_count c)) [
      | inl low ↦
          subst P (sym (get_or_append_left xs ys no_item m (omega arith)))
          (piece_before s (text_of c) (text_of f) _ (text_of-IsUtf8 f h.1) (piece_of (n + 1) s (Some n) c m h.0 low))
      | inr high ↦
          subst P (sym (get_or-append_right xs ys (element_count c) m no_item count high))
          (piece_after s (text_of c) (text_of f) _ (text_of-IsUtf8 c h.0)
          (piece_of (n + 1 + element_count c) (s + length (text_of c)) p f (m - element_count c) h.1 (omega arith)))
    ]

-- an element starts and ends at character boundaries of the text
pub record IsCut (text : List ℕ) (i : Item) : Type 0 where
  pub ordered : i.start ≤ i.end
  pub at_start : IsCharBoundary text i.start
  pub at_end : IsCharBoundary text i.end

-- so it does if the text splits so
pub cut_from_piece : (text : List ℕ) (i : Item) → Piece 0 text i → IsCut text i
cut_from_piece text i p =
    let first : i.start ≡ length p.before = omega (arith, p.starts) in
    let last : i.end ≡ length (p.before ++ p.inside) = omega (arith, p.starts, p.ends, length-append p.before p.inside) in
    let B : ℕ → Type 0 = λ n. IsCharBoundary text n in
    record {
      ordered = omega (arith, p.ends);
      at_start = subst B (sym first) (IsCharBoundary-at_seam text p.before (p.inside ++ p.after) p.parts
          (IsUtf8-append p.inside p.after p.inside_text p.after_text));
      at_end = subst B (sym last) (IsCharBoundary-at_seam text (p.before ++ p.inside) p.after
          (p.parts ∙ sym (append_assoc p.before p.inside p.after)) p.after_text);
    }

-- so does each element of a tree
pub cut_of : (t : Tree) (m : ℕ) → HasText (forest_of t) → m < length (items_of t) → IsCut (text_of (forest_of t)) (item t m)
cut_of t m h l =
    cut_from_piece (text_of (forest_of t)) (item t m)
    (piece_of 0 0 None (forest_of t) m h (omega (arith, length-items_from 0 0 None (forest_of t))))
