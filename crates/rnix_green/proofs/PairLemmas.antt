-- Reading and placing a node that contains only one token.
use Rattle.std.proofs.Common.{◌≡◌, ◌≢◌, ℕ, zero, suc, ◌+◌, ◌-◌, ◌≤◌, ◌<◌, List, [], ◌∷◌, ◌++◌, length, get_or, take, drop, reverse, refl, ap, sym, ◌∙◌, subst}
use Rattle.std.proofs.{Common.arith, lemmas.List.{length_push, length-reverse, length-set, reverse-append}, Math.{ListN.set, Seq.take-append_seam}}
use Rattle.rnix_green.specs.{declared.{packed.Packed.Packed, postorder.Frame.Frame}, Kept.parent_or_root, Forest.Forest, Packed.{packed, len_or_start_in, size_in}}
use Rattle.rnix_green.{specs.Postorder.{parent_number, frame_kept, HasMore, IsWork}, proofs.PostorderLemmas.{IsLeafRead, entries_before, length-entries_before}}
use Rattle.rnix_green.proofs.PostorderLemmas.{leaf_at, node_at, node_framed, leaf_placed, node_placed}

same_read : (es : List Packed) (i : ℕ) (x y : Packed) → i < length es → x ≡ get_or es i x → y ≡ get_or es i y → x ≡ y
same_read [] i x y l a b = absurd (omega arith)
same_read (e ∷ es) zero x y l a b = a ∙ sym b
same_read (e ∷ es) (suc i) x y l a b = same_read es i x y (omega arith) a b

-- a token that is read again is a token
pub token_again : (es : List Packed) (i : ℕ) (x y : Packed) → i < length es → x ≡ get_or es i x → y ≡ get_or es i y → size_in x ≡ 0 → size_in y ≡ 0
token_again es i x y l a b none = ap size_in (sym (same_read es i x y l a b)) ∙ none

-- the frames with that of a node of two elements
abbrev with_pair : List Frame → Packed → ℕ → List Frame
with_pair frames x remaining =
    frames ++ record { kind = x.kind; size = size_in x; number = remaining - 1 - 1 + length frames; first = remaining - 1 - 1 } ∷ []

-- another entry precedes such a node
pub pair_fits : (forest : Forest) (es : List Packed) (remaining offset : ℕ) (frames : List Frame) (x : Packed) →
    remaining + length frames ≤ length es → remaining ≢ 0 → x ≡ get_or es (remaining - 1) x → size_in x ≡ 2 → HasMore (reverse frames) remaining →
    IsWork forest (entries_before remaining es) offset (reverse frames) (drop (remaining + length frames) es) → 0 < remaining - 1
pair_fits forest es remaining offset frames x l z ex two o w =
    let r =
    node_at forest es remaining offset (reverse frames) (drop (remaining + length frames) es) x record {
      kind = x.kind;
      size = size_in x;
      number = 0;
      first =
          0;
    } 1
    (omega arith) z ex two refl refl o w in
    omega (arith, r.fits, length-entries_before (remaining - 1) es (omega arith))

-- the token of such a node is read after the node
pub pair_read : (forest : Forest) (es : List Packed) (remaining offset : ℕ) (frames : List Frame) (x y : Packed) →
    remaining + length frames ≤ length es → remaining ≢ 0 → x ≡ get_or es (remaining - 1) x → y ≡ get_or es (remaining - 1 - 1) y → size_in x ≡ 2
    → size_in y ≡ 0 →
    HasMore (reverse frames) remaining → IsWork forest (entries_before remaining es) offset (reverse frames) (drop (remaining + length frames) es) →
    IsLeafRead forest (entries_before (remaining - 1 - 1) es) offset (reverse (with_pair frames x remaining))
    (drop (remaining - 1 + length (with_pair frames x remaining)) es) y.kind (len_or_start_in y)
pair_read forest es remaining offset frames x y l z ex ey two none o w =
    let one = pair_fits forest es remaining offset frames x l z ex two o w in
    let fr : Frame = record { kind = x.kind; size = size_in x; number = remaining - 1 - 1 + length frames; first = remaining - 1 - 1 } in
    let r = node_at forest es remaining offset (reverse frames) (drop (remaining + length frames) es) x fr 1 (omega arith) z ex two refl refl o w in
    let before = length-entries_before (remaining - 1) es (omega arith) in
    let inner : HasMore (fr ∷ reverse frames) (remaining - 1) = λ same. omega arith in
    leaf_at forest es (remaining - 1) offset _ _ y (omega arith) (omega arith) ey none
    (subst (λ frs. HasMore frs (remaining - 1)) (sym (reverse-append frames (fr ∷ []))) inner)
    (node_framed forest es remaining offset frames _ fr z refl (r.work (omega (arith, before)) (omega (arith, length-reverse frames))))

-- such a node is placed together with its token
pub pair_placed : (forest : Forest) (es : List Packed) (remaining offset number : ℕ) (frames : List Frame) (x y token kept : Packed) →
    remaining + length frames ≤ length es → remaining ≢ 0 → x ≡ get_or es (remaining - 1) x → y ≡ get_or es (remaining - 1 - 1) y → size_in x ≡ 2
    → size_in y ≡ 0 →
    HasMore (reverse frames) remaining → number ≡ remaining - 1 - 1 + length frames → token ≡ packed y.kind (offset - len_or_start_in y) number 0 →
    kept ≡ packed x.kind (offset - len_or_start_in y) (parent_or_root (parent_number (reverse frames))) 2 →
    IsWork forest (entries_before remaining es) offset (reverse frames) (drop (remaining + length frames) es) →
    IsWork forest (entries_before (remaining - 1 - 1) (set (set es (number + 1) token) number kept)) (offset - len_or_start_in y) (reverse frames)
    (drop (remaining - 1 - 1 + length frames) (set (set es (number + 1) token) number kept))
pair_placed forest es remaining offset number frames x y token kept l z ex ey two none o e et ek w =
    let one = pair_fits forest es remaining offset frames x l z ex two o w in
    let fr : Frame = record { kind = x.kind; size = size_in x; number = remaining - 1 - 1 + length frames; first = remaining - 1 - 1 } in
    let more : List Frame = with_pair frames x remaining in
    let start = offset - len_or_start_in y in
    let turned : reverse more ≡ fr ∷ reverse frames = reverse-append frames (fr ∷ []) in
    let fewer : frames ≡ take (length more - 1) more =
    sym (take-append_seam frames (fr ∷ [])) ∙ ap (λ n. take n more) (omega (arith, length_push frames fr)) in
    let parent : number ≡ parent_or_root (parent_number (reverse more)) = e ∙ sym (ap (λ frs. parent_or_root (parent_number frs)) turned) in
    let token_is : token ≡ packed y.kind start (parent_or_root (parent_number (reverse more))) 0 = et ∙ ap (λ p. packed y.kind start p 0) parent in
    let kept_is : kept ≡ frame_kept fr start (parent_number (reverse frames)) =
    ek ∙ ap (λ n. packed x.kind start (parent_or_root (parent_number (reverse frames))) n) (sym two) in
    node_placed forest (set es (number + 1) token) (remaining - 1 - 1) start number more frames kept fr
    (omega (arith, length_push frames fr, length-set es (number + 1) token))
    record { reached = refl; innermost = turned ∙ ap (λ frs. fr ∷ reverse frs) fewer } fewer e kept_is
    (leaf_placed forest es (remaining - 1) offset (number + 1) more y.kind (len_or_start_in y) token (omega (arith, length_push frames fr)) (omega arith)
    (omega (arith, length_push frames fr)) token_is (pair_read forest es remaining offset frames x y l z ex ey two none o w))
