-- The element with a number, and the strings among the elements.
use Rattle.std.proofs.Common.{◌≡◌, ℕ, zero, suc, ◌+◌, ◌<◌, length, Option, Some, None, true, false, sym, ap, ◌∙◌, arith}
use Rattle.std.{specs.{List.{slice_get}, Prelude.{option_map, IfSome, IfNone, is_some}}, proofs.lemmas.{List.{length-map}, Option.{slice_get-map, slice_get_within}}}
use Rattle.rnix_kinds.specs.{declared.kinds.SyntaxKind.TheVariants.{NODE_STRING}}
use Rattle.rnix_green.specs.{Equality.{same_kind, same_kind-decides}, Tree.{Tree, Located, items_of, item, item_of}, Walk.{Spot, spot_at, counted, elements_of}}
use Rattle.rnix_green.proofs.InsideLemmas.{elements_in_all}
use Rattle.{rnix_tree.proofs.CountLemmas.{counted-many}, rnix_c.specs.StringCalls.{located, IsString}}

get_counted : (a k i : ℕ) → i < k → slice_get (counted a k) i ≡ Some (a + i)
get_counted a zero i l = absurd (omega arith)
get_counted a (suc k) zero l = ap Some (omega arith)
get_counted a (suc k) (suc i) l = get_counted (a + 1) k i (omega arith) ∙ ap Some (omega arith)

-- all other elements are inside the root
all_inside : (t : Tree) → 1 + (item t 0).below ≡ length (items_of t)
all_inside t = omega (arith, elements_in_all t)

-- the element with a number in preorder
pub element_there : (t : Tree) (n : ℕ) → n < length (items_of t) → slice_get (elements_of (located t 0)) n ≡ Some (spot_at t n)
element_there t n l =
    slice_get-map (spot_at t) (counted 0 (1 + (item t 0).below)) n
    ∙ ap (option_map (spot_at t)) (get_counted 0 (1 + (item t 0).below) n (omega (arith, all_inside t)) ∙ ap Some (omega arith))

pub is_there : (t : Tree) (n : ℕ) (spot : Spot) → slice_get (elements_of (located t 0)) n ≡ Some spot → n < length (items_of t)
is_there t n spot e =
    omega (
      arith,
      slice_get_within (elements_of (located t 0)) n spot e,
      length-map (counted 0 (1 + (item t 0).below)) (spot_at t),
      counted-many 0 (1 + (item t 0).below),
      all_inside t,
    )

-- the spot at an index is that of the element with this number
pub spot_is : (t : Tree) (n : ℕ) (spot : Spot) → slice_get (elements_of (located t 0)) n ≡ Some spot → spot ≡ spot_at t n
spot_is t n spot e =
    let there = element_there t n (is_there t n spot e) in
    cc (e, there)

-- if no element has the number, no string has it
pub none_there : (t : Tree) (n : ℕ) → slice_get (elements_of (located t 0)) n ≡ None → ¬ IsString (located t n)
none_there t n e string =
    let there = element_there t n string.0.is_there in
    cc (e, there)

-- a token is not a string
pub token_there : (t : Tree) (n : ℕ) (token : Located) → slice_get (elements_of (located t 0)) n ≡ Some (false, token) → ¬ IsString (located t n)
token_there t n token e string =
    let here : (false, token) ≡ spot_at t n = spot_is t n (false, token) e in
    let is : (item t n).is_node ≡ true = string.0.is_node in
    cc (ap (λ (s : Spot). s.0) here, is)

-- a node is a string exactly if it casts to one
pub cast_found : (t : Tree) (n : ℕ) (node : Located) (r : Option Located) → slice_get (elements_of (located t 0)) n ≡ Some (true, node)
    → is_some r ≡ same_kind NODE_STRING (item_of node).kind → IfSome r (λ value. value ≡ node) →
    IfSome r (λ string. (string ≡ located t n) × IsString (located t n))
cast_found t n node None e some same = tt
cast_found t n node (Some value) e some same =
    let here : (true, node) ≡ spot_at t n = spot_is t n (true, node) e in
    let located_is : node ≡ located t n = ap (λ (s : Spot). s.1) here in (
      same ∙ located_is,
      (
        record { is_there = is_there t n (true, node) e; is_node = sym (ap (λ (s : Spot). s.0) here) },
        ap (λ (e : Located). (item_of e).kind) (sym located_is) ∙ sym ((same_kind-decides NODE_STRING (item_of node).kind).0 (sym some)),
      ),
    )

pub cast_missing : (t : Tree) (n : ℕ) (node : Located) (r : Option Located) → slice_get (elements_of (located t 0)) n ≡ Some (true, node)
    → is_some r ≡ same_kind NODE_STRING (item_of node).kind → IfNone r (¬ IsString (located t n))
cast_missing t n node None e some = λ string.
    let located_is : node ≡ located t n = ap (λ (s : Spot). s.1) (spot_is t n (true, node) e) in
    let is : NODE_STRING ≡ (item_of node).kind = sym (ap (λ (e : Located). (item_of e).kind) located_is ∙ string.1) in
    cc (some, (same_kind-decides NODE_STRING (item_of node).kind).1 is)
cast_missing t n node (Some value) e some = tt
