-- The values with the numbers of an order, and their depths.
use Rattle.std.proofs.Common.{◌≡◌, ◌∙◌, ℕ, zero, suc, ◌+◌, ◌<◌, ◌≤◌, Bool, true, eqb, List, [], ◌∷◌, ◌++◌, length, map, get_or, drop, flat_map, slice_get, option_to_list, Option, Some, None, ⊎_elim, sym, refl, ap, ap₂, subst, eqb-true, eq-eqb, ne_eqb, lt-ltb, string_bytes, add-one, append_assoc, arith}
use Rattle.std.specs.List.{range_with_len}
use Rattle.std.specs.Prelude.{nat_lt}
use Rattle.std.proofs.lemmas.Bool.{cases_Bool, cond-true, cond-false, ltb-true}
use Rattle.std.proofs.lemmas.Grind.{flat_map-append}
use Rattle.std.proofs.lemmas.List.{drop_more, map-append, length-map}
use Rattle.std.proofs.lemmas.Option.{slice_get_within, slice_get_read}
use Rattle.nix_values.specs.declared.nodes.Node.{Node}
use Rattle.nix_values.specs.declared.data.Item.{Item}
use Rattle.nix_values.specs.Contents.{Entry, plain_of, entry_of}
use Rattle.nix_values.specs.Built.{Built, built_of}
use Rattle.nix_values.specs.Preorder.{parent_before, parent_of, is_same_parent, children_from, descendants, preorder}
use Rattle.nix_values.specs.Groups.{group_of, groups_from, groups_of, members_from, numbers_in, preorder_numbers, IsPreorder, IsNoneOf, AreDistinct}
use Rattle.nix_values.specs.ValueDepths.{depth_inside, depth_under, HasDepth, HaveDepths, entry_in, found_entry, entry_at, entries_at}
use Rattle.nix_values.proofs.GroupLemmas.{ComeLater}
use Rattle.nix_values.proofs.BuiltLemmas.{get_last, get_before}

-- ---- groups

pub groups_len : (k : ℕ) (values : List Built) → length (groups_from k values) ≡ length values
groups_len k [] = refl
groups_len k (v ∷ vs) = ap suc (groups_len (suc k) vs)

group_low : (k : ℕ) (o : Option ℕ) → group_of (parent_before k o) ≤ k
group_low k None = omega arith
group_low k (Some p) =
    ⊎_elim
    (λ less.
    let before : p < k = ltb-true p k less in
    let is : group_of (parent_before k (Some p)) ≡ suc p = ap group_of (cond-true (nat_lt p k) (Some p) None less) in
    omega (arith, before, is))
    (λ other.
    let is : group_of (parent_before k (Some p)) ≡ 0 = ap group_of (cond-false (nat_lt p k) (Some p) None other) in
    omega (arith, is))
    (cases_Bool (nat_lt p k))

group_at_low : (k : ℕ) (values : List Built) (n : ℕ) → get_or (groups_from k values) n 0 ≤ k + n
group_at_low k [] n = omega arith
group_at_low k (v ∷ vs) zero = let low = group_low k v.parent in omega (arith, low)
group_at_low k (v ∷ vs) (suc n) = let low = group_at_low (suc k) vs n in omega (arith, low)

pub come_later : (values : List Built) → ComeLater (groups_of values)
come_later values n within = let low = group_at_low 0 values n in omega (arith, low)

same_group : (a b : Option ℕ) → is_same_parent a b ≡ eqb (group_of a) (group_of b)
same_group None None = refl
same_group None (Some b) = sym (ne_eqb 0 (suc b) (λ e. absurd (omega (arith, e))))
same_group (Some a) None = sym (ne_eqb (suc a) 0 (λ e. absurd (omega (arith, e))))
same_group (Some a) (Some b) =
    ⊎_elim
    (λ same.
    let is : a ≡ b = eqb-true a b same in
    same ∙ sym (eq-eqb (suc a) (suc b) (ap suc is)))
    (λ other. other ∙ sym (ne_eqb (suc a) (suc b) (λ e. let is : a ≡ b = omega (arith, e) in let test = eq-eqb a b is in absurd (cc))))
    (cases_Bool (eqb a b))

same_parent : (a b : Option ℕ) → is_same_parent a b ≡ true → a ≡ b
same_parent None None e = refl
same_parent None (Some b) e = absurd (cc)
same_parent (Some a) None e = absurd (cc)
same_parent (Some a) (Some b) e = ap Some (eqb-true a b e)

-- ---- lists

drop_get : {X : Type 0} (xs : List X) (k : ℕ) (x : X) (rest : List X) → drop k xs ≡ x ∷ rest → slice_get xs k ≡ Some x
drop_get [] zero x rest e = absurd (cc)
drop_get [] (suc k) x rest e = absurd (cc)
drop_get (y ∷ ys) zero x rest e = cc
drop_get (y ∷ ys) (suc k) x rest e = drop_get ys k x rest e

drop_next : {X : Type 0} (xs : List X) (k : ℕ) (x : X) (rest : List X) → drop k xs ≡ x ∷ rest → drop (suc k) xs ≡ rest
drop_next [] zero x rest e = absurd (cc)
drop_next [] (suc k) x rest e = absurd (cc)
drop_next (y ∷ ys) zero x rest e = cc
drop_next (y ∷ ys) (suc k) x rest e = drop_next ys k x rest e

pub item_found : {X : Type 0} (xs ys : List X) (i : ℕ) (x : X) → xs ≡ ys → i < length xs → x ≡ get_or xs i x → slice_get ys i ≡ Some x
item_found xs ys i x same less is = ap (λ zs. slice_get zs i) (sym same) ∙ slice_get_read xs (length xs) i x refl less is

pub group_at : (nodes : List Node) (n : ℕ) (x : Node) → slice_get nodes n ≡ Some x →
    get_or (groups_of (map built_of nodes)) n 0 ≡ group_of (parent_of n (built_of x))
group_at nodes n x is = at 0 nodes n is (omega arith)
  where
    at : (k : ℕ) (rest : List Node) (i : ℕ) → slice_get rest i ≡ Some x → n ≡ k + i →
        get_or (groups_from k (map built_of rest)) i 0 ≡ group_of (parent_of n (built_of x))
    at k [] i e same = absurd (cc)
    at k (y ∷ rest) zero e same =
        let one : y ≡ x = cc in
        let number : k ≡ n = omega (arith, same) in
        ap₂ (λ m (z : Node). group_of (parent_of m (built_of z))) number one
    at k (y ∷ rest) (suc i) e same = at (suc k) rest i e (omega (arith, same))

-- ---- the order

abbrev tree_entries : List Node → ℕ → ℕ → ℕ × Built → List Entry
tree_entries nodes levels depth child =
    record { depth = depth; name = child.1.name; plain = child.1.plain } ∷ descendants levels (map built_of nodes) (suc depth) (Some child.0)

abbrev tree_numbers : List Node → ℕ → ℕ → List ℕ
tree_numbers nodes levels n = n ∷ numbers_in levels (groups_of (map built_of nodes)) (suc n)

-- the values inside a parent are those with the numbers of its group, and likewise inside each of them
abbrev Described : List Node → ℕ → Option ℕ → Type 0
Described nodes levels parent =
    descendants levels (map built_of nodes) (depth_under nodes parent) parent
    ≡ entries_at nodes (numbers_in levels (groups_of (map built_of nodes)) (group_of parent))

tree_same : (nodes : List Node) (levels k : ℕ) (x : Node) (depth : ℕ) → slice_get nodes k ≡ Some x → x.depth ≡ depth → Described nodes levels (Some k) →
    tree_entries nodes levels depth (k, built_of x) ≡ entries_at nodes (tree_numbers nodes levels k)
tree_same nodes levels k x depth is at inside =
    let under : depth_under nodes (Some k) ≡ suc depth = ap depth_inside is ∙ ap suc at in
    ap₂ (λ (a b : List Entry). a ++ b)
    (ap (λ n. record { depth = n; name = string_bytes x.name; plain = plain_of x.value } ∷ []) (sym at) ∙ ap found_entry (sym is))
    (ap (λ n. descendants levels (map built_of nodes) n (Some k)) (sym under) ∙ inside)

each_described : (nodes : List Node) → HaveDepths nodes → (levels : ℕ) (parent : Option ℕ) → ((k : ℕ) → Described nodes levels (Some k)) →
    (k : ℕ) (rest : List Node) → drop k nodes ≡ rest →
    flat_map (tree_entries nodes levels (depth_under nodes parent)) (children_from k (map built_of rest) parent)
    ≡ entries_at nodes (flat_map (tree_numbers nodes levels) (members_from k (groups_from k (map built_of rest)) (group_of parent)))
each_described nodes deep levels parent inside k [] e = refl
each_described nodes deep levels parent inside k (x ∷ rest) e =
    let is : slice_get nodes k ≡ Some x = drop_get nodes k x rest e in
    let depth : ℕ = depth_under nodes parent in
    let children : List (ℕ × Built) = children_from (suc k) (map built_of rest) parent in
    let members : List ℕ = members_from (suc k) (groups_from (suc k) (map built_of rest)) (group_of parent) in
    let test : Bool = is_same_parent (parent_of k (built_of x)) parent in
    let group_test : Bool = eqb (group_of (parent_of k (built_of x))) (group_of parent) in
    let same : test ≡ group_test = same_group (parent_of k (built_of x)) parent in
    let next : flat_map (tree_entries nodes levels depth) children ≡ entries_at nodes (flat_map (tree_numbers nodes levels) members) =
    each_described nodes deep levels parent inside (suc k) rest (drop_next nodes k x rest e) in
    ⊎_elim
    (λ here.
    let at : x.depth ≡ depth = (deep k x is).right ∙ ap (depth_under nodes) (same_parent (parent_of k (built_of x)) parent here) in
    ap (flat_map (tree_entries nodes levels depth)) (cond-true test ((k, built_of x) ∷ children) children here)
    ∙ ap₂ (λ (a b : List Entry). a ++ b) (tree_same nodes levels k x depth is at (inside k)) next
    ∙ sym (flat_map-append (entry_at nodes) (tree_numbers nodes levels k) (flat_map (tree_numbers nodes levels) members))
    ∙ sym (ap (λ ns. entries_at nodes (flat_map (tree_numbers nodes levels) ns)) (cond-true group_test (k ∷ members) members (sym same ∙ here))))
    (λ other.
    ap (flat_map (tree_entries nodes levels depth)) (cond-false test ((k, built_of x) ∷ children) children other)
    ∙ next
    ∙ sym (ap (λ ns. entries_at nodes (flat_map (tree_numbers nodes levels) ns)) (cond-false group_test (k ∷ members) members (sym same ∙ other))))
    (cases_Bool test)

described : (nodes : List Node) → HaveDepths nodes → (levels : ℕ) (parent : Option ℕ) → Described nodes levels parent
unfolding descendants numbers_in
described nodes deep zero parent = refl
described nodes deep (suc levels) parent = each_described nodes deep levels parent (λ k. described nodes deep levels (Some k)) 0 nodes refl

pub preorder_is : (nodes : List Node) → HaveDepths nodes → entries_at nodes (preorder_numbers (map built_of nodes)) ≡ preorder (map built_of nodes)
preorder_is nodes deep =
    ap (λ n. entries_at nodes (numbers_in n (groups_of (map built_of nodes)) 0)) (groups_len 0 (map built_of nodes))
    ∙ sym (described nodes deep (length (map built_of nodes)) None)

-- all values in the order in which they were added
pub entries_all : (nodes : List Node) → entries_at nodes (range_with_len 0 (length nodes)) ≡ map entry_in nodes
entries_all nodes = each 0 nodes refl
  where
    each : (k : ℕ) (rest : List Node) → drop k nodes ≡ rest → entries_at nodes (range_with_len k (length rest)) ≡ map entry_in rest
    each k [] e = refl
    each k (x ∷ rest) e =
        ap₂ (λ (a b : List Entry). a ++ b) (ap found_entry (drop_get nodes k x rest e))
        (ap (λ n. entries_at nodes (range_with_len n (length rest))) (add-one k) ∙ each (suc k) rest (drop_next nodes k x rest e))

-- values that were added in preorder stay in this order
pub preorder_all : (nodes : List Node) → HaveDepths nodes → IsPreorder (map built_of nodes) → map entry_in nodes ≡ preorder (map built_of nodes)
preorder_all nodes deep same =
    sym (entries_all nodes) ∙ sym (ap (λ n. entries_at nodes (range_with_len 0 n)) (length-map nodes built_of)) ∙ sym (ap (entries_at nodes) same)
    ∙ preorder_is nodes deep

-- ---- one more value

pub depths_none : HaveDepths []
depths_none number node e = absurd (cc)

-- a new value inside this one is one deeper
pub depth_known : (nodes : List Node) → HaveDepths nodes → (parent : ℕ) (node : Node) → slice_get nodes parent ≡ Some node →
    (depth_under nodes (parent_before (length nodes) (Some parent)) ≡ suc node.depth) × (suc node.depth ≤ length nodes)
depth_known nodes deep parent node is =
    let less : parent < length nodes = slice_get_within nodes parent node is in
    let low = (deep parent node is).within in (
      ap (depth_under nodes) (cond-true (nat_lt parent (length nodes)) (Some parent) None (lt-ltb parent (length nodes) less)) ∙ ap depth_inside is,
      omega (arith, less, low),
    )

depth_more : (nodes : List Node) (new : Node) (k : ℕ) → k ≤ length nodes → (o : Option ℕ) →
    depth_under (nodes ++ new ∷ []) (parent_before k o) ≡ depth_under nodes (parent_before k o)
depth_more nodes new k small None = refl
depth_more nodes new k small (Some p) =
    ⊎_elim
    (λ less.
    let before : p < k = ltb-true p k less in
    let is : parent_before k (Some p) ≡ Some p = cond-true (nat_lt p k) (Some p) None less in
    ap (depth_under (nodes ++ new ∷ [])) is
    ∙ ap depth_inside (get_before nodes new p (λ e. absurd (omega (arith, e, before, small))))
    ∙ sym (ap (depth_under nodes) is))
    (λ more.
    let is : parent_before k (Some p) ≡ None = cond-false (nat_lt p k) (Some p) None more in
    ap (depth_under (nodes ++ new ∷ [])) is ∙ sym (ap (depth_under nodes) is))
    (cases_Bool (nat_lt p k))

pub depths_added : (nodes : List Node) → HaveDepths nodes → (new : Node) → new.depth ≡ depth_under nodes (parent_of (length nodes) (built_of new)) →
    new.depth ≤ length nodes → HaveDepths (nodes ++ new ∷ [])
depths_added nodes deep new right within k x is =
    ⊎_elim
    (λ here.
    let at : k ≡ length nodes = eqb-true k (length nodes) here in
    let both : Some new ≡ Some x = sym (get_last nodes new) ∙ ap (slice_get (nodes ++ new ∷ [])) (sym at) ∙ is in
    let same : new ≡ x = cc in
    subst (HasDepth (nodes ++ new ∷ []) k) same
    record {
      right =
          right
          ∙ sym (depth_more nodes new (length nodes) (omega arith) new.parent)
          ∙ ap (λ n. depth_under (nodes ++ new ∷ []) (parent_of n (built_of new))) (sym at);
      within = omega (arith, within, at);
    })
    (λ other.
    let differ : k ≡ length nodes → ⊥ = λ e. let wrong = eq-eqb k (length nodes) e in absurd (cc) in
    let old : slice_get nodes k ≡ Some x = sym (get_before nodes new k differ) ∙ is in
    let less : k < length nodes = slice_get_within nodes k x old in
    record {
      right = (deep k x old).right ∙ sym (depth_more nodes new k (omega (arith, less)) x.parent);
      within = (deep k x old).within;
    })
    (cases_Bool (eqb k (length nodes)))

-- ---- taking values out

-- taking a value does not change the others
entries_other : (nodes later : List Node) (n : ℕ) (ns : List ℕ) → ((k : ℕ) → (n ≡ k → ⊥) → slice_get later k ≡ slice_get nodes k) → IsNoneOf n ns →
    entries_at later ns ≡ entries_at nodes ns
entries_other nodes later n [] same none = refl
entries_other nodes later n (k ∷ ns) same none =
    ap₂ (λ (a b : List Entry). a ++ b) (ap found_entry (same k none.0)) (entries_other nodes later n ns same none.1)

-- taking one more value
pub one_taken : (order : List ℕ) (i : ℕ) → i < length order → (nodes later : List Node) (items more : List Item) (taken : Option Item) →
    (all : List Entry) → map entry_of (option_to_list taken) ≡ entry_at nodes (get_or order i 0) →
    ((k : ℕ) → (get_or order i 0 ≡ k → ⊥) → slice_get later k ≡ slice_get nodes k) →
    more ≡ items ++ option_to_list taken →
    map entry_of items ++ entries_at nodes (drop i order) ≡ all → AreDistinct (drop i order) →
    (map entry_of more ++ entries_at later (drop (i + 1) order) ≡ all) × AreDistinct (drop (i + 1) order)
one_taken order i less nodes later items more taken all is others longer before distinct =
    let n : ℕ = get_or order i 0 in
    let rest : List ℕ = drop (i + 1) order in
    let so_far : List Entry = map entry_of items in
    let split : drop i order ≡ n ∷ rest = drop_more order i 0 less in
    let apart : AreDistinct (n ∷ rest) = subst AreDistinct split distinct in (
      ap (λ (xs : List Item). map entry_of xs ++ entries_at later rest) longer
          ∙ ap (λ (es : List Entry). es ++ entries_at later rest)
          (map-append entry_of items (option_to_list taken) ∙ ap (λ (es : List Entry). so_far ++ es) is)
          ∙ ap (λ (es : List Entry). (so_far ++ entry_at nodes n) ++ es) (entries_other nodes later n rest others apart.0)
          ∙ append_assoc so_far (entry_at nodes n) (entries_at nodes rest)
          ∙ ap (λ ns. so_far ++ entries_at nodes ns) (sym split)
          ∙ before,
      apart.1,
    )
